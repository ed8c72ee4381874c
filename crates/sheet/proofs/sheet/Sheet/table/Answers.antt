use Rattle.std.proofs.Common.{arith}
use Rattle.sheet.proofs.Accepted.{measured}
use Rattle.sheet.proofs.sheet.Sheet.table.Goals as goal

pub invariant_of-result : goal.invariant_of-result
invariant_of-result c =
    let s = c.args.self.now in
    let long = measured s.bytes.now s.accepted in
    record { counted = s.counted; measured = omega arith }
