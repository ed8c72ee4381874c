use Rattle.std.proofs.Common.{◌+◌, ◌*◌, refl, arith}
use Rattle.sheet.proofs.Accepted.{two_bytes}
use Rattle.sheet.proofs.Turns.{parts_all}
use Rattle.sheet.proofs.sheet.Sheet.accepted.Goals as goal

pub bounds-bytes-0 : goal.bounds-bytes-0
bounds-bytes-0 c = omega (arith, two_bytes c.args.bytes.now c.requires)

pub bounds-bytes-1 : goal.bounds-bytes-1
bounds-bytes-1 c = omega (arith, two_bytes c.args.bytes.now c.requires)

-- a part is one of the bytes
pub invariant_of-result-clause-parts : goal.invariant_of-result-clause-parts
invariant_of-result-clause-parts c =
    let bytes = c.args.bytes.now in
    parts_all bytes _ refl (λ n l. let fits = (c.type_inv.bytes (2 + 6 * n + 4)).fits in omega arith)
