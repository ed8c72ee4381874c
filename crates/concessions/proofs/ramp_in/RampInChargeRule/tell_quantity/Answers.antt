use Rattle.std.proofs.Common.{◌-◌, ◌≤◌, mul-le-mul_left, arith}
use Rattle.sheet.proofs.Pairs.{pair_accepted, pair_few}
use Rattle.concessions.proofs.ramp_in.RampInChargeRule.tell_quantity.Goals as goal

pub overflow_mul-result : goal.overflow_mul-result
overflow_mul-result g c =
    let sheet = c.args.sheet in
    let coordinator = c.args.pair.coordinator in
    let resource = c.args.pair.resource in
    let low = g.met.R.ChargeRule.bounded c.args.self.now.below coordinator resource _ (pair_accepted sheet.bytes.now sheet.accepted coordinator resource) in
    let few = pair_few sheet.bytes.now sheet.accepted coordinator resource in
    let rest : 100 - c.from.result ≤ 100 = omega arith in
    omega (arith, c.tell_quantity-whole.ensures, mul-le-mul_left c.tell_quantity-whole.result rest)
