use Rattle.std.proofs.Common.{◌+◌, ◌≤◌, mul-le-mul_left, arith}
use Rattle.year.proofs.Spread.{quotient_mono}
use Rattle.year.proofs.shares.Spreading.share.Goals as goal

pub overflow_sub-share : goal.overflow_sub-share
overflow_sub-share c =
    let s = c.args.self.now in
    let l : s.sum ≤ s.sum + c.from.result = omega arith in
    rw (s.floor, c.carried_by-carried.ensures) (quotient_mono _ _ s.whole (mul-le-mul_left s.amount l))
