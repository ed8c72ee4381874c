use Rattle.std.proofs.Common.{rules}
use Rattle.charges.proofs.BidSegmentFacts.{hours_reached, hours_low, other_bids_low}
use Rattle.charges.proofs.bid_segment.DayBidsFigures.total.Goals as goal

pub total-requires : goal.total-requires
total-requires c = hours_reached 2048 c.args.self.now c.requires

pub overflow_add-result : goal.overflow_add-result
overflow_add-result c =
    let a = hours_low 2048 c.args.self.now c.requires in
    let b = other_bids_low 2048 c.args.self.now c.requires in
    search rules
