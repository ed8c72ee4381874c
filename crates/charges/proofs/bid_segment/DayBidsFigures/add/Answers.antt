use Rattle.std.proofs.Common.{rules}
use Rattle.charges.proofs.BidSegmentFacts.{hours_reached, other_bids_low}
use Rattle.charges.proofs.bid_segment.DayBidsFigures.add.Goals as goal

pub add-requires-clause-reached : goal.add-requires-clause-reached
add-requires-clause-reached c = hours_reached 2047 c.args.self.now c.requires.reached

pub overflow_add-self : goal.overflow_add-self
overflow_add-self c = let b = other_bids_low 2047 c.args.self.now c.requires.reached in search rules
