use Rattle.std.proofs.Common.{rules}
use Rattle.charges.proofs.BidSegmentFacts.{bids_low}
use Rattle.charges.proofs.bid_segment.HourBidsFigures.add.Goals as goal

pub overflow_add-self : goal.overflow_add-self
overflow_add-self c = let b = bids_low 2047 c.args.self.now c.requires.reached in search rules

pub overflow_add-self-in-DayAheadSchedule : goal.overflow_add-self-in-DayAheadSchedule
overflow_add-self-in-DayAheadSchedule c = let b = bids_low 2047 c.args.self.now c.requires.reached in search rules

pub overflow_add-self-in-RealTimeBid : goal.overflow_add-self-in-RealTimeBid
overflow_add-self-in-RealTimeBid c = let b = bids_low 2047 c.args.self.now c.requires.reached in search rules

pub overflow_add-self-in-RealTimeSchedule : goal.overflow_add-self-in-RealTimeSchedule
overflow_add-self-in-RealTimeSchedule c = let b = bids_low 2047 c.args.self.now c.requires.reached in search rules
