use Rattle.std.proofs.Common.{rules}
use Rattle.charges.specs.BidSegmentFacts.{segments_le}
use Rattle.charges.proofs.BidSegmentFacts.{bids_low}
use Rattle.charges.proofs.bid_segment.HourBidsFigures.total.Goals as goal

pub segment_count-requires : goal.segment_count-requires
segment_count-requires c = let b = bids_low 2048 c.args.self.now c.requires in (b.0, b.1)

pub segment_count-requires-2 : goal.segment_count-requires-2
segment_count-requires-2 c = let b = bids_low 2048 c.args.self.now c.requires in (b.2, b.3)

pub overflow_add-result : goal.overflow_add-result
overflow_add-result c =
    let b = bids_low 2048 c.args.self.now c.requires in
    let x = segments_le c.args.self.now.bids c.args.self.now.schedules in
    let y = segments_le c.args.self.now.real_time_bids c.args.self.now.real_time_schedules in
    search rules
