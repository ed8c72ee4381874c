use Rattle.std.proofs.Common.{rules}
use Rattle.charges.specs.Charges.{segments}
use Rattle.charges.proofs.bid_segment.segment_count.Goals as goal

pub returns-then-schedules-eq0 : goal.returns-then-schedules-eq0
unfolding segments
returns-then-schedules-eq0 c = search rules

pub returns-else-schedules-eq0 : goal.returns-else-schedules-eq0
unfolding segments
returns-else-schedules-eq0 c = search rules
