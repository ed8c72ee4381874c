use Rattle.journal.proofs.Kept.{continued}
use Rattle.journal.proofs.kept_year.enter.Goals as goal

pub returns : goal.returns
returns g c = record { taken = c.call.ensures.called; unaltered = c.call.ensures.unaltered; law = continued _ _ _ c.call.ensures.called.left }
