use Rattle.year.proofs.Consequences.{consequences}
use Rattle.year.proofs.consequences_hold.Goals as goal

pub returns : goal.returns
returns c = consequences
