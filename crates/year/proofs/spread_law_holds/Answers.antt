use Rattle.year.proofs.Spread.{spread_law}
use Rattle.year.proofs.spread_law_holds.Goals as goal

pub returns : goal.returns
returns c = spread_law
