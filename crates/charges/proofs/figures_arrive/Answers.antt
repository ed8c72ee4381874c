use Rattle.charges.proofs.Laws.{figures_arrive}
use Rattle.charges.proofs.figures_arrive.Goals as goal

pub returns : goal.returns
returns c = figures_arrive
