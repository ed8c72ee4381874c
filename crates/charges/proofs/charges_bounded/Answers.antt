use Rattle.charges.proofs.Laws.{charges_bounded}
use Rattle.charges.proofs.charges_bounded.Goals as goal

pub returns : goal.returns
returns c = charges_bounded
