use Rattle.charges.proofs.Examples.{examples_hold}
use Rattle.charges.proofs.examples_hold.Goals as goal

pub returns : goal.returns
returns c = examples_hold
