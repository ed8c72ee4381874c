use Rattle.year.proofs.Examples.{examples}
use Rattle.year.proofs.examples_hold.Goals as goal

pub returns : goal.returns
returns c = examples
