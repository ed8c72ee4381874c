use Rattle.concessions.proofs.Examples.{examples_hold}
use Rattle.concessions.proofs.examples_hold.Goals as goal

pub returns : goal.returns
returns c = examples_hold
