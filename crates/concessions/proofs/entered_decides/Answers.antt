use Rattle.concessions.proofs.Decides.{entered_decides}
use Rattle.concessions.proofs.entered_decides.Goals as goal

pub returns : goal.returns
returns c = entered_decides
