use Rattle.sheet.proofs.FirstNo.{first_asked_no_decides}
use Rattle.sheet.proofs.check.first_asked_no_decides.Goals as goal

pub returns : goal.returns
returns c = first_asked_no_decides
