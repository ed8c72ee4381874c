use Rattle.year.proofs.Year.{year_law}
use Rattle.year.proofs.year_law_holds.Goals as goal

pub returns : goal.returns
returns c = year_law
