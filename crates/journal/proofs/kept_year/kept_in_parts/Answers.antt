use Rattle.journal.proofs.Kept.{kept_in_parts}
use Rattle.journal.proofs.kept_year.kept_in_parts.Goals as goal

pub returns : goal.returns
returns c = kept_in_parts
