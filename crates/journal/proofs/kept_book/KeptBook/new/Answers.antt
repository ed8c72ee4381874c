use Rattle.journal.proofs.Kept.{any_new}
use Rattle.journal.proofs.kept_book.KeptBook.new.Goals as goal

pub invariant_of-result : goal.invariant_of-result
invariant_of-result c = record { law = ∣ any_new _ c.new.ensures ∣₁ }
