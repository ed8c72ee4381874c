use mathlib.Core.Logic.{∥∥₁_map}
use Rattle.year.specs.Terms.{terms_of}
use Rattle.journal.proofs.Kept.{any_opening}
use Rattle.journal.proofs.kept_book.KeptBook.open.Goals as goal

pub invariant_of-self : goal.invariant_of-self
invariant_of-self c = record { law = ∥∥₁_map c.args.self.now.law (any_opening (terms_of c.args.terms.demands.now c.args.terms.flags.now) _ _ c.open_year.ensures.law) }
