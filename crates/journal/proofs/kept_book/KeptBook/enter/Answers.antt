use mathlib.Core.Logic.{∥∥₁_map}
use Rattle.journal.specs.Entries.{call_of}
use Rattle.journal.proofs.Kept.{any_more}
use Rattle.journal.proofs.kept_book.KeptBook.enter.Goals as goal

pub invariant_of-self : goal.invariant_of-self
invariant_of-self g c =
    let call = call_of g.R.ChargeRule.code g.R.ChargeRule.quantity c.args.entry.now in
    record { law = ∥∥₁_map c.args.self.now.law (any_more _ _ call c.enter.ensures.taken.left) }
