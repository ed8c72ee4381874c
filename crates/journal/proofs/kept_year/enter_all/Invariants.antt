use Rattle.yearbook.specs.View.{book_of}
use Rattle.journal.specs.Entries.{call_of}
use Rattle.journal.proofs.Turns.{Taking}
use Rattle.journal.proofs.kept_year.enter_all.Given as goal

abbrev pub invariant-loop-place : goal.invariant-loop-place
invariant-loop-place g l = Taking (call_of g.R.ChargeRule.code g.R.ChargeRule.quantity) (book_of l.initial.book) l.entries l.initial.answers (book_of l.book) l.answers l.place
