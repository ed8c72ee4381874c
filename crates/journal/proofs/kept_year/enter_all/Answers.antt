use Rattle.std.proofs.Common.{arith}
use Rattle.yearbook.specs.View.{book_of}
use Rattle.journal.specs.Entries.{call_of}
use Rattle.journal.proofs.Kept.{continued}
use Rattle.journal.proofs.Turns.{taking_none, taking_written, taking_past, taking_all}
use Rattle.journal.proofs.kept_year.enter_all.Goals as goal
use Rattle.journal.proofs.kept_year.enter_all.Goals.{then-place-answers, else-place-answers}

pub loop-place-init : goal.loop-place-init
loop-place-init g c = taking_none (call_of g.R.ChargeRule.code g.R.ChargeRule.quantity) (book_of c.args.book.now) c.args.entries.now c.args.answers.now

pub loop-place-preserved : goal.loop-place-preserved
loop-place-preserved g c =
    let call = call_of g.R.ChargeRule.code g.R.ChargeRule.quantity in
    elim c.if-place-answers.branch [
      | then-place-answers w ↦ rw w.answers-is
          (taking_written call (book_of c.args.book.now) c.args.entries.now c.args.answers.now _ _ _ c.loop-place.place c.index-entries-place.result _
          (omega arith) c.index-entries-place.is c.loop-place.invariant c.enter-answer.ensures.taken)
      | else-place-answers w ↦ rw w.answers-is
          (taking_past call (book_of c.args.book.now) c.args.entries.now c.args.answers.now _ _ _ c.loop-place.place c.index-entries-place.result _
          (omega arith) c.index-entries-place.is c.loop-place.invariant c.enter-answer.ensures.taken w.if-place-answers.false)
    ]

pub returns : goal.returns
returns g c =
    let t = taking_all (call_of g.R.ChargeRule.code g.R.ChargeRule.quantity) (book_of c.args.book.now) c.args.entries.now c.args.answers.now (book_of c.loop-place.book) c.loop-place.answers c.loop-place.place (omega arith) c.loop-place.invariant in
    record { left = t.0; answered = t.1; law = continued _ _ _ t.0 }
