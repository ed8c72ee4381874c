use Rattle.std.proofs.Common.{◌≡◌, length, get_or, pos, ◌+ℤ◌, None}
use Rattle.questions.specs.Questions.{in_turn}
use Rattle.year.specs.Market.{balance_refusal}
use Rattle.yearbook.specs.Coordinators.{nobody}
use Rattle.yearbook.proofs.lines.Lines.check_balances.Given as goal

abbrev pub invariant-loop-place : goal.invariant-loop-place
invariant-loop-place l = in_turn (length l.yielded) (λ k. balance_refusal k ((get_or l.coordinators.list.items k nobody).market +ℤ pos (get_or l.self.cents.items k 0))) ≡ None
