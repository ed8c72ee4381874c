use Rattle.std.proofs.Common.{◌≡◌, length, None}
use Rattle.questions.specs.Questions.{in_turn}
use Rattle.yearbook.proofs.Posting.{coordinator_question}
use Rattle.yearbook.proofs.lines.check_coordinators.Given as goal

abbrev pub invariant-loop-place : goal.invariant-loop-place
invariant-loop-place l = in_turn (length l.yielded) (coordinator_question l.count l.fn.sheet.bytes.now) ≡ None
