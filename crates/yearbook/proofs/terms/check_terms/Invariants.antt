use Rattle.std.proofs.Common.{◌≡◌, length, None}
use Rattle.questions.specs.Questions.{in_turn}
use Rattle.year.specs.Terms.{coordinator_refusal, terms_of}
use Rattle.yearbook.proofs.terms.check_terms.Given as goal

abbrev pub invariant-loop-coordinator : goal.invariant-loop-coordinator
invariant-loop-coordinator l = in_turn (length l.yielded) (coordinator_refusal (terms_of l.fn.terms.demands.now l.fn.terms.flags.now)) ≡ None
