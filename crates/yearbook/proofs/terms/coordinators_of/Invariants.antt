use Rattle.std.proofs.Common.{length}
use Rattle.year.specs.Terms.{terms_of}
use Rattle.yearbook.proofs.Opening.{Taking}
use Rattle.yearbook.proofs.terms.coordinators_of.Given as goal

abbrev pub invariant-loop-demand : goal.invariant-loop-demand
invariant-loop-demand l = Taking (terms_of l.fn.terms.demands.now l.fn.terms.flags.now) l.list.items (length l.yielded)
