use Rattle.year.specs.Plus.{plus}
use Rattle.year.specs.Rc.{minimums}
use Rattle.year.specs.Spread.{spread}
use Rattle.year.proofs.Spread.{Underway}
use Rattle.yearbook.specs.Coordinators.{demands, rc_raised, terms_in}
use Rattle.yearbook.proofs.Raised.{Raising}
use Rattle.yearbook.proofs.coordinators.Coordinators.charge_each.Given as goal

abbrev pub invariant-loop-coordinator : goal.invariant-loop-coordinator
invariant-loop-coordinator l = record {
  raising : Raising rc_raised l.initial.coordinators (plus (minimums (terms_in l.initial.coordinators) l.minimum) (spread l.rest (demands l.initial.coordinators))) l.coordinators l.coordinator-index;
  way : Underway l.rest (demands l.initial.coordinators) l.coordinator-index l.shares.amount l.shares.whole l.shares.sum;
}
