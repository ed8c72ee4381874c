use Rattle.year.specs.Rc.{carrier_weights}
use Rattle.year.specs.Spread.{spread}
use Rattle.year.proofs.Spread.{Underway}
use Rattle.yearbook.specs.Coordinators.{rc_raised, terms_in}
use Rattle.yearbook.proofs.Raised.{Raising}
use Rattle.yearbook.proofs.coordinators.Coordinators.carry.Given as goal

abbrev pub invariant-loop-place : goal.invariant-loop-place
invariant-loop-place l = record {
  raising : Raising rc_raised l.initial.coordinators (spread l.unpaid (carrier_weights (terms_in l.initial.coordinators) l.debtor)) l.coordinators l.place;
  way : Underway l.unpaid (carrier_weights (terms_in l.initial.coordinators) l.debtor) l.place l.shares.amount l.shares.whole l.shares.sum;
}
