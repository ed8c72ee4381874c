use Rattle.yearbook.specs.Coordinators.{market_raised}
use Rattle.yearbook.proofs.Raised.{Raising}
use Rattle.yearbook.proofs.lines.Lines.add_to.Given as goal

abbrev pub invariant-loop-place : goal.invariant-loop-place
invariant-loop-place l = Raising market_raised l.initial.list l.self.cents.items l.list l.place
