use Rattle.std.proofs.Common.{◌≡◌, ◌*◌, ◌≤◌, take, nat_abs}
use Rattle.charges.specs.Sums.{total, total_z}
use Rattle.yearbook.specs.Coordinators.{markets, rcs}
use Rattle.yearbook.proofs.book.YearBook.totals.Given as goal

abbrev pub invariant-loop-coordinator : goal.invariant-loop-coordinator
invariant-loop-coordinator l = record {
  market_is : l.market ≡ total_z (take l.coordinator-index (markets l.self.coordinators.list.items));
  market_low : nat_abs l.market ≤ 1000000000000000 * l.coordinator-index;
  rc_is : l.rc ≡ total (take l.coordinator-index (rcs l.self.coordinators.list.items));
}
