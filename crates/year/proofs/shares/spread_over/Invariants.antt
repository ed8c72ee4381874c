use Rattle.std.proofs.Common.{◌≡◌, ℕ, ◌<◌, get_or}
use Rattle.year.specs.Spread.{spread}
use Rattle.year.proofs.Spread.{Underway}
use Rattle.year.proofs.shares.spread_over.Given as goal

abbrev pub invariant-loop-place : goal.invariant-loop-place
invariant-loop-place l = record {
  way : Underway l.amount l.demands l.place l.spreading.amount l.spreading.whole l.spreading.sum;
  given : (k : ℕ) → k < l.place → get_or l.shares k 0 ≡ get_or (spread l.amount l.demands) k 0;
}
