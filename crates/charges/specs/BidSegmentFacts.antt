-- Bid Segment: what the laws of its figures and of its charge rest on.
use Rattle.std.specs.Prelude.{◌≡◌, ℕ, ◌+◌, ◌*◌, ◌≤◌, Bool, cond, not, ◌&&◌, List, [], ◌∷◌, length, fold, ◌==◌, nat_le, refl}
use Rattle.std.proofs.Common.{arith, ap, ap₂, sym, subst, ◌∙◌}
use Rattle.sheet.specs.declared.row.Row.{Row}
use Rattle.charges.specs.declared.bid_segment.HourBids.{HourBids}
use Rattle.charges.specs.declared.bid_segment.DayBids.{DayBids}
use Rattle.charges.specs.declared.group.ByHour.{ByHour}
use Rattle.charges.specs.Rules.{Bounded}
use Rattle.charges.specs.Charges.{only, from_to, nonzero, count, segments, hour_segments, bid_segment}
use Rattle.charges.specs.Running.{run, counting_rows, hour_by_hour, bid_figures, segment_figures, FiguresBounded}
use Rattle.charges.specs.Runs.{counted}
use Rattle.charges.specs.SumsLemmas.{ones, passing, over_le, over_ones}
use Rattle.charges.specs.Sizes.{Under, size, count_low, count_under, both_under, groups_under}
use Rattle.charges.specs.Splits.{group_bounded}

-- ---- an hour's bids

pub hour_parts : (a : HourBids) (rs : List Row) → fold bid_figures.add a rs ≡ record {
  bids = fold (counting_rows (nonzero (only 30))).add a.bids rs;
  schedules = fold (counting_rows (nonzero (only 31))).add a.schedules rs;
  real_time_bids = fold (counting_rows (nonzero (only 32))).add a.real_time_bids rs;
  real_time_schedules = fold (counting_rows (nonzero (only 33))).add a.real_time_schedules rs;
}
hour_parts a [] = refl
hour_parts a (r ∷ rs) = hour_parts (bid_figures.add a r) rs

pub bid_run : (rs : List Row) → run bid_figures rs ≡ hour_segments rs
bid_run rs = ap bid_figures.total (hour_parts bid_figures.start rs)
    ∙ ap₂ ◌+◌ (ap₂ segments (counted (nonzero (only 30)) rs) (counted (nonzero (only 31)) rs)) (ap₂ segments (counted (nonzero (only 32)) rs) (counted (nonzero (only 33)) rs))

pub segments_le : (bids schedules : ℕ) → segments bids schedules ≤ bids + schedules
unfolding segments
segments_le bids schedules = grind arith

pub bid_figures_bounded : FiguresBounded bid_figures 4
bid_figures_bounded rs h =
    omega (
      arith,
      bid_run rs,
      segments_le (count (nonzero (only 30)) rs) (count (nonzero (only 31)) rs),
      segments_le (count (nonzero (only 32)) rs) (count (nonzero (only 33)) rs),
      count_low (nonzero (only 30)) rs,
      count_low (nonzero (only 31)) rs,
      count_low (nonzero (only 32)) rs,
      count_low (nonzero (only 33)) rs,
    )

-- ---- the day's bids

pub day_parts : (a : DayBids) (rs : List Row) → fold segment_figures.add a rs ≡ record {
  hours = fold (hour_by_hour bid_figures).add a.hours rs;
  other_bids = fold (counting_rows (nonzero (from_to 34 35))).add a.other_bids rs;
}
day_parts a [] = refl
day_parts a (r ∷ rs) = day_parts (segment_figures.add a r) rs

pub segment_figures_bounded : FiguresBounded segment_figures 5
segment_figures_bounded rs h =
    let e = ap segment_figures.total (day_parts segment_figures.start rs) in
    let a = group_bounded ByHour bid_figures 4 bid_figures_bounded (λ r. r.key.hour) 1 rs h in
    let b = count_low (nonzero (from_to 34 35)) rs in
    let s = counted (nonzero (from_to 34 35)) rs in
    subst (λ x. x ≤ 5 * length rs) (sym e) (both (run (hour_by_hour bid_figures) rs) (run (counting_rows (nonzero (from_to 34 35))) rs) (count (nonzero (from_to 34 35)) rs) (length rs) a s b)
  where
    both : (x y z n : ℕ) → x ≤ 4 * n → y ≡ z → z ≤ n → x + y ≤ 5 * n
    both x y z n a e b = omega arith

-- ---- the charge

hour_segments_under : Under hour_segments (λ r. (passing (nonzero (only 30)) ones r + passing (nonzero (only 31)) ones r) + (passing (nonzero (only 32)) ones r + passing (nonzero (only 33)) ones r))
hour_segments_under rs =
    let a = both_under _ _ _ _ (both_under _ _ _ _ (count_under (nonzero (only 30))) (count_under (nonzero (only 31)))) (both_under _ _ _ _ (count_under (nonzero (only 32))) (count_under (nonzero (only 33)))) rs in
    omega (arith, segments_le (count (nonzero (only 30)) rs) (count (nonzero (only 31)) rs), segments_le (count (nonzero (only 32)) rs) (count (nonzero (only 33)) rs))

-- a row is of one kind alone
kinds_apart : (kind : ℕ) (b : Bool) → ((cond (kind == 30 && b) 1 0 + cond (kind == 31 && b) 1 0) + (cond (kind == 32 && b) 1 0 + cond (kind == 33 && b) 1 0)) + cond ((nat_le 34 kind && nat_le kind 35) && b) 1 0 ≤ 1
kinds_apart kind b = grind arith

pub segment_bounded : Bounded bid_segment
unfolding bid_segment ones
segment_bounded coordinator resource rs h =
    let a = both_under _ _ _ _ (groups_under (λ r. r.key.hour) 1 25 hour_segments _ hour_segments_under) (count_under (nonzero (from_to 34 35))) rs in
    let b = over_le _ ones (λ r. kinds_apart r.key.kind (not (size r == 0))) rs in
    omega (arith, over_ones rs)
