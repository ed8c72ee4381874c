-- Bid Segment: its running figures arrive, and how large they are.
use Rattle.std.specs.Prelude.{◌≡◌, ℕ, ◌+◌, ◌*◌, ◌≤◌, List, fold, refl}
use Rattle.std.proofs.Common.{ap, ap₂, ◌∙◌}
use Rattle.sheet.specs.declared.row.Row.{Row}
use Rattle.sheet.specs.Sheets.{OfPair, PairRows}
use Rattle.charges.specs.declared.bid_segment.HourBids.{HourBids}
use Rattle.charges.specs.declared.bid_segment.DayBids.{DayBids}
use Rattle.charges.specs.declared.group.ByHour.{ByHour}
use Rattle.charges.specs.Charges.{only, from_to, nonzero, segments, hour_segments, bid_segment}
use Rattle.charges.specs.Running.{run, Reached, counting_rows, hour_by_hour, bid_figures, segment_figures}
use Rattle.charges.proofs.Order.{pair_in_order}
use Rattle.charges.specs.Runs.{counted}
use Rattle.charges.proofs.Runs.{by_hour_run}
use Rattle.charges.proofs.Reached.{reached_low, reached_part, count_reached}
use Rattle.charges.specs.Splits.{group_bounded}
use Rattle.charges.specs.BidSegmentFacts.{hour_parts, bid_run, bid_figures_bounded, day_parts}

no_segments : bid_figures.total bid_figures.start ≡ 0
unfolding segments
no_segments = refl

module _ (n : ℕ) (a : HourBids) (h : Reached bid_figures n a) where
  one : (kind : ℕ) (part : HourBids → ℕ) → ((rs : List Row) → part (fold bid_figures.add bid_figures.start rs) ≡ fold (counting_rows (nonzero (only kind))).add 0 rs) → part a ≤ n
  one kind part e = count_reached (nonzero (only kind)) n (part a) (reached_part bid_figures (counting_rows (nonzero (only kind))) n a part e h)

  pub bids_low : (a.bids ≤ n) × (a.schedules ≤ n) × (a.real_time_bids ≤ n) × (a.real_time_schedules ≤ n)
  bids_low = (
    one 30 (λ z. z.bids) (λ rs. ap (λ z. z.bids) (hour_parts bid_figures.start rs)),
    one 31 (λ z. z.schedules) (λ rs. ap (λ z. z.schedules) (hour_parts bid_figures.start rs)),
    one 32 (λ z. z.real_time_bids) (λ rs. ap (λ z. z.real_time_bids) (hour_parts bid_figures.start rs)),
    one 33 (λ z. z.real_time_schedules) (λ rs. ap (λ z. z.real_time_schedules) (hour_parts bid_figures.start rs)),
  )

pub segment_arrives : (coordinator resource : ℕ) (rs : List Row) → PairRows coordinator resource rs → 100000 * run segment_figures rs ≡ bid_segment coordinator resource rs
unfolding bid_segment
segment_arrives coordinator resource rs p = ap (λ x. 100000 * x)
    (ap segment_figures.total (day_parts segment_figures.start rs)
    ∙ ap₂ ◌+◌
    (by_hour_run (OfPair coordinator resource) (λ r w. w.passes) bid_figures hour_segments no_segments (λ l _. bid_run l) rs (pair_in_order coordinator resource rs p))
    (counted (nonzero (from_to 34 35)) rs))

module _ (n : ℕ) (a : DayBids) (h : Reached segment_figures n a) where
  pub hours_reached : Reached (hour_by_hour bid_figures) n a.hours
  hours_reached = reached_part segment_figures (hour_by_hour bid_figures) n a (λ z. z.hours) (λ rs. ap (λ z. z.hours) (day_parts segment_figures.start rs)) h

  pub other_bids_low : a.other_bids ≤ n
  other_bids_low = count_reached (nonzero (from_to 34 35)) n a.other_bids (reached_part segment_figures (counting_rows (nonzero (from_to 34 35))) n a (λ z. z.other_bids) (λ rs. ap (λ z. z.other_bids) (day_parts segment_figures.start rs)) h)

  pub hours_low : (hour_by_hour bid_figures).total a.hours ≤ 4 * n
  hours_low = reached_low (hour_by_hour bid_figures) 4 n a.hours (group_bounded ByHour bid_figures 4 bid_figures_bounded (λ r. r.key.hour) 1) hours_reached
