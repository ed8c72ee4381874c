-- System Operations: its running figures arrive, and how large they are.
use Rattle.std.specs.Prelude.{◌≡◌, ℕ, ◌*◌, ◌≤◌, List, ◌+ℤ◌, FitsSigned, unsigned_abs, refl}
use Rattle.std.proofs.Common.{ℤ, arith, ap, sym, ◌∙◌, to_z, of_z}
use Rattle.std.specs.Int.{w64}
use Rattle.std.specs.List.{AllByRecursion}
use Rattle.sheet.specs.Rows.{PartIsByte}
use Rattle.sheet.specs.declared.row.Row.{Row}
use Rattle.sheet.specs.Sheets.{OfPair, PairRows, Passes}
use Rattle.charges.specs.declared.system_operations.Meter.{Meter}
use Rattle.charges.specs.declared.group.ByHour.{ByHour}
use Rattle.charges.specs.declared.group.ByInterval.{ByInterval}
use Rattle.charges.specs.declared.group.ByPart.{ByPart}
use Rattle.charges.specs.Charges.{only, by_interval, by_part, metered_less_balance, system_operations}
use Rattle.charges.specs.Running.{run, Reached, netting, interval_by_interval, part_by_part, meter_figures, system_figures, FiguresBounded}
use Rattle.charges.proofs.Order.{parts_in_order}
use Rattle.charges.proofs.Runs.{by_hour_run, by_interval_run, by_part_run}
use Rattle.charges.proofs.Reached.{widened, reached_part, net_reached, added, added_fits, added_is}
use Rattle.charges.specs.Splits.{group_bounded}
use Rattle.charges.specs.SystemOperationsFacts.{parts, meter_run, meter_figures_bounded}

module _ (n : ℕ) (a : Meter) (h : Reached meter_figures n a) where
  pub metered_low : unsigned_abs a.metered ≤ 4000000 * n
  metered_low = net_reached (only 20) n a.metered (reached_part meter_figures (netting (only 20)) n a (λ z. z.metered) (λ rs. ap (λ z. z.metered) (parts meter_figures.start rs)) h)

  pub balance_low : unsigned_abs a.balance ≤ 4000000 * n
  balance_low = net_reached (only 8) n a.balance (reached_part meter_figures (netting (only 8)) n a (λ z. z.balance) (λ rs. ap (λ z. z.balance) (parts meter_figures.start rs)) h)

at_20 : (a : Meter) (r : Row) → r.key.kind ≡ 20 → meter_figures.add a r ≡ record { metered = a.metered +ℤ r.quantity; balance = a.balance }
at_20 a r e = rw e

at_8 : (a : Meter) (r : Row) → r.key.kind ≡ 8 → meter_figures.add a r ≡ record { metered = a.metered; balance = a.balance +ℤ r.quantity }
at_8 a r e = rw e

-- after one row more, as the code adds it
module _ (a : Meter) (r : Row) (h : Reached meter_figures 2047 a) (k : Passes r) (x : ℤ) (is : x ≡ widened r.quantity) where
  pub metered_fits : FitsSigned w64 (added a.metered x)
  metered_fits = added_fits a.metered r (omega (arith, metered_low 2047 a h)) k x is

  pub balance_fits : FitsSigned w64 (added a.balance x)
  balance_fits = added_fits a.balance r (omega (arith, balance_low 2047 a h)) k x is

  pub metered_more : r.key.kind ≡ 20 → record { metered = to_z w64 (of_z w64 (added a.metered x)); balance = a.balance } ≡ meter_figures.add a r
  metered_more e = ap (λ z. record { metered = z; balance = a.balance }) (added_is a.metered r (omega (arith, metered_low 2047 a h)) k x is) ∙ sym (at_20 a r e)

  pub balance_more : r.key.kind ≡ 8 → record { metered = a.metered; balance = to_z w64 (of_z w64 (added a.balance x)) } ≡ meter_figures.add a r
  balance_more e = ap (λ z. record { metered = a.metered; balance = z }) (added_is a.balance r (omega (arith, balance_low 2047 a h)) k x is) ∙ sym (at_8 a r e)

pub system_arrives : (coordinator resource : ℕ) (rs : List Row) → PairRows coordinator resource rs → AllByRecursion PartIsByte rs → 100 * run system_figures rs ≡ system_operations coordinator resource rs
unfolding system_operations
system_arrives coordinator resource rs p b =
    let P : Row → Type 0 = λ r. OfPair coordinator resource r × PartIsByte r in
    let passes : (r : Row) → P r → Passes r = λ r w. w.0.passes in
    ap (λ x. 100 * x)
    (by_hour_run P passes (interval_by_interval (part_by_part meter_figures)) (λ hour. by_interval hour (λ interval. by_part interval metered_less_balance)) refl
    (by_interval_run P passes (part_by_part meter_figures) (λ interval. by_part interval metered_less_balance) refl
    (by_part_run P passes meter_figures metered_less_balance refl (λ r w. w.1) meter_run)) rs (parts_in_order coordinator resource rs p b))

pub system_figures_bounded : FiguresBounded system_figures 8000000
system_figures_bounded =
    group_bounded ByHour (interval_by_interval (part_by_part meter_figures)) 8000000
    (group_bounded ByInterval (part_by_part meter_figures) 8000000 (group_bounded ByPart meter_figures 8000000 meter_figures_bounded (λ r. r.key.part) 0) (λ r. r.key.interval) 0)
    (λ r. r.key.hour) 1
