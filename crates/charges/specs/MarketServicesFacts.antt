-- Market Services: what the laws of its figures and of its charge rest on.
use Rattle.std.specs.Prelude.{◌≡◌, ℕ, ◌+◌, ◌-◌, ◌*◌, ◌≤◌, cond, ◌&&◌, List, [], ◌∷◌, length, ℤ, pos, fold, ◌==◌, nat_le, unsigned_abs}
use Rattle.std.proofs.Common.{arith, ap₂, sym, subst, ◌∙◌}
use Rattle.std.proofs.Math.Path.{refl, ap}
use Rattle.sheet.specs.declared.row.Row.{Row}
use Rattle.charges.specs.declared.market_services.IntervalEnergy.{IntervalEnergy}
use Rattle.charges.specs.declared.market_services.HourEnergy.{HourEnergy}
use Rattle.charges.specs.declared.group.ByInterval.{ByInterval}
use Rattle.charges.specs.Rules.{Bounded}
use Rattle.charges.specs.Charges.{only, from_to, gross, by_interval, energy, tor_balance, hour_kwh, market_services}
use Rattle.charges.specs.Running.{run, netting, adding_up, interval_by_interval, energy_figures, balance_figures, hour_figures, FiguresBounded}
use Rattle.charges.specs.Runs.{netted, summed}
use Rattle.charges.specs.SumsLemmas.{over_add, over_le, passing}
use Rattle.charges.specs.Sizes.{Under, size, net_low, gross_low, net_under, gross_under, both_under, groups_under, sizes_low, pair_sizes_low, hundredfold}
use Rattle.charges.specs.Splits.{group_bounded}

-- ---- an interval's energy

energy_parts : (a : IntervalEnergy) (rs : List Row) → fold energy_figures.add a rs ≡ record {
  day_ahead = fold (netting (only 1)).add a.day_ahead rs;
  hasp = fold (netting (only 2)).add a.hasp rs;
  real_time = fold (netting (from_to 3 7)).add a.real_time rs;
}
energy_parts a [] = refl
energy_parts a (r ∷ rs) = energy_parts (energy_figures.add a r) rs

pub energy_run : (rs : List Row) → run energy_figures rs ≡ energy rs
energy_run rs = ap energy_figures.total (energy_parts energy_figures.start rs)
    ∙ ap₂ ◌+◌ (ap unsigned_abs (netted (only 1) rs)) (ap₂ ◌+◌ (ap unsigned_abs (netted (only 2) rs)) (ap unsigned_abs (netted (from_to 3 7) rs)))

pub energy_under : Under energy (λ r. passing (only 1) size r + (passing (only 2) size r + passing (from_to 3 7) size r))
energy_under = both_under _ _ _ _ (net_under (only 1)) (both_under _ _ _ _ (net_under (only 2)) (net_under (from_to 3 7)))

energy_kinds_apart : (kind m : ℕ) → cond (kind == 1) m 0 + (cond (kind == 2) m 0 + cond (nat_le 3 kind && nat_le kind 7) m 0) ≤ m
energy_kinds_apart kind m = grind arith

pub energy_figures_bounded : FiguresBounded energy_figures 4000000
energy_figures_bounded rs h =
    let a = energy_under rs in
    let b = over_le _ size (λ r. energy_kinds_apart r.key.kind (size r)) rs in
    let c = sizes_low rs h in
    omega (arith, energy_run rs)

-- ---- an interval's TOR balance

balance_net : (a : ℤ) (rs : List Row) → (fold balance_figures.add (record { net = a }) rs).net ≡ fold (netting (only 8)).add a rs
balance_net a [] = refl
balance_net a (r ∷ rs) = balance_net ((netting (only 8)).add a r) rs

pub balance_run : (rs : List Row) → run balance_figures rs ≡ tor_balance rs
balance_run rs = ap unsigned_abs (balance_net (pos 0) rs ∙ netted (only 8) rs)

pub balance_figures_bounded : FiguresBounded balance_figures 4000000
balance_figures_bounded rs h = omega (arith, balance_run rs, net_low (only 8) rs h)

-- ---- an hour

pub hour_parts : (a : HourEnergy) (rs : List Row) → fold hour_figures.add a rs ≡ record {
  energy = fold (interval_by_interval energy_figures).add a.energy rs;
  balance = fold (interval_by_interval balance_figures).add a.balance rs;
  awards = fold (adding_up (from_to 9 14)).add a.awards rs;
}
hour_parts a [] = refl
hour_parts a (r ∷ rs) = hour_parts (hour_figures.add a r) rs

pub hour_figures_bounded : FiguresBounded hour_figures 8000000
hour_figures_bounded rs h =
    let e = ap hour_figures.total (hour_parts hour_figures.start rs) in
    let a = group_bounded ByInterval energy_figures 4000000 energy_figures_bounded (λ r. r.key.interval) 0 rs h in
    let b = gross_low (from_to 9 14) rs h in
    let s = summed (from_to 9 14) size rs in
    subst (λ x. x ≤ 8000000 * length rs) (sym e) (both (run (interval_by_interval energy_figures) rs) (run (interval_by_interval balance_figures) rs) (run (adding_up (from_to 9 14)) rs) (gross (from_to 9 14) rs) (length rs) a s b)
  where
    both : (x y z w n : ℕ) → x ≤ 4000000 * n → z ≡ w → w ≤ 4000000 * n → (x - y) + z ≤ 8000000 * n
    both x y z w n a s b = omega arith

-- ---- the charge

-- what a row counts for at most, under its kind
abbrev pub worth : Row → ℕ
worth r = (passing (only 1) size r + (passing (only 2) size r + passing (from_to 3 7) size r)) + passing (from_to 9 14) size r

-- energy less TOR balance, and the awards, in an hour's rows
pub energy_and_awards_under : Under (λ rs. (by_interval rs energy - by_interval rs tor_balance) + gross (from_to 9 14) rs) worth
energy_and_awards_under rs =
    let a = groups_under (λ r. r.key.interval) 0 13 energy _ energy_under rs in
    let b = gross_under (from_to 9 14) rs in
    omega (arith, over_add (λ r. passing (only 1) size r + (passing (only 2) size r + passing (from_to 3 7) size r)) (passing (from_to 9 14) size) rs)

kinds_apart : (kind m : ℕ) → (cond (kind == 1) m 0 + (cond (kind == 2) m 0 + cond (nat_le 3 kind && nat_le kind 7) m 0)) + cond (nat_le 9 kind && nat_le kind 14) m 0 ≤ m
kinds_apart kind m = grind arith

pub market_bounded_by : Under hour_kwh worth → Bounded market_services
unfolding market_services
market_bounded_by under coordinator resource rs h =
    let a = groups_under (λ r. r.key.hour) 1 25 hour_kwh _ under rs in
    let b = over_le _ size (λ r. kinds_apart r.key.kind (size r)) rs in
    hundredfold (length rs) a b (pair_sizes_low coordinator resource rs h)
