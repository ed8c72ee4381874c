-- Market Services: its running figures arrive at the charge, which keeps within its bound, and how large they are.
use Rattle.std.specs.Prelude.{◌≡◌, ℕ, ◌+◌, ◌-◌, ◌*◌, ◌≤◌, List, ◌+ℤ◌, FitsSigned, unsigned_abs}
use Rattle.std.proofs.Common.{ℤ, true, eqb, ◌⊎◌, inl, inr, subst, arith, ap₂, sym, ◌∙◌, to_z, of_z}
use Rattle.std.proofs.lemmas.Bool.{eqb-true}
use Rattle.sheet.specs.declared.kind.Kind.{Kind}
use Rattle.sheet.specs.declared.kind.Kind.TheVariants.{OptimalEnergy, RerateEnergy, MinimumLoadEnergy, SelfScheduleEnergy, PumpingEnergy}
use Rattle.sheet.specs.Kinds.{is_kind}
use Rattle.std.proofs.Math.Path.{refl, ap}
use Rattle.std.specs.Int.{w64}
use Rattle.std.proofs.lemmas.Bool.{ne_eqb, le-leb}
use Rattle.sheet.specs.declared.row.Row.{Row}
use Rattle.sheet.specs.Sheets.{OfPair, PairRows, Passes}
use Rattle.charges.specs.declared.market_services.IntervalEnergy.{IntervalEnergy}
use Rattle.charges.specs.declared.market_services.IntervalBalance.{IntervalBalance}
use Rattle.charges.specs.declared.market_services.HourEnergy.{HourEnergy}
use Rattle.charges.specs.declared.group.ByHour.{ByHour}
use Rattle.charges.specs.Rules.{Bounded}
use Rattle.charges.specs.Charges.{from_to, energy, tor_balance, hour_kwh, market_services}
use Rattle.charges.specs.Running.{run, Reached, adding_up, interval_by_interval, energy_figures, balance_figures, hour_figures, market_figures, FiguresBounded}
use Rattle.charges.specs.Runs.{summed}
use Rattle.charges.specs.Sizes.{Under, size}
use Rattle.charges.proofs.Reached.{widened, reached_low, reached_part, gross_reached, abs_back, added, added_fits, added_is}
use Rattle.charges.specs.Splits.{group_bounded}
use Rattle.charges.specs.MarketServicesFacts.{energy_run, energy_figures_bounded, balance_run, balance_figures_bounded, hour_parts, hour_figures_bounded, worth, energy_and_awards_under, market_bounded_by}
use Rattle.charges.proofs.Order.{InOrder, pair_in_order}
use Rattle.charges.proofs.Runs.{from_interval, by_hour_run, by_interval_run}

energy_at_1 : (a : IntervalEnergy) (r : Row) → r.key.kind ≡ 1 → energy_figures.add a r ≡ record { day_ahead = a.day_ahead +ℤ r.quantity; hasp = a.hasp; real_time = a.real_time }
energy_at_1 a r e = rw e

energy_at_2 : (a : IntervalEnergy) (r : Row) → r.key.kind ≡ 2 → energy_figures.add a r ≡ record { day_ahead = a.day_ahead; hasp = a.hasp +ℤ r.quantity; real_time = a.real_time }
energy_at_2 a r e = rw e

energy_at_3 : (a : IntervalEnergy) (r : Row) → 3 ≤ r.key.kind → r.key.kind ≤ 7 → energy_figures.add a r ≡ record { day_ahead = a.day_ahead; hasp = a.hasp; real_time = a.real_time +ℤ r.quantity }
energy_at_3 a r l u = rw (ne_eqb r.key.kind 1 (λ e. omega arith), ne_eqb r.key.kind 2 (λ e. omega arith), le-leb 3 r.key.kind l, le-leb r.key.kind 7 u)

module _ (n : ℕ) (a : IntervalEnergy) (h : Reached energy_figures n a) where
  energy_low : unsigned_abs a.day_ahead + (unsigned_abs a.hasp + unsigned_abs a.real_time) ≤ 4000000 * n
  energy_low = reached_low energy_figures 4000000 n a energy_figures_bounded h

-- after one row more, as the code adds it
module _ (a : IntervalEnergy) (r : Row) (h : Reached energy_figures 2047 a) (k : Passes r) (x : ℤ) (is : x ≡ widened r.quantity) where
  pub day_ahead_fits : FitsSigned w64 (added a.day_ahead x)
  day_ahead_fits = added_fits a.day_ahead r (omega (arith, energy_low 2047 a h)) k x is

  pub hasp_fits : FitsSigned w64 (added a.hasp x)
  hasp_fits = added_fits a.hasp r (omega (arith, energy_low 2047 a h)) k x is

  pub real_time_fits : FitsSigned w64 (added a.real_time x)
  real_time_fits = added_fits a.real_time r (omega (arith, energy_low 2047 a h)) k x is

  pub day_ahead_more : r.key.kind ≡ 1 → record { day_ahead = to_z w64 (of_z w64 (added a.day_ahead x)); hasp = a.hasp; real_time = a.real_time } ≡ energy_figures.add a r
  day_ahead_more e = ap (λ z. record { day_ahead = z; hasp = a.hasp; real_time = a.real_time }) (added_is a.day_ahead r (omega (arith, energy_low 2047 a h)) k x is) ∙ sym (energy_at_1 a r e)

  pub hasp_more : r.key.kind ≡ 2 → record { day_ahead = a.day_ahead; hasp = to_z w64 (of_z w64 (added a.hasp x)); real_time = a.real_time } ≡ energy_figures.add a r
  hasp_more e = ap (λ z. record { day_ahead = a.day_ahead; hasp = z; real_time = a.real_time }) (added_is a.hasp r (omega (arith, energy_low 2047 a h)) k x is) ∙ sym (energy_at_2 a r e)

  pub real_time_more : 3 ≤ r.key.kind → r.key.kind ≤ 7 → record { day_ahead = a.day_ahead; hasp = a.hasp; real_time = to_z w64 (of_z w64 (added a.real_time x)) } ≡ energy_figures.add a r
  real_time_more l u = ap (λ z. record { day_ahead = a.day_ahead; hasp = a.hasp; real_time = z }) (added_is a.real_time r (omega (arith, energy_low 2047 a h)) k x is) ∙ sym (energy_at_3 a r l u)

-- the kinds of real-time energy
module _ (byte : ℕ) where
  within_3_to_7 : (n : ℕ) → eqb byte n ≡ true → 3 ≤ n → n ≤ 7 → (3 ≤ byte) × (byte ≤ 7)
  within_3_to_7 n e l u = let is = eqb-true byte n e in (omega arith, omega arith)

  pub real_time_kind : (kind : Kind) → is_kind kind byte ≡ true → (kind ≡ OptimalEnergy) ⊎ ((kind ≡ RerateEnergy) ⊎ ((kind ≡ MinimumLoadEnergy) ⊎ ((kind ≡ SelfScheduleEnergy) ⊎ (kind ≡ PumpingEnergy)))) → (3 ≤ byte) × (byte ≤ 7)
  real_time_kind kind e (inl is) = within_3_to_7 3 (subst (λ one. is_kind one byte ≡ true) is e) (omega arith) (omega arith)
  real_time_kind kind e (inr (inl is)) = within_3_to_7 4 (subst (λ one. is_kind one byte ≡ true) is e) (omega arith) (omega arith)
  real_time_kind kind e (inr (inr (inl is))) = within_3_to_7 5 (subst (λ one. is_kind one byte ≡ true) is e) (omega arith) (omega arith)
  real_time_kind kind e (inr (inr (inr (inl is)))) = within_3_to_7 6 (subst (λ one. is_kind one byte ≡ true) is e) (omega arith) (omega arith)
  real_time_kind kind e (inr (inr (inr (inr is)))) = within_3_to_7 7 (subst (λ one. is_kind one byte ≡ true) is e) (omega arith) (omega arith)

-- the absolute values that the code adds
module _ (a : IntervalEnergy) (h : Reached energy_figures 2048 a) where
  pub three_low : (x y z : ℕ) → x ≡ unsigned_abs (to_z w64 (of_z w64 a.day_ahead)) → y ≡ unsigned_abs (to_z w64 (of_z w64 a.hasp)) → z ≡ unsigned_abs (to_z w64 (of_z w64 a.real_time)) → (x + y) + z ≤ 8192000000
  three_low x y z e f g =
      let l = energy_low 2048 a h in
      omega (arith, abs_back a.day_ahead (omega arith), abs_back a.hasp (omega arith), abs_back a.real_time (omega arith))

  pub two_low : (x y : ℕ) → x ≡ unsigned_abs (to_z w64 (of_z w64 a.day_ahead)) → y ≡ unsigned_abs (to_z w64 (of_z w64 a.hasp)) → x + y ≤ 8192000000
  two_low x y e f = omega (arith, three_low x y (unsigned_abs (to_z w64 (of_z w64 a.real_time))) e f refl)

balance_at_8 : (a : IntervalBalance) (r : Row) → r.key.kind ≡ 8 → balance_figures.add a r ≡ record { net = a.net +ℤ r.quantity }
balance_at_8 a r e = rw e

module _ (a : IntervalBalance) (r : Row) (h : Reached balance_figures 2047 a) (k : Passes r) (x : ℤ) (is : x ≡ widened r.quantity) where
  balance_low : unsigned_abs a.net ≤ 8192000000
  balance_low = let l = reached_low balance_figures 4000000 2047 a balance_figures_bounded h in omega arith

  pub balance_fits : FitsSigned w64 (added a.net x)
  balance_fits = added_fits a.net r balance_low k x is

  pub balance_more : r.key.kind ≡ 8 → record { net = to_z w64 (of_z w64 (added a.net x)) } ≡ balance_figures.add a r
  balance_more e = ap (λ z. record { net = z }) (added_is a.net r balance_low k x is) ∙ sym (balance_at_8 a r e)

module _ (n : ℕ) (a : HourEnergy) (h : Reached hour_figures n a) where
  pub energy_reached : Reached (interval_by_interval energy_figures) n a.energy
  energy_reached = reached_part hour_figures (interval_by_interval energy_figures) n a (λ z. z.energy) (λ rs. ap (λ z. z.energy) (hour_parts hour_figures.start rs)) h

  pub balance_reached : Reached (interval_by_interval balance_figures) n a.balance
  balance_reached = reached_part hour_figures (interval_by_interval balance_figures) n a (λ z. z.balance) (λ rs. ap (λ z. z.balance) (hour_parts hour_figures.start rs)) h

  pub awards_low : a.awards ≤ 4000000 * n
  awards_low = gross_reached (from_to 9 14) n a.awards (reached_part hour_figures (adding_up (from_to 9 14)) n a (λ z. z.awards) (λ rs. ap (λ z. z.awards) (hour_parts hour_figures.start rs)) h)

  -- what the code adds up
  pub total_fits : (x y r : ℕ) → x ≡ (interval_by_interval energy_figures).total a.energy → y ≡ (interval_by_interval balance_figures).total a.balance → r ≡ x - y → r + a.awards ≤ 8000000 * n
  total_fits x y r e f g =
      joined ((interval_by_interval energy_figures).total a.energy) ((interval_by_interval balance_figures).total a.balance) (reached_low hour_figures 8000000 n a hour_figures_bounded h) e f
    where
      joined : (u v : ℕ) → (u - v) + a.awards ≤ 8000000 * n → x ≡ u → y ≡ v → r + a.awards ≤ 8000000 * n
      joined u v l i j = omega arith

pub market_figures_bounded : FiguresBounded market_figures 8000000
market_figures_bounded = group_bounded ByHour hour_figures 8000000 hour_figures_bounded (λ r. r.key.hour) 1

-- ---- the charge

module _ (coordinator resource : ℕ) where
  passes : (r : Row) → OfPair coordinator resource r → Passes r
  passes r w = w.passes

  hour_run : (rs : List Row) → InOrder (OfPair coordinator resource) from_interval rs → run hour_figures rs ≡ hour_kwh rs
  hour_run rs h =
      ap hour_figures.total (hour_parts hour_figures.start rs)
      ∙ ap₂ ◌+◌
      (ap₂ ◌-◌
      (by_interval_run (OfPair coordinator resource) passes energy_figures energy refl (λ l _. energy_run l) rs h)
      (by_interval_run (OfPair coordinator resource) passes balance_figures tor_balance refl (λ l _. balance_run l) rs h))
      (summed (from_to 9 14) size rs)

  pub market_arrives : (rs : List Row) → PairRows coordinator resource rs → 100 * run market_figures rs ≡ market_services coordinator resource rs
  unfolding market_services
  market_arrives rs p = ap (λ x. 100 * x) (by_hour_run (OfPair coordinator resource) passes hour_figures hour_kwh refl hour_run rs (pair_in_order coordinator resource rs p))

hour_under : Under hour_kwh worth
hour_under = energy_and_awards_under

pub market_bounded : Bounded market_services
market_bounded = market_bounded_by hour_under
