-- System Operations: what the laws of its figures and of its charge rest on.
use Rattle.std.specs.Prelude.{◌≡◌, ℕ, ◌+◌, ◌≤◌, cond, List, [], ◌∷◌, length, ◌-ℤ◌, fold, ◌==◌, unsigned_abs, refl}
use Rattle.std.proofs.Common.{arith, ap, ap₂, ◌∙◌}
use Rattle.sheet.specs.declared.row.Row.{Row}
use Rattle.charges.specs.declared.system_operations.Meter.{Meter}
use Rattle.charges.specs.Rules.{Bounded}
use Rattle.charges.specs.Charges.{only, net, metered_less_balance, system_operations}
use Rattle.charges.specs.Running.{run, netting, meter_figures, FiguresBounded}
use Rattle.charges.specs.Runs.{netted}
use Rattle.charges.specs.SumsLemmas.{over_add, over_le, passing}
use Rattle.charges.specs.Sizes.{Under, size, apart, net_low, net_under, groups_under, pair_sizes_low, hundredfold}

-- ---- one part's meter

pub parts : (a : Meter) (rs : List Row) → fold meter_figures.add a rs ≡ record {
  metered = fold (netting (only 20)).add a.metered rs;
  balance = fold (netting (only 8)).add a.balance rs;
}
parts a [] = refl
parts a (r ∷ rs) = parts (meter_figures.add a r) rs

pub meter_run : (rs : List Row) → run meter_figures rs ≡ metered_less_balance rs
meter_run rs = ap meter_figures.total (parts meter_figures.start rs) ∙ ap₂ (λ x y. unsigned_abs (x -ℤ y)) (netted (only 20) rs) (netted (only 8) rs)

pub meter_figures_bounded : FiguresBounded meter_figures 8000000
meter_figures_bounded rs h = omega (arith, meter_run rs, apart (net (only 20) rs) (net (only 8) rs), net_low (only 20) rs h, net_low (only 8) rs h)

-- ---- the charge

metered_under : Under metered_less_balance (λ r. passing (only 20) size r + passing (only 8) size r)
metered_under rs = omega (arith, apart (net (only 20) rs) (net (only 8) rs), net_under (only 20) rs, net_under (only 8) rs, over_add (passing (only 20) size) (passing (only 8) size) rs)

kinds_apart : (kind m : ℕ) → cond (kind == 20) m 0 + cond (kind == 8) m 0 ≤ m
kinds_apart kind m = grind arith

pub system_bounded : Bounded system_operations
unfolding system_operations
system_bounded coordinator resource rs h =
    let a = groups_under (λ r. r.key.hour) 1 25 _ _ (groups_under (λ r. r.key.interval) 0 13 _ _ (groups_under (λ r. r.key.part) 0 256 metered_less_balance _ metered_under)) rs in
    let b = over_le _ size (λ r. kinds_apart r.key.kind (size r)) rs in
    hundredfold (length rs) a b (pair_sizes_low coordinator resource rs h)
