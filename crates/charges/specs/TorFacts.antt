-- TOR: what the laws of its figures and of its charge rest on.
use Rattle.std.specs.Prelude.{◌≡◌, ℕ, ◌*◌, ◌≤◌, min, Bool, true, false, cond, List, [], ◌∷◌, length, fold, ◌==◌, refl}
use Rattle.std.proofs.Common.{arith, ap, ap₂, ◌∙◌}
use Rattle.std.proofs.ByRecursion.{All-weaker}
use Rattle.sheet.specs.declared.row.Row.{Row}
use Rattle.sheet.specs.Sheets.{OfPair, Passes}
use Rattle.charges.specs.declared.tor.SupplyDemand.{SupplyDemand}
use Rattle.charges.specs.Rules.{Bounded}
use Rattle.charges.specs.Charges.{only, gross, tor}
use Rattle.charges.specs.Running.{run, tor_figures, adding_up, FiguresBounded}
use Rattle.charges.specs.Runs.{summed}
use Rattle.charges.specs.Sizes.{size, gross_low}

pub parts : (a : SupplyDemand) (rs : List Row) → fold tor_figures.add a rs ≡ record {
  supply = fold (adding_up (only 50)).add a.supply rs;
  demand = fold (adding_up (only 51)).add a.demand rs;
}
parts a [] = refl
parts a (r ∷ rs) = parts (tor_figures.add a r) rs

pub tor_run : (rs : List Row) → run tor_figures rs ≡ min (gross (only 50) rs) (gross (only 51) rs)
tor_run rs = ap tor_figures.total (parts tor_figures.start rs) ∙ ap₂ min (summed (only 50) size rs) (summed (only 51) size rs)

pub tor_figures_bounded : FiguresBounded tor_figures 4000000
tor_figures_bounded rs h = omega (arith, tor_run rs, gross_low (only 50) rs h)

pub tor_bounded : Bounded tor
unfolding tor
tor_bounded coordinator resource rs h =
    let pass = All-weaker (OfPair coordinator resource) Passes (λ r p. p.passes) rs h.each in
    smaller (resource == 0) (gross (only 50) rs) (gross (only 51) rs) (length rs) (gross_low (only 50) rs pass)
  where
    smaller : (b : Bool) (x y n : ℕ) → x ≤ 4000000 * n → cond b (100 * min x y) 0 ≤ 400000000 * n
    smaller true x y n l = omega arith
    smaller false x y n l = omega arith
