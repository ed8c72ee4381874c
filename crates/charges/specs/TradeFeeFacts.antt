-- The trade fee: what the laws of its figures and of its charge rest on.
use Rattle.std.specs.Prelude.{◌≡◌, ℕ, List, [], ◌∷◌, fold, refl}
use Rattle.std.proofs.Common.{arith, ◌∙◌}
use Rattle.sheet.specs.declared.row.Row.{Row}
use Rattle.charges.specs.Rules.{Bounded}
use Rattle.charges.specs.Charges.{only, count, trade_fee}
use Rattle.charges.specs.Running.{run, trade_figures, counting_rows, FiguresBounded}
use Rattle.charges.specs.Runs.{counted}
use Rattle.charges.specs.Sizes.{count_low}

sides : (a : ℕ) (rs : List Row) → (fold trade_figures.add (record { sides = a }) rs).sides ≡ fold (counting_rows (only 40)).add a rs
sides a [] = refl
sides a (r ∷ rs) = sides ((counting_rows (only 40)).add a r) rs

pub trade_run : (rs : List Row) → run trade_figures rs ≡ count (only 40) rs
trade_run rs = sides 0 rs ∙ counted (only 40) rs

pub trade_figures_bounded : FiguresBounded trade_figures 1
trade_figures_bounded rs h = omega (arith, trade_run rs, count_low (only 40) rs)

pub trade_bounded : Bounded trade_fee
unfolding trade_fee
trade_bounded coordinator resource rs h = omega (arith, count_low (only 40) rs)
