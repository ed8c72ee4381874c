-- Figures by groups that so many rows have reached.
use Rattle.std.specs.Prelude.{ℕ, ◌+◌, ◌*◌, ◌≤◌, length}
use Rattle.std.proofs.Common.{arith, sym, subst}
use Rattle.sheet.specs.declared.row.Row.{Row}
use Rattle.charges.specs.declared.group.Group.{Group}
use Rattle.charges.specs.Running.{Running, grouped, Reached, FiguresBounded}
use Rattle.charges.specs.Splits.{Split, split_start, total_low, split_folded}

module _ {S : Type 0} (K : Type 0) (f : Running S) (most : ℕ) (bounded : FiguresBounded f most) (field : Row → ℕ) (least : ℕ) where
  split_reached : (g : Group S K) (n : ℕ) → Reached (grouped {K = K} field least f) n g → Split f most g n
  split_reached g n h =
      let t = split_folded K f most bounded field least h.seen (grouped {K = K} field least f).start 0 h.pass (split_start K f most bounded field least) in
      let u = subst (λ x. Split f most x (0 + length h.seen)) (sym h.is) t in
      record { before = u.before; here = u.here; low = u.low; inside_is = u.inside_is; pass = u.pass; few = let k = u.few in let l = h.few in omega arith }

  pub inside_reached : (g : Group S K) (n : ℕ) → Reached (grouped {K = K} field least f) n g → Reached f n g.inside
  inside_reached g n h =
      let s = split_reached g n h in
      record { seen = s.here; few = let k = s.few in omega arith; pass = s.pass; is = s.inside_is }

  pub reached_total_low : (g : Group S K) (n : ℕ) → Reached (grouped {K = K} field least f) n g → g.closed + f.total g.inside ≤ most * n
  reached_total_low g n h = total_low K f most bounded field least g n (split_reached g n h)
