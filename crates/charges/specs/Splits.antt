-- How far figures by groups have come: what is closed, and the rows of the group at hand. The law of a group rests on it.
use Rattle.std.specs.Prelude.{◌≡◌, ℕ, ◌+◌, ◌*◌, ◌≤◌, Bool, true, false, cond, List, [], ◌∷◌, ◌++◌, length, fold, ◌==◌, refl}
use Rattle.std.proofs.Common.{arith, mul-add, mul-le-mul_left, ap, sym, subst, ◌∙◌}
use Rattle.std.specs.List.{AllByRecursion}
use Rattle.std.proofs.lemmas.List.{length_push}
use Rattle.std.proofs.ByRecursion.{All-push}
use Rattle.std.proofs.lemmas.List.Sums.{fold_push}
use Rattle.sheet.specs.declared.row.Row.{Row}
use Rattle.charges.specs.declared.group.Group.{Group}
use Rattle.sheet.specs.Sheets.{Passes}
use Rattle.charges.specs.Running.{Running, run, grouped, FiguresBounded}

-- the closed groups had so many rows before, the group at hand has those here, and all are at most n
pub record Split {S K : Type 0} (f : Running S) (most : ℕ) (g : Group S K) (n : ℕ) : Type 0 where
  pub before : ℕ
  pub here : List Row
  pub low : g.closed ≤ most * before
  pub inside_is : g.inside ≡ fold f.add f.start here
  pub pass : AllByRecursion Passes here
  pub few : before + length here ≤ n

module _ {S : Type 0} (K : Type 0) (f : Running S) (most : ℕ) (bounded : FiguresBounded f most) (field : Row → ℕ) (least : ℕ) where
  pub split_start : Split f most (grouped {K = K} field least f).start 0
  split_start = record { before = 0; here = []; low = omega arith; inside_is = refl; pass = tt; few = omega arith }

  inside_low : (g : Group S K) (n : ℕ) (s : Split f most g n) → f.total g.inside ≤ most * length s.here
  inside_low g n s = subst (λ x. f.total x ≤ most * length s.here) (sym s.inside_is) (bounded s.here s.pass)

  pub total_low : (g : Group S K) (n : ℕ) → Split f most g n → g.closed + f.total g.inside ≤ most * n
  total_low g n s =
      let a = s.low in
      let b = inside_low g n s in
      let c : most * (s.before + length s.here) ≤ most * n = mul-le-mul_left most s.few in
      omega (arith, mul-add most s.before (length s.here))

  split_add : (g : Group S K) (n : ℕ) (r : Row) → Passes r → Split f most g n → Split f most ((grouped {K = K} field least f).add g r) (n + 1)
  split_add g n r w s = go (field r == g.current)
    where
      go : (b : Bool) → Split f most (cond b (record { closed = g.closed; current = g.current; inside = f.add g.inside r; field = g.field }) (record { closed = g.closed + f.total g.inside; current = field r; inside = f.add f.start r; field = g.field })) (n + 1)
      go true = record {
        before = s.before;
        here = s.here ++ r ∷ [];
        low = s.low;
        inside_is = ap (λ x. f.add x r) s.inside_is ∙ sym (fold_push f.add f.start s.here r);
        pass = All-push Passes s.here r s.pass w;
        few = let e = length_push s.here r in let k = s.few in omega arith;
      }
      go false = record {
        before = s.before + length s.here;
        here = r ∷ [];
        low = let a = s.low in let b = inside_low g n s in omega (arith, mul-add most s.before (length s.here));
        inside_is = refl;
        pass = (w, tt);
        few = let k = s.few in omega arith;
      }

  pub split_folded : (seen : List Row) (g : Group S K) (n : ℕ) → AllByRecursion Passes seen → Split f most g n → Split f most (fold (grouped {K = K} field least f).add g seen) (n + length seen)
  split_folded [] g n h s = record { before = s.before; here = s.here; low = s.low; inside_is = s.inside_is; pass = s.pass; few = let k = s.few in omega arith }
  split_folded (r ∷ seen) g n h s =
      let t = split_folded seen ((grouped {K = K} field least f).add g r) (n + 1) h.1 (split_add g n r h.0 s) in
      record { before = t.before; here = t.here; low = t.low; inside_is = t.inside_is; pass = t.pass; few = let k = t.few in omega arith }

  pub group_bounded : FiguresBounded (grouped {K = K} field least f) most
  group_bounded rs h = subst (λ n. run (grouped {K = K} field least f) rs ≤ most * n) (omega arith) (total_low _ (0 + length rs) (split_folded rs (grouped {K = K} field least f).start 0 h split_start))
