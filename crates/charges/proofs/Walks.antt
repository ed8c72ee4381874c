-- One row more of a walk, and what the figures of a pair on an accepted sheet come to.
use Rattle.std.proofs.Common.{◌≡◌, ℕ, ◌+◌, ◌*◌, ◌<◌, ◌≤◌, Bool, true, false, cond, List, [], ◌∷◌, ◌++◌, length, get_or, take, sym, refl, ap, ◌∙◌, subst, append-nil, arith}
use Rattle.std.specs.List.{AllByRecursion}
use Rattle.std.proofs.lemmas.List.{length-take-le}
use Rattle.std.proofs.lemmas.List.Elements.{filter_more}
use Rattle.std.proofs.ByRecursion.{all_kept_by, All-take}
use Rattle.std.proofs.lemmas.List.Sums.{fold_push, length-filter, count_by-le-length}
use Rattle.sheet.specs.declared.pair.Pair.{Pair}
use Rattle.sheet.specs.declared.row.Row.{Row}
use Rattle.sheet.specs.Rows.{row_count, row_at, rows, own_rows, pair_rows, of_pair}
use Rattle.sheet.specs.Questions.{Accepted}
use Rattle.sheet.specs.Sheets.{Passes}
use Rattle.sheet.proofs.Pairs.{length_rows, row_by_place, no_row, rows_pass, pair_kept, pair_few}
use Rattle.sheet.proofs.Search.{First, before_first, none_so_far, none_left}
use Rattle.charges.specs.Running.{Running, after, run, Reached, walk_at, FiguresBounded}
use Rattle.charges.specs.declared.walk.Walk.{Walk}
use Rattle.charges.proofs.Reached.{reached_low}

-- the pair's rows keep what all rows keep
pub all_pair : (P : Row → Type 0) (coordinator resource : ℕ) (rs : List Row) → AllByRecursion P rs → AllByRecursion P (pair_rows coordinator resource rs)
all_pair P coordinator resource rs h = all_kept_by _ P (own_rows coordinator rs) (all_kept_by _ P rs h)

module _ (bytes : List ℕ) (ok : Accepted bytes) {S : Type 0} (f : Running S) (coordinator resource : ℕ) where
  abbrev pair : Pair
  pair = record { coordinator = coordinator; resource = resource }

  abbrev figures_at : ℕ → S
  figures_at n = after f (pair_rows coordinator resource (take n (rows bytes)))

  reached_at : (n m : ℕ) → n ≤ row_count bytes → n ≤ m → Reached f m (figures_at n)
  reached_at n m l u = record {
    seen = pair_rows coordinator resource (take n (rows bytes));
    few =
        let some = take n (rows bytes) in
        let p = of_pair coordinator resource in
        let e = length-take-le n (rows bytes) (omega (arith, length_rows bytes)) in
        omega (arith, ap length (pair_kept coordinator resource some), length-filter p some, count_by-le-length p some);
    pass = all_pair Passes coordinator resource (take n (rows bytes)) (All-take Passes n (rows bytes) (rows_pass bytes ok));
    is = refl;
  }

  pub walk_reached : (w : Walk S) (n m : ℕ) → w ≡ walk_at f pair (rows bytes) n → n ≤ row_count bytes → n ≤ m → Reached f m w.figures
  walk_reached w n m e l u = subst (Reached f m) (sym (ap (λ z. z.figures) e)) (reached_at n m l u)

  one_more : (b : Bool) (rs : List Row) (r : Row) → after f (rs ++ cond b (r ∷ []) []) ≡ cond b (f.add (after f rs) r) (after f rs)
  one_more true rs r = fold_push f.add f.start rs r
  one_more false rs r = ap (after f) (append-nil rs)

  -- a row is added if it is the pair's
  pub walk_more : (n : ℕ) → n < row_count bytes → figures_at (n + 1) ≡ cond (of_pair coordinator resource (row_at bytes n)) (f.add (figures_at n) (row_at bytes n)) (figures_at n)
  walk_more n l =
      let p = of_pair coordinator resource in
      let first = take n (rows bytes) in
      let r = get_or (rows bytes) n no_row in
      ap (after f) (pair_kept coordinator resource (take (n + 1) (rows bytes)) ∙ filter_more p (rows bytes) n no_row (omega (arith, length_rows bytes)) ∙ ap (λ rs. rs ++ cond (p r) (r ∷ []) []) (sym (pair_kept coordinator resource first)))
      ∙ one_more (p r) (pair_rows coordinator resource first) r
      ∙ ap (λ x. cond (p x) (f.add (figures_at n) x) (figures_at n)) (row_by_place bytes n no_row l)

  -- the rows before the pair's first are passed over
  pub walk_begun : (w : Walk S) (first : ℕ) → w ≡ walk_at f pair (rows bytes) 0 → first ≤ row_count bytes → First bytes coordinator resource first →
      record { figures = w.figures; pair = w.pair; next = first } ≡ walk_at f pair (rows bytes) first
  walk_begun w first e l at =
      ap (λ z. record { figures = z.figures; pair = z.pair; next = first }) e
      ∙ ap (λ rs. record { figures = after f rs; pair = pair; next = first })
      (sym (none_so_far bytes coordinator resource first l (λ i k. before_first bytes ok coordinator resource first at i k (omega arith))))

  -- one row more, and whether it was the pair's
  pub walk_stepped : (w next : Walk S) (n : ℕ) → w ≡ walk_at f pair (rows bytes) n → next ≡ walk_at f w.pair (rows bytes) (w.next + 1) → next ≡ walk_at f pair (rows bytes) (n + 1)
  walk_stepped w next n e k = k ∙ ap (λ z. walk_at f z.pair (rows bytes) (z.next + 1)) e

  pub walk_own : (w : Walk S) (n : ℕ) (own : Bool) → w ≡ walk_at f pair (rows bytes) n → own ≡ of_pair w.pair.coordinator w.pair.resource (row_at bytes w.next) → own ≡ of_pair coordinator resource (row_at bytes n)
  walk_own w n own e k = k ∙ ap (λ z. of_pair z.pair.coordinator z.pair.resource (row_at bytes z.next)) e

  -- where no row that is left is the pair's
  pub walk_all : (w : Walk S) (n : ℕ) → w ≡ walk_at f pair (rows bytes) n → ((i : ℕ) → n ≤ i → i < row_count bytes → of_pair coordinator resource (row_at bytes i) ≡ false) → w.figures ≡ after f (pair_rows coordinator resource (rows bytes))
  walk_all w n e h = ap (λ z. z.figures) e ∙ ap (after f) (none_left bytes coordinator resource n h)

  -- the figures of an accepted sheet's pair
  pub pair_reached : (s : S) → s ≡ after f (pair_rows coordinator resource (rows bytes)) → Reached f 2048 s
  pair_reached s e = record {
    seen = pair_rows coordinator resource (rows bytes);
    few = pair_few bytes ok coordinator resource;
    pass = all_pair Passes coordinator resource (rows bytes) (rows_pass bytes ok);
    is = e;
  }

  -- what they come to
  pub pair_low : (most : ℕ) → FiguresBounded f most → run f (pair_rows coordinator resource (rows bytes)) ≤ most * 2048
  pair_low most b = reached_low f most 2048 _ b (pair_reached _ refl)
