-- The rows of an accepted sheet, and a pair's among them.
use Rattle.std.proofs.Common.{◌≡◌, ℕ, suc, ◌+◌, ◌<◌, ◌≤◌, Bool, true, false, cond, ◌&&◌, eqb, ltb, ◌⊎◌, List, [], ◌∷◌, length, get_or, pos, nat_abs, filter, sym, refl, ap, ◌∙◌, subst, subst₂, inl, inr, zero-add, add-one, arith}
use Rattle.std.specs.List.{All, AllByRecursion}
use Rattle.std.proofs.lemmas.List.FromFn.{length-map-range_with_len, get_or-map-range_with_len}
use Rattle.std.proofs.ByRecursion.{All-from_get_or, all_kept_by, kept_by_passes}
use Rattle.std.proofs.lemmas.List.Sums.{length-filter, count_by-le-length}
use Rattle.std.proofs.lemmas.Bool.{and_parts, and_from, or_cases, or_right, cases_Bool, leb-true, ltb-true, eqb-true, lt-ltb, eq-eqb, false≢true}
use Rattle.std.proofs.lemmas.Bool.Decides.{nat_tests}
use Rattle.sheet.specs.declared.row.Key.{Key}
use Rattle.sheet.specs.declared.row.Row.{Row}
use Rattle.sheet.specs.Rows.{row_count, row_at, rows, own_rows, resource_rows, pair_rows, of_pair}
use Rattle.sheet.specs.Questions.{below, key_bytes, in_range, Accepted}
use Rattle.sheet.specs.Sheets.{Ascending, Passes, OfPair, PairRows}
use Rattle.sheet.proofs.Accepted.{few_rows, key_above, row_passes}

-- ---- rows by place

pub length_rows : (bytes : List ℕ) → length (rows bytes) ≡ row_count bytes
length_rows bytes = length-map-range_with_len (row_at bytes) 0 (row_count bytes)

pub row_by_place : (bytes : List ℕ) (i : ℕ) (d : Row) → i < row_count bytes → get_or (rows bytes) i d ≡ row_at bytes i
row_by_place bytes i d h = get_or-map-range_with_len (row_at bytes) 0 (row_count bytes) i i d h (zero-add i)

abbrev pub no_row : Row
no_row = record { key = record { coordinator = 0; resource = 0; hour = 0; interval = 0; part = 0; kind = 0 }; quantity = pos 0 }

pub all_rows : (bytes : List ℕ) (P : Row → Type 0) → ((i : ℕ) → i < row_count bytes → P (row_at bytes i)) → AllByRecursion P (rows bytes)
all_rows bytes P h =
    All-from_get_or P (rows bytes) no_row
    (λ i l. let w : i < row_count bytes = omega (arith, length_rows bytes) in subst P (sym (row_by_place bytes i no_row w)) (h i w))

pub each_row : (bytes : List ℕ) (P : Row → Type 0) → All P (rows bytes) → AllByRecursion P (rows bytes)
each_row bytes P h = All-from_get_or P (rows bytes) no_row (λ i l. h i no_row l)

-- ---- what a row that passes keeps to

key_numbers : (k : Key) → in_range k ≡ true → (k.coordinator ≤ 63) × (1 ≤ k.hour) × (k.hour ≤ 25) × (k.interval ≤ 12)
key_numbers k h = (grind (arith, nat_tests), grind (arith, nat_tests), grind (arith, nat_tests), grind (arith, nat_tests))

pub key_ranges : (r : Row) → Passes r → (r.key.coordinator ≤ 63) × (1 ≤ r.key.hour) × (r.key.hour ≤ 25) × (r.key.interval ≤ 12)
key_ranges r p = key_numbers r.key p.ranged

pub quantity_range : (r : Row) → Passes r → nat_abs r.quantity ≤ 4000000
quantity_range r p = leb-true (nat_abs r.quantity) 4000000 p.bounded

-- ---- keys in order

pub below_cases : (x y : ℕ) (xs ys : List ℕ) → below (x ∷ xs) (y ∷ ys) ≡ true → (x < y) ⊎ ((x ≡ y) × (below xs ys ≡ true))
below_cases x y xs ys h = elim (or_cases (ltb x y) (eqb x y && below xs ys) h) [
  | inl e ↦ inl (ltb-true x y e)
  | inr e ↦ let p = and_parts _ _ e in inr (eqb-true x y p.0, p.1)
]

below_less : (x y : ℕ) (xs ys : List ℕ) → x < y → below (x ∷ xs) (y ∷ ys) ≡ true
below_less x y xs ys l = rw (lt-ltb x y l)

below_rest : (x y : ℕ) (xs ys : List ℕ) → x ≡ y → below xs ys ≡ true → below (x ∷ xs) (y ∷ ys) ≡ true
below_rest x y xs ys e h = or_right (ltb x y) (eqb x y && below xs ys) (and_from (eqb x y) (below xs ys) (eq-eqb x y e) h)

below_none : (xs : List ℕ) → below xs [] ≡ true → ⊥
below_none [] h = false≢true h
below_none (x ∷ xs) h = false≢true h

none_below : (z : ℕ) (zs : List ℕ) → below [] (z ∷ zs) ≡ true
none_below z zs = refl

pub below_trans : (xs ys zs : List ℕ) → below xs ys ≡ true → below ys zs ≡ true → below xs zs ≡ true
below_trans xs ys [] h k = absurd (below_none ys k)
below_trans xs [] (z ∷ zs) h k = absurd (below_none xs h)
below_trans [] (y ∷ ys) (z ∷ zs) h k = none_below z zs
below_trans (x ∷ xs) (y ∷ ys) (z ∷ zs) h k = elim (below_cases x y xs ys h) [
  | inl a ↦ elim (below_cases y z ys zs k) [
    | inl b ↦ below_less x z xs zs (omega arith)
    | inr b ↦ let e = b.0 in below_less x z xs zs (omega arith)
  ]
  | inr a ↦ elim (below_cases y z ys zs k) [
    | inl b ↦ let e = a.0 in below_less x z xs zs (omega arith)
    | inr b ↦ below_rest x z xs zs (a.0 ∙ b.0) (below_trans xs ys zs a.1 b.1)
  ]
]

abbrev Below : Row → Row → Type 0
Below a b = below (key_bytes a.key) (key_bytes b.key) ≡ true

-- each key above the one before it
abbrev Next : List Row → Type 0
Next [] = Unit {0}
Next (r ∷ []) = Unit {0}
Next (r ∷ s ∷ rs) = Below r s × Next (s ∷ rs)

below_all : (r s : Row) (rs : List Row) → Below r s → AllByRecursion (Below s) rs → AllByRecursion (Below r) rs
below_all r s [] h k = tt
below_all r s (t ∷ rs) h k = (below_trans (key_bytes r.key) (key_bytes s.key) (key_bytes t.key) h k.0, below_all r s rs h k.1)

next_ascending : (rs : List Row) → Next rs → Ascending rs
next_ascending [] h = tt
next_ascending (r ∷ []) h = (tt, tt)
next_ascending (r ∷ s ∷ rs) h = let p = next_ascending (s ∷ rs) h.1 in ((h.0, below_all r s rs h.0 p.0), p)

places_next : (d : Row) (rs : List Row) → ((n : ℕ) → n + 1 < length rs → Below (get_or rs n d) (get_or rs (n + 1) d)) → Next rs
places_next d [] h = tt
places_next d (r ∷ []) h = tt
places_next d (r ∷ s ∷ rs) h = (h 0 (omega arith), places_next d (s ∷ rs) (λ n l. let e : suc n + 1 ≡ suc (n + 1) = omega arith in rw e at (h (suc n) (omega arith))))

pub ascending_kept : (p : Row → Bool) (rs : List Row) → Ascending rs → Ascending (filter p rs)
ascending_kept p [] h = tt
ascending_kept p (r ∷ rs) h = elim (cases_Bool (p r)) [
  | inl e ↦ rw e (all_kept_by p (Below r) rs h.0, ascending_kept p rs h.1)
  | inr e ↦ rw e (ascending_kept p rs h.1)
]

-- ---- a pair's rows

pub pair_kept : (coordinator resource : ℕ) (rs : List Row) → pair_rows coordinator resource rs ≡ filter (of_pair coordinator resource) rs
pair_kept coordinator resource [] = refl
pair_kept coordinator resource (r ∷ rs) = go (eqb r.key.coordinator coordinator) (eqb r.key.resource resource) (pair_kept coordinator resource rs)
  where
    go : (b b' : Bool) → pair_rows coordinator resource rs ≡ filter (of_pair coordinator resource) rs →
        resource_rows resource (cond b (r ∷ own_rows coordinator rs) (own_rows coordinator rs)) ≡ cond (b && eqb r.key.resource resource) (r ∷ filter (of_pair coordinator resource) rs) (filter (of_pair coordinator resource) rs)
    go true b' e = ap (λ l. cond (eqb r.key.resource resource) (r ∷ l) l) e
    go false b' e = e

module _ (bytes : List ℕ) (ok : Accepted bytes) where
  pub rows_pass : AllByRecursion Passes (rows bytes)
  rows_pass = all_rows bytes Passes (row_passes bytes ok)

  pub rows_ascend : Ascending (rows bytes)
  rows_ascend = next_ascending (rows bytes) (places_next no_row (rows bytes) (λ n l. next n (omega (arith, length_rows bytes))))
    where
      next : (n : ℕ) → n + 1 < row_count bytes → Below (get_or (rows bytes) n no_row) (get_or (rows bytes) (n + 1) no_row)
      next n l =
          subst₂ Below (sym (row_by_place bytes n no_row (omega arith))) (sym (row_by_place bytes (n + 1) no_row l ∙ ap (row_at bytes) (add-one n)))
          (key_above bytes ok n (omega arith))

  -- the pair's rows of an accepted sheet
  pub pair_accepted : (coordinator resource : ℕ) → PairRows coordinator resource (pair_rows coordinator resource (rows bytes))
  pair_accepted coordinator resource = record {
    ascending = ascending_kept _ (own_rows coordinator (rows bytes)) (ascending_kept _ (rows bytes) rows_ascend);
    each = subst (AllByRecursion (OfPair coordinator resource)) (sym (pair_kept coordinator resource (rows bytes)))
        (all_of (filter (of_pair coordinator resource) (rows bytes)) (kept_by_passes (of_pair coordinator resource) (rows bytes)) (all_kept_by (of_pair coordinator resource) Passes (rows bytes) rows_pass));
  }
    where
      all_of : (rs : List Row) → AllByRecursion (λ r. of_pair coordinator resource r ≡ true) rs → AllByRecursion Passes rs → AllByRecursion (OfPair coordinator resource) rs
      all_of [] a b = tt
      all_of (r ∷ rs) a b =
          let p = and_parts (eqb r.key.coordinator coordinator) (eqb r.key.resource resource) a.0 in
          (record { coordinator_is = eqb-true _ _ p.0; resource_is = eqb-true _ _ p.1; passes = b.0 }, all_of rs a.1 b.1)

  -- a coordinator has at most 2,048 rows
  pub own_few : (coordinator : ℕ) → length (own_rows coordinator (rows bytes)) ≤ 2048
  own_few coordinator =
      let p : Row → Bool = λ r. eqb r.key.coordinator coordinator in
      omega (arith, few_rows bytes ok, length_rows bytes, length-filter p (rows bytes), count_by-le-length p (rows bytes))

  pub pair_few : (coordinator resource : ℕ) → length (pair_rows coordinator resource (rows bytes)) ≤ 2048
  pair_few coordinator resource =
      let p : Row → Bool = λ r. eqb r.key.resource resource in
      let own = own_rows coordinator (rows bytes) in
      omega (arith, own_few coordinator, length-filter p own, count_by-le-length p own)
