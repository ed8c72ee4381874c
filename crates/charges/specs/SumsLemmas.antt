-- Sums over lists, over numbers in turn, and over the groups of rows: what the laws rest on.
use Rattle.std.specs.Prelude.{◌≡◌, ℕ, zero, suc, ◌+◌, ◌*◌, ◌<◌, ◌≤◌, Bool, true, false, cond, List, [], ◌∷◌, length, filter, ◌==◌, refl}
use Rattle.std.proofs.Common.{arith, inl, inr}
use Rattle.std.specs.List.{range_with_len, AllByRecursion}
use Rattle.std.proofs.lemmas.Bool.{cases_eq, ne_eqb, eq-eqb}
use Rattle.sheet.specs.declared.row.Row.{Row}
use Rattle.charges.specs.Sums.{over}
use Rattle.charges.specs.Charges.{at}

pub over_add : {X : Type 0} (u v : X → ℕ) (xs : List X) → over xs (λ x. u x + v x) ≡ over xs u + over xs v
over_add u v [] = refl
over_add u v (x ∷ xs) = omega (arith, over_add u v xs)

pub over_le : {X : Type 0} (u v : X → ℕ) → ((x : X) → u x ≤ v x) → (xs : List X) → over xs u ≤ over xs v
over_le u v h [] = omega arith
over_le u v h (x ∷ xs) = omega (arith, h x, over_le u v h xs)

pub over_most : (u : Row → ℕ) (m : ℕ) (rs : List Row) → AllByRecursion (λ r. u r ≤ m) rs → over rs u ≤ m * length rs
over_most u m [] h = omega arith
over_most u m (r ∷ rs) h = let a = h.0 in let b = over_most u m rs h.1 in omega arith

pub over_none : {X : Type 0} (u : X → ℕ) → ((x : X) → u x ≡ 0) → (xs : List X) → over xs u ≡ 0
over_none u h [] = refl
over_none u h (x ∷ xs) = omega (arith, h x, over_none u h xs)

pub over_same : {X : Type 0} (u v : X → ℕ) → ((x : X) → u x ≡ v x) → (xs : List X) → over xs u ≡ over xs v
over_same u v h [] = refl
over_same u v h (x ∷ xs) = omega (arith, h x, over_same u v h xs)

-- ---- groups of rows

-- a number is met at most once
met_not : (x m a n : ℕ) → x < a → over (range_with_len a n) (λ g. cond (x == g) m 0) ≡ 0
met_not x m a zero h = refl
met_not x m a (suc n) h = rw (ne_eqb x a (λ e. omega arith)) (omega (arith, met_not x m (a + 1) n (omega arith)))

met_once : (x m a n : ℕ) → over (range_with_len a n) (λ g. cond (x == g) m 0) ≤ m
met_once x m a zero = omega arith
met_once x m a (suc n) = elim (cases_eq x a) [
  | inl e ↦ rw (eq-eqb x a e) (omega (arith, met_not x m (a + 1) n (omega arith)))
  | inr e ↦ rw (ne_eqb x a e) (omega (arith, met_once x m (a + 1) n))
]

-- the groups by a field hold no row twice
pub groups_le : (field : Row → ℕ) (w : Row → ℕ) (a n : ℕ) (rs : List Row) → over (range_with_len a n) (λ g. over (at field g rs) w) ≤ over rs w
groups_le field w a n [] = omega (arith, over_none (λ (g : ℕ). 0) (λ g. refl) (range_with_len a n))
groups_le field w a n (r ∷ rs) =
    let e = over_same (λ g. over (at field g (r ∷ rs)) w) (λ g. cond (field r == g) (w r) 0 + over (at field g rs) w) (λ g. split (field r == g) (at field g rs)) (range_with_len a n) in
    omega (arith, e, over_add (λ g. cond (field r == g) (w r) 0) (λ g. over (at field g rs) w) (range_with_len a n), met_once (field r) (w r) a n, groups_le field w a n rs)
  where
    split : (b : Bool) (l : List Row) → over (cond b (r ∷ l) l) w ≡ cond b (w r) 0 + over l w
    split true l = refl
    split false l = omega arith

-- a sum over the rows that pass, as a sum over all rows
abbrev pub passing : (Row → Bool) → (Row → ℕ) → Row → ℕ
passing p w r = cond (p r) (w r) 0

pub over_kept : (p : Row → Bool) (w : Row → ℕ) (rs : List Row) → over (filter p rs) w ≡ over rs (passing p w)
over_kept p w [] = refl
over_kept p w (r ∷ rs) = go (p r) (over_kept p w rs)
  where
    go : (b : Bool) → over (filter p rs) w ≡ over rs (passing p w) → over (cond b (r ∷ filter p rs) (filter p rs)) w ≡ cond b (w r) 0 + over rs (passing p w)
    go true e = omega arith
    go false e = omega arith

unfoldable pub ones : Row → ℕ
ones r = 1

pub over_ones : (rs : List Row) → length rs ≡ over rs ones
unfolding ones
over_ones [] = refl
over_ones (r ∷ rs) = omega (arith, over_ones rs)
