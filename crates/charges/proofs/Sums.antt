-- Sums over lists, and over numbers in turn.
use Rattle.std.specs.Prelude.{◌≡◌, ℕ, zero, suc, ◌+◌, ◌*◌, ◌<◌, ◌≤◌, List, [], ◌∷◌, ◌≢◌, refl}
use Rattle.std.proofs.Common.{arith, mul-add, ap, inl, inr}
use Rattle.std.specs.List.{range_with_len}
use Rattle.std.proofs.lemmas.Bool.{cases_eq}
use Rattle.charges.specs.Sums.{over}

pub over_times : {X : Type 0} (u : X → ℕ) (m : ℕ) (xs : List X) → over xs (λ x. m * u x) ≡ m * over xs u
over_times u m [] = omega arith
over_times u m (x ∷ xs) = omega (arith, over_times u m xs, mul-add m (u x) (over xs u))

pub over_same_from : (u v : ℕ → ℕ) (a n : ℕ) → ((g : ℕ) → a ≤ g → u g ≡ v g) → over (range_with_len a n) u ≡ over (range_with_len a n) v
over_same_from u v a zero e = refl
over_same_from u v a (suc n) e = omega (arith, e a (omega arith), over_same_from u v (a + 1) n (λ g w. e g (omega arith)))

pub over_more : (u : ℕ → ℕ) (a n : ℕ) → over (range_with_len a (n + 1)) u ≡ over (range_with_len a n) u + u (a + n)
over_more u a zero = let e : a + 0 ≡ a = omega arith in omega (arith, ap u e)
over_more u a (suc n) =
    let e : a + 1 + n ≡ a + suc n = omega arith in
    let w : suc n + 1 ≡ suc (n + 1) = omega arith in
    rw w (omega (arith, over_more u (a + 1) n, ap u e))

-- two functions that differ at one place alone
pub over_change : (u v : ℕ → ℕ) (c a n : ℕ) → a ≤ c → c < a + n → ((g : ℕ) → (g ≢ c) → u g ≡ v g) → over (range_with_len a n) u + v c ≡ over (range_with_len a n) v + u c
over_change u v c a zero low high e = omega arith
over_change u v c a (suc n) low high e = elim (cases_eq a c) [
  | inl z ↦ omega (arith, ap u z, ap v z, over_same_from u v (a + 1) n (λ g w. e g (λ y. omega arith)))
  | inr z ↦ omega (arith, e a z, over_change u v c (a + 1) n (omega arith) (omega arith) e)
]
