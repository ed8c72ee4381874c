-- The columns of the coordinators, and one coordinator changed.
use Rattle.std.proofs.Common.{◌≡◌, ℕ, ◌+◌, ◌*◌, ◌<◌, ◌≤◌, true, List, [], ◌∷◌, ◌++◌, length, get_or, take, set, ℤ, pos, ◌+ℤ◌, nat_abs, sym, ap, ◌∙◌, inl, inr, arith, w64, SFits, take_all}
use Rattle.std.specs.List.{refill}
use Rattle.std.proofs.lemmas.List.{get_or-map, length-map, length-set, get_or-set_same, get_or-set_other, take_more, take-append-le}
use Rattle.std.proofs.lemmas.Bool.{cases_eq, leb-true}
use Rattle.std.proofs.lemmas.Int.{ints}
use Rattle.charges.specs.Sums.{total, total_z}
use Rattle.sheet.specs.Questions.{within}
use Rattle.year.proofs.Sums.{get_or_le_total}
use Rattle.yearbook.specs.declared.coordinator.Coordinator.{Coordinator}
use Rattle.yearbook.specs.Coordinators.{nobody, market_of, rc_of, markets, rcs}

-- what a write through the slice of a vector leaves in it
pub stored : {X : Type 0} (xs ws : List X) → length ws ≡ length xs → refill (length xs) xs ws ≡ ws
stored xs ws h = take-append-le (length xs) ws _ (omega arith) ∙ take_all (length xs) ws (omega arith)

-- the same of a call that was handed the slice
pub through : {X : Type 0} (xs u ws : List X) → u ≡ xs → length ws ≡ length u → refill (length xs) xs ws ≡ ws
through xs u ws e h = stored xs ws (h ∙ ap length e)

-- one coordinator written through the slice
pub wrote : (f : Coordinator → Coordinator) (t u : List Coordinator) (i : ℕ) → u ≡ t → refill (length t) t (set u i (f (get_or u i nobody))) ≡ set t i (f (get_or t i nobody))
wrote f t u i e = rw e (stored t (set t i (f (get_or t i nobody))) (length-set t i _))

pub markets_at : (t : List Coordinator) (i : ℕ) → i < length t → get_or (markets t) i (pos 0) ≡ (get_or t i nobody).market
markets_at t i w = get_or-map market_of t i nobody (pos 0) w

pub rcs_at : (t : List Coordinator) (i : ℕ) → i < length t → get_or (rcs t) i 0 ≡ (get_or t i nobody).rc
rcs_at t i w = get_or-map rc_of t i nobody 0 w

pub rc_low : (t : List Coordinator) (m : ℕ) → total (rcs t) ≤ m → (i : ℕ) → i < length t → (get_or t i nobody).rc ≤ m
rc_low t m h i w = omega (arith, rcs_at t i w, get_or_le_total (rcs t) i)

pub within_out : (m : ℕ) (z : ℤ) → within m z ≡ true → nat_abs z ≤ m
within_out m z h = leb-true (nat_abs z) m h

pub sum_fits : (z a : ℤ) → nat_abs z ≤ 1000000000000000 → nat_abs a ≤ 1000000000000 → SFits w64 (z +ℤ a)
sum_fits z a h k = omega (arith, ints)

-- ---- one coordinator changed

-- each market balance within bounds
abbrev pub Bounded : List Coordinator → Type 0
Bounded t = (k : ℕ) → k < length t → within 1000000000000000 (get_or t k nobody).market ≡ true

pub bounded_set : (t : List Coordinator) (i : ℕ) (a : Coordinator) → within 1000000000000000 a.market ≡ true → Bounded t → Bounded (set t i a)
bounded_set t i a g h k w =
    let l = length-set t i a in
    elim (cases_eq k i) [
      | inl z ↦ rw z (let v : i < length t = omega arith in rw (get_or-set_same t i a nobody v) g)
      | inr o ↦ rw (get_or-set_other t i k a nobody o) (h k (omega arith))
    ]

-- the same markets, the same bounds
pub bounded_same : (t t' : List Coordinator) → length t' ≡ length t → markets t' ≡ markets t → Bounded t → Bounded t'
bounded_same t t' l e h k w =
    let m : (get_or t' k nobody).market ≡ (get_or t k nobody).market = sym (markets_at t' k w) ∙ ap (λ xs. get_or xs k (pos 0)) e ∙ markets_at t k (omega arith) in
    rw m (h k (omega arith))

-- ---- sums over the coordinators

total_z_push : (xs : List ℤ) (y : ℤ) → total_z (xs ++ y ∷ []) ≡ total_z xs +ℤ y
total_z_push [] y = omega (arith, ints)
total_z_push (x ∷ xs) y = let r = total_z_push xs y in omega (arith, ints)

pub markets_more : (t : List Coordinator) (i : ℕ) → i < length t → total_z (take (i + 1) (markets t)) ≡ total_z (take i (markets t)) +ℤ (get_or t i nobody).market
markets_more t i w =
    let l = length-map t market_of in
    ap total_z (take_more (markets t) i (pos 0) (omega arith)) ∙ total_z_push (take i (markets t)) (get_or (markets t) i (pos 0)) ∙ ap (λ z. total_z (take i (markets t)) +ℤ z) (markets_at t i w)

-- a sum of bounded balances
pub sum_small : (z y : ℤ) (i : ℕ) → nat_abs z ≤ 1000000000000000 * i → nat_abs y ≤ 1000000000000000 → nat_abs (z +ℤ y) ≤ 1000000000000000 * (i + 1)
sum_small z y i h k = omega (arith, ints)

pub sum_small_fits : (z : ℤ) (i : ℕ) → i ≤ 64 → nat_abs z ≤ 1000000000000000 * i → SFits w64 z
sum_small_fits z i h k = omega (arith, ints)
