-- Sums of lists, and of lists added place by place.
use Rattle.std.proofs.Common.{◌≡◌, ℕ, zero, suc, ◌+◌, ◌*◌, ◌<◌, ◌≤◌, List, [], ◌∷◌, ◌++◌, map, length, get_or, take, set, replicate, ℤ, pos, ◌+ℤ◌, sym, refl, ap, ◌∙◌, not-suc-le-zero, zero-add, mul-suc, add-one, arith}
use lib.IntN.{+ℤ_idl}
use Rattle.std.specs.List.{range_with_len, sum_by}
use Rattle.std.proofs.lemmas.List.FromFn.{map-range_with_len_more}
use Rattle.std.proofs.lemmas.Int.{ints}
use Rattle.std.proofs.lemmas.List.Sums.{sum_by-cons}
use Rattle.charges.specs.Sums.{total, total_z}
use Rattle.year.specs.Plus.{plus, plus_z}

pub zero_not_suc : {n : ℕ} → zero ≡ suc n → ⊥
zero_not_suc h = omega arith

pub total_set : (xs : List ℕ) (i y : ℕ) → i < length xs → total (set xs i y) + get_or xs i 0 ≡ total xs + y
total_set [] i y h = omega arith
total_set (x ∷ xs) zero y h = omega arith
total_set (x ∷ xs) (suc i) y h = omega (arith, total_set xs i y (omega arith))

pub total_z_set : (xs : List ℤ) (i : ℕ) (y : ℤ) → i < length xs → total_z (set xs i y) +ℤ get_or xs i (pos 0) ≡ total_z xs +ℤ y
total_z_set [] i y h = absurd (not-suc-le-zero h)
total_z_set (x ∷ xs) zero y h = omega (arith, ints)
total_z_set (x ∷ xs) (suc i) y h = let r = total_z_set xs i y (omega arith) in omega (arith, ints)

pub get_or_le_total : (xs : List ℕ) (i : ℕ) → get_or xs i 0 ≤ total xs
get_or_le_total [] i = omega arith
get_or_le_total (x ∷ xs) zero = omega arith
get_or_le_total (x ∷ xs) (suc i) = omega (arith, get_or_le_total xs i)

-- each at most m
pub total_le : (m : ℕ) (xs : List ℕ) → ((i : ℕ) → i < length xs → get_or xs i 0 ≤ m) → total xs ≤ m * length xs
total_le m [] h = omega arith
total_le m (x ∷ xs) h = let here : x ≤ m = h 0 (omega arith) in omega (arith, total_le m xs (λ i w. h (suc i) (omega arith)), mul-suc m (length xs))

pub length_plus : (xs ys : List ℕ) → length (plus xs ys) ≡ length xs
length_plus [] ys = refl
length_plus (x ∷ xs) [] = refl
length_plus (x ∷ xs) (y ∷ ys) = ap suc (length_plus xs ys)

pub length_plus_z : (xs : List ℤ) (ys : List ℕ) → length (plus_z xs ys) ≡ length xs
length_plus_z [] ys = refl
length_plus_z (x ∷ xs) [] = refl
length_plus_z (x ∷ xs) (y ∷ ys) = ap suc (length_plus_z xs ys)

pub total_plus : (xs ys : List ℕ) → length xs ≡ length ys → total (plus xs ys) ≡ total xs + total ys
total_plus [] [] h = refl
total_plus [] (y ∷ ys) h = omega arith
total_plus (x ∷ xs) [] h = omega arith
total_plus (x ∷ xs) (y ∷ ys) h = omega (arith, total_plus xs ys (omega arith))

pub total_z_plus_z : (xs : List ℤ) (ys : List ℕ) → length xs ≡ length ys → total_z (plus_z xs ys) ≡ total_z xs +ℤ pos (total ys)
total_z_plus_z [] [] h = refl
total_z_plus_z [] (y ∷ ys) h = absurd (zero_not_suc h)
total_z_plus_z (x ∷ xs) [] h = absurd (zero_not_suc (sym h))
total_z_plus_z (x ∷ xs) (y ∷ ys) h = let r = total_z_plus_z xs ys (omega arith) in omega (arith, ints)

pub get_or_plus : (xs ys : List ℕ) (i : ℕ) → length xs ≡ length ys → get_or (plus xs ys) i 0 ≡ get_or xs i 0 + get_or ys i 0
get_or_plus [] [] i h = refl
get_or_plus [] (y ∷ ys) i h = omega arith
get_or_plus (x ∷ xs) [] i h = omega arith
get_or_plus (x ∷ xs) (y ∷ ys) zero h = refl
get_or_plus (x ∷ xs) (y ∷ ys) (suc i) h = get_or_plus xs ys i (omega arith)

pub get_or_plus_z : (xs : List ℤ) (ys : List ℕ) (i : ℕ) → length xs ≡ length ys → get_or (plus_z xs ys) i (pos 0) ≡ get_or xs i (pos 0) +ℤ pos (get_or ys i 0)
get_or_plus_z [] [] i h = refl
get_or_plus_z [] (y ∷ ys) i h = absurd (zero_not_suc h)
get_or_plus_z (x ∷ xs) [] i h = absurd (zero_not_suc (sym h))
get_or_plus_z (x ∷ xs) (y ∷ ys) zero h = refl
get_or_plus_z (x ∷ xs) (y ∷ ys) (suc i) h = get_or_plus_z xs ys i (omega arith)

pub total_more : (xs : List ℕ) (i : ℕ) → i < length xs → total (take (suc i) xs) ≡ total (take i xs) + get_or xs i 0
total_more [] i h = absurd (not-suc-le-zero h)
total_more (x ∷ xs) zero h = omega arith
total_more (x ∷ xs) (suc i) h = omega (arith, total_more xs i (omega arith))

-- the same by a loop's i + 1
pub total_next : (xs : List ℕ) (i : ℕ) → i < length xs → total (take (i + 1) xs) ≡ total (take i xs) + get_or xs i 0
total_next xs i h = rw add-one (total_more xs i h)

pub total_more_zero : (xs : List ℕ) (i : ℕ) → get_or xs i 0 ≡ 0 → total (take (suc i) xs) ≡ total (take i xs)
total_more_zero [] zero h = refl
total_more_zero [] (suc i) h = refl
total_more_zero (x ∷ xs) zero h = omega arith
total_more_zero (x ∷ xs) (suc i) h = ap (λ n. x + n) (total_more_zero xs i h)

pub total_take_le : (i : ℕ) (xs : List ℕ) → total (take i xs) ≤ total xs
total_take_le zero xs = omega arith
total_take_le (suc i) [] = omega arith
total_take_le (suc i) (x ∷ xs) = omega (arith, total_take_le i xs)

total_append : (xs ys : List ℕ) → total (xs ++ ys) ≡ total xs + total ys
total_append [] ys = sym (zero-add (total ys))
total_append (x ∷ xs) ys = omega (arith, total_append xs ys)

pub total_map_more : (f : ℕ → ℕ) (n : ℕ) → total (map f (range_with_len 0 (n + 1))) ≡ total (map f (range_with_len 0 n)) + f n
total_map_more f n = ap total (map-range_with_len_more f 0 n n (zero-add n)) ∙ total_append (map f (range_with_len 0 n)) (f n ∷ []) ∙ ap (λ z. total (map f (range_with_len 0 n)) + z) (omega arith)

pub total_zeros : (n : ℕ) → total (replicate n 0) ≡ 0
total_zeros zero = refl
total_zeros (suc n) = zero-add _ ∙ total_zeros n

pub total_z_zeros : (n : ℕ) → total_z (replicate n (pos 0)) ≡ pos 0
total_z_zeros zero = refl
total_z_zeros (suc n) = +ℤ_idl _ ∙ total_z_zeros n

-- the sum that std's chains give
pub sum_by_is : {X : Type 0} (f : X → ℕ) (xs : List X) → sum_by f xs ≡ total (map f xs)
sum_by_is f [] = refl
sum_by_is f (x ∷ xs) = sum_by-cons f x xs ∙ ap (λ n. f x + n) (sum_by_is f xs)
