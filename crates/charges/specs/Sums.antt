-- Sums over lists.
use Rattle.std.specs.Prelude.{ℕ, ◌+◌, List, [], ◌∷◌, ℤ, pos, ◌+ℤ◌}

-- the sum of f over the list
abbrev pub over : {X : Type 0} → List X → (X → ℕ) → ℕ
over [] f = 0
over (x ∷ xs) f = f x + over xs f

abbrev pub over_z : {X : Type 0} → List X → (X → ℤ) → ℤ
over_z [] f = pos 0
over_z (x ∷ xs) f = f x +ℤ over_z xs f

abbrev pub total : List ℕ → ℕ
total xs = over xs (λ x. x)

abbrev pub total_z : List ℤ → ℤ
total_z xs = over_z xs (λ x. x)
