-- Lists added place by place; the first gives the length.
use Rattle.std.specs.Prelude.{ℕ, ◌+◌, List, [], ◌∷◌, ℤ, pos, ◌+ℤ◌}

abbrev pub plus : List ℕ → List ℕ → List ℕ
plus [] ys = []
plus (x ∷ xs) [] = x ∷ xs
plus (x ∷ xs) (y ∷ ys) = (x + y) ∷ plus xs ys

abbrev pub plus_z : List ℤ → List ℕ → List ℤ
plus_z [] ys = []
plus_z (x ∷ xs) [] = x ∷ xs
plus_z (x ∷ xs) (y ∷ ys) = (x +ℤ pos y) ∷ plus_z xs ys
