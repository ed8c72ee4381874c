-- What an answer of check means: the row count if every question is answered yes, else the first question whose answer is no.
use Rattle.std.specs.Prelude.{◌≡◌, ℕ, ◌+◌, ◌*◌, ◌<◌, ◌≤◌, true, List, length, Ok, Err, Result, unsigned_abs}
use Rattle.questions.specs.Questions.{Refusal, no_at}
use Rattle.sheet.specs.Rows.{row_count, row_at}
use Rattle.sheet.specs.Questions.{key_bytes, below, in_range}

-- questions 1 and 2, and 3 to 5 of each row
pub data Question : Type 0 where
  Counted : Question
  Measured : Question
  Above : ℕ → Question
  Ranged : ℕ → Question
  Bounded : ℕ → Question

-- the answer is yes
abbrev pub Yes : List ℕ → Question → Type 0
Yes bytes Counted = (2 ≤ length bytes) × (row_count bytes ≤ 2048)
Yes bytes Measured = length bytes ≡ 2 + 10 * row_count bytes
Yes bytes (Above i) = (k : ℕ) → k + 1 ≡ i → below (key_bytes (row_at bytes k).key) (key_bytes (row_at bytes i).key) ≡ true
Yes bytes (Ranged i) = in_range (row_at bytes i).key ≡ true
Yes bytes (Bounded i) = unsigned_abs (row_at bytes i).quantity ≤ 4000000

-- the order in which the questions are asked
abbrev pub turn : Question → ℕ
turn Counted = 0
turn Measured = 1
turn (Above i) = 2 + 3 * i
turn (Ranged i) = 3 + 3 * i
turn (Bounded i) = 4 + 3 * i

-- what is answered where the answer is no
abbrev pub no_to : Question → Refusal
no_to Counted = no_at 1 0
no_to Measured = no_at 2 0
no_to (Above i) = no_at 3 i
no_to (Ranged i) = no_at 4 i
no_to (Bounded i) = no_at 5 i

abbrev pub FirstNo : List ℕ → Result ℕ Refusal → Type 0
FirstNo bytes (Ok n) = (n ≡ row_count bytes) × ((q : Question) → turn q < 2 + 3 * n → Yes bytes q)
FirstNo bytes (Err refusal) = (q : Question) × (refusal ≡ no_to q) × (Yes bytes q → ⊥) × ((p : Question) → turn p < turn q → Yes bytes p)

-- the same, and a refused sheet is asked the question: a row past its end has none
abbrev pub FirstAskedNo : List ℕ → Result ℕ Refusal → Type 0
FirstAskedNo bytes (Ok n) = FirstNo bytes (Ok n)
FirstAskedNo bytes (Err refusal) = (q : Question) × (turn q < 2 + 3 * row_count bytes) × (refusal ≡ no_to q) × (Yes bytes q → ⊥) × ((p : Question) → turn p < turn q → Yes bytes p)

-- the bytes have one such answer
abbrev pub FirstAskedNoDecides : Type 0
FirstAskedNoDecides = (bytes : List ℕ) (one other : Result ℕ Refusal) → FirstAskedNo bytes one → FirstAskedNo bytes other → one ≡ other
