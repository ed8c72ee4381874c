-- The questions 1 to 5 that a sheet has to pass, its refusal, and what an accepted sheet is.
use Rattle.std.specs.Prelude.{◌≡◌, ℕ, zero, suc, ◌+◌, ◌*◌, Bool, true, false, ◌&&◌, ◌||◌, List, [], ◌∷◌, length, ℤ, is_some, Some, None, Option, ◌==◌, nat_le, nat_lt, unsigned_abs}
use Rattle.questions.specs.Questions.{Refusal, ask, first, in_turn}
use Rattle.sheet.specs.declared.row.Key.{Key}
use Rattle.sheet.specs.declared.row.Row.{Row}
use Rattle.sheet.specs.Rows.{row_count, row_at}

-- the first list is below the second, compared byte by byte
abbrev pub below : List ℕ → List ℕ → Bool
below [] [] = false
below [] (b ∷ bs) = true
below (a ∷ as') [] = false
below (a ∷ as') (b ∷ bs) = nat_lt a b || (a == b && below as' bs)

abbrev pub key_bytes : Key → List ℕ
key_bytes k = k.coordinator ∷ k.resource ∷ k.hour ∷ k.interval ∷ k.part ∷ k.kind ∷ []

-- the key is above the one before it, if there is one
abbrev pub ascends : Option Key → Key → Bool
ascends None key = true
ascends (Some before) key = below (key_bytes before) (key_bytes key)

abbrev pub known_kind : ℕ → Bool
known_kind k = (nat_le 1 k && nat_le k 14) || k == 20 || (nat_le 30 k && nat_le k 35) || k == 40 || k == 50 || k == 51

abbrev pub in_range : Key → Bool
in_range k = nat_le k.coordinator 63 && nat_le 1 k.hour && nat_le k.hour 25 && nat_le k.interval 12 && known_kind k.kind

-- from -most to most
abbrev pub within : ℕ → ℤ → Bool
within most z = nat_le (unsigned_abs z) most

abbrev pub previous_key : List ℕ → ℕ → Option Key
previous_key bytes zero = None
previous_key bytes (suc i) = Some (row_at bytes i).key

-- the questions of row i, after a row with the key before
unfoldable pub row_questions : ℕ → Option Key → Row → Option Refusal
row_questions i before row =
    ask (ascends before row.key) 3 i
    (ask (in_range row.key) 4 i
    (ask (within 4000000 row.quantity) 5 i None))

unfoldable pub row_refusal : List ℕ → ℕ → Option Refusal
row_refusal bytes i = row_questions i (previous_key bytes i) (row_at bytes i)

unfoldable pub count_refusal : List ℕ → Option Refusal
count_refusal bytes = ask (nat_le 2 (length bytes) && nat_le (row_count bytes) 2048) 1 0 None

unfoldable pub sheet_refusal : List ℕ → Option Refusal
sheet_refusal bytes =
    first (count_refusal bytes)
    (ask (length bytes == 2 + 10 * row_count bytes) 2 0
    (in_turn (row_count bytes) (row_refusal bytes)))

-- every question is answered yes
abbrev pub Accepted : List ℕ → Type 0
Accepted bytes = is_some (sheet_refusal bytes) ≡ false
