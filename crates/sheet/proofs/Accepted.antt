-- What an accepted sheet keeps to: at most 2,048 rows, keys that ascend strictly, keys in range, quantities within bounds.
use Rattle.std.proofs.Common.{◌≡◌, ℕ, suc, ◌+◌, ◌*◌, ◌<◌, ◌≤◌, true, false, eqb, leb, List, length, is_some, Some, None, Option, refl}
use Rattle.std.proofs.lemmas.Bool.{and_parts, leb-true, eqb-true}
use Rattle.questions.specs.Questions.{Refusal, in_turn}
use Rattle.questions.proofs.Asked.{ask_passed, first_passed, turn_at}
use Rattle.sheet.specs.declared.row.Key.{Key}
use Rattle.sheet.specs.declared.row.Row.{Row}
use Rattle.sheet.specs.Rows.{row_count, row_at}
use Rattle.sheet.specs.Questions.{below, key_bytes, ascends, row_questions, row_refusal, previous_key, count_refusal, sheet_refusal, Accepted}
use Rattle.sheet.specs.Sheets.{Passes}

none_if : (o : Option Refusal) → is_some o ≡ false → o ≡ None
none_if None e = refl
none_if (Some r) e = cc

pub nothing_refused : (bytes : List ℕ) → Accepted bytes → sheet_refusal bytes ≡ None
nothing_refused bytes ok = none_if (sheet_refusal bytes) ok

pub accepted_by : (bytes : List ℕ) → sheet_refusal bytes ≡ None → Accepted bytes
accepted_by bytes e = rw e

-- what the questions of a row ask
pub row_passed : (i : ℕ) (before : Option Key) (r : Row) → row_questions i before r ≡ None → (ascends before r.key ≡ true) × Passes r
unfolding row_questions
row_passed i before r e =
    let p = ask_passed _ _ _ _ e in
    let q = ask_passed _ _ _ _ p.1 in
    let s = ask_passed _ _ _ _ q.1 in
    (p.0, record { ranged = q.0; bounded = s.0 })

module _ (bytes : List ℕ) (ok : Accepted bytes) where
  count_passed : (leb 2 (length bytes) ≡ true) × (leb (row_count bytes) 2048 ≡ true)
  unfolding sheet_refusal count_refusal
  count_passed =
      let p = first_passed _ _ (nothing_refused bytes ok) in
      and_parts (leb 2 (length bytes)) (leb (row_count bytes) 2048) (ask_passed _ _ _ _ p.0).0

  pub two_bytes : 2 ≤ length bytes
  two_bytes = leb-true 2 (length bytes) count_passed.0

  pub few_rows : row_count bytes ≤ 2048
  few_rows = leb-true (row_count bytes) 2048 count_passed.1

  rows_asked : (eqb (length bytes) (2 + 10 * row_count bytes) ≡ true) × (in_turn (row_count bytes) (row_refusal bytes) ≡ None)
  unfolding sheet_refusal
  rows_asked = ask_passed _ _ _ _ (first_passed _ _ (nothing_refused bytes ok)).1

  pub measured : length bytes ≡ 2 + 10 * row_count bytes
  measured = eqb-true (length bytes) (2 + 10 * row_count bytes) rows_asked.0

  asked_at : (i : ℕ) → i < row_count bytes → (ascends (previous_key bytes i) (row_at bytes i).key ≡ true) × Passes (row_at bytes i)
  unfolding row_refusal
  asked_at i h = row_passed i (previous_key bytes i) (row_at bytes i) (turn_at (row_refusal bytes) (row_count bytes) i rows_asked.1 h)

  -- a key is above the one before it
  pub key_above : (i : ℕ) → suc i < row_count bytes → below (key_bytes (row_at bytes i).key) (key_bytes (row_at bytes (suc i)).key) ≡ true
  key_above i h = (asked_at (suc i) h).0

  pub row_passes : (i : ℕ) → i < row_count bytes → Passes (row_at bytes i)
  row_passes i h = (asked_at i h).1
