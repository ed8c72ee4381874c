-- One turn of the loop over the rows.
use Rattle.std.proofs.Common.{◌≡◌, ℕ, ◌+◌, ◌<◌, List, length, Some, None, Ok, Err, Option, sym, refl, ap, ◌∙◌, subst, inl, inr, add-one, zero-add, arith}
use Rattle.std.proofs.lemmas.Bool.{cases_eq}
use Rattle.std.specs.Iterator.{YieldsFirst, Yields}
use Rattle.std.specs.Iterator.Adapters.{enumerate_source, enumerate_count, enumerate_steps}
use Rattle.std.specs.List.{All, enumerate_from}
use Rattle.std.specs.declared.iter.Enumerate.{Enumerate}
use Rattle.std.proofs.lemmas.Iterator.{YieldsList}
use Rattle.std.proofs.lemmas.Iterator.Consumers.{YieldsList-at, YieldsList-from_first, YieldsList-from_enumerate, YieldsList-turn, YieldsList-end}
use Rattle.std.proofs.lemmas.List.FromFn.{length-enumerate_from, get_or-enumerate_from}
use Rattle.questions.specs.Questions.{Refusal, acceptance, in_turn}
use Rattle.questions.proofs.Asked.{turn_passed, turn_refused, ok_answer, err_answer}
use Rattle.sheet.specs.declared.row.Key.{Key}
use Rattle.sheet.specs.declared.row.Row.{Row}
use Rattle.sheet.specs.declared.rows.Rows.{Rows}
use Rattle.sheet.specs.Left.{rows_left}
use Rattle.sheet.specs.Rows.{PartIsByte, row_count, row_at, rows}
use Rattle.sheet.specs.Questions.{row_questions, row_refusal, previous_key}
use Rattle.sheet.proofs.Pairs.{length_rows, row_by_place}

-- a row and its place
pub record IsTurn (bytes : List ℕ) (i place : ℕ) (row : Row) : Type 0 where
  pub inside : i < row_count bytes
  pub here : place ≡ i
  pub is : row ≡ row_at bytes i

-- the places and rows that a loop over the rows has read
module _ (bytes : List ℕ) (all : Rows) (whole : rows_left all ≡ rows bytes) (s : Enumerate Rows) (source : enumerate_source s ≡ all) (from_zero : enumerate_count s ≡ 0) where
  abbrev Steps : Enumerate Rows → Option (ℕ × Row) → Enumerate Rows → Type 0
  Steps = enumerate_steps (YieldsFirst rows_left)

  road : YieldsList Steps (λ p. (p.0, p.1)) s (enumerate_from 0 (rows bytes))
  road = YieldsList-from_enumerate (YieldsList-at source (YieldsList-from_first (λ x. x) rows_left (rows bytes) whole)) from_zero

  size : length (enumerate_from 0 (rows bytes)) ≡ row_count bytes
  size = length-enumerate_from 0 (rows bytes) ∙ length_rows bytes

  module _ (read : List (ℕ × Row)) (t u : Enumerate Rows) (r : Option (ℕ × Row)) (y : Yields Steps s read t) (step : Steps t r u) where
    pub turn_of : (place : ℕ) (row : Row) → r ≡ Some (place, row) → IsTurn bytes (length read) place row
    turn_of place row e =
        let k = YieldsList-turn road read t y r u (place, row) e step in
        let inside : length read < row_count bytes = omega (arith, k.0, size) in
        let pair = k.1 ∙ get_or-enumerate_from 0 (rows bytes) (length read) (place, row) (omega (arith, length_rows bytes)) in
        record {
          inside = inside;
          here = ap (λ p. p.0) pair ∙ zero-add (length read);
          is = ap (λ p. p.1) pair ∙ row_by_place bytes (length read) row inside;
        }

    pub all_read : r ≡ None → length read ≡ row_count bytes
    all_read e = (YieldsList-end road read t y r u e step).1 ∙ size

-- before the first row
pub begins : (bytes : List ℕ) → in_turn 0 (row_refusal bytes) ≡ None
unfolding in_turn
begins bytes = refl

-- at row i, after the key `before`, the rows so far having passed
module _ (bytes : List ℕ) (i place : ℕ) (before : Option Key) (row : Row) (turn : IsTurn bytes i place row) (after : before ≡ previous_key bytes i) (so_far : in_turn i (row_refusal bytes) ≡ None) where
  same : row_refusal bytes i ≡ row_questions place before row
  unfolding row_refusal
  same = λ j. row_questions (sym turn.here j) (sym after j) (sym turn.is j)

  pub goes_on : Ok tt ≡ acceptance (row_questions place before row) → (Some row.key ≡ previous_key bytes (i + 1)) × (in_turn (i + 1) (row_refusal bytes) ≡ None)
  goes_on e = (rw (add-one, turn.is), turn_passed (row_refusal bytes) i so_far (same ∙ ok_answer _ tt tt e))

  pub stops : (r : Refusal) → Err r ≡ acceptance (row_questions place before row) → Err r ≡ acceptance (in_turn (row_count bytes) (row_refusal bytes))
  stops r e = ap acceptance (sym (turn_refused (row_refusal bytes) (row_count bytes) i r turn.inside so_far (same ∙ err_answer _ tt r e)))

pub finishes : (bytes : List ℕ) (n : ℕ) → in_turn n (row_refusal bytes) ≡ None → n ≡ row_count bytes → Ok tt ≡ acceptance (in_turn (row_count bytes) (row_refusal bytes))
finishes bytes n so_far is = ap acceptance (sym so_far ∙ ap (λ m. in_turn m (row_refusal bytes)) is)

-- ---- the parts of the rows so far

pub parts_more : (bytes : List ℕ) (i place : ℕ) (row : Row) → IsTurn bytes i place row → PartIsByte row → ((n : ℕ) → n < i → PartIsByte (row_at bytes n)) → (n : ℕ) → n < i + 1 → PartIsByte (row_at bytes n)
parts_more bytes i place row turn here h n l = elim (cases_eq n i) [
  | inl e ↦ rw e (subst PartIsByte turn.is here)
  | inr e ↦ h n (omega arith)
]

pub parts_all : (bytes : List ℕ) (i : ℕ) → i ≡ row_count bytes → ((n : ℕ) → n < i → PartIsByte (row_at bytes n)) → All PartIsByte (rows bytes)
parts_all bytes i e h n d l = subst PartIsByte (sym (row_by_place bytes n d (omega (arith, length_rows bytes)))) (h n (omega (arith, length_rows bytes)))
