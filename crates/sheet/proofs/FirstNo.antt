-- The answer of check is the row count or the first no.
use Rattle.std.proofs.Common.{◌≡◌, ℕ, zero, suc, ◌+◌, ◌*◌, ◌<◌, Bool, true, false, ◌&&◌, eqb, leb, List, length, Some, None, Ok, Err, Option, Result, sym, refl, ap, ◌∙◌, subst, ⊎_elim, arith}
use Rattle.std.proofs.lemmas.Bool.{and_parts, leb-true, eqb-true, eq-eqb, le-leb, both_ways, cases_eq, cases_order}
use Rattle.questions.specs.Questions.{Refusal, no_at, in_turn, answer}
use Rattle.questions.proofs.Asked.{ask_passed, ask_yes, ask_no, first_none, first_refused, by_refusal, turn_at, turn_first, some_none}
use Rattle.sheet.specs.declared.row.Key.{Key}
use Rattle.sheet.specs.declared.row.Row.{Row}
use Rattle.sheet.specs.Rows.{row_count, row_at}
use Rattle.sheet.specs.FirstNo.{Question, Counted, Measured, Above, Ranged, Bounded, Yes, turn, no_to, FirstNo, FirstAskedNo, FirstAskedNoDecides}
use Rattle.sheet.specs.Questions.{ascends, in_range, within, previous_key, count_refusal, row_questions, row_refusal, sheet_refusal}
use Rattle.sheet.specs.Sheets.{Passes}
use Rattle.sheet.proofs.Accepted.{row_passed}

above_yes : (bytes : List ℕ) (i : ℕ) → ascends (previous_key bytes i) (row_at bytes i).key ≡ true → Yes bytes (Above i)
above_yes bytes zero e k h = absurd (omega arith)
above_yes bytes (suc i) e k h = let is : k ≡ i = omega arith in rw is e

above_no : (bytes : List ℕ) (i : ℕ) → ascends (previous_key bytes i) (row_at bytes i).key ≡ false → Yes bytes (Above i) → ⊥
above_no bytes zero e y = grind arith
above_no bytes (suc i) e y = let t = y i (omega arith) in grind arith

by_bool : {P : Type 0} (b : Bool) → (b ≡ true → P) → (b ≡ false → P) → P
by_bool true yes_way no_way = yes_way refl
by_bool false yes_way no_way = no_way refl

same_refusal : (o : Option Refusal) (r s : Refusal) → o ≡ Some r → o ≡ Some s → r ≡ s
same_refusal o r s d e = cc

-- which question of a row was answered no
module _ (i : ℕ) (before : Option Key) (row : Row) (r : Refusal) (e : row_questions i before row ≡ Some r) where
  at_3 : ascends before row.key ≡ false → r ≡ no_to (Above i)
  unfolding row_questions
  at_3 low = same_refusal _ _ _ e (ask_no 3 i _ low)

  at_4 : ascends before row.key ≡ true → in_range row.key ≡ false → r ≡ no_to (Ranged i)
  unfolding row_questions
  at_4 up out = same_refusal _ _ _ e (ask_yes 3 i _ up ∙ ask_no 4 i _ out)

  at_5 : ascends before row.key ≡ true → in_range row.key ≡ true → within 4000000 row.quantity ≡ false → r ≡ no_to (Bounded i)
  unfolding row_questions
  at_5 up inside large = same_refusal _ _ _ e (ask_yes 3 i _ up ∙ ask_yes 4 i _ inside ∙ ask_no 5 i _ large)

  not_all : ascends before row.key ≡ true → in_range row.key ≡ true → within 4000000 row.quantity ≡ true → ⊥
  unfolding row_questions
  not_all up inside small = some_none (sym e ∙ ask_yes 3 i _ up ∙ ask_yes 4 i _ inside ∙ ask_yes 5 i _ small)

counted : (bytes : List ℕ) → count_refusal bytes ≡ None → Yes bytes Counted
unfolding count_refusal
counted bytes e =
    let p = and_parts (leb 2 (length bytes)) (leb (row_count bytes) 2048) (ask_passed _ _ _ _ e).0 in
    (leb-true 2 (length bytes) p.0, leb-true (row_count bytes) 2048 p.1)

-- the questions asked before row n, if it and what comes before it pass
module _ (bytes : List ℕ) (one : count_refusal bytes ≡ None) (two : length bytes ≡ 2 + 10 * row_count bytes) where
  passed : (i n : ℕ) → in_turn n (row_refusal bytes) ≡ None → i < n → (ascends (previous_key bytes i) (row_at bytes i).key ≡ true) × Passes (row_at bytes i)
  unfolding row_refusal
  passed i n e h = row_passed i (previous_key bytes i) (row_at bytes i) (turn_at (row_refusal bytes) n i e h)

  before : (n : ℕ) → in_turn n (row_refusal bytes) ≡ None → (q : Question) → turn q < 2 + 3 * n → Yes bytes q
  before n e Counted h = counted bytes one
  before n e Measured h = two
  before n e (Above i) h = above_yes bytes i (passed i n e (omega arith)).0
  before n e (Ranged i) h = (passed i n e (omega arith)).1.ranged
  before n e (Bounded i) h = leb-true _ _ (passed i n e (omega arith)).1.bounded

  -- the same with the first questions of row i
  above_too : (i : ℕ) → in_turn i (row_refusal bytes) ≡ None → Yes bytes (Above i) → (p : Question) → turn p < 3 + 3 * i → Yes bytes p
  above_too i e y Counted h = before i e Counted (omega arith)
  above_too i e y Measured h = before i e Measured (omega arith)
  above_too i e y (Above k) h = ⊎_elim (λ same. subst (λ j. Yes bytes (Above j)) (sym same) y) (λ other. before i e (Above k) (omega arith)) (cases_eq k i)
  above_too i e y (Ranged k) h = before i e (Ranged k) (omega arith)
  above_too i e y (Bounded k) h = before i e (Bounded k) (omega arith)

  ranged_too : (i : ℕ) → in_turn i (row_refusal bytes) ≡ None → Yes bytes (Above i) → Yes bytes (Ranged i) → (p : Question) → turn p < 4 + 3 * i → Yes bytes p
  ranged_too i e y z Counted h = before i e Counted (omega arith)
  ranged_too i e y z Measured h = before i e Measured (omega arith)
  ranged_too i e y z (Above k) h = above_too i e y (Above k) (omega arith)
  ranged_too i e y z (Ranged k) h = ⊎_elim (λ same. subst (λ j. Yes bytes (Ranged j)) (sym same) z) (λ other. before i e (Ranged k) (omega arith)) (cases_eq k i)
  ranged_too i e y z (Bounded k) h = before i e (Bounded k) (omega arith)

  -- the question of row i that is answered no
  at : (i : ℕ) (r : Refusal) → i < row_count bytes → in_turn i (row_refusal bytes) ≡ None → row_questions i (previous_key bytes i) (row_at bytes i) ≡ Some r → FirstAskedNo bytes (Err r)
  at i r w e refused =
      by_bool (ascends (previous_key bytes i) (row_at bytes i).key)
      (λ up.
      by_bool (in_range (row_at bytes i).key)
      (λ inside.
      by_bool (within 4000000 (row_at bytes i).quantity)
      (λ small. absurd (not_all i (previous_key bytes i) (row_at bytes i) r refused up inside small))
      (λ large. (Bounded i, omega arith, at_5 i (previous_key bytes i) (row_at bytes i) r refused up inside large, λ y. both_ways _ large (le-leb _ _ y), ranged_too i e (above_yes bytes i up) inside)))
      (λ out. (Ranged i, omega arith, at_4 i (previous_key bytes i) (row_at bytes i) r refused up out, both_ways _ out, above_too i e (above_yes bytes i up))))
      (λ low. (Above i, omega arith, at_3 i (previous_key bytes i) (row_at bytes i) r refused low, above_no bytes i low, before i e))

only_first : (bytes : List ℕ) → count_refusal bytes ≡ None → (p : Question) → turn p < 1 → Yes bytes p
only_first bytes one Counted h = counted bytes one
only_first bytes one Measured h = absurd (omega arith)
only_first bytes one (Above i) h = absurd (omega arith)
only_first bytes one (Ranged i) h = absurd (omega arith)
only_first bytes one (Bounded i) h = absurd (omega arith)

-- question 1 answered no
no_count : (bytes : List ℕ) (r : Refusal) → count_refusal bytes ≡ Some r → (r ≡ no_to Counted) × (Yes bytes Counted → ⊥)
unfolding count_refusal
no_count bytes r e =
    by_bool (leb 2 (length bytes) && leb (row_count bytes) 2048)
    (λ passes. absurd (some_none (sym e ∙ ask_yes 1 0 _ passes)))
    (λ fails. (same_refusal _ _ _ e (ask_no 1 0 _ fails), λ y. both_ways _ fails (let a = le-leb 2 (length bytes) y.0 in let b = le-leb (row_count bytes) 2048 y.1 in rw (a, b))))

in_rows : (bytes : List ℕ) → count_refusal bytes ≡ None → length bytes ≡ 2 + 10 * row_count bytes → (r : Refusal) → in_turn (row_count bytes) (row_refusal bytes) ≡ Some r → FirstAskedNo bytes (Err r)
unfolding row_refusal
in_rows bytes one two r some = let p = turn_first (row_refusal bytes) (row_count bytes) r some in at bytes one two p.0 r p.1 p.2 p.3

pub first_asked_no : (bytes : List ℕ) → FirstAskedNo bytes (answer (sheet_refusal bytes) (row_count bytes))
unfolding sheet_refusal
first_asked_no bytes =
    by_refusal (count_refusal bytes)
    (λ one.
    by_bool (eqb (length bytes) (2 + 10 * row_count bytes))
    (λ long.
    let two = eqb-true (length bytes) (2 + 10 * row_count bytes) long in
    by_refusal (in_turn (row_count bytes) (row_refusal bytes))
    (λ all. subst (λ o. FirstAskedNo bytes (answer o (row_count bytes))) (sym (first_none _ one ∙ ask_yes 2 0 _ long ∙ all)) (refl, before bytes one two (row_count bytes) all))
    (λ r some. subst (λ o. FirstAskedNo bytes (answer o (row_count bytes))) (sym (first_none _ one ∙ ask_yes 2 0 _ long ∙ some)) (in_rows bytes one two r some)))
    (λ short. subst (λ o. FirstAskedNo bytes (answer o (row_count bytes))) (sym (first_none _ one ∙ ask_no 2 0 _ short)) (Measured, omega arith, refl, (λ y. both_ways _ short (eq-eqb _ _ y)), only_first bytes one)))
    (λ r some. let p = no_count bytes r some in subst (λ o. FirstAskedNo bytes (answer o (row_count bytes))) (sym (first_refused _ some)) (Counted, omega arith, p.0, p.1, λ p h. absurd (omega arith)))

pub first_asked_no_of : (bytes : List ℕ) (a : Result ℕ Refusal) → a ≡ answer (sheet_refusal bytes) (row_count bytes) → FirstAskedNo bytes a
first_asked_no_of bytes a e = subst (FirstAskedNo bytes) (sym e) (first_asked_no bytes)

unasked : (bytes : List ℕ) (a : Result ℕ Refusal) → FirstAskedNo bytes a → FirstNo bytes a
unasked bytes (Ok n) h = h
unasked bytes (Err r) h = (h.0, h.2, h.3, h.4)

pub first_no : (bytes : List ℕ) → FirstNo bytes (answer (sheet_refusal bytes) (row_count bytes))
first_no bytes = unasked bytes (answer (sheet_refusal bytes) (row_count bytes)) (first_asked_no bytes)

pub first_no_of : (bytes : List ℕ) (a : Result ℕ Refusal) → a ≡ answer (sheet_refusal bytes) (row_count bytes) → FirstNo bytes a
first_no_of bytes a e = subst (FirstNo bytes) (sym e) (first_no bytes)

-- ---- the answer is the only one

same_place : (question i k : ℕ) → i ≡ k → no_at question i ≡ no_at question k
same_place question i k e = ap (no_at question) e

same_turn : (p q : Question) → turn p ≡ turn q → no_to p ≡ no_to q
same_turn Counted Counted e = refl
same_turn Counted Measured e = absurd (omega arith)
same_turn Counted (Above k) e = absurd (omega arith)
same_turn Counted (Ranged k) e = absurd (omega arith)
same_turn Counted (Bounded k) e = absurd (omega arith)
same_turn Measured Counted e = absurd (omega arith)
same_turn Measured Measured e = refl
same_turn Measured (Above k) e = absurd (omega arith)
same_turn Measured (Ranged k) e = absurd (omega arith)
same_turn Measured (Bounded k) e = absurd (omega arith)
same_turn (Above i) Counted e = absurd (omega arith)
same_turn (Above i) Measured e = absurd (omega arith)
same_turn (Above i) (Above k) e = same_place 3 i k (omega arith)
same_turn (Above i) (Ranged k) e = absurd (omega arith)
same_turn (Above i) (Bounded k) e = absurd (omega arith)
same_turn (Ranged i) Counted e = absurd (omega arith)
same_turn (Ranged i) Measured e = absurd (omega arith)
same_turn (Ranged i) (Above k) e = absurd (omega arith)
same_turn (Ranged i) (Ranged k) e = same_place 4 i k (omega arith)
same_turn (Ranged i) (Bounded k) e = absurd (omega arith)
same_turn (Bounded i) Counted e = absurd (omega arith)
same_turn (Bounded i) Measured e = absurd (omega arith)
same_turn (Bounded i) (Above k) e = absurd (omega arith)
same_turn (Bounded i) (Ranged k) e = absurd (omega arith)
same_turn (Bounded i) (Bounded k) e = same_place 5 i k (omega arith)

-- an accepted sheet has no question that is answered no
never_both : (bytes : List ℕ) (n : ℕ) (r : Refusal) → FirstAskedNo bytes (Ok n) → FirstAskedNo bytes (Err r) → ⊥
never_both bytes n r h g = g.3 (h.1 g.0 (rw h.0 g.1))

pub first_asked_no_decides : FirstAskedNoDecides
first_asked_no_decides bytes (Ok n) (Ok m) h g = ap Ok (h.0 ∙ sym g.0)
first_asked_no_decides bytes (Ok n) (Err s) h g = absurd (never_both bytes n s h g)
first_asked_no_decides bytes (Err r) (Ok m) h g = absurd (never_both bytes m r g h)
first_asked_no_decides bytes (Err r) (Err s) h g =
    ⊎_elim
    (λ same. ap Err (h.2 ∙ same_turn h.0 g.0 same ∙ sym g.2))
    (⊎_elim (λ less. absurd (h.3 (g.4 h.0 less))) (λ more. absurd (g.3 (h.4 g.0 more))))
    (cases_order (turn h.0) (turn g.0))
