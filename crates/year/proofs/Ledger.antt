-- What holds after a list of calls, from what holds of one accepted call.
use Rattle.std.proofs.Common.{◌≡◌, ℕ, suc, List, [], ◌∷◌, length, ℤ, pos, ◌+ℤ◌, ◌-ℤ◌, Some, None, Option, sym, refl, ap, ◌∙◌, arith}
use lib.IntN.{+ℤ_idr, +ℤ_assoc}
use Rattle.std.proofs.lemmas.Int.{ints}
use Rattle.questions.specs.Questions.{Refusal}
use Rattle.charges.specs.Sums.{over, over_z}
use Rattle.year.specs.Book.{Book, Call, refusal, effect, settled, step, run, outcome, outcomes, accepted_of, accepted_calls}
use Rattle.year.specs.Amounts.{Amounts, amounts_with, amounts_after}

pub step_accepted : (b : Book) (c : Call) → refusal b c ≡ None → step b c ≡ effect b c
step_accepted b c e = rw e

pub step_refused : {r : Refusal} (b : Book) (c : Call) → refusal b c ≡ Some r → step b c ≡ b
step_refused b c e = rw e

-- what each accepted call keeps, every list of calls keeps
module _ (P : Book → Type 0) (keeps : (b : Book) (c : Call) → P b → refusal b c ≡ None → P (effect b c)) where
  kept_by_one : (b : Book) (c : Call) → P b → (o : Option Refusal) → refusal b c ≡ o → P (settled o b (effect b c))
  kept_by_one b c p None e = keeps b c p e
  kept_by_one b c p (Some r) e = p

  pub kept_by_all : (b : Book) (cs : List Call) → P b → P (run b cs)
  kept_by_all b [] p = p
  kept_by_all b (c ∷ cs) p = kept_by_all (step b c) cs (kept_by_one b c p (refusal b c) refl)

-- a figure that each accepted call moves by an amount of its own is what it was and the sum of these
module _ (P : Book → Type 0) (value : Book → ℤ) (move : Call → ℤ)
    (keeps : (b : Book) (c : Call) → P b → refusal b c ≡ None → P (effect b c))
    (moves : (b : Book) (c : Call) → P b → refusal b c ≡ None → value (effect b c) ≡ value b +ℤ move c) where
  ledger_one : (b : Book) (c : Call) (cs : List Call) → P b → ((b' : Book) → P b' → value (run b' cs) ≡ value b' +ℤ over_z (accepted_calls b' cs) move) →
      (o : Option Refusal) → refusal b c ≡ o → value (run (settled o b (effect b c)) cs) ≡ value b +ℤ over_z (accepted_of (outcome o c ∷ outcomes (settled o b (effect b c)) cs)) move
  ledger_one b c cs p rest None e =
      rest (effect b c) (keeps b c p e) ∙ ap (λ v. v +ℤ over_z (accepted_calls (effect b c) cs) move) (moves b c p e) ∙ +ℤ_assoc (value b) (move c) (over_z (accepted_calls (effect b c) cs) move)
  ledger_one b c cs p rest (Some r) e = rest b p

  pub ledger : (b : Book) (cs : List Call) → P b → value (run b cs) ≡ value b +ℤ over_z (accepted_calls b cs) move
  ledger b [] p = sym (+ℤ_idr (value b))
  ledger b (c ∷ cs) p = ledger_one b c cs p (λ b' p'. ledger b' cs p') (refusal b c) refl

-- the same of the amounts
module _ (n : ℕ) (P : Book → Type 0) (A : Book → Amounts → Type 0)
    (keeps : (b : Book) (c : Call) → P b → refusal b c ≡ None → P (effect b c))
    (agree : (b : Book) (a : Amounts) (c : Call) → P b → refusal b c ≡ None → A b a → A (effect b c) (amounts_with n a c)) where
  amounts_one : (b : Book) (a : Amounts) (c : Call) (cs : List Call) → P b → A b a → ((b' : Book) (a' : Amounts) → P b' → A b' a' → A (run b' cs) (amounts_after n a' (accepted_calls b' cs))) →
      (o : Option Refusal) → refusal b c ≡ o → A (run (settled o b (effect b c)) cs) (amounts_after n a (accepted_of (outcome o c ∷ outcomes (settled o b (effect b c)) cs)))
  amounts_one b a c cs p g rest None e = rest (effect b c) (amounts_with n a c) (keeps b c p e) (agree b a c p e g)
  amounts_one b a c cs p g rest (Some r) e = rest b a p g

  pub amounts_all : (b : Book) (a : Amounts) (cs : List Call) → P b → A b a → A (run b cs) (amounts_after n a (accepted_calls b cs))
  amounts_all b a [] p g = g
  amounts_all b a (c ∷ cs) p g = amounts_one b a c cs p g (λ b' a' p' g'. amounts_all b' a' cs p' g') (refusal b c) refl

pub length_outcomes : (b : Book) (cs : List Call) → length (outcomes b cs) ≡ length cs
length_outcomes b [] = refl
length_outcomes b (c ∷ cs) = ap suc (length_outcomes (step b c) cs)

-- ---- a sum of moves, part by part

pub three_parts : (move : Call → ℤ) (a : Call → ℕ) (z : Call → ℤ) (p : Call → ℕ) → ((c : Call) → move c ≡ pos (a c) +ℤ z c -ℤ pos (p c)) →
    (cs : List Call) → over_z cs move ≡ pos (over cs a) +ℤ over_z cs z -ℤ pos (over cs p)
three_parts move a z p e [] = refl
three_parts move a z p e (c ∷ cs) = let here = e c in let r = three_parts move a z p e cs in omega (arith, ints)

pub four_parts : (move : Call → ℤ) (a r u p : Call → ℕ) → ((c : Call) → move c ≡ pos (a c) +ℤ pos (r c) -ℤ pos (u c) -ℤ pos (p c)) →
    (cs : List Call) → over_z cs move ≡ pos (over cs a) +ℤ pos (over cs r) -ℤ pos (over cs u) -ℤ pos (over cs p)
four_parts move a r u p e [] = refl
four_parts move a r u p e (c ∷ cs) = let here = e c in let i = four_parts move a r u p e cs in omega (arith, ints)
