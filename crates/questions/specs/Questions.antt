-- A refusal: question, layer, place. How a call asks its questions in turn: ask, first, in_turn. What it answers: answer, told.
use Rattle.std.specs.Prelude.{ℕ, zero, suc, Bool, true, false, cond, Some, None, Ok, Err, Option, Result, nat_le}
use Rattle.questions.specs.declared.Layer.{Layer}
use Rattle.questions.specs.declared.Layer.TheVariants.{Sheet, Book, Rc, Concession}

-- the question whose answer was no, the layer that asked it, and where
pub record Refusal : Type 0 where
  pub question : ℕ
  pub layer : Layer
  pub place : ℕ

-- the layer goes by the question's number
abbrev pub layer_of : ℕ → Layer
layer_of question = cond (nat_le question 5) Sheet (cond (nat_le question 13) Book (cond (nat_le question 17) Rc Concession))

-- the answer no to a question at a place
abbrev pub no_at : ℕ → ℕ → Refusal
no_at question place = record { question = question; layer = layer_of question; place = place }

-- one question: where the answer is yes, the questions behind it are asked
unfoldable pub ask : Bool → ℕ → ℕ → Option Refusal → Option Refusal
ask true question place rest = rest
ask false question place rest = Some (no_at question place)

-- the questions of one part, and then those behind it
unfoldable pub first : Option Refusal → Option Refusal → Option Refusal
first None rest = rest
first (Some refusal) rest = Some refusal

-- the questions of each place below n, from the lowest
unfoldable pub in_turn : ℕ → (ℕ → Option Refusal) → Option Refusal
in_turn zero asked = None
in_turn (suc n) asked = first (in_turn n asked) (asked n)

-- what a call answers: its value, unless it is refused
abbrev pub answer : {T : Type 0} → Option Refusal → T → Result T Refusal
answer None value = Ok value
answer (Some refusal) value = Err refusal

-- what a call answers that has nothing to tell but that it was accepted
abbrev pub acceptance : Option Refusal → Result (Unit {0}) Refusal
acceptance refusal = answer refusal tt

-- an answer of the code, with its fault told by question, layer and place
abbrev pub told : {T E : Type 0} → (E → Refusal) → Result T E → Result T Refusal
told refusal-of (Ok value) = Ok value
told refusal-of (Err fault) = Err (refusal-of fault)
