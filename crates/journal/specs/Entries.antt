-- The call that an entry is, and what calls are answered.
use Rattle.std.specs.Prelude.{ℕ, List, [], ◌∷◌, Some, None, Ok, Err, Option, Result}
use Rattle.questions.specs.Questions.{Refusal, answer}
use Rattle.sheet.specs.declared.row.Row.{Row}
use Rattle.charges.specs.Rules.{meaning}
use Rattle.year.specs.Terms.{Terms, count}
use Rattle.year.specs.Market.{post, adjust, pay_market, posted_sum}
use Rattle.year.specs.Rc.{assess, default}
use Rattle.year.specs.Book.{Book, Call, of_market, of_rc, opened, refusal, step}
use Rattle.yearbook.specs.Payments.{pay_call}
use Rattle.journal.specs.declared.entry.Entry.{Entry}
use Rattle.journal.specs.declared.entry.Entry.TheVariants.{Post, Adjust, Pay, Assess, Default}
use Rattle.journal.specs.declared.entry.Answer.{Answer}
use Rattle.journal.specs.declared.entry.Answer.TheVariants.{Posted, Accepted}

-- by the code and the quantity that its rule means
abbrev pub call_of : {R : Type 0} → (R → ℕ) → (R → ℕ → ℕ → List Row → ℕ) → Entry R → Call
call_of code quantity (Post rule day rate sheet) = of_market (post (meaning (code rule.now) (quantity rule.now)) day rate sheet.now)
call_of code quantity (Adjust coordinator amount) = of_market (adjust coordinator amount)
call_of code quantity (Pay side coordinator amount) = pay_call side coordinator amount
call_of code quantity (Assess charge minimum) = of_rc (assess charge minimum)
call_of code quantity (Default debtor unpaid) = of_rc (default debtor unpaid)

-- what an accepted call answers
abbrev pub answer_to : Book → Call → Answer
answer_to b (of_market (post m day rate sheet)) = Posted (posted_sum (count b.terms) m rate sheet)
answer_to b (of_market (adjust coordinator amount)) = Accepted
answer_to b (of_market (pay_market coordinator amount)) = Accepted
answer_to b (of_rc call) = Accepted

-- acceptance, as an answer
abbrev pub as_answer : {E : Type 0} → Result (Unit {0}) E → Result Answer E
as_answer (Ok accepted) = Ok Accepted
as_answer (Err fault) = Err fault

-- what each call of a list is answered, in turn
abbrev pub answers_to : Book → List Call → List (Result Answer Refusal)
answers_to b [] = []
answers_to b (call ∷ calls) = answer (refusal b call) (answer_to b call) ∷ answers_to (step b call) calls

-- the new values in the places of the old ones, as far as there are places
abbrev pub written : {X : Type 0} → List X → List X → List X
written [] new = []
written (x ∷ old) [] = x ∷ old
written (x ∷ old) (y ∷ new) = y ∷ written old new

-- what a year's calls are answered; after a refused opening none is
abbrev pub year_answers : Option Refusal → Terms → List Call → List (Result Answer Refusal)
year_answers None t calls = answers_to (opened t) calls
year_answers (Some refusal) t calls = []
