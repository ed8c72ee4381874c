-- What a call does to a book, and what it answers.
use Rattle.std.specs.Prelude.{◌≡◌, ℕ, List, None, Ok, Err, Result}
use Rattle.questions.specs.Questions.{Refusal, answer}
use Rattle.sheet.specs.Rows.{rows}
use Rattle.charges.specs.Rules.{Meaning, lines}
use Rattle.year.specs.Terms.{count}
use Rattle.year.specs.Market.{post}
use Rattle.year.specs.Book.{Book, Call, of_market, refusal, step}

-- the book took the call: it answers the value or the refusal, and leaves the book that the rules give
pub record Taken {T : Type 0} (before : Book) (call : Call) (value : T) (after : Book) (said : Result T Refusal) : Type 0 where
  pub answered : said ≡ answer (refusal before call) value
  pub left : after ≡ step before call

-- a call that answers nothing but that it was accepted
abbrev pub Done : Book → Call → Book → Result (Unit {0}) Refusal → Type 0
Done before call after said = Taken before call (tt {0}) after said

-- a refused call leaves everything as it was, also what no call reads
abbrev pub Unaltered : {T E X : Type 0} → Result T E → X → X → Type 0
Unaltered (Ok value) before after = Unit {0}
Unaltered (Err fault) before after = after ≡ before

-- the lines of an accepted post
pub record Billed (b : Book) (m : Meaning) (day rate : ℕ) (sheet cents : List ℕ) : Type 0 where
  pub accepted : refusal b (of_market (post m day rate sheet)) ≡ None
  pub lines_are : cents ≡ lines (count b.terms) m rate (rows sheet)
