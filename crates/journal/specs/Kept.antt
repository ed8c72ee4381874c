-- The year law of a book that an opening and a list of calls have left.
use Rattle.std.specs.Prelude.{◌≡◌, ℕ, true, List, [], ◌∷◌, ◌++◌, pos, Some, None, Option}
use Rattle.questions.specs.Questions.{Refusal}
use Rattle.sheet.specs.Questions.{within}
use Rattle.year.specs.Terms.{Terms, count, open_refusal}
use Rattle.year.specs.Market.{market_balance}
use Rattle.year.specs.Rc.{default}
use Rattle.year.specs.Book.{Book, Call, of_rc, opened, refusal, step, run, accepted_calls}
use Rattle.year.specs.Reading.{balances, totals}
use Rattle.year.specs.Balances.{EachBalance}
use Rattle.year.specs.Amounts.{no_amounts, amounts_after, Sums, MarketBounded}
use Rattle.year.specs.Defaults.{DefaultLaw}
use Rattle.year.specs.Year.{after, YearLaw}
use Rattle.year.specs.Consequences.{four, year}
use Rattle.yearbook.specs.View.{unopened}

-- the book is what the opening and the calls leave: its balances and sums are those that the rules give,
-- and the whole law holds of this opening, for these calls and for every other list
pub record KeptYear (t : Terms) (calls : List Call) (b : Book) : Type 0 where
  pub left : b ≡ after t calls
  pub balances : EachBalance t b (accepted_calls (opened t) calls)
  pub sums : Sums b (amounts_after (count t) no_amounts (accepted_calls (opened t) calls))
  pub market_bounds : MarketBounded (count t) b.market
  pub law : YearLaw t

-- calls taken by a book that any accepted opening and any calls had left
abbrev pub Continued : Book → List Call → Book → Type 0
Continued before calls now = (t : Terms) → open_refusal t ≡ None → (earlier : List Call) → before ≡ after t earlier → KeptYear t (earlier ++ calls) now

-- a year's calls after its opening; a refused opening leaves the book
abbrev pub Kept : Option Refusal → Terms → List Call → Book → Book → Type 0
Kept None t calls before now = KeptYear t calls now
Kept (Some refusal) t calls before now = now ≡ before

-- whatever a program has done: its book is a kept year, or was never opened and took calls all the same
pub data AnyYear (b : Book) : Type 0 where
  begun : (t : Terms) → open_refusal t ≡ None → (calls : List Call) → KeptYear t calls b → AnyYear b
  unbegun : (calls : List Call) → b ≡ run unopened calls → AnyYear b

-- what a caller of several calls has in hand
pub record KeptInParts : Type 0 where
  -- an opening, an entry and a list of entries are one year
  pub joined : (t : Terms) → open_refusal t ≡ None → (call : Call) (calls : List Call) (b b₁ b₂ b₃ : Book) →
      Kept (open_refusal t) t [] b b₁ → Continued b₁ (call ∷ []) b₂ → Continued b₂ calls b₃ → KeptYear t (call ∷ calls) b₃
  -- the others carry the next default on a kept book
  pub next_default : (t : Terms) (calls : List Call) (b : Book) → KeptYear t calls b → (debtor unpaid : ℕ) → let call = of_rc (default debtor unpaid) in
      refusal b call ≡ None → DefaultLaw t debtor unpaid b.rc.balances (step b call).rc.balances
  -- a refused opening leaves the year
  pub refused_opening : (t t' : Terms) (r : Refusal) (calls calls' : List Call) (b b' : Book) → KeptYear t calls b → open_refusal t' ≡ Some r → Kept (open_refusal t') t' calls' b b' → KeptYear t calls b'
  -- the figures of the worked year, in the book itself
  pub figures : (calls : List Call) (b : Book) → KeptYear four calls b → accepted_calls (opened four) calls ≡ year →
      (balances b 1 ≡ (pos 40, 236)) × (totals b ≡ (pos 85, 921)) × (within 1000000000000000 (market_balance b.market 3) ≡ true)
