-- The year law: what holds after every list of calls on a book that was opened.
use Rattle.std.specs.Prelude.{◌≡◌, ℕ, ◌<◌, List, length, None}
use Rattle.year.specs.Terms.{Terms, count, open_refusal}
use Rattle.year.specs.Market.{market_balance}
use Rattle.year.specs.Rc.{RcCall, default}
use Rattle.year.specs.Book.{Book, Call, of_rc, opened, refusal, step, run, outcomes, accepted_calls}
use Rattle.year.specs.Balances.{EachBalance}
use Rattle.year.specs.Amounts.{no_amounts, amounts_after, Sums, ProductsFit, MarketBounded}
use Rattle.year.specs.Defaults.{DefaultLaw}
use Rattle.year.specs.Isolation.{SameOutcomes}

-- the book after the calls
abbrev pub after : Terms → List Call → Book
after t calls = run (opened t) calls

pub record YearLaw (t : Terms) : Type 0 where
  -- every balance is the one the rules give
  pub balances : (calls : List Call) → EachBalance t (after t calls) (accepted_calls (opened t) calls)
  -- the sums go by the five amounts
  pub sums : (calls : List Call) → Sums (after t calls) (amounts_after (count t) no_amounts (accepted_calls (opened t) calls))
  -- the market balances keep within bounds
  pub market_bounds : (calls : List Call) → MarketBounded (count t) (after t calls).market
  -- what an accepted call spreads fits 64 bits
  pub products : (calls : List Call) (call : RcCall) → refusal (after t calls) (of_rc call) ≡ None → ProductsFit t call
  -- the others carry an accepted default, wherever it stands
  pub defaults : (calls : List Call) (debtor unpaid : ℕ) → let call = of_rc (default debtor unpaid) in
      refusal (after t calls) call ≡ None → DefaultLaw t debtor unpaid (after t calls).rc.balances (step (after t calls) call).rc.balances
  -- a market balance depends on nothing that does not concern its coordinator
  pub isolation : (coordinator : ℕ) → coordinator < count t → (t' : Terms) → t.demands ≡ t'.demands → t.flags ≡ t'.flags →
      (calls calls' : List Call) → length calls ≡ length calls' → SameOutcomes coordinator (outcomes (opened t) calls) (outcomes (opened t') calls') →
      market_balance (after t calls).market coordinator ≡ market_balance (after t' calls').market coordinator

abbrev pub YearLawForAll : Type 0
YearLawForAll = (t : Terms) → open_refusal t ≡ None → YearLaw t
