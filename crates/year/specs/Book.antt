-- The book: as opened, and after each call of a list in turn; what became of each call.
use Rattle.std.specs.Prelude.{ℕ, false, List, [], ◌∷◌, replicate, pos, Some, None, Option}
use Rattle.questions.specs.Questions.{Refusal}
use Rattle.year.specs.Terms.{Terms, count}
use Rattle.year.specs.Market.{Market, MarketCall, market_refusal, market_effect}
use Rattle.year.specs.Rc.{Rc, RcCall, rc_refusal, rc_effect}

pub record Book : Type 0 where
  pub terms : Terms
  pub market : Market
  pub rc : Rc

unfoldable pub no_market : ℕ → Market
no_market n = record { balances = replicate n (pos 0); posted = λ code day. false }

unfoldable pub no_rc : ℕ → Rc
no_rc n = record { balances = replicate n 0; charge = None }

-- as an accepted opening leaves it
abbrev pub opened : Terms → Book
opened t = record { terms = t; market = no_market (count t); rc = no_rc (count t) }

pub data Call : Type 0 where
  of_market : MarketCall → Call
  of_rc : RcCall → Call

abbrev pub refusal : Book → Call → Option Refusal
refusal b (of_market call) = market_refusal (count b.terms) b.market call
refusal b (of_rc call) = rc_refusal b.terms b.rc call

-- what an accepted call does
abbrev pub effect : Book → Call → Book
effect b (of_market call) = record { terms = b.terms; market = market_effect (count b.terms) b.market call; rc = b.rc }
effect b (of_rc call) = record { terms = b.terms; market = b.market; rc = rc_effect b.terms b.rc call }

-- the book before a call that is refused, and the book after one that is accepted
abbrev pub settled : Option Refusal → Book → Book → Book
settled None before after = after
settled (Some refusal) before after = before

-- a call is refused and leaves the book, or is accepted and does its work
abbrev pub step : Book → Call → Book
step b call = settled (refusal b call) b (effect b call)

abbrev pub run : Book → List Call → Book
run b [] = b
run b (call ∷ calls) = run (step b call) calls

pub data Outcome : Type 0 where
  refused : Outcome
  accepted : Call → Outcome

abbrev pub outcome : Option Refusal → Call → Outcome
outcome None call = accepted call
outcome (Some refusal) call = refused

-- what became of each call
abbrev pub outcomes : Book → List Call → List Outcome
outcomes b [] = []
outcomes b (call ∷ calls) = outcome (refusal b call) call ∷ outcomes (step b call) calls

-- the calls of the outcomes that are accepted
abbrev pub accepted_of : List Outcome → List Call
accepted_of [] = []
accepted_of (refused ∷ rest) = accepted_of rest
accepted_of (accepted call ∷ rest) = call ∷ accepted_of rest

-- the accepted calls among a list, in order
abbrev pub accepted_calls : Book → List Call → List Call
accepted_calls b calls = accepted_of (outcomes b calls)
