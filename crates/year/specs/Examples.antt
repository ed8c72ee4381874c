-- Worked examples, in one table: calls on a new book with the balances that they leave, and quotes.
use Rattle.std.specs.Prelude.{◌≡◌, ℕ, ◌*◌, List, [], ◌∷◌, length, ℤ, pos, negsuc, Some, None, Option}
use Rattle.std.specs.List.{AllByRecursion}
use Rattle.questions.specs.Questions.{Refusal, no_at}
use Rattle.sheet.specs.Questions.{sheet_refusal}
use Rattle.charges.specs.Rules.{Meaning, meaning}
use Rattle.year.specs.Terms.{Terms, open_refusal}
use Rattle.year.specs.Market.{post, adjust, pay_market}
use Rattle.year.specs.Rc.{pay_rc, assess, default}
use Rattle.year.specs.Book.{Book, Call, of_market, of_rc, opened, refusal, step, run}
use Rattle.year.specs.Reading.{quote}

-- what is worked out
pub data Case : Type 0 where
  -- calls on a new book
  year : Terms → List Call → Case
  -- a quote: a rule's meaning, a rate, a sheet and a coordinator
  quoting : Meaning → ℕ → List ℕ → ℕ → Case

-- what it comes to
pub data Result : Type 0 where
  -- what the opening and the last call are refused for, the market and the RC balances
  leaves : Option Refusal → Option Refusal → List ℤ → List ℕ → Result
  -- what the sheet is refused for, the charge quantity and the line
  tells : Option Refusal → ℕ × ℕ → Result

pub record Example : Type 0 where
  pub worked : Case
  pub expected : Result

abbrev pub last_refusal : Book → List Call → Option Refusal
last_refusal b [] = None
last_refusal b (call ∷ []) = refusal b call
last_refusal b (call ∷ next ∷ calls) = last_refusal (step b call) (next ∷ calls)

abbrev pub result : Case → Result
result (year t calls) = leaves (open_refusal t) (last_refusal (opened t) calls) (run (opened t) calls).market.balances (run (opened t) calls).rc.balances
result (quoting m rate sheet coordinator) = tells (sheet_refusal sheet) (quote m rate sheet coordinator)

abbrev pub Holds : Example → Type 0
Holds e = result e.worked ≡ e.expected

-- demands and flags, calls, the last one's refusal, market and RC balances
abbrev pub example : List ℕ → List ℕ → List Call → Option Refusal → List ℤ → List ℕ → Example
example demands flags calls last market rc = record { worked = year (record { demands = demands; flags = flags }) calls; expected = leaves None last market rc }

-- a rule's meaning, a rate, an accepted sheet, a coordinator, its charge quantity and its line
abbrev pub quoted : Meaning → ℕ → List ℕ → ℕ → ℕ → ℕ → Example
quoted m rate sheet coordinator quantity line = record { worked = quoting m rate sheet coordinator; expected = tells None (quantity, line) }

-- ---- the terms and the posts that they share

abbrev pub thirds : List Call → Option Refusal → List ℤ → List ℕ → Example
thirds = example (1 ∷ 1 ∷ 1 ∷ []) (0 ∷ 0 ∷ 0 ∷ [])

abbrev pub nothing : List ℤ
nothing = pos 0 ∷ pos 0 ∷ pos 0 ∷ []

abbrev pub no_rc_balance : List ℕ
no_rc_balance = 0 ∷ 0 ∷ 0 ∷ []

-- each row is one
abbrev pub each_row : Meaning
each_row = meaning 4 (λ coordinator resource rows. 100000 * length rows)

-- coordinator 0, resource 7, hour 1, interval 1, part 0, kind 1, 100,000 kWh
abbrev pub one_row : List ℕ
one_row = 0x00 ∷ 0x01 ∷ 0x00 ∷ 0x07 ∷ 0x01 ∷ 0x01 ∷ 0x00 ∷ 0x01 ∷ 0x00 ∷ 0x01 ∷ 0x86 ∷ 0xA0 ∷ []

abbrev pub post_on : ℕ → Call
post_on day = of_market (post each_row day 5000 one_row)

abbrev pub assess_thousand : Call
assess_thousand = of_rc (assess 1000 0)

abbrev pub table : List Example
table =
    -- 1,000 over demands 1, 1, 1
    thirds (assess_thousand ∷ []) None nothing (333 ∷ 333 ∷ 334 ∷ [])
    -- then coordinator 1 defaults on 100
    ∷ thirds (assess_thousand ∷ of_rc (default 1 100) ∷ []) None nothing (383 ∷ 233 ∷ 384 ∷ [])
    -- on 1 instead: rises 0 and 1
    ∷ thirds (assess_thousand ∷ of_rc (default 1 1) ∷ []) None nothing (333 ∷ 332 ∷ 335 ∷ [])
    -- two debtors: the first carries the second's default
    ∷ thirds (assess_thousand ∷ of_rc (default 1 100) ∷ of_rc (default 0 83) ∷ []) None nothing (300 ∷ 274 ∷ 426 ∷ [])
    -- the minimum of a flagged coordinator
    ∷ example (1 ∷ 0 ∷ 1 ∷ []) (0 ∷ 1 ∷ 0 ∷ []) (of_rc (assess 1000 100) ∷ []) None nothing (450 ∷ 100 ∷ 450 ∷ [])
    -- assessing twice
    ∷ thirds (assess_thousand ∷ assess_thousand ∷ []) (Some (no_at 15 0)) nothing (333 ∷ 333 ∷ 334 ∷ [])
    -- a payment of the whole RC balance, and of one cent more
    ∷ thirds (assess_thousand ∷ of_rc (pay_rc 0 333) ∷ []) None nothing (0 ∷ 333 ∷ 334 ∷ [])
    ∷ thirds (assess_thousand ∷ of_rc (pay_rc 0 334) ∷ []) (Some (no_at 14 0)) nothing (333 ∷ 333 ∷ 334 ∷ [])
    -- a default in a book of one
    ∷ example (5 ∷ []) (0 ∷ []) (of_rc (assess 10 0) ∷ of_rc (default 0 1) ∷ []) (Some (no_at 17 0)) (pos 0 ∷ []) (10 ∷ [])
    -- a default before any assessment
    ∷ thirds (of_rc (default 1 1) ∷ []) (Some (no_at 14 0)) nothing no_rc_balance
    -- days 366 and 367
    ∷ thirds (post_on 366 ∷ []) None (pos 50 ∷ pos 0 ∷ pos 0 ∷ []) no_rc_balance
    ∷ thirds (post_on 367 ∷ []) (Some (no_at 8 0)) nothing no_rc_balance
    -- a day twice
    ∷ thirds (post_on 1 ∷ post_on 1 ∷ []) (Some (no_at 10 0)) (pos 50 ∷ pos 0 ∷ pos 0 ∷ []) no_rc_balance
    -- an adjustment and a payment
    ∷ thirds (post_on 1 ∷ of_market (adjust 0 (negsuc 9)) ∷ of_market (pay_market 1 5) ∷ []) None (pos 40 ∷ negsuc 4 ∷ pos 0 ∷ []) no_rc_balance
    -- a quote of the coordinator with the row, and of one without
    ∷ quoted each_row 5000 one_row 0 100000 50
    ∷ quoted each_row 5000 one_row 1 0 0
    ∷ []

abbrev pub Examples : Type 0
Examples = AllByRecursion Holds table
