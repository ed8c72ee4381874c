-- The market side of the book: its calls, when each is refused, and what an accepted one does.
use Rattle.std.specs.Prelude.{ℕ, Bool, not, ◌&&◌, ◌||◌, List, ℤ, pos, ◌+ℤ◌, ◌-ℤ◌, None, Option, ◌==◌, nat_le, nat_lt, slice_index_or, slice_set}
use Rattle.questions.specs.Questions.{Refusal, ask, first, in_turn}
use Rattle.sheet.specs.Rows.{row_count, row_at, rows}
use Rattle.sheet.specs.Questions.{sheet_refusal, within}
use Rattle.charges.specs.Rules.{Meaning, line_of, lines}
use Rattle.charges.specs.Sums.{total}
use Rattle.year.specs.Plus.{plus_z}

-- each coordinator's balance, in cents, and whether a code is posted for a day
pub record Market : Type 0 where
  pub balances : List ℤ
  pub posted : ℕ → ℕ → Bool

abbrev pub market_balance : Market → ℕ → ℤ
market_balance b coordinator = slice_index_or b.balances coordinator (pos 0)

pub data MarketCall : Type 0 where
  -- a rule's meaning, a day, a rate and the bytes of a sheet
  post : Meaning → ℕ → ℕ → List ℕ → MarketCall
  -- a coordinator and a signed amount
  adjust : ℕ → ℤ → MarketCall
  -- a coordinator and an amount
  pay_market : ℕ → ℕ → MarketCall

-- every coordinator on the sheet is below n
unfoldable pub coordinators_refusal : ℕ → List ℕ → Option Refusal
coordinators_refusal n sheet = in_turn (row_count sheet) (λ row. ask (nat_lt (row_at sheet row).key.coordinator n) 9 row None)

-- what would be a coordinator's balance keeps within bounds
unfoldable pub balance_refusal : ℕ → ℤ → Option Refusal
balance_refusal coordinator balance = ask (within 1000000000000000 balance) 11 coordinator None

-- the same of each of n balances with its line added
unfoldable pub lines_refusal : ℕ → Market → (ℕ → ℕ) → Option Refusal
lines_refusal n b line = in_turn n (λ coordinator. balance_refusal coordinator (market_balance b coordinator +ℤ pos (line coordinator)))

-- of a call in a book of n coordinators

unfoldable pub post_refusal : ℕ → Market → Meaning → ℕ → ℕ → List ℕ → Option Refusal
post_refusal n b m day rate sheet =
    ask (nat_le rate 10000000 && nat_le 1 day && nat_le day 366) 8 0
    (first (sheet_refusal sheet)
    (first (coordinators_refusal n sheet)
    (ask (not (b.posted m.code day)) 10 0
    (lines_refusal n b (line_of m rate (rows sheet))))))

unfoldable pub adjust_refusal : ℕ → Market → ℕ → ℤ → Option Refusal
adjust_refusal n b coordinator amount =
    ask (nat_lt coordinator n) 12 0
    (ask (within 1000000000000 amount) 13 0
    (balance_refusal coordinator (market_balance b coordinator +ℤ amount)))

unfoldable pub pay_market_refusal : ℕ → Market → ℕ → ℕ → Option Refusal
pay_market_refusal n b coordinator amount =
    ask (nat_lt coordinator n) 12 0
    (ask (nat_le 1 amount && nat_le amount 1000000000000) 13 0
    (balance_refusal coordinator (market_balance b coordinator -ℤ pos amount)))

abbrev pub market_refusal : ℕ → Market → MarketCall → Option Refusal
market_refusal n b (post m day rate sheet) = post_refusal n b m day rate sheet
market_refusal n b (adjust coordinator amount) = adjust_refusal n b coordinator amount
market_refusal n b (pay_market coordinator amount) = pay_market_refusal n b coordinator amount

-- what an accepted post answers: the sum of the lines
abbrev pub posted_sum : ℕ → Meaning → ℕ → List ℕ → ℕ
posted_sum n m rate sheet = total (lines n m rate (rows sheet))

-- what an accepted call does

abbrev pub marked : (ℕ → ℕ → Bool) → ℕ → ℕ → ℕ → ℕ → Bool
marked posted code day c d = (c == code && d == day) || posted c d

unfoldable pub market_effect : ℕ → Market → MarketCall → Market
market_effect n b (post m day rate sheet) = record { balances = plus_z b.balances (lines n m rate (rows sheet)); posted = marked b.posted m.code day }
market_effect n b (adjust coordinator amount) = record { balances = slice_set b.balances coordinator (market_balance b coordinator +ℤ amount); posted = b.posted }
market_effect n b (pay_market coordinator amount) = record { balances = slice_set b.balances coordinator (market_balance b coordinator -ℤ pos amount); posted = b.posted }
