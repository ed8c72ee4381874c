-- The calls that only read the book: when each is refused, and what it answers.
use Rattle.std.specs.Prelude.{ℕ, List, ℤ, None, Option, nat_le, nat_lt}
use Rattle.questions.specs.Questions.{Refusal, ask, first}
use Rattle.sheet.specs.Rows.{rows, own_rows}
use Rattle.sheet.specs.Questions.{sheet_refusal}
use Rattle.charges.specs.Rules.{Meaning, quantity_of, line_of}
use Rattle.charges.specs.Sums.{total, total_z}
use Rattle.year.specs.Terms.{count}
use Rattle.year.specs.Market.{market_balance, coordinators_refusal}
use Rattle.year.specs.Rc.{rc_balance}
use Rattle.year.specs.Book.{Book}

unfoldable pub quote_refusal : Book → ℕ → List ℕ → ℕ → Option Refusal
quote_refusal b rate sheet coordinator =
    ask (nat_le rate 10000000) 8 0
    (first (sheet_refusal sheet)
    (first (coordinators_refusal (count b.terms) sheet)
    (ask (nat_lt coordinator (count b.terms)) 12 0 None)))

-- the coordinator's charge quantity and its line
abbrev pub quote : Meaning → ℕ → List ℕ → ℕ → ℕ × ℕ
quote m rate sheet coordinator = (quantity_of m coordinator (own_rows coordinator (rows sheet)), line_of m rate (rows sheet) coordinator)

unfoldable pub balances_refusal : Book → ℕ → Option Refusal
balances_refusal b coordinator = ask (nat_lt coordinator (count b.terms)) 12 0 None

-- a coordinator's market and RC balance
abbrev pub balances : Book → ℕ → ℤ × ℕ
balances b coordinator = (market_balance b.market coordinator, rc_balance b.rc coordinator)

-- the book's
abbrev pub totals : Book → ℤ × ℕ
totals b = (total_z b.market.balances, total b.rc.balances)
