-- The five amounts that go by the calls' arguments and refusals alone, what the balances sum to, and what keeps within bounds.
use Rattle.std.specs.Prelude.{◌≡◌, ℕ, ◌+◌, ◌*◌, ◌^◌, ◌<◌, ◌≤◌, true, List, [], ◌∷◌, take, ℤ, pos, ◌+ℤ◌, ◌-ℤ◌}
use Rattle.sheet.specs.Questions.{within}
use Rattle.charges.specs.Sums.{total, total_z}
use Rattle.year.specs.Terms.{Terms}
use Rattle.year.specs.Market.{Market, MarketCall, post, adjust, pay_market, market_balance, posted_sum}
use Rattle.year.specs.Rc.{RcCall, pay_rc, assess, default, rest, carrier_weights}
use Rattle.year.specs.Book.{Book, Call, of_market, of_rc}

-- accepted lines, adjustments and market payments
pub record MarketAmounts : Type 0 where
  pub lines : ℕ
  pub adjustments : ℤ
  pub payments : ℕ

-- the assessed charge, and RC payments
pub record RcAmounts : Type 0 where
  pub charge : ℕ
  pub payments : ℕ

pub record Amounts : Type 0 where
  pub market : MarketAmounts
  pub rc : RcAmounts

abbrev pub no_amounts : Amounts
no_amounts = record { market = record { lines = 0; adjustments = pos 0; payments = 0 }; rc = record { charge = 0; payments = 0 } }

-- what an accepted call makes of them, in a book of n coordinators

abbrev pub market_amounts : ℕ → MarketAmounts → MarketCall → MarketAmounts
market_amounts n a (post m day rate sheet) = record { lines = a.lines + posted_sum n m rate sheet; adjustments = a.adjustments; payments = a.payments }
market_amounts n a (adjust coordinator amount) = record { lines = a.lines; adjustments = a.adjustments +ℤ amount; payments = a.payments }
market_amounts n a (pay_market coordinator amount) = record { lines = a.lines; adjustments = a.adjustments; payments = a.payments + amount }

abbrev pub rc_amounts : RcAmounts → RcCall → RcAmounts
rc_amounts a (pay_rc coordinator amount) = record { charge = a.charge; payments = a.payments + amount }
rc_amounts a (assess charge minimum) = record { charge = charge; payments = a.payments }
rc_amounts a (default debtor unpaid) = a

abbrev pub amounts_with : ℕ → Amounts → Call → Amounts
amounts_with n a (of_market call) = record { market = market_amounts n a.market call; rc = a.rc }
amounts_with n a (of_rc call) = record { market = a.market; rc = rc_amounts a.rc call }

-- after the accepted calls
abbrev pub amounts_after : ℕ → Amounts → List Call → Amounts
amounts_after n a [] = a
amounts_after n a (call ∷ calls) = amounts_after n (amounts_with n a call) calls

pub record Sums (b : Book) (a : Amounts) : Type 0 where
  pub market : total_z b.market.balances ≡ pos a.market.lines +ℤ a.market.adjustments -ℤ pos a.market.payments
  pub rc : pos (total b.rc.balances) ≡ pos a.rc.charge -ℤ pos a.rc.payments
  pub at_most_charge : total b.rc.balances ≤ a.rc.charge
  pub charge_bound : a.rc.charge ≤ 2000000000

-- every product that spreading forms fits 64 bits
abbrev pub Fits : ℕ → List ℕ → Type 0
Fits amount weights = (k : ℕ) → amount * total (take k weights) < 2 ^ 64

abbrev pub ProductsFit : Terms → RcCall → Type 0
ProductsFit t (pay_rc coordinator amount) = Unit {0}
ProductsFit t (assess charge minimum) = Fits (rest t charge minimum) t.demands
ProductsFit t (default debtor unpaid) = Fits unpaid (carrier_weights t debtor)

abbrev pub MarketBounded : ℕ → Market → Type 0
MarketBounded n b = (coordinator : ℕ) → coordinator < n → within 1000000000000000 (market_balance b coordinator) ≡ true
