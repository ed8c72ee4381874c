-- What an accepted call means for one coordinator, and each balance as the sum of these.
use Rattle.std.specs.Prelude.{◌≡◌, ℕ, ◌<◌, cond, List, ℤ, pos, ◌+ℤ◌, ◌-ℤ◌, ◌==◌, slice_index}
use Rattle.sheet.specs.Rows.{rows}
use Rattle.charges.specs.Rules.{line_of}
use Rattle.charges.specs.Sums.{over, over_z}
use Rattle.year.specs.Spread.{spread}
use Rattle.year.specs.Terms.{Terms, count, flag_at}
use Rattle.year.specs.Market.{market_balance, post, adjust, pay_market}
use Rattle.year.specs.Rc.{rc_balance, pay_rc, assess, default, rest, carrier_weights}
use Rattle.year.specs.Book.{Book, Call, of_market, of_rc}

-- ---- on the market side

-- the coordinator's line in a post
abbrev pub line_in : ℕ → Call → ℕ
line_in coordinator (of_market (post m day rate sheet)) = line_of m rate (rows sheet) coordinator
line_in coordinator (of_market (adjust who amount)) = 0
line_in coordinator (of_market (pay_market who amount)) = 0
line_in coordinator (of_rc call) = 0

abbrev pub adjustment_in : ℕ → Call → ℤ
adjustment_in coordinator (of_market (post m day rate sheet)) = pos 0
adjustment_in coordinator (of_market (adjust who amount)) = cond (who == coordinator) amount (pos 0)
adjustment_in coordinator (of_market (pay_market who amount)) = pos 0
adjustment_in coordinator (of_rc call) = pos 0

abbrev pub market_payment_in : ℕ → Call → ℕ
market_payment_in coordinator (of_market (post m day rate sheet)) = 0
market_payment_in coordinator (of_market (adjust who amount)) = 0
market_payment_in coordinator (of_market (pay_market who amount)) = cond (who == coordinator) amount 0
market_payment_in coordinator (of_rc call) = 0

-- ---- on the RC side

-- what an assessment gives the coordinator: minimum or share
abbrev pub assessed_in : Terms → ℕ → Call → ℕ
assessed_in t coordinator (of_market call) = 0
assessed_in t coordinator (of_rc (pay_rc who amount)) = 0
assessed_in t coordinator (of_rc (assess charge minimum)) = cond (flag_at t coordinator == 1) minimum (slice_index (spread (rest t charge minimum) t.demands) coordinator)
assessed_in t coordinator (of_rc (default debtor unpaid)) = 0

-- the coordinator's share of another's default
abbrev pub rise_in : Terms → ℕ → Call → ℕ
rise_in t coordinator (of_market call) = 0
rise_in t coordinator (of_rc (pay_rc who amount)) = 0
rise_in t coordinator (of_rc (assess charge minimum)) = 0
rise_in t coordinator (of_rc (default debtor unpaid)) = cond (debtor == coordinator) 0 (slice_index (spread unpaid (carrier_weights t debtor)) coordinator)

-- the coordinator's own default
abbrev pub unpaid_in : ℕ → Call → ℕ
unpaid_in coordinator (of_market call) = 0
unpaid_in coordinator (of_rc (pay_rc who amount)) = 0
unpaid_in coordinator (of_rc (assess charge minimum)) = 0
unpaid_in coordinator (of_rc (default debtor unpaid)) = cond (debtor == coordinator) unpaid 0

abbrev pub rc_payment_in : ℕ → Call → ℕ
rc_payment_in coordinator (of_market call) = 0
rc_payment_in coordinator (of_rc (pay_rc who amount)) = cond (who == coordinator) amount 0
rc_payment_in coordinator (of_rc (assess charge minimum)) = 0
rc_payment_in coordinator (of_rc (default debtor unpaid)) = 0

-- ---- every balance is the one the rules give, by the calls that were accepted

pub record EachBalance (t : Terms) (b : Book) (calls : List Call) : Type 0 where
  pub market : (coordinator : ℕ) → coordinator < count t → market_balance b.market coordinator ≡
      pos (over calls (line_in coordinator)) +ℤ over_z calls (adjustment_in coordinator) -ℤ pos (over calls (market_payment_in coordinator))
  pub rc : (coordinator : ℕ) → coordinator < count t → pos (rc_balance b.rc coordinator) ≡
      pos (over calls (assessed_in t coordinator)) +ℤ pos (over calls (rise_in t coordinator)) -ℤ pos (over calls (unpaid_in coordinator)) -ℤ pos (over calls (rc_payment_in coordinator))
