-- The RC side of the book: its calls, when each is refused, and what an accepted one does.
use Rattle.std.specs.Prelude.{ℕ, ◌-◌, ◌*◌, Bool, cond, not, ◌&&◌, ◌||◌, List, map, is_some, Some, None, Option, ◌==◌, nat_le, nat_lt, slice_index, slice_set}
use Rattle.questions.specs.Questions.{Refusal, ask}
use Rattle.charges.specs.Sums.{total}
use Rattle.year.specs.Plus.{plus}
use Rattle.year.specs.Spread.{spread}
use Rattle.year.specs.Terms.{Terms, count, flagged}

-- each coordinator's balance, in cents, and the charge once it is assessed
pub record Rc : Type 0 where
  pub balances : List ℕ
  pub charge : Option ℕ

abbrev pub rc_balance : Rc → ℕ → ℕ
rc_balance b coordinator = slice_index b.balances coordinator

-- the assessed charge, zero before assessing
abbrev pub charge_of : Option ℕ → ℕ
charge_of None = 0
charge_of (Some charge) = charge

pub data RcCall : Type 0 where
  -- a coordinator and an amount
  pay_rc : ℕ → ℕ → RcCall
  -- a charge and a minimum
  assess : ℕ → ℕ → RcCall
  -- a debtor and the unpaid amount
  default : ℕ → ℕ → RcCall

-- what each coordinator is charged before the rest is spread: the minimum if it is flagged
unfoldable pub minimums : Terms → ℕ → List ℕ
minimums t minimum = map (λ flag. cond (flag == 1) minimum 0) t.flags

-- what the minimums leave to spread
abbrev pub rest : Terms → ℕ → ℕ → ℕ
rest t charge minimum = charge - minimum * flagged t

-- what assessing charges each coordinator
unfoldable pub assessment : Terms → ℕ → ℕ → List ℕ
assessment t charge minimum = plus (minimums t minimum) (spread (rest t charge minimum) t.demands)

-- the demands, with the debtor's at zero
abbrev pub carrier_weights : Terms → ℕ → List ℕ
carrier_weights t debtor = slice_set t.demands debtor 0

-- the amount is zero, or there is weight to carry it
unfoldable pub spreadable : ℕ → List ℕ → Bool
spreadable amount weights = amount == 0 || nat_lt 0 (total weights)

unfoldable pub pay_rc_refusal : Terms → Rc → ℕ → ℕ → Option Refusal
pay_rc_refusal t b coordinator amount =
    ask (nat_lt coordinator (count t)) 12 0
    (ask (nat_le 1 amount && nat_le amount 1000000000000) 13 0
    (ask (nat_le amount (rc_balance b coordinator)) 14 0 None))

unfoldable pub assess_refusal : Terms → Rc → ℕ → ℕ → Option Refusal
assess_refusal t b charge minimum =
    ask (not (is_some b.charge)) 15 0
    (ask (nat_le charge 2000000000 && nat_le minimum 2000000000 && nat_le (minimum * flagged t) charge) 16 0
    (ask (spreadable (rest t charge minimum) t.demands) 17 0 None))

unfoldable pub default_refusal : Terms → Rc → ℕ → ℕ → Option Refusal
default_refusal t b debtor unpaid =
    ask (nat_lt debtor (count t)) 12 0
    (ask (nat_le 1 unpaid && nat_le unpaid 2000000000) 13 0
    (ask (nat_le unpaid (rc_balance b debtor)) 14 0
    (ask (spreadable unpaid (carrier_weights t debtor)) 17 0 None)))

abbrev pub rc_refusal : Terms → Rc → RcCall → Option Refusal
rc_refusal t b (pay_rc coordinator amount) = pay_rc_refusal t b coordinator amount
rc_refusal t b (assess charge minimum) = assess_refusal t b charge minimum
rc_refusal t b (default debtor unpaid) = default_refusal t b debtor unpaid

-- the unpaid amount taken from the debtor's balance, and spread over the weights
unfoldable pub passed_on : List ℕ → List ℕ → ℕ → ℕ → List ℕ
passed_on weights balances debtor unpaid = plus (slice_set balances debtor (slice_index balances debtor - unpaid)) (spread unpaid weights)

-- what an accepted call does
unfoldable pub rc_effect : Terms → Rc → RcCall → Rc
rc_effect t b (pay_rc coordinator amount) = record { balances = slice_set b.balances coordinator (rc_balance b coordinator - amount); charge = b.charge }
rc_effect t b (assess charge minimum) = record { balances = plus b.balances (assessment t charge minimum); charge = Some charge }
rc_effect t b (default debtor unpaid) = record { balances = passed_on (carrier_weights t debtor) b.balances debtor unpaid; charge = b.charge }
