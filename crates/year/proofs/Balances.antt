-- What an accepted call moves on a balance, in the parts that the law names.
use Rattle.std.proofs.Common.{◌≡◌, ℕ, cond, eqb, ℤ, pos, ◌+ℤ◌, ◌-ℤ◌, neg_ℤ, refl, inl, inr, arith}
use Rattle.std.proofs.lemmas.Int.{ints}
use Rattle.std.proofs.lemmas.Bool.{cases_Bool}
use Rattle.year.specs.Terms.{Terms}
use Rattle.year.specs.Market.{post, adjust, pay_market}
use Rattle.year.specs.Rc.{pay_rc, assess, default}
use Rattle.year.specs.Book.{Call, of_market, of_rc}
use Rattle.year.specs.Balances.{line_in, adjustment_in, market_payment_in, assessed_in, rise_in, unpaid_in, rc_payment_in}
use Rattle.year.proofs.Market.{own, market_move}
use Rattle.year.proofs.Rc.{rc_move}

abbrev pub moves_market : ℕ → Call → ℤ
moves_market k (of_market call) = market_move k call
moves_market k (of_rc call) = pos 0

abbrev pub moves_rc : Terms → ℕ → Call → ℤ
moves_rc t k (of_market call) = pos 0
moves_rc t k (of_rc call) = rc_move t k call

taken : (who k amount : ℕ) → own who k (neg_ℤ (pos amount)) ≡ neg_ℤ (pos (cond (eqb who k) amount 0))
taken who k amount = elim (cases_Bool (eqb who k)) [ inl e ↦ rw e | inr e ↦ rw e ]

pub market_parts : (k : ℕ) (c : Call) → moves_market k c ≡ pos (line_in k c) +ℤ adjustment_in k c -ℤ pos (market_payment_in k c)
market_parts k (of_market (post m day rate sheet)) = omega (arith, ints)
market_parts k (of_market (adjust who amount)) = omega (arith, ints)
market_parts k (of_market (pay_market who amount)) = let t = taken who k amount in omega (arith, ints)
market_parts k (of_rc call) = refl

pub rc_parts : (t : Terms) (k : ℕ) (c : Call) → moves_rc t k c ≡ pos (assessed_in t k c) +ℤ pos (rise_in t k c) -ℤ pos (unpaid_in k c) -ℤ pos (rc_payment_in k c)
rc_parts t k (of_market call) = refl
rc_parts t k (of_rc (pay_rc who amount)) = let e = taken who k amount in omega (arith, ints)
rc_parts t k (of_rc (assess charge minimum)) = omega (arith, ints)
rc_parts t k (of_rc (default debtor unpaid)) = elim (cases_Bool (eqb debtor k)) [ inl e ↦ rw e (omega (arith, ints)) | inr e ↦ rw e (omega (arith, ints)) ]
