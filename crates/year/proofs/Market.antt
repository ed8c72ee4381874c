-- What an accepted call does to the market side.
use Rattle.std.proofs.Common.{◌≡◌, ℕ, ◌<◌, Bool, true, cond, eqb, ◌≢◌, List, length, get_or, set, ℤ, pos, ◌+ℤ◌, ◌-ℤ◌, neg_ℤ, None, sym, ap, ◌∙◌, inl, inr, zero-add, arith, length-set, get_or-set_other, get_or-set_same}
use lib.IntN.{+ℤ_idr}
use Rattle.std.proofs.lemmas.Int.{ints}
use Rattle.std.proofs.lemmas.List.FromFn.{length-map-range_with_len, get_or-map-range_with_len}
use Rattle.std.proofs.lemmas.Bool.{cases_Bool, cases_eq, eqb-true, eqb-false}
use Rattle.questions.proofs.Asked.{turn_same}
use Rattle.sheet.specs.Rows.{rows}
use Rattle.sheet.specs.Questions.{within}
use Rattle.charges.specs.Rules.{Meaning, lines, line_of}
use Rattle.charges.specs.Sums.{total_z}
use Rattle.year.specs.Plus.{plus_z}
use Rattle.year.specs.Market.{Market, MarketCall, post, adjust, pay_market, market_balance, balance_refusal, lines_refusal, market_refusal, market_effect}
use Rattle.year.specs.Amounts.{MarketAmounts, market_amounts, MarketBounded}
use Rattle.year.proofs.Sums.{length_plus_z, get_or_plus_z, total_z_set, total_z_plus_z}
use Rattle.year.proofs.Passed.{post_passed, adjust_passed, pay_market_passed}

-- an amount that is the coordinator's own, or zero
abbrev pub own : ℕ → ℕ → ℤ → ℤ
own who k z = cond (eqb who k) z (pos 0)

-- what an accepted call moves on the balance of coordinator k
abbrev pub market_move : ℕ → MarketCall → ℤ
market_move k (post m day rate sheet) = pos (line_of m rate (rows sheet) k)
market_move k (adjust who amount) = own who k amount
market_move k (pay_market who amount) = own who k (neg_ℤ (pos amount))

-- the balances sum to what the amounts say
pub record MarketSum (b : Market) (a : MarketAmounts) : Type 0 where
  pub sum : total_z b.balances ≡ pos a.lines +ℤ a.adjustments -ℤ pos a.payments

-- equal lines ask the same questions
pub lines_refusal_same : (n : ℕ) (b : Market) (line line' : ℕ → ℕ) → ((k : ℕ) → k < n → line k ≡ line' k) → lines_refusal n b line ≡ lines_refusal n b line'
unfolding lines_refusal
lines_refusal_same n b line line' h = turn_same n _ _ (λ k w. ap (λ z. balance_refusal k (market_balance b k +ℤ pos z)) (h k w))

-- the balance of k after a change at who
set_own : (xs : List ℤ) (who k : ℕ) (a : ℤ) → k < length xs → get_or (set xs who (get_or xs who (pos 0) +ℤ a)) k (pos 0) ≡ get_or xs k (pos 0) +ℤ own who k a
set_own xs who k a h =
    elim (cases_Bool (eqb who k)) [
      | inl e ↦ let s = eqb-true who k e in rw (e, s, get_or-set_same)
      | inr e ↦ let n : k ≢ who = λ q. eqb-false who k e (sym q) in rw (get_or-set_other, e) (sym (+ℤ_idr (get_or xs k (pos 0))))
    ]

-- a test that passed everywhere, and at what is put in
set_passes : (p : ℤ → Bool) (xs : List ℤ) (who : ℕ) (z : ℤ) → who < length xs → ((k : ℕ) → k < length xs → p (get_or xs k (pos 0)) ≡ true) → p z ≡ true →
    (k : ℕ) → k < length xs → p (get_or (set xs who z) k (pos 0)) ≡ true
set_passes p xs who z l h hz k w =
    elim (cases_eq k who) [
      | inl e ↦ rw e (rw get_or-set_same hz)
      | inr n ↦ rw get_or-set_other (h k w)
    ]

module _ (n : ℕ) where
  pub market_long : (b : Market) (c : MarketCall) → length b.balances ≡ n → length (market_effect n b c).balances ≡ n
  unfolding market_effect
  market_long b (post m day rate sheet) h = length_plus_z _ _ ∙ h
  market_long b (adjust who amount) h = length-set b.balances who _ ∙ h
  market_long b (pay_market who amount) h = length-set b.balances who _ ∙ h

  module _ (b : Market) (h : length b.balances ≡ n) where
    lines_long : (m : Meaning) (rate : ℕ) (sheet : List ℕ) → length b.balances ≡ length (lines n m rate (rows sheet))
    lines_long m rate sheet = h ∙ sym (length-map-range_with_len (line_of m rate (rows sheet)) 0 n)

    posted_at : (m : Meaning) (rate : ℕ) (sheet : List ℕ) (k : ℕ) → k < n → get_or (plus_z b.balances (lines n m rate (rows sheet))) k (pos 0) ≡ market_balance b k +ℤ pos (line_of m rate (rows sheet) k)
    posted_at m rate sheet k w =
        get_or_plus_z b.balances (lines n m rate (rows sheet)) k (lines_long m rate sheet)
        ∙ ap (λ q. market_balance b k +ℤ pos q) (get_or-map-range_with_len (line_of m rate (rows sheet)) 0 n k k 0 w (zero-add k))

    pub market_moves : (k : ℕ) → k < n → (c : MarketCall) → market_balance (market_effect n b c) k ≡ market_balance b k +ℤ market_move k c
    unfolding market_effect
    market_moves k w (post m day rate sheet) = posted_at m rate sheet k w
    market_moves k w (adjust who amount) = set_own b.balances who k amount (omega arith)
    market_moves k w (pay_market who amount) = set_own b.balances who k (neg_ℤ (pos amount)) (omega arith)

    pub market_sums : (a : MarketAmounts) (c : MarketCall) → market_refusal n b c ≡ None → MarketSum b a → MarketSum (market_effect n b c) (market_amounts n a c)
    unfolding market_effect
    market_sums a (post m day rate sheet) ok g =
        let p = total_z_plus_z b.balances (lines n m rate (rows sheet)) (lines_long m rate sheet) in
        let o = g.sum in
        record { sum = omega (arith, ints) }
    market_sums a (adjust who amount) ok g =
        let w = (adjust_passed n b who amount ok).0 in
        let s = total_z_set b.balances who (market_balance b who +ℤ amount) (omega arith) in
        let o = g.sum in
        record { sum = omega (arith, ints) }
    market_sums a (pay_market who amount) ok g =
        let w = (pay_market_passed n b who amount ok).0 in
        let s = total_z_set b.balances who (market_balance b who -ℤ pos amount) (omega arith) in
        let o = g.sum in
        record { sum = omega (arith, ints) }

    set_bounds : (who : ℕ) (z : ℤ) → who < n → MarketBounded n b → within 1000000000000000 z ≡ true → (k : ℕ) → k < n → within 1000000000000000 (get_or (set b.balances who z) k (pos 0)) ≡ true
    set_bounds who z l g hz k w = set_passes (within 1000000000000000) b.balances who z (omega arith) (λ j v. g j (omega arith)) hz k (omega arith)

    pub market_bounds : (c : MarketCall) → market_refusal n b c ≡ None → MarketBounded n b → MarketBounded n (market_effect n b c)
    unfolding market_effect
    market_bounds (post m day rate sheet) ok g = λ k w. rw (posted_at m rate sheet k w) (post_passed n b m day rate sheet ok k w)
    market_bounds (adjust who amount) ok g = let p = adjust_passed n b who amount ok in set_bounds who _ p.0 g p.1
    market_bounds (pay_market who amount) ok g = let p = pay_market_passed n b who amount ok in set_bounds who _ p.0 g p.1
