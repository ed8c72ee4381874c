-- What an accepted call does to the RC side.
use Rattle.std.proofs.Common.{◌≡◌, ℕ, ◌+◌, ◌-◌, ◌*◌, ◌<◌, ◌≤◌, cond, eqb, ◌≢◌, ◌⊎◌, List, [], ◌∷◌, map, length, get_or, take, set, ℤ, pos, ◌+ℤ◌, neg_ℤ, None, count_by, sym, refl, ap, ◌∙◌, subst, inl, inr, mul-le-mul, mul-zero, mul-one, mul-add, arith, length-set, get_or-set_other, get_or-set_same}
use lib.ListN.{length-map}
use lib.IntN.{+ℤ_idr}
use Rattle.std.proofs.lemmas.List.{get_or-map}
use Rattle.std.proofs.lemmas.Int.{ints}
use Rattle.std.proofs.lemmas.List.Sums.{sum_by-cons}
use Rattle.std.proofs.lemmas.Bool.{cases_Bool, eqb-true, eqb-false}
use Rattle.charges.specs.Sums.{total}
use Rattle.year.specs.Spread.{spread}
use Rattle.year.specs.Terms.{Terms, count, flag_at, flagged}
use Rattle.year.specs.Rc.{Rc, RcCall, pay_rc, assess, default, rc_balance, charge_of, minimums, rest, assessment, carrier_weights, passed_on, rc_refusal, rc_effect}
use Rattle.year.specs.Amounts.{RcAmounts, rc_amounts, Fits, ProductsFit}
use Rattle.year.proofs.Sums.{length_plus, get_or_plus, total_plus, total_set, total_take_le, get_or_le_total}
use Rattle.year.proofs.Spread.{length_spread, weightless, whole}
use Rattle.year.proofs.Market.{own}
use Rattle.year.proofs.Passed.{Opens, pay_rc_passed, assess_passed, default_passed}

-- what an accepted call moves on the balance of coordinator k
abbrev pub rc_move : Terms → ℕ → RcCall → ℤ
rc_move t k (pay_rc who amount) = own who k (neg_ℤ (pos amount))
rc_move t k (assess charge minimum) = pos (cond (eqb (flag_at t k) 1) minimum (get_or (spread (rest t charge minimum) t.demands) k 0))
rc_move t k (default debtor unpaid) = cond (eqb debtor k) (neg_ℤ (pos unpaid)) (pos (get_or (spread unpaid (carrier_weights t debtor)) k 0))

-- the balances and the charge are what the amounts say
pub record RcAgrees (b : Rc) (a : RcAmounts) : Type 0 where
  pub sum : total b.balances + a.payments ≡ a.charge
  pub charge : charge_of b.charge ≡ a.charge
  pub bound : a.charge ≤ 2000000000

-- the balance of k when a part is taken at who
take_own : (xs : List ℕ) (who k a : ℕ) → k < length xs → a ≤ get_or xs who 0 → pos (get_or (set xs who (get_or xs who 0 - a)) k 0) ≡ pos (get_or xs k 0) +ℤ own who k (neg_ℤ (pos a))
take_own xs who k a h l =
    elim (cases_Bool (eqb who k)) [
      | inl e ↦ let s = eqb-true who k e in let l' : a ≤ get_or xs k 0 = rw s at l in rw (e, s, get_or-set_same) (omega (arith, ints))
      | inr e ↦ let n : k ≢ who = λ q. eqb-false who k e (sym q) in rw (get_or-set_other, e) (sym (+ℤ_idr (pos (get_or xs k 0))))
    ]

-- ---- passing on, over any weights that leave the debtor out

module _ (weights rc : List ℕ) (debtor u : ℕ) (long : length rc ≡ length weights) (out : get_or weights debtor 0 ≡ 0) (low : u ≤ get_or rc debtor 0) where
  passed_lengths : length (set rc debtor (get_or rc debtor 0 - u)) ≡ length (spread u weights)
  passed_lengths = length-set rc debtor _ ∙ long ∙ sym (length_spread u weights)

  pub length_passed : length (passed_on weights rc debtor u) ≡ length rc
  unfolding passed_on
  length_passed = length_plus _ _ ∙ length-set rc debtor _

  pub passed_at : (k : ℕ) → k < length rc → pos (get_or (passed_on weights rc debtor u) k 0) ≡ pos (get_or rc k 0) +ℤ cond (eqb debtor k) (neg_ℤ (pos u)) (pos (get_or (spread u weights) k 0))
  unfolding passed_on
  passed_at k w =
      let g = get_or_plus (set rc debtor (get_or rc debtor 0 - u)) (spread u weights) k passed_lengths in
      let t = take_own rc debtor k u w low in
      elim (cases_Bool (eqb debtor k)) [
        | inl y ↦
            let z : get_or (spread u weights) k 0 ≡ 0 = subst (λ j. get_or (spread u weights) j 0 ≡ 0) (eqb-true debtor k y) (weightless u weights debtor out) in
            let t' = rw y at t in
            rw y (omega (arith, ints))
        | inr n ↦ let t' = rw n at t in rw n (omega (arith, ints))
      ]

  pub total_passed : debtor < length rc → 0 < total weights → total (passed_on weights rc debtor u) ≡ total rc
  unfolding passed_on
  total_passed w some =
      let p = total_plus (set rc debtor (get_or rc debtor 0 - u)) (spread u weights) passed_lengths in
      let t = total_set rc debtor (get_or rc debtor 0 - u) w in
      let v = whole u weights (inr some) in
      omega arith

-- ---- assessing

pub total_of_flags : (minimum : ℕ) (flags : List ℕ) → total (map (λ flag. cond (eqb flag 1) minimum 0) flags) ≡ minimum * count_by (λ flag. eqb flag 1) flags
total_of_flags minimum [] = sym (mul-zero minimum)
total_of_flags minimum (f ∷ fs) =
    let r = total_of_flags minimum fs in
    let s = sum_by-cons (λ flag. cond (eqb flag 1) 1 0) f fs in
    elim (cases_Bool (eqb f 1)) [
      | inl e ↦ let s' = rw e at s in rw (e, s', mul-add, mul-one) (omega arith)
      | inr e ↦ let s' = rw e at s in rw (e, s', mul-add, mul-zero) (omega arith)
    ]

module _ (t : Terms) (o : Opens t) where
  pub length_minimums : (minimum : ℕ) → length (minimums t minimum) ≡ count t
  unfolding minimums
  length_minimums minimum = length-map t.flags _ ∙ o.flags_long

  pub total_minimums : (minimum : ℕ) → total (minimums t minimum) ≡ minimum * flagged t
  unfolding minimums flagged
  total_minimums minimum = total_of_flags minimum t.flags

  pub length_assessment : (charge minimum : ℕ) → length (assessment t charge minimum) ≡ count t
  unfolding assessment
  length_assessment charge minimum = length_plus _ _ ∙ length_minimums minimum

  pub total_assessment : (charge minimum : ℕ) → minimum * flagged t ≤ charge → (rest t charge minimum ≡ 0) ⊎ (0 < total t.demands) → total (assessment t charge minimum) ≡ charge
  unfolding assessment
  total_assessment charge minimum low can =
      let e : length (minimums t minimum) ≡ length (spread (rest t charge minimum) t.demands) = length_minimums minimum ∙ sym (length_spread _ t.demands) in
      let s = total_plus (minimums t minimum) (spread (rest t charge minimum) t.demands) e in
      let w = whole (rest t charge minimum) t.demands can in
      let m = total_minimums minimum in
      omega arith

  minimum_at : (minimum k : ℕ) → k < count t → get_or (minimums t minimum) k 0 ≡ cond (eqb (flag_at t k) 1) minimum 0
  unfolding minimums
  minimum_at minimum k w = let w' : k < length t.flags = rw o.flags_long w in get_or-map (λ flag. cond (eqb flag 1) minimum 0) t.flags k 0 0 w'

  -- a flagged coordinator has the minimum, and another its share
  pub assessment_at : (charge minimum k : ℕ) → k < count t → get_or (assessment t charge minimum) k 0 ≡ cond (eqb (flag_at t k) 1) minimum (get_or (spread (rest t charge minimum) t.demands) k 0)
  unfolding assessment
  assessment_at charge minimum k w =
      let g = get_or_plus (minimums t minimum) (spread (rest t charge minimum) t.demands) k (length_minimums minimum ∙ sym (length_spread _ t.demands)) in
      let m = minimum_at minimum k w in
      elim (cases_Bool (eqb (flag_at t k) 1)) [
        | inl e ↦
            let z = weightless (rest t charge minimum) t.demands k (o.flagged_demand k w (eqb-true (flag_at t k) 1 e)) in
            let m' = rw e at m in
            rw e (omega arith)
        | inr e ↦ let m' = rw e at m in rw e (omega arith)
      ]

  module _ (b : Rc) (long : length b.balances ≡ count t) where
    pub weights_long : (debtor : ℕ) → length b.balances ≡ length (carrier_weights t debtor)
    weights_long debtor = long ∙ sym (length-set t.demands debtor 0)

    pub debtor_out : (debtor : ℕ) → debtor < count t → get_or (carrier_weights t debtor) debtor 0 ≡ 0
    debtor_out debtor w = get_or-set_same t.demands debtor 0 0 w

    pub rc_long : (c : RcCall) → length (rc_effect t b c).balances ≡ count t
    unfolding rc_effect passed_on
    rc_long (pay_rc who amount) = length-set b.balances who _ ∙ long
    rc_long (assess charge minimum) = length_plus _ _ ∙ long
    rc_long (default debtor unpaid) = length_plus _ _ ∙ length-set b.balances debtor _ ∙ long

    pub rc_moves : (k : ℕ) → k < count t → (c : RcCall) → rc_refusal t b c ≡ None → pos (rc_balance (rc_effect t b c) k) ≡ pos (rc_balance b k) +ℤ rc_move t k c
    unfolding rc_effect
    rc_moves k w (pay_rc who amount) ok = take_own b.balances who k amount (omega arith) (pay_rc_passed t b who amount ok).1
    rc_moves k w (assess charge minimum) ok = ap pos (get_or_plus b.balances (assessment t charge minimum) k (long ∙ sym (length_assessment charge minimum)) ∙ ap (λ n. rc_balance b k + n) (assessment_at charge minimum k w))
    rc_moves k w (default debtor unpaid) ok =
        let q = default_passed t b debtor unpaid ok in
        passed_at (carrier_weights t debtor) b.balances debtor unpaid (weights_long debtor) (debtor_out debtor q.here) q.covered k (omega arith)

    pub rc_agrees : (a : RcAmounts) (c : RcCall) → rc_refusal t b c ≡ None → RcAgrees b a → RcAgrees (rc_effect t b c) (rc_amounts a c)
    unfolding rc_effect
    rc_agrees a (pay_rc who amount) ok g =
        let q = pay_rc_passed t b who amount ok in
        let r = total_set b.balances who (rc_balance b who - amount) (omega arith) in
        let s = g.sum in
        record { sum = omega arith; charge = g.charge; bound = g.bound }
    rc_agrees a (assess charge minimum) ok g =
        let q = assess_passed t b charge minimum ok in
        let z : charge_of b.charge ≡ 0 = ap charge_of q.unassessed in
        let d = total_assessment charge minimum q.enough q.carriers in
        let p = total_plus b.balances (assessment t charge minimum) (long ∙ sym (length_assessment charge minimum)) in
        let s = g.sum in
        let e = g.charge in
        record { sum = omega arith; charge = refl; bound = q.bound }
    rc_agrees a (default debtor unpaid) ok g =
        let q = default_passed t b debtor unpaid ok in
        let w = q.here in
        let p = total_passed (carrier_weights t debtor) b.balances debtor unpaid (weights_long debtor) (debtor_out debtor w) q.covered (omega arith) q.carriers in
        let s = g.sum in
        record { sum = omega arith; charge = g.charge; bound = g.bound }

-- ---- what spreading forms

fits : (amount : ℕ) (weights : List ℕ) → amount ≤ 2000000000 → total weights ≤ 3200000000 → Fits amount weights
fits amount weights a w k =
    let l = total_take_le k weights in
    let p = mul-le-mul a (let h : total (take k weights) ≤ 3200000000 = omega arith in h) in
    omega arith

weights_bound : (t : Terms) (debtor : ℕ) → debtor < count t → total t.demands ≤ 3200000000 → total (carrier_weights t debtor) ≤ 3200000000
weights_bound t debtor w h = let s = total_set t.demands debtor 0 w in omega arith

-- because the balances never sum to more than the charge
pub products_fit : (t : Terms) → Opens t → (b : Rc) (a : RcAmounts) → RcAgrees b a → (c : RcCall) → rc_refusal t b c ≡ None → ProductsFit t c
products_fit t o b a g (pay_rc who amount) ok = tt
products_fit t o b a g (assess charge minimum) ok =
    let q = (assess_passed t b charge minimum ok).bound in
    fits (rest t charge minimum) t.demands (omega arith) o.demands_bound
products_fit t o b a g (default debtor unpaid) ok =
    let q = default_passed t b debtor unpaid ok in
    let l = get_or_le_total b.balances debtor in
    let s = g.sum in
    let m = g.bound in
    let v = q.covered in
    fits unpaid (carrier_weights t debtor) (omega arith) (weights_bound t debtor q.here o.demands_bound)
