-- What an accepted default does to the RC balances.
use Rattle.std.proofs.Common.{◌≡◌, ℕ, zero, suc, ◌+◌, ◌*◌, ◌<◌, ◌≤◌, ◌≢◌, List, [], ◌∷◌, length, get_or, set, ℤ, pos, ◌+ℤ◌, ◌-ℤ◌, neg_ℤ, None, sym, refl, ap, ◌∙◌, arith, length-set, get_or-set_other, get_or-set_same}
use Rattle.std.proofs.lemmas.Int.{ints}
use Rattle.std.proofs.lemmas.Bool.{eq-eqb, ne_eqb}
use Rattle.charges.specs.Sums.{total, total_z}
use Rattle.year.specs.Spread.{spread}
use Rattle.year.specs.Terms.{Terms, count}
use Rattle.year.specs.Rc.{Rc, default, carrier_weights, passed_on, rc_refusal, rc_effect}
use Rattle.year.specs.Defaults.{rises, others, WithinCent, DefaultLaw}
use Rattle.year.proofs.Sums.{zero_not_suc}
use Rattle.year.proofs.Spread.{spread_law}
use Rattle.year.proofs.Passed.{default_passed}
use Rattle.year.proofs.Rc.{length_passed, passed_at, total_passed}

total_others : (k : ℕ) (xs : List ℕ) → k < length xs → total (others k xs) ≡ total (set xs k 0)
total_others k [] h = refl
total_others zero (x ∷ xs) h = omega arith
total_others (suc k) (x ∷ xs) h = ap (λ n. x + n) (total_others k xs (omega arith))

total_z_others : (k : ℕ) (xs : List ℤ) → k < length xs → total_z (others k xs) +ℤ get_or xs k (pos 0) ≡ total_z xs
total_z_others k [] h = refl
total_z_others zero (x ∷ xs) h = omega (arith, ints)
total_z_others (suc k) (x ∷ xs) h = let r = total_z_others k xs (omega arith) in omega (arith, ints)

length_rises : (xs ys : List ℕ) → length xs ≡ length ys → length (rises xs ys) ≡ length xs
length_rises [] ys h = refl
length_rises (x ∷ xs) [] h = sym h
length_rises (x ∷ xs) (y ∷ ys) h = ap suc (length_rises xs ys (omega arith))

total_z_rises : (xs ys : List ℕ) → length xs ≡ length ys → total_z (rises xs ys) ≡ pos (total xs) -ℤ pos (total ys)
total_z_rises [] [] h = refl
total_z_rises [] (y ∷ ys) h = absurd (zero_not_suc h)
total_z_rises (x ∷ xs) [] h = absurd (zero_not_suc (sym h))
total_z_rises (x ∷ xs) (y ∷ ys) h = let r = total_z_rises xs ys (omega arith) in omega (arith, ints)

get_or_rises : (xs ys : List ℕ) (i : ℕ) → length xs ≡ length ys → get_or (rises xs ys) i (pos 0) ≡ pos (get_or xs i 0) -ℤ pos (get_or ys i 0)
get_or_rises [] [] i h = refl
get_or_rises [] (y ∷ ys) i h = absurd (zero_not_suc h)
get_or_rises (x ∷ xs) [] i h = absurd (zero_not_suc (sym h))
get_or_rises (x ∷ xs) (y ∷ ys) zero h = refl
get_or_rises (x ∷ xs) (y ∷ ys) (suc i) h = get_or_rises xs ys i (omega arith)

within_cent : (u d w s : ℕ) → u * d < s * w + w → s * w < u * d + w → WithinCent u d w (pos s)
within_cent u d w s lo hi = record { above = omega (arith, ints); below = omega (arith, ints) }

-- what passing on does to each balance, over any weights that leave the debtor out
module _ (weights rc : List ℕ) (debtor u : ℕ) (long : length rc ≡ length weights) (out : get_or weights debtor 0 ≡ 0) (low : u ≤ get_or rc debtor 0) where
  rise_of : (k : ℕ) → get_or (rises (passed_on weights rc debtor u) rc) k (pos 0) ≡ pos (get_or (passed_on weights rc debtor u) k 0) -ℤ pos (get_or rc k 0)
  rise_of k = get_or_rises (passed_on weights rc debtor u) rc k (length_passed weights rc debtor u long out low)

  rise_debtor : debtor < length rc → get_or (rises (passed_on weights rc debtor u) rc) debtor (pos 0) ≡ neg_ℤ (pos u)
  rise_debtor w =
      let p = rw (eq-eqb debtor debtor refl) at (passed_at weights rc debtor u long out low debtor w) in
      let r = rise_of debtor in
      omega (arith, ints)

  rise_other : (k : ℕ) → k < length rc → k ≢ debtor → get_or (rises (passed_on weights rc debtor u) rc) k (pos 0) ≡ pos (get_or (spread u weights) k 0)
  rise_other k w n =
      let p = rw (ne_eqb debtor k (λ q. n (sym q))) at (passed_at weights rc debtor u long out low k w) in
      let r = rise_of k in
      omega (arith, ints)

  rise_sum : debtor < length rc → 0 < total weights → total_z (others debtor (rises (passed_on weights rc debtor u) rc)) ≡ pos u
  rise_sum w some =
      let l = length_passed weights rc debtor u long out low in
      let d = rise_debtor w in
      let a = total_z_others debtor (rises (passed_on weights rc debtor u) rc) (omega (arith, length_rises (passed_on weights rc debtor u) rc l)) in
      let b = total_z_rises (passed_on weights rc debtor u) rc l in
      let c = total_passed weights rc debtor u long out low w some in
      omega (arith, ints)

  rise_near : (k : ℕ) → k < length rc → k ≢ debtor → 0 < total weights → WithinCent u (get_or weights k 0) (total weights) (get_or (rises (passed_on weights rc debtor u) rc) k (pos 0))
  rise_near k w n some =
      let w' : k < length weights = omega arith in
      rw (rise_other k w n) (within_cent u (get_or weights k 0) (total weights) (get_or (spread u weights) k 0) ((spread_law u weights).above k w' some) ((spread_law u weights).below k w' some))

pub default_law : (t : Terms) (b : Rc) (debtor unpaid : ℕ) → length b.balances ≡ count t → rc_refusal t b (default debtor unpaid) ≡ None →
    DefaultLaw t debtor unpaid b.balances (rc_effect t b (default debtor unpaid)).balances
unfolding rc_effect
default_law t b debtor unpaid h ok =
    let q = default_passed t b debtor unpaid ok in
    let here = q.here in
    let ws : List ℕ = carrier_weights t debtor in
    let long : length b.balances ≡ length ws = h ∙ sym (length-set t.demands debtor 0) in
    let out : get_or ws debtor 0 ≡ 0 = get_or-set_same t.demands debtor 0 0 here in
    let within : debtor < length b.balances = omega arith in
    record {
      falls = rise_debtor ws b.balances debtor unpaid long out q.covered within;
      sum = rise_sum ws b.balances debtor unpaid long out q.covered within q.carriers;
      proportion = λ k w n.
          let d : get_or ws k 0 ≡ get_or t.demands k 0 = get_or-set_other t.demands debtor k 0 0 n in
          rw (← d, total_others debtor t.demands here) (rise_near ws b.balances debtor unpaid long out q.covered k (omega arith) n q.carriers);
      share = λ k w n. rise_other ws b.balances debtor unpaid long out q.covered k (omega arith) n;
    }
