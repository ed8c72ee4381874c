-- The law of spreading.
use Rattle.std.proofs.Common.{◌≡◌, ℕ, zero, suc, ◌+◌, ◌-◌, ◌*◌, ◌/◌, ◌<◌, ◌≤◌, ◌⊎◌, List, map, length, get_or, take, sym, refl, ap, ◌∙◌, ap₂, inl, inr, not-suc-le-zero, add-mul, mul-le-mul_left, mul-zero, zero-add, zero-mul, mul-add, div-mul-le_self, mul-div_cancel, add-one, arith, take_all}
use native.Mathlib.Nat.{lt-div-mul-add, zero-div, sub_self}
use Rattle.std.specs.List.{range_with_len}
use Rattle.std.proofs.lemmas.Nat.{le-div}
use Rattle.std.proofs.lemmas.List.FromFn.{length-map-range_with_len, get_or-map-range_with_len}
use Rattle.std.proofs.lemmas.List.{get_or_past}
use Rattle.std.proofs.lemmas.Bool.{cases_lt}
use Rattle.charges.specs.Sums.{total}
use Rattle.year.specs.Spread.{quotient, carried, share, spread, SpreadLawForAll}
use Rattle.year.proofs.Sums.{total_more, total_next, total_take_le, total_more_zero, total_map_more}

-- ---- quotients

pub quotient_is : (a w : ℕ) → 0 < w → quotient a w ≡ a / w
unfolding quotient
quotient_is a zero h = absurd (not-suc-le-zero h)
quotient_is a (suc w) h = refl

pub quotient_none : (a w : ℕ) → w ≡ 0 → quotient a w ≡ 0
unfolding quotient
quotient_none a zero h = refl
quotient_none a (suc w) h = absurd (omega arith)

pub quotient_zero : (w : ℕ) → quotient 0 w ≡ 0
unfolding quotient
quotient_zero zero = refl
quotient_zero (suc w) = zero-div (suc w)

pub quotient_mono : (a b w : ℕ) → a ≤ b → quotient a w ≤ quotient b w
unfolding quotient
quotient_mono a b zero h = omega arith
quotient_mono a b (suc w) h = le-div _ _ _ (omega arith) (omega (arith, div-mul-le_self a (suc w)))

-- ---- each share

module _ (u : ℕ) (ws : List ℕ) where
  pub length_spread : length (spread u ws) ≡ length ws
  unfolding spread
  length_spread = length-map-range_with_len (share u ws) 0 (length ws)

  pub spread_at : (k : ℕ) → k < length ws → get_or (spread u ws) k 0 ≡ share u ws k
  unfolding spread
  spread_at k h = get_or-map-range_with_len (share u ws) 0 (length ws) k k 0 h (zero-add k)

  -- a longer front carries no less
  pub carried_mono : (k : ℕ) → k < length ws → carried u ws k ≤ carried u ws (suc k)
  carried_mono k h =
      let m = total_more ws k h in
      quotient_mono _ _ (total ws) (mul-le-mul_left u (let l : total (take k ws) ≤ total (take (suc k) ws) = omega arith in l))

  pub carried_none : carried u ws 0 ≡ 0
  carried_none = ap (λ n. quotient n (total ws)) (mul-zero u) ∙ quotient_zero (total ws)

  -- the first n shares sum to what the first n weights carry
  front : (n : ℕ) → n ≤ length ws → total (map (share u ws) (range_with_len 0 n)) ≡ carried u ws n
  front zero h = sym carried_none
  front (suc n) h =
      let r = front n (omega arith) in
      let m = carried_mono n (omega arith) in
      let t = rw add-one at (total_map_more (share u ws) n) in
      omega arith

  carried_all : (u ≡ 0) ⊎ (0 < total ws) → carried u ws (length ws) ≡ u
  carried_all h =
      ap (λ xs. quotient (u * total xs) (total ws)) (take_all (length ws) ws (omega arith))
      ∙ elim h [
        | inl n ↦ ap (λ n. quotient n (total ws)) (ap (λ v. v * total ws) n ∙ zero-mul (total ws)) ∙ quotient_zero (total ws) ∙ sym n
        | inr p ↦ quotient_is (u * total ws) (total ws) p ∙ mul-div_cancel u p
      ]

  pub whole : (u ≡ 0) ⊎ (0 < total ws) → total (spread u ws) ≡ u
  unfolding spread
  whole h = front (length ws) (omega arith) ∙ carried_all h

  floors : (k : ℕ) → k < length ws → 0 < total ws → get_or (spread u ws) k 0 ≡ u * total (take (suc k) ws) / total ws - u * total (take k ws) / total ws
  floors k h p = spread_at k h ∙ ap₂ ◌-◌ (quotient_is _ _ p) (quotient_is _ _ p)

  share_weightless : (k : ℕ) → get_or ws k 0 ≡ 0 → share u ws k ≡ 0
  share_weightless k z = ap (λ n. quotient (u * n) (total ws) - carried u ws k) (total_more_zero ws k z) ∙ sub_self (carried u ws k)

  pub weightless : (k : ℕ) → get_or ws k 0 ≡ 0 → get_or (spread u ws) k 0 ≡ 0
  weightless k z = elim (cases_lt k (length ws)) [
    | inl h ↦ spread_at k h ∙ share_weightless k z
    | inr h ↦ get_or_past (spread u ws) k 0 (omega (arith, length_spread))
  ]

-- two floors over w, the second of what is larger by z: their difference against z
gap : (w x y z a b : ℕ) → a ≤ b → y ≡ x + z → a * w ≤ x → x < a * w + w → b * w ≤ y → y < b * w + w → (z < (b - a) * w + w) × ((b - a) * w < z + w)
gap w x y z a b m e la ha lb hb =
    let s : b ≡ a + (b - a) = omega arith in
    let t : b * w ≡ a * w + (b - a) * w = ap (λ n. n * w) s ∙ add-mul a (b - a) w in
    (omega arith, omega arith)

quotient_near : (a w : ℕ) → 0 < w → (quotient a w * w ≤ a) × (a < quotient a w * w + w)
quotient_near a w p = rw (quotient_is a w p) (div-mul-le_self a w, lt-div-mul-add p)

near : (u : ℕ) (ws : List ℕ) (k : ℕ) → k < length ws → 0 < total ws →
    (u * get_or ws k 0 < get_or (spread u ws) k 0 * total ws + total ws) × (get_or (spread u ws) k 0 * total ws < u * get_or ws k 0 + total ws)
near u ws k h p =
    let less = quotient_near (u * total (take k ws)) (total ws) p in
    let more = quotient_near (u * total (take (suc k) ws)) (total ws) p in
    let e : u * total (take (suc k) ws) ≡ u * total (take k ws) + u * get_or ws k 0 = ap (λ n. u * n) (total_more ws k h) ∙ mul-add u (total (take k ws)) (get_or ws k 0) in
    rw (spread_at u ws k h) (gap (total ws) _ _ _ (carried u ws k) (carried u ws (suc k)) (carried_mono u ws k h) e less.0 less.1 more.0 more.1)

share_nothing : (ws : List ℕ) (k : ℕ) → share 0 ws k ≡ 0
share_nothing ws k =
    ap₂ ◌-◌ (ap (λ n. quotient n (total ws)) (zero-mul (total (take (suc k) ws))) ∙ quotient_zero (total ws)) (ap (λ n. quotient n (total ws)) (zero-mul (total (take k ws))) ∙ quotient_zero (total ws))

nothing_to_spread : (ws : List ℕ) (k : ℕ) → get_or (spread 0 ws) k 0 ≡ 0
nothing_to_spread ws k = elim (cases_lt k (length ws)) [
  | inl h ↦ spread_at 0 ws k h ∙ share_nothing ws k
  | inr h ↦ get_or_past (spread 0 ws) k 0 (omega (arith, length_spread 0 ws))
]

pub spread_law : SpreadLawForAll
spread_law u ws = record {
  long = length_spread u ws;
  floors = floors u ws;
  whole = whole u ws;
  above = λ k h p. (near u ws k h p).0;
  below = λ k h p. (near u ws k h p).1;
  nothing = λ z k. ap (λ v. get_or (spread v ws) k 0) z ∙ nothing_to_spread ws k;
  weightless = weightless u ws;
}

-- ---- an amount on its way

-- the first k weights have had their shares
pub record Underway (u : ℕ) (ws : List ℕ) (k amount whole sum : ℕ) : Type 0 where
  pub amount_is : amount ≡ u
  pub whole_is : whole ≡ total ws
  pub sum_is : sum ≡ total (take k ws)

module _ (u : ℕ) (ws : List ℕ) (k amount whole sum : ℕ) (way : Underway u ws k amount whole sum) (here : k < length ws) where
  -- the next weight is among them
  pub next_within : sum + get_or ws k 0 ≤ whole
  next_within =
      let m = total_next ws k here in
      let l = total_take_le (k + 1) ws in
      let s = way.sum_is in
      let w = way.whole_is in
      omega arith

  pub next_way : Underway u ws (k + 1) amount whole (sum + get_or ws k 0)
  next_way = let m = total_next ws k here in let s = way.sum_is in record { amount_is = way.amount_is; whole_is = way.whole_is; sum_is = omega arith }

  -- and its share is that of the spread
  pub next_share : quotient (amount * (sum + get_or ws k 0)) whole - quotient (amount * sum) whole ≡ get_or (spread u ws) k 0
  next_share =
      let n : sum + get_or ws k 0 ≡ total (take (suc k) ws) = rw add-one at next_way.sum_is in
      rw (n, way.sum_is, way.amount_is, way.whole_is) (sym (spread_at u ws k here))
