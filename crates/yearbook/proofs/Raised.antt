-- Amounts added to the coordinators, one by one.
use Rattle.std.proofs.Common.{◌≡◌, ℕ, zero, suc, ◌+◌, ◌^◌, ◌<◌, ◌≤◌, ◌≢◌, List, [], ◌∷◌, map, length, get_or, set, ℤ, pos, ◌+ℤ◌, nat_abs, sym, refl, ap, ◌∙◌, ap₂, inl, inr, le_of_suc-le-suc, not-suc-le-zero, add-zero, arith, w64, SFits, to_z, of_z}
use lib.IntN.{+ℤ_idr}
use Rattle.std.proofs.lemmas.Int.{ints, to_z-of_z, to_z_pos}
use Rattle.std.proofs.lemmas.List.{get_or-set_same, get_or-set_other, length-set, ext_get_or, get_or_past}
use Rattle.std.proofs.lemmas.Bool.{cases_eq, cases_lt}
use Rattle.year.specs.Plus.{plus, plus_z}
use Rattle.yearbook.specs.declared.coordinator.Coordinator.{Coordinator}
use Rattle.yearbook.specs.Coordinators.{nobody, markets, rcs, market_at, rc_at, rc_raised, market_raised, each_with}

pub rc_raised_zero : (a : Coordinator) → rc_raised a 0 ≡ a
rc_raised_zero a = ap (rc_at a) (add-zero a.rc)

pub market_raised_zero : (a : Coordinator) → market_raised a 0 ≡ a
market_raised_zero a = ap (market_at a) (+ℤ_idr a.market)

module _ (f : Coordinator → ℕ → Coordinator) where
  pub length_raise : (t : List Coordinator) (ys : List ℕ) → length (each_with f t ys) ≡ length t
  length_raise [] ys = refl
  length_raise (a ∷ t) [] = refl
  length_raise (a ∷ t) (y ∷ ys) = ap suc (length_raise t ys)

  pub get_or_raise : ((a : Coordinator) → f a 0 ≡ a) → (t : List Coordinator) (ys : List ℕ) (k : ℕ) → k < length t → get_or (each_with f t ys) k nobody ≡ f (get_or t k nobody) (get_or ys k 0)
  get_or_raise z [] ys k h = absurd (not-suc-le-zero h)
  get_or_raise z (a ∷ t) [] zero h = sym (z a)
  get_or_raise z (a ∷ t) [] (suc k) h = sym (z (get_or t k nobody))
  get_or_raise z (a ∷ t) (y ∷ ys) zero h = refl
  get_or_raise z (a ∷ t) (y ∷ ys) (suc k) h = get_or_raise z t ys k (le_of_suc-le-suc h)

-- the amounts below i are added
pub record Raising (f : Coordinator → ℕ → Coordinator) (old : List Coordinator) (ys : List ℕ) (new : List Coordinator) (i : ℕ) : Type 0 where
  pub long : length new ≡ length old
  pub done : (k : ℕ) → k < i → get_or new k nobody ≡ f (get_or old k nobody) (get_or ys k 0)
  pub rest : (k : ℕ) → i ≤ k → get_or new k nobody ≡ get_or old k nobody

module _ (f : Coordinator → ℕ → Coordinator) where
  pub raising_start : (old : List Coordinator) (ys : List ℕ) → Raising f old ys old 0
  raising_start old ys = record { long = refl; done = λ k h. absurd (omega arith); rest = λ k h. refl }

  pub raising_more : (old : List Coordinator) (ys : List ℕ) (new : List Coordinator) (i : ℕ) (a : Coordinator) → i < length old → Raising f old ys new i → a ≡ f (get_or new i nobody) (get_or ys i 0) → Raising f old ys (set new i a) (i + 1)
  raising_more old ys new i a w r e =
      let l = r.long in
      let w' : i < length new = omega arith in
      record {
        long = length-set new i a ∙ r.long;
        done = λ k h. elim (cases_eq k i) [
          | inl z ↦ rw z (rw (get_or-set_same new i a nobody w') (e ∙ ap (λ x. f x (get_or ys i 0)) (r.rest i (omega arith))))
          | inr n ↦ rw (get_or-set_other new i k a nobody n) (r.done k (omega arith))
        ];
        rest = λ k h. let n : k ≢ i = omega arith in rw (get_or-set_other new i k a nobody n) (r.rest k (omega arith));
      }

  pub raising_all : ((a : Coordinator) → f a 0 ≡ a) → (old : List Coordinator) (ys : List ℕ) (new : List Coordinator) (i : ℕ) → length ys ≤ i → Raising f old ys new i → new ≡ each_with f old ys
  raising_all z old ys new i h r =
      let l = r.long in
      ext_get_or nobody new (each_with f old ys) (r.long ∙ sym (length_raise f old ys)) (λ k w.
      let w' : k < length old = omega arith in
      elim (cases_lt k i) [
        | inl b ↦ r.done k b ∙ sym (get_or_raise f z old ys k w')
        | inr b ↦ r.rest k b ∙ sym (get_or_raise f z old ys k w' ∙ ap (f (get_or old k nobody)) (get_or_past ys k 0 (omega arith)) ∙ z (get_or old k nobody))
      ])

-- ---- each column

-- one that the amounts do not touch
pub map_raised : {B : Type 0} (col : Coordinator → B) (f : Coordinator → ℕ → Coordinator) → ((a : Coordinator) (y : ℕ) → col (f a y) ≡ col a) → (t : List Coordinator) (ys : List ℕ) → map col (each_with f t ys) ≡ map col t
map_raised col f same [] ys = refl
map_raised col f same (a ∷ t) [] = refl
map_raised {B} col f same (a ∷ t) (y ∷ ys) = ap₂ (λ (x : B) (xs : List B). x ∷ xs) (same a y) (map_raised col f same t ys)

pub rcs_raised : (t : List Coordinator) (ys : List ℕ) → rcs (each_with rc_raised t ys) ≡ plus (rcs t) ys
rcs_raised [] ys = refl
rcs_raised (a ∷ t) [] = refl
rcs_raised (a ∷ t) (y ∷ ys) = ap (λ xs. (a.rc + y) ∷ xs) (rcs_raised t ys)

pub markets_raised : (t : List Coordinator) (ys : List ℕ) → markets (each_with market_raised t ys) ≡ plus_z (markets t) ys
markets_raised [] ys = refl
markets_raised (a ∷ t) [] = refl
markets_raised (a ∷ t) (y ∷ ys) = ap (λ xs. (a.market +ℤ pos y) ∷ xs) (markets_raised t ys)

-- ---- a line added in the code's numbers

pub line_fits : (z : ℤ) (q : ℕ) → nat_abs z ≤ 1000000000000000 → q ≤ 819200000000 → SFits w64 (z +ℤ pos q)
line_fits z q h k = omega (arith, ints)

pub code_sum : (z : ℤ) (q : ℕ) → nat_abs z ≤ 1000000000000000 → q ≤ 819200000000 → SFits w64 z → to_z w64 (of_z w64 z) +ℤ to_z w64 q ≡ z +ℤ pos q
code_sum z q h k f = let w : q < 2 ^ 63 = omega arith in rw (to_z-of_z, to_z_pos w64 q w)

pub code_sum_is : (z : ℤ) (q : ℕ) → nat_abs z ≤ 1000000000000000 → q ≤ 819200000000 → SFits w64 z → to_z w64 (of_z w64 (to_z w64 (of_z w64 z) +ℤ to_z w64 q)) ≡ z +ℤ pos q
code_sum_is z q h k f = rw (code_sum z q h k f) (to_z-of_z w64 (z +ℤ pos q) (line_fits z q h k))
