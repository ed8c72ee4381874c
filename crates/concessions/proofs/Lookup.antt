-- The list of allowances: what a look-up finds, and what an entry leaves.
use Rattle.std.proofs.Common.{◌≡◌, ℕ, ◌+◌, ◌<◌, Bool, true, false, cond, ◌&&◌, ◌||◌, eqb, List, [], ◌∷◌, ◌++◌, length, get_or, set, Some, None, Option, Bor, sym, refl, ap, ◌∙◌, ap₂, inl, inr, length-set, get_or-set_same, get_or-set_other, arith}
use Rattle.std.specs.List.{find, position, position_or_len, refill}
use Rattle.std.specs.Option.{MatchOption, option_map}
use Rattle.std.proofs.Math.Bool.{or_comm}
use Rattle.std.proofs.lemmas.Bool.{cases_Bool, cases_lt, lt-ltb, and_parts, and_from, eqb-true, eq-eqb}
use Rattle.std.proofs.lemmas.List.{get_or_append_left, get_or_push, length_push}
use Rattle.std.proofs.lemmas.List.Recursion.{found_at, found_nowhere, found_set_other, found_push_other, or_at, or_set, or_push}
use Rattle.std.proofs.lemmas.List.Sums.{fails_before_first}
use Rattle.arrayvec.specs.ArrayVec.{ArrayVec}
use Rattle.arrayvec.proofs.ArrayVecLemmas.{items-with_items}
use Rattle.concessions.specs.declared.allowances.Allowance.{Allowance}
use Rattle.concessions.specs.Concessions.{lists, is_listed, allowance_of, Entered}

abbrev pub none : Allowance
none = record { pair = record { coordinator = 0; resource = 0 }; quantity = 0 }

-- ---- what a look-up finds

abbrev pub quantity_or_zero : Option Allowance → ℕ
quantity_or_zero None = 0
quantity_or_zero (Some a) = a.quantity

pub allowance_found : (coordinator resource : ℕ) (listed : List Allowance) → quantity_or_zero (find (lists coordinator resource) listed) ≡ allowance_of coordinator resource listed
allowance_found coordinator resource [] = refl
allowance_found coordinator resource (a ∷ listed) = go (lists coordinator resource a) _ _ (allowance_found coordinator resource listed)
  where
    go : (b : Bool) (o : Option Allowance) (n : ℕ) → quantity_or_zero o ≡ n → quantity_or_zero (cond b (Some a) o) ≡ cond b a.quantity n
    go true o n e = refl
    go false o n e = e

pub quantity_told : {Told : Bor Allowance → Type 0} (r : Option (Bor Allowance)) (n : ℕ) → MatchOption r (n ≡ 0) Told → ((a : Bor Allowance) → Told a → n ≡ a.now.quantity) → n ≡ quantity_or_zero (option_map (λ a. a.now) r)
quantity_told None n e by = e
quantity_told (Some a) n e by = by a e

pub no_position : {X : Type 0} (p : X → Bool) (xs : List X) (d : X) → position p xs ≡ None → (k : ℕ) → k < length xs → p (get_or xs k d) ≡ false
no_position p xs d e k h = elim (cases_lt (position_or_len p xs) (length xs)) [
  | inl l ↦ absurd (let t = lt-ltb (position_or_len p xs) (length xs) l in cc)
  | inr l ↦ fails_before_first p xs k d (omega arith)
]

-- ---- an entry

pub written : (v : ArrayVec Allowance) (now : List Allowance) (i : ℕ) (a : Allowance) → now ≡ v.items → refill (length v.items) v.items (set now i a) ≡ set v.items i a
written v now i a e = items-with_items v (set now i a) (length-set now i a ∙ ap length e) ∙ ap (λ xs. set xs i a) e

or_cond : (b x : Bool) → (b || x) ≡ cond b true x
or_cond true x = refl
or_cond false x = refl

-- an entry of the same pair lists what the pair's own listed
same_pair : (coordinator resource : ℕ) (a : Allowance) → lists coordinator resource a ≡ true → (c r : ℕ) → lists c r a ≡ (eqb coordinator c && eqb resource r)
same_pair coordinator resource a e c r =
    let p = and_parts (eqb a.pair.coordinator coordinator) (eqb a.pair.resource resource) e in
    ap₂ (λ x y. eqb x c && eqb y r) (eqb-true a.pair.coordinator coordinator p.0) (eqb-true a.pair.resource resource p.1)

module _ (coordinator resource quantity : ℕ) where
  abbrev pub entry : Allowance
  entry = record { pair = record { coordinator = coordinator; resource = resource }; quantity = quantity }

  abbrev own : ℕ → ℕ → Bool
  own c r = eqb coordinator c && eqb resource r

  abbrev passed : List Allowance → ℕ → Type 0
  passed xs i = (k : ℕ) → k < i → lists coordinator resource (get_or xs k none) ≡ false

  -- the pair's own is the first that lists it
  allowed_at : (xs : List Allowance) (i : ℕ) → i < length xs → passed xs i → get_or xs i none ≡ entry → allowance_of coordinator resource xs ≡ quantity
  allowed_at xs i low before here =
      let own_pair = and_from (eqb coordinator coordinator) (eqb resource resource) (eq-eqb coordinator coordinator refl) (eq-eqb resource resource refl) in
      found_at (allowance_of coordinator resource) (lists coordinator resource) (λ a. a.quantity) 0 refl (λ _ _. refl) xs i none low before (ap (lists coordinator resource) here ∙ own_pair)
      ∙ ap (λ a. a.quantity) here

  module _ (listed : List Allowance) where
    -- in place of the pair's own
    module _ (i : ℕ) (low : i < length listed) (found : lists coordinator resource (get_or listed i none) ≡ true) where
      pub listed_there : is_listed coordinator resource listed ≡ true
      listed_there = or_at (is_listed coordinator resource) (lists coordinator resource) refl (λ _ _. refl) listed i none low found

      same : (c r : ℕ) → own c r ≡ false → lists c r (get_or listed i none) ≡ false
      same c r other = same_pair coordinator resource (get_or listed i none) found c r ∙ other

      allowed_there : passed listed i → allowance_of coordinator resource (set listed i entry) ≡ quantity
      allowed_there before =
          allowed_at (set listed i entry) i (omega (arith, length-set {A = Allowance}))
          (λ k h. ap (lists coordinator resource) (get_or-set_other listed i k entry none (omega arith)) ∙ before k h)
          (get_or-set_same listed i entry none low)

      others_allowed_there : (c r : ℕ) → own c r ≡ false → allowance_of c r (set listed i entry) ≡ allowance_of c r listed
      others_allowed_there c r other = found_set_other (allowance_of c r) (lists c r) (λ a. a.quantity) 0 refl (λ _ _. refl) listed i entry none (same c r other) other

      others_listed_there : (c r : ℕ) → is_listed c r (set listed i entry) ≡ (own c r || is_listed c r listed)
      others_listed_there c r = elim (cases_Bool (own c r)) [
        | inl e ↦ or_set (is_listed c r) (lists c r) refl (λ _ _. refl) listed i entry low e ∙ sym (ap (λ b. b || is_listed c r listed) e)
        | inr e ↦
            found_set_other (is_listed c r) (lists c r) (λ _. true) false refl (λ a xs. or_cond (lists c r a) (is_listed c r xs)) listed i entry none (same c r e) e
            ∙ sym (ap (λ b. b || is_listed c r listed) e)
      ]

      number_there : length (set listed i entry) ≡ cond (is_listed coordinator resource listed) (length listed) (length listed + 1)
      number_there = length-set listed i entry ∙ sym (ap (λ b. cond b (length listed) (length listed + 1)) listed_there)

      pub entered_there : passed listed i → Entered coordinator resource quantity listed (set listed i entry)
      entered_there before = record {
        allowed = allowed_there before;
        others_allowed = others_allowed_there;
        others_listed = others_listed_there;
        number = number_there;
      }

    -- behind all
    module _ (before : passed listed (length listed)) where
      pub listed_nowhere : is_listed coordinator resource listed ≡ false
      listed_nowhere =
          found_nowhere (is_listed coordinator resource) (lists coordinator resource) (λ _. true) false refl
          (λ a xs. or_cond (lists coordinator resource a) (is_listed coordinator resource xs)) listed none before

      allowed_behind : allowance_of coordinator resource (listed ++ entry ∷ []) ≡ quantity
      allowed_behind =
          allowed_at (listed ++ entry ∷ []) (length listed) (omega (arith, length_push {X = Allowance}))
          (λ k h. ap (lists coordinator resource) (get_or_append_left listed (entry ∷ []) none k h) ∙ before k h)
          (get_or_push listed entry none (length listed) refl)

      others_allowed_behind : (c r : ℕ) → own c r ≡ false → allowance_of c r (listed ++ entry ∷ []) ≡ allowance_of c r listed
      others_allowed_behind c r other = found_push_other (allowance_of c r) (lists c r) (λ a. a.quantity) 0 refl (λ _ _. refl) listed entry other

      others_listed_behind : (c r : ℕ) → is_listed c r (listed ++ entry ∷ []) ≡ (own c r || is_listed c r listed)
      others_listed_behind c r = or_push (is_listed c r) (lists c r) refl (λ _ _. refl) listed entry ∙ or_comm (is_listed c r listed) (own c r)

      number_behind : length (listed ++ entry ∷ []) ≡ cond (is_listed coordinator resource listed) (length listed) (length listed + 1)
      number_behind = length_push listed entry ∙ sym (ap (λ b. cond b (length listed) (length listed + 1)) listed_nowhere)

      pub entered_behind : Entered coordinator resource quantity listed (listed ++ entry ∷ [])
      entered_behind = record {
        allowed = allowed_behind;
        others_allowed = others_allowed_behind;
        others_listed = others_listed_behind;
        number = number_behind;
      }
