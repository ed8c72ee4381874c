-- RC payments and defaults.
use Rattle.std.proofs.Common.{◌≡◌, ℕ, ◌+◌, ◌-◌, ◌<◌, ◌≤◌, Bool, true, false, ◌&&◌, eqb, leb, ltb, List, length, get_or, set, Some, None, Ok, Err, Option, sym, refl, ap, ◌∙◌, ap₂, inl, inr, arith}
use Rattle.std.proofs.lemmas.Bool.{or_right, lt-leb, le-leb, lt-ltb, le-ltb, ne_eqb, cases_lt}
use Rattle.std.proofs.lemmas.List.{length-map, length-set, map-set, get_or-map, get_or-set_same, get_or_past}
use Rattle.std.proofs.Math.Seq.{map-set_same}
use Rattle.questions.specs.Questions.{Refusal, no_at, ask}
use Rattle.questions.proofs.Asked.{ask_yes, ask_no}
use Rattle.charges.specs.Sums.{total}
use Rattle.year.specs.Plus.{plus}
use Rattle.year.specs.Spread.{spread}
use Rattle.year.specs.Terms.{count, terms_of}
use Rattle.year.specs.Rc.{rc_balance, charge_of, pay_rc, default, carrier_weights, spreadable, pay_rc_refusal, default_refusal, passed_on, rc_effect}
use Rattle.year.specs.Book.{Book, of_rc}
use Rattle.year.proofs.Sums.{total_set}
use Rattle.year.proofs.Rc.{total_passed}
use Rattle.yearbook.specs.declared.coordinator.Coordinator.{Coordinator}
use Rattle.yearbook.specs.declared.book.YearBook.{YearBook}
use Rattle.yearbook.specs.Coordinators.{nobody, demand_of, flag_of, market_of, rc_of, demands, flags, markets, rcs, terms_in, rc_at, rc_raised, each_with}
use Rattle.yearbook.specs.Taken.{Done}
use Rattle.yearbook.specs.View.{view, book_of}
use Rattle.yearbook.proofs.Raised.{rcs_raised, map_raised}
use Rattle.yearbook.proofs.Columns.{rcs_at}
use Rattle.yearbook.proofs.Taken.{taken_refused, taken_accepted}
use Rattle.yearbook.proofs.Views.{view_is, count_is, in_count, past_count, rc_is}

-- a question that refused is asked before those behind it
refused_before : (p q u : Bool) (behind : Option Refusal) (r : Refusal) → ask p 12 0 (ask q 13 0 (ask u 14 0 None)) ≡ Some r → ask p 12 0 (ask q 13 0 (ask u 14 0 behind)) ≡ Some r
unfolding ask
refused_before true true true behind r e = cc
refused_before true true false behind r e = e
refused_before true false u behind r e = e
refused_before false q u behind r e = e

module _ (s : YearBook) (k a : ℕ) where
  abbrev b : Book
  b = book_of s

  abbrev n : ℕ
  n = length s.coordinators.list.items

  abbrev t : List Coordinator
  t = s.coordinators.list.items

  -- the balance in the account and in the model
  covered : k < n → a ≤ (get_or t k nobody).rc → leb a (rc_balance b.rc k) ≡ true
  covered h l = let r = rc_is s k h in le-leb a (rc_balance b.rc k) (omega arith)

  uncovered : k < n → (get_or t k nobody).rc < a → leb a (rc_balance b.rc k) ≡ false
  uncovered h l = let r = rc_is s k h in lt-leb a (rc_balance b.rc k) (omega arith)

  -- ---- questions 12 to 14, and those behind them

  abbrev asks : ℕ → Option Refusal → Option Refusal
  asks most behind = ask (ltb k (count b.terms)) 12 0 (ask (leb 1 a && leb a most) 13 0 (ask (leb a (rc_balance b.rc k)) 14 0 behind))

  pub owing_12 : (most : ℕ) → n ≤ k → asks most None ≡ Some (no_at 12 0)
  owing_12 most h = ask_no 12 0 _ (past_count s k h)

  pub owing_13 : (most : ℕ) → k < n → (leb 1 a && leb a most) ≡ false → asks most None ≡ Some (no_at 13 0)
  owing_13 most h out = ask_yes 12 0 _ (in_count s k h) ∙ ask_no 13 0 _ out

  pub owing_14 : (most : ℕ) → k < n → (leb 1 a && leb a most) ≡ true → (get_or t k nobody).rc < a → asks most None ≡ Some (no_at 14 0)
  owing_14 most h fits l = ask_yes 12 0 _ (in_count s k h) ∙ ask_yes 13 0 _ fits ∙ ask_no 14 0 _ (uncovered h l)

  -- all three passed
  owed : (most : ℕ) (behind : Option Refusal) → k < n → 1 ≤ a → a ≤ most → a ≤ (get_or t k nobody).rc → asks most behind ≡ behind
  owed most behind h low high l =
      ask_yes 12 0 _ (in_count s k h) ∙ ask_yes 13 0 _ (rw (le-leb 1 a low, le-leb a most high) refl) ∙ ask_yes 14 0 _ (covered h l)

  -- ---- a payment

  pub pay_rc_refused : (r : Refusal) → asks 1000000000000 None ≡ Some r → Done b (of_rc (pay_rc k a)) b (Err r)
  unfolding pay_rc_refusal
  pay_rc_refused r e = taken_refused b (of_rc (pay_rc k a)) tt r e

  pub pay_rc_done : k < n → 1 ≤ a → a ≤ 1000000000000 → a ≤ (get_or t k nobody).rc → (t' : List Coordinator) → t' ≡ set t k (rc_at (get_or t k nobody) ((get_or t k nobody).rc - a)) →
      Done b (of_rc (pay_rc k a)) (view t' s.posted s.charge) (Ok tt)
  unfolding pay_rc_refusal rc_effect
  pay_rc_done h low high l t' e = taken_accepted b (of_rc (pay_rc k a)) tt _ (owed 1000000000000 None h low high l)
      (let c : Coordinator = rc_at (get_or t k nobody) ((get_or t k nobody).rc - a) in
      view_is t t' (ap demands e ∙ map-set_same demand_of t k c nobody refl) (ap flags e ∙ map-set_same flag_of t k c nobody refl)
      _ (ap markets e ∙ map-set_same market_of t k c nobody refl)
      _ (ap rcs e ∙ map-set rc_of t k c ∙ ap (λ r. set (rcs t) k (r - a)) (sym (rc_is s k h))) s.posted _ refl s.charge)

  -- ---- a default: k is the debtor, a the unpaid amount

  abbrev weights : List ℕ
  weights = carrier_weights b.terms k

  -- the others' demand
  pub others_demand : k < n → total weights + (get_or t k nobody).demand ≡ total (demands t)
  others_demand h =
      let l = length-map t demand_of in
      let e = total_set (demands t) k 0 (omega arith) in
      let d = get_or-map demand_of t k nobody 0 h in
      omega arith

  pub weights_long : length weights ≡ n
  weights_long = length-set b.terms.demands k 0 ∙ count_is s

  debtor_out : get_or weights k 0 ≡ 0
  debtor_out = elim (cases_lt k (length b.terms.demands)) [
    | inl w ↦ get_or-set_same b.terms.demands k 0 0 w
    | inr w ↦ get_or_past weights k 0 (let l = length-set b.terms.demands k 0 in omega arith)
  ]

  pub default_refused : (r : Refusal) → asks 2000000000 None ≡ Some r → Done b (of_rc (default k a)) b (Err r)
  unfolding default_refusal
  default_refused r e = taken_refused b (of_rc (default k a)) tt r (refused_before _ _ _ _ r e)

  module _ (h : k < n) (low : 1 ≤ a) (high : a ≤ 2000000000) (l : a ≤ (get_or t k nobody).rc) where
    pub default_17 : total weights ≡ 0 → Done b (of_rc (default k a)) b (Err (no_at 17 0))
    unfolding default_refusal spreadable
    default_17 z = taken_refused b (of_rc (default k a)) tt _
        (owed 2000000000 _ h low high l ∙ ask_no 17 0 _ (rw (ne_eqb a 0 (λ e. omega arith), le-ltb 0 (total weights) (omega arith))))

    module _ (p : 0 < total weights) (t₁ t₂ : List Coordinator) (paid : t₁ ≡ set t k (rc_at (get_or t k nobody) ((get_or t k nobody).rc - a))) (raised : t₂ ≡ each_with rc_raised t₁ (spread a weights)) where
      abbrev c : Coordinator
      c = rc_at (get_or t k nobody) ((get_or t k nobody).rc - a)

      markets_are : markets t₂ ≡ markets t
      markets_are = ap markets raised ∙ map_raised market_of rc_raised (λ x y. refl) t₁ (spread a weights) ∙ ap markets paid ∙ map-set_same market_of t k c nobody refl

      demands_are : demands t₂ ≡ demands t
      demands_are = ap demands raised ∙ map_raised demand_of rc_raised (λ x y. refl) t₁ (spread a weights) ∙ ap demands paid ∙ map-set_same demand_of t k c nobody refl

      flags_are : flags t₂ ≡ flags t
      flags_are = ap flags raised ∙ map_raised flag_of rc_raised (λ x y. refl) t₁ (spread a weights) ∙ ap flags paid ∙ map-set_same flag_of t k c nobody refl

      rcs_are : rcs t₂ ≡ passed_on weights (rcs t) k a
      unfolding passed_on
      rcs_are = ap rcs raised ∙ rcs_raised t₁ (spread a weights)
          ∙ ap (λ xs. plus xs (spread a weights)) (ap rcs paid ∙ map-set rc_of t k c ∙ ap (λ x. set (rcs t) k (x - a)) (sym (rc_is s k h)))

      pub default_done : Done b (of_rc (default k a)) (view t₂ s.posted s.charge) (Ok tt)
      unfolding default_refusal rc_effect spreadable
      default_done = taken_accepted b (of_rc (default k a)) tt _
          (owed 2000000000 _ h low high l ∙ ask_yes 17 0 _ (or_right (eqb a 0) _ (lt-ltb 0 (total weights) p)))
          (view_is t t₂ demands_are flags_are _ markets_are _ rcs_are s.posted _ refl s.charge)

      pub default_owed : total (rcs t₂) ≤ charge_of s.charge
      default_owed =
          let lr = length-map t rc_of in
          let lw = weights_long in
          let o = rc_is s k h in
          let q = total_passed weights (rcs t) k a (omega arith) debtor_out (omega arith) (omega arith) p in
          rw (rcs_are, q) s.owed

  -- what is left to owe once the debtor's part is taken
  pub paid_owed : k < n → (t₁ : List Coordinator) → t₁ ≡ set t k (rc_at (get_or t k nobody) ((get_or t k nobody).rc - a)) → (m : ℕ) → total (rcs t) ≤ m → total (rcs t₁) ≤ m
  paid_owed h t₁ e m o =
      let l = length-map t rc_of in
      let r = rcs_at t k h in
      let z = total_set (rcs t) k ((get_or t k nobody).rc - a) (omega arith) in
      rw (e, map-set rc_of t k (rc_at (get_or t k nobody) ((get_or t k nobody).rc - a))) (omega arith)

  pub paid_terms : k < n → (t₁ : List Coordinator) → t₁ ≡ set t k (rc_at (get_or t k nobody) ((get_or t k nobody).rc - a)) → terms_in t₁ ≡ terms_in t
  paid_terms h t₁ e =
      let c : Coordinator = rc_at (get_or t k nobody) ((get_or t k nobody).rc - a) in
      ap₂ terms_of (ap demands e ∙ map-set_same demand_of t k c nobody refl) (ap flags e ∙ map-set_same flag_of t k c nobody refl)
