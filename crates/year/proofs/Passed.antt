-- What follows from a call's having passed its questions.
use Rattle.std.proofs.Common.{◌≡◌, ℕ, ◌*◌, ◌<◌, ◌≤◌, true, not, eqb, ltb, ◌⊎◌, List, length, ℤ, pos, ◌+ℤ◌, ◌-ℤ◌, is_some, Some, None, Option, sym, refl, inl, inr, arith}
use Rattle.std.proofs.lemmas.Bool.{and_parts, or_cases, ltb-true, leb-true, eqb-true}
use Rattle.questions.proofs.Asked.{ask_passed, first_passed, turn_at}
use Rattle.sheet.specs.Rows.{rows}
use Rattle.sheet.specs.Questions.{within}
use Rattle.charges.specs.Rules.{Meaning, line_of}
use Rattle.charges.specs.Sums.{total}
use Rattle.year.specs.Terms.{Terms, count, demand_at, flag_at, flagged, coordinator_refusal, open_refusal}
use Rattle.year.specs.Market.{Market, market_balance, balance_refusal, lines_refusal, post_refusal, adjust_refusal, pay_market_refusal}
use Rattle.year.specs.Rc.{Rc, rc_balance, rest, carrier_weights, spreadable, pay_rc_refusal, assess_refusal, default_refusal}
use Rattle.year.proofs.Sums.{total_le}

-- ---- opening

pub record Opens (t : Terms) : Type 0 where
  pub flags_long : length t.flags ≡ count t
  pub few : count t ≤ 64
  pub demands_bound : total t.demands ≤ 3200000000
  pub flagged_demand : (k : ℕ) → k < count t → flag_at t k ≡ 1 → demand_at t k ≡ 0

demand_passed : (t : Terms) (k : ℕ) → coordinator_refusal t k ≡ None → (demand_at t k ≤ 50000000) × (flag_at t k ≡ 1 → demand_at t k ≡ 0)
unfolding coordinator_refusal
demand_passed t k h =
    let p = and_parts _ _ (ask_passed _ _ _ _ h).0 in (
      leb-true _ _ (and_parts _ _ p.0).0,
      λ flag. elim (or_cases (eqb (flag_at t k) 0) (eqb (demand_at t k) 0) p.1) [ inl e ↦ absurd (let z = eqb-true (flag_at t k) 0 e in omega arith) | inr e ↦ eqb-true (demand_at t k) 0 e ],
    )

pub open_passed : (t : Terms) → open_refusal t ≡ None → Opens t
unfolding open_refusal
open_passed t h =
    let p = ask_passed _ _ _ _ h in
    let sizes = and_parts _ _ p.0 in
    let few : count t ≤ 64 = leb-true _ _ sizes.1 in
    let each : (k : ℕ) → k < count t → coordinator_refusal t k ≡ None = λ k w. turn_at (coordinator_refusal t) (count t) k p.1 w in
    let bound = total_le 50000000 t.demands (λ k w. (demand_passed t k (each k w)).0) in
    record {
      flags_long = sym (eqb-true _ _ (and_parts _ _ sizes.0).0);
      few = few;
      demands_bound = omega arith;
      flagged_demand = λ k w. (demand_passed t k (each k w)).1;
    }

-- ---- the market side

balance_passed : (k : ℕ) (z : ℤ) → balance_refusal k z ≡ None → within 1000000000000000 z ≡ true
unfolding balance_refusal
balance_passed k z h = (ask_passed _ _ _ _ h).0

lines_passed : (n : ℕ) (b : Market) (line : ℕ → ℕ) → lines_refusal n b line ≡ None → (k : ℕ) → k < n → within 1000000000000000 (market_balance b k +ℤ pos (line k)) ≡ true
unfolding lines_refusal
lines_passed n b line h k w = balance_passed k _ (turn_at (λ j. balance_refusal j (market_balance b j +ℤ pos (line j))) n k h w)

pub post_passed : (n : ℕ) (b : Market) (m : Meaning) (day rate : ℕ) (sheet : List ℕ) → post_refusal n b m day rate sheet ≡ None →
    (k : ℕ) → k < n → within 1000000000000000 (market_balance b k +ℤ pos (line_of m rate (rows sheet) k)) ≡ true
unfolding post_refusal
post_passed n b m day rate sheet h =
    let p = (ask_passed _ _ _ _ h).1 in
    let q = (first_passed _ _ p).1 in
    let r = (first_passed _ _ q).1 in
    lines_passed n b (line_of m rate (rows sheet)) (ask_passed _ _ _ _ r).1

pub adjust_passed : (n : ℕ) (b : Market) (k : ℕ) (a : ℤ) → adjust_refusal n b k a ≡ None → (k < n) × (within 1000000000000000 (market_balance b k +ℤ a) ≡ true)
unfolding adjust_refusal
adjust_passed n b k a h =
    let p = ask_passed _ _ _ _ h in
    let q = ask_passed _ _ _ _ p.1 in
    (ltb-true k n p.0, balance_passed k _ q.1)

pub pay_market_passed : (n : ℕ) (b : Market) (k a : ℕ) → pay_market_refusal n b k a ≡ None → (k < n) × (within 1000000000000000 (market_balance b k -ℤ pos a) ≡ true)
unfolding pay_market_refusal
pay_market_passed n b k a h =
    let p = ask_passed _ _ _ _ h in
    let q = ask_passed _ _ _ _ p.1 in
    (ltb-true k n p.0, balance_passed k _ q.1)

-- ---- the RC side

none_assessed : (o : Option ℕ) → not (is_some o) ≡ true → o ≡ None
none_assessed None h = refl
none_assessed (Some c) h = absurd (let z : ◌≡◌ {A = ℕ} 0 1 = cc in omega arith)

pub spreadable_cases : (u : ℕ) (ws : List ℕ) → spreadable u ws ≡ true → (u ≡ 0) ⊎ (0 < total ws)
unfolding spreadable
spreadable_cases u ws h = elim (or_cases (eqb u 0) (ltb 0 (total ws)) h) [ inl e ↦ inl (eqb-true u 0 e) | inr e ↦ inr (ltb-true 0 (total ws) e) ]

pub pay_rc_passed : (t : Terms) (b : Rc) (k a : ℕ) → pay_rc_refusal t b k a ≡ None → (k < count t) × (a ≤ rc_balance b k)
unfolding pay_rc_refusal
pay_rc_passed t b k a h =
    let p = ask_passed _ _ _ _ h in
    let q = ask_passed _ _ _ _ p.1 in
    let r = ask_passed _ _ _ _ q.1 in
    (ltb-true k (count t) p.0, leb-true a (rc_balance b k) r.0)

pub record AssessPassed (t : Terms) (b : Rc) (charge minimum : ℕ) : Type 0 where
  pub unassessed : b.charge ≡ None
  pub enough : minimum * flagged t ≤ charge
  pub bound : charge ≤ 2000000000
  pub carriers : (rest t charge minimum ≡ 0) ⊎ (0 < total t.demands)

pub assess_passed : (t : Terms) (b : Rc) (charge minimum : ℕ) → assess_refusal t b charge minimum ≡ None → AssessPassed t b charge minimum
unfolding assess_refusal
assess_passed t b charge minimum h =
    let p = ask_passed _ _ _ _ h in
    let q = ask_passed _ _ _ _ p.1 in
    let r = ask_passed _ _ _ _ q.1 in
    let a = and_parts _ _ q.0 in
    record {
      unassessed = none_assessed b.charge p.0;
      enough = leb-true _ charge a.1;
      bound = leb-true charge _ (and_parts _ _ a.0).0;
      carriers = spreadable_cases _ t.demands r.0;
    }

pub record DefaultPassed (t : Terms) (b : Rc) (debtor unpaid : ℕ) : Type 0 where
  pub here : debtor < count t
  pub some : 0 < unpaid
  pub bound : unpaid ≤ 2000000000
  pub covered : unpaid ≤ rc_balance b debtor
  pub carriers : 0 < total (carrier_weights t debtor)

pub default_passed : (t : Terms) (b : Rc) (debtor unpaid : ℕ) → default_refusal t b debtor unpaid ≡ None → DefaultPassed t b debtor unpaid
unfolding default_refusal
default_passed t b debtor unpaid h =
    let p = ask_passed _ _ _ _ h in
    let q = ask_passed _ _ _ _ p.1 in
    let r = ask_passed _ _ _ _ q.1 in
    let s = ask_passed _ _ _ _ r.1 in
    let a = and_parts _ _ q.0 in
    let some : 0 < unpaid = leb-true 1 unpaid a.0 in
    record {
      here = ltb-true debtor (count t) p.0;
      some = some;
      bound = leb-true unpaid _ a.1;
      covered = leb-true unpaid (rc_balance b debtor) r.0;
      carriers = elim (spreadable_cases unpaid (carrier_weights t debtor) s.0) [ inl z ↦ absurd (omega arith) | inr w ↦ w ];
    }
