-- Spreading over the coordinators, and assessing.
use Rattle.std.proofs.Common.{◌≡◌, ℕ, suc, ◌+◌, ◌-◌, ◌*◌, ◌<◌, ◌≤◌, Bool, true, false, cond, not, ◌&&◌, eqb, leb, List, [], ◌∷◌, map, length, get_or, take, set, is_some, Some, None, count_by, sym, refl, ap, ◌∙◌, ap₂, inl, inr, arith}
use Rattle.std.proofs.lemmas.Bool.{or_right, and_parts, leb-true, cases_lt, ne_eqb, eq-eqb, le-ltb, lt-ltb}
use Rattle.std.proofs.lemmas.List.{length-map, get_or-map, get_or-set_same, get_or-set_other}
use Rattle.std.proofs.lemmas.List.Sums.{sum_by-cons}
use Rattle.charges.specs.Sums.{total}
use Rattle.questions.specs.Questions.{no_at}
use Rattle.questions.proofs.Asked.{ask_yes, ask_no}
use Rattle.year.specs.Plus.{plus}
use Rattle.year.specs.Spread.{quotient, spread}
use Rattle.year.specs.Terms.{flagged}
use Rattle.year.specs.Rc.{assess, charge_of, minimums, rest, assessment, spreadable, assess_refusal, rc_effect}
use Rattle.year.specs.Book.{Book, of_rc, refusal, effect}
use Rattle.year.proofs.Sums.{get_or_plus, get_or_le_total, length_plus, total_plus}
use Rattle.year.proofs.Passed.{AssessPassed, assess_passed}
use Rattle.year.proofs.Rc.{total_of_flags}
use Rattle.year.proofs.Spread.{Underway, length_spread, next_within, next_way, next_share, quotient_none, spread_at, spread_law}
use Rattle.yearbook.specs.declared.coordinator.Coordinator.{Coordinator}
use Rattle.yearbook.specs.Coordinators.{nobody, demand_of, flag_of, market_of, rc_of, demands, flags, markets, rcs, terms_in, rc_raised, each_with}
use Rattle.yearbook.specs.declared.book.YearBook.{YearBook}
use Rattle.yearbook.specs.View.{view, book_of}
use Rattle.yearbook.proofs.Raised.{rcs_raised, map_raised}
use Rattle.yearbook.proofs.Views.{view_is}

flag_is_one : (b : Bool) → eqb (cond b 1 0) 1 ≡ b
flag_is_one true = refl
flag_is_one false = refl

-- the flagged coordinators, as the code counts them
pub flagged_are : (t : List Coordinator) → count_by (λ c. c.flagged) t ≡ flagged (terms_in t)
unfolding flagged
flagged_are [] = refl
flagged_are (c ∷ t) =
    sum_by-cons (λ x. cond x.flagged 1 0) c t
    ∙ ap₂ (λ (b : Bool) (n : ℕ). cond b 1 0 + n) (sym (flag_is_one c.flagged)) (flagged_are t)
    ∙ sym (sum_by-cons (λ flag. cond (eqb flag 1) 1 0) (flag_of c) (map flag_of t))

module _ (t : List Coordinator) (minimum : ℕ) where
  pub minimums_long : length (minimums (terms_in t) minimum) ≡ length t
  unfolding minimums
  minimums_long = length-map (flags t) _ ∙ length-map t flag_of

  minimum_at : (k : ℕ) → k < length t → get_or (minimums (terms_in t) minimum) k 0 ≡ cond (get_or t k nobody).flagged minimum 0
  unfolding minimums
  minimum_at k w =
      let l = length-map t flag_of in
      get_or-map (λ flag. cond (eqb flag 1) minimum 0) (flags t) k 0 0 (omega arith)
      ∙ ap (λ flag. cond (eqb flag 1) minimum 0) (get_or-map flag_of t k nobody 0 w)
      ∙ ap (λ (b : Bool). cond b minimum 0) (flag_is_one (get_or t k nobody).flagged)

  -- the amount of a coordinator, as the code adds it
  pub charge_at : (left k : ℕ) → k < length t →
      get_or (plus (minimums (terms_in t) minimum) (spread left (demands t))) k 0 ≡ cond (get_or t k nobody).flagged minimum 0 + get_or (spread left (demands t)) k 0
  charge_at left k w =
      get_or_plus (minimums (terms_in t) minimum) (spread left (demands t)) k (minimums_long ∙ sym (length-map t demand_of) ∙ sym (length_spread _ (demands t)))
      ∙ ap (λ n. n + get_or (spread left (demands t)) k 0) (minimum_at k w)

  pub charge_long : (left : ℕ) → length (plus (minimums (terms_in t) minimum) (spread left (demands t))) ≡ length t
  charge_long left = length_plus _ _ ∙ minimums_long

  pub assessment_long : (charge : ℕ) → length (assessment (terms_in t) charge minimum) ≡ length t
  unfolding assessment
  assessment_long charge = charge_long (rest (terms_in t) charge minimum)

  pub minimums_total : total (minimums (terms_in t) minimum) ≡ minimum * flagged (terms_in t)
  unfolding minimums flagged
  minimums_total = total_of_flags minimum (flags t)

  pub minimum_low : (k : ℕ) → k < length t → cond (get_or t k nobody).flagged minimum 0 ≤ minimum * flagged (terms_in t)
  minimum_low k w = omega (arith, minimum_at k w, get_or_le_total (minimums (terms_in t) minimum) k, minimums_total)

-- ---- one step of an amount on its way

module _ (u : ℕ) (ws : List ℕ) (k amount whole sum : ℕ) (way : Underway u ws k amount whole sum) (here : k < length ws) (x : ℕ) (x_is : x ≡ get_or ws k 0) where
  pub step_within : sum + x ≤ whole
  step_within = rw x_is (next_within u ws k amount whole sum way here)

  pub step_way : (amount' whole' sum' : ℕ) → amount' ≡ amount → whole' ≡ whole → sum' ≡ sum + x → Underway u ws (k + 1) amount' whole' sum'
  step_way amount' whole' sum' a w s = rw (a, w, s, x_is) (next_way u ws k amount whole sum way here)

  pub step_share : (r : ℕ) → r ≡ quotient (amount * (sum + x)) whole - quotient (amount * sum) whole → r ≡ get_or (spread u ws) k 0
  step_share r e = e ∙ ap (λ (y : ℕ). quotient (amount * (sum + y)) whole - quotient (amount * sum) whole) x_is ∙ next_share u ws k amount whole sum way here

-- no share is more than the amount
pub spread_low : (u : ℕ) (ws : List ℕ) (k : ℕ) → k < length ws → get_or (spread u ws) k 0 ≤ u
spread_low u ws k here = elim (cases_lt 0 (total ws)) [
  | inl p ↦ omega (arith, get_or_le_total (spread u ws) k, (spread_law u ws).whole (inr p))
  | inr z ↦ omega (arith, spread_at u ws k here, quotient_none (u * total (take (suc k) ws)) (total ws) (omega arith))
]

module _ (t : List Coordinator) (debtor place : ℕ) (here : place < length t) where
  pub weight_of_debtor : place ≡ debtor → get_or (set (demands t) debtor 0) place 0 ≡ 0
  weight_of_debtor e =
      let l = length-map t demand_of in
      let w : debtor < length (demands t) = omega arith in
      rw e (get_or-set_same (demands t) debtor 0 0 w)

  pub weight_of_other : (place ≡ debtor → ⊥) → get_or (set (demands t) debtor 0) place 0 ≡ (get_or t place nobody).demand
  weight_of_other n = get_or-set_other (demands t) debtor place 0 0 n ∙ get_or-map demand_of t place nobody 0 here

-- ---- assessing: its questions

pub spread_no : (u : ℕ) (ws : List ℕ) → 0 < u → total ws ≡ 0 → spreadable u ws ≡ false
unfolding spreadable
spread_no u ws h z = rw (ne_eqb u 0 (λ e. omega arith), le-ltb 0 (total ws) (omega arith)) refl

pub spread_nothing : (u : ℕ) (ws : List ℕ) → u ≡ 0 → spreadable u ws ≡ true
unfolding spreadable
spread_nothing u ws h = rw (eq-eqb u 0 h) refl

pub spread_carried : (u : ℕ) (ws : List ℕ) → 0 < total ws → spreadable u ws ≡ true
unfolding spreadable
spread_carried u ws h = or_right (eqb u 0) _ (lt-ltb 0 (total ws) h)

module _ (s : YearBook) (charge minimum : ℕ) where
  abbrev b : Book
  b = book_of s

  abbrev t : List Coordinator
  t = s.coordinators.list.items

  abbrev fits : Bool
  fits = leb charge 2000000000 && leb minimum 2000000000 && leb (minimum * flagged b.terms) charge

  pub assess_15 : is_some s.charge ≡ true → refusal b (of_rc (assess charge minimum)) ≡ Some (no_at 15 0)
  unfolding assess_refusal
  assess_15 e = ask_no 15 0 _ (rw e)

  module _ (unassessed : is_some s.charge ≡ false) where
    first_yes : not (is_some s.charge) ≡ true
    first_yes = rw unassessed

    pub assess_16 : fits ≡ false → refusal b (of_rc (assess charge minimum)) ≡ Some (no_at 16 0)
    unfolding assess_refusal
    assess_16 e = ask_yes 15 0 _ first_yes ∙ ask_no 16 0 _ e

    module _ (ok : fits ≡ true) where
      pub assess_17 : spreadable (rest b.terms charge minimum) b.terms.demands ≡ false → refusal b (of_rc (assess charge minimum)) ≡ Some (no_at 17 0)
      unfolding assess_refusal
      assess_17 e = ask_yes 15 0 _ first_yes ∙ ask_yes 16 0 _ ok ∙ ask_no 17 0 _ e

      pub assess_none : spreadable (rest b.terms charge minimum) b.terms.demands ≡ true → refusal b (of_rc (assess charge minimum)) ≡ None
      unfolding assess_refusal
      assess_none e = ask_yes 15 0 _ first_yes ∙ ask_yes 16 0 _ ok ∙ ask_yes 17 0 _ e

      pub assess_enough : minimum * flagged b.terms ≤ charge
      assess_enough = leb-true _ charge (and_parts _ _ ok).1

  -- ---- its effect

  module _ (ok : refusal b (of_rc (assess charge minimum)) ≡ None) where
    pub passed : AssessPassed b.terms b.rc charge minimum
    passed = assess_passed b.terms b.rc charge minimum ok

    -- nothing is owed before assessing
    pub unowed : total (rcs t) ≡ 0
    unowed = let o = s.owed in let z : charge_of s.charge ≡ 0 = ap charge_of passed.unassessed in omega arith

    -- the amounts as the code forms them
    pub assessed : (left : ℕ) → left ≡ rest b.terms charge minimum → (t' : List Coordinator) → t' ≡ each_with rc_raised t (plus (minimums b.terms minimum) (spread left b.terms.demands)) → t' ≡ each_with rc_raised t (assessment b.terms charge minimum)
    unfolding assessment
    assessed left l t' e = e ∙ ap (λ x. each_with rc_raised t (plus (minimums b.terms minimum) (spread x b.terms.demands))) l

    module _ (t' : List Coordinator) (raised : t' ≡ each_with rc_raised t (assessment b.terms charge minimum)) where
      markets_are : markets t' ≡ markets t
      markets_are = ap markets raised ∙ map_raised market_of rc_raised (λ x y. refl) t (assessment b.terms charge minimum)

      demands_are : demands t' ≡ demands t
      demands_are = ap demands raised ∙ map_raised demand_of rc_raised (λ x y. refl) t (assessment b.terms charge minimum)

      flags_are : flags t' ≡ flags t
      flags_are = ap flags raised ∙ map_raised flag_of rc_raised (λ x y. refl) t (assessment b.terms charge minimum)

      rcs_are : rcs t' ≡ plus (rcs t) (assessment b.terms charge minimum)
      rcs_are = ap rcs raised ∙ rcs_raised t (assessment b.terms charge minimum)

      pub assess_left : view t' s.posted (Some charge) ≡ effect b (of_rc (assess charge minimum))
      unfolding rc_effect
      assess_left = view_is t t' demands_are flags_are _ markets_are _ rcs_are s.posted _ refl (Some charge)

      pub total_is : total (rcs t') ≡ charge
      unfolding assessment
      total_is =
          let lr = length-map t rc_of in
          let la = assessment_long t minimum charge in
          let lm = minimums_long t minimum in
          let ls = length_spread (rest b.terms charge minimum) b.terms.demands in
          let ld = length-map t demand_of in
          let p = total_plus (rcs t) (assessment b.terms charge minimum) (lr ∙ sym la) in
          let q = total_plus (minimums b.terms minimum) (spread (rest b.terms charge minimum) b.terms.demands) (lm ∙ sym ld ∙ sym ls) in
          let m = minimums_total t minimum in
          let w = (spread_law (rest b.terms charge minimum) b.terms.demands).whole passed.carriers in
          let z = unowed in
          let e = passed.enough in
          ap total rcs_are ∙ omega arith
