-- The consequences of the year law, each from the clause that it speaks of.
use Rattle.std.proofs.Common.{◌≡◌, ℕ, zero, suc, ◌-◌, ◌*◌, ◌/◌, ◌^◌, ◌<◌, List, [], ◌∷◌, ◌++◌, length, ℤ, pos, negsuc, sym, refl, ap, ◌∙◌, subst, inr, mul-div_cancel, arith}
use lib.Seq.{take-length}
use Rattle.std.proofs.lemmas.Int.{ints}
use Rattle.std.proofs.lemmas.Bool.{leb-true}
use Rattle.questions.specs.Questions.{ask, first, in_turn}
use Rattle.sheet.specs.Questions.{row_questions, row_refusal, count_refusal, sheet_refusal}
use Rattle.charges.specs.Rules.{Meaning, quantity_of, line, line_of}
use Rattle.charges.specs.Sums.{total}
use Rattle.year.specs.Spread.{SpreadLaw, quotient, spread}
use Rattle.year.specs.Terms.{Terms, flagged}
use Rattle.year.specs.Market.{pay_market, coordinators_refusal, balance_refusal, lines_refusal, post_refusal, adjust_refusal, pay_market_refusal, market_effect}
use Rattle.year.specs.Rc.{assess, default, carrier_weights, minimums, assessment, spreadable, pay_rc_refusal, assess_refusal, default_refusal, passed_on, rc_effect}
use Rattle.year.specs.Book.{Book, Call, of_market, of_rc, no_market, no_rc, opened, Outcome, outcomes, accepted_calls}
use Rattle.year.specs.Reading.{balances, totals}
use Rattle.year.specs.Balances.{EachBalance}
use Rattle.year.specs.Amounts.{no_amounts, amounts_after, Sums, Fits}
use Rattle.year.specs.Defaults.{rises, WithinCent, DefaultLaw}
use Rattle.year.specs.Isolation.{posts, adjusts, pays, neither, SameOutcome, SameOutcomes}
use Rattle.year.specs.Year.{after}
use Rattle.year.specs.Examples.{each_row}
use Rattle.year.specs.Consequences.{four, year, one_year, other_year, double_row, tried, SecondDefault, Thirds, thirds_of, Consequences}
use Rattle.year.proofs.Sums.{get_or_le_total}
use Rattle.year.proofs.Ledger.{length_outcomes}

year_happens : accepted_calls (opened four) year ≡ year
unfolding flagged ask first in_turn row_questions row_refusal count_refusal sheet_refusal quantity_of line line_of quotient spread coordinators_refusal balance_refusal lines_refusal post_refusal adjust_refusal pay_market_refusal market_effect minimums assessment spreadable pay_rc_refusal assess_refusal default_refusal passed_on rc_effect no_market no_rc
year_happens = refl

one_year_happens : let os = one_year each_row double_row (pos 9) in outcomes (opened four) (tried (of_rc (default 1 1)) os) ≡ os
unfolding flagged ask first in_turn row_questions row_refusal count_refusal sheet_refusal quantity_of line line_of quotient spread coordinators_refusal balance_refusal lines_refusal post_refusal adjust_refusal pay_market_refusal market_effect minimums assessment spreadable pay_rc_refusal assess_refusal default_refusal passed_on rc_effect no_market no_rc
one_year_happens = refl

other_year_happens : let os = other_year each_row double_row (pos 9) in outcomes (opened four) (tried (of_market (pay_market 9 1)) os) ≡ os
unfolding flagged ask first in_turn row_questions row_refusal count_refusal sheet_refusal quantity_of line line_of quotient spread coordinators_refusal balance_refusal lines_refusal post_refusal adjust_refusal pay_market_refusal market_effect minimums assessment spreadable pay_rc_refusal assess_refusal default_refusal passed_on rc_effect no_market no_rc
other_year_happens = refl

pair : (x a : ℤ) (y b : ℕ) → x ≡ a → pos y ≡ pos b → ◌≡◌ {A = ℤ × ℕ} (x, y) (a, b)
pair x a y b e f = let g : y ≡ b = omega (arith, ints) in cc

pub each_of : (b : Book) → EachBalance four b year → (balances b 0 ≡ (pos 50, 85)) × (balances b 1 ≡ (pos 40, 236)) × (balances b 2 ≡ (negsuc 4, 500)) × (balances b 3 ≡ (pos 0, 100))
unfolding quantity_of line line_of quotient spread flagged
each_of b h = (
  pair _ _ _ _ (h.market 0 (omega arith)) (h.rc 0 (omega arith)),
  pair _ _ _ _ (h.market 1 (omega arith)) (h.rc 1 (omega arith)),
  pair _ _ _ _ (h.market 2 (omega arith)) (h.rc 2 (omega arith)),
  pair _ _ _ _ (h.market 3 (omega arith)) (h.rc 3 (omega arith)),
)

pub sums_of : (b : Book) → Sums b (amounts_after 4 no_amounts year) → totals b ≡ (pos 85, 921)
unfolding quantity_of line line_of
sums_of b h = pair _ _ _ _ h.market h.rc

-- the largest product
whole_fits : (amount : ℕ) (weights : List ℕ) → Fits amount weights → amount * total weights < 2 ^ 64
whole_fits amount weights h = subst (λ ws. amount * total ws < 2 ^ 64) (take-length weights) (h (length weights))

second_of : (before after : List ℕ) → DefaultLaw four 0 90 before after → SecondDefault (rises after before)
unfolding quotient spread
second_of before after h = record {
  debtor = h.falls;
  carried = h.sum;
  first_debtor = h.share 1 (omega arith) (omega arith);
  third = h.share 2 (omega arith) (omega arith);
  unweighted = h.share 3 (omega arith) (omega arith);
}

exactly : (rise : ℤ) → WithinCent 90 3 5 rise → rise ≡ pos 54
exactly rise h = let a = h.above in let b = h.below in omega (arith, ints)

-- position by position
abbrev Each : ℕ → List Outcome → List Outcome → Type 0
Each k [] os' = Unit {0}
Each k (o ∷ os) [] = ⊥
Each k (o ∷ os) (o' ∷ os') = SameOutcome k o o' × Each k os os'

each_same : (k : ℕ) (os os' : List Outcome) → Each k os os' → SameOutcomes k os os'
each_same k [] os' h j w = absurd (omega arith)
each_same k (o ∷ os) [] h j w = absurd h
each_same k (o ∷ os) (o' ∷ os') h zero w = h.0
each_same k (o ∷ os) (o' ∷ os') h (suc j) w = each_same k os os' h.1 j (omega arith)

same_years : (m m' : Meaning) (amount : ℤ) → SameOutcomes 1 (one_year m m' amount) (other_year m m' amount)
same_years m m' amount =
    let of_0 : ◌≡◌ {A = ℕ} 0 1 → ⊥ = λ e. omega arith in
    let of_2 : ◌≡◌ {A = ℕ} 2 1 → ⊥ = λ e. omega arith in
    each_same 1 (one_year m m' amount) (other_year m m' amount)
    (posts refl, (posts refl, (tt, (neither tt of_2, (adjusts, (neither of_0 of_0, (pays, tt)))))))

seven : (t : Terms) (calls : List Call) (os : List Outcome) → outcomes (opened t) calls ≡ os → length calls ≡ length os
seven t calls os e = sym (length_outcomes (opened t) calls) ∙ ap length e

thirds_are : (amount : ℕ) → SpreadLaw amount (1 ∷ 1 ∷ 1 ∷ []) → Thirds amount (thirds_of amount)
thirds_are amount law =
    let some : 0 < total (1 ∷ 1 ∷ 1 ∷ []) = omega arith in
    let low = law.above 1 (omega arith) some in
    let high = law.below 1 (omega arith) some in
    record {
      three = law.long;
      whole = law.whole (inr some);
      low = omega arith;
      high = omega arith;
      last = law.floors 2 (omega arith) some ∙ ap (λ n. n - amount * 2 / 3) (mul-div_cancel amount (omega arith));
    }

pub consequences : Consequences
consequences = record {
  happens = year_happens;
  one_happens = one_year_happens;
  other_happens = other_year_happens;
  each = λ law calls e. each_of (after four calls) (subst (EachBalance four (after four calls)) e (law.balances calls));
  sums = λ law calls e. sums_of (after four calls) (subst (λ cs. Sums (after four calls) (amounts_after 4 no_amounts cs)) e (law.sums calls));
  rc_bound = λ t law calls k.
      let s = law.sums calls in
      let below = get_or_le_total (after t calls).rc.balances k in
      let most = s.at_most_charge in
      let bound = s.charge_bound in
      omega arith;
  last = λ t law calls k e. leb-true _ _ (law.market_bounds calls k (omega arith));
  assessed = λ t law calls charge minimum ok. whole_fits _ t.demands (law.products calls (assess charge minimum) ok);
  defaulted = λ t law calls debtor unpaid ok. whole_fits unpaid (carrier_weights t debtor) (law.products calls (default debtor unpaid) ok);
  second = λ law calls ok. second_of _ _ (law.defaults (calls ++ of_rc (default 1 100) ∷ []) 0 90 ok);
  near = λ law calls unpaid ok. (law.defaults calls 0 unpaid ok).proportion 2 (omega arith) (omega arith);
  exact = exactly;
  alike = λ t t' law d f w m m' amount calls calls' e e'.
      law.isolation 1 w t' d f calls calls' (seven t calls _ e ∙ sym (seven t' calls' _ e')) (rw (e, e') (same_years m m' amount));
  thirds = thirds_are;
  nothing_spread = λ weights law k. law.nothing refl k;
  weightless = λ amount law. law.weightless 1 refl;
}
