-- Adjustments and market payments.
use Rattle.std.proofs.Common.{◌≡◌, ℕ, ◌^◌, ◌<◌, ◌≤◌, Bool, true, false, ◌&&◌, leb, List, length, get_or, set, ℤ, pos, ◌+ℤ◌, ◌-ℤ◌, neg_ℤ, nat_abs, Some, None, Err, Result, sym, refl, ap, ◌∙◌, arith, w64, SFits, to_z, of_z}
use Rattle.std.proofs.lemmas.List.{map-set}
use Rattle.std.proofs.Math.Seq.{map-set_same}
use Rattle.std.proofs.lemmas.Int.{to_z-of_z, to_z_pos, ints}
use Rattle.std.proofs.lemmas.Bool.{and_parts, leb-true, le-leb}
use Rattle.questions.specs.Questions.{Refusal, no_at, acceptance}
use Rattle.questions.proofs.Asked.{ask_yes, ask_no}
use Rattle.sheet.specs.Questions.{within}
use Rattle.year.specs.Market.{market_balance, adjust, pay_market, balance_refusal, adjust_refusal, pay_market_refusal, market_effect}
use Rattle.charges.specs.Sums.{total}
use Rattle.year.specs.Rc.{charge_of}
use Rattle.year.specs.Book.{Book, of_market, settled}
use Rattle.yearbook.specs.declared.coordinator.Coordinator.{Coordinator}
use Rattle.yearbook.specs.declared.book.YearBook.{YearBook}
use Rattle.yearbook.specs.Coordinators.{nobody, demand_of, flag_of, market_of, rc_of, demands, flags, markets, rcs, market_at}
use Rattle.yearbook.specs.Taken.{Done}
use Rattle.yearbook.specs.View.{view, book_of, with_market}
use Rattle.yearbook.proofs.Taken.{taken_refused, taken_last}
use Rattle.yearbook.proofs.Views.{book_with, view_is, in_count, past_count, market_is}

pub refused_at : (k : ℕ) (z : ℤ) → within 1000000000000000 z ≡ false → balance_refusal k z ≡ Some (no_at 11 k)
unfolding balance_refusal
refused_at k z out = ask_no 11 k _ out

pub passed_at : (k : ℕ) (z : ℤ) → within 1000000000000000 z ≡ true → balance_refusal k z ≡ None
unfolding balance_refusal
passed_at k z fits = ask_yes 11 k _ fits

module _ (s : YearBook) (k : ℕ) where
  abbrev t : List Coordinator
  t = s.coordinators.list.items

  abbrev b : Book
  b = book_of s

  pub moved_owed : (z : ℤ) (t' : List Coordinator) → t' ≡ set t k (market_at (get_or t k nobody) z) → total (rcs t') ≤ charge_of s.charge
  moved_owed z t' e =
      let r = ap total (ap rcs e ∙ map-set_same rc_of t k (market_at (get_or t k nobody) z) nobody refl) in
      let o = s.owed in
      omega arith

  module _ (a : ℤ) where
    pub refused_11 : k < length t → within 1000000000000000 ((get_or t k nobody).market +ℤ a) ≡ false → balance_refusal k (market_balance b.market k +ℤ a) ≡ Some (no_at 11 k)
    refused_11 h out = refused_at k _ (rw (market_is s k h) out)

    pub passed_11 : k < length t → within 1000000000000000 ((get_or t k nobody).market +ℤ a) ≡ true → balance_refusal k (market_balance b.market k +ℤ a) ≡ None
    passed_11 h fits = passed_at k _ (rw (market_is s k h) fits)

    pub moved_is : k < length t → (t' : List Coordinator) → t' ≡ set t k (market_at (get_or t k nobody) ((get_or t k nobody).market +ℤ a)) → view t' s.posted s.charge ≡ with_market b k a
    moved_is h t' e =
        let c : Coordinator = market_at (get_or t k nobody) ((get_or t k nobody).market +ℤ a) in
        view_is t t' (ap demands e ∙ map-set_same demand_of t k c nobody refl) (ap flags e ∙ map-set_same flag_of t k c nobody refl)
        _ (ap markets e ∙ map-set market_of t k c ∙ ap (λ z. set b.market.balances k (z +ℤ a)) (sym (market_is s k h)))
        _ (ap rcs e ∙ map-set_same rc_of t k c nobody refl) s.posted _ refl s.charge

    pub adjust_12 : length t ≤ k → Done b (of_market (adjust k a)) b (Err (no_at 12 0))
    unfolding adjust_refusal
    adjust_12 h = taken_refused b (of_market (adjust k a)) tt _ (ask_no 12 0 _ (past_count s k h))

    pub adjust_13 : k < length t → within 1000000000000 a ≡ false → Done b (of_market (adjust k a)) b (Err (no_at 13 0))
    unfolding adjust_refusal
    adjust_13 h out = taken_refused b (of_market (adjust k a)) tt _ (ask_yes 12 0 _ (in_count s k h) ∙ ask_no 13 0 _ out)

    pub adjust_last : k < length t → within 1000000000000 a ≡ true → (b' : Book) (said : Result (Unit {0}) Refusal) →
        said ≡ acceptance (balance_refusal k (market_balance b.market k +ℤ a)) → b' ≡ settled (balance_refusal k (market_balance b.market k +ℤ a)) b (with_market b k a) →
        Done b (of_market (adjust k a)) b' said
    unfolding adjust_refusal market_effect
    adjust_last h small b' said e w = taken_last b (of_market (adjust k a)) tt b' _ said (ask_yes 12 0 _ (in_count s k h) ∙ ask_yes 13 0 _ small) e w

  module _ (a : ℕ) where
    abbrev in_bounds : Bool
    in_bounds = leb 1 a && leb a 1000000000000

    pub pay_market_12 : length t ≤ k → Done b (of_market (pay_market k a)) b (Err (no_at 12 0))
    unfolding pay_market_refusal
    pay_market_12 h = taken_refused b (of_market (pay_market k a)) tt _ (ask_no 12 0 _ (past_count s k h))

    pub pay_market_13 : k < length t → in_bounds ≡ false → Done b (of_market (pay_market k a)) b (Err (no_at 13 0))
    unfolding pay_market_refusal
    pay_market_13 h out = taken_refused b (of_market (pay_market k a)) tt _ (ask_yes 12 0 _ (in_count s k h) ∙ ask_no 13 0 _ out)

    less_is : (z : ℤ) → z -ℤ pos a ≡ z +ℤ neg_ℤ (pos a)
    less_is z = omega (arith, ints)

    pub pay_market_last : k < length t → in_bounds ≡ true → (z : ℤ) → z ≡ neg_ℤ (pos a) → (b' : Book) (said : Result (Unit {0}) Refusal) →
        said ≡ acceptance (balance_refusal k (market_balance b.market k +ℤ z)) → b' ≡ settled (balance_refusal k (market_balance b.market k +ℤ z)) b (with_market b k z) →
        Done b (of_market (pay_market k a)) b' said
    unfolding pay_market_refusal market_effect
    pay_market_last h fits z is b' said e w =
        let m : ℤ = market_balance b.market k in
        let moved : m +ℤ z ≡ m -ℤ pos a = ap (λ y. m +ℤ y) is ∙ sym (less_is m) in
        taken_last b (of_market (pay_market k a)) tt b' (balance_refusal k (m +ℤ z)) said
        (ask_yes 12 0 _ (in_count s k h) ∙ ask_yes 13 0 _ fits ∙ ap (balance_refusal k) (sym moved)) e
        (w ∙ ap (λ y. settled (balance_refusal k (m +ℤ z)) b (book_with b.terms (set b.market.balances k y) b.market.posted b.rc.balances s.charge)) moved)

-- ---- a payment as a move, in the code's numbers

pub at_most : (a : ℕ) → (leb 1 a && leb a 1000000000000) ≡ true → a ≤ 1000000000000
at_most a h = leb-true a 1000000000000 (and_parts _ _ h).1

pub negated : (a : ℕ) → a ≤ 1000000000000 → to_z w64 (of_z w64 (pos 0 -ℤ to_z w64 a)) ≡ neg_ℤ (pos a)
negated a h =
    let w : a < 2 ^ 63 = omega arith in
    let f : SFits w64 (pos 0 -ℤ pos a) = omega (arith, ints) in
    rw (to_z_pos w64 a w, to_z-of_z w64 (pos 0 -ℤ pos a) f) (omega (arith, ints))

pub negated_within : (a : ℕ) → a ≤ 1000000000000 → within 1000000000000 (neg_ℤ (pos a)) ≡ true
negated_within a h = le-leb (nat_abs (neg_ℤ (pos a))) 1000000000000 (omega (arith, ints))
