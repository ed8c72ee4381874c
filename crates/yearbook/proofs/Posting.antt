-- Posting and quoting.
use Rattle.std.proofs.Common.{◌≡◌, ℕ, ◌<◌, ◌≤◌, Bool, true, false, ◌&&◌, eqb, ltb, leb, List, [], length, get_or, set, ℤ, pos, ◌+ℤ◌, Some, None, Option, sym, refl, ap, ◌∙◌, ap₂, inl, inr, arith}
use mathlib.Core.Path.{fun_ext}
use Rattle.std.proofs.lemmas.List.{get_or-set_same, get_or-set_other}
use Rattle.std.proofs.lemmas.List.FromFn.{length-map-range_with_len, get_or-map-range_with_len}
use Rattle.std.proofs.lemmas.Bool.{and_parts, leb-true, cases_eq, lt-ltb, le-ltb, lt-leb, le-leb, eq-eqb, ne_eqb, eqb-true}
use Rattle.questions.specs.Questions.{Refusal, no_at, ask, in_turn}
use Rattle.questions.proofs.Asked.{ask_yes, ask_no, ask_passed, first_none, first_refused, turn_same}
use Rattle.sheet.specs.Rows.{row_count, row_at, rows}
use Rattle.sheet.specs.Questions.{sheet_refusal, within}
use Rattle.charges.specs.Sums.{total}
use Rattle.charges.specs.Rules.{Meaning, line_of, lines}
use Rattle.year.specs.Plus.{plus_z}
use Rattle.year.specs.Terms.{count}
use Rattle.year.specs.Market.{post, coordinators_refusal, balance_refusal, lines_refusal, post_refusal, marked, market_effect}
use Rattle.year.specs.Rc.{charge_of}
use Rattle.year.specs.Reading.{quote_refusal}
use Rattle.year.specs.Book.{Book, Call, of_market, refusal, effect}
use Rattle.year.proofs.Passed.{post_passed}
use Rattle.yearbook.specs.declared.coordinator.Coordinator.{Coordinator}
use Rattle.yearbook.specs.declared.book.YearBook.{YearBook}
use Rattle.yearbook.specs.Coordinators.{nobody, demand_of, flag_of, rc_of, demands, flags, markets, rcs, market_raised, each_with}
use Rattle.yearbook.specs.Taken.{Billed}
use Rattle.yearbook.specs.View.{posted_in, view, book_of}
use Rattle.yearbook.proofs.Raised.{markets_raised, map_raised}
use Rattle.yearbook.proofs.Views.{view_is, count_is, in_count, past_count, market_is}

-- question 9 of one row
abbrev pub coordinator_question : ℕ → List ℕ → ℕ → Option Refusal
coordinator_question n sheet row = ask (ltb (row_at sheet row).key.coordinator n) 9 row None

pub coordinators_asked : (n : ℕ) (sheet : List ℕ) → coordinators_refusal n sheet ≡ in_turn (row_count sheet) (coordinator_question n sheet)
unfolding coordinators_refusal
coordinators_asked n sheet = refl

pub refused_9 : (n : ℕ) (sheet : List ℕ) (row : ℕ) → n ≤ (row_at sheet row).key.coordinator → coordinator_question n sheet row ≡ Some (no_at 9 row)
refused_9 n sheet row h = ask_no 9 row None (le-ltb (row_at sheet row).key.coordinator n h)

pub passed_9 : (n : ℕ) (sheet : List ℕ) (row : ℕ) → (row_at sheet row).key.coordinator < n → coordinator_question n sheet row ≡ None
passed_9 n sheet row h = ask_yes 9 row None (lt-ltb (row_at sheet row).key.coordinator n h)

-- ---- the marks

both_false : (x y : Bool) → (x ≡ true → y ≡ true → ⊥) → (x && y) ≡ false
both_false true true h = absurd (h refl refl)
both_false true false h = refl
both_false false y h = refl

marked_at : (days : List (List Bool)) (code day c d : ℕ) → day < length days → code < length (get_or days day []) →
    posted_in (set days day (set (get_or days day []) code true)) c d ≡ marked (posted_in days) code day c d
marked_at days code day c d here low =
    elim (cases_eq d day) [
      | inr other ↦ rw (both_false (eqb c code) (eqb d day) (λ e f. other (eqb-true d day f)), get_or-set_other days day d _ [] other) refl
      | inl same ↦
          elim (cases_eq c code) [
            | inl e ↦ rw (same, get_or-set_same days day (set (get_or days day []) code true) [] here, e, eq-eqb code code refl, eq-eqb day day refl, get_or-set_same (get_or days day []) code true false low) refl
            | inr n ↦ rw (same, get_or-set_same days day (set (get_or days day []) code true) [] here, ne_eqb c code n, get_or-set_other (get_or days day []) code c true false n) refl
          ]
    ]

pub marked_is : (days : List (List Bool)) (code day : ℕ) → day < length days → code < length (get_or days day []) → posted_in (set days day (set (get_or days day []) code true)) ≡ marked (posted_in days) code day
marked_is days code day here low = fun_ext (λ c. fun_ext (λ d. marked_at days code day c d here low))

module _ (s : YearBook) (m : Meaning) (day rate : ℕ) (sheet : List ℕ) where
  abbrev b : Book
  b = book_of s

  abbrev n : ℕ
  n = length s.coordinators.list.items

  abbrev t : List Coordinator
  t = s.coordinators.list.items

  abbrev call : Call
  call = of_market (post m day rate sheet)

  abbrev in_range : Bool
  in_range = leb rate 10000000 && leb 1 day && leb day 366

  -- ---- its questions

  counted : refusal b call ≡ post_refusal n b.market m day rate sheet
  counted = ap (λ k. post_refusal k b.market m day rate sheet) (count_is s)

  pub post_8 : in_range ≡ false → refusal b call ≡ Some (no_at 8 0)
  unfolding post_refusal
  post_8 e = ask_no 8 0 _ e

  module _ (ok : in_range ≡ true) where
    pub post_sheet : (r : Refusal) → sheet_refusal sheet ≡ Some r → refusal b call ≡ Some r
    unfolding post_refusal
    post_sheet r e = ask_yes 8 0 _ ok ∙ first_refused _ e

    module _ (accepted : sheet_refusal sheet ≡ None) where
      pub post_9 : (r : Refusal) → coordinators_refusal n sheet ≡ Some r → refusal b call ≡ Some r
      unfolding post_refusal
      post_9 r e = counted ∙ ask_yes 8 0 _ ok ∙ first_none _ accepted ∙ first_refused _ e

      module _ (known : coordinators_refusal n sheet ≡ None) where
        pub post_10 : posted_in s.posted m.code day ≡ true → refusal b call ≡ Some (no_at 10 0)
        unfolding post_refusal
        post_10 e = counted ∙ ask_yes 8 0 _ ok ∙ first_none _ accepted ∙ first_none _ known ∙ ask_no 10 0 _ (rw e)

        module _ (unposted : posted_in s.posted m.code day ≡ false) (ls : List ℕ) (ls_are : ls ≡ lines n m rate (rows sheet)) where
          line_is : (k : ℕ) → k < n → get_or ls k 0 ≡ line_of m rate (rows sheet) k
          line_is k w = ap (λ xs. get_or xs k 0) ls_are ∙ get_or-map-range_with_len (line_of m rate (rows sheet)) 0 n k k 0 w (omega arith)

          abbrev asked : Option Refusal
          asked = in_turn n (λ k. balance_refusal k ((get_or t k nobody).market +ℤ pos (get_or ls k 0)))

          last_question : lines_refusal n b.market (line_of m rate (rows sheet)) ≡ asked
          unfolding lines_refusal
          last_question = turn_same n _ _ (λ k w. ap₂ (λ (z : ℤ) (l : ℕ). balance_refusal k (z +ℤ pos l)) (market_is s k w) (sym (line_is k w)))

          pub post_11 : refusal b call ≡ asked
          unfolding post_refusal
          post_11 = counted ∙ ask_yes 8 0 _ ok ∙ first_none _ accepted ∙ first_none _ known ∙ ask_yes 10 0 _ (rw unposted) ∙ last_question

  -- ---- its effect

  pub day_low : refusal b call ≡ None → day ≤ 366
  unfolding post_refusal
  day_low e = leb-true day 366 (and_parts _ _ (ask_passed _ _ _ _ e).0).1

  module _ (cents : List ℕ) (billed : Billed b m day rate sheet cents) where
    pub cents_long : length cents ≡ n
    cents_long = ap length billed.lines_are ∙ length-map-range_with_len (line_of m rate (rows sheet)) 0 (count b.terms) ∙ count_is s

    -- question 11, of the lines as they are added
    pub balanced : (k : ℕ) → k < n → within 1000000000000000 ((get_or t k nobody).market +ℤ pos (get_or cents k 0)) ≡ true
    balanced k w =
        let c = count_is s in
        ap₂ (λ (z : ℤ) (l : ℕ). within 1000000000000000 (z +ℤ pos l)) (sym (market_is s k w))
        (ap (λ xs. get_or xs k 0) billed.lines_are ∙ get_or-map-range_with_len (line_of m rate (rows sheet)) 0 (count b.terms) k k 0 (omega arith) (omega arith))
        ∙ post_passed (count b.terms) b.market m day rate sheet billed.accepted k (omega arith)

    module _ (t' : List Coordinator) (raised : t' ≡ each_with market_raised t cents) where
      markets_are : markets t' ≡ plus_z (markets t) (lines (count b.terms) m rate (rows sheet))
      markets_are = ap markets raised ∙ markets_raised t cents ∙ ap (plus_z (markets t)) billed.lines_are

      rcs_are : rcs t' ≡ rcs t
      rcs_are = ap rcs raised ∙ map_raised rc_of market_raised (λ a y. refl) t cents

      demands_are : demands t' ≡ demands t
      demands_are = ap demands raised ∙ map_raised demand_of market_raised (λ a y. refl) t cents

      flags_are : flags t' ≡ flags t
      flags_are = ap flags raised ∙ map_raised flag_of market_raised (λ a y. refl) t cents

      pub post_left : (days : List (List Bool)) → day < length s.posted → m.code < length (get_or s.posted day []) → days ≡ set s.posted day (set (get_or s.posted day []) m.code true) →
          view t' days s.charge ≡ effect b call
      unfolding market_effect
      post_left days here low e = view_is t t' demands_are flags_are _ markets_are _ rcs_are days _ (ap posted_in e ∙ marked_is s.posted m.code day here low) s.charge

      pub post_owed : total (rcs t') ≤ charge_of s.charge
      post_owed = rw rcs_are s.owed

module _ (s : YearBook) (rate : ℕ) (sheet : List ℕ) (k : ℕ) where
  abbrev quoted : Option Refusal
  quoted = quote_refusal (book_of s) rate sheet k

  pub quote_8 : 10000000 < rate → quoted ≡ Some (no_at 8 0)
  unfolding quote_refusal
  quote_8 h = ask_no 8 0 _ (lt-leb rate 10000000 h)

  module _ (ok : rate ≤ 10000000) where
    pub quote_sheet : (r : Refusal) → sheet_refusal sheet ≡ Some r → quoted ≡ Some r
    unfolding quote_refusal
    quote_sheet r e = ask_yes 8 0 _ (le-leb rate 10000000 ok) ∙ first_refused _ e

    module _ (accepted : sheet_refusal sheet ≡ None) where
      asked_of : coordinators_refusal (count (book_of s).terms) sheet ≡ coordinators_refusal (length s.coordinators.list.items) sheet
      asked_of = ap (λ n. coordinators_refusal n sheet) (count_is s)

      pub quote_9 : (r : Refusal) → coordinators_refusal (length s.coordinators.list.items) sheet ≡ Some r → quoted ≡ Some r
      unfolding quote_refusal
      quote_9 r e = ask_yes 8 0 _ (le-leb rate 10000000 ok) ∙ first_none _ accepted ∙ first_refused _ (asked_of ∙ e)

      module _ (known : coordinators_refusal (length s.coordinators.list.items) sheet ≡ None) where
        pub quote_12 : length s.coordinators.list.items ≤ k → quoted ≡ Some (no_at 12 0)
        unfolding quote_refusal
        quote_12 h = ask_yes 8 0 _ (le-leb rate 10000000 ok) ∙ first_none _ accepted ∙ first_none _ (asked_of ∙ known) ∙ ask_no 12 0 _ (past_count s k h)

        pub quote_none : k < length s.coordinators.list.items → quoted ≡ None
        unfolding quote_refusal
        quote_none h = ask_yes 8 0 _ (le-leb rate 10000000 ok) ∙ first_none _ accepted ∙ first_none _ (asked_of ∙ known) ∙ ask_yes 12 0 _ (in_count s k h)
