-- The model's book, read off the code's.
use Rattle.std.proofs.Common.{◌≡◌, ℕ, ◌<◌, ◌≤◌, Bool, true, false, ltb, List, [], length, get_or, replicate, ℤ, Some, None, Option, refl, ap, inl, inr, arith}
use mathlib.Core.Path.{fun_ext}
use Rattle.std.proofs.lemmas.List.{get_or-replicate, get_or_past, length-map, length-replicate}
use Rattle.std.proofs.lemmas.Bool.{lt-ltb, le-ltb, cases_lt}
use Rattle.questions.specs.Questions.{no_at}
use Rattle.questions.proofs.Asked.{ask_yes, ask_no}
use Rattle.year.specs.Reading.{balances_refusal}
use Rattle.year.specs.Terms.{Terms, count}
use Rattle.year.specs.Market.{market_balance}
use Rattle.year.specs.Rc.{rc_balance}
use Rattle.year.specs.Book.{Book, no_market, no_rc}
use Rattle.yearbook.specs.declared.coordinator.Coordinator.{Coordinator}
use Rattle.yearbook.specs.declared.book.YearBook.{YearBook}
use Rattle.yearbook.specs.Coordinators.{nobody, demand_of, demands, flags, markets, rcs, terms_in}
use Rattle.yearbook.specs.View.{posted_in, view, book_of, unopened}
use Rattle.yearbook.proofs.Columns.{rcs_at, markets_at}

-- a book by its parts
abbrev pub book_with : Terms → List ℤ → (ℕ → ℕ → Bool) → List ℕ → Option ℕ → Book
book_with t ms posted rs charge = record { terms = t; market = record { balances = ms; posted = posted }; rc = record { balances = rs; charge = charge } }

-- the view of coordinators that stay what they were opened with
pub view_is : (t t' : List Coordinator) → demands t' ≡ demands t → flags t' ≡ flags t → (ms : List ℤ) → markets t' ≡ ms → (rs : List ℕ) → rcs t' ≡ rs →
    (days : List (List Bool)) (posted : ℕ → ℕ → Bool) → posted_in days ≡ posted → (charge : Option ℕ) → view t' days charge ≡ book_with (terms_in t) ms posted rs charge
view_is t t' d f ms m rs r days posted p charge = cc

-- ---- nothing posted

abbrev no_days : List (List Bool)
no_days = replicate 367 (replicate 16 false)

none_false : (code : ℕ) → get_or (replicate 16 false) code false ≡ false
none_false code = elim (cases_lt code 16) [ inl w ↦ get_or-replicate 16 code false false w | inr w ↦ get_or_past (replicate 16 false) code false (let e = length-replicate 16 false in omega arith) ]

day_false : (code day : ℕ) → get_or (get_or no_days day []) code false ≡ false
day_false code day = elim (cases_lt day 367) [
  | inl w ↦ rw (get_or-replicate 367 day (replicate 16 false) [] w) (none_false code)
  | inr w ↦ rw (get_or_past no_days day [] (let e = length-replicate 367 (replicate 16 false) in omega arith)) refl
]

pub nothing_posted : posted_in (replicate 367 (replicate 16 false)) ≡ (λ code day. false)
nothing_posted = fun_ext (λ code. fun_ext (λ day. day_false code day))

pub unopened_is : (cs : List Coordinator) (days : List (List Bool)) → cs ≡ [] → days ≡ replicate 367 (replicate 16 false) → view cs days None ≡ unopened
unfolding no_market no_rc
unopened_is cs days none unmarked = let p = nothing_posted in rw (none, unmarked) (ap (λ posted. book_with unopened.terms [] posted [] None) nothing_posted)

-- ---- one coordinator

module _ (s : YearBook) where
  pub count_is : count (book_of s).terms ≡ length s.coordinators.list.items
  count_is = length-map s.coordinators.list.items demand_of

  pub in_count : (k : ℕ) → k < length s.coordinators.list.items → ltb k (count (book_of s).terms) ≡ true
  in_count k h = let e = count_is in lt-ltb k (count (book_of s).terms) (omega arith)

  pub past_count : (k : ℕ) → length s.coordinators.list.items ≤ k → ltb k (count (book_of s).terms) ≡ false
  past_count k h = let e = count_is in le-ltb k (count (book_of s).terms) (omega arith)

  pub rc_is : (k : ℕ) → k < length s.coordinators.list.items → rc_balance (book_of s).rc k ≡ (get_or s.coordinators.list.items k nobody).rc
  rc_is k h = rcs_at s.coordinators.list.items k h

  pub market_is : (k : ℕ) → k < length s.coordinators.list.items → market_balance (book_of s).market k ≡ (get_or s.coordinators.list.items k nobody).market
  market_is k h = markets_at s.coordinators.list.items k h

  pub balances_12 : (k : ℕ) → length s.coordinators.list.items ≤ k → balances_refusal (book_of s) k ≡ Some (no_at 12 0)
  unfolding balances_refusal
  balances_12 k h = ask_no 12 0 _ (past_count k h)

  pub balances_none : (k : ℕ) → k < length s.coordinators.list.items → balances_refusal (book_of s) k ≡ None
  unfolding balances_refusal
  balances_none k h = ask_yes 12 0 _ (in_count k h)
