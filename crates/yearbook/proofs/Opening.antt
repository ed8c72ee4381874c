-- A book as opened.
use Rattle.std.proofs.Common.{◌≡◌, ℕ, zero, suc, ◌+◌, ◌<◌, ◌≤◌, Bool, false, cond, eqb, List, [], ◌∷◌, ◌++◌, length, get_or, take, replicate, ℤ, pos, None, sym, refl, ap, ◌∙◌, ap₂, arith, take_all}
use Rattle.std.proofs.lemmas.List.{length-map, length-replicate, map-append, get_or-replicate, replicate-append-replicate, take_more}
use Rattle.std.proofs.lemmas.Bool.{and_parts, leb-true}
use Rattle.questions.proofs.Asked.{ask_passed, turn_at}
use Rattle.charges.specs.Sums.{total}
use Rattle.year.specs.Terms.{Terms, terms_of, count, flag_at, coordinator_refusal, open_refusal}
use Rattle.year.specs.Book.{opened, no_market, no_rc}
use Rattle.year.proofs.Sums.{total_zeros}
use Rattle.year.proofs.Passed.{open_passed}
use Rattle.yearbook.specs.declared.coordinator.Coordinator.{Coordinator}
use Rattle.yearbook.specs.Coordinators.{nobody, demand_of, flag_of, market_of, rc_of, demands, flags, markets, rcs, terms_in}
use Rattle.yearbook.specs.View.{view}
use Rattle.yearbook.proofs.Columns.{Bounded, markets_at}
use Rattle.yearbook.proofs.Views.{nothing_posted}

module _ (t : Terms) (ok : open_refusal t ≡ None) (cs : List Coordinator) (e : terms_in cs ≡ t) (m : markets cs ≡ replicate (length t.demands) (pos 0)) (r : rcs cs ≡ replicate (length t.demands) 0) where
  long : length cs ≡ length t.demands
  long = sym (length-map cs demand_of) ∙ ap (λ (x : Terms). length x.demands) e

  pub opened_few : length cs ≤ 64
  opened_few = let f = (open_passed t ok).few in let l = long in omega arith

  pub opened_bounded : Bounded cs
  opened_bounded k w =
      let l = long in
      let z : (get_or cs k nobody).market ≡ pos 0 = sym (markets_at cs k w) ∙ ap (λ (xs : List ℤ). get_or xs k (pos 0)) m ∙ get_or-replicate (length t.demands) k (pos 0) (pos 0) (omega arith) in
      rw z refl

  pub opened_owed : total (rcs cs) ≤ 0
  opened_owed = rw r (omega (arith, total_zeros (length t.demands)))

  pub opened_light : total (demands cs) ≤ 3200000000
  opened_light = let d = ap (λ (x : Terms). total x.demands) e in let b = (open_passed t ok).demands_bound in omega arith

  pub opened_is : (days : List (List Bool)) → days ≡ replicate 367 (replicate 16 false) → view cs days None ≡ opened t
  unfolding no_market no_rc
  opened_is days unmarked = let p = nothing_posted in cc

-- ---- the coordinators as they are taken over

pub flag_low : (t : Terms) → open_refusal t ≡ None → (k : ℕ) → k < count t → flag_at t k ≤ 1
unfolding open_refusal coordinator_refusal
flag_low t ok k w =
    let p = ask_passed _ _ _ _ ok in
    let each = turn_at (coordinator_refusal t) (count t) k p.1 w in
    leb-true _ _ (and_parts _ _ (and_parts _ _ (ask_passed _ _ _ _ each).0).0).1

flag_kept : (flag : ℕ) → flag ≤ 1 → cond (eqb flag 1) 1 0 ≡ flag
flag_kept zero h = refl
flag_kept (suc zero) h = refl
flag_kept (suc (suc flag)) h = absurd (omega arith)

-- the first i coordinators are taken over
pub record Taking (t : Terms) (cs : List Coordinator) (i : ℕ) : Type 0 where
  pub demands_are : demands cs ≡ take i t.demands
  pub flags_are : flags cs ≡ take i t.flags
  pub markets_are : markets cs ≡ replicate i (pos 0)
  pub rcs_are : rcs cs ≡ replicate i 0

module _ (t : Terms) (ok : open_refusal t ≡ None) (cs : List Coordinator) (i : ℕ) (taking : Taking t cs i) where
  taking_long : length cs ≡ i
  taking_long = sym (length-map cs market_of) ∙ ap length taking.markets_are ∙ length-replicate i (pos 0)

  pub taking_room : i < length t.demands → length cs < 64
  taking_room w = let l = taking_long in let f = (open_passed t ok).few in omega arith

  pub taking_more : i < length t.demands → Taking t (cs ++ record { demand = get_or t.demands i 0; flagged = eqb (get_or t.flags i 0) 1; market = pos 0; rc = 0 } ∷ []) (i + 1)
  taking_more w =
      let l = (open_passed t ok).flags_long in
      let kept = flag_kept (get_or t.flags i 0) (flag_low t ok i w) in
      record {
        demands_are = map-append demand_of cs _ ∙ ap (λ (xs : List ℕ). xs ++ get_or t.demands i 0 ∷ []) taking.demands_are ∙ sym (take_more t.demands i 0 w);
        flags_are = map-append flag_of cs _ ∙ ap₂ (λ (xs : List ℕ) (x : ℕ). xs ++ x ∷ []) taking.flags_are kept ∙ sym (take_more t.flags i 0 (omega arith));
        markets_are = map-append market_of cs _ ∙ ap (λ (xs : List ℤ). xs ++ pos 0 ∷ []) taking.markets_are ∙ replicate-append-replicate i 1 (pos 0);
        rcs_are = map-append rc_of cs _ ∙ ap (λ (xs : List ℕ). xs ++ 0 ∷ []) taking.rcs_are ∙ replicate-append-replicate i 1 0;
      }

  module _ (all : i ≡ length t.demands) where
    pub taken_terms : terms_in cs ≡ t
    taken_terms =
        let l = (open_passed t ok).flags_long in
        ap₂ terms_of (taking.demands_are ∙ take_all i t.demands (omega arith)) (taking.flags_are ∙ take_all i t.flags (omega arith))

    pub taken_markets : markets cs ≡ replicate (length t.demands) (pos 0)
    taken_markets = taking.markets_are ∙ ap (λ n. replicate n (pos 0)) all

    pub taken_rcs : rcs cs ≡ replicate (length t.demands) 0
    taken_rcs = taking.rcs_are ∙ ap (λ n. replicate n 0) all
