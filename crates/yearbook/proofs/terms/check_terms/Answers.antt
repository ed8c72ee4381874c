use Rattle.std.proofs.Common.{◌≡◌, ℕ, Bool, true, false, ◌&&◌, ◌||◌, eqb, leb, length, Some, None, Option, sym, refl, ap, ◌∙◌, arith, rules, ◌<◌, get_or, ap₂, zero-add}
use Rattle.std.specs.List.{enumerate_from, zip}
use Rattle.std.proofs.lemmas.List.{length-append, get_or-map, map-id}
use Rattle.std.proofs.lemmas.List.FromFn.{length-enumerate_from, get_or-enumerate_from}
use Rattle.std.proofs.lemmas.Slice.Zip.{length-zip, get_or-zip}
use Rattle.std.proofs.lemmas.Bool.{and_parts, eqb-true}
use Rattle.std.proofs.lemmas.Iterator.{YieldsList-from_slice, YieldsList-from_zip}
use Rattle.std.proofs.lemmas.Iterator.Consumers.{YieldsList-from_enumerate, YieldsList-turn, YieldsList-end}
use Rattle.questions.specs.Questions.{Refusal, no_at, in_turn, acceptance}
use Rattle.questions.proofs.Asked.{ask_yes, ask_no, turn_passed, turn_refused}
use Rattle.year.specs.Terms.{terms_of, Terms, count, demand_at, flag_at, coordinator_refusal, open_refusal}
use Rattle.yearbook.proofs.terms.check_terms.Goals as goal

module _ (t : Terms) where
  abbrev sized : Bool
  sized = eqb (length t.demands) (length t.flags) && leb 1 (length t.demands) && leb (length t.demands) 64

  refused_6 : sized ≡ false → open_refusal t ≡ Some (no_at 6 0)
  unfolding open_refusal
  refused_6 h = ask_no 6 0 _ h

  passed_6 : sized ≡ true → open_refusal t ≡ in_turn (count t) (coordinator_refusal t)
  unfolding open_refusal
  passed_6 h = ask_yes 6 0 _ h

  abbrev agreeing : ℕ → Bool
  agreeing k = leb (demand_at t k) 50000000 && leb (flag_at t k) 1 && (eqb (flag_at t k) 0 || eqb (demand_at t k) 0)

  refused_7 : (k : ℕ) → agreeing k ≡ false → coordinator_refusal t k ≡ Some (no_at 7 k)
  unfolding coordinator_refusal
  refused_7 k h = ask_no 7 k _ h

  passed_7 : (k : ℕ) → agreeing k ≡ true → coordinator_refusal t k ≡ None
  unfolding coordinator_refusal
  passed_7 k h = ask_yes 7 k _ h

nothing_asked : (asked : ℕ → Option Refusal) → in_turn 0 asked ≡ None
unfolding in_turn
nothing_asked asked = refl

pub returns-then-not-equally_long : goal.returns-then-not-equally_long
returns-then-not-equally_long c =
    let t : Terms = terms_of c.args.terms.demands.now c.args.terms.flags.now in
    ap acceptance (sym (refused_6 t (sym c.if-not-equally_long.ensures)))

pub loop-coordinator-init : goal.loop-coordinator-init
loop-coordinator-init c = nothing_asked (coordinator_refusal (terms_of c.args.terms.demands.now c.args.terms.flags.now))

-- the demand and the flag at a place, as the loop meets them
met : (t : Terms) (i place demand flag : ℕ) → i < length (enumerate_from 0 (zip t.demands t.flags)) → ◌≡◌ {A = ℕ × (ℕ × ℕ)} (place, (demand, flag)) (get_or (enumerate_from 0 (zip t.demands t.flags)) i (place, (demand, flag))) →
    (i < count t) × (place ≡ i) × (demand ≡ demand_at t i) × (flag ≡ flag_at t i)
met t i place demand flag h e =
    let l = length-enumerate_from 0 (zip t.demands t.flags) in
    let z = length-zip t.demands t.flags in
    let d : i < length t.demands = omega arith in
    let f : i < length t.flags = omega arith in
    let p = e ∙ get_or-enumerate_from 0 (zip t.demands t.flags) i (place, (demand, flag)) (omega arith) in
    let q = ap (λ (x : ℕ × (ℕ × ℕ)). x.1) p ∙ get_or-zip t.demands t.flags i (demand, flag) d f in (
      d,
      ap (λ (x : ℕ × (ℕ × ℕ)). x.0) p ∙ zero-add i,
      ap (λ (x : ℕ × ℕ). x.0) q ∙ sym (get_or-map (λ x. x) t.demands i demand 0 d) ∙ ap (λ xs. get_or xs i 0) (map-id t.demands),
      ap (λ (x : ℕ × ℕ). x.1) q ∙ sym (get_or-map (λ x. x) t.flags i flag 0 f) ∙ ap (λ xs. get_or xs i 0) (map-id t.flags),
    )

pub returns-then-not-agree : goal.returns-then-not-agree
returns-then-not-agree c =
    let t : Terms = terms_of c.args.terms.demands.now c.args.terms.flags.now in
    let i = length c.loop-coordinator.yielded in
    let road = YieldsList-from_enumerate {s = c.into_iter-coordinator-iterator.result} (YieldsList-from_zip (YieldsList-from_slice t.demands (search rules)) (YieldsList-from_slice t.flags (search rules))) (search rules) in
    let w = YieldsList-turn road c.loop-coordinator.yielded _ c.loop-coordinator.yielded_by c.next.result c.next.new.self _ c.in-Some.is c.next.ensures.steps in
    let m = met t i _ _ _ w.0 w.1 in
    let a = ap₂ (λ (d f : ℕ). leb d 50000000 && leb f 1 && (eqb f 0 || eqb d 0)) (sym m.2) (sym m.3) ∙ sym c.if-not-agree.ensures in
    rw m.1 (ap acceptance (sym (passed_6 t (sym c.if-not-equally_long.ensures) ∙ turn_refused (coordinator_refusal t) (count t) i _ m.0 c.loop-coordinator.invariant (refused_7 t i a))))

pub loop-coordinator-preserved : goal.loop-coordinator-preserved
loop-coordinator-preserved c =
    let t : Terms = terms_of c.args.terms.demands.now c.args.terms.flags.now in
    let i = length c.loop-coordinator.yielded in
    let road = YieldsList-from_enumerate {s = c.into_iter-coordinator-iterator.result} (YieldsList-from_zip (YieldsList-from_slice t.demands (search rules)) (YieldsList-from_slice t.flags (search rules))) (search rules) in
    let w = YieldsList-turn road c.loop-coordinator.yielded _ c.loop-coordinator.yielded_by c.next.result c.next.new.self _ c.in-Some.is c.next.ensures.steps in
    let m = met t i _ _ _ w.0 w.1 in
    let a = ap₂ (λ (d f : ℕ). leb d 50000000 && leb f 1 && (eqb f 0 || eqb d 0)) (sym m.2) (sym m.3) ∙ sym c.if-not-agree.ensures in
    rw length-append (turn_passed (coordinator_refusal t) i c.loop-coordinator.invariant (passed_7 t i a))

pub returns : goal.returns
returns c =
    let t : Terms = terms_of c.args.terms.demands.now c.args.terms.flags.now in
    let road = YieldsList-from_enumerate {s = c.into_iter-coordinator-iterator.result} (YieldsList-from_zip (YieldsList-from_slice t.demands (search rules)) (YieldsList-from_slice t.flags (search rules))) (search rules) in
    let w = YieldsList-end road c.loop-coordinator.yielded _ c.loop-coordinator.yielded_by c.next.result c.next.new.self c.in-None.is c.next.ensures.steps in
    let l = length-enumerate_from 0 (zip t.demands t.flags) in
    let z = length-zip t.demands t.flags in
    let same : length t.demands ≡ length t.flags = eqb-true _ _ (and_parts _ _ (and_parts _ _ (sym c.if-not-equally_long.ensures)).0).0 in
    let all : length c.loop-coordinator.yielded ≡ count t = omega (arith, w.1) in
    ap acceptance (sym (passed_6 t (sym c.if-not-equally_long.ensures) ∙ ap (λ n. in_turn n (coordinator_refusal t)) (sym all) ∙ c.loop-coordinator.invariant))
