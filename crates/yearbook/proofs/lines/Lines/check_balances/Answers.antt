use Rattle.std.proofs.Common.{◌≡◌, ◌<◌, ◌≤◌, length, get_or, ℤ, pos, ◌+ℤ◌, List, ℕ, sym, ap, ◌∙◌, arith, nat_abs, w64, SFits, rules, zero-add}
use Rattle.std.specs.List.{enumerate_from, zip}
use Rattle.std.proofs.lemmas.Int.{ints}
use Rattle.std.proofs.lemmas.List.{length-append, get_or-map, map-id}
use Rattle.std.proofs.lemmas.List.FromFn.{length-enumerate_from, get_or-enumerate_from}
use Rattle.std.proofs.lemmas.Slice.Zip.{length-zip, get_or-zip}
use Rattle.std.proofs.lemmas.Iterator.{YieldsList-from_slice, YieldsList-from_zip}
use Rattle.std.proofs.lemmas.Iterator.Consumers.{YieldsList-from_enumerate, YieldsList-turn, YieldsList-end}
use Rattle.questions.specs.Questions.{acceptance, in_turn}
use Rattle.questions.proofs.Asked.{turn_none, turn_passed, turn_refused}
use Rattle.sheet.specs.Questions.{within}
use Rattle.year.specs.Market.{balance_refusal}
use Rattle.yearbook.specs.declared.coordinator.Coordinator.{Coordinator}
use Rattle.yearbook.specs.Coordinators.{nobody}
use Rattle.yearbook.proofs.Columns.{within_out}
use Rattle.yearbook.proofs.Moves.{refused_at, passed_at}
use Rattle.yearbook.proofs.Raised.{code_sum_is}
use Rattle.yearbook.proofs.lines.Lines.check_balances.Goals as goal

-- the coordinator and the line at a place, as the loop meets them
met : (cs : List Coordinator) (ls : List ℕ) (i place : ℕ) (coordinator : Coordinator) (cents : ℕ) → i < length (enumerate_from 0 (zip cs ls)) →
    ◌≡◌ {A = ℕ × (Coordinator × ℕ)} (place, (coordinator, cents)) (get_or (enumerate_from 0 (zip cs ls)) i (place, (coordinator, cents))) → length ls ≡ length cs →
    (i < length cs) × (place ≡ i) × (coordinator ≡ get_or cs i nobody) × (cents ≡ get_or ls i 0)
met cs ls i place coordinator cents h e same =
    let l = length-enumerate_from 0 (zip cs ls) in
    let z = length-zip cs ls in
    let d : i < length cs = omega arith in
    let f : i < length ls = omega arith in
    let p = e ∙ get_or-enumerate_from 0 (zip cs ls) i (place, (coordinator, cents)) (omega arith) in
    let q = ap (λ (x : ℕ × (Coordinator × ℕ)). x.1) p ∙ get_or-zip cs ls i (coordinator, cents) d f in (
      d,
      ap (λ (x : ℕ × (Coordinator × ℕ)). x.0) p ∙ zero-add i,
      ap (λ (x : Coordinator × ℕ). x.0) q ∙ sym (get_or-map (λ x. x) cs i coordinator nobody d) ∙ ap (λ xs. get_or xs i nobody) (map-id cs),
      ap (λ (x : Coordinator × ℕ). x.1) q ∙ sym (get_or-map (λ x. x) ls i cents 0 f) ∙ ap (λ xs. get_or xs i 0) (map-id ls),
    )

fits : (z : ℤ) → nat_abs z ≤ 1000000000000000 → SFits w64 z
fits z h = omega (arith, ints)

pub loop-place-init : goal.loop-place-init
loop-place-init c = turn_none _

pub returns-then-not-inside : goal.returns-then-not-inside
returns-then-not-inside c =
    let cs = c.args.coordinators.now.list.items in
    let ls = c.args.self.now.cents.items in
    let i = length c.loop-place.yielded in
    let d = c.deref.ensures.0 in
    let road = YieldsList-from_enumerate {s = c.into_iter-place-iterator.result} (YieldsList-from_zip (YieldsList-from_slice cs (search rules)) (YieldsList-from_slice ls (search rules))) (search rules) in
    let w = YieldsList-turn road c.loop-place.yielded _ c.loop-place.yielded_by c.next.result c.next.new.self _ c.in-Some.is c.next.ensures.steps in
    let m = met cs ls i _ _ _ w.0 w.1 c.requires in
    let z : ℤ = (get_or cs i nobody).market in
    let low = within_out 1000000000000000 z (c.args.coordinators.now.bounded i m.0) in
    let e = code_sum_is z (get_or ls i 0) low (c.args.self.now.low i) (fits z low) in
    rw m.1 (ap acceptance (sym (turn_refused _ (length cs) i _ m.0 c.loop-place.invariant
    (refused_at i (z +ℤ pos (get_or ls i 0)) (ap (within 1000000000000000) (sym e) ∙ rw (sym m.2, sym m.3) (sym c.if-not-inside.ensures))))))

pub loop-place-preserved : goal.loop-place-preserved
loop-place-preserved c =
    let cs = c.args.coordinators.now.list.items in
    let ls = c.args.self.now.cents.items in
    let i = length c.loop-place.yielded in
    let road = YieldsList-from_enumerate {s = c.into_iter-place-iterator.result} (YieldsList-from_zip (YieldsList-from_slice cs (search rules)) (YieldsList-from_slice ls (search rules))) (search rules) in
    let w = YieldsList-turn road c.loop-place.yielded _ c.loop-place.yielded_by c.next.result c.next.new.self _ c.in-Some.is c.next.ensures.steps in
    let m = met cs ls i _ _ _ w.0 w.1 c.requires in
    let z : ℤ = (get_or cs i nobody).market in
    let low = within_out 1000000000000000 z (c.args.coordinators.now.bounded i m.0) in
    let e = code_sum_is z (get_or ls i 0) low (c.args.self.now.low i) (fits z low) in
    rw length-append (turn_passed _ i c.loop-place.invariant
    (passed_at i (z +ℤ pos (get_or ls i 0)) (ap (within 1000000000000000) (sym e) ∙ rw (sym m.2, sym m.3) (sym c.if-not-inside.ensures))))

pub returns : goal.returns
returns c =
    let cs = c.args.coordinators.now.list.items in
    let ls = c.args.self.now.cents.items in
    let road = YieldsList-from_enumerate {s = c.into_iter-place-iterator.result} (YieldsList-from_zip (YieldsList-from_slice cs (search rules)) (YieldsList-from_slice ls (search rules))) (search rules) in
    let w = YieldsList-end road c.loop-place.yielded _ c.loop-place.yielded_by c.next.result c.next.new.self c.in-None.is c.next.ensures.steps in
    let l = length-enumerate_from 0 (zip cs ls) in
    let z = length-zip cs ls in
    let few = c.requires in
    let all : length c.loop-place.yielded ≡ length cs = omega (arith, w.1) in
    ap acceptance (sym (ap (λ n. in_turn n (λ k. balance_refusal k ((get_or cs k nobody).market +ℤ pos (get_or ls k 0)))) (sym all) ∙ c.loop-place.invariant))
