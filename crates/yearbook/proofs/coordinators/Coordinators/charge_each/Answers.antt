use Rattle.std.proofs.Common.{◌≡◌, ◌+◌, ◌*◌, ◌≤◌, List, cond, get_or, sym, ap, ◌∙◌, ap₂, arith, rules}
use Rattle.std.proofs.lemmas.List.{length-map, get_or-map}
use Rattle.year.specs.Plus.{plus}
use Rattle.year.specs.Rc.{minimums}
use Rattle.year.specs.Spread.{spread}
use Rattle.year.specs.Terms.{flagged}
use Rattle.yearbook.specs.Coordinators.{nobody, demand_of, rc_of, demands, terms_in, rc_raised, each_with}
use Rattle.yearbook.proofs.Assessing.{charge_at, charge_long, minimum_low, step_within, step_way, step_share, spread_low}
use Rattle.yearbook.specs.declared.coordinator.Coordinator.{Coordinator}
use Rattle.yearbook.proofs.Columns.{rc_low, through}
use Rattle.yearbook.proofs.Kept.{keeps_charged}
use Rattle.yearbook.proofs.Raised.{raising_more, raising_all, rc_raised_zero}
use Rattle.yearbook.proofs.coordinators.Coordinators.charge_each.Goals as goal
use Rattle.yearbook.proofs.coordinators.Coordinators.charge_each.Goals.{After-shares-1, then-coordinator, else-coordinator}

pub share-requires : goal.share-requires
share-requires c =
    let t = c.as_mut_slice-coordinators.result.now in
    let d : t ≡ c.args.self.now.list.items = c.as_mut_slice-coordinators.ensures.value in
    let i = c.loop-coordinator.coordinator-index in
    let here = c.loop-coordinator-test.true in
    let l = length-map t demand_of in
    let x = ap demand_of (c.loop-coordinator.invariant.raising.rest i (omega arith)) ∙ sym (get_or-map demand_of t i nobody 0 here) in
    step_within _ _ i _ _ _ c.loop-coordinator.invariant.way (omega arith) _ x

pub overflow_add-coordinator : goal.overflow_add-coordinator
overflow_add-coordinator c =
    let t = c.as_mut_slice-coordinators.result.now in
    let d : t ≡ c.args.self.now.list.items = c.as_mut_slice-coordinators.ensures.value in
    let i = c.loop-coordinator.coordinator-index in
    let here = c.loop-coordinator-test.true in
    let l = length-map t demand_of in
    let q = c.loop-coordinator.invariant.raising.rest i (omega arith) in
    let r = ap rc_of q in
    let x = ap demand_of q ∙ sym (get_or-map demand_of t i nobody 0 here) in
    let low = rc_low t 2000000000 (rw d c.requires.owed) i here in
    let least : c.if-coordinator.least ≡ cond (get_or t i nobody).flagged c.args.minimum 0 = elim c.if-coordinator.branch [
      | then-coordinator w ↦ w.least-is ∙ ap (λ b. cond b c.args.minimum 0) (sym w.if-coordinator.true ∙ ap (λ a. a.flagged) q)
      | else-coordinator w ↦ w.least-is ∙ ap (λ b. cond b c.args.minimum 0) (sym w.if-coordinator.false ∙ ap (λ a. a.flagged) q)
    ] in
    let m = minimum_low t c.args.minimum i here in
    let share = step_share _ _ i _ _ _ c.loop-coordinator.invariant.way (omega arith) _ x _ c.share.ensures.value in
    let s = spread_low c.args.rest (demands t) i (omega arith) in
    let u : c.args.minimum * flagged (terms_in t) + c.args.rest ≤ 2000000000 = rw d c.requires.charge in
    search rules

pub overflow_add-coordinator-in-loop-coordinator : goal.overflow_add-coordinator-in-loop-coordinator
overflow_add-coordinator-in-loop-coordinator c =
    let t = c.as_mut_slice-coordinators.result.now in
    let d : t ≡ c.args.self.now.list.items = c.as_mut_slice-coordinators.ensures.value in
    let i = c.loop-coordinator.coordinator-index in
    let here = c.loop-coordinator-test.true in
    let l = length-map t demand_of in
    let q = c.loop-coordinator.invariant.raising.rest i (omega arith) in
    let r = ap rc_of q in
    let x = ap demand_of q ∙ sym (get_or-map demand_of t i nobody 0 here) in
    let low = rc_low t 2000000000 (rw d c.requires.owed) i here in
    let least : c.if-coordinator.least ≡ cond (get_or t i nobody).flagged c.args.minimum 0 = elim c.if-coordinator.branch [
      | then-coordinator w ↦ w.least-is ∙ ap (λ b. cond b c.args.minimum 0) (sym w.if-coordinator.true ∙ ap (λ a. a.flagged) q)
      | else-coordinator w ↦ w.least-is ∙ ap (λ b. cond b c.args.minimum 0) (sym w.if-coordinator.false ∙ ap (λ a. a.flagged) q)
    ] in
    let m = minimum_low t c.args.minimum i here in
    let share = step_share _ _ i _ _ _ c.loop-coordinator.invariant.way (omega arith) _ x _ c.share.ensures.value in
    let s = spread_low c.args.rest (demands t) i (omega arith) in
    let u : c.args.minimum * flagged (terms_in t) + c.args.rest ≤ 2000000000 = rw d c.requires.charge in
    search rules

pub loop-coordinator-preserved : goal.loop-coordinator-preserved
loop-coordinator-preserved c =
    let t = c.as_mut_slice-coordinators.result.now in
    let d : t ≡ c.args.self.now.list.items = c.as_mut_slice-coordinators.ensures.value in
    let i = c.loop-coordinator.coordinator-index in
    let here = c.loop-coordinator-test.true in
    let l = length-map t demand_of in
    let r = c.loop-coordinator.invariant.raising.rest i (omega arith) in
    let x = ap demand_of r ∙ sym (get_or-map demand_of t i nobody 0 here) in
    let e = c.share.ensures in
    let way = c.loop-coordinator.invariant.way in
    let least : c.if-coordinator.least ≡ cond (get_or t i nobody).flagged c.args.minimum 0 = elim c.if-coordinator.branch [
      | then-coordinator w ↦ w.least-is ∙ ap (λ b. cond b c.args.minimum 0) (sym w.if-coordinator.true ∙ ap (λ a. a.flagged) r)
      | else-coordinator w ↦ w.least-is ∙ ap (λ b. cond b c.args.minimum 0) (sym w.if-coordinator.false ∙ ap (λ a. a.flagged) r)
    ] in
    let share = step_share _ _ i _ _ _ way (omega arith) _ x _ e.value in
    record {
      raising = raising_more rc_raised t _ c.loop-coordinator.coordinators i _ here c.loop-coordinator.invariant.raising
          (ap (rc_raised (get_or c.loop-coordinator.coordinators i nobody)) (ap₂ ◌+◌ least share ∙ sym (charge_at t c.args.minimum c.args.rest i here)));
      way = step_way _ _ i _ _ _ way (omega arith) _ x _ _ _ e.amount e.whole e.sum;
    }

pub invariant_of-self : goal.invariant_of-self
invariant_of-self c =
    let s = c.args.self.now in
    let t = c.as_mut_slice-coordinators.result.now in
    let d : t ≡ s.list.items = c.as_mut_slice-coordinators.ensures.value in
    let l = charge_long t c.args.minimum c.args.rest in
    let e = raising_all rc_raised rc_raised_zero t _ c.loop-coordinator.coordinators c.loop-coordinator.coordinator-index (omega arith) c.loop-coordinator.invariant.raising in
    let k = keeps_charged s _ _ (through s.list.items t c.loop-coordinator.coordinators d c.loop-coordinator.invariant.raising.long ∙ e ∙ ap (λ (cs : List Coordinator). each_with rc_raised cs (plus (minimums (terms_in cs) c.args.minimum) (spread c.args.rest (demands cs)))) d) in
    record { few = k.few; bounded = k.bounded; light = k.light }

pub returns : goal.returns
returns c =
    let s = c.args.self.now in
    let t = c.as_mut_slice-coordinators.result.now in
    let d : t ≡ s.list.items = c.as_mut_slice-coordinators.ensures.value in
    let l = charge_long t c.args.minimum c.args.rest in
    let e = raising_all rc_raised rc_raised_zero t _ c.loop-coordinator.coordinators c.loop-coordinator.coordinator-index (omega arith) c.loop-coordinator.invariant.raising in
    through s.list.items t c.loop-coordinator.coordinators d c.loop-coordinator.invariant.raising.long ∙ e ∙ ap (λ (cs : List Coordinator). each_with rc_raised cs (plus (minimums (terms_in cs) c.args.minimum) (spread c.args.rest (demands cs)))) d
