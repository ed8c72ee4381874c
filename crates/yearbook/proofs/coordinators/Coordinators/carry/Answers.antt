use Rattle.std.proofs.Common.{◌≡◌, List, get_or, set, sym, ap, ◌∙◌, arith, rules}
use Rattle.std.proofs.lemmas.List.{length-map, length-set}
use Rattle.year.specs.Rc.{carrier_weights}
use Rattle.year.specs.Spread.{spread}
use Rattle.year.proofs.Spread.{length_spread}
use Rattle.yearbook.specs.Coordinators.{nobody, demand_of, rc_of, demands, terms_in, rc_raised, each_with}
use Rattle.yearbook.proofs.Assessing.{weight_of_debtor, weight_of_other, step_within, step_way, step_share, spread_low}
use Rattle.yearbook.specs.declared.coordinator.Coordinator.{Coordinator}
use Rattle.yearbook.proofs.Columns.{rc_low, through}
use Rattle.yearbook.proofs.Kept.{keeps_charged, out_weighs}
use Rattle.yearbook.proofs.Raised.{raising_more, raising_all, rc_raised_zero}
use Rattle.yearbook.proofs.coordinators.Coordinators.carry.Goals as goal
use Rattle.yearbook.proofs.coordinators.Coordinators.carry.Goals.{After-shares-1, then-place-debtor, else-place-debtor}

weight_is : (c : After-shares-1) → c.if-place-debtor.weight ≡ get_or (set (demands c.as_mut_slice-coordinators.result.now) c.args.debtor 0) c.loop-place.place 0
weight_is c =
    let t = c.as_mut_slice-coordinators.result.now in
    let d : t ≡ c.args.self.now.list.items = c.as_mut_slice-coordinators.ensures.value in
    let i = c.loop-place.place in
    let here = c.loop-place-test.true in
    let r = c.loop-place.invariant.raising.rest i (omega arith) in
    elim c.if-place-debtor.branch [
      | then-place-debtor w ↦ w.weight-is ∙ sym (weight_of_debtor t c.args.debtor i here (omega (arith, w.if-place-debtor.true)))
      | else-place-debtor w ↦ w.weight-is ∙ ap demand_of r ∙ sym (weight_of_other t c.args.debtor i here (λ e. omega (arith, w.if-place-debtor.false)))
    ]

pub new-shares-requires : goal.new-shares-requires
new-shares-requires c =
    let l = c.args.self.now.light in
    let o = out_weighs (demands c.args.self.now.list.items) c.args.debtor in
    let w = c.requires.whole in
    record { amount = c.requires.unpaid; whole = omega arith }

pub share-requires : goal.share-requires
share-requires c =
    let t = c.as_mut_slice-coordinators.result.now in
    let d : t ≡ c.args.self.now.list.items = c.as_mut_slice-coordinators.ensures.value in
    let l = length-set (demands t) c.args.debtor 0 ∙ length-map t demand_of in
    let here = c.loop-place-test.true in
    step_within _ _ c.loop-place.place _ _ _ c.loop-place.invariant.way (omega arith) _ (weight_is c)

pub overflow_add-coordinator : goal.overflow_add-coordinator
overflow_add-coordinator c =
    let t = c.as_mut_slice-coordinators.result.now in
    let d : t ≡ c.args.self.now.list.items = c.as_mut_slice-coordinators.ensures.value in
    let i = c.loop-place.place in
    let l = length-set (demands t) c.args.debtor 0 ∙ length-map t demand_of in
    let here = c.loop-place-test.true in
    let r = ap rc_of (c.loop-place.invariant.raising.rest i (omega arith)) in
    let low = rc_low t 2000000000 (rw d c.requires.owed) i here in
    let share = step_share _ _ i _ _ _ c.loop-place.invariant.way (omega arith) _ (weight_is (goal.at.overflow_add-coordinator c).After-shares-1) _ c.share.ensures.value in
    let s = spread_low c.args.unpaid (set (demands t) c.args.debtor 0) i (omega arith) in
    let u = c.requires.unpaid in
    search rules

pub loop-place-preserved : goal.loop-place-preserved
loop-place-preserved c =
    let t = c.as_mut_slice-coordinators.result.now in
    let d : t ≡ c.args.self.now.list.items = c.as_mut_slice-coordinators.ensures.value in
    let i = c.loop-place.place in
    let l = length-set (demands t) c.args.debtor 0 ∙ length-map t demand_of in
    let here = c.loop-place-test.true in
    let e = c.share.ensures in
    let way = c.loop-place.invariant.way in
    let x = weight_is (goal.at.loop-place-preserved c).After-shares-1 in
    record {
      raising = raising_more rc_raised t _ c.loop-place.coordinators i _ here c.loop-place.invariant.raising
          (ap (rc_raised (get_or c.loop-place.coordinators i nobody)) (step_share _ _ i _ _ _ way (omega arith) _ x _ e.value));
      way = step_way _ _ i _ _ _ way (omega arith) _ x _ _ _ e.amount e.whole e.sum;
    }

pub invariant_of-self : goal.invariant_of-self
invariant_of-self c =
    let s = c.args.self.now in
    let t = c.as_mut_slice-coordinators.result.now in
    let d : t ≡ s.list.items = c.as_mut_slice-coordinators.ensures.value in
    let l = length_spread c.args.unpaid (set (demands t) c.args.debtor 0) ∙ length-set (demands t) c.args.debtor 0 ∙ length-map t demand_of in
    let e = raising_all rc_raised rc_raised_zero t _ c.loop-place.coordinators c.loop-place.place (omega arith) c.loop-place.invariant.raising in
    let k = keeps_charged s _ _ (through s.list.items t c.loop-place.coordinators d c.loop-place.invariant.raising.long ∙ e ∙ ap (λ (cs : List Coordinator). each_with rc_raised cs (spread c.args.unpaid (carrier_weights (terms_in cs) c.args.debtor))) d) in
    record { few = k.few; bounded = k.bounded; light = k.light }

pub returns : goal.returns
returns c =
    let s = c.args.self.now in
    let t = c.as_mut_slice-coordinators.result.now in
    let d : t ≡ s.list.items = c.as_mut_slice-coordinators.ensures.value in
    let l = length_spread c.args.unpaid (set (demands t) c.args.debtor 0) ∙ length-set (demands t) c.args.debtor 0 ∙ length-map t demand_of in
    let e = raising_all rc_raised rc_raised_zero t _ c.loop-place.coordinators c.loop-place.place (omega arith) c.loop-place.invariant.raising in
    through s.list.items t c.loop-place.coordinators d c.loop-place.invariant.raising.long ∙ e ∙ ap (λ (cs : List Coordinator). each_with rc_raised cs (spread c.args.unpaid (carrier_weights (terms_in cs) c.args.debtor))) d
