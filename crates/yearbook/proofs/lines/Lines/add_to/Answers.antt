use Rattle.std.proofs.Common.{◌≡◌, List, length, ap, ◌∙◌, arith}
use Rattle.yearbook.specs.declared.coordinator.Coordinator.{Coordinator}
use Rattle.yearbook.specs.Coordinators.{market_raised, each_with}
use Rattle.yearbook.proofs.Columns.{through}
use Rattle.yearbook.proofs.Kept.{keeps_billed}
use Rattle.yearbook.proofs.Raised.{raising_all, market_raised_zero}
use Rattle.yearbook.proofs.lines.Lines.add_to.Goals as goal

pub invariant_of-coordinators : goal.invariant_of-coordinators
invariant_of-coordinators c =
    let s = c.args.coordinators.now in
    let t = c.as_mut_slice-list.result.now in
    let d : t ≡ s.list.items = c.as_mut_slice-list.ensures.value in
    let few = c.requires.few in
    let e = raising_all market_raised market_raised_zero t c.args.self.now.cents.items c.loop-place.list c.loop-place.place (omega (arith, ap length d)) c.loop-place.invariant in
    let k = keeps_billed s _ _ c.requires.balanced (through s.list.items t c.loop-place.list d c.loop-place.invariant.long ∙ e ∙ ap (λ (cs : List Coordinator). each_with market_raised cs c.args.self.now.cents.items) d) in
    record { few = k.few; bounded = k.bounded; light = k.light }

pub returns : goal.returns
returns c =
    let s = c.args.coordinators.now in
    let t = c.as_mut_slice-list.result.now in
    let d : t ≡ s.list.items = c.as_mut_slice-list.ensures.value in
    let few = c.requires.few in
    let e = raising_all market_raised market_raised_zero t c.args.self.now.cents.items c.loop-place.list c.loop-place.place (omega (arith, ap length d)) c.loop-place.invariant in
    through s.list.items t c.loop-place.list d c.loop-place.invariant.long ∙ e ∙ ap (λ (cs : List Coordinator). each_with market_raised cs c.args.self.now.cents.items) d
