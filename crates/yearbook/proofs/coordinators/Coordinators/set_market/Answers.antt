use Rattle.std.proofs.Common.{◌≡◌, true, ℤ, to_z, of_z, w64}
use Rattle.std.proofs.lemmas.Int.{to_z-of_z}
use Rattle.sheet.specs.Questions.{within}
use Rattle.yearbook.specs.Coordinators.{market_at}
use Rattle.yearbook.proofs.Columns.{wrote}
use Rattle.yearbook.proofs.Kept.{keeps_moved}
use Rattle.yearbook.proofs.coordinators.Coordinators.set_market.Goals as goal

pub invariant_of-self : goal.invariant_of-self
invariant_of-self c =
    let f = c.ranges.balance in
    let s = c.args.self.now in
    let z : ℤ = to_z w64 (of_z w64 c.args.balance) in
    let fits : within 1000000000000000 z ≡ true = simp to_z-of_z c.requires.bounded in
    let k = keeps_moved s _ c.args.place z fits (wrote (λ x. market_at x z) s.list.items _ c.args.place c.deref_mut.ensures.value) in
    record { few = k.few; bounded = k.bounded; light = k.light }
