use Rattle.std.proofs.Common.{◌-◌}
use Rattle.yearbook.specs.Coordinators.{rc_at}
use Rattle.yearbook.proofs.Columns.{wrote}
use Rattle.yearbook.proofs.Kept.{keeps_paid}
use Rattle.yearbook.proofs.coordinators.Coordinators.take_rc.Goals as goal

pub invariant_of-self : goal.invariant_of-self
invariant_of-self c =
    let s = c.args.self.now in
    let k = keeps_paid s _ c.args.place _ (wrote (λ x. rc_at x (x.rc - c.args.amount)) s.list.items _ c.args.place c.deref_mut.ensures.value) in
    record { few = k.few; bounded = k.bounded; light = k.light }
