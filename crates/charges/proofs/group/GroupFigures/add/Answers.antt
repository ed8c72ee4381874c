use Rattle.std.proofs.Common.{sym, ap, ◌∙◌, subst, arith, rules}
use Rattle.charges.specs.Running.{Reached}
use Rattle.charges.proofs.Splits.{inside_reached, reached_total_low}
use Rattle.charges.proofs.Reached.{reached_more, reached_start}
use Rattle.charges.proofs.group.GroupFigures.add.Goals as goal
use Rattle.charges.proofs.group.GroupFigures.add.Goals.{then-value-self, else-value-self}

pub total-requires : goal.total-requires
total-requires g c =
    let f = g.F.Figures.running in
    let s = c.args.self.now in
    reached_more f 2047 2048 s.inside (omega arith) (inside_reached _ f g.F.Figures.most g.met.F.Figures.bounded g.K.Field.of g.K.Field.LEAST s 2047 c.requires.reached)

pub overflow_add-self : goal.overflow_add-self
overflow_add-self g c =
    let low = reached_total_low _ g.F.Figures.running g.F.Figures.most g.met.F.Figures.bounded g.K.Field.of g.K.Field.LEAST c.args.self.now 2047 c.requires.reached in
    let most = g.met.F.Figures.low in
    search rules

pub add-requires-clause-reached : goal.add-requires-clause-reached
add-requires-clause-reached g c =
    let f = g.F.Figures.running in
    let s = c.args.self.now in
    elim c.if-value-self.branch [
      | then-value-self w ↦ subst (λ x. Reached f 2047 x) (sym (ap (λ z. z.inside) w.self-is ∙ g.met.F.Figures.starts _ w.default.ensures)) (reached_start f 2047)
      | else-value-self w ↦ subst (λ x. Reached f 2047 x) (sym (ap (λ z. z.inside) w.self-is)) (inside_reached _ f g.F.Figures.most g.met.F.Figures.bounded g.K.Field.of g.K.Field.LEAST s 2047 c.requires.reached)
    ]
