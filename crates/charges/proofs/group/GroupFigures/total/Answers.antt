use Rattle.std.proofs.Common.{rules}
use Rattle.charges.proofs.Splits.{inside_reached, reached_total_low}
use Rattle.charges.proofs.group.GroupFigures.total.Goals as goal

pub total-requires : goal.total-requires
total-requires g c = inside_reached _ g.F.Figures.running g.F.Figures.most g.met.F.Figures.bounded g.K.Field.of g.K.Field.LEAST c.args.self.now 2048 c.requires

pub overflow_add-result : goal.overflow_add-result
overflow_add-result g c =
    let low = reached_total_low _ g.F.Figures.running g.F.Figures.most g.met.F.Figures.bounded g.K.Field.of g.K.Field.LEAST c.args.self.now 2048 c.requires in
    let most = g.met.F.Figures.low in
    search rules
