use Rattle.charges.proofs.Walks.{pair_reached}
use Rattle.charges.proofs.walk.total_of.Goals as goal

pub total-requires : goal.total-requires
total-requires g c =
    let sheet = c.args.sheet in
    pair_reached sheet.bytes.now sheet.accepted g.F.Figures.running c.args.pair.coordinator c.args.pair.resource c.walk_over-walk.result.figures c.walk_over-walk.ensures.figures
