use Rattle.std.proofs.Common.{ap, arith}
use Rattle.std.proofs.lemmas.Bool.Decides.{nat_tests}
use Rattle.sheet.proofs.Accepted.{few_rows}
use Rattle.charges.proofs.Walks.{walk_more, walk_reached}
use Rattle.charges.proofs.walk.Walk.step.Goals as goal

pub add-requires-clause-reached : goal.add-requires-clause-reached
add-requires-clause-reached g c =
    let sheet = c.args.sheet in
    let w = c.args.self.now in
    let left = c.requires.left in
    let few = few_rows sheet.bytes.now sheet.accepted in
    walk_reached sheet.bytes.now sheet.accepted g.F.Figures.running w.pair.coordinator w.pair.resource w w.next 2047 c.requires.begun (omega arith) (omega arith)

pub returns-clause-more : goal.returns-clause-more
returns-clause-more g c =
    let sheet = c.args.sheet in
    let w = c.args.self.now in
    let more = walk_more sheet.bytes.now sheet.accepted g.F.Figures.running w.pair.coordinator w.pair.resource w.next c.requires.left in
    let f = ap (λ z. z.figures) c.requires.begun in
    grind (arith, nat_tests)
