use Rattle.std.proofs.Common.{arith}
use Rattle.yearbook.proofs.Assessing.{passed, unowed, assessed, assess_left, total_is}
use Rattle.yearbook.proofs.book.YearBook.charge_all.Goals as goal

pub charge_each-requires : goal.charge_each-requires
charge_each-requires c =
    let s = c.args.self.now in
    let p = passed s c.args.charge c.args.minimum c.requires.accepted in
    let z = unowed s c.args.charge c.args.minimum c.requires.accepted in
    let b = p.bound in
    let q = p.enough in
    let r = c.requires.rest in
    record { charge = omega arith; owed = omega arith }

pub invariant_of-self : goal.invariant_of-self
invariant_of-self c =
    let s = c.args.self.now in
    let ok = c.requires.accepted in
    let t = total_is s c.args.charge c.args.minimum ok _ (assessed s c.args.charge c.args.minimum c.requires.accepted _ c.requires.rest _ c.charge_each.ensures) in
    record { owed = omega arith; limited = (passed s c.args.charge c.args.minimum ok).bound }

pub returns : goal.returns
returns c =
    let s = c.args.self.now in
    assess_left s c.args.charge c.args.minimum c.requires.accepted _ (assessed s c.args.charge c.args.minimum c.requires.accepted _ c.requires.rest _ c.charge_each.ensures)
