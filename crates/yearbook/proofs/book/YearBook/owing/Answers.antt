use Rattle.std.proofs.Common.{sym, ap, arith}
use Rattle.std.proofs.lemmas.Bool.{and_parts, leb-true}
use Rattle.std.proofs.lemmas.Result.{err_from_is_err_and}
use Rattle.yearbook.specs.Coordinators.{rc_of}
use Rattle.yearbook.proofs.RcCalls.{owing_12, owing_13, owing_14}
use Rattle.yearbook.proofs.book.YearBook.owing.Goals as goal

pub returns-in_err-owing-clause-asked : goal.returns-in_err-owing-clause-asked
returns-in_err-owing-clause-asked c =
    let p = err_from_is_err_and c.from_residual.result c.from_residual.ensures.1 in
    let m = c.in_err-owing.ensures.missing in
    rw (p.1, p.2, m.0) (owing_12 c.args.self.now c.args.coordinator c.args.amount c.args.most m.1)

pub returns-then-not-between-clause-asked : goal.returns-then-not-between-clause-asked
returns-then-not-between-clause-asked c =
    owing_13 c.args.self.now c.args.coordinator c.args.amount c.args.most c.in_ok-owing.ensures.here.0 (sym c.if-not-between.ensures)

pub returns-then-amount-owing-clause-asked : goal.returns-then-amount-owing-clause-asked
returns-then-amount-owing-clause-asked c =
    let here = c.in_ok-owing.ensures.here in
    let e = ap rc_of here.1 in
    owing_14 c.args.self.now c.args.coordinator c.args.amount c.args.most here.0 (sym c.if-not-between.ensures) (omega arith)

pub returns-clause-owes : goal.returns-clause-owes
returns-clause-owes c =
    let here = c.in_ok-owing.ensures.here in
    let range = and_parts _ _ (sym c.if-not-between.ensures) in
    (here.0, here.1, leb-true 1 c.args.amount range.0, leb-true c.args.amount c.args.most range.1, omega arith)
