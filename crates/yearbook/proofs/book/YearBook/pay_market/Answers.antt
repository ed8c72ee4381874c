use Rattle.std.proofs.Common.{sym}
use Rattle.std.proofs.lemmas.Result.{err_from_is_err_and}
use Rattle.yearbook.proofs.Moves.{pay_market_12, pay_market_13, pay_market_last, at_most, negated, negated_within}
use Rattle.yearbook.proofs.book.YearBook.pay_market.Goals as goal

pub returns-in_err-coordinator-clause-taken : goal.returns-in_err-coordinator-clause-taken
returns-in_err-coordinator-clause-taken c =
    let p = err_from_is_err_and c.from_residual.result c.from_residual.ensures.1 in
    let m = c.in_err-coordinator.ensures.missing in
    rw (p.1, p.2, m.0) (pay_market_12 c.args.self.now c.args.coordinator c.args.amount m.1)

pub returns-then-not-between-clause-taken : goal.returns-then-not-between-clause-taken
returns-then-not-between-clause-taken c =
    pay_market_13 c.args.self.now c.args.coordinator c.args.amount c.in_ok-coordinator.ensures.here.0 (sym c.if-not-between.ensures)

pub move_market-requires : goal.move_market-requires
move_market-requires c =
    let u = at_most c.args.amount (sym c.if-not-between.ensures) in
    record { here = c.in_ok-coordinator.ensures.here.0; small = rw (negated c.args.amount u) (negated_within c.args.amount u) }

pub returns-clause-taken : goal.returns-clause-taken
returns-clause-taken c =
    let v = sym c.if-not-between.ensures in
    pay_market_last c.args.self.now c.args.coordinator c.args.amount c.in_ok-coordinator.ensures.here.0 v _ (negated c.args.amount (at_most c.args.amount v)) _ _ c.move_market.ensures.answered c.move_market.ensures.left
