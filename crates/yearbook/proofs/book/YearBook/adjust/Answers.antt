use Rattle.std.proofs.Common.{sym}
use Rattle.std.proofs.lemmas.Int.{to_z-of_z}
use Rattle.std.proofs.lemmas.Result.{err_from_is_err_and}
use Rattle.yearbook.proofs.Moves.{adjust_12, adjust_13, adjust_last}
use Rattle.yearbook.proofs.book.YearBook.adjust.Goals as goal

pub returns-in_err-coordinator-clause-taken : goal.returns-in_err-coordinator-clause-taken
returns-in_err-coordinator-clause-taken c =
    let p = err_from_is_err_and c.from_residual.result c.from_residual.ensures.1 in
    let m = c.in_err-coordinator.ensures.missing in
    rw (p.1, p.2, m.0) (adjust_12 c.args.self.now c.args.coordinator c.args.amount m.1)

pub returns-then-not-inside-clause-taken : goal.returns-then-not-inside-clause-taken
returns-then-not-inside-clause-taken c =
    let f = c.ranges.amount in
    adjust_13 c.args.self.now c.args.coordinator c.args.amount c.in_ok-coordinator.ensures.here.0 (sym (simp to_z-of_z at c.if-not-inside.ensures))

pub returns-clause-taken : goal.returns-clause-taken
returns-clause-taken c =
    let f = c.ranges.amount in
    adjust_last c.args.self.now c.args.coordinator c.args.amount c.in_ok-coordinator.ensures.here.0 (sym (simp to_z-of_z at c.if-not-inside.ensures)) _ _ (simp to_z-of_z at c.move_market.ensures.answered) (simp to_z-of_z at c.move_market.ensures.left)
