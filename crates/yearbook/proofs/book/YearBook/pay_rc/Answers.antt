use Rattle.std.proofs.Common.{ap, arith}
use Rattle.std.proofs.lemmas.Result.{err_from_is_err_and}
use Rattle.year.specs.Rc.{charge_of}
use Rattle.yearbook.specs.Coordinators.{rc_of}
use Rattle.yearbook.proofs.RcCalls.{pay_rc_refused, pay_rc_done, paid_owed}
use Rattle.yearbook.proofs.book.YearBook.pay_rc.Goals as goal

pub returns-in_err-owing-clause-taken : goal.returns-in_err-owing-clause-taken
returns-in_err-owing-clause-taken c =
    let p = err_from_is_err_and c.from_residual.result c.from_residual.ensures.1 in
    rw (p.1, p.2) (pay_rc_refused c.args.self.now c.args.coordinator c.args.amount _ c.in_err-owing.ensures.asked)

pub take_rc-requires : goal.take_rc-requires
take_rc-requires c =
    let o = c.in_ok-owing.ensures.owes in
    let e = ap rc_of o.1 in
    record { here = o.0; owes = omega arith }

pub invariant_of-self : goal.invariant_of-self
invariant_of-self c =
    let s = c.args.self.now in
    record { owed = paid_owed s c.args.coordinator c.args.amount c.in_ok-owing.ensures.owes.0 _ c.take_rc.ensures (charge_of s.charge) s.owed; limited = s.limited }

pub returns-clause-taken : goal.returns-clause-taken
returns-clause-taken c =
    let s = c.args.self.now in
    let o = c.in_ok-owing.ensures.owes in
    let e = ap rc_of o.1 in
    pay_rc_done s c.args.coordinator c.args.amount o.0 o.2 o.3 (omega arith) _ c.take_rc.ensures
