use Rattle.std.proofs.Common.{◌≤◌, refl, ◌∷◌, [], length, length-append, arith}
use Rattle.std.proofs.lemmas.Result.{err_from_is_err_and}
use Rattle.sheet.proofs.Turns.{begins, turn_of, all_read, goes_on, stops, finishes, parts_more, parts_all}
use Rattle.sheet.proofs.check.check_rows.Goals as goal

pub loop-i-init : goal.loop-i-init
loop-i-init c = (refl, begins c.args.table.bytes.now, λ n l. absurd (omega arith))

pub loop-i-preserved : goal.loop-i-preserved
loop-i-preserved c =
    let bytes = c.args.table.bytes.now in
    let turn = turn_of bytes c.rows.result c.rows.ensures.all c.into_iter-i-iterator.result (cc) (cc) c.loop-i.yielded _ c.next.new.self _ c.loop-i.yielded_by c.next.ensures.steps c.in-Some.i c.in-Some.row c.in-Some.is in
    let part : c.in-Some.row.key.part ≤ 255 = omega arith in
    let on = goes_on _ _ _ _ _ turn c.loop-i.invariant.0 c.loop-i.invariant.1 c.in_ok-check_row.ensures in
    rw (length-append c.loop-i.yielded ((c.in-Some.i, c.in-Some.row) ∷ []))
    (on.0, on.1, parts_more bytes (length c.loop-i.yielded) c.in-Some.i c.in-Some.row turn part c.loop-i.invariant.2)

pub returns-in_err-check_row-clause-answered : goal.returns-in_err-check_row-clause-answered
returns-in_err-check_row-clause-answered c =
    let turn = turn_of c.args.table.bytes.now c.rows.result c.rows.ensures.all c.into_iter-i-iterator.result (cc) (cc) c.loop-i.yielded _ c.next.new.self _ c.loop-i.yielded_by c.next.ensures.steps c.in-Some.i c.in-Some.row c.in-Some.is in
    let p = err_from_is_err_and c.from_residual.result c.from_residual.ensures.1 in
    rw (p.1, p.2) (stops _ _ _ _ _ turn c.loop-i.invariant.0 c.loop-i.invariant.1 _ c.in_err-check_row.ensures)

pub returns : goal.returns
returns c =
    let bytes = c.args.table.bytes.now in
    let all = all_read bytes c.rows.result c.rows.ensures.all c.into_iter-i-iterator.result (cc) (cc) c.loop-i.yielded _ c.next.new.self _ c.loop-i.yielded_by c.next.ensures.steps c.in-None.is in
    record { answered = finishes _ _ c.loop-i.invariant.1 all; parts = parts_all bytes _ all c.loop-i.invariant.2 }
