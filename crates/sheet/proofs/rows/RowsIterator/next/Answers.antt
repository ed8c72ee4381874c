use Rattle.std.proofs.Common.{rules, ◌<◌, ◌+◌, arith, sym, ◌∙◌, ap, ◌∷◌, drop}
use Rattle.sheet.specs.Rows.{row_count, rows}
use Rattle.sheet.proofs.Left.{none_left_from, row_left}
use Rattle.sheet.proofs.rows.RowsIterator.next.Goals as goal

pub returns-then-self-clause-steps : goal.returns-then-self-clause-steps
returns-then-self-clause-steps c =
    let left = c.args.self.now in
    let e = none_left_from left.table.bytes.now left.next (omega (arith, left.table.counted)) in
    (e, e)

pub returns-clause-steps : goal.returns-clause-steps
returns-clause-steps c =
    let left = c.args.self.now in
    let inside : left.next < row_count left.table.bytes.now = omega (arith, left.table.counted) in
    row_left left.table.bytes.now left.next inside ∙ ap (λ row. row ∷ drop (left.next + 1) (rows left.table.bytes.now)) (sym c.row-row.ensures)

pub returns-clause-goes : goal.returns-clause-goes
returns-clause-goes c =
    let left = c.args.self.now in
    let inside : left.next < row_count left.table.bytes.now = omega (arith, left.table.counted) in
    let e = row_left left.table.bytes.now left.next inside in
    search (rules, e)
