use Rattle.std.proofs.Common.{◌≡◌, [], ◌∷◌, drop, sym, ◌∙◌}
use Rattle.std.proofs.lemmas.Bool.{eqb-false}
use Rattle.sheet.specs.Left.{rows_left}
use Rattle.sheet.specs.Sheets.{sheet_rows}
use Rattle.charges.proofs.Quantities.{marked_all, marked_until}
use Rattle.charges.proofs.quantity.may_have_rows.Goals as goal

-- no row is left behind those of lower coordinators
pub returns-in_default : goal.returns-in_default
returns-in_default c =
    let sheet = c.args.sheet in
    let first = c.first_row-first in
    let all = marked_all sheet.bytes.now sheet.accepted c.args.coordinator first.result first.ensures.inside first.ensures.place [] (rows_left c.rows_from.result) (sym c.rows_from.ensures) c.in_default.ensures.steps.0 in
    λ no resource. sym (all resource)

-- the first of them is another's
pub returns : goal.returns
returns c =
    let sheet = c.args.sheet in
    let first = c.first_row-first in
    λ no.
    let all = marked_until sheet.bytes.now sheet.accepted c.args.coordinator first.result first.ensures.inside first.ensures.place [] (rows_left c.rows_from.result) (sym c.rows_from.ensures) c.in-Some.row (rows_left c.next.new.self) c.in-Some.ensures.steps (λ same. eqb-false c.from.result c.args.coordinator no (c.from.ensures ∙ same)) in
    λ resource. sym (all resource)
