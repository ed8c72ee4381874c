use Rattle.std.proofs.Common.{◌≡◌, ◌<◌, Bool, true, false, drop, sym, refl, ◌∙◌, arith, rules}
use Rattle.std.proofs.lemmas.List.{get_or-replicate, length-set}
use Rattle.sheet.specs.Left.{rows_left}
use Rattle.sheet.specs.Sheets.{sheet_rows}
use Rattle.sheet.proofs.Left.{rows_so_far}
use Rattle.charges.proofs.Quantities.{marked_more, marked_all, marked_until}
use Rattle.charges.proofs.quantity.resources_of.Goals as goal

pub loop-row-init : goal.loop-row-init
loop-row-init c = (refl, λ resource w. get_or-replicate {A = Bool} 256 resource false false w)

pub loop-row-preserved : goal.loop-row-preserved
loop-row-preserved c =
    let resource = c.from-in-loop-row.result in
    let byte : resource < 256 = omega (arith, c.from-in-loop-row.ensures) in (
      length-set c.loop-row.present resource true ∙ c.loop-row.invariant.0,
      marked_more c.args.coordinator c.loop-row.yielded c.in-Some.row resource c.from-in-loop-row.ensures byte
          (sym c.from.ensures ∙ c.if-from-coordinator.false) c.loop-row.present c.loop-row.invariant.0 c.loop-row.invariant.1,
    )

pub returns-in-None-clause-marks : goal.returns-in-None-clause-marks
returns-in-None-clause-marks c =
    let sheet = c.args.sheet in
    let from : rows_left c.into_iter-row-iterator.result ≡ drop c.first_row-first.result (sheet_rows sheet) = search rules in
    let stand = sym from ∙ rows_so_far c.loop-row.yielded c.into_iter-row-iterator.result c.loop-row.row-iterator c.loop-row.yielded_by in
    let all = marked_all sheet.bytes.now sheet.accepted c.args.coordinator c.first_row-first.result c.first_row-first.ensures.inside c.first_row-first.ensures.place c.loop-row.yielded (rows_left c.loop-row.row-iterator) stand c.in-None.ensures.steps.0 in
    λ resource w. c.loop-row.invariant.1 resource w ∙ all resource

pub returns-then-from-coordinator-clause-marks : goal.returns-then-from-coordinator-clause-marks
returns-then-from-coordinator-clause-marks c =
    let sheet = c.args.sheet in
    let from : rows_left c.into_iter-row-iterator.result ≡ drop c.first_row-first.result (sheet_rows sheet) = search rules in
    let stand = sym from ∙ rows_so_far c.loop-row.yielded c.into_iter-row-iterator.result c.loop-row.row-iterator c.loop-row.yielded_by in
    let all = marked_until sheet.bytes.now sheet.accepted c.args.coordinator c.first_row-first.result c.first_row-first.ensures.inside c.first_row-first.ensures.place c.loop-row.yielded (rows_left c.loop-row.row-iterator) stand c.in-Some.row (rows_left c.next.new.self) c.in-Some.ensures.steps (λ same. c.if-from-coordinator.true (c.from.ensures ∙ same)) in
    λ resource w. c.loop-row.invariant.1 resource w ∙ all resource
