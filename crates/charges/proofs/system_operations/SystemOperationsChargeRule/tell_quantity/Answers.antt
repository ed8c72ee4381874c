use Rattle.std.proofs.Common.{◌*◌, ap, ◌∙◌, rules}
use Rattle.sheet.specs.Rows.{PartIsByte, pair_rows}
use Rattle.sheet.specs.Sheets.{sheet_rows}
use Rattle.sheet.proofs.Pairs.{pair_accepted}
use Rattle.charges.specs.Running.{system_figures}
use Rattle.charges.proofs.SystemOperationsFacts.{system_arrives, system_figures_bounded}
use Rattle.charges.proofs.Walks.{all_pair, pair_low}
use Rattle.charges.proofs.system_operations.SystemOperationsChargeRule.tell_quantity.Goals as goal

pub overflow_mul-result : goal.overflow_mul-result
overflow_mul-result c =
    let sheet = c.args.sheet in
    let low = pair_low sheet.bytes.now sheet.accepted system_figures c.args.pair.coordinator c.args.pair.resource 8000000 system_figures_bounded in
    let e = c.total_of.ensures.value in
    search rules

pub returns : goal.returns
returns c =
    let sheet = c.args.sheet in
    let coordinator = c.args.pair.coordinator in
    let resource = c.args.pair.resource in
    ap (λ x. 100 * x) c.total_of.ensures.value
    ∙ system_arrives coordinator resource (pair_rows coordinator resource (sheet_rows sheet)) (pair_accepted sheet.bytes.now sheet.accepted coordinator resource) (all_pair PartIsByte coordinator resource (sheet_rows sheet) c.total_of.ensures.parts)
