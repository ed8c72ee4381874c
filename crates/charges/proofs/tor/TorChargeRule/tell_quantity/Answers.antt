use Rattle.std.proofs.Common.{◌*◌, eqb, sym, ap, ◌∙◌, arith, rules}
use Rattle.std.proofs.lemmas.Bool.{cond-true, cond-false, eq-eqb, ne_eqb}
use Rattle.sheet.specs.Rows.{pair_rows}
use Rattle.sheet.specs.Sheets.{sheet_rows}
use Rattle.charges.specs.Running.{run, tor_figures}
use Rattle.charges.specs.TorFacts.{tor_figures_bounded}
use Rattle.charges.proofs.TorFacts.{tor_arrives}
use Rattle.charges.proofs.Walks.{pair_low}
use Rattle.charges.proofs.tor.TorChargeRule.tell_quantity.Goals as goal

pub returns-then-pair-ne0 : goal.returns-then-pair-ne0
returns-then-pair-ne0 c =
    let resource = c.args.pair.resource in
    let rs = pair_rows c.args.pair.coordinator resource (sheet_rows c.args.sheet) in
    sym (cond-false (eqb resource 0) (100 * run tor_figures rs) 0 (ne_eqb resource 0 (λ e. omega arith)))
    ∙ tor_arrives c.args.pair.coordinator resource rs

pub overflow_mul-result : goal.overflow_mul-result
overflow_mul-result c =
    let sheet = c.args.sheet in
    let low = pair_low sheet.bytes.now sheet.accepted tor_figures c.args.pair.coordinator c.args.pair.resource 4000000 tor_figures_bounded in
    let e = c.total_of.ensures.value in
    search rules

pub returns : goal.returns
returns c =
    let resource = c.args.pair.resource in
    let rs = pair_rows c.args.pair.coordinator resource (sheet_rows c.args.sheet) in
    ap (λ x. 100 * x) c.total_of.ensures.value
    ∙ sym (cond-true (eqb resource 0) (100 * run tor_figures rs) 0 (eq-eqb resource 0 (omega arith)))
    ∙ tor_arrives c.args.pair.coordinator resource rs
