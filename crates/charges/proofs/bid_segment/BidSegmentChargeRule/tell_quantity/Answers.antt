use Rattle.std.proofs.Common.{◌*◌, ap, ◌∙◌, rules}
use Rattle.sheet.specs.Rows.{pair_rows}
use Rattle.sheet.specs.Sheets.{sheet_rows}
use Rattle.sheet.proofs.Pairs.{pair_accepted}
use Rattle.charges.specs.Running.{segment_figures}
use Rattle.charges.specs.BidSegmentFacts.{segment_figures_bounded}
use Rattle.charges.proofs.BidSegmentFacts.{segment_arrives}
use Rattle.charges.proofs.Walks.{pair_low}
use Rattle.charges.proofs.bid_segment.BidSegmentChargeRule.tell_quantity.Goals as goal

pub overflow_mul-result : goal.overflow_mul-result
overflow_mul-result c =
    let sheet = c.args.sheet in
    let low = pair_low sheet.bytes.now sheet.accepted segment_figures c.args.pair.coordinator c.args.pair.resource 5 segment_figures_bounded in
    let e = c.total_of.ensures.value in
    search rules

pub returns : goal.returns
returns c =
    let sheet = c.args.sheet in
    let coordinator = c.args.pair.coordinator in
    let resource = c.args.pair.resource in
    ap (λ x. 100000 * x) c.total_of.ensures.value
    ∙ segment_arrives coordinator resource (pair_rows coordinator resource (sheet_rows sheet)) (pair_accepted sheet.bytes.now sheet.accepted coordinator resource)
