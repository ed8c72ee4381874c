use Rattle.std.proofs.Common.{◌≡◌, ℕ, ◌+◌, ◌^◌, ◌<◌, sym, refl, ap, ◌∙◌, arith, rules}
use Rattle.std.specs.List.{range_with_len}
use Rattle.sheet.specs.Sheets.{sheet_rows}
use Rattle.charges.specs.Rules.{meaning}
use Rattle.charges.specs.SumsLemmas.{over_none}
use Rattle.charges.proofs.Quantities.{under, none_under, quantity_low, sum_more, sum_all}
use Rattle.charges.proofs.quantity.coordinator_quantity.Goals as goal

-- without rows there is nothing under any resource
pub returns-then-not-may_have_rows : goal.returns-then-not-may_have_rows
returns-then-not-may_have_rows g c =
    let sheet = c.args.sheet in
    let rule = c.args.rule.now in
    let q = g.R.ChargeRule.quantity rule in
    let bounded = g.met.R.ChargeRule.bounded rule in
    let here = under sheet.bytes.now sheet.accepted q bounded c.args.coordinator in
    let none : (resource : ℕ) → here resource ≡ 0 = λ resource. none_under sheet.bytes.now sheet.accepted q bounded c.args.coordinator resource (c.may_have_rows.ensures c.if-not-may_have_rows.true resource) in
    record {
      value = sum_all (meaning (g.R.ChargeRule.code rule) q) c.args.coordinator (sheet_rows sheet) 0 256 refl (sym (over_none here none (range_with_len 0 256)));
      low = omega arith;
    }

pub overflow_add-sum : goal.overflow_add-sum
overflow_add-sum g c =
    let sheet = c.args.sheet in
    let q = g.R.ChargeRule.quantity c.args.rule.now in
    let bounded = g.met.R.ChargeRule.bounded c.args.rule.now in
    let k = c.loop-resource.resource in
    let more = sum_more sheet.bytes.now sheet.accepted q bounded c.args.coordinator c.loop-resource.sum k c.loop-resource.invariant in
    let low = quantity_low sheet.bytes.now sheet.accepted q bounded c.args.coordinator (k + 1) in
    let e = c.quantity_if-sum.ensures in
    let fits : c.loop-resource.sum + c.quantity_if-sum.result < 2 ^ 64 = omega arith in
    search rules

pub loop-resource-preserved : goal.loop-resource-preserved
loop-resource-preserved g c =
    let sheet = c.args.sheet in
    let q = g.R.ChargeRule.quantity c.args.rule.now in
    let bounded = g.met.R.ChargeRule.bounded c.args.rule.now in
    let more = sum_more sheet.bytes.now sheet.accepted q bounded c.args.coordinator c.loop-resource.sum c.loop-resource.resource c.loop-resource.invariant in
    ap (λ x. c.loop-resource.sum + x) c.quantity_if-sum.ensures ∙ more

pub returns-else-not-may_have_rows-2 : goal.returns-else-not-may_have_rows-2
returns-else-not-may_have_rows-2 g c =
    let sheet = c.args.sheet in
    let rule = c.args.rule.now in
    let q = g.R.ChargeRule.quantity rule in
    let bounded = g.met.R.ChargeRule.bounded rule in
    let k = c.loop-resource.resource in
    let more = sum_more sheet.bytes.now sheet.accepted q bounded c.args.coordinator c.loop-resource.sum k c.loop-resource.invariant in
    let sum = ap (λ x. c.loop-resource.sum + x) c.quantity_if-sum.ensures ∙ more in
    let low = quantity_low sheet.bytes.now sheet.accepted q bounded c.args.coordinator (k + 1) in
    record {
      value = sum_all (meaning (g.R.ChargeRule.code rule) q) c.args.coordinator (sheet_rows sheet) (c.loop-resource.sum + c.quantity_if-sum.result) (k + 1) (omega arith) sum;
      low = omega (arith, sum);
    }
