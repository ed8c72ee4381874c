use Rattle.std.proofs.Common.{◌≡◌}
use Rattle.std.specs.List.{range_with_len}
use Rattle.sheet.specs.Rows.{pair_rows}
use Rattle.sheet.specs.Sheets.{sheet_rows}
use Rattle.charges.specs.Sums.{over}
use Rattle.charges.proofs.quantity.coordinator_quantity.Given as goal

-- the sum over the resources so far
abbrev pub invariant-loop-resource : goal.invariant-loop-resource
invariant-loop-resource g l = l.sum ≡ over (range_with_len 0 l.resource) (λ resource. g.R.ChargeRule.quantity l.rule l.coordinator resource (pair_rows l.coordinator resource (sheet_rows l.sheet)))
