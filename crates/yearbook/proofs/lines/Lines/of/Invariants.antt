use Rattle.std.proofs.Common.{◌≡◌, ℕ, ◌≤◌, get_or}
use Rattle.charges.specs.Rules.{lines, meaning}
use Rattle.sheet.specs.Sheets.{sheet_rows}
use Rattle.yearbook.proofs.lines.Lines.of.Given as goal

abbrev pub invariant-loop-coordinator : goal.invariant-loop-coordinator
invariant-loop-coordinator g l = record {
  value : l.cents.items ≡ lines l.coordinator (meaning (g.R.ChargeRule.code l.rule) (g.R.ChargeRule.quantity l.rule)) l.rate (sheet_rows l.sheet);
  low : (k : ℕ) → get_or l.cents.items k 0 ≤ 819200000000;
}
