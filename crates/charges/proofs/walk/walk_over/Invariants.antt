use Rattle.std.proofs.Common.{◌≡◌}
use Rattle.sheet.specs.Sheets.{sheet_rows}
use Rattle.charges.specs.Running.{walk_at}
use Rattle.charges.proofs.walk.walk_over.Given as goal

abbrev pub invariant-loop-i : goal.invariant-loop-i
invariant-loop-i g l = l.walk ≡ walk_at g.F.Figures.running l.fn.pair (sheet_rows l.sheet) l._i
