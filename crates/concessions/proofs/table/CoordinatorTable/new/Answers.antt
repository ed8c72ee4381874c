use Rattle.std.proofs.Common.{◌≤◌, arith}
use Rattle.std.proofs.lemmas.List.Elements.{All-replicate}
use Rattle.concessions.proofs.table.CoordinatorTable.new.Goals as goal

pub invariant_of-result : goal.invariant_of-result
invariant_of-result g c = All-replicate (λ figure. figure ≤ g.row.MOST) 64 0 (omega arith)
