use Rattle.std.proofs.Common.{◌≡◌, length}
use Rattle.charges.proofs.Quantities.{Marked}
use Rattle.charges.proofs.quantity.resources_of.Given as goal

-- the marks are those of the rows read so far
abbrev pub invariant-loop-row : goal.invariant-loop-row
invariant-loop-row l = (length l.present ≡ 256) × Marked l.coordinator l.yielded l.present
