use Rattle.std.proofs.Common.{◌≡◌, ℕ, ◌<◌, None, length}
use Rattle.questions.specs.Questions.{in_turn}
use Rattle.sheet.specs.Rows.{PartIsByte, row_at}
use Rattle.sheet.specs.Questions.{previous_key, row_refusal}
use Rattle.sheet.proofs.check.check_rows.Given as goal

-- the rows so far have passed, and their parts are bytes
abbrev pub invariant-loop-i : goal.invariant-loop-i
invariant-loop-i l =
    (l.previous ≡ previous_key l.fn.table.bytes.now (length l.yielded))
    × (in_turn (length l.yielded) (row_refusal l.fn.table.bytes.now) ≡ None)
    × ((n : ℕ) → n < length l.yielded → PartIsByte (row_at l.fn.table.bytes.now n))
