use Rattle.std.proofs.Common.{◌≡◌, Ok, Err, rules}
use Rattle.questions.specs.Questions.{ask, answer, first, no_at, told}
use Rattle.sheet.specs.Faults.{sheet_fault}
use Rattle.sheet.specs.Questions.{sheet_refusal}
use Rattle.sheet.specs.Rows.{row_count}
use Rattle.sheet.proofs.FirstNo.{first_no_of, first_asked_no_of}
use Rattle.sheet.proofs.check.check.Goals as goal

pub returns-in_err-count : goal.returns-in_err-count
unfolding ask first sheet_refusal
returns-in_err-count c =
    let v : told sheet_fault c.from_residual.result ≡ answer (sheet_refusal c.args.bytes.now) (row_count c.args.bytes.now) = search rules in
    record { answered = v; meaning = first_no_of c.args.bytes.now _ v; asked = first_asked_no_of c.args.bytes.now _ v; parts = search rules }

pub returns-then-bytes-count : goal.returns-then-bytes-count
unfolding ask first sheet_refusal
returns-then-bytes-count c =
    let v : Err (no_at 2 0) ≡ answer (sheet_refusal c.args.bytes.now) (row_count c.args.bytes.now) = search rules in
    record { answered = v; meaning = first_no_of c.args.bytes.now _ v; asked = first_asked_no_of c.args.bytes.now _ v; parts = search rules }

pub returns-in_err-check_rows : goal.returns-in_err-check_rows
unfolding ask first sheet_refusal
returns-in_err-check_rows c =
    let v : told sheet_fault c.from_residual-in_err-check_rows.result ≡ answer (sheet_refusal c.args.bytes.now) (row_count c.args.bytes.now) = search rules in
    record { answered = v; meaning = first_no_of c.args.bytes.now _ v; asked = first_asked_no_of c.args.bytes.now _ v; parts = search rules }

pub returns : goal.returns
unfolding ask first sheet_refusal
returns c =
    let v : Ok c.in_ok-count.count ≡ answer (sheet_refusal c.args.bytes.now) (row_count c.args.bytes.now) = search rules in
    record { answered = v; meaning = first_no_of c.args.bytes.now _ v; asked = first_asked_no_of c.args.bytes.now _ v; parts = search rules }
