use Rattle.std.proofs.Common.{◌≡◌, ℕ, sym, ap, ◌∙◌, ap₂, arith}
use Rattle.std.proofs.lemmas.Result.{err_from_is_err_and}
use Rattle.charges.specs.Rules.{meaning, line, line_of, quantity_of}
use Rattle.questions.proofs.Asked.{ok_answer, err_answer, refused_answer, accepted_answer}
use Rattle.sheet.specs.Rows.{own_rows, rows}
use Rattle.year.specs.Market.{coordinators_refusal}
use Rattle.yearbook.proofs.Posting.{quote_8, quote_sheet, quote_9, quote_12, quote_none}
use Rattle.yearbook.proofs.book.YearBook.quote.Goals as goal

pub returns-then-rate-gt-MOST_RATE : goal.returns-then-rate-gt-MOST_RATE
returns-then-rate-gt-MOST_RATE g c =
    let s = c.args.self.now in
    refused_answer _ _ _ (quote_8 s c.args.rate c.args.bytes.now c.args.coordinator (omega arith))

pub returns-in_err-sheet : goal.returns-in_err-sheet
returns-in_err-sheet g c =
    let s = c.args.self.now in
    let p = err_from_is_err_and c.from_residual.result c.from_residual.ensures.1 in
    rw (p.1, p.2) (refused_answer _ _ _ (quote_sheet s c.args.rate c.args.bytes.now c.args.coordinator (omega arith) _ c.in_err-sheet.ensures))

pub returns-in_err-check_coordinators : goal.returns-in_err-check_coordinators
returns-in_err-check_coordinators g c =
    let s = c.args.self.now in
    let clean = c.in_ok-sheet.ensures.0 in
    let p = err_from_is_err_and c.from_residual-in_err-check_coordinators.result c.from_residual-in_err-check_coordinators.ensures.1 in
    rw (p.1, p.2) (refused_answer _ _ _ (quote_9 s c.args.rate c.args.bytes.now c.args.coordinator (omega arith) clean _
    (ap₂ coordinators_refusal (sym c.len.ensures.value) (sym c.in_ok-sheet.ensures.1) ∙ err_answer _ tt _ c.in_err-check_coordinators.ensures)))

pub returns-in_err-coordinator : goal.returns-in_err-coordinator
returns-in_err-coordinator g c =
    let s = c.args.self.now in
    let clean = c.in_ok-sheet.ensures.0 in
    let known = ap₂ coordinators_refusal (sym c.len.ensures.value) (sym c.in_ok-sheet.ensures.1) ∙ ok_answer _ tt tt c.in_ok-check_coordinators.ensures in
    let p = err_from_is_err_and c.from_residual-in_err-coordinator.result c.from_residual-in_err-coordinator.ensures.1 in
    let m = c.in_err-coordinator.ensures.missing in
    rw (p.1, p.2, m.0) (refused_answer _ _ _ (quote_12 s c.args.rate c.args.bytes.now c.args.coordinator (omega arith) clean known m.1))

pub returns : goal.returns
unfolding line_of
returns g c =
    let s = c.args.self.now in
    let m = meaning (g.R.ChargeRule.code c.args.rule.now) (g.R.ChargeRule.quantity c.args.rule.now) in
    let k = c.args.coordinator in
    let clean = c.in_ok-sheet.ensures.0 in
    let known = ap₂ coordinators_refusal (sym c.len.ensures.value) (sym c.in_ok-sheet.ensures.1) ∙ ok_answer _ tt tt c.in_ok-check_coordinators.ensures in
    let q : c.coordinator_quantity-quantity.result ≡ quantity_of m k (own_rows k (rows c.args.bytes.now)) =
    c.coordinator_quantity-quantity.ensures.value ∙ ap (λ bs. quantity_of m k (own_rows k (rows bs))) c.in_ok-sheet.ensures.1 in
    accepted_answer _ _ _ (quote_none s c.args.rate c.args.bytes.now k (omega arith) clean known c.in_ok-coordinator.ensures.here.0)
    (ap₂ (λ (x y : ℕ). (x, y)) q (c.line_at.ensures.value ∙ ap (λ x. line x c.args.rate) q))
