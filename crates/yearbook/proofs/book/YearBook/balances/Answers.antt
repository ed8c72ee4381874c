use Rattle.std.proofs.Common.{ℕ, ℤ, None, sym, ap, ◌∙◌, ap₂, w64, SFits, rules}
use Rattle.std.proofs.lemmas.Int.{to_z-of_z}
use Rattle.std.proofs.lemmas.Result.{err_from_is_err_and}
use Rattle.questions.specs.Questions.{answer}
use Rattle.year.specs.Reading.{balances}
use Rattle.yearbook.specs.Coordinators.{market_of, rc_of}
use Rattle.yearbook.specs.View.{book_of}
use Rattle.yearbook.proofs.Views.{market_is, rc_is, balances_12, balances_none}
use Rattle.yearbook.proofs.book.YearBook.balances.Goals as goal

pub returns-in_err-coordinator : goal.returns-in_err-coordinator
returns-in_err-coordinator c =
    let p = err_from_is_err_and c.from_residual.result c.from_residual.ensures.1 in
    let m = c.in_err-coordinator.ensures.missing in
    rw (p.1, p.2, m.0, balances_12 c.args.self.now c.args.coordinator m.1)

pub returns : goal.returns
returns c =
    let h = c.in_ok-coordinator.ensures.here in
    let s = c.args.self.now in
    let k = c.args.coordinator in
    let z : ℤ = c.in_ok-coordinator.coordinator.market in
    let fits : SFits w64 z = search rules in
    ap (answer None) (ap₂ (λ (m : ℤ) (r : ℕ). (m, r)) (to_z-of_z w64 z fits ∙ ap market_of h.1 ∙ sym (market_is s k h.0)) (ap rc_of h.1 ∙ sym (rc_is s k h.0)))
    ∙ ap (λ o. answer o (balances (book_of s) k)) (sym (balances_none s k h.0))
