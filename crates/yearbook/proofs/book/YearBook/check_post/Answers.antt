use Rattle.std.proofs.Common.{◌≡◌, ℕ, List, length, sym, ap, ◌∙◌, ap₂, arith}
use Rattle.std.proofs.lemmas.Result.{err_from_is_err_and}
use Rattle.std.proofs.lemmas.List.FromFn.{length-map-range_with_len}
use Rattle.charges.specs.Rules.{line_of, lines, meaning}
use Rattle.questions.proofs.Asked.{ok_answer, err_answer}
use Rattle.sheet.specs.Rows.{rows}
use Rattle.year.specs.Market.{coordinators_refusal}
use Rattle.yearbook.specs.View.{posted_in}
use Rattle.yearbook.proofs.Posting.{post_8, post_sheet, post_9, post_10, post_11}
use Rattle.yearbook.proofs.Views.{count_is}
use Rattle.yearbook.proofs.book.YearBook.check_post.Goals as goal

pub returns-then-not-rate_and_day : goal.returns-then-not-rate_and_day
returns-then-not-rate_and_day g c =
    let s = c.args.self.now in
    let m = meaning (g.R.ChargeRule.code c.args.rule.now) (g.R.ChargeRule.quantity c.args.rule.now) in
    post_8 s m c.args.day c.args.rate c.args.bytes.now (sym c.if-not-rate_and_day.ensures)

pub returns-in_err-sheet : goal.returns-in_err-sheet
returns-in_err-sheet g c =
    let s = c.args.self.now in
    let m = meaning (g.R.ChargeRule.code c.args.rule.now) (g.R.ChargeRule.quantity c.args.rule.now) in
    let p = err_from_is_err_and c.from_residual.result c.from_residual.ensures.1 in
    rw (p.1, p.2) (post_sheet s m c.args.day c.args.rate c.args.bytes.now (sym c.if-not-rate_and_day.ensures) _ c.in_err-sheet.ensures)

pub returns-in_err-check_coordinators : goal.returns-in_err-check_coordinators
returns-in_err-check_coordinators g c =
    let s = c.args.self.now in
    let m = meaning (g.R.ChargeRule.code c.args.rule.now) (g.R.ChargeRule.quantity c.args.rule.now) in
    let d = c.args.day in
    let r = c.args.rate in
    let sh = c.args.bytes.now in
    let ok = sym c.if-not-rate_and_day.ensures in
    let clean = c.in_ok-sheet.ensures.0 in
    let p = err_from_is_err_and c.from_residual-in_err-check_coordinators.result c.from_residual-in_err-check_coordinators.ensures.1 in
    rw (p.1, p.2) (post_9 s m d r sh ok clean _ (ap₂ coordinators_refusal (sym c.len-count.ensures.value) (sym c.in_ok-sheet.ensures.1) ∙ err_answer _ tt _ c.in_err-check_coordinators.ensures))

pub returns-then-self-from : goal.returns-then-self-from
returns-then-self-from g c =
    let s = c.args.self.now in
    let m = meaning (g.R.ChargeRule.code c.args.rule.now) (g.R.ChargeRule.quantity c.args.rule.now) in
    let d = c.args.day in
    let r = c.args.rate in
    let sh = c.args.bytes.now in
    let ok = sym c.if-not-rate_and_day.ensures in
    let clean = c.in_ok-sheet.ensures.0 in
    let known = ap₂ coordinators_refusal (sym c.len-count.ensures.value) (sym c.in_ok-sheet.ensures.1) ∙ ok_answer _ tt tt c.in_ok-check_coordinators.ensures in
    let on : c.from.result ≡ d = omega arith in
    let by : c.from-2.result ≡ m.code = omega arith in
    post_10 s m d r sh ok clean known (ap₂ (λ (day code : ℕ). posted_in s.posted code day) (sym on) (sym by) ∙ c.if-self-from.true)

pub check_balances-requires : goal.check_balances-requires
check_balances-requires g c =
    let m = meaning (g.R.ChargeRule.code c.args.rule.now) (g.R.ChargeRule.quantity c.args.rule.now) in
    ap length c.of-lines.ensures ∙ length-map-range_with_len (line_of m c.args.rate _) 0 c.len-count.result ∙ c.len-count.ensures.value

pub returns-in_err-check_balances : goal.returns-in_err-check_balances
returns-in_err-check_balances g c =
    let s = c.args.self.now in
    let m = meaning (g.R.ChargeRule.code c.args.rule.now) (g.R.ChargeRule.quantity c.args.rule.now) in
    let d = c.args.day in
    let r = c.args.rate in
    let sh = c.args.bytes.now in
    let ok = sym c.if-not-rate_and_day.ensures in
    let clean = c.in_ok-sheet.ensures.0 in
    let known = ap₂ coordinators_refusal (sym c.len-count.ensures.value) (sym c.in_ok-sheet.ensures.1) ∙ ok_answer _ tt tt c.in_ok-check_coordinators.ensures in
    let on : c.from.result ≡ d = omega arith in
    let by : c.from-2.result ≡ m.code = omega arith in
    let unposted = ap₂ (λ (day code : ℕ). posted_in s.posted code day) (sym on) (sym by) ∙ c.if-self-from.false in
    let lines_are = c.of-lines.ensures ∙ ap₂ (λ (n : ℕ) (bs : List ℕ). lines n m r (rows bs)) c.len-count.ensures.value c.in_ok-sheet.ensures.1 in
    let asked = post_11 s m d r sh ok clean known unposted _ lines_are in
    let p = err_from_is_err_and c.from_residual-in_err-check_balances.result c.from_residual-in_err-check_balances.ensures.1 in
    rw (p.1, p.2) (asked ∙ err_answer _ tt _ c.in_err-check_balances.ensures)

pub returns : goal.returns
returns g c =
    let s = c.args.self.now in
    let m = meaning (g.R.ChargeRule.code c.args.rule.now) (g.R.ChargeRule.quantity c.args.rule.now) in
    let d = c.args.day in
    let r = c.args.rate in
    let sh = c.args.bytes.now in
    let ok = sym c.if-not-rate_and_day.ensures in
    let clean = c.in_ok-sheet.ensures.0 in
    let known = ap₂ coordinators_refusal (sym c.len-count.ensures.value) (sym c.in_ok-sheet.ensures.1) ∙ ok_answer _ tt tt c.in_ok-check_coordinators.ensures in
    let on : c.from.result ≡ d = omega arith in
    let by : c.from-2.result ≡ m.code = omega arith in
    let unposted = ap₂ (λ (day code : ℕ). posted_in s.posted code day) (sym on) (sym by) ∙ c.if-self-from.false in
    let lines_are = c.of-lines.ensures ∙ ap₂ (λ (n : ℕ) (bs : List ℕ). lines n m r (rows bs)) c.len-count.ensures.value c.in_ok-sheet.ensures.1 in
    let asked = post_11 s m d r sh ok clean known unposted _ lines_are in
    let n = count_is s in
    record {
      accepted = asked ∙ ok_answer _ tt tt c.in_ok-check_balances.ensures;
      lines_are = lines_are ∙ ap (λ k. lines k m r (rows sh)) (sym n);
    }
