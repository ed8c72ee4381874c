use Rattle.std.proofs.Common.{◌≡◌, ◌<◌, ℕ, [], true, length, get_or, set, ap, ap₂, ◌∙◌, arith, rules}
use Rattle.charges.specs.Rules.{meaning}
use Rattle.charges.specs.Sums.{total}
use Rattle.yearbook.proofs.Posting.{day_low, cents_long, balanced, post_left, post_owed}
use Rattle.yearbook.proofs.Taken.{taken_telling}
use Rattle.yearbook.proofs.book.YearBook.post.Goals as goal

pub add_to-requires : goal.add_to-requires
add_to-requires g c =
    let m = meaning (g.R.ChargeRule.code c.args.rule.now) (g.R.ChargeRule.quantity c.args.rule.now) in
    let s = c.args.self.now in
    record { few = cents_long s m c.args.day c.args.rate c.args.bytes.now _ c.in_ok-lines.ensures; balanced = balanced s m c.args.day c.args.rate c.args.bytes.now _ c.in_ok-lines.ensures }

pub bounds-self-from : goal.bounds-self-from
bounds-self-from g c =
    let m = meaning (g.R.ChargeRule.code c.args.rule.now) (g.R.ChargeRule.quantity c.args.rule.now) in
    let d = day_low c.args.self.now m c.args.day c.args.rate c.args.bytes.now c.in_ok-lines.ensures.accepted in
    omega arith

pub invariant_of-self : goal.invariant_of-self
invariant_of-self g c =
    let s = c.args.self.now in
    let m = meaning (g.R.ChargeRule.code c.args.rule.now) (g.R.ChargeRule.quantity c.args.rule.now) in
    let raised = c.add_to.ensures in
    let k = post_owed s m c.args.day c.args.rate c.args.bytes.now _ c.in_ok-lines.ensures _ raised in
    record { owed = k; limited = s.limited }

pub returns-clause-taken : goal.returns-clause-taken
returns-clause-taken g c =
    let s = c.args.self.now in
    let m = meaning (g.R.ChargeRule.code c.args.rule.now) (g.R.ChargeRule.quantity c.args.rule.now) in
    let d = c.args.day in
    let billed = c.in_ok-lines.ensures in
    let raised = c.add_to.ensures in
    let low = g.met.R.ChargeRule.code_low c.args.rule.now in
    let on : c.from.result ≡ d = omega arith in
    let by : c.from-2.result ≡ m.code = omega arith in
    let days = day_low s m d c.args.rate c.args.bytes.now billed.accepted in
    let wide : length s.posted ≡ 367 = search rules in
    let row = c.mark.ensures.sixteen in
    let long : m.code < length (get_or s.posted d []) = omega (arith, ap (λ (day : ℕ). length (get_or s.posted day [])) on, row) in
    taken_telling _ _ _ c.total.result _ billed.accepted (c.total.ensures ∙ ap total billed.lines_are)
    (post_left s m d c.args.rate c.args.bytes.now _ billed _ raised _ (omega arith) long (ap (set s.posted c.from.result) c.mark.ensures.marked ∙ ap₂ (λ (day code : ℕ). set s.posted day (set (get_or s.posted day []) code true)) on by))
