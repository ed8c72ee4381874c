use Rattle.std.proofs.Common.{◌≡◌, ◌<◌, ◌^◌, sum, ap, ◌∙◌, arith, rules}
use borrow.Author.Tests.{tests}
use Rattle.std.proofs.lemmas.List.{map-id}
use Rattle.charges.specs.Sums.{total}
use Rattle.year.proofs.Sums.{sum_by_is, total_le}
use Rattle.yearbook.proofs.lines.Lines.total.Goals as goal

pub sum-requires-clause-fits : goal.sum-requires-clause-fits
sum-requires-clause-fits c =
    let xs = c.args.self.now.cents.items in
    let few = c.args.self.now.few in
    let b : sum xs < 2 ^ 64 = omega (arith, sum_by_is (λ x. x) xs ∙ ap total (map-id xs), total_le 819200000000 xs (λ k w. c.args.self.now.low k)) in
    search (rules, tests)

pub returns : goal.returns
returns c =
    let xs = c.args.self.now.cents.items in
    let e : c.sum.result ≡ sum xs = search (rules, tests) in
    e ∙ sum_by_is (λ x. x) xs ∙ ap total (map-id xs)
