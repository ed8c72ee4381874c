use Rattle.std.proofs.Common.{◌≡◌, ◌<◌, ◌^◌, sum, ap, ◌∙◌, rules}
use borrow.Author.Tests.{tests}
use Rattle.std.proofs.lemmas.List.{map-id}
use Rattle.charges.specs.Sums.{total}
use Rattle.year.proofs.Sums.{sum_by_is}
use Rattle.year.proofs.shares.total_demand.Goals as goal

pub sum-requires-clause-fits : goal.sum-requires-clause-fits
sum-requires-clause-fits c =
    let b : sum c.args.demands.now < 2 ^ 64 = rw (sum_by_is (λ x. x) c.args.demands.now, map-id) c.requires in
    search (rules, tests)

pub returns : goal.returns
returns c =
    let e : c.sum.result ≡ sum c.args.demands.now = search (rules, tests) in
    e ∙ sum_by_is (λ x. x) c.args.demands.now ∙ ap total (map-id c.args.demands.now)
