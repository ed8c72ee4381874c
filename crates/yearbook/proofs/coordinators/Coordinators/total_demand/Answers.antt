use Rattle.std.proofs.Common.{◌≡◌, ◌<◌, ◌^◌, ◌∙◌, arith, rules}
use borrow.Author.Tests.{tests}
use Rattle.std.specs.List.{sum_by}
use Rattle.year.proofs.Sums.{sum_by_is}
use Rattle.yearbook.specs.Coordinators.{demand_of}
use Rattle.yearbook.proofs.coordinators.Coordinators.total_demand.Goals as goal

pub sum-requires-clause-fits : goal.sum-requires-clause-fits
sum-requires-clause-fits c =
    let r = c.args.self.now.light in
    let b : sum_by demand_of c.args.self.now.list.items < 2 ^ 64 = omega (arith, sum_by_is demand_of c.args.self.now.list.items) in
    search (rules, tests)

pub returns : goal.returns
returns c =
    let e : c.sum.result ≡ sum_by demand_of c.args.self.now.list.items = search (rules, tests) in
    e ∙ sum_by_is demand_of c.args.self.now.list.items
