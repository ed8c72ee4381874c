use Rattle.std.proofs.Common.{◌≡◌, count_by, ◌∙◌, rules}
use borrow.Author.Tests.{tests}
use Rattle.yearbook.proofs.Assessing.{flagged_are}
use Rattle.yearbook.proofs.coordinators.Coordinators.count_flagged.Goals as goal

pub returns-clause-value : goal.returns-clause-value
returns-clause-value c =
    let e : c.count.result ≡ count_by (λ x. x.flagged) c.args.self.now.list.items = search (rules, tests) in
    e ∙ flagged_are c.args.self.now.list.items
