use Rattle.std.proofs.Common.{rules}
use Rattle.charges.proofs.MarketServicesFacts.{balance_fits, balance_more}
use Rattle.charges.proofs.market_services.IntervalBalanceFigures.add.Goals as goal

pub overflow_add-self : goal.overflow_add-self
overflow_add-self c = balance_fits c.args.self.now c.args.row c.requires.reached c.requires.passes c.from.result c.from.ensures

pub returns-then-eq : goal.returns-then-eq
returns-then-eq c = balance_more c.args.self.now c.args.row c.requires.reached c.requires.passes c.from.result c.from.ensures (search rules)
