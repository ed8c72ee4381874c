use Rattle.std.proofs.Common.{rules}
use Rattle.charges.proofs.MarketServicesFacts.{two_low, three_low}
use Rattle.charges.proofs.market_services.IntervalEnergyFigures.total.Goals as goal

pub overflow_add-result : goal.overflow_add-result
overflow_add-result c =
    let b = two_low c.args.self.now c.requires c.unsigned_abs.result c.unsigned_abs-2.result c.unsigned_abs.ensures.value c.unsigned_abs-2.ensures.value in
    search rules

pub overflow_add-result-2 : goal.overflow_add-result-2
overflow_add-result-2 c =
    let b = three_low c.args.self.now c.requires c.unsigned_abs.result c.unsigned_abs-2.result c.unsigned_abs-3.result c.unsigned_abs.ensures.value c.unsigned_abs-2.ensures.value c.unsigned_abs-3.ensures.value in
    search rules
