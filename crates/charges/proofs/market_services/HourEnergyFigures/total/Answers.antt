use Rattle.std.proofs.Common.{rules}
use Rattle.charges.proofs.MarketServicesFacts.{energy_reached, balance_reached, total_fits}
use Rattle.charges.proofs.market_services.HourEnergyFigures.total.Goals as goal

pub total-requires : goal.total-requires
total-requires c = energy_reached 2048 c.args.self.now c.requires

pub total-requires-2 : goal.total-requires-2
total-requires-2 c = balance_reached 2048 c.args.self.now c.requires

pub overflow_add-result : goal.overflow_add-result
overflow_add-result c =
    let b = total_fits 2048 c.args.self.now c.requires c.total.result c.total-2.result c.saturating_sub.result c.total.ensures c.total-2.ensures c.saturating_sub.ensures in
    search rules
