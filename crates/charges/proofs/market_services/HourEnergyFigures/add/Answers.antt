use Rattle.std.proofs.Common.{rules}
use Rattle.charges.proofs.MarketServicesFacts.{energy_reached, balance_reached, awards_low}
use Rattle.charges.proofs.market_services.HourEnergyFigures.add.Goals as goal

pub add-requires-clause-reached : goal.add-requires-clause-reached
add-requires-clause-reached c = energy_reached 2047 c.args.self.now c.requires.reached

pub add-requires-2-clause-reached : goal.add-requires-2-clause-reached
add-requires-2-clause-reached c = balance_reached 2047 c.args.self.now c.requires.reached

pub overflow_add-self : goal.overflow_add-self
overflow_add-self c = let b = awards_low 2047 c.args.self.now c.requires.reached in search rules
