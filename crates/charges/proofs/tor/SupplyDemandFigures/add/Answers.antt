use Rattle.std.proofs.Common.{rules}
use Rattle.charges.proofs.TorFacts.{supply_low, demand_low}
use Rattle.charges.proofs.tor.SupplyDemandFigures.add.Goals as goal

pub overflow_add-self : goal.overflow_add-self
overflow_add-self c = let b = supply_low 2047 c.args.self.now c.requires.reached in search rules

pub overflow_add-self-in-TorDemand : goal.overflow_add-self-in-TorDemand
overflow_add-self-in-TorDemand c = let b = demand_low 2047 c.args.self.now c.requires.reached in search rules
