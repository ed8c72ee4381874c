use Rattle.std.proofs.lemmas.Bool.{eqb-true}
use Rattle.charges.proofs.MarketServicesFacts.{day_ahead_fits, hasp_fits, real_time_fits, day_ahead_more, hasp_more, real_time_kind, real_time_more}
use Rattle.charges.proofs.market_services.IntervalEnergyFigures.add.Goals as goal

pub overflow_add-self : goal.overflow_add-self
overflow_add-self c = day_ahead_fits c.args.self.now c.args.row c.requires.reached c.requires.passes c.from.result c.from.ensures

pub overflow_add-self-in-HaspEnergy : goal.overflow_add-self-in-HaspEnergy
overflow_add-self-in-HaspEnergy c = hasp_fits c.args.self.now c.args.row c.requires.reached c.requires.passes c.from-in-HaspEnergy.result c.from-in-HaspEnergy.ensures

pub overflow_add-self-in-OptimalEnergy : goal.overflow_add-self-in-OptimalEnergy
overflow_add-self-in-OptimalEnergy c = real_time_fits c.args.self.now c.args.row c.requires.reached c.requires.passes c.from-in-OptimalEnergy.result c.from-in-OptimalEnergy.ensures

pub returns-in-DayAheadEnergy : goal.returns-in-DayAheadEnergy
returns-in-DayAheadEnergy c = day_ahead_more c.args.self.now c.args.row c.requires.reached c.requires.passes c.from.result c.from.ensures (eqb-true _ 1 c.in-DayAheadEnergy.ensures)

pub returns-in-HaspEnergy : goal.returns-in-HaspEnergy
returns-in-HaspEnergy c = hasp_more c.args.self.now c.args.row c.requires.reached c.requires.passes c.from-in-HaspEnergy.result c.from-in-HaspEnergy.ensures (eqb-true _ 2 c.in-HaspEnergy.ensures)

pub returns-in-OptimalEnergy : goal.returns-in-OptimalEnergy
returns-in-OptimalEnergy c =
    let kind = real_time_kind c.args.row.key.kind c.kind.result c.kind.ensures c.in-OptimalEnergy.is in
    real_time_more c.args.self.now c.args.row c.requires.reached c.requires.passes c.from-in-OptimalEnergy.result c.from-in-OptimalEnergy.ensures kind.0 kind.1
