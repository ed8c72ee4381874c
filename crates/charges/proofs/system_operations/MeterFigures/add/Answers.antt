use Rattle.std.proofs.lemmas.Bool.{eqb-true}
use Rattle.charges.proofs.SystemOperationsFacts.{metered_fits, balance_fits, metered_more, balance_more}
use Rattle.charges.proofs.system_operations.MeterFigures.add.Goals as goal

pub overflow_add-self : goal.overflow_add-self
overflow_add-self c = metered_fits c.args.self.now c.args.row c.requires.reached c.requires.passes c.from.result c.from.ensures

pub overflow_add-self-in-TorBalance : goal.overflow_add-self-in-TorBalance
overflow_add-self-in-TorBalance c = balance_fits c.args.self.now c.args.row c.requires.reached c.requires.passes c.from-in-TorBalance.result c.from-in-TorBalance.ensures

pub returns-in-MeteredEnergy : goal.returns-in-MeteredEnergy
returns-in-MeteredEnergy c = metered_more c.args.self.now c.args.row c.requires.reached c.requires.passes c.from.result c.from.ensures (eqb-true _ 20 c.in-MeteredEnergy.ensures)

pub returns-in-TorBalance : goal.returns-in-TorBalance
returns-in-TorBalance c = balance_more c.args.self.now c.args.row c.requires.reached c.requires.passes c.from-in-TorBalance.result c.from-in-TorBalance.ensures (eqb-true _ 8 c.in-TorBalance.ensures)
