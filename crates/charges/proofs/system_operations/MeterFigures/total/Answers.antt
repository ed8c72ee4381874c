use Rattle.std.proofs.Common.{◌∙◌, arith}
use Rattle.charges.proofs.SystemOperationsFacts.{metered_low, balance_low}
use Rattle.charges.proofs.Reached.{less_fits, less_is}
use Rattle.charges.proofs.system_operations.MeterFigures.total.Goals as goal

pub overflow_sub-self : goal.overflow_sub-self
overflow_sub-self c =
    let a = metered_low 2048 c.args.self.now c.requires in
    let b = balance_low 2048 c.args.self.now c.requires in
    less_fits c.args.self.now.metered c.args.self.now.balance (omega arith) (omega arith)

pub returns : goal.returns
returns c =
    let a = metered_low 2048 c.args.self.now c.requires in
    let b = balance_low 2048 c.args.self.now c.requires in
    c.unsigned_abs.ensures.value ∙ less_is c.args.self.now.metered c.args.self.now.balance (omega arith) (omega arith)
