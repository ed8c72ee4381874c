use Rattle.std.proofs.Common.{◌+◌, ◌*◌, ◌/◌, ap}
use Rattle.charges.specs.Rules.{line}
use Rattle.charges.proofs.quantity.line_at.Goals as goal

pub returns-clause-value : goal.returns-clause-value
unfolding line
returns-clause-value c = ap (λ rate. (c.args.quantity * rate + 5000000) / 10000000) c.from.ensures
