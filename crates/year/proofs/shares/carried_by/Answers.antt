use Rattle.std.proofs.Common.{sym, arith}
use Rattle.year.proofs.Spread.{quotient_is, quotient_none}
use Rattle.year.proofs.shares.carried_by.Goals as goal

pub returns-then-whole-eq0 : goal.returns-then-whole-eq0
returns-then-whole-eq0 c = sym (quotient_none _ c.args.whole (omega arith))

pub returns : goal.returns
returns c = sym (quotient_is _ c.args.whole (omega arith))
