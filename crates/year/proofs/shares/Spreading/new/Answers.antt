use Rattle.std.proofs.Common.{sym, ap, ◌∙◌, mul-zero}
use Rattle.year.specs.Spread.{quotient}
use Rattle.year.proofs.Spread.{quotient_zero}
use Rattle.year.proofs.shares.Spreading.new.Goals as goal

pub invariant_of-result-clause-floor : goal.invariant_of-result-clause-floor
invariant_of-result-clause-floor c = sym (ap (λ n. quotient n c.args.whole) (mul-zero c.args.amount) ∙ quotient_zero c.args.whole)
