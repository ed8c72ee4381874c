use Rattle.std.proofs.Common.{rules}
use Rattle.charges.specs.Running.{trade_figures}
use Rattle.charges.specs.TradeFeeFacts.{trade_figures_bounded}
use Rattle.charges.proofs.Reached.{reached_low}
use Rattle.charges.proofs.trade_fee.TradeSidesFigures.add.Goals as goal

pub overflow_add-self : goal.overflow_add-self
overflow_add-self c = let b = reached_low trade_figures 1 2047 c.args.self.now trade_figures_bounded c.requires.reached in search rules
