-- The trade fee: its running figures arrive.
use Rattle.std.specs.Prelude.{◌≡◌, ℕ, ◌*◌, List}
use Rattle.std.proofs.Common.{ap}
use Rattle.sheet.specs.declared.row.Row.{Row}
use Rattle.charges.specs.Charges.{trade_fee}
use Rattle.charges.specs.Running.{run, trade_figures}
use Rattle.charges.specs.TradeFeeFacts.{trade_run}

pub trade_arrives : (coordinator resource : ℕ) (rs : List Row) → 100000 * run trade_figures rs ≡ trade_fee coordinator resource rs
unfolding trade_fee
trade_arrives coordinator resource rs = ap (λ x. 100000 * x) (trade_run rs)
