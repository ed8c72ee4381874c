-- What is promised of the five charges: the running figures arrive at them, and they are bounded.
use Rattle.std.specs.Prelude.{◌≡◌, ℕ, ◌*◌, cond, List, ◌==◌}
use Rattle.std.specs.List.{AllByRecursion}
use Rattle.sheet.specs.declared.row.Row.{Row}
use Rattle.sheet.specs.Rows.{PartIsByte}
use Rattle.sheet.specs.Sheets.{PairRows}
use Rattle.charges.specs.Rules.{Bounded}
use Rattle.charges.specs.Charges.{market_services, system_operations, bid_segment, tor, trade_fee}
use Rattle.charges.specs.Running.{run, market_figures, system_figures, segment_figures, tor_figures, trade_figures}

-- on the rows of any pair the running figures come to the charge
pub record FiguresArrive : Type 0 where
  pub at_market_services : (coordinator resource : ℕ) (rs : List Row) → PairRows coordinator resource rs → 100 * run market_figures rs ≡ market_services coordinator resource rs
  pub at_system_operations : (coordinator resource : ℕ) (rs : List Row) → PairRows coordinator resource rs → AllByRecursion PartIsByte rs → 100 * run system_figures rs ≡ system_operations coordinator resource rs
  pub at_bid_segment : (coordinator resource : ℕ) (rs : List Row) → PairRows coordinator resource rs → 100000 * run segment_figures rs ≡ bid_segment coordinator resource rs
  pub at_tor : (coordinator resource : ℕ) (rs : List Row) → cond (resource == 0) (100 * run tor_figures rs) 0 ≡ tor coordinator resource rs
  pub at_trade_fee : (coordinator resource : ℕ) (rs : List Row) → 100000 * run trade_figures rs ≡ trade_fee coordinator resource rs

pub record ChargesBounded : Type 0 where
  pub market_services_bounded : Bounded market_services
  pub system_operations_bounded : Bounded system_operations
  pub bid_segment_bounded : Bounded bid_segment
  pub tor_bounded : Bounded tor
  pub trade_fee_bounded : Bounded trade_fee
