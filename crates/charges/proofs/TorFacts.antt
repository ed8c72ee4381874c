-- TOR: its running figures arrive, and how large they are.
use Rattle.std.specs.Prelude.{◌≡◌, ℕ, ◌*◌, ◌≤◌, cond, List, ◌==◌}
use Rattle.std.proofs.Common.{ap}
use Rattle.sheet.specs.declared.row.Row.{Row}
use Rattle.charges.specs.declared.tor.SupplyDemand.{SupplyDemand}
use Rattle.charges.specs.Charges.{only, tor}
use Rattle.charges.specs.Running.{run, Reached, tor_figures, adding_up}
use Rattle.charges.proofs.Reached.{reached_part, gross_reached}
use Rattle.charges.specs.TorFacts.{parts, tor_run}

pub tor_arrives : (coordinator resource : ℕ) (rs : List Row) → cond (resource == 0) (100 * run tor_figures rs) 0 ≡ tor coordinator resource rs
unfolding tor
tor_arrives coordinator resource rs = ap (λ x. cond (resource == 0) (100 * x) 0) (tor_run rs)

module _ (n : ℕ) (a : SupplyDemand) (h : Reached tor_figures n a) where
  pub supply_low : a.supply ≤ 4000000 * n
  supply_low = gross_reached (only 50) n a.supply (reached_part tor_figures (adding_up (only 50)) n a (λ z. z.supply) (λ rs. ap (λ z. z.supply) (parts tor_figures.start rs)) h)

  pub demand_low : a.demand ≤ 4000000 * n
  demand_low = gross_reached (only 51) n a.demand (reached_part tor_figures (adding_up (only 51)) n a (λ z. z.demand) (λ rs. ap (λ z. z.demand) (parts tor_figures.start rs)) h)
