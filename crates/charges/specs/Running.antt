-- Running figures over rows: where they start, one row more, what they come to. Those of each charge.
use Rattle.std.specs.Prelude.{◌≡◌, ℕ, ◌+◌, ◌-◌, ◌*◌, ◌≤◌, min, Bool, cond, List, length, take, ℤ, pos, ◌+ℤ◌, ◌-ℤ◌, fold, ◌==◌, unsigned_abs}
use Rattle.std.specs.List.{AllByRecursion}
use Rattle.sheet.specs.declared.pair.Pair.{Pair}
use Rattle.sheet.specs.declared.row.Row.{Row}
use Rattle.sheet.specs.Rows.{pair_rows}
use Rattle.sheet.specs.Sheets.{Passes}
use Rattle.charges.specs.declared.walk.Walk.{Walk}
use Rattle.charges.specs.declared.group.Group.{Group}
use Rattle.charges.specs.declared.group.ByHour.{ByHour}
use Rattle.charges.specs.declared.group.ByInterval.{ByInterval}
use Rattle.charges.specs.declared.group.ByPart.{ByPart}
use Rattle.charges.specs.declared.market_services.IntervalEnergy.{IntervalEnergy}
use Rattle.charges.specs.declared.market_services.IntervalBalance.{IntervalBalance}
use Rattle.charges.specs.declared.market_services.HourEnergy.{HourEnergy}
use Rattle.charges.specs.declared.system_operations.Meter.{Meter}
use Rattle.charges.specs.declared.bid_segment.HourBids.{HourBids}
use Rattle.charges.specs.declared.bid_segment.DayBids.{DayBids}
use Rattle.charges.specs.declared.tor.SupplyDemand.{SupplyDemand}
use Rattle.charges.specs.declared.trade_fee.TradeSides.{TradeSides}
use Rattle.charges.specs.Charges.{only, from_to, nonzero, segments}

pub record Running (S : Type 0) : Type 0 where
  pub start : S
  pub add : S → Row → S
  pub total : S → ℕ

-- the figures after the rows, in order
abbrev pub after : {S : Type 0} → Running S → List Row → S
after f rs = fold f.add f.start rs

-- what the figures come to over the rows
abbrev pub run : {S : Type 0} → Running S → List Row → ℕ
run f rs = f.total (after f rs)

-- the figures after at most n rows that pass
pub record Reached {S : Type 0} (f : Running S) (n : ℕ) (s : S) : Type 0 where
  pub seen : List Row
  pub few : length seen ≤ n
  pub pass : AllByRecursion Passes seen
  pub is : s ≡ after f seen

-- figures that come to at most so much for each row that passes
abbrev pub FiguresBounded : {S : Type 0} → Running S → ℕ → Type 0
FiguresBounded f most = (rs : List Row) → AllByRecursion Passes rs → run f rs ≤ most * length rs

-- the walk of a pair after the first n rows of a sheet: its figures are those of the pair's rows among them
abbrev pub walk_at : {S : Type 0} → Running S → Pair → List Row → ℕ → Walk S
walk_at f pair rs n =
    record { figures = after f (pair_rows pair.coordinator pair.resource (take n rs)); pair = pair; next = n }

-- a sum over the rows of these kinds
abbrev pub summing : (Row → Bool) → (Row → ℕ) → Running ℕ
summing kinds weight = record { start = 0; add = λ sum r. cond (kinds r) (sum + weight r) sum; total = λ sum. sum }

-- how many rows are of these kinds
abbrev pub counting_rows : (Row → Bool) → Running ℕ
counting_rows kinds = summing kinds (λ r. 1)

-- the sum of their absolute values
abbrev pub adding_up : (Row → Bool) → Running ℕ
adding_up kinds = summing kinds (λ r. unsigned_abs r.quantity)

-- the absolute value of their signed sum
abbrev pub netting : (Row → Bool) → Running ℤ
netting kinds = record { start = pos 0; add = λ sum r. cond (kinds r) (sum +ℤ r.quantity) sum; total = unsigned_abs }

-- figures that start anew wherever the field changes, and are summed
abbrev pub grouped : {S K : Type 0} → (Row → ℕ) → ℕ → Running S → Running (Group S K)
grouped field least f = record {
  start = record { closed = 0; current = least; inside = f.start; field = record {} };
  add = λ g r. cond (field r == g.current)
      (record { closed = g.closed; current = g.current; inside = f.add g.inside r; field = g.field })
      (record { closed = g.closed + f.total g.inside; current = field r; inside = f.add f.start r; field = g.field });
  total = λ g. g.closed + f.total g.inside;
}

abbrev pub hour_by_hour : {S : Type 0} → Running S → Running (Group S ByHour)
hour_by_hour f = grouped (λ r. r.key.hour) 1 f

abbrev pub interval_by_interval : {S : Type 0} → Running S → Running (Group S ByInterval)
interval_by_interval f = grouped (λ r. r.key.interval) 0 f

abbrev pub part_by_part : {S : Type 0} → Running S → Running (Group S ByPart)
part_by_part f = grouped (λ r. r.key.part) 0 f

-- ---- Market Services

-- the net energy of an interval
abbrev pub energy_figures : Running IntervalEnergy
energy_figures = record {
  start = record { day_ahead = pos 0; hasp = pos 0; real_time = pos 0 };
  add = λ a r. record {
    day_ahead = (netting (only 1)).add a.day_ahead r;
    hasp = (netting (only 2)).add a.hasp r;
    real_time = (netting (from_to 3 7)).add a.real_time r;
  };
  total = λ a. unsigned_abs a.day_ahead + (unsigned_abs a.hasp + unsigned_abs a.real_time);
}

abbrev pub balance_figures : Running IntervalBalance
balance_figures = record {
  start = record { net = pos 0 };
  add = λ a r. record { net = (netting (only 8)).add a.net r };
  total = λ a. unsigned_abs a.net;
}

-- the figures of an hour: energy less balance, not below zero, and the awards
abbrev pub hour_figures : Running HourEnergy
hour_figures = record {
  start = record { energy = (interval_by_interval energy_figures).start; balance = (interval_by_interval balance_figures).start; awards = 0 };
  add = λ a r. record {
    energy = (interval_by_interval energy_figures).add a.energy r;
    balance = (interval_by_interval balance_figures).add a.balance r;
    awards = (adding_up (from_to 9 14)).add a.awards r;
  };
  total = λ a. ((interval_by_interval energy_figures).total a.energy - (interval_by_interval balance_figures).total a.balance) + a.awards;
}

abbrev pub market_figures : Running (Group HourEnergy ByHour)
market_figures = hour_by_hour hour_figures

-- ---- System Operations

-- metered energy and TOR balance of one part
abbrev pub meter_figures : Running Meter
meter_figures = record {
  start = record { metered = pos 0; balance = pos 0 };
  add = λ a r. record { metered = (netting (only 20)).add a.metered r; balance = (netting (only 8)).add a.balance r };
  total = λ a. unsigned_abs (a.metered -ℤ a.balance);
}

abbrev pub system_figures : Running (Group (Group (Group Meter ByPart) ByInterval) ByHour)
system_figures = hour_by_hour (interval_by_interval (part_by_part meter_figures))

-- ---- Bid Segment

-- bids and self-schedules of an hour, in the day-ahead and the real-time market
abbrev pub bid_figures : Running HourBids
bid_figures = record {
  start = record { bids = 0; schedules = 0; real_time_bids = 0; real_time_schedules = 0 };
  add = λ a r. record {
    bids = (counting_rows (nonzero (only 30))).add a.bids r;
    schedules = (counting_rows (nonzero (only 31))).add a.schedules r;
    real_time_bids = (counting_rows (nonzero (only 32))).add a.real_time_bids r;
    real_time_schedules = (counting_rows (nonzero (only 33))).add a.real_time_schedules r;
  };
  total = λ a. segments a.bids a.schedules + segments a.real_time_bids a.real_time_schedules;
}

-- the hours' bids, and the ancillary and virtual ones
abbrev pub segment_figures : Running DayBids
segment_figures = record {
  start = record { hours = (hour_by_hour bid_figures).start; other_bids = 0 };
  add = λ a r. record { hours = (hour_by_hour bid_figures).add a.hours r; other_bids = (counting_rows (nonzero (from_to 34 35))).add a.other_bids r };
  total = λ a. (hour_by_hour bid_figures).total a.hours + a.other_bids;
}

-- ---- TOR and trade fee

abbrev pub tor_figures : Running SupplyDemand
tor_figures = record {
  start = record { supply = 0; demand = 0 };
  add = λ a r. record { supply = (adding_up (only 50)).add a.supply r; demand = (adding_up (only 51)).add a.demand r };
  total = λ a. min a.supply a.demand;
}

abbrev pub trade_figures : Running TradeSides
trade_figures = record {
  start = record { sides = 0 };
  add = λ a r. record { sides = (counting_rows (only 40)).add a.sides r };
  total = λ a. a.sides;
}
