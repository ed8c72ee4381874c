-- The five charge quantities, as sums over hours, intervals and parts.
use Rattle.std.specs.Prelude.{ℕ, ◌+◌, ◌-◌, ◌*◌, min, Bool, cond, not, ◌&&◌, List, length, ℤ, ◌-ℤ◌, filter, ◌==◌, nat_eq, nat_le, unsigned_abs}
use Rattle.std.specs.List.{range_with_len}
use Rattle.sheet.specs.declared.row.Row.{Row}
use Rattle.charges.specs.Sums.{over, over_z}

abbrev pub hours : List ℕ
hours = range_with_len 1 25

-- 0 to 12; 0 is an interval like the others
abbrev pub intervals : List ℕ
intervals = range_with_len 0 13

abbrev pub parts : List ℕ
parts = range_with_len 0 256

-- the rows where a field of the key has the value
abbrev pub at : (Row → ℕ) → ℕ → List Row → List Row
at field value rs = filter (λ r. nat_eq (field r) value) rs

abbrev pub by_hour : List Row → (List Row → ℕ) → ℕ
by_hour rs f = over hours (λ hour. f (at (λ r. r.key.hour) hour rs))

abbrev pub by_interval : List Row → (List Row → ℕ) → ℕ
by_interval rs f = over intervals (λ interval. f (at (λ r. r.key.interval) interval rs))

abbrev pub by_part : List Row → (List Row → ℕ) → ℕ
by_part rs f = over parts (λ part. f (at (λ r. r.key.part) part rs))

-- kinds: one, or from one to another
abbrev pub only : ℕ → Row → Bool
only kind r = r.key.kind == kind

abbrev pub from_to : ℕ → ℕ → Row → Bool
from_to low high r = nat_le low r.key.kind && nat_le r.key.kind high

-- of these, the rows that are not zero
abbrev pub nonzero : (Row → Bool) → Row → Bool
nonzero kinds r = kinds r && not (unsigned_abs r.quantity == 0)

-- of the rows of these kinds: their signed sum, the sum of their absolute values, and how many they are
abbrev pub net : (Row → Bool) → List Row → ℤ
net kinds rs = over_z (filter kinds rs) (λ r. r.quantity)

abbrev pub gross : (Row → Bool) → List Row → ℕ
gross kinds rs = over (filter kinds rs) (λ r. unsigned_abs r.quantity)

abbrev pub count : (Row → Bool) → List Row → ℕ
count kinds rs = length (filter kinds rs)

-- energy of an interval: day-ahead, HASP, real-time
abbrev pub energy : List Row → ℕ
energy rs = unsigned_abs (net (only 1) rs) + (unsigned_abs (net (only 2) rs) + unsigned_abs (net (from_to 3 7) rs))

abbrev pub tor_balance : List Row → ℕ
tor_balance rs = unsigned_abs (net (only 8) rs)

-- kWh of an hour: energy less TOR balance, not below zero, and the awards
abbrev pub hour_kwh : List Row → ℕ
hour_kwh rs = (by_interval rs energy - by_interval rs tor_balance) + gross (from_to 9 14) rs

unfoldable pub market_services : ℕ → ℕ → List Row → ℕ
market_services coordinator resource rs = 100 * by_hour rs hour_kwh

-- metered energy less TOR balance, where an absent row is zero
abbrev pub metered_less_balance : List Row → ℕ
metered_less_balance rs = unsigned_abs (net (only 20) rs -ℤ net (only 8) rs)

unfoldable pub system_operations : ℕ → ℕ → List Row → ℕ
system_operations coordinator resource rs = 100 * by_hour rs (λ hour. by_interval hour (λ interval. by_part interval metered_less_balance))

-- the segments of so many bids beside so many self-schedules
unfoldable pub segments : ℕ → ℕ → ℕ
segments bids schedules = cond (schedules == 0) bids (schedules + (bids - 1))

-- of an hour: the day-ahead market and the real-time market
abbrev pub hour_segments : List Row → ℕ
hour_segments rs =
    segments (count (nonzero (only 30)) rs) (count (nonzero (only 31)) rs)
    + segments (count (nonzero (only 32)) rs) (count (nonzero (only 33)) rs)

unfoldable pub bid_segment : ℕ → ℕ → List Row → ℕ
bid_segment coordinator resource rs = 100000 * (by_hour rs hour_segments + count (nonzero (from_to 34 35)) rs)

-- the smaller of supply and demand, under resource 0
unfoldable pub tor : ℕ → ℕ → List Row → ℕ
tor coordinator resource rs = cond (resource == 0) (100 * min (gross (only 50) rs) (gross (only 51) rs)) 0

unfoldable pub trade_fee : ℕ → ℕ → List Row → ℕ
trade_fee coordinator resource rs = 100000 * count (only 40) rs
