-- How large sums over rows are: each is at most a sum of the rows' own sizes.
use Rattle.std.specs.Prelude.{ℕ, ◌+◌, ◌*◌, ◌≤◌, Bool, true, false, cond, List, [], ◌∷◌, length, ℤ, ◌+ℤ◌, ◌-ℤ◌, filter, unsigned_abs}
use Rattle.std.proofs.Common.{arith}
use borrow.Author.Differences.{abs_is}
use Rattle.std.specs.List.{range_with_len, AllByRecursion}
use Rattle.std.proofs.ByRecursion.{All-weaker}
use Rattle.std.proofs.lemmas.Int.{ints}
use Rattle.sheet.specs.declared.row.Row.{Row}
use Rattle.sheet.specs.Sheets.{OfPair, PairRows, Passes}
use Rattle.sheet.proofs.Pairs.{quantity_range}
use Rattle.charges.specs.Sums.{over, over_z}
use Rattle.charges.specs.Charges.{at, net, gross, count}
use Rattle.charges.specs.SumsLemmas.{over_add, over_le, over_most, over_kept, over_ones, ones, passing, groups_le}

abbrev pub size : Row → ℕ
size r = unsigned_abs r.quantity

-- at most a sum over the rows
abbrev pub Under : (List Row → ℕ) → (Row → ℕ) → Type 0
Under q w = (rs : List Row) → q rs ≤ over rs w

pub groups_under : (field : Row → ℕ) (a n : ℕ) (q : List Row → ℕ) (w : Row → ℕ) → Under q w → Under (λ rs. over (range_with_len a n) (λ g. q (at field g rs))) w
groups_under field a n q w h rs = omega (arith, over_le (λ g. q (at field g rs)) (λ g. over (at field g rs) w) (λ g. h (at field g rs)) (range_with_len a n), groups_le field w a n rs)

pub both_under : (q q' : List Row → ℕ) (w w' : Row → ℕ) → Under q w → Under q' w' → Under (λ rs. q rs + q' rs) (λ r. w r + w' r)
both_under q q' w w' h h' rs = omega (arith, h rs, h' rs, over_add w w' rs)

triangle : (a b : ℤ) → unsigned_abs (a +ℤ b) ≤ unsigned_abs a + unsigned_abs b
triangle a b = omega (arith, ints, abs_is a, abs_is b, abs_is (a +ℤ b))

pub apart : (a b : ℤ) → unsigned_abs (a -ℤ b) ≤ unsigned_abs a + unsigned_abs b
apart a b = omega (arith, ints, abs_is a, abs_is b, abs_is (a -ℤ b))

over_z_under : (rs : List Row) → unsigned_abs (over_z rs (λ r. r.quantity)) ≤ over rs size
over_z_under [] = omega arith
over_z_under (r ∷ rs) = omega (arith, triangle r.quantity (over_z rs (λ x. x.quantity)), over_z_under rs)

pub net_under : (p : Row → Bool) → Under (λ rs. unsigned_abs (net p rs)) (passing p size)
net_under p rs = omega (arith, over_z_under (filter p rs), over_kept p size rs)

pub gross_under : (p : Row → Bool) → Under (gross p) (passing p size)
gross_under p rs = omega (arith, over_kept p size rs)

pub count_under : (p : Row → Bool) → Under (count p) (passing p ones)
count_under p rs = omega (arith, over_ones (filter p rs), over_kept p ones rs)

-- ---- rows that pass

pub sizes_low : (rs : List Row) → AllByRecursion Passes rs → over rs size ≤ 4000000 * length rs
sizes_low rs h = over_most size 4000000 rs (All-weaker Passes (λ r. size r ≤ 4000000) quantity_range rs h)

pub pair_sizes_low : (coordinator resource : ℕ) (rs : List Row) → PairRows coordinator resource rs → over rs size ≤ 4000000 * length rs
pair_sizes_low coordinator resource rs h = sizes_low rs (All-weaker (OfPair coordinator resource) Passes (λ r p. p.passes) rs h.each)

pub passing_le : (b : Bool) (m : ℕ) → cond b m 0 ≤ m
passing_le true m = omega arith
passing_le false m = omega arith

pub net_low : (p : Row → Bool) (rs : List Row) → AllByRecursion Passes rs → unsigned_abs (net p rs) ≤ 4000000 * length rs
net_low p rs h = omega (arith, net_under p rs, over_le (passing p size) size (λ r. passing_le (p r) (size r)) rs, sizes_low rs h)

pub gross_low : (p : Row → Bool) (rs : List Row) → AllByRecursion Passes rs → gross p rs ≤ 4000000 * length rs
gross_low p rs h = omega (arith, gross_under p rs, over_le (passing p size) size (λ r. passing_le (p r) (size r)) rs, sizes_low rs h)

pub count_low : (p : Row → Bool) (rs : List Row) → count p rs ≤ length rs
unfolding ones
count_low p rs = omega (arith, count_under p rs, over_le (passing p ones) ones (λ r. passing_le (p r) 1) rs, over_ones rs)

-- a hundred for each kWh
pub hundredfold : {x y z : ℕ} (m : ℕ) → x ≤ y → y ≤ z → z ≤ 4000000 * m → 100 * x ≤ 400000000 * m
hundredfold m a b c = omega arith
