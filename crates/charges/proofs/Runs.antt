-- What figures by hour, interval and part come to.
use Rattle.std.specs.Prelude.{◌≡◌, ℕ, ◌+◌, ◌<◌, ◌≤◌, List, [], ◌∷◌}
use Rattle.std.proofs.Common.{arith}
use Rattle.std.specs.List.{range_with_len}
use Rattle.std.proofs.ByRecursion.{All-weaker}
use Rattle.sheet.specs.Rows.{PartIsByte}
use Rattle.sheet.specs.declared.row.Row.{Row}
use Rattle.sheet.specs.Sheets.{Passes}
use Rattle.sheet.proofs.Pairs.{key_ranges}
use Rattle.charges.specs.Sums.{over}
use Rattle.charges.specs.Charges.{at, by_hour, by_interval, by_part}
use Rattle.charges.specs.Running.{Running, run, grouped, hour_by_hour, interval_by_interval, part_by_part}
use Rattle.charges.specs.declared.group.ByHour.{ByHour}
use Rattle.charges.specs.declared.group.ByInterval.{ByInterval}
use Rattle.charges.specs.declared.group.ByPart.{ByPart}
use Rattle.charges.proofs.Grouping.{grouping}
use Rattle.charges.proofs.Order.{InOrder, rising, in_order_at, from_hour}

-- figures by a field of the key that runs from least on
by_field : {P : Row → Type 0} {S : Type 0} (K : Type 0) (f : Running S) (field : Row → ℕ) (left : Row → List ℕ) (least n : ℕ) (q : List Row → ℕ) →
    f.total f.start ≡ 0 → 0 < n → ((r : Row) → P r → (least ≤ field r) × (field r < least + n)) →
    ((rs : List Row) → InOrder P left rs → run f rs ≡ q rs) →
    (rs : List Row) → InOrder P (λ r. field r ∷ left r) rs → run (grouped {K = K} field least f) rs ≡ over (range_with_len least n) (λ g. q (at field g rs))
by_field K f field left least n q nothing some range e rs h =
    grouping K f nothing field least n q rs
    (All-weaker _ _ (λ r w. (range r w).0) rs h.each)
    (All-weaker _ _ (λ r w. (range r w).1) rs h.each)
    (rising field left rs h) some (λ g. e (at field g rs) (in_order_at field left g rs h))

-- what is left of a key behind the hour, and behind the interval
abbrev pub from_interval : Row → List ℕ
from_interval r = r.key.interval ∷ r.key.part ∷ r.key.kind ∷ []

abbrev pub from_part : Row → List ℕ
from_part r = r.key.part ∷ r.key.kind ∷ []

-- rows that pass, by their property; figures that are nothing at their start
module _ (P : Row → Type 0) (passes : (r : Row) → P r → Passes r) {S : Type 0} (f : Running S) (q : List Row → ℕ) (nothing : f.total f.start ≡ 0) where
  pub by_hour_run : ((rs : List Row) → InOrder P from_interval rs → run f rs ≡ q rs) → (rs : List Row) → InOrder P from_hour rs → run (hour_by_hour f) rs ≡ by_hour rs q
  by_hour_run e rs h = by_field ByHour f (λ r. r.key.hour) from_interval 1 25 q nothing (omega arith) (λ r w. let g = key_ranges r (passes r w) in (omega arith, omega arith)) e rs h

  pub by_interval_run : ((rs : List Row) → InOrder P from_part rs → run f rs ≡ q rs) → (rs : List Row) → InOrder P from_interval rs → run (interval_by_interval f) rs ≡ by_interval rs q
  by_interval_run e rs h = by_field ByInterval f (λ r. r.key.interval) from_part 0 13 q nothing (omega arith) (λ r w. let g = key_ranges r (passes r w) in (omega arith, omega arith)) e rs h

  pub by_part_run : ((r : Row) → P r → PartIsByte r) → ((rs : List Row) → run f rs ≡ q rs) → (rs : List Row) → InOrder P from_part rs → run (part_by_part f) rs ≡ by_part rs q
  by_part_run byte e rs h = by_field ByPart f (λ r. r.key.part) (λ r. r.key.kind ∷ []) 0 256 q nothing (omega arith) (λ r w. let g = byte r w in (omega arith, omega arith)) (λ l _. e l) rs h
