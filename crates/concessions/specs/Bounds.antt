-- Each concession keeps the bound of the quantity below.
use Rattle.std.specs.Prelude.{ℕ, ◌-◌, ◌*◌, ◌/◌, ◌≤◌, Bool, true, false, cond, List, ◌==◌, slice_index}
use Rattle.std.proofs.Common.{arith, mul-le-mul_left}
use Rattle.charges.specs.Rules.{Bounded}
use Rattle.concessions.specs.declared.allowances.Allowance.{Allowance}
use Rattle.concessions.specs.Concessions.{Quantity, excluded, grandfathered, ramped_in}

pub excluded_bounded : (marks : List ℕ) (below : Quantity) → Bounded below → Bounded (excluded marks below)
excluded_bounded marks below h coordinator resource rs p = go (slice_index marks coordinator == 1) (h coordinator resource rs p)
  where
    go : (b : Bool) {x most : ℕ} → x ≤ most → cond b 0 x ≤ most
    go true l = omega arith
    go false l = l

pub grandfathered_bounded : (entries : List Allowance) (below : Quantity) → Bounded below → Bounded (grandfathered entries below)
grandfathered_bounded entries below h coordinator resource rs p = let l = h coordinator resource rs p in omega arith

part_le : (x part : ℕ) → part ≤ 100 → x * part / 100 ≤ x
part_le x part h = let l = mul-le-mul_left x h in omega arith

pub ramped_in_bounded : (percents : List ℕ) (below : Quantity) → Bounded below → Bounded (ramped_in percents below)
ramped_in_bounded percents below h coordinator resource rs p =
    let l = h coordinator resource rs p in
    let part = part_le (below coordinator resource rs) (100 - slice_index percents coordinator) (omega arith) in
    omega arith
