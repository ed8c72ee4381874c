-- An amount spread over weights, so that no cent is lost: each share, and the law of spreading.
use Rattle.std.specs.Prelude.{◌≡◌, ℕ, zero, suc, ◌+◌, ◌-◌, ◌*◌, ◌/◌, ◌<◌, ◌⊎◌, List, map, length, take, slice_index}
use Rattle.std.specs.List.{range_with_len}
use Rattle.charges.specs.Sums.{total}

-- rounded down; zero where there is nothing to divide by
unfoldable pub quotient : ℕ → ℕ → ℕ
quotient product zero = 0
quotient product (suc whole) = product / suc whole

-- what the first k weights carry of the amount
abbrev pub carried : ℕ → List ℕ → ℕ → ℕ
carried amount weights k = quotient (amount * total (take k weights)) (total weights)

-- the share of the weight at place k, counted from 0
abbrev pub share : ℕ → List ℕ → ℕ → ℕ
share amount weights k = carried amount weights (suc k) - carried amount weights k

unfoldable pub spread : ℕ → List ℕ → List ℕ
spread amount weights = map (share amount weights) (range_with_len 0 (length weights))

pub record SpreadLaw (amount : ℕ) (weights : List ℕ) : Type 0 where
  pub long : length (spread amount weights) ≡ length weights
  -- each share is the difference of two floors
  pub floors : (k : ℕ) → k < length weights → 0 < total weights →
      slice_index (spread amount weights) k ≡ amount * total (take (suc k) weights) / total weights - amount * total (take k weights) / total weights
  -- no cent is lost
  pub whole : (amount ≡ 0) ⊎ (0 < total weights) → total (spread amount weights) ≡ amount
  -- under one cent from the exact proportion
  pub above : (k : ℕ) → k < length weights → 0 < total weights → amount * slice_index weights k < slice_index (spread amount weights) k * total weights + total weights
  pub below : (k : ℕ) → k < length weights → 0 < total weights → slice_index (spread amount weights) k * total weights < amount * slice_index weights k + total weights
  pub nothing : amount ≡ 0 → (k : ℕ) → slice_index (spread amount weights) k ≡ 0
  pub weightless : (k : ℕ) → slice_index weights k ≡ 0 → slice_index (spread amount weights) k ≡ 0

abbrev pub SpreadLawForAll : Type 0
SpreadLawForAll = (amount : ℕ) (weights : List ℕ) → SpreadLaw amount weights
