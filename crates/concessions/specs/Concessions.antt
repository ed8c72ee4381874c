-- The three concessions over the charge quantity below, and the questions 18 and 19 of their entries.
use Rattle.std.specs.Prelude.{◌≡◌, ℕ, ◌+◌, ◌-◌, ◌*◌, ◌/◌, Bool, false, cond, ◌&&◌, ◌||◌, List, [], ◌∷◌, length, None, Option, ◌==◌, nat_le, nat_lt, slice_index}
use Rattle.questions.specs.Questions.{Refusal, ask}
use Rattle.sheet.specs.declared.row.Row.{Row}
use Rattle.concessions.specs.declared.allowances.Allowance.{Allowance}
use Rattle.concessions.specs.declared.allowances.Allowances.{Allowances}

-- a charge quantity for each coordinator, resource and list of the pair's rows
abbrev pub Quantity : Type 0
Quantity = ℕ → ℕ → List Row → ℕ

-- ---- the look-up of an allowance

-- in no order that is promised
abbrev pub listed : Allowances → List Allowance
listed a = a.entries.items

abbrev pub lists : ℕ → ℕ → Allowance → Bool
lists coordinator resource a = a.pair.coordinator == coordinator && a.pair.resource == resource

abbrev pub is_listed : ℕ → ℕ → List Allowance → Bool
is_listed coordinator resource [] = false
is_listed coordinator resource (a ∷ entries) = lists coordinator resource a || is_listed coordinator resource entries

-- zero where the pair is not listed
abbrev pub allowance_of : ℕ → ℕ → List Allowance → ℕ
allowance_of coordinator resource [] = 0
allowance_of coordinator resource (a ∷ entries) = cond (lists coordinator resource a) a.quantity (allowance_of coordinator resource entries)

-- ---- the concessions

abbrev pub excluded : List ℕ → Quantity → Quantity
excluded marks below coordinator resource rs = cond (slice_index marks coordinator == 1) 0 (below coordinator resource rs)

abbrev pub grandfathered : List Allowance → Quantity → Quantity
grandfathered entries below coordinator resource rs = below coordinator resource rs - allowance_of coordinator resource entries

abbrev pub ramped_in : List ℕ → Quantity → Quantity
ramped_in percents below coordinator resource rs = below coordinator resource rs * (100 - slice_index percents coordinator) / 100

-- ---- their entries

-- coordinator and figure in range
unfoldable pub range_refusal : ℕ → ℕ → ℕ → Option Refusal → Option Refusal
range_refusal most coordinator figure rest = ask (nat_lt coordinator 64 && nat_le figure most) 18 0 rest

abbrev pub mark_refusal : ℕ → ℕ → Option Refusal
mark_refusal coordinator mark = range_refusal 1 coordinator mark None

abbrev pub percent_refusal : ℕ → ℕ → Option Refusal
percent_refusal coordinator percent = range_refusal 100 coordinator percent None

abbrev pub allowance_refusal : List Allowance → ℕ → ℕ → ℕ → Option Refusal
allowance_refusal entries coordinator resource allowance =
    range_refusal 819200000000 coordinator allowance
    (ask (is_listed coordinator resource entries || nat_lt (length entries) 128) 19 0 None)

-- the list after an entry for a pair, as the look-up and the number listed tell it
pub record Entered (coordinator resource allowance : ℕ) (before after : List Allowance) : Type 0 where
  pub allowed : allowance_of coordinator resource after ≡ allowance
  pub others_allowed : (c r : ℕ) → (coordinator == c && resource == r) ≡ false → allowance_of c r after ≡ allowance_of c r before
  pub others_listed : (c r : ℕ) → is_listed c r after ≡ ((coordinator == c && resource == r) || is_listed c r before)
  pub number : length after ≡ cond (is_listed coordinator resource before) (length before) (length before + 1)

-- two lists that no look-up tells apart
pub record SameAllowances (one other : List Allowance) : Type 0 where
  pub allowances : (c r : ℕ) → allowance_of c r one ≡ allowance_of c r other
  pub pairs : (c r : ℕ) → is_listed c r one ≡ is_listed c r other
  pub number : length one ≡ length other

-- so an entry leaves one list, but for its order
abbrev pub EnteredDecides : Type 0
EnteredDecides = (coordinator resource allowance : ℕ) (before one other : List Allowance) → Entered coordinator resource allowance before one → Entered coordinator resource allowance before other → SameAllowances one other
