-- What an accepted sheet holds, and what its rows keep to.
use Rattle.std.specs.Prelude.{◌≡◌, ℕ, true, List, [], ◌∷◌, Some, None, Result, MatchResult}
use Rattle.std.specs.List.{AllByRecursion}
use Rattle.sheet.specs.declared.fault.SheetFault.{SheetFault}
use Rattle.sheet.specs.declared.row.Row.{Row}
use Rattle.sheet.specs.declared.sheet.Sheet.{Sheet}
use Rattle.sheet.specs.Faults.{sheet_fault}
use Rattle.sheet.specs.Rows.{rows}
use Rattle.sheet.specs.Questions.{below, key_bytes, in_range, within, sheet_refusal}

abbrev pub sheet_rows : Sheet → List Row
sheet_rows s = rows s.bytes.now

-- the sheet in bytes that pass every question, or the first no
abbrev pub SheetOf : List ℕ → Result Sheet SheetFault → Type 0
SheetOf bytes read = MatchResult read (λ sheet. (sheet_refusal bytes ≡ None) × (sheet.bytes.now ≡ bytes)) (λ fault. sheet_refusal bytes ≡ Some (sheet_fault fault))

-- each row's key is below that of every later row
abbrev pub Ascending : List Row → Type 0
Ascending [] = Unit {0}
Ascending (r ∷ rs) = AllByRecursion (λ later. below (key_bytes r.key) (key_bytes later.key) ≡ true) rs × Ascending rs

-- a row that passes questions 4 and 5
pub record Passes (r : Row) : Type 0 where
  pub ranged : in_range r.key ≡ true
  pub bounded : within 4000000 r.quantity ≡ true

-- a row of the pair
pub record OfPair (coordinator resource : ℕ) (r : Row) : Type 0 where
  pub coordinator_is : r.key.coordinator ≡ coordinator
  pub resource_is : r.key.resource ≡ resource
  pub passes : Passes r

-- rows that an accepted sheet can have for the pair of a coordinator and a resource
pub record PairRows (coordinator resource : ℕ) (rs : List Row) : Type 0 where
  pub ascending : Ascending rs
  pub each : AllByRecursion (OfPair coordinator resource) rs
