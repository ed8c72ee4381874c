-- A charge rule's meaning, what is owed of it, and what it bills a coordinator: quantity and line.
use Rattle.std.specs.Prelude.{ℕ, ◌+◌, ◌*◌, ◌/◌, ◌≤◌, List, map, length}
use Rattle.std.specs.List.{range_with_len}
use Rattle.sheet.specs.declared.row.Row.{Row}
use Rattle.sheet.specs.Rows.{own_rows, resource_rows}
use Rattle.sheet.specs.Sheets.{PairRows}
use Rattle.charges.specs.Sums.{over}

-- a code, and a charge quantity for each coordinator, resource and list of the pair's rows
pub record Meaning : Type 0 where
  pub code : ℕ
  pub quantity : ℕ → ℕ → List Row → ℕ

abbrev pub meaning : ℕ → (ℕ → ℕ → List Row → ℕ) → Meaning
meaning code quantity = record { code = code; quantity = quantity }

-- at most 400,000,000 for each row, of rows that an accepted sheet can have
abbrev pub Bounded : (ℕ → ℕ → List Row → ℕ) → Type 0
Bounded quantity = (coordinator resource : ℕ) (rs : List Row) → PairRows coordinator resource rs → quantity coordinator resource rs ≤ 400000000 * length rs

-- a coordinator's quantity by its own rows: the sum over the resources
unfoldable pub quantity_of : Meaning → ℕ → List Row → ℕ
quantity_of m coordinator own = over (range_with_len 0 256) (λ resource. m.quantity coordinator resource (resource_rows resource own))

-- a charge quantity at a rate, in cents, to the nearest cent, a half up
unfoldable pub line : ℕ → ℕ → ℕ
line quantity rate = (quantity * rate + 5000000) / 10000000

-- the line of a coordinator, by the rows of a sheet
unfoldable pub line_of : Meaning → ℕ → List Row → ℕ → ℕ
line_of m rate rs coordinator = line (quantity_of m coordinator (own_rows coordinator rs)) rate

-- the lines of the first n coordinators
abbrev pub lines : ℕ → Meaning → ℕ → List Row → List ℕ
lines n m rate rs = map (line_of m rate rs) (range_with_len 0 n)
