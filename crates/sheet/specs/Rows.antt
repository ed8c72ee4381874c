-- What the bytes of a day sheet say: its row count and its rows; one coordinator's rows and one pair's.
use Rattle.std.specs.Prelude.{ℕ, ◌+◌, ◌*◌, ◌≤◌, Bool, ◌&&◌, ◌||◌, List, map, ℤ, filter, ◌==◌, nat_eq, nat_lt, slice_index}
use Rattle.std.specs.Int.{w32}
use Rattle.std.proofs.Common.{to_z}
use Rattle.std.specs.List.{range_with_len}
use Rattle.sheet.specs.declared.row.Key.{Key}
use Rattle.sheet.specs.declared.row.Row.{Row}

abbrev pub byte : List ℕ → ℕ → ℕ
byte bytes i = slice_index bytes i

-- how many rows the sheet says it has: two bytes, the high one first
abbrev pub row_count : List ℕ → ℕ
row_count bytes = byte bytes 0 * 256 + byte bytes 1

-- the key in the six bytes from i
abbrev pub key_at : List ℕ → ℕ → Key
key_at bytes i = record {
  coordinator = byte bytes i;
  resource = byte bytes (i + 1);
  hour = byte bytes (i + 2);
  interval = byte bytes (i + 3);
  part = byte bytes (i + 4);
  kind = byte bytes (i + 5);
}

-- the four bytes from i, the highest first, as a number of 32 bits in two's complement
abbrev pub quantity_at : List ℕ → ℕ → ℤ
quantity_at bytes i = to_z w32 (byte bytes i * 16777216 + byte bytes (i + 1) * 65536 + byte bytes (i + 2) * 256 + byte bytes (i + 3))

-- row i: the keys stand after the count, and the quantities after the keys
abbrev pub row_at : List ℕ → ℕ → Row
row_at bytes i = record {
  key = key_at bytes (2 + 6 * i);
  quantity = quantity_at bytes (2 + 6 * row_count bytes + 4 * i);
}

abbrev pub rows : List ℕ → List Row
rows bytes = map (row_at bytes) (range_with_len 0 (row_count bytes))

-- the part is a byte, as it is on every sheet
abbrev pub PartIsByte : Row → Type 0
PartIsByte r = r.key.part ≤ 255

-- one coordinator's rows, in order
abbrev pub own_rows : ℕ → List Row → List Row
own_rows coordinator rs = filter (λ r. nat_eq r.key.coordinator coordinator) rs

-- of these, one resource's
abbrev pub resource_rows : ℕ → List Row → List Row
resource_rows resource rs = filter (λ r. nat_eq r.key.resource resource) rs

-- the rows of the pair of a coordinator and a resource, in order
abbrev pub pair_rows : ℕ → ℕ → List Row → List Row
pair_rows coordinator resource rs = resource_rows resource (own_rows coordinator rs)

-- the row is one of the pair's
abbrev pub of_pair : ℕ → ℕ → Row → Bool
of_pair coordinator resource r = r.key.coordinator == coordinator && r.key.resource == resource

-- a row with the key stands before the pair's: under a lower coordinator, or the same one and a lower resource
abbrev pub key_before : ℕ → ℕ → Key → Bool
key_before coordinator resource key = nat_lt key.coordinator coordinator || (key.coordinator == coordinator && nat_lt key.resource resource)

abbrev pub before_pair : ℕ → ℕ → Row → Bool
before_pair coordinator resource r = key_before coordinator resource r.key
