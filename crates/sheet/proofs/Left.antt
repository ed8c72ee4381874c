-- What is left of a sheet's rows, from a row on, and in a loop over them.
use Rattle.std.proofs.Common.{◌≡◌, ℕ, suc, ◌+◌, ◌<◌, ◌≤◌, Some, List, [], ◌∷◌, ◌++◌, length, drop, sym, ap, ◌∙◌, subst, add-one, arith, drop-cons}
use Rattle.std.specs.Iterator.{YieldsFirst, Yields}
use Rattle.std.specs.List.{All}
use Rattle.std.proofs.Math.ListN.{drop_of_length-le}
use Rattle.sheet.specs.declared.row.Row.{Row}
use Rattle.sheet.specs.declared.rows.Rows.{Rows}
use Rattle.sheet.specs.Left.{rows_left}
use Rattle.sheet.specs.Rows.{row_count, row_at, rows}
use Rattle.sheet.specs.Sheets.{Passes}
use Rattle.sheet.proofs.Pairs.{length_rows, row_by_place, no_row}

pub none_left_from : (bytes : List ℕ) (n : ℕ) → row_count bytes ≤ n → drop n (rows bytes) ≡ []
none_left_from bytes n h = drop_of_length-le (rows bytes) (omega (arith, length_rows bytes))

pub row_left : (bytes : List ℕ) (n : ℕ) → n < row_count bytes → drop n (rows bytes) ≡ row_at bytes n ∷ drop (n + 1) (rows bytes)
row_left bytes n h =
    let inside : n < length (rows bytes) = omega (arith, length_rows bytes) in
    drop-cons (rows bytes) n no_row inside
    ∙ ap (λ row. row ∷ drop (suc n) (rows bytes)) (row_by_place bytes n no_row h)
    ∙ ap (λ m. row_at bytes n ∷ drop m (rows bytes)) (sym (add-one n))

-- the rows read so far, and those left
pub rows_so_far : (read : List Row) (all left : Rows) → Yields (YieldsFirst rows_left) all read left → rows_left all ≡ read ++ rows_left left
rows_so_far [] all left y = ap rows_left y
rows_so_far (row ∷ read) all left y = y.1 ∙ ap (λ rs. row ∷ rs) (rows_so_far read y.0 left y.2)

middle : (read : List Row) (row : Row) (left : List Row) → All Passes (read ++ row ∷ left) → Passes row
middle [] row left h = h 0 row (omega arith)
middle (first ∷ read) row left h = middle read row left (λ k d l. h (suc k) d (omega arith))

-- each row read passes
pub row_read_passes : (read : List Row) (all left after : Rows) (row : Row) → All Passes (rows_left all) → Yields (YieldsFirst rows_left) all read left → YieldsFirst rows_left left (Some row) after → Passes row
row_read_passes read all left after row h y e = middle read row (rows_left after) (subst (All Passes) (rows_so_far read all left y ∙ ap (λ rs. read ++ rs) e) h)
