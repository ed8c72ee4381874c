-- What is left of a sheet's rows.
use Rattle.std.specs.Prelude.{List, drop}
use Rattle.sheet.specs.declared.row.Row.{Row}
use Rattle.sheet.specs.declared.rows.Rows.{Rows}
use Rattle.sheet.specs.Rows.{rows}

abbrev pub rows_left : Rows → List Row
rows_left left = drop left.next (rows left.table.bytes.now)
