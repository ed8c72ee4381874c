-- The question, layer and place of each fault of a sheet.
use Rattle.questions.specs.Questions.{Refusal, no_at}
use Rattle.sheet.specs.declared.fault.RowFault.{RowFault}
use Rattle.sheet.specs.declared.fault.RowFault.TheVariants.{NotAbove, OutOfRange, TooLarge}
use Rattle.sheet.specs.declared.fault.SheetFault.{SheetFault}
use Rattle.sheet.specs.declared.fault.SheetFault.TheVariants.{Count, Length, Row}

abbrev pub row_fault : RowFault → Refusal
row_fault (NotAbove row) = no_at 3 row
row_fault (OutOfRange row) = no_at 4 row
row_fault (TooLarge row) = no_at 5 row

abbrev pub sheet_fault : SheetFault → Refusal
sheet_fault Count = no_at 1 0
sheet_fault Length = no_at 2 0
sheet_fault (Row fault) = row_fault fault
