-- The question, layer and place of each fault of the book.
use Rattle.questions.specs.Questions.{Refusal, no_at}
use Rattle.sheet.specs.Faults.{sheet_fault}
use Rattle.yearbook.specs.declared.fault.BookFault.{BookFault}
use Rattle.yearbook.specs.declared.fault.BookFault.TheVariants.{Sheet, Lists, Terms, RateOrDay, UnknownCoordinator, Posted, MarketBalance, Coordinator, Amount, RcBalance, Assessed, Charge, NoCarrier}

abbrev pub book_fault : BookFault → Refusal
book_fault (Sheet fault) = sheet_fault fault
book_fault Lists = no_at 6 0
book_fault (Terms coordinator) = no_at 7 coordinator
book_fault RateOrDay = no_at 8 0
book_fault (UnknownCoordinator row) = no_at 9 row
book_fault Posted = no_at 10 0
book_fault (MarketBalance coordinator) = no_at 11 coordinator
book_fault Coordinator = no_at 12 0
book_fault Amount = no_at 13 0
book_fault RcBalance = no_at 14 0
book_fault Assessed = no_at 15 0
book_fault Charge = no_at 16 0
book_fault NoCarrier = no_at 17 0
