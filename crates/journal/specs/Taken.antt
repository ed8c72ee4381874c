-- What a book is opened with, and what taking an entry does to it.
use Rattle.std.specs.Prelude.{Result}
use Rattle.questions.specs.Questions.{told}
use Rattle.year.specs.Book.{Call}
use Rattle.year.specs.Terms.{Terms, terms_of}
use Rattle.yearbook.specs.declared.book.YearBook.{YearBook}
use Rattle.yearbook.specs.declared.fault.BookFault.{BookFault}
use Rattle.yearbook.specs.declared.terms.Terms.{Terms as GivenTerms}
use Rattle.yearbook.specs.Faults.{book_fault}
use Rattle.yearbook.specs.Taken.{Taken}
use Rattle.yearbook.specs.View.{book_of}
use Rattle.journal.specs.declared.entry.Answer.{Answer}
use Rattle.journal.specs.Entries.{answer_to}

-- the terms that are given in the code
abbrev pub given : GivenTerms → Terms
given terms = terms_of terms.demands.now terms.flags.now

-- the book took the entry's call: the entry is answered what the call answers, or its refusal
abbrev pub EntryTaken : YearBook → Call → YearBook → Result Answer BookFault → Type 0
EntryTaken before call after answer = Taken (book_of before) call (answer_to (book_of before) call) (book_of after) (told book_fault answer)
