-- The book of the model that the code's book holds.
use Rattle.std.specs.Prelude.{ℕ, Bool, false, List, [], ℤ, ◌+ℤ◌, Option, slice_index_or, slice_set}
use Rattle.yearbook.specs.declared.book.YearBook.{YearBook}
use Rattle.yearbook.specs.declared.coordinator.Coordinator.{Coordinator}
use Rattle.yearbook.specs.Coordinators.{terms_in, markets, rcs}
use Rattle.year.specs.Market.{market_balance}
use Rattle.year.specs.Book.{Book, opened}

-- the marks of each day, by code
abbrev pub posted_in : List (List Bool) → ℕ → ℕ → Bool
posted_in days code day = slice_index_or (slice_index_or days day []) code false

abbrev pub view : List Coordinator → List (List Bool) → Option ℕ → Book
view coordinators posted charge = record {
  terms = terms_in coordinators;
  market = record { balances = markets coordinators; posted = posted_in posted };
  rc = record { balances = rcs coordinators; charge = charge };
}

abbrev pub book_of : YearBook → Book
book_of book = view book.coordinators.list.items book.posted book.charge

-- a book not yet opened has no coordinators
abbrev pub unopened : Book
unopened = opened (record { demands = []; flags = [] })

-- the book with a coordinator's market balance moved by an amount
abbrev pub with_market : Book → ℕ → ℤ → Book
with_market b coordinator amount = record {
  terms = b.terms;
  market = record { balances = slice_set b.market.balances coordinator (market_balance b.market coordinator +ℤ amount); posted = b.market.posted };
  rc = b.rc;
}
