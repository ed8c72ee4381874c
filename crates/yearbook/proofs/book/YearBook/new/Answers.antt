use Rattle.yearbook.proofs.Views.{unopened_is}
use Rattle.yearbook.proofs.book.YearBook.new.Goals as goal

pub returns : goal.returns
returns c = unopened_is _ _ c.new.ensures c.nothing_posted.ensures
