use Rattle.year.specs.Terms.{terms_of, Terms}
use Rattle.yearbook.specs.View.{book_of}
use Rattle.journal.proofs.Kept.{kept_by_opening}
use Rattle.journal.proofs.kept_year.open_year.Goals as goal

pub returns : goal.returns
returns c =
    let t : Terms = terms_of c.args.terms.demands.now c.args.terms.flags.now in
    record { opened = c.open.ensures.answered; unaltered = c.open.ensures.unaltered; law = kept_by_opening t (book_of c.args.book.now) _ c.open.ensures.left }
