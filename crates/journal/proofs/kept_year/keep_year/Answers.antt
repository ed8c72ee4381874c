use Rattle.std.proofs.Common.{map, ap, ◌∙◌}
use Rattle.std.proofs.lemmas.Result.{err_from_is_err_and}
use Rattle.questions.proofs.Asked.{ok_answer, err_answer}
use Rattle.year.specs.Terms.{terms_of, Terms}
use Rattle.yearbook.specs.View.{book_of}
use Rattle.journal.specs.Entries.{call_of, written}
use Rattle.journal.proofs.Kept.{kept_opening, kept_refused, answers_opening, answers_refused}
use Rattle.journal.proofs.kept_year.keep_year.Goals as goal

pub returns-in_err-open_year : goal.returns-in_err-open_year
returns-in_err-open_year g c =
    let t : Terms = terms_of c.args.terms.demands.now c.args.terms.flags.now in
    let calls = map (call_of g.R.ChargeRule.code g.R.ChargeRule.quantity) c.args.entries.now in
    let p = err_from_is_err_and c.from_residual.result c.from_residual.ensures.1 in
    let e = c.in_err-open_year.ensures.opened in
    let refused = err_answer _ tt _ e in
    record {
      opened = rw (p.1, p.2) e;
      unaltered = rw p.1 c.in_err-open_year.ensures.unaltered;
      law = kept_refused t calls (book_of c.args.book.now) _ refused _ c.in_err-open_year.ensures.law;
      answered = answers_refused t calls (book_of c.args.book.now) _ refused _;
    }

pub returns : goal.returns
returns g c =
    let t : Terms = terms_of c.args.terms.demands.now c.args.terms.flags.now in
    let calls = map (call_of g.R.ChargeRule.code g.R.ChargeRule.quantity) c.args.entries.now in
    let o = c.in_ok-open_year.ensures in
    let ok = ok_answer _ tt tt o.opened in
    record {
      opened = o.opened;
      unaltered = tt;
      law = kept_opening t calls (book_of c.args.book.now) ok _ _ o.law c.enter_all.ensures.law;
      answered = c.enter_all.ensures.answered ∙ ap (written _) (answers_opening t calls (book_of c.args.book.now) ok _ o.law);
    }
