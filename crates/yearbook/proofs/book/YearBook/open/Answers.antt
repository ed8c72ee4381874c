use Rattle.std.proofs.Common.{refl, arith}
use Rattle.std.proofs.lemmas.Result.{err_from_is_err_and}
use Rattle.questions.proofs.Asked.{ok_answer}
use Rattle.year.specs.Terms.{terms_of, Terms}
use Rattle.yearbook.proofs.Opening.{opened_owed, opened_is}
use Rattle.yearbook.proofs.Taken.{refused_leaves, accepted_leaves}
use Rattle.yearbook.proofs.book.YearBook.open.Goals as goal

pub returns-in_err-check_terms : goal.returns-in_err-check_terms
returns-in_err-check_terms c =
    let p = err_from_is_err_and c.from_residual.result c.from_residual.ensures.1 in
    let e = c.in_err-check_terms.ensures in
    record { answered = rw (p.1, p.2) e; left = refused_leaves _ tt _ _ _ e; unaltered = rw p.1 refl }

pub coordinators_of-self-requires : goal.coordinators_of-self-requires
coordinators_of-self-requires c = ok_answer _ tt tt c.in_ok-check_terms.ensures

pub invariant_of-self : goal.invariant_of-self
invariant_of-self c =
    let t : Terms = terms_of c.args.terms.demands.now c.args.terms.flags.now in
    let ok = ok_answer _ tt tt c.in_ok-check_terms.ensures in
    let e = c.coordinators_of-self.ensures in
    let cs = c.coordinators_of-self.result.list.items in
    record {
      owed = opened_owed t ok cs e.terms e.markets e.rcs;
      limited = omega arith;
    }

pub returns : goal.returns
returns c =
    let t : Terms = terms_of c.args.terms.demands.now c.args.terms.flags.now in
    let ok = ok_answer _ tt tt c.in_ok-check_terms.ensures in
    let e = c.coordinators_of-self.ensures in
    record { answered = c.in_ok-check_terms.ensures; left = accepted_leaves _ _ _ _ ok (opened_is t ok _ e.terms e.markets e.rcs _ c.nothing_posted-self.ensures); unaltered = tt }
