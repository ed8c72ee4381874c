use Rattle.std.proofs.Common.{refl}
use Rattle.std.proofs.lemmas.Result.{err_from_is_err_and}
use Rattle.yearbook.proofs.Taken.{taken_refused, taken_accepted}
use Rattle.yearbook.proofs.book.YearBook.assess.Goals as goal

pub returns-in_err-rest : goal.returns-in_err-rest
returns-in_err-rest c =
    let p = err_from_is_err_and c.from_residual.result c.from_residual.ensures.1 in
    record { taken = rw (p.1, p.2) (taken_refused _ _ tt _ c.in_err-rest.ensures.asked); unaltered = rw p.1 refl }

pub charge_all-requires : goal.charge_all-requires
charge_all-requires c = let o = c.in_ok-rest.ensures.rest in record { rest = o.1; accepted = o.0 }

pub returns : goal.returns
returns c = record { taken = taken_accepted _ _ tt _ c.in_ok-rest.ensures.rest.0 c.charge_all.ensures; unaltered = tt }
