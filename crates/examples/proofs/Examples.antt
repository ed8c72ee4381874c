-- The table of worked examples, from what each crate computes of its own.
use Rattle.std.proofs.Common.{List, [], ◌∷◌, ◌++◌, map}
use Rattle.std.specs.List.{AllByRecursion}
use Rattle.charges.specs.Examples.{Example as ChargeExample, Holds as ChargesHold, examples as worked_charges}
use Rattle.concessions.specs.Examples.{Example as ConcessionExample, Holds as ConcessionsHold, examples as worked_concessions}
use Rattle.year.specs.Examples.{Example as YearExample, Holds as YearHolds, table as worked_years}
use Rattle.charges.proofs.Examples.{examples_hold as charges_hold}
use Rattle.concessions.proofs.Examples.{examples_hold as concessions_hold}
use Rattle.year.proofs.Examples.{examples as years_hold}
use Rattle.examples.specs.Examples.{Example, charge, concession, year, Holds, WorkedExamples}

charges_in_front : (es : List ChargeExample) → ChargesHold es → (rest : List Example) → AllByRecursion Holds rest → AllByRecursion Holds (map charge es ++ rest)
charges_in_front [] h rest k = k
charges_in_front (e ∷ es) (quantity, cents, h) rest k = ((quantity, cents, tt), charges_in_front es h rest k)

concessions_in_front : (es : List ConcessionExample) → ConcessionsHold es → (rest : List Example) → AllByRecursion Holds rest → AllByRecursion Holds (map concession es ++ rest)
concessions_in_front [] h rest k = k
concessions_in_front (e ∷ es) (told, h) rest k = ((told, tt), concessions_in_front es h rest k)

years_all : (es : List YearExample) → AllByRecursion YearHolds es → AllByRecursion Holds (map year es)
years_all [] h = tt
years_all (e ∷ es) (balances, h) = (balances, years_all es h)

pub worked_examples : WorkedExamples
worked_examples =
    charges_in_front worked_charges charges_hold (map concession worked_concessions ++ map year worked_years)
    (concessions_in_front worked_concessions concessions_hold (map year worked_years) (years_all worked_years years_hold))
