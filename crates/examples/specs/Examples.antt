-- The worked examples in one table: charges, concessions and years.
use Rattle.std.specs.Prelude.{List, [], ◌∷◌, ◌++◌, map}
use Rattle.std.specs.List.{AllByRecursion}
use Rattle.charges.specs.Examples.{Example as ChargeExample, Holds as ChargesHold, examples as worked_charges}
use Rattle.concessions.specs.Examples.{Example as ConcessionExample, Holds as ConcessionsHold, examples as worked_concessions}
use Rattle.year.specs.Examples.{Example as YearExample, Holds as YearHolds, table as worked_years}

pub data Example : Type 0 where
  charge : ChargeExample → Example
  concession : ConcessionExample → Example
  year : YearExample → Example

abbrev pub Holds : Example → Type 0
Holds (charge e) = ChargesHold (e ∷ [])
Holds (concession e) = ConcessionsHold (e ∷ [])
Holds (year e) = YearHolds e

abbrev pub table : List Example
table = map charge worked_charges ++ (map concession worked_concessions ++ map year worked_years)

abbrev pub WorkedExamples : Type 0
WorkedExamples = AllByRecursion Holds table
