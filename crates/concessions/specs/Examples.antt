-- Worked concessions: what each makes of a charge quantity.
use Rattle.std.specs.Prelude.{◌≡◌, ℕ, List, [], ◌∷◌, replicate, slice_set}
use Rattle.concessions.specs.declared.allowances.Allowance.{Allowance}
use Rattle.concessions.specs.Concessions.{Quantity, excluded, grandfathered, ramped_in}

-- a table of zeros but for coordinator 3
abbrev pub only_3 : ℕ → List ℕ
only_3 figure = slice_set (replicate 64 0) 3 figure

-- an allowance of 30,000,000 for coordinator 3 and resource 7
abbrev pub one_listed : List Allowance
one_listed = record { pair = record { coordinator = 3; resource = 7 }; quantity = 30000000 } ∷ []

pub record Example : Type 0 where
  pub concession : Quantity → Quantity
  pub coordinator : ℕ
  pub resource : ℕ
  pub whole : ℕ
  pub told : ℕ

abbrev pub Holds : List Example → Type 0
Holds [] = Unit {0}
Holds (e ∷ es) = (e.concession (λ coordinator resource rs. e.whole) e.coordinator e.resource [] ≡ e.told) × Holds es

abbrev pub examples : List Example
examples =
    record { concession = ramped_in (only_3 95); coordinator = 3; resource = 7; whole = 100000000; told = 5000000 }
    ∷ record { concession = ramped_in (only_3 95); coordinator = 4; resource = 7; whole = 100000000; told = 100000000 }
    ∷ record { concession = ramped_in (only_3 95); coordinator = 3; resource = 7; whole = 19; told = 0 }
    ∷ record { concession = excluded (only_3 1); coordinator = 3; resource = 7; whole = 100000000; told = 0 }
    ∷ record { concession = excluded (only_3 1); coordinator = 4; resource = 7; whole = 100000000; told = 100000000 }
    ∷ record { concession = grandfathered one_listed; coordinator = 3; resource = 7; whole = 100000000; told = 70000000 }
    ∷ record { concession = grandfathered one_listed; coordinator = 3; resource = 8; whole = 100000000; told = 100000000 }
    ∷ record { concession = grandfathered one_listed; coordinator = 3; resource = 7; whole = 20000000; told = 0 }
    ∷ record { concession = λ below. ramped_in (only_3 95) (grandfathered one_listed below); coordinator = 3; resource = 7; whole = 100000000; told = 3500000 }
    ∷ []
