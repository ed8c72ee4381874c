-- The coordinators of a book: each column of theirs, and each with an amount on one side.
use Rattle.std.specs.Prelude.{ℕ, ◌+◌, false, cond, List, [], ◌∷◌, map, ℤ, pos, ◌+ℤ◌}
use Rattle.year.specs.Terms.{Terms, terms_of}
use Rattle.yearbook.specs.declared.coordinator.Coordinator.{Coordinator}

-- a coordinator without demand, with nothing on either side
abbrev pub nobody : Coordinator
nobody = record { demand = 0; flagged = false; market = pos 0; rc = 0 }

abbrev pub demand_of : Coordinator → ℕ
demand_of coordinator = coordinator.demand

-- the flag as a number
abbrev pub flag_of : Coordinator → ℕ
flag_of coordinator = cond coordinator.flagged 1 0

abbrev pub market_of : Coordinator → ℤ
market_of coordinator = coordinator.market

abbrev pub rc_of : Coordinator → ℕ
rc_of coordinator = coordinator.rc

-- ---- the columns

abbrev pub demands : List Coordinator → List ℕ
demands coordinators = map demand_of coordinators

abbrev pub flags : List Coordinator → List ℕ
flags coordinators = map flag_of coordinators

abbrev pub terms_in : List Coordinator → Terms
terms_in coordinators = terms_of (demands coordinators) (flags coordinators)

abbrev pub markets : List Coordinator → List ℤ
markets coordinators = map market_of coordinators

abbrev pub rcs : List Coordinator → List ℕ
rcs coordinators = map rc_of coordinators

-- ---- one coordinator with an amount on one side

abbrev pub market_at : Coordinator → ℤ → Coordinator
market_at c balance = record { demand = c.demand; flagged = c.flagged; market = balance; rc = c.rc }

abbrev pub rc_at : Coordinator → ℕ → Coordinator
rc_at c balance = record { demand = c.demand; flagged = c.flagged; market = c.market; rc = balance }

abbrev pub rc_raised : Coordinator → ℕ → Coordinator
rc_raised c amount = rc_at c (c.rc + amount)

abbrev pub market_raised : Coordinator → ℕ → Coordinator
market_raised c amount = market_at c (c.market +ℤ pos amount)

-- each coordinator with its amount; the coordinators give the length
abbrev pub each_with : (Coordinator → ℕ → Coordinator) → List Coordinator → List ℕ → List Coordinator
each_with f [] amounts = []
each_with f (c ∷ coordinators) [] = c ∷ coordinators
each_with f (c ∷ coordinators) (amount ∷ amounts) = f c amount ∷ each_with f coordinators amounts
