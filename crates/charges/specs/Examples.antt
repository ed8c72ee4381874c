-- Worked charges: rows, the quantity that they come to, and the line at a rate.
use Rattle.std.specs.Prelude.{◌≡◌, ℕ, List, [], ◌∷◌, ℤ, pos, neg_ℤ}
use Rattle.sheet.specs.declared.row.Row.{Row}
use Rattle.charges.specs.Charges.{market_services, system_operations, bid_segment, tor, trade_fee}
use Rattle.charges.specs.Rules.{line}

-- a row of coordinator 0 in hour 1 and interval 1
abbrev pub row : ℕ → ℕ → ℕ → ℤ → Row
row resource part kind quantity = record { key = record { coordinator = 0; resource = resource; hour = 1; interval = 1; part = part; kind = kind }; quantity = quantity }

pub record Example : Type 0 where
  pub charge : ℕ → ℕ → List Row → ℕ
  pub resource : ℕ
  pub rows : List Row
  pub quantity : ℕ
  pub rate : ℕ
  pub cents : ℕ

abbrev pub Holds : List Example → Type 0
Holds [] = Unit {0}
Holds (e ∷ es) = (e.charge 0 e.resource e.rows ≡ e.quantity) × (line e.quantity e.rate ≡ e.cents) × Holds es

abbrev pub examples : List Example
examples =
    record { charge = market_services; resource = 7; rows = row 7 0 1 (pos 100000) ∷ row 7 0 3 (neg_ℤ (pos 10000)) ∷ []; quantity = 11000000; rate = 836; cents = 920 }
    ∷ record { charge = market_services; resource = 7; rows = row 7 0 3 (pos 30000) ∷ row 7 0 5 (neg_ℤ (pos 10000)) ∷ []; quantity = 2000000; rate = 836; cents = 167 }
    ∷ record { charge = market_services; resource = 7; rows = row 7 0 1 (pos 50000) ∷ row 7 0 8 (pos 60000) ∷ []; quantity = 0; rate = 836; cents = 0 }
    ∷ record { charge = system_operations; resource = 7; rows = row 7 0 20 (pos 90000) ∷ []; quantity = 9000000; rate = 2899; cents = 2609 }
    ∷ record { charge = system_operations; resource = 7; rows = row 7 0 20 (pos 12500) ∷ []; quantity = 1250000; rate = 2899; cents = 362 }
    ∷ record { charge = bid_segment; resource = 7; rows = row 7 0 30 (pos 1) ∷ row 7 0 31 (pos 1) ∷ row 7 1 30 (pos 1) ∷ row 7 2 30 (pos 1) ∷ []; quantity = 300000; rate = 50; cents = 2 }
    ∷ record { charge = bid_segment; resource = 7; rows = row 7 0 30 (pos 1) ∷ []; quantity = 100000; rate = 50; cents = 1 }
    ∷ record { charge = bid_segment; resource = 7; rows = row 7 0 30 (pos 1) ∷ row 7 1 30 (pos 1) ∷ row 7 2 30 (pos 1) ∷ row 7 3 30 (pos 1) ∷ row 7 4 30 (pos 1) ∷ []; quantity = 500000; rate = 50; cents = 3 }
    ∷ record { charge = tor; resource = 0; rows = row 0 0 50 (pos 100000) ∷ row 0 0 51 (neg_ℤ (pos 60000)) ∷ []; quantity = 6000000; rate = 2700; cents = 1620 }
    ∷ record { charge = trade_fee; resource = 7; rows = row 7 0 40 (pos 0) ∷ row 7 1 40 (pos 25) ∷ []; quantity = 200000; rate = 100; cents = 2 }
    ∷ []
