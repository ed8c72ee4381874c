-- What a default does to the RC balances: the others carry it, each by its demand to the cent.
use Rattle.std.specs.Prelude.{◌≡◌, ℕ, zero, suc, ◌*◌, ◌<◌, ◌≢◌, List, [], ◌∷◌, get_or, ℤ, pos, ◌+ℤ◌, ◌-ℤ◌, ◌*ℤ◌, neg_ℤ, ◌<ℤ◌, slice_index, slice_index_or}
use Rattle.charges.specs.Sums.{total, total_z}
use Rattle.year.specs.Spread.{spread}
use Rattle.year.specs.Terms.{Terms, count, demand_at}
use Rattle.year.specs.Rc.{carrier_weights}

-- what each balance gains: after less before
abbrev pub rises : List ℕ → List ℕ → List ℤ
rises [] befores = []
rises (after ∷ afters) [] = []
rises (after ∷ afters) (before ∷ befores) = (pos after -ℤ pos before) ∷ rises afters befores

-- all but the one at the place
abbrev pub others : {X : Type 0} → ℕ → List X → List X
others place [] = []
others zero (x ∷ xs) = xs
others (suc place) (x ∷ xs) = x ∷ others place xs

-- the rise is amount × demand / whole to within a cent
pub record WithinCent (amount demand whole : ℕ) (rise : ℤ) : Type 0 where
  pub above : (pos (amount * demand) -ℤ pos whole) <ℤ (rise *ℤ pos whole)
  pub below : (rise *ℤ pos whole) <ℤ (pos (amount * demand) +ℤ pos whole)

-- of an accepted default, by the RC balances before and after it
pub record DefaultLaw (t : Terms) (debtor unpaid : ℕ) (before after : List ℕ) : Type 0 where
  -- the debtor's falls by the unpaid amount
  pub falls : get_or (rises after before) debtor (pos 0) ≡ neg_ℤ (pos unpaid)
  -- the others' rises sum to it
  pub sum : total_z (others debtor (rises after before)) ≡ pos unpaid
  pub proportion : (coordinator : ℕ) → coordinator < count t → coordinator ≢ debtor →
      WithinCent unpaid (demand_at t coordinator) (total (others debtor t.demands)) (slice_index_or (rises after before) coordinator (pos 0))
  -- each rise is the share
  pub share : (coordinator : ℕ) → coordinator < count t → coordinator ≢ debtor →
      slice_index_or (rises after before) coordinator (pos 0) ≡ pos (slice_index (spread unpaid (carrier_weights t debtor)) coordinator)
