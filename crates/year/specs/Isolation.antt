-- When two lists of calls are alike for a coordinator's market balance.
use Rattle.std.specs.Prelude.{◌≡◌, ℕ, ◌<◌, ◌≢◌, List, length, ℤ, slice_index_or}
use Rattle.sheet.specs.Rows.{rows, own_rows}
use Rattle.charges.specs.Rules.{Meaning}
use Rattle.year.specs.Market.{post, adjust, pay_market}
use Rattle.year.specs.Book.{Call, of_market, of_rc, Outcome, refused, accepted}

-- neither a post nor the coordinator's adjustment or market payment
abbrev pub Elsewhere : ℕ → Call → Type 0
Elsewhere coordinator (of_market (post m day rate sheet)) = ⊥
Elsewhere coordinator (of_market (adjust who amount)) = who ≢ coordinator
Elsewhere coordinator (of_market (pay_market who amount)) = who ≢ coordinator
Elsewhere coordinator (of_rc call) = Unit {0}

-- accepted calls that mean the same to the coordinator's market balance
pub data Alike (coordinator : ℕ) : Call → Call → Type 0 where
  -- one rule's meaning, one day, one rate and the same rows of the coordinator
  posts : {m : Meaning} {day rate : ℕ} {sheet sheet' : List ℕ} → own_rows coordinator (rows sheet) ≡ own_rows coordinator (rows sheet') →
      Alike coordinator (of_market (post m day rate sheet)) (of_market (post m day rate sheet'))
  adjusts : {amount : ℤ} → Alike coordinator (of_market (adjust coordinator amount)) (of_market (adjust coordinator amount))
  pays : {amount : ℕ} → Alike coordinator (of_market (pay_market coordinator amount)) (of_market (pay_market coordinator amount))
  neither : {call call' : Call} → Elsewhere coordinator call → Elsewhere coordinator call' → Alike coordinator call call'

-- both refused, or both accepted and alike
abbrev pub SameOutcome : ℕ → Outcome → Outcome → Type 0
SameOutcome coordinator refused refused = Unit {0}
SameOutcome coordinator refused (accepted call') = ⊥
SameOutcome coordinator (accepted call) refused = ⊥
SameOutcome coordinator (accepted call) (accepted call') = Alike coordinator call call'

-- at every position
abbrev pub SameOutcomes : ℕ → List Outcome → List Outcome → Type 0
SameOutcomes coordinator os os' = (k : ℕ) → k < length os → SameOutcome coordinator (slice_index_or os k refused) (slice_index_or os' k refused)
