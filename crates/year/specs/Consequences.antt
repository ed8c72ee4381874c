-- What the year law comes to: figures and facts that follow from its clauses alone, of years of which nothing else is known.
use Rattle.std.specs.Prelude.{◌≡◌, ℕ, suc, ◌+◌, ◌-◌, ◌*◌, ◌/◌, ◌^◌, ◌<◌, ◌≤◌, List, [], ◌∷◌, ◌++◌, length, get_or, ℤ, pos, negsuc, None, slice_index, slice_index_or, unsigned_abs}
use Rattle.charges.specs.Rules.{Meaning, meaning}
use Rattle.charges.specs.Sums.{total, total_z}
use Rattle.year.specs.Spread.{SpreadLaw, spread}
use Rattle.year.specs.Terms.{Terms, count}
use Rattle.year.specs.Market.{post, adjust, pay_market, market_balance}
use Rattle.year.specs.Rc.{pay_rc, assess, default, rc_balance, rest, carrier_weights}
use Rattle.year.specs.Book.{Call, of_market, of_rc, opened, refusal, step, Outcome, refused, accepted, outcomes, accepted_calls}
use Rattle.year.specs.Reading.{balances, totals}
use Rattle.year.specs.Defaults.{rises, others, WithinCent}
use Rattle.year.specs.Year.{YearLaw, after}
use Rattle.year.specs.Examples.{each_row}

-- ---- a year of four coordinators

-- demands 1, 2 and 3, and a flagged coordinator
abbrev pub four : Terms
four = record { demands = 1 ∷ 2 ∷ 3 ∷ 0 ∷ []; flags = 0 ∷ 0 ∷ 0 ∷ 1 ∷ [] }

-- rows of coordinators 0 and 1, and the row of coordinator 1 before one of coordinator 2
abbrev pub row_second : List ℕ
row_second =
    0x00 ∷ 0x02 ∷
    0x00 ∷ 0x07 ∷ 0x01 ∷ 0x01 ∷ 0x00 ∷ 0x01 ∷
    0x01 ∷ 0x08 ∷ 0x01 ∷ 0x01 ∷ 0x00 ∷ 0x01 ∷
    0x00 ∷ 0x00 ∷ 0x00 ∷ 0x05 ∷
    0x00 ∷ 0x01 ∷ 0x86 ∷ 0xA0 ∷ []

abbrev pub row_first : List ℕ
row_first =
    0x00 ∷ 0x02 ∷
    0x01 ∷ 0x08 ∷ 0x01 ∷ 0x01 ∷ 0x00 ∷ 0x01 ∷
    0x02 ∷ 0x09 ∷ 0x01 ∷ 0x01 ∷ 0x00 ∷ 0x01 ∷
    0x00 ∷ 0x01 ∷ 0x86 ∷ 0xA0 ∷
    0x00 ∷ 0x00 ∷ 0x00 ∷ 0x06 ∷ []

-- RC: 150, 300, 450 and the minimum 100; then 1 defaults on 100, carried by 0 and 2; then 0 on 90, carried by 1 and 2
abbrev pub year : List Call
year =
    of_market (post each_row 1 5000 row_second)
    ∷ of_market (adjust 1 (negsuc 9))
    ∷ of_market (pay_market 2 5)
    ∷ of_rc (assess 1000 100)
    ∷ of_rc (default 1 100)
    ∷ of_rc (default 0 90)
    ∷ of_rc (pay_rc 2 79)
    ∷ []

-- ---- two years that are alike for coordinator 1: other rows beside its own, other calls that do not concern it

abbrev pub one_year : Meaning → Meaning → ℤ → List Outcome
one_year m m' amount =
    accepted (of_market (post m 1 5000 row_second))
    ∷ accepted (of_market (post m' 2 4000 row_second))
    ∷ refused
    ∷ accepted (of_rc (assess 1000 0))
    ∷ accepted (of_market (adjust 1 amount))
    ∷ accepted (of_market (adjust 0 amount))
    ∷ accepted (of_market (pay_market 1 7))
    ∷ []

abbrev pub other_year : Meaning → Meaning → ℤ → List Outcome
other_year m m' amount =
    accepted (of_market (post m 1 5000 row_first))
    ∷ accepted (of_market (post m' 2 4000 row_first))
    ∷ refused
    ∷ accepted (of_market (adjust 2 amount))
    ∷ accepted (of_market (adjust 1 amount))
    ∷ accepted (of_market (pay_market 0 3))
    ∷ accepted (of_market (pay_market 1 7))
    ∷ []

-- two rows for one
abbrev pub double_row : Meaning
double_row = meaning 3 (λ coordinator resource rows. 200000 * length rows)

-- the calls of such a year, with one to refuse in the refused ones' place
abbrev pub tried : Call → List Outcome → List Call
tried other [] = []
tried other (refused ∷ os) = other ∷ tried other os
tried other (accepted call ∷ os) = call ∷ tried other os

-- ---- a default that other calls stand before

-- what the default changes on the RC balances
abbrev pub rises_by : Terms → List Call → ℕ → ℕ → List ℤ
rises_by t calls debtor unpaid = rises (step (after t calls) (of_rc (default debtor unpaid))).rc.balances (after t calls).rc.balances

-- coordinator 0 defaults on 90 after coordinator 1 has: exactly 2/5 and 3/5 of it go to the others, nothing to the flagged one
pub record SecondDefault (gained : List ℤ) : Type 0 where
  pub debtor : get_or gained 0 (pos 0) ≡ negsuc 89
  pub carried : total_z (others 0 gained) ≡ pos 90
  pub first_debtor : get_or gained 1 (pos 0) ≡ pos 36
  pub third : get_or gained 2 (pos 0) ≡ pos 54
  pub unweighted : get_or gained 3 (pos 0) ≡ pos 0

-- ---- any amount over demands 1, 1, 1

abbrev pub thirds_of : ℕ → List ℕ
thirds_of amount = spread amount (1 ∷ 1 ∷ 1 ∷ [])

-- three shares, none as far as a cent from a third, the last what the others leave
pub record Thirds (amount : ℕ) (shares : List ℕ) : Type 0 where
  pub three : length shares ≡ 3
  pub whole : total shares ≡ amount
  pub low : amount ≤ 3 * slice_index shares 1 + 2
  pub high : 3 * slice_index shares 1 ≤ amount + 2
  pub last : get_or shares 2 0 ≡ amount - amount * 2 / 3

-- ---- the consequences

pub record Consequences : Type 0 where
  -- these years happen
  pub happens : accepted_calls (opened four) year ≡ year
  pub one_happens : let os = one_year each_row double_row (pos 9) in outcomes (opened four) (tried (of_rc (default 1 1)) os) ≡ os
  pub other_happens : let os = other_year each_row double_row (pos 9) in outcomes (opened four) (tried (of_market (pay_market 9 1)) os) ≡ os
  -- the accepted calls give each balance, however the year went
  pub each : YearLaw four → (calls : List Call) → accepted_calls (opened four) calls ≡ year → let b = after four calls in
      (balances b 0 ≡ (pos 50, 85)) × (balances b 1 ≡ (pos 40, 236)) × (balances b 2 ≡ (negsuc 4, 500)) × (balances b 3 ≡ (pos 0, 100))
  -- and the sums
  pub sums : YearLaw four → (calls : List Call) → accepted_calls (opened four) calls ≡ year → totals (after four calls) ≡ (pos 85, 921)
  -- no RC balance is above the highest charge
  pub rc_bound : (t : Terms) → YearLaw t → (calls : List Call) (coordinator : ℕ) → rc_balance (after t calls).rc coordinator ≤ 2000000000
  -- the last coordinator's market balance keeps within bounds
  pub last : (t : Terms) → YearLaw t → (calls : List Call) (coordinator : ℕ) → suc coordinator ≡ count t → unsigned_abs (market_balance (after t calls).market coordinator) ≤ 1000000000000000
  -- the largest product of an assessment, and of a default
  pub assessed : (t : Terms) → YearLaw t → (calls : List Call) (charge minimum : ℕ) → refusal (after t calls) (of_rc (assess charge minimum)) ≡ None → rest t charge minimum * total t.demands < 2 ^ 64
  pub defaulted : (t : Terms) → YearLaw t → (calls : List Call) (debtor unpaid : ℕ) → refusal (after t calls) (of_rc (default debtor unpaid)) ≡ None → unpaid * total (carrier_weights t debtor) < 2 ^ 64
  -- a second default, by another debtor
  pub second : YearLaw four → (calls : List Call) → let earlier = calls ++ of_rc (default 1 100) ∷ [] in
      refusal (after four earlier) (of_rc (default 0 90)) ≡ None → SecondDefault (rises_by four earlier 0 90)
  -- of any amount that coordinator 0 defaults on, coordinator 2 carries 3/5 to the cent
  pub near : YearLaw four → (calls : List Call) (unpaid : ℕ) → refusal (after four calls) (of_rc (default 0 unpaid)) ≡ None → WithinCent unpaid 3 5 (slice_index_or (rises_by four calls 0 unpaid) 2 (pos 0))
  -- to the cent: 54 is 3/5 of 90, and neither 53 nor 55 is
  pub exact : (rise : ℤ) → WithinCent 90 3 5 rise → rise ≡ pos 54
  -- rules of any two meanings, other rows beside the coordinator's own, other calls that do not concern it
  pub alike : (t t' : Terms) → YearLaw t → t.demands ≡ t'.demands → t.flags ≡ t'.flags → 1 < count t →
      (m m' : Meaning) (amount : ℤ) (calls calls' : List Call) → outcomes (opened t) calls ≡ one_year m m' amount → outcomes (opened t') calls' ≡ other_year m m' amount →
      market_balance (after t calls).market 1 ≡ market_balance (after t' calls').market 1
  -- spreading
  pub thirds : (amount : ℕ) → SpreadLaw amount (1 ∷ 1 ∷ 1 ∷ []) → Thirds amount (thirds_of amount)
  pub nothing_spread : (weights : List ℕ) → SpreadLaw 0 weights → (coordinator : ℕ) → slice_index (spread 0 weights) coordinator ≡ 0
  pub weightless : (amount : ℕ) → SpreadLaw amount (1 ∷ 0 ∷ []) → slice_index (spread amount (1 ∷ 0 ∷ [])) 1 ≡ 0
