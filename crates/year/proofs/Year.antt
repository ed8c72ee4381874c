-- The year law.
use Rattle.std.proofs.Common.{◌≡◌, ℕ, ◌<◌, List, length, pos, ◌+ℤ◌, None, sym, refl, ap, ◌∙◌, subst, arith}
use lib.IntN.{+ℤ_idl, +ℤ_idr}
use Rattle.std.proofs.lemmas.Int.{ints}
use Rattle.charges.specs.Sums.{over_z}
use Rattle.year.specs.Terms.{Terms, count}
use Rattle.year.specs.Market.{market_balance}
use Rattle.year.specs.Rc.{RcCall, default, rc_balance}
use Rattle.year.specs.Book.{Book, Call, of_market, of_rc, opened, refusal, effect, step, outcomes, accepted_calls}
use Rattle.year.specs.Balances.{EachBalance, line_in, adjustment_in, market_payment_in, assessed_in, rise_in, unpaid_in, rc_payment_in}
use Rattle.year.specs.Amounts.{Amounts, no_amounts, amounts_with, amounts_after, Sums, ProductsFit, MarketBounded}
use Rattle.year.specs.Defaults.{DefaultLaw}
use Rattle.year.specs.Year.{YearLawForAll, after}
use Rattle.year.proofs.Passed.{Opens, open_passed}
use Rattle.year.proofs.Market.{MarketSum, market_long, market_moves, market_sums, market_bounds}
use Rattle.year.proofs.Rc.{RcAgrees, rc_long, rc_moves, rc_agrees, products_fit}
use Rattle.year.proofs.Defaults.{default_law}
use Rattle.year.proofs.Ledger.{kept_by_all, ledger, amounts_all, length_outcomes, three_parts, four_parts}
use Rattle.year.proofs.Balances.{moves_market, moves_rc, market_parts, rc_parts}
use Rattle.year.proofs.Isolation.{same_moves}
use Rattle.year.proofs.Opening.{no_market_long, no_market_each, no_market_sum, no_market_bounded, no_rc_long, no_rc_each, no_rc_agrees}

-- what every accepted call keeps
pub record Sound (t : Terms) (b : Book) : Type 0 where
  pub terms : b.terms ≡ t
  pub market_long : length b.market.balances ≡ count b.terms
  pub market_bounds : MarketBounded (count b.terms) b.market
  pub rc_long : length b.rc.balances ≡ count b.terms

-- the balances are what the amounts say
pub record Agrees (b : Book) (a : Amounts) : Type 0 where
  pub market : MarketSum b.market a.market
  pub rc : RcAgrees b.rc a.rc

sums_of : (b : Book) (a : Amounts) → Agrees b a → Sums b a
sums_of b a g =
    let s = g.rc.sum in
    record { market = g.market.sum; rc = omega (arith, ints); at_most_charge = omega arith; charge_bound = g.rc.bound }

module _ (t : Terms) (o : Opens t) where
  opens_in : (b : Book) → Sound t b → Opens b.terms
  opens_in b p = rw p.terms o

  below_in : (b : Book) (k : ℕ) → Sound t b → k < count t → k < count b.terms
  below_in b k p w = rw p.terms w

  pub keeps : (b : Book) (c : Call) → Sound t b → refusal b c ≡ None → Sound t (effect b c)
  keeps b (of_market c) p e = record {
    terms = p.terms;
    market_long = market_long (count b.terms) b.market c p.market_long;
    market_bounds = market_bounds (count b.terms) b.market p.market_long c e p.market_bounds;
    rc_long = p.rc_long;
  }
  keeps b (of_rc c) p e = record {
    terms = p.terms;
    market_long = p.market_long;
    market_bounds = p.market_bounds;
    rc_long = rc_long b.terms (opens_in b p) b.rc p.rc_long c;
  }

  start : Sound t (opened t)
  start = record { terms = refl; market_long = no_market_long (count t); market_bounds = no_market_bounded (count t); rc_long = no_rc_long (count t) }

  pub sound_after : (cs : List Call) → Sound t (after t cs)
  sound_after cs = kept_by_all (Sound t) keeps (opened t) cs start

  -- ---- each balance

  market_step : (k : ℕ) → k < count t → (b : Book) (c : Call) → Sound t b → refusal b c ≡ None → market_balance (effect b c).market k ≡ market_balance b.market k +ℤ moves_market k c
  market_step k w b (of_market c) p e = market_moves (count b.terms) b.market p.market_long k (below_in b k p w) c
  market_step k w b (of_rc c) p e = sym (+ℤ_idr (market_balance b.market k))

  rc_step : (k : ℕ) → k < count t → (b : Book) (c : Call) → Sound t b → refusal b c ≡ None → pos (rc_balance (effect b c).rc k) ≡ pos (rc_balance b.rc k) +ℤ moves_rc t k c
  rc_step k w b (of_market c) p e = sym (+ℤ_idr (pos (rc_balance b.rc k)))
  rc_step k w b (of_rc c) p e =
      subst (λ s. pos (rc_balance (effect b (of_rc c)).rc k) ≡ pos (rc_balance b.rc k) +ℤ moves_rc s k (of_rc c)) p.terms
      (rc_moves b.terms (opens_in b p) b.rc p.rc_long k (below_in b k p w) c e)

  pub market_each : (cs : List Call) (k : ℕ) → k < count t → market_balance (after t cs).market k ≡ over_z (accepted_calls (opened t) cs) (moves_market k)
  market_each cs k w =
      ledger (Sound t) (λ b. market_balance b.market k) (moves_market k) keeps (market_step k w) (opened t) cs start
      ∙ ap (λ z. z +ℤ over_z (accepted_calls (opened t) cs) (moves_market k)) (no_market_each (count t) k w)
      ∙ +ℤ_idl (over_z (accepted_calls (opened t) cs) (moves_market k))

  rc_each : (cs : List Call) (k : ℕ) → k < count t → pos (rc_balance (after t cs).rc k) ≡ over_z (accepted_calls (opened t) cs) (moves_rc t k)
  rc_each cs k w =
      ledger (Sound t) (λ b. pos (rc_balance b.rc k)) (moves_rc t k) keeps (rc_step k w) (opened t) cs start
      ∙ ap (λ z. z +ℤ over_z (accepted_calls (opened t) cs) (moves_rc t k)) (no_rc_each (count t) k w)
      ∙ +ℤ_idl (over_z (accepted_calls (opened t) cs) (moves_rc t k))

  pub each_balance : (cs : List Call) → EachBalance t (after t cs) (accepted_calls (opened t) cs)
  each_balance cs = record {
    market = λ k w. market_each cs k w ∙ three_parts (moves_market k) (line_in k) (adjustment_in k) (market_payment_in k) (market_parts k) (accepted_calls (opened t) cs);
    rc = λ k w. rc_each cs k w ∙ four_parts (moves_rc t k) (assessed_in t k) (rise_in t k) (unpaid_in k) (rc_payment_in k) (rc_parts t k) (accepted_calls (opened t) cs);
  }

  -- ---- the sums

  agree_step : (b : Book) (a : Amounts) (c : Call) → Sound t b → refusal b c ≡ None → Agrees b a → Agrees (effect b c) (amounts_with (count t) a c)
  agree_step b a (of_market c) p e g =
      let n : count b.terms ≡ count t = ap count p.terms in
      record { market = rw (← n) (market_sums (count b.terms) b.market p.market_long a.market c e g.market); rc = g.rc }
  agree_step b a (of_rc c) p e g = record { market = g.market; rc = rc_agrees b.terms (opens_in b p) b.rc p.rc_long a.rc c e g.rc }

  pub agrees_after : (cs : List Call) → Agrees (after t cs) (amounts_after (count t) no_amounts (accepted_calls (opened t) cs))
  agrees_after cs =
      amounts_all (count t) (Sound t) Agrees keeps agree_step (opened t) no_amounts cs start (record { market = no_market_sum (count t); rc = no_rc_agrees (count t) })

  -- ---- one accepted call

  bounds_in : (b : Book) → Sound t b → MarketBounded (count t) b.market
  bounds_in b p = subst (λ s. MarketBounded (count s) b.market) p.terms p.market_bounds

  products_in : (b : Book) (a : Amounts) → Sound t b → Agrees b a → (c : RcCall) → refusal b (of_rc c) ≡ None → ProductsFit t c
  products_in b a p g c e = products_fit t o b.rc a.rc g.rc c (rw (← p.terms) e)

  default_in : (b : Book) (debtor unpaid : ℕ) → Sound t b → refusal b (of_rc (default debtor unpaid)) ≡ None →
      DefaultLaw t debtor unpaid b.rc.balances (step b (of_rc (default debtor unpaid))).rc.balances
  default_in b debtor unpaid p e = rw (e, ← p.terms) (default_law b.terms b.rc debtor unpaid p.rc_long e)

same_terms : (t t' : Terms) → t.demands ≡ t'.demands → t.flags ≡ t'.flags → t ≡ t'
same_terms t t' d f = λ z. record { demands = d z; flags = f z }

pub year_law : YearLawForAll
year_law t ok =
    let o = open_passed t ok in
    record {
      balances = each_balance t o;
      sums = λ cs. sums_of _ _ (agrees_after t o cs);
      market_bounds = λ cs. bounds_in t o (after t cs) (sound_after t o cs);
      products = λ cs c e. products_in t o (after t cs) _ (sound_after t o cs) (agrees_after t o cs) c e;
      defaults = λ cs debtor unpaid e. default_in t o (after t cs) debtor unpaid (sound_after t o cs) e;
      isolation = λ k w t' d f cs cs' l same.
          let e = same_terms t t' d f in
          let o' : Opens t' = subst Opens e o in
          let w' : k < count t' = subst (λ x. k < count x) e w in
          market_each t o cs k w
          ∙ same_moves k (outcomes (opened t) cs) (outcomes (opened t') cs') (length_outcomes (opened t) cs ∙ l ∙ sym (length_outcomes (opened t') cs')) same
          ∙ sym (market_each t' o' cs' k w');
    }
