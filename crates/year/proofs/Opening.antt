-- The book as opened.
use Rattle.std.proofs.Common.{◌≡◌, ℕ, ◌<◌, length, pos, refl, ap, arith}
use Rattle.std.proofs.lemmas.List.{length-replicate, get_or-replicate}
use Rattle.year.specs.Market.{market_balance}
use Rattle.year.specs.Rc.{rc_balance}
use Rattle.year.specs.Book.{no_market, no_rc}
use Rattle.year.specs.Amounts.{no_amounts, MarketBounded}
use Rattle.year.proofs.Sums.{total_zeros, total_z_zeros}
use Rattle.year.proofs.Market.{MarketSum}
use Rattle.year.proofs.Rc.{RcAgrees}

module _ (n : ℕ) where
  pub no_market_long : length (no_market n).balances ≡ n
  unfolding no_market
  no_market_long = length-replicate n (pos 0)

  pub no_market_each : (k : ℕ) → k < n → market_balance (no_market n) k ≡ pos 0
  unfolding no_market
  no_market_each k h = get_or-replicate n k (pos 0) (pos 0) h

  pub no_market_sum : MarketSum (no_market n) no_amounts.market
  unfolding no_market
  no_market_sum = record { sum = total_z_zeros n }

  pub no_market_bounded : MarketBounded n (no_market n)
  no_market_bounded k w = rw (no_market_each k w)

  pub no_rc_long : length (no_rc n).balances ≡ n
  unfolding no_rc
  no_rc_long = length-replicate n 0

  pub no_rc_each : (k : ℕ) → k < n → pos (rc_balance (no_rc n) k) ≡ pos 0
  unfolding no_rc
  no_rc_each k h = ap pos (get_or-replicate n k 0 0 h)

  pub no_rc_agrees : RcAgrees (no_rc n) no_amounts.rc
  unfolding no_rc
  no_rc_agrees = record { sum = omega (arith, total_zeros n); charge = refl; bound = omega arith }
