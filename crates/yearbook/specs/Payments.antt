-- The call that a payment on a side is.
use Rattle.std.specs.Prelude.{ℕ}
use Rattle.year.specs.Market.{pay_market}
use Rattle.year.specs.Rc.{pay_rc}
use Rattle.year.specs.Book.{Call, of_market, of_rc}
use Rattle.yearbook.specs.declared.side.Side.{Side}
use Rattle.yearbook.specs.declared.side.Side.TheVariants.{Market, Rc}

abbrev pub pay_call : Side → ℕ → ℕ → Call
pay_call Market coordinator amount = of_market (pay_market coordinator amount)
pay_call Rc coordinator amount = of_rc (pay_rc coordinator amount)
