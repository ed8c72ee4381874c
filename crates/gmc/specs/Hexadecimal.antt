-- What hexadecimal digits stand for.
use Rattle.std.specs.Prelude.{ℕ, ◌+◌, ◌-◌, ◌*◌, cond, ◌&&◌, Some, None, Option, nat_le}

-- the value of a digit, by its character: 0 to 9, a to f, A to F
abbrev pub digit_of : ℕ → Option ℕ
digit_of char =
    cond (nat_le 48 char && nat_le char 57) (Some (char - 48))
    (cond (nat_le 97 char && nat_le char 102) (Some (char - 97 + 10))
    (cond (nat_le 65 char && nat_le char 70) (Some (char - 65 + 10)) None))

-- two digits, the high one first
abbrev pub joined : Option ℕ → Option ℕ → Option ℕ
joined None low = None
joined (Some high) None = None
joined (Some high) (Some low) = Some (high * 16 + low)

abbrev pub byte_of : ℕ → ℕ → Option ℕ
byte_of high low = joined (digit_of high) (digit_of low)
