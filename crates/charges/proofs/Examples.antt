-- The worked charges, computed.
use Rattle.std.proofs.Common.{refl}
use Rattle.charges.specs.Charges.{market_services, system_operations, bid_segment, tor, trade_fee, segments}
use Rattle.charges.specs.Rules.{line}
use Rattle.charges.specs.Examples.{Holds, examples}

pub examples_hold : Holds examples
unfolding market_services system_operations bid_segment tor trade_fee segments line
examples_hold = (refl, refl, (refl, refl, (refl, refl, (refl, refl, (refl, refl, (refl, refl, (refl, refl, (refl, refl, (refl, refl, (refl, refl, tt))))))))))
