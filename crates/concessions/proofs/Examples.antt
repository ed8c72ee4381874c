-- The worked concessions, computed.
use Rattle.std.proofs.Common.{refl}
use Rattle.concessions.specs.Examples.{Holds, examples}

pub examples_hold : Holds examples
examples_hold = (refl, (refl, (refl, (refl, (refl, (refl, (refl, (refl, (refl, tt)))))))))
