-- The entries that the engine takes in the concessions' tables: when each is refused, and what an accepted one does.
use Rattle.std.specs.Prelude.{◌≡◌, Option, slice_set}
use Rattle.questions.specs.Questions.{Refusal}
use Rattle.concessions.specs.Concessions.{Entered, allowance_refusal, listed, mark_refusal, percent_refusal}
use Rattle.engine.specs.declared.concession.ConcessionEntry.{ConcessionEntry}
use Rattle.engine.specs.declared.concession.ConcessionEntry.TheVariants.{MarketServicesExclusion, SystemOperationsExclusion, RampIn, Grandfathering}
use Rattle.engine.specs.declared.engine.Engine.{Engine}

abbrev pub concession_refusal : Engine → ConcessionEntry → Option Refusal
concession_refusal e (MarketServicesExclusion coordinator mark) = mark_refusal coordinator mark
concession_refusal e (SystemOperationsExclusion coordinator mark) = mark_refusal coordinator mark
concession_refusal e (RampIn coordinator percent) = percent_refusal coordinator percent
concession_refusal e (Grandfathering pair allowance) = allowance_refusal (listed e.system_operations.below.below.allowances) pair.coordinator pair.resource allowance

-- one table has the entry, and the others stay
abbrev pub Conceded : ConcessionEntry → Engine → Engine → Type 0
Conceded (MarketServicesExclusion coordinator mark) before after =
    (after.market_services.marks ≡ slice_set before.market_services.marks coordinator mark)
    × (after.system_operations ≡ before.system_operations)
Conceded (SystemOperationsExclusion coordinator mark) before after =
    (after.system_operations.below.marks ≡ slice_set before.system_operations.below.marks coordinator mark)
    × (after.system_operations.below.below ≡ before.system_operations.below.below)
    × (after.system_operations.percents ≡ before.system_operations.percents)
    × (after.market_services ≡ before.market_services)
Conceded (RampIn coordinator percent) before after =
    (after.system_operations.percents ≡ slice_set before.system_operations.percents coordinator percent)
    × (after.system_operations.below ≡ before.system_operations.below)
    × (after.market_services ≡ before.market_services)
Conceded (Grandfathering pair allowance) before after =
    Entered pair.coordinator pair.resource allowance (listed before.system_operations.below.below.allowances) (listed after.system_operations.below.below.allowances)
    × (after.system_operations.below.marks ≡ before.system_operations.below.marks)
    × (after.system_operations.percents ≡ before.system_operations.percents)
    × (after.market_services ≡ before.market_services)
