-- The byte by which a row's key tells the row's kind.
use Rattle.std.specs.Prelude.{◌≡◌, ℕ, Bool, true, false, ◌&&◌, ◌||◌, ◌==◌, nat_le, Result, MatchResult}
use Rattle.sheet.specs.declared.kind.Kind.{Kind}
use Rattle.sheet.specs.declared.kind.Kind.TheVariants.{DayAheadEnergy, HaspEnergy, OptimalEnergy, RerateEnergy, MinimumLoadEnergy, SelfScheduleEnergy, PumpingEnergy, TorBalance, VirtualAward, AncillaryAward, MeteredEnergy, DayAheadBid, DayAheadSchedule, RealTimeBid, RealTimeSchedule, AncillaryBid, VirtualBid, TradeSide, TorSupply, TorDemand}
use Rattle.sheet.specs.declared.kind.UnknownKind.{UnknownKind}
use Rattle.sheet.specs.Questions.{known_kind}

-- the byte is of the kind
abbrev pub is_kind : Kind → ℕ → Bool
is_kind DayAheadEnergy byte = byte == 1
is_kind HaspEnergy byte = byte == 2
is_kind OptimalEnergy byte = byte == 3
is_kind RerateEnergy byte = byte == 4
is_kind MinimumLoadEnergy byte = byte == 5
is_kind SelfScheduleEnergy byte = byte == 6
is_kind PumpingEnergy byte = byte == 7
is_kind TorBalance byte = byte == 8
is_kind VirtualAward byte = byte == 9 || byte == 10
is_kind AncillaryAward byte = nat_le 11 byte && nat_le byte 14
is_kind MeteredEnergy byte = byte == 20
is_kind DayAheadBid byte = byte == 30
is_kind DayAheadSchedule byte = byte == 31
is_kind RealTimeBid byte = byte == 32
is_kind RealTimeSchedule byte = byte == 33
is_kind AncillaryBid byte = byte == 34
is_kind VirtualBid byte = byte == 35
is_kind TradeSide byte = byte == 40
is_kind TorSupply byte = byte == 50
is_kind TorDemand byte = byte == 51

-- the kind that a byte is of, or that no kind has the byte
abbrev pub KindOfByte : ℕ → Result Kind UnknownKind → Type 0
KindOfByte byte told = MatchResult told (λ kind. is_kind kind byte ≡ true) (λ unknown. (unknown.0 ≡ byte) × (known_kind byte ≡ false))
