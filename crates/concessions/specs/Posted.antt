-- What each posted rule means: its code, and its charge quantity under its concessions.
use Rattle.std.specs.Prelude.{ℕ}
use Rattle.charges.specs.Charges.{market_services, system_operations, bid_segment, tor, trade_fee}
use Rattle.concessions.specs.Concessions.{Quantity, excluded, grandfathered, listed, ramped_in}
use Rattle.concessions.specs.declared.posted.PostedRule.{PostedRule}
use Rattle.concessions.specs.declared.posted.PostedRule.TheVariants.{MarketServices, SystemOperations, BidSegment, Tor, TradeFee}

abbrev pub posted_code : PostedRule → ℕ
posted_code (MarketServices rule) = 0
posted_code (SystemOperations rule) = 1
posted_code (BidSegment rule) = 2
posted_code (Tor rule) = 3
posted_code (TradeFee rule) = 4

abbrev pub posted_quantity : PostedRule → Quantity
posted_quantity (MarketServices rule) = excluded rule.marks market_services
posted_quantity (SystemOperations rule) = ramped_in rule.percents (excluded rule.below.marks (grandfathered (listed rule.below.below.allowances) system_operations))
posted_quantity (BidSegment rule) = bid_segment
posted_quantity (Tor rule) = tor
posted_quantity (TradeFee rule) = trade_fee
