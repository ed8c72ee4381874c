-- Each posted rule keeps the bound, with its concessions.
use Rattle.charges.specs.Rules.{Bounded}
use Rattle.charges.proofs.Laws.{charges_bounded}
use Rattle.concessions.specs.declared.posted.PostedRule.{PostedRule}
use Rattle.concessions.specs.declared.posted.PostedRule.TheVariants.{MarketServices, SystemOperations, BidSegment, Tor, TradeFee}
use Rattle.concessions.specs.Concessions.{listed}
use Rattle.concessions.specs.Posted.{posted_quantity}
use Rattle.concessions.specs.Bounds.{excluded_bounded, grandfathered_bounded, ramped_in_bounded}

pub posted_bounded : (rule : PostedRule) → Bounded (posted_quantity rule)
posted_bounded (MarketServices rule) = excluded_bounded rule.marks _ charges_bounded.market_services_bounded
posted_bounded (SystemOperations rule) =
    ramped_in_bounded rule.percents _
    (excluded_bounded rule.below.marks _ (grandfathered_bounded (listed rule.below.below.allowances) _ charges_bounded.system_operations_bounded))
posted_bounded (BidSegment rule) = charges_bounded.bid_segment_bounded
posted_bounded (Tor rule) = charges_bounded.tor_bounded
posted_bounded (TradeFee rule) = charges_bounded.trade_fee_bounded
