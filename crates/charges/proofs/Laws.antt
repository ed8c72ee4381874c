-- The laws of the five charges together.
use Rattle.charges.specs.Laws.{FiguresArrive, ChargesBounded}
use Rattle.charges.proofs.MarketServicesFacts.{market_arrives, market_bounded}
use Rattle.charges.specs.SystemOperationsFacts.{system_bounded}
use Rattle.charges.proofs.SystemOperationsFacts.{system_arrives}
use Rattle.charges.specs.BidSegmentFacts.{segment_bounded}
use Rattle.charges.proofs.BidSegmentFacts.{segment_arrives}
use Rattle.charges.specs.TorFacts.{tor_bounded}
use Rattle.charges.proofs.TorFacts.{tor_arrives}
use Rattle.charges.specs.TradeFeeFacts.{trade_bounded}
use Rattle.charges.proofs.TradeFeeFacts.{trade_arrives}

pub figures_arrive : FiguresArrive
figures_arrive = record {
  at_market_services = market_arrives;
  at_system_operations = system_arrives;
  at_bid_segment = segment_arrives;
  at_tor = tor_arrives;
  at_trade_fee = trade_arrives;
}

pub charges_bounded : ChargesBounded
charges_bounded = record {
  market_services_bounded = market_bounded;
  system_operations_bounded = system_bounded;
  bid_segment_bounded = segment_bounded;
  tor_bounded = tor_bounded;
  trade_fee_bounded = trade_bounded;
}
