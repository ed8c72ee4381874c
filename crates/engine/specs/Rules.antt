-- The rule that the engine keeps for each charge, what it means, and the calls that the engine makes of the book.
use Rattle.std.specs.Prelude.{◌≡◌, ℕ, List, [], replicate}
use Rattle.charges.specs.Charges.{trade_fee}
use Rattle.charges.specs.Rules.{Meaning, meaning}
use Rattle.charges.specs.declared.trade_fee.TradeFee.{TradeFee as PlainRule}
use Rattle.concessions.specs.Concessions.{listed}
use Rattle.concessions.specs.Posted.{posted_code, posted_quantity}
use Rattle.concessions.specs.declared.posted.PostedRule.{PostedRule}
use Rattle.concessions.specs.declared.posted.PostedRule.TheVariants as posted
use Rattle.year.specs.Market.{post}
use Rattle.year.specs.Book.{Call, of_market}
use Rattle.journal.specs.Entries.{call_of}
use Rattle.journal.specs.declared.entry.Entry.{Entry}
use Rattle.engine.specs.declared.charge.Charge.{Charge}
use Rattle.engine.specs.declared.charge.Charge.TheVariants.{MarketServices, SystemOperations, BidSegment, Tor, TradeFee}
use Rattle.engine.specs.declared.engine.Engine.{Engine}

-- the rule of a charge, with the concessions that stand in the engine
abbrev pub rule_in : Engine → Charge → PostedRule
rule_in e MarketServices = posted.MarketServices e.market_services
rule_in e SystemOperations = posted.SystemOperations e.system_operations
rule_in e BidSegment = posted.BidSegment (record {})
rule_in e Tor = posted.Tor (record {})
rule_in e TradeFee = posted.TradeFee (record {})

abbrev pub meaning_in : Engine → Charge → Meaning
meaning_in e charge = meaning (posted_code (rule_in e charge)) (posted_quantity (rule_in e charge))

-- the call that posts a meaning
abbrev pub post_call : Meaning → ℕ → ℕ → List ℕ → Call
post_call m day rate sheet = of_market (post m day rate sheet)

-- the call of an entry that needs no rule of the engine's
abbrev pub plain_call : Entry PlainRule → Call
plain_call entry = call_of (λ rule. 4) (λ rule. trade_fee) entry

-- no coordinator is excluded, ramped in or has an allowance
pub record NewRules (e : Engine) : Type 0 where
  pub exclusions : e.market_services.marks ≡ replicate 64 0
  pub percents : e.system_operations.percents ≡ replicate 64 0
  pub marks : e.system_operations.below.marks ≡ replicate 64 0
  pub allowances : listed e.system_operations.below.below.allowances ≡ []

-- the rules stay as they are
pub record SameRules (before after : Engine) : Type 0 where
  pub market_services : after.market_services ≡ before.market_services
  pub system_operations : after.system_operations ≡ before.system_operations
