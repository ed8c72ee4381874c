use Rattle.std.proofs.Common.{◌≡◌, ap, ◌∙◌, rules, tests}
use Rattle.std.specs.Option.{option_map}
use Rattle.std.specs.List.{find}
use Rattle.std.proofs.lemmas.Iterator.{YieldsList-from_slice}
use Rattle.std.proofs.lemmas.Iterator.Search.{find_from_yields_List}
use Rattle.concessions.specs.Concessions.{lists}
use Rattle.concessions.proofs.Lookup.{allowance_found, quantity_or_zero, quantity_told}
use Rattle.concessions.proofs.allowances.Allowances.get.Goals as goal

pub returns : goal.returns
returns c =
    let coordinator = c.args.pair.coordinator in
    let resource = c.args.pair.resource in
    let listed = c.args.self.now.entries.items in
    let found : option_map (λ a. a.now) c.find.result ≡ find (lists coordinator resource) listed = find_from_yields_List (lists coordinator resource) _ _ c.find.result c.find.ensures.ran (YieldsList-from_slice listed cc) (λ x b q k. search (rules, tests)) in
    quantity_told c.find.result c.map_or.result c.map_or.ensures (λ a told. search rules) ∙ ap quantity_or_zero found ∙ allowance_found coordinator resource listed
