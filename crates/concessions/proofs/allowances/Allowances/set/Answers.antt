use Rattle.std.proofs.Common.{rules, ◌∙◌, sym, subst}
use Rattle.std.proofs.lemmas.List.Quantifiers.{position-Some}
use Rattle.questions.specs.Questions.{ask}
use Rattle.concessions.specs.Concessions.{lists, range_refusal, Entered}
use Rattle.concessions.proofs.Lookup.{none, no_position, listed_there, listed_nowhere, entered_there, entered_behind, written}
use Rattle.concessions.proofs.allowances.Allowances.set.Goals as goal

pub returns-then-pair-ge64-clause-answered : goal.returns-then-pair-ge64-clause-answered
unfolding ask range_refusal
returns-then-pair-ge64-clause-answered c = search rules

pub returns-in-None-clause-answered : goal.returns-in-None-clause-answered
unfolding ask range_refusal
returns-in-None-clause-answered c =
    let coordinator = c.args.pair.coordinator in
    let resource = c.args.pair.resource in
    let listed = c.args.self.now.entries.items in
    let nowhere = listed_nowhere coordinator resource c.args.allowance listed (no_position (lists coordinator resource) listed none (sym c.place_of.ensures ∙ c.in-None.is)) in
    search rules

pub returns-in-Some-clause-answered : goal.returns-in-Some-clause-answered
unfolding ask range_refusal
returns-in-Some-clause-answered c =
    let coordinator = c.args.pair.coordinator in
    let resource = c.args.pair.resource in
    let listed = c.args.self.now.entries.items in
    let at = position-Some (lists coordinator resource) listed c.in-Some.place none (sym c.place_of.ensures ∙ c.in-Some.is) in
    let there = listed_there coordinator resource c.args.allowance listed c.in-Some.place at.0 at.1 in
    search rules

pub returns-in-Some-clause-table : goal.returns-in-Some-clause-table
returns-in-Some-clause-table c =
    let coordinator = c.args.pair.coordinator in
    let resource = c.args.pair.resource in
    let entries = c.args.self.now.entries in
    let at = position-Some (lists coordinator resource) entries.items c.in-Some.place none (sym c.place_of.ensures ∙ c.in-Some.is) in
    subst (Entered coordinator resource c.args.allowance entries.items)
    (sym (written entries _ c.in-Some.place _ c.deref_mut.ensures.value))
    (entered_there coordinator resource c.args.allowance entries.items c.in-Some.place at.0 at.1 at.2)

pub returns-in-None-2-clause-answered : goal.returns-in-None-2-clause-answered
unfolding ask range_refusal
returns-in-None-2-clause-answered c = search rules

pub returns-in-None-2-clause-table : goal.returns-in-None-2-clause-table
returns-in-None-2-clause-table c =
    let coordinator = c.args.pair.coordinator in
    let resource = c.args.pair.resource in
    let listed = c.args.self.now.entries.items in
    subst (Entered coordinator resource c.args.allowance listed)
    (sym c.push.ensures.items)
    (entered_behind coordinator resource c.args.allowance listed (no_position (lists coordinator resource) listed none (sym c.place_of.ensures ∙ c.in-None-2.is)))
