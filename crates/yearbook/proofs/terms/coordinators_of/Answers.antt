use Rattle.std.proofs.Common.{◌≡◌, ◌<◌, ◌++◌, [], ◌∷◌, ℕ, length, get_or, eqb, pos, sym, ap, ap₂, ◌∙◌, arith, rules}
use Rattle.std.specs.List.{zip}
use Rattle.std.proofs.lemmas.List.{length-append, get_or-map, map-id}
use Rattle.std.proofs.lemmas.Iterator.{YieldsList-from_slice, YieldsList-from_zip}
use Rattle.std.proofs.lemmas.Iterator.Consumers.{YieldsList-turn, YieldsList-end}
use Rattle.std.proofs.lemmas.Slice.Zip.{length-zip, get_or-zip}
use Rattle.year.specs.Terms.{Terms, terms_of}
use Rattle.year.proofs.Passed.{open_passed}
use Rattle.yearbook.specs.Coordinators.{demands, flags, markets, rcs}
use Rattle.yearbook.proofs.Opening.{opened_few, opened_bounded, opened_light, taking_room, taking_more, taken_terms, taken_markets, taken_rcs}
use Rattle.yearbook.proofs.terms.coordinators_of.Goals as goal

-- the demand and the flag at a place, as the loop meets them
met : (t : Terms) (i demand flag : ℕ) → i < length (zip t.demands t.flags) → ◌≡◌ {A = ℕ × ℕ} (demand, flag) (get_or (zip t.demands t.flags) i (demand, flag)) →
    (i < length t.demands) × (demand ≡ get_or t.demands i 0) × (flag ≡ get_or t.flags i 0)
met t i demand flag h e =
    let z = length-zip t.demands t.flags in
    let d : i < length t.demands = omega arith in
    let f : i < length t.flags = omega arith in
    let q = e ∙ get_or-zip t.demands t.flags i (demand, flag) d f in (
      d,
      ap (λ (x : ℕ × ℕ). x.0) q ∙ sym (get_or-map (λ x. x) t.demands i demand 0 d) ∙ ap (λ xs. get_or xs i 0) (map-id t.demands),
      ap (λ (x : ℕ × ℕ). x.1) q ∙ sym (get_or-map (λ x. x) t.flags i flag 0 f) ∙ ap (λ xs. get_or xs i 0) (map-id t.flags),
    )

pub loop-demand-init : goal.loop-demand-init
loop-demand-init c = let e = c.new-list.ensures in record { demands_are = ap demands e; flags_are = ap flags e; markets_are = ap markets e; rcs_are = ap rcs e }

pub push-requires : goal.push-requires
push-requires c =
    let t : Terms = terms_of c.args.terms.demands.now c.args.terms.flags.now in
    let i = length c.loop-demand.yielded in
    let road = YieldsList-from_zip {s = c.into_iter-demand-iterator.result} (YieldsList-from_slice t.demands (search rules)) (YieldsList-from_slice t.flags (search rules)) in
    let w = YieldsList-turn road c.loop-demand.yielded _ c.loop-demand.yielded_by c.next.result c.next.new.self _ c.in-Some.is c.next.ensures.steps in
    let m = met t i _ _ w.0 w.1 in
    (omega arith, taking_room t c.requires _ i c.loop-demand.invariant m.0)

pub loop-demand-preserved : goal.loop-demand-preserved
loop-demand-preserved c =
    let t : Terms = terms_of c.args.terms.demands.now c.args.terms.flags.now in
    let i = length c.loop-demand.yielded in
    let road = YieldsList-from_zip {s = c.into_iter-demand-iterator.result} (YieldsList-from_slice t.demands (search rules)) (YieldsList-from_slice t.flags (search rules)) in
    let w = YieldsList-turn road c.loop-demand.yielded _ c.loop-demand.yielded_by c.next.result c.next.new.self _ c.in-Some.is c.next.ensures.steps in
    let m = met t i _ _ w.0 w.1 in
    let a = ap₂ (λ (d f : ℕ). c.loop-demand.list.items ++ record { demand = d; flagged = eqb f 1; market = pos 0; rc = 0 } ∷ []) m.1 m.2 in
    rw (length-append, c.push.ensures.items, a) (taking_more t c.requires _ i c.loop-demand.invariant m.0)

pub returns : goal.returns
returns c =
    let t : Terms = terms_of c.args.terms.demands.now c.args.terms.flags.now in
    let road = YieldsList-from_zip {s = c.into_iter-demand-iterator.result} (YieldsList-from_slice t.demands (search rules)) (YieldsList-from_slice t.flags (search rules)) in
    let w = YieldsList-end road c.loop-demand.yielded _ c.loop-demand.yielded_by c.next.result c.next.new.self c.in-None.is c.next.ensures.steps in
    let z = length-zip t.demands t.flags in
    let same = (open_passed t c.requires).flags_long in
    let all : length c.loop-demand.yielded ≡ length t.demands = omega (arith, w.1) in
    let i = c.loop-demand.invariant in
    record {
      terms = taken_terms t c.requires _ _ i all;
      markets = taken_markets t c.requires _ _ i all;
      rcs = taken_rcs t c.requires _ _ i all;
    }

pub invariant_of-result : goal.invariant_of-result
invariant_of-result c =
    let t : Terms = terms_of c.args.terms.demands.now c.args.terms.flags.now in
    let road = YieldsList-from_zip {s = c.into_iter-demand-iterator.result} (YieldsList-from_slice t.demands (search rules)) (YieldsList-from_slice t.flags (search rules)) in
    let w = YieldsList-end road c.loop-demand.yielded _ c.loop-demand.yielded_by c.next.result c.next.new.self c.in-None.is c.next.ensures.steps in
    let z = length-zip t.demands t.flags in
    let same = (open_passed t c.requires).flags_long in
    let all : length c.loop-demand.yielded ≡ length t.demands = omega (arith, w.1) in
    let i = c.loop-demand.invariant in
    let e = taken_terms t c.requires _ _ i all in
    let m = taken_markets t c.requires _ _ i all in
    let r = taken_rcs t c.requires _ _ i all in
    record { few = opened_few t c.requires _ e m r; bounded = opened_bounded t c.requires _ e m r; light = opened_light t c.requires _ e m r }
