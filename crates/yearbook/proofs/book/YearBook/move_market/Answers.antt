use Rattle.std.proofs.Common.{◌≡◌, ◌≤◌, nat_abs, true, false, List, get_or, set, ℤ, ◌+ℤ◌, sym, refl, ap, ◌∙◌, arith, w64, SFits, to_z, of_z, rules}
use Rattle.std.proofs.lemmas.Int.{to_z-of_z}
use Rattle.questions.specs.Questions.{acceptance}
use Rattle.sheet.specs.Questions.{within}
use Rattle.yearbook.specs.declared.coordinator.Coordinator.{Coordinator}
use Rattle.yearbook.specs.Coordinators.{nobody, market_at}
use Rattle.yearbook.proofs.Columns.{within_out, sum_fits}
use Rattle.yearbook.proofs.Moves.{refused_11, passed_11, moved_is, moved_owed}
use Rattle.yearbook.proofs.Taken.{refused_leaves, accepted_leaves}
use Rattle.yearbook.proofs.book.YearBook.move_market.Goals as goal

pub overflow_add-balance : goal.overflow_add-balance
overflow_add-balance c =
    let f = c.ranges.amount in
    let k = c.args.coordinator in
    let z : ℤ = (get_or c.deref.result.now k nobody).market in
    let fz : SFits w64 z = search rules in
    let e : z ≡ (get_or c.args.self.now.coordinators.list.items k nobody).market = ap (λ (xs : List Coordinator). (get_or xs k nobody).market) c.deref.ensures.0 in
    let low : nat_abs z ≤ 1000000000000000 = omega (arith, ap nat_abs e, within_out 1000000000000000 (get_or c.args.self.now.coordinators.list.items k nobody).market (c.args.self.now.coordinators.bounded k c.requires.here)) in
    simp to_z-of_z (sum_fits z c.args.amount low (within_out _ c.args.amount c.requires.small))

pub returns-then-not-inside : goal.returns-then-not-inside
returns-then-not-inside c =
    let f = c.ranges.amount in
    let s = c.args.self.now in
    let k = c.args.coordinator in
    let z : ℤ = (get_or c.deref.result.now k nobody).market in
    let fz : SFits w64 z = search rules in
    let e : z ≡ (get_or s.coordinators.list.items k nobody).market = ap (λ (xs : List Coordinator). (get_or xs k nobody).market) c.deref.ensures.0 in
    let fs = sum_fits z c.args.amount (let low : nat_abs z ≤ 1000000000000000 = omega (arith, ap nat_abs e, within_out 1000000000000000 (get_or s.coordinators.list.items k nobody).market (s.coordinators.bounded k c.requires.here)) in low) (within_out _ c.args.amount c.requires.small) in
    let out : within 1000000000000000 (z +ℤ c.args.amount) ≡ false = sym (simp to_z-of_z at c.if-not-inside.ensures) in
    let r = refused_11 s k c.args.amount c.requires.here (ap (λ y. within 1000000000000000 (y +ℤ c.args.amount)) (sym e) ∙ out) in
    record { answered = ap acceptance (sym r); left = refused_leaves _ tt _ _ _ (ap acceptance (sym r)); unaltered = refl }

pub set_market-requires : goal.set_market-requires
set_market-requires c = record { here = c.requires.here; bounded = sym c.if-not-inside.ensures }

pub invariant_of-self : goal.invariant_of-self
invariant_of-self c =
    let s = c.args.self.now in
    record { owed = moved_owed s c.args.coordinator _ _ c.set_market.ensures; limited = s.limited }

pub returns : goal.returns
returns c =
    let f = c.ranges.amount in
    let s = c.args.self.now in
    let k = c.args.coordinator in
    let t = s.coordinators.list.items in
    let a = c.args.amount in
    let z : ℤ = (get_or c.deref.result.now k nobody).market in
    let fz : SFits w64 z = search rules in
    let e : z ≡ (get_or t k nobody).market = ap (λ (xs : List Coordinator). (get_or xs k nobody).market) c.deref.ensures.0 in
    let fs = sum_fits z a (let low : nat_abs z ≤ 1000000000000000 = omega (arith, ap nat_abs e, within_out 1000000000000000 (get_or s.coordinators.list.items k nobody).market (s.coordinators.bounded k c.requires.here)) in low) (within_out _ a c.requires.small) in
    let u : within 1000000000000000 (z +ℤ a) ≡ true = sym (simp to_z-of_z at c.if-not-inside.ensures) in
    let m : ℤ = to_z w64 (of_z w64 (to_z w64 (of_z w64 z) +ℤ to_z w64 (of_z w64 a))) in
    let m_is : m ≡ (get_or t k nobody).market +ℤ a = simp to_z-of_z (ap (λ y. y +ℤ a) e) in
    let ok = passed_11 s k a c.requires.here (ap (λ y. within 1000000000000000 (y +ℤ a)) (sym e) ∙ u) in
    record {
      answered = ap acceptance (sym ok);
      left = accepted_leaves _ _ _ _ ok (moved_is s k a c.requires.here _ (c.set_market.ensures ∙ ap (λ y. set t k (market_at (get_or t k nobody) y)) m_is));
      unaltered = tt;
    }
