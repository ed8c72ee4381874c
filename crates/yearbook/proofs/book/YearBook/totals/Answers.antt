use Rattle.std.proofs.Common.{◌≡◌, ◌+◌, ◌*◌, ◌<◌, ◌≤◌, List, length, get_or, take, ℤ, ◌+ℤ◌, nat_abs, sym, ap, ◌∙◌, arith, w64, SFits, rules}
use Rattle.std.proofs.lemmas.Int.{to_z-of_z}
use Rattle.std.proofs.lemmas.List.{length-map}
use Rattle.charges.specs.Sums.{total_z}
use Rattle.year.proofs.Sums.{total_next, total_take_le}
use Rattle.yearbook.specs.declared.coordinator.Coordinator.{Coordinator}
use Rattle.yearbook.specs.Coordinators.{nobody, rc_of, markets, rcs}
use Rattle.yearbook.proofs.Columns.{within_out, rcs_at, markets_more, sum_small, sum_small_fits}
use Rattle.yearbook.proofs.book.YearBook.totals.Goals as goal

pub overflow_add-rc : goal.overflow_add-rc
overflow_add-rc c =
    let s = c.args.self.now in
    let t = s.coordinators.list.items in
    let i = c.loop-coordinator.coordinator-index in
    let d = c.as_slice-coordinator-items.ensures.value in
    let h : i < length t = omega (arith, ap length d) in
    let e = ap (λ (xs : List Coordinator). (get_or xs i nobody).rc) d ∙ sym (rcs_at t i h) in
    let l = length-map t rc_of in
    let m = total_next (rcs t) i (omega arith) in
    let f = total_take_le (i + 1) (rcs t) in
    let o = s.owed in
    let u = s.limited in
    let r = c.loop-coordinator.invariant.rc_is in
    search rules

pub loop-coordinator-preserved : goal.loop-coordinator-preserved
loop-coordinator-preserved c =
    let s = c.args.self.now in
    let t = s.coordinators.list.items in
    let i = c.loop-coordinator.coordinator-index in
    let d = c.as_slice-coordinator-items.ensures.value in
    let h : i < length t = omega (arith, ap length d) in
    let z : ℤ = (get_or c.as_slice-coordinator-items.result.now i nobody).market in
    let fz : SFits w64 z = search rules in
    let e : z ≡ (get_or t i nobody).market = ap (λ (xs : List Coordinator). (get_or xs i nobody).market) d in
    let few = s.coordinators.few in
    let low : nat_abs z ≤ 1000000000000000 = omega (arith, ap nat_abs e, within_out 1000000000000000 (get_or t i nobody).market (s.coordinators.bounded i h)) in
    let mi = c.loop-coordinator.market-is in
    let v : nat_abs c.loop-coordinator.market ≤ 1000000000000000 * i = rw mi at c.loop-coordinator.invariant.market_low in
    let b = sum_small c.loop-coordinator.market z i v low in
    let fs = sum_small_fits (c.loop-coordinator.market +ℤ z) (i + 1) (omega arith) b in
    let l = length-map t rc_of in
    let r = total_next (rcs t) i (omega arith) in
    let a = ap (λ (xs : List Coordinator). (get_or xs i nobody).rc) d ∙ sym (rcs_at t i h) in
    let k = c.loop-coordinator.invariant.rc_is in
    record {
      market_is = simp (mi, to_z-of_z) (ap (λ y. y +ℤ z) (rw mi at c.loop-coordinator.invariant.market_is) ∙ ap (λ y. total_z (take i (markets t)) +ℤ y) e ∙ sym (markets_more t i h));
      market_low = simp (mi, to_z-of_z) b;
      rc_is = omega arith;
    }
