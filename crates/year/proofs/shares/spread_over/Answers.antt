use Rattle.std.proofs.Common.{◌<◌, ◌≢◌, length, ◌∙◌, arith, get_or-set_other, get_or-set_same, ext_get_or, below_more}
use Rattle.year.proofs.Spread.{length_spread, next_within, next_way, next_share}
use Rattle.year.proofs.shares.spread_over.Goals as goal

pub loop-place-init : goal.loop-place-init
loop-place-init c = record {
  way = let n = c.new-spreading.ensures in record { amount_is = n.amount; whole_is = n.whole ∙ c.total_demand.ensures; sum_is = n.sum };
  given = λ k h. absurd (omega arith);
}

pub share-requires : goal.share-requires
share-requires c =
    let long = c.requires.length in
    next_within _ _ _ _ _ _ c.loop-place.invariant.way (omega arith)

pub loop-place-preserved : goal.loop-place-preserved
loop-place-preserved c =
    let long = c.requires.length in
    let kept = c.loop-place.auto.shares in
    let here : c.loop-place.place < length c.args.demands.now = omega arith in
    let place : c.loop-place.place < length c.loop-place.shares = omega arith in
    let way = c.loop-place.invariant.way in
    let e = c.share.ensures in
    record {
      way = rw (e.amount, e.whole, e.sum) (next_way _ _ _ _ _ _ way here);
      given = below_more _ _
          (λ k h. let ne : k ≢ c.loop-place.place = omega arith in rw get_or-set_other (c.loop-place.invariant.given k h))
          (rw get_or-set_same (e.value ∙ next_share _ _ _ _ _ _ way here));
    }

pub returns : goal.returns
returns c =
    let long = length_spread c.args.amount c.args.demands.now in
    let same = c.requires.length in
    let kept = c.loop-place.auto.shares in
    let end = c.loop-place-test.false in
    ext_get_or 0 _ _ (omega arith) (λ k h. c.loop-place.invariant.given k (omega arith))
