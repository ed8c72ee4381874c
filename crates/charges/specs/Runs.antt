-- What sums and counts come to row by row.
use Rattle.std.specs.Prelude.{◌≡◌, ℕ, ◌+◌, Bool, true, false, cond, List, [], ◌∷◌, ℤ, pos, ◌+ℤ◌, fold, filter}
use Rattle.std.proofs.Common.{arith, ◌∙◌}
use Rattle.std.proofs.lemmas.Int.{ints}
use Rattle.sheet.specs.declared.row.Row.{Row}
use Rattle.charges.specs.Sums.{over, over_z}
use Rattle.charges.specs.Charges.{net, count}
use Rattle.charges.specs.Running.{after, summing, netting, counting_rows}
use Rattle.charges.specs.SumsLemmas.{ones, over_ones}

summing_from : (p : Row → Bool) (w : Row → ℕ) (a : ℕ) (rs : List Row) → fold (summing p w).add a rs ≡ a + over (filter p rs) w
summing_from p w a [] = omega arith
summing_from p w a (r ∷ rs) = go (p r) (λ x. summing_from p w x rs)
  where
    go : (b : Bool) → ((x : ℕ) → fold (summing p w).add x rs ≡ x + over (filter p rs) w) → fold (summing p w).add (cond b (a + w r) a) rs ≡ a + over (cond b (r ∷ filter p rs) (filter p rs)) w
    go true e = omega (arith, e (a + w r))
    go false e = e a

pub summed : (p : Row → Bool) (w : Row → ℕ) (rs : List Row) → after (summing p w) rs ≡ over (filter p rs) w
summed p w rs = omega (arith, summing_from p w 0 rs)

pub counted : (p : Row → Bool) (rs : List Row) → after (counting_rows p) rs ≡ count p rs
unfolding ones
counted p rs = omega (arith, summed p (λ r. 1) rs, over_ones (filter p rs))

netting_from : (p : Row → Bool) (a : ℤ) (rs : List Row) → fold (netting p).add a rs ≡ a +ℤ net p rs
netting_from p a [] = omega (arith, ints)
netting_from p a (r ∷ rs) = go (p r) (λ x. netting_from p x rs)
  where
    go : (b : Bool) → ((x : ℤ) → fold (netting p).add x rs ≡ x +ℤ net p rs) → fold (netting p).add (cond b (a +ℤ r.quantity) a) rs ≡ a +ℤ over_z (cond b (r ∷ filter p rs) (filter p rs)) (λ x. x.quantity)
    go true e = let n = e (a +ℤ r.quantity) in omega (arith, ints)
    go false e = e a

zero_more : (z : ℤ) → pos 0 +ℤ z ≡ z
zero_more z = omega (arith, ints)

pub netted : (p : Row → Bool) (rs : List Row) → after (netting p) rs ≡ net p rs
netted p rs = netting_from p (pos 0) rs ∙ zero_more (net p rs)
