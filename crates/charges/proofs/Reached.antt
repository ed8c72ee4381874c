-- How large figures after so many rows are, and that the code's sums of them fit.
use Rattle.std.specs.Prelude.{◌≡◌, ℕ, ◌*◌, ◌≤◌, Bool, List, [], length, ℤ, ◌+ℤ◌, ◌-ℤ◌, FitsSigned, unsigned_abs, refl}
use Rattle.std.proofs.Common.{arith, mul-le-mul_left, ap, sym, subst, ◌∙◌, to_z, of_z}
use borrow.Author.Differences.{abs_is}
use Rattle.std.specs.Int.{w32, w64}
use Rattle.std.proofs.lemmas.Int.{ints, to_z-of_z}
use Rattle.sheet.specs.declared.row.Row.{Row}
use Rattle.sheet.specs.Sheets.{Passes}
use Rattle.sheet.proofs.Pairs.{quantity_range}
use Rattle.charges.specs.Running.{Running, FiguresBounded, after, Reached, counting_rows, adding_up, netting}
use Rattle.charges.specs.Runs.{summed, counted, netted}
use Rattle.charges.specs.Sizes.{size, net_low, gross_low, count_low}

pub reached_low : {S : Type 0} (f : Running S) (most n : ℕ) (s : S) → FiguresBounded f most → Reached f n s → f.total s ≤ most * n
reached_low f most n s b h =
    let a = subst (λ x. f.total x ≤ most * length h.seen) (sym h.is) (b h.seen h.pass) in
    let c : most * length h.seen ≤ most * n = mul-le-mul_left most h.few in
    omega arith

pub reached_more : {S : Type 0} (f : Running S) (n m : ℕ) (s : S) → n ≤ m → Reached f n s → Reached f m s
reached_more f n m s l h = record { seen = h.seen; few = let k = h.few in omega arith; pass = h.pass; is = h.is }

pub reached_start : {S : Type 0} (f : Running S) (n : ℕ) → Reached f n f.start
reached_start f n = record { seen = []; few = omega arith; pass = tt; is = refl }

-- figures that are a part of others
pub reached_part : {S T : Type 0} (f : Running S) (g : Running T) (n : ℕ) (s : S) (part : S → T) → ((rs : List Row) → part (after f rs) ≡ after g rs) → Reached f n s → Reached g n (part s)
reached_part f g n s part e h = record { seen = h.seen; few = h.few; pass = h.pass; is = ap part h.is ∙ e h.seen }

-- ---- one sum or count

pub net_reached : (p : Row → Bool) (n : ℕ) (a : ℤ) → Reached (netting p) n a → unsigned_abs a ≤ 4000000 * n
net_reached p n a h = let l = h.few in let b = net_low p h.seen h.pass in let c = ap unsigned_abs (h.is ∙ netted p h.seen) in omega arith

pub gross_reached : (p : Row → Bool) (n a : ℕ) → Reached (adding_up p) n a → a ≤ 4000000 * n
gross_reached p n a h = let l = h.few in let c = h.is in omega (arith, gross_low p h.seen h.pass, summed p size h.seen)

pub count_reached : (p : Row → Bool) (n a : ℕ) → Reached (counting_rows p) n a → a ≤ n
count_reached p n a h = let l = h.few in let c = h.is in omega (arith, count_low p h.seen, counted p h.seen)

-- ---- signed sums, as the code takes them

net_fits : (a : ℤ) → unsigned_abs a ≤ 8192000000 → FitsSigned w64 a
net_fits a h = grind (arith, ints, abs_is a)

pub abs_back : (a : ℤ) → unsigned_abs a ≤ 8192000000 → unsigned_abs (to_z w64 (of_z w64 a)) ≡ unsigned_abs a
abs_back a h = ap unsigned_abs (to_z-of_z w64 a (net_fits a h))

-- a net sum and what is added to it
abbrev pub added : ℤ → ℤ → ℤ
added a x = to_z w64 (of_z w64 a) +ℤ to_z w64 (of_z w64 x)

-- x is the row's quantity, as the code widens it
abbrev pub widened : ℤ → ℤ
widened q = to_z w32 (of_z w32 q)

module _ (a : ℤ) (r : Row) (h : unsigned_abs a ≤ 8192000000) (k : Passes r) (x : ℤ) (is : x ≡ widened r.quantity) where
  abbrev q : ℤ
  q = r.quantity

  row_fits : FitsSigned w32 q
  row_fits = let l = quantity_range r k in grind (arith, ints, abs_is q)

  wide_fits : FitsSigned w64 q
  wide_fits = let l = quantity_range r k in grind (arith, ints, abs_is q)

  sum_fits : FitsSigned w64 (a +ℤ q)
  sum_fits = let l = quantity_range r k in grind (arith, ints, abs_is a, abs_is q)

  pub added_fits : FitsSigned w64 (added a x)
  added_fits = rw (is, to_z-of_z w64 a (net_fits a h), to_z-of_z w32 q row_fits, to_z-of_z w64 q wide_fits) sum_fits

  pub added_is : to_z w64 (of_z w64 (added a x)) ≡ a +ℤ q
  added_is = rw (is, to_z-of_z w64 a (net_fits a h), to_z-of_z w32 q row_fits, to_z-of_z w64 q wide_fits) (to_z-of_z w64 (a +ℤ q) sum_fits)

-- the difference of two net sums
module _ (a b : ℤ) (h : unsigned_abs a ≤ 8192000000) (k : unsigned_abs b ≤ 8192000000) where
  difference_fits : FitsSigned w64 (a -ℤ b)
  difference_fits = grind (arith, ints, abs_is a, abs_is b)

  pub less_fits : FitsSigned w64 (to_z w64 (of_z w64 a) -ℤ to_z w64 (of_z w64 b))
  less_fits = rw (to_z-of_z w64 a (net_fits a h), to_z-of_z w64 b (net_fits b k)) difference_fits

  pub less_is : unsigned_abs (to_z w64 (of_z w64 (to_z w64 (of_z w64 a) -ℤ to_z w64 (of_z w64 b)))) ≡ unsigned_abs (a -ℤ b)
  less_is = rw (to_z-of_z w64 a (net_fits a h), to_z-of_z w64 b (net_fits b k)) (ap unsigned_abs (to_z-of_z w64 (a -ℤ b) difference_fits))
