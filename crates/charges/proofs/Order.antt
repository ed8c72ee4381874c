-- How the rows of a pair are ordered, and the rows at one value of a field.
use Rattle.std.specs.Prelude.{◌≡◌, ℕ, ◌≤◌, Bool, true, List, [], ◌∷◌, filter, nat_eq}
use Rattle.std.proofs.Common.{arith, sym, ◌∙◌, inl, inr}
use Rattle.std.specs.List.{AllByRecursion}
use Rattle.std.proofs.ByRecursion.{All-weaker, all_kept_by, kept_by_passes}
use Rattle.std.proofs.lemmas.Bool.{cases_Bool, eqb-true}
use Rattle.sheet.specs.Rows.{PartIsByte}
use Rattle.sheet.specs.declared.row.Row.{Row}
use Rattle.sheet.specs.Questions.{below, key_bytes}
use Rattle.sheet.specs.Sheets.{Ascending, OfPair, PairRows}
use Rattle.sheet.proofs.Pairs.{below_cases}
use Rattle.charges.specs.Charges.{at}

below_first : (x y : ℕ) (xs ys : List ℕ) → below (x ∷ xs) (y ∷ ys) ≡ true → x ≤ y
below_first x y xs ys h = elim (below_cases x y xs ys h) [ inl e ↦ omega arith | inr e ↦ let z = e.0 in omega arith ]

below_next : (x y : ℕ) (xs ys : List ℕ) → x ≡ y → below (x ∷ xs) (y ∷ ys) ≡ true → below xs ys ≡ true
below_next x y xs ys s h = elim (below_cases x y xs ys h) [ inl e ↦ absurd (omega arith) | inr e ↦ e.1 ]

-- each row stands in the relation to every later one
abbrev pub Pairwise : (Row → Row → Type 0) → List Row → Type 0
Pairwise R [] = Unit {0}
Pairwise R (r ∷ rs) = AllByRecursion (R r) rs × Pairwise R rs

ascending_pairwise : (rs : List Row) → Ascending rs → Pairwise (λ a b. below (key_bytes a.key) (key_bytes b.key) ≡ true) rs
ascending_pairwise [] h = tt
ascending_pairwise (r ∷ rs) h = (h.0, ascending_pairwise rs h.1)

pairwise_with : (P : Row → Type 0) (R Q : Row → Row → Type 0) → ((a b : Row) → P a → P b → R a b → Q a b) → (rs : List Row) → AllByRecursion P rs → Pairwise R rs → Pairwise Q rs
pairwise_with P R Q w [] h p = tt
pairwise_with P R Q w (r ∷ rs) h p = (both rs h.1 p.0, pairwise_with P R Q w rs h.1 p.1)
  where
    both : (bs : List Row) → AllByRecursion P bs → AllByRecursion (R r) bs → AllByRecursion (Q r) bs
    both [] k m = tt
    both (b ∷ bs) k m = (w r b h.0 k.0 m.0, both bs k.1 m.1)

pairwise_kept : (R : Row → Row → Type 0) (p : Row → Bool) (rs : List Row) → Pairwise R rs → Pairwise R (filter p rs)
pairwise_kept R p [] h = tt
pairwise_kept R p (r ∷ rs) h = elim (cases_Bool (p r)) [
  | inl e ↦ rw e (all_kept_by p (R r) rs h.0, pairwise_kept R p rs h.1)
  | inr e ↦ rw e (pairwise_kept R p rs h.1)
]

at_field : (field : Row → ℕ) (value : ℕ) (rs : List Row) → AllByRecursion (λ r. field r ≡ value) (at field value rs)
at_field field value rs = All-weaker _ _ (λ r e. eqb-true (field r) value e) (at field value rs) (kept_by_passes (λ r. nat_eq (field r) value) rs)

-- rows with a property, which ascend by what is left of the key
pub record InOrder (P : Row → Type 0) (left : Row → List ℕ) (rs : List Row) : Type 0 where
  pub order : Pairwise (λ a b. below (left a) (left b) ≡ true) rs
  pub each : AllByRecursion P rs

module _ {P : Row → Type 0} (field : Row → ℕ) (left : Row → List ℕ) where
  pub rising : (rs : List Row) → InOrder P (λ r. field r ∷ left r) rs → Pairwise (λ a b. field a ≤ field b) rs
  rising rs h = pairwise_with P _ _ (λ a b p q e. below_first (field a) (field b) (left a) (left b) e) rs h.each h.order

  pub in_order_at : (value : ℕ) (rs : List Row) → InOrder P (λ r. field r ∷ left r) rs → InOrder P left (at field value rs)
  in_order_at value rs h = record {
    order = pairwise_with (λ r. field r ≡ value) _ _ (λ a b p q e. below_next (field a) (field b) (left a) (left b) (p ∙ sym q) e) (at field value rs) (at_field field value rs) (pairwise_kept _ (λ r. nat_eq (field r) value) rs h.order);
    each = all_kept_by (λ r. nat_eq (field r) value) P rs h.each;
  }

-- what is left of a key behind the pair
abbrev pub from_hour : Row → List ℕ
from_hour r = r.key.hour ∷ r.key.interval ∷ r.key.part ∷ r.key.kind ∷ []

module _ (coordinator resource : ℕ) (rs : List Row) (h : PairRows coordinator resource rs) where
  pub pair_in_order : InOrder (OfPair coordinator resource) from_hour rs
  pair_in_order = record {
    order = pairwise_with (OfPair coordinator resource) _ _
        (λ a b p q e.
        below_next a.key.resource b.key.resource (from_hour a) (from_hour b) (p.resource_is ∙ sym q.resource_is)
        (below_next a.key.coordinator b.key.coordinator (a.key.resource ∷ from_hour a) (b.key.resource ∷ from_hour b) (p.coordinator_is ∙ sym q.coordinator_is) e))
        rs h.each (ascending_pairwise rs h.ascending);
    each = h.each;
  }

  -- the same with parts that are bytes
  pub parts_in_order : AllByRecursion PartIsByte rs → InOrder (λ r. OfPair coordinator resource r × PartIsByte r) from_hour rs
  parts_in_order bytes = record { order = pair_in_order.order; each = both rs h.each bytes }
    where
      both : (l : List Row) → AllByRecursion (OfPair coordinator resource) l → AllByRecursion PartIsByte l → AllByRecursion (λ r. OfPair coordinator resource r × PartIsByte r) l
      both [] p q = tt
      both (r ∷ l) p q = ((p.0, q.0), both l p.1 q.1)
