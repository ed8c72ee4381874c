-- What the type of the coordinators keeps, through each write.
use Rattle.std.proofs.Common.{◌≡◌, ℕ, ◌<◌, ◌≤◌, true, List, length, get_or, set, ℤ, pos, ◌+ℤ◌, refl, ap, ◌∙◌, inl, inr, arith}
use Rattle.std.proofs.lemmas.List.{length-set, set_past}
use Rattle.std.proofs.lemmas.Bool.{cases_lt}
use Rattle.std.proofs.Math.Seq.{map-set_same}
use Rattle.charges.specs.Sums.{total}
use Rattle.sheet.specs.Questions.{within}
use Rattle.year.proofs.Sums.{total_set}
use Rattle.yearbook.specs.declared.coordinator.Coordinator.{Coordinator}
use Rattle.yearbook.specs.declared.coordinators.Coordinators.{Coordinators}
use Rattle.yearbook.specs.Coordinators.{nobody, demand_of, market_of, demands, markets, market_at, rc_at, rc_raised, market_raised, each_with}
use Rattle.yearbook.proofs.Columns.{Bounded, bounded_set, bounded_same}
use Rattle.yearbook.proofs.Raised.{map_raised, length_raise, get_or_raise, market_raised_zero}

pub record Keeps (t : List Coordinator) : Type 0 where
  pub few : length t ≤ 64
  pub bounded : Bounded t
  pub light : total (demands t) ≤ 3200000000

-- the demands without a debtor's
pub out_weighs : (xs : List ℕ) (k : ℕ) → total (set xs k 0) ≤ total xs
out_weighs xs k = elim (cases_lt k (length xs)) [
  | inl w ↦ omega (arith, total_set xs k 0 w)
  | inr w ↦ rw (set_past xs k 0 w) (omega arith)
]

module _ (s : Coordinators) where
  abbrev t : List Coordinator
  t = s.list.items

  module _ (t' : List Coordinator) where
    keeps_same : length t' ≡ length t → markets t' ≡ markets t → demands t' ≡ demands t → Keeps t'
    keeps_same l m d = record { few = let f = s.few in omega arith; bounded = bounded_same t t' l m s.bounded; light = rw d s.light }

    pub keeps_charged : (ys : List ℕ) → t' ≡ each_with rc_raised t ys → Keeps t'
    keeps_charged ys e =
        keeps_same (ap length e ∙ length_raise rc_raised t ys) (ap markets e ∙ map_raised market_of rc_raised (λ x y. refl) t ys) (ap demands e ∙ map_raised demand_of rc_raised (λ x y. refl) t ys)

    pub keeps_paid : (k left : ℕ) → t' ≡ set t k (rc_at (get_or t k nobody) left) → Keeps t'
    keeps_paid k left e =
        let c : Coordinator = rc_at (get_or t k nobody) left in
        keeps_same (ap length e ∙ length-set t k c) (ap markets e ∙ map-set_same market_of t k c nobody refl) (ap demands e ∙ map-set_same demand_of t k c nobody refl)

    pub keeps_moved : (k : ℕ) (z : ℤ) → within 1000000000000000 z ≡ true → t' ≡ set t k (market_at (get_or t k nobody) z) → Keeps t'
    keeps_moved k z fits e =
        let c : Coordinator = market_at (get_or t k nobody) z in
        record {
          few = let l = ap length e ∙ length-set t k c in let f = s.few in omega arith;
          bounded = rw e (bounded_set t k c fits s.bounded);
          light = rw (ap demands e ∙ map-set_same demand_of t k c nobody refl) s.light;
        }

    pub keeps_billed : (ys : List ℕ) → ((k : ℕ) → k < length t → within 1000000000000000 ((get_or t k nobody).market +ℤ pos (get_or ys k 0)) ≡ true) → t' ≡ each_with market_raised t ys → Keeps t'
    keeps_billed ys fits e =
        let l = ap length e ∙ length_raise market_raised t ys in
        record {
          few = let f = s.few in omega arith;
          bounded = λ k w.
              let here : k < length t = omega arith in
              ap (λ (xs : List Coordinator). within 1000000000000000 (get_or xs k nobody).market) e ∙ ap (λ (c : Coordinator). within 1000000000000000 c.market) (get_or_raise market_raised market_raised_zero t ys k here) ∙ fits k here;
          light = rw (ap demands e ∙ map_raised demand_of market_raised (λ x y. refl) t ys) s.light;
        }
