-- Rows that rise by a field: figures taken group by group come to the sum over all groups.
use Rattle.std.specs.Prelude.{◌≡◌, ℕ, ◌+◌, ◌<◌, ◌≤◌, Bool, true, false, cond, List, [], ◌∷◌, fold, ◌==◌, ◌≢◌, refl}
use Rattle.std.proofs.Common.{arith, ap, ap₂, sym, ◌∙◌, inl, inr}
use Rattle.std.specs.List.{range_with_len, AllByRecursion}
use Rattle.std.proofs.ByRecursion.{All-weaker}
use Rattle.std.proofs.lemmas.Bool.{cases_eq, eq-eqb, ne_eqb}
use Rattle.sheet.specs.declared.row.Row.{Row}
use Rattle.charges.specs.Sums.{over}
use Rattle.charges.specs.Charges.{at}
use Rattle.charges.specs.Running.{Running, run, grouped}
use Rattle.charges.proofs.Order.{Pairwise}
use Rattle.charges.specs.SumsLemmas.{over_none}
use Rattle.charges.proofs.Sums.{over_change, over_same_from}

at_none : (field : Row → ℕ) (g : ℕ) (rs : List Row) → AllByRecursion (λ r. g < field r) rs → at field g rs ≡ []
at_none field g [] h = refl
at_none field g (r ∷ rs) h = let l = h.0 in rw (ne_eqb (field r) g (λ e. omega arith)) (at_none field g rs h.1)

module _ {S : Type 0} (K : Type 0) (f : Running S) (nothing : f.total f.start ≡ 0) (field : Row → ℕ) (least n : ℕ) where
  -- what the rows still to come add at the group g, while c is at hand
  abbrev ahead : ℕ → S → List Row → ℕ → ℕ
  ahead c s rs g = f.total (fold f.add (cond (g == c) s f.start) (at field g rs))

  -- the two tests of a group, answered
  abbrev asked : S → Row → List Row → Bool → Bool → ℕ
  asked s r l b b' = f.total (fold f.add (cond b s f.start) (cond b' (r ∷ l) l))

  abbrev opened : S → List Row → Bool → ℕ
  opened s l b = f.total (fold f.add (cond b s f.start) l)

  ahead_none : (c : ℕ) (s : S) (g : ℕ) → (g ≢ c) → ahead c s [] g ≡ 0
  ahead_none c s g d = ap (opened s []) (ne_eqb g c d) ∙ nothing

  ahead_at : (c : ℕ) (s : S) → ahead c s [] c ≡ f.total s
  ahead_at c s = ap (opened s []) (eq-eqb c c refl)

  -- a row of the group at hand
  ahead_same : (c : ℕ) (s : S) (r : Row) (rs : List Row) → field r ≡ c → (g : ℕ) → ahead c s (r ∷ rs) g ≡ ahead c (f.add s r) rs g
  ahead_same c s r rs e g =
      let l = at field g rs in
      elim (cases_eq g c) [
        | inl z ↦ ap₂ (asked s r l) (eq-eqb g c z) (eq-eqb (field r) g (e ∙ sym z)) ∙ sym (ap (opened (f.add s r) l) (eq-eqb g c z))
        | inr z ↦ ap₂ (asked s r l) (ne_eqb g c z) (ne_eqb (field r) g (λ y. z (sym y ∙ e))) ∙ sym (ap (opened (f.add s r) l) (ne_eqb g c z))
      ]

  -- a row of a later group
  ahead_later : (c : ℕ) (s : S) (r : Row) (rs : List Row) (g : ℕ) → (g ≢ c) → ahead c s (r ∷ rs) g ≡ ahead (field r) (f.add f.start r) rs g
  ahead_later c s r rs g z =
      let l = at field g rs in
      elim (cases_eq g (field r)) [
        | inl y ↦ ap₂ (asked s r l) (ne_eqb g c z) (eq-eqb (field r) g (sym y)) ∙ sym (ap (opened (f.add f.start r) l) (eq-eqb g (field r) y))
        | inr y ↦ ap₂ (asked s r l) (ne_eqb g c z) (ne_eqb (field r) g (λ x. y (sym x))) ∙ sym (ap (opened (f.add f.start r) l) (ne_eqb g (field r) y))
      ]

  ahead_left : (c : ℕ) (s : S) (r : Row) (rs : List Row) → c < field r → AllByRecursion (λ b. field r ≤ field b) rs → ahead c s (r ∷ rs) c ≡ f.total s
  ahead_left c s r rs l up =
      ap₂ (asked s r (at field c rs)) (eq-eqb c c refl) (ne_eqb (field r) c (λ e. omega arith))
      ∙ ap (λ x. f.total (fold f.add s x)) (at_none field c rs (All-weaker _ _ (λ b w. omega arith) rs up))

  ahead_gone : (c k : ℕ) (s : S) (rs : List Row) → c < k → AllByRecursion (λ b. k ≤ field b) rs → ahead k s rs c ≡ 0
  ahead_gone c k s rs l up =
      ap (opened s (at field c rs)) (ne_eqb c k (λ e. omega arith))
      ∙ ap (λ x. f.total (fold f.add f.start x)) (at_none field c rs (All-weaker _ _ (λ b w. omega arith) rs up)) ∙ nothing

  -- a row taken, once it is told whether its group is at hand
  abbrev taken : ℕ → ℕ → S → Row → List Row → Bool → ℕ
  taken d c s r rs b = (grouped {K = K} field least f).total (fold (grouped {K = K} field least f).add (cond b (record { closed = d; current = c; inside = f.add s r; field = record {} }) (record { closed = d + f.total s; current = field r; inside = f.add f.start r; field = record {} })) rs)

  grouping_from : (rs : List Row) (d c : ℕ) (s : S) → least ≤ c → c < least + n → AllByRecursion (λ r. c ≤ field r) rs → AllByRecursion (λ r. field r < least + n) rs → Pairwise (λ a b. field a ≤ field b) rs →
      (grouped {K = K} field least f).total (fold (grouped {K = K} field least f).add (record { closed = d; current = c; inside = s; field = record {} }) rs) ≡ d + over (range_with_len least n) (ahead c s rs)
  grouping_from [] d c s low high ge lt up =
      omega (arith, over_change (ahead c s []) (λ g. 0) c least n low high (ahead_none c s), over_none (λ (g : ℕ). 0) (λ g. refl) (range_with_len least n), ahead_at c s)
  grouping_from (r ∷ rs) d c s low high ge lt up = elim (cases_eq (field r) c) [
    | inl e ↦ ap (taken d c s r rs) (eq-eqb (field r) c e)
        ∙ (grouping_from rs d c (f.add s r) low high ge.1 lt.1 up.1 ∙ ap (λ x. d + x) (sym (over_same_from (ahead c s (r ∷ rs)) (ahead c (f.add s r) rs) least n (λ g w. ahead_same c s r rs e g))))
    | inr e ↦
        let k = field r in
        let u = f.add f.start r in
        let w = ge.0 in
        let l : c < k = omega arith in
        let a = over_change (ahead c s (r ∷ rs)) (ahead k u rs) c least n low high (ahead_later c s r rs) in
        let b = ahead_left c s r rs l up.0 in
        let z = ahead_gone c k u rs l up.0 in
        let i = grouping_from rs (d + f.total s) k u (omega arith) lt.0 up.0 lt.1 up.1 in
        ap (taken d c s r rs) (ne_eqb (field r) c e) ∙ i ∙ omega arith
  ]

  cond_same : (b : Bool) (s : S) → cond b s s ≡ s
  cond_same true s = refl
  cond_same false s = refl

  -- on rows that rise, what the groups come to one after another is the sum over all groups
  pub grouping : (q : List Row → ℕ) (rs : List Row) → AllByRecursion (λ r. least ≤ field r) rs → AllByRecursion (λ r. field r < least + n) rs → Pairwise (λ a b. field a ≤ field b) rs → 0 < n →
      ((g : ℕ) → run f (at field g rs) ≡ q (at field g rs)) → run (grouped {K = K} field least f) rs ≡ over (range_with_len least n) (λ g. q (at field g rs))
  grouping q rs ge lt up some e =
      let a = grouping_from rs 0 least f.start (omega arith) (omega arith) ge lt up in
      let b = over_same_from (ahead least f.start rs) (λ g. q (at field g rs)) least n (λ g w. ap (λ s. f.total (fold f.add s (at field g rs))) (cond_same (g == least) f.start) ∙ e g) in
      omega arith
