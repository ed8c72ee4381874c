-- A coordinator's quantity on an accepted sheet: how large it is, and which resources count.
use Rattle.std.proofs.Common.{◌≡◌, ℕ, ◌+◌, ◌*◌, ◌<◌, ◌≤◌, Bool, true, false, cond, ◌||◌, ltb, List, [], ◌∷◌, ◌++◌, length, get_or, take, drop, set, filter, sym, ap, ◌∙◌, inl, inr, append-nil, zero-add, length-append, arith}
use Rattle.std.specs.List.{range_with_len}
use Rattle.std.proofs.lemmas.List.{length_push, length-drop, get_or-drop, get_or-set_same, get_or-set_other}
use Rattle.std.proofs.Math.Seq.{take-add, take-append_seam, get_or-append_seam}
use Rattle.std.proofs.lemmas.List.Elements.{filter-append}
use Rattle.std.proofs.lemmas.Bool.{cases_eq, eq-eqb, ne_eqb, lt-ltb, ltb-false}
use Rattle.sheet.specs.declared.row.Row.{Row}
use Rattle.sheet.specs.Rows.{row_count, row_at, rows, own_rows, resource_rows, pair_rows, of_pair}
use Rattle.sheet.specs.Questions.{Accepted}
use Rattle.sheet.proofs.Pairs.{length_rows, row_by_place, no_row, pair_kept, pair_accepted, own_few}
use Rattle.sheet.proofs.Search.{First, before_own, past_own, other_not, none_so_far, none_left}
use Rattle.charges.specs.Sums.{over}
use Rattle.charges.specs.Rules.{Bounded, Meaning, quantity_of}
use Rattle.charges.specs.SumsLemmas.{over_le, over_ones, ones, groups_le}
use Rattle.charges.proofs.Sums.{over_times, over_more}

-- ---- how large

module _ (bytes : List ℕ) (ok : Accepted bytes) (q : ℕ → ℕ → List Row → ℕ) (bounded : Bounded q) (coordinator : ℕ) where
  -- what the coordinator has under a resource
  abbrev pub under : ℕ → ℕ
  under resource = q coordinator resource (pair_rows coordinator resource (rows bytes))

  abbrev own : List Row
  own = own_rows coordinator (rows bytes)

  under_le : (resource : ℕ) → under resource ≤ 400000000 * over (resource_rows resource own) ones
  under_le resource = omega (arith, bounded coordinator resource _ (pair_accepted bytes ok coordinator resource), over_ones (resource_rows resource own))

  -- over any resources
  pub quantity_low : (n : ℕ) → over (range_with_len 0 n) under ≤ 819200000000
  quantity_low n =
      let rows_of : ℕ → ℕ = λ resource. over (resource_rows resource own) ones in
      omega (
        arith,
        over_le under (λ resource. 400000000 * rows_of resource) under_le (range_with_len 0 n),
        over_times rows_of 400000000 (range_with_len 0 n),
        groups_le (λ r. r.key.resource) ones 0 n own,
        over_ones own,
        own_few bytes ok coordinator,
      )

  pub none_under : (resource : ℕ) → ltb 0 (length (pair_rows coordinator resource (rows bytes))) ≡ false → under resource ≡ 0
  none_under resource e =
      let none = ltb-false 0 (length (pair_rows coordinator resource (rows bytes))) e in
      omega (arith, bounded coordinator resource _ (pair_accepted bytes ok coordinator resource))

  -- one resource more, with rows or without
  pub sum_more : (sum n : ℕ) → sum ≡ over (range_with_len 0 n) under → sum + under n ≡ over (range_with_len 0 (n + 1)) under
  sum_more sum n e = omega (arith, over_more under 0 n, ap under (zero-add n))

-- all resources
pub sum_all : (m : Meaning) (coordinator : ℕ) (rs : List Row) (sum n : ℕ) → n ≡ 256 → sum ≡ over (range_with_len 0 n) (λ resource. m.quantity coordinator resource (pair_rows coordinator resource rs)) → sum ≡ quantity_of m coordinator (own_rows coordinator rs)
unfolding quantity_of
sum_all m coordinator rs sum n e h = h ∙ ap (λ k. over (range_with_len 0 k) (λ resource. m.quantity coordinator resource (pair_rows coordinator resource rs))) e

-- ---- which resources have rows

module _ (coordinator : ℕ) where
  -- whether the coordinator has a row under the resource among these
  abbrev pub present : List Row → ℕ → Bool
  present rs resource = ltb 0 (length (pair_rows coordinator resource rs))

  present_more : (rs : List Row) (r : Row) (resource : ℕ) → present (rs ++ r ∷ []) resource ≡ (of_pair coordinator resource r || present rs resource)
  present_more rs r resource =
      let p = of_pair coordinator resource in
      ap (λ rs. ltb 0 (length rs)) (pair_kept coordinator resource (rs ++ r ∷ []) ∙ filter-append p rs (r ∷ []) ∙ ap (λ some. some ++ cond (p r) (r ∷ []) []) (sym (pair_kept coordinator resource rs)))
      ∙ one (p r) (pair_rows coordinator resource rs) r
    where
      one : (b : Bool) (rs : List Row) (r : Row) → ltb 0 (length (rs ++ cond b (r ∷ []) [])) ≡ (b || ltb 0 (length rs))
      one true rs r = lt-ltb 0 (length (rs ++ r ∷ [])) (omega (arith, length_push rs r))
      one false rs r = ap (λ l. ltb 0 (length l)) (append-nil rs)

  abbrev pub Marked : List Row → List Bool → Type 0
  Marked rs marks = (resource : ℕ) → resource < 256 → get_or marks resource false ≡ present rs resource

  pub marked_more : (rs : List Row) (r : Row) (here : ℕ) → here ≡ r.key.resource → here < 256 → r.key.coordinator ≡ coordinator → (marks : List Bool) → length marks ≡ 256 → Marked rs marks → Marked (rs ++ r ∷ []) (set marks here true)
  marked_more rs r here is byte same marks long h resource w = elim (cases_eq resource here) [
    | inl e ↦
        ap (λ k. get_or (set marks here true) k false) e ∙ get_or-set_same marks here true false (omega arith)
        ∙ sym (present_more rs r resource ∙ ap (λ b. b || present rs resource) (pair_is (sym (e ∙ is))))
    | inr e ↦
        get_or-set_other marks here resource true false e ∙ h resource w
        ∙ sym (present_more rs r resource ∙ ap (λ b. b || present rs resource) (pair_not (λ z. e (sym z ∙ sym is))))
  ]
    where
      pair_is : r.key.resource ≡ resource → of_pair coordinator resource r ≡ true
      pair_is z = rw (eq-eqb r.key.coordinator coordinator same) (eq-eqb r.key.resource resource z)

      pair_not : (r.key.resource ≡ resource → ⊥) → of_pair coordinator resource r ≡ false
      pair_not z = rw (eq-eqb r.key.coordinator coordinator same) (ne_eqb r.key.resource resource z)

-- ---- rows that stand together: none of the coordinator's before those read, and none behind

module _ (bytes : List ℕ) (ok : Accepted bytes) (coordinator first : ℕ) (inside : first ≤ row_count bytes) (place : First bytes coordinator 0 first) (read left : List Row) (stand : drop first (rows bytes) ≡ read ++ left) where
  -- row n is the first of those left
  abbrev n : ℕ
  n = first + length read

  size : first + (length read + length left) ≡ row_count bytes
  size = omega (arith, inside, length_rows bytes, length-drop first (rows bytes), ap length stand, length-append read left)

  read_is : take n (rows bytes) ≡ take first (rows bytes) ++ read
  read_is = take-add first (length read) (rows bytes) ∙ ap (λ rs. take first (rows bytes) ++ rs) (ap (take (length read)) stand ∙ take-append_seam read left)

  marked_whole : ((j : ℕ) → n ≤ j → j < row_count bytes → (row_at bytes j).key.coordinator ≡ coordinator → ⊥) → (resource : ℕ) → present coordinator read resource ≡ present coordinator (rows bytes) resource
  marked_whole h resource =
      let p = of_pair coordinator resource in
      let before = take first (rows bytes) in
      let none = none_so_far bytes coordinator resource first inside (λ i l. other_not coordinator resource (row_at bytes i) (before_own bytes ok coordinator first place i l (omega arith))) in
      let behind = none_left bytes coordinator resource n (λ i l k. other_not coordinator resource (row_at bytes i) (h i l k)) in
      ap (λ rs. ltb 0 (length rs))
      (pair_kept coordinator resource read
      ∙ ap (λ rs. rs ++ filter p read) (sym none ∙ pair_kept coordinator resource before)
      ∙ sym (filter-append p before read)
      ∙ sym (pair_kept coordinator resource (before ++ read))
      ∙ ap (pair_rows coordinator resource) (sym read_is)
      ∙ behind)

  -- where no row is left
  pub marked_all : left ≡ [] → (resource : ℕ) → present coordinator read resource ≡ present coordinator (rows bytes) resource
  marked_all e = marked_whole (λ j l k same. omega (arith, size, ap length e))

  -- where the next row is another's
  pub marked_until : (r : Row) (rest : List Row) → left ≡ r ∷ rest → (r.key.coordinator ≡ coordinator → ⊥) → (resource : ℕ) → present coordinator read resource ≡ present coordinator (rows bytes) resource
  marked_until r rest e other =
      let here : n < row_count bytes = omega (arith, size, ap length e) in
      let is : row_at bytes n ≡ r = sym (row_by_place bytes n no_row here) ∙ sym (get_or-drop first (rows bytes) (length read) no_row) ∙ ap (λ rs. get_or rs (length read) no_row) (stand ∙ ap (λ rs. read ++ rs) e) ∙ get_or-append_seam read r rest no_row in
      marked_whole (λ j l k. past_own bytes ok coordinator first place n j (omega arith) l k (λ same. other (sym (ap (λ r. r.key.coordinator) is) ∙ same)))
