-- Where the rows of an accepted sheet pass from before a pair's to behind.
use Rattle.std.proofs.Common.{◌≡◌, ℕ, zero, suc, ◌+◌, ◌<◌, ◌≤◌, Bool, true, false, ltb, ◌⊎◌, List, [], ◌∷◌, ◌++◌, length, get_or, take, drop, filter, sym, refl, ap, ◌∙◌, subst, inl, inr, append-nil, arith}
use Rattle.std.specs.List.{AllByRecursion}
use Rattle.std.specs.List.Sorted.{IsPartitionPoint, IsPartitionedBy}
use Rattle.std.proofs.lemmas.List.Elements.{filter-append}
use Rattle.std.proofs.ByRecursion.{All-from_get_or, all_kept_by, kept_by_passes}
use Rattle.std.proofs.lemmas.List.{get_or-drop, get_or-take, length-drop, length-take-le, take-append-drop}
use Rattle.std.proofs.lemmas.Bool.{cases_eq, cases_lt, lt-ltb, le-ltb, ne_eqb}
use Rattle.std.proofs.lemmas.Bool.Decides.{nat_tests}
use Rattle.sheet.specs.declared.row.Row.{Row}
use Rattle.sheet.specs.Rows.{row_count, row_at, rows, pair_rows, of_pair, key_at, key_before, before_pair}
use Rattle.sheet.specs.Questions.{below, key_bytes, Accepted}
use Rattle.sheet.proofs.Accepted.{key_above}
use Rattle.sheet.proofs.Pairs.{length_rows, row_by_place, no_row, all_rows, below_cases, below_trans, pair_kept}

-- a row's coordinator and resource are not above another's
abbrev pub UpTo : Row → Row → Type 0
UpTo a b = (a.key.coordinator < b.key.coordinator) ⊎ ((a.key.coordinator ≡ b.key.coordinator) × (a.key.resource ≤ b.key.resource))

below_up_to : (a b : Row) → below (key_bytes a.key) (key_bytes b.key) ≡ true → UpTo a b
below_up_to a b h = elim (below_cases a.key.coordinator b.key.coordinator (rest a) (rest b) h) [
  | inl l ↦ inl l
  | inr p ↦ inr (
    p.0,
    elim (below_cases a.key.resource b.key.resource (times a) (times b) p.1) [
      | inl l ↦ omega arith
      | inr q ↦ let e = q.0 in omega arith
    ],
  )
]
  where
    times : Row → List ℕ
    times r = r.key.hour ∷ r.key.interval ∷ r.key.part ∷ r.key.kind ∷ []

    rest : Row → List ℕ
    rest r = r.key.resource ∷ times r

-- what stands before a row that stands before the pair's
before_down : (coordinator resource : ℕ) (a b : Row) → UpTo a b → before_pair coordinator resource b ≡ true → before_pair coordinator resource a ≡ true
before_down coordinator resource a b (inl l) h = grind (arith, nat_tests)
before_down coordinator resource a b (inr e) h = grind (arith, nat_tests)

module _ (bytes : List ℕ) (ok : Accepted bytes) where
  abbrev key : ℕ → List ℕ
  key i = key_bytes (row_at bytes i).key

  later_above : (i j : ℕ) → i < j → j < row_count bytes → below (key i) (key j) ≡ true
  later_above i zero l h = absurd (omega arith)
  later_above i (suc j) l h = elim (cases_eq i j) [
    | inl e ↦ rw e (key_above bytes ok j h)
    | inr e ↦ below_trans (key i) (key j) (key (suc j)) (later_above i j (omega arith) (omega arith)) (key_above bytes ok j h)
  ]

  pub rows_up_to : (i j : ℕ) → i < j → j < row_count bytes → UpTo (row_at bytes i) (row_at bytes j)
  rows_up_to i j l h = below_up_to (row_at bytes i) (row_at bytes j) (later_above i j l h)

-- ---- rows of the pair

-- n is the first row that does not stand before the pair's
abbrev pub First : List ℕ → ℕ → ℕ → ℕ → Type 0
First bytes coordinator resource n = (i : ℕ) → i < row_count bytes → before_pair coordinator resource (row_at bytes i) ≡ ltb i n

-- the key in the six bytes stands before the pair's
abbrev pub bytes_before : ℕ → ℕ → List ℕ → Bool
bytes_before coordinator resource key = key_before coordinator resource (key_at key 0)

-- the place that a search over the keys tells
module _ (bytes : List ℕ) (ok : Accepted bytes) (coordinator resource : ℕ) (keys : List (List ℕ)) (long : length keys ≡ row_count bytes) (each : (i : ℕ) (d : List ℕ) → i < row_count bytes → key_at (get_or keys i d) 0 ≡ (row_at bytes i).key) where
  here : (i : ℕ) (d : List ℕ) → i < row_count bytes → bytes_before coordinator resource (get_or keys i d) ≡ before_pair coordinator resource (row_at bytes i)
  here i d h = ap (key_before coordinator resource) (each i d h)

  pub keys_parted : IsPartitionedBy (bytes_before coordinator resource) keys
  keys_parted i j d u l h = elim (cases_eq i j) [
    | inl e ↦ rw e h
    | inr e ↦
        let inside : j < row_count bytes = omega arith in
        here i d (omega arith) ∙ before_down coordinator resource (row_at bytes i) (row_at bytes j) (rows_up_to bytes ok i j (omega arith) inside) (sym (here j d inside) ∙ h)
  ]

  pub first_by_keys : (n : ℕ) → IsPartitionPoint (λ key. bytes_before coordinator resource key ≡ true) (λ key. bytes_before coordinator resource key ≡ false) keys n → First bytes coordinator resource n
  first_by_keys n point i h = elim (cases_lt i n) [
    | inl l ↦ sym (here i [] h) ∙ point.0 i [] (omega arith) l ∙ sym (lt-ltb i n l)
    | inr l ↦ sym (here i [] h) ∙ point.1 i [] l (omega arith) ∙ sym (le-ltb i n l)
  ]

before_not : (coordinator resource : ℕ) (r : Row) → before_pair coordinator resource r ≡ true → of_pair coordinator resource r ≡ false
before_not coordinator resource r h = grind (arith, nat_tests)

past_not : (coordinator resource : ℕ) (a b : Row) → UpTo a b → before_pair coordinator resource a ≡ false → of_pair coordinator resource a ≡ false → of_pair coordinator resource b ≡ false
past_not coordinator resource a b (inl l) h k = grind (arith, nat_tests)
past_not coordinator resource a b (inr e) h k = grind (arith, nat_tests)

before_other : (coordinator : ℕ) (r : Row) → before_pair coordinator 0 r ≡ true → r.key.coordinator ≡ coordinator → ⊥
before_other coordinator r h e = grind (arith, nat_tests)

past_other : (coordinator : ℕ) (a b : Row) → UpTo a b → before_pair coordinator 0 a ≡ false → (a.key.coordinator ≡ coordinator → ⊥) → b.key.coordinator ≡ coordinator → ⊥
past_other coordinator a b (inl l) h k e = grind (arith, nat_tests)
past_other coordinator a b (inr u) h k e = grind (arith, nat_tests)

module _ (bytes : List ℕ) (ok : Accepted bytes) (coordinator resource n : ℕ) (first : First bytes coordinator resource n) where
  pub before_first : (i : ℕ) → i < n → i < row_count bytes → of_pair coordinator resource (row_at bytes i) ≡ false
  before_first i l h = before_not coordinator resource (row_at bytes i) (first i h ∙ lt-ltb i n l)

  -- from the first row on, a row that is not the pair's has none of the pair's behind it
  pub past_last : (i j : ℕ) → n ≤ i → i ≤ j → j < row_count bytes → of_pair coordinator resource (row_at bytes i) ≡ false → of_pair coordinator resource (row_at bytes j) ≡ false
  past_last i j l u h e = elim (cases_eq i j) [
    | inl z ↦ rw (sym z) e
    | inr z ↦ past_not coordinator resource (row_at bytes i) (row_at bytes j) (rows_up_to bytes ok i j (omega arith) h) (first i (omega arith) ∙ le-ltb i n l) e
  ]

-- the same of a coordinator's rows: none stands before resource 0
module _ (bytes : List ℕ) (ok : Accepted bytes) (coordinator n : ℕ) (first : First bytes coordinator 0 n) where
  pub before_own : (i : ℕ) → i < n → i < row_count bytes → (row_at bytes i).key.coordinator ≡ coordinator → ⊥
  before_own i l h = before_other coordinator (row_at bytes i) (first i h ∙ lt-ltb i n l)

  pub past_own : (i j : ℕ) → n ≤ i → i ≤ j → j < row_count bytes → ((row_at bytes i).key.coordinator ≡ coordinator → ⊥) → (row_at bytes j).key.coordinator ≡ coordinator → ⊥
  past_own i j l u h e = elim (cases_eq i j) [
    | inl z ↦ rw (sym z) e
    | inr z ↦ past_other coordinator (row_at bytes i) (row_at bytes j) (rows_up_to bytes ok i j (omega arith) h) (first i (omega arith) ∙ le-ltb i n l) e
  ]

pub other_not : (coordinator resource : ℕ) (r : Row) → (r.key.coordinator ≡ coordinator → ⊥) → of_pair coordinator resource r ≡ false
other_not coordinator resource r h = rw (ne_eqb r.key.coordinator coordinator h)

kept_none : (p : Row → Bool) (rs : List Row) → AllByRecursion (λ r. p r ≡ false) rs → filter p rs ≡ []
kept_none p [] h = refl
kept_none p (r ∷ rs) h = rw h.0 (kept_none p rs h.1)

module _ (bytes : List ℕ) (coordinator resource : ℕ) where
  abbrev own : Row → Bool
  own = of_pair coordinator resource

  pub none_so_far : (n : ℕ) → n ≤ row_count bytes → ((i : ℕ) → i < n → own (row_at bytes i) ≡ false) → pair_rows coordinator resource (take n (rows bytes)) ≡ []
  none_so_far n l h =
      pair_kept coordinator resource (take n (rows bytes))
      ∙ kept_none own (take n (rows bytes)) (All-from_get_or (λ r. own r ≡ false) (take n (rows bytes)) no_row at)
    where
      at : (i : ℕ) → i < length (take n (rows bytes)) → own (get_or (take n (rows bytes)) i no_row) ≡ false
      at i k =
          let e = length-take-le n (rows bytes) (omega (arith, length_rows bytes)) in
          let w : i < n = omega arith in
          ap own (get_or-take n (rows bytes) i no_row w ∙ row_by_place bytes i no_row (omega arith)) ∙ h i w

  pub none_left : (n : ℕ) → ((i : ℕ) → n ≤ i → i < row_count bytes → own (row_at bytes i) ≡ false) → pair_rows coordinator resource (take n (rows bytes)) ≡ pair_rows coordinator resource (rows bytes)
  none_left n h =
      let some = take n (rows bytes) in
      let rest = drop n (rows bytes) in
      pair_kept coordinator resource some
      ∙ sym (append-nil (filter own some))
      ∙ ap (λ l. filter own some ++ l) (sym (kept_none own rest (All-from_get_or (λ r. own r ≡ false) rest no_row at)))
      ∙ sym (filter-append own some rest)
      ∙ ap (filter own) (take-append-drop n (rows bytes))
      ∙ sym (pair_kept coordinator resource (rows bytes))
    where
      at : (i : ℕ) → i < length (drop n (rows bytes)) → own (get_or (drop n (rows bytes)) i no_row) ≡ false
      at i k =
          let e = length-drop n (rows bytes) in
          let w : n + i < row_count bytes = omega (arith, length_rows bytes) in
          ap own (get_or-drop n (rows bytes) i no_row ∙ row_by_place bytes (n + i) no_row w) ∙ h (n + i) (omega arith) w

  -- what the rows of the pair keep to
  pub all_of_pair : (P : Row → Type 0) → ((i : ℕ) → i < row_count bytes → own (row_at bytes i) ≡ true → P (row_at bytes i)) → AllByRecursion P (pair_rows coordinator resource (rows bytes))
  all_of_pair P h =
      subst (AllByRecursion P) (sym (pair_kept coordinator resource (rows bytes)))
      (both (filter own (rows bytes)) (kept_by_passes own (rows bytes)) (all_kept_by own (λ r. own r ≡ true → P r) (rows bytes) (all_rows bytes (λ r. own r ≡ true → P r) h)))
    where
      both : (rs : List Row) → AllByRecursion (λ r. own r ≡ true) rs → AllByRecursion (λ r. own r ≡ true → P r) rs → AllByRecursion P rs
      both [] a b = tt
      both (r ∷ rs) a b = (b.0 a.0, both rs a.1 b.1)
