-- Keys and quantities in bytes that are cut into arrays.
use Rattle.std.proofs.Common.{◌≡◌, ℕ, zero, suc, ◌+◌, ◌*◌, ◌<◌, List, get_or, take, drop, ap, ◌∙◌, add-zero, arith, drop-drop}
use Rattle.std.proofs.lemmas.List.{get_or-take, get_or-drop}
use Rattle.std.specs.Simd.{first_chunks}
use Rattle.sheet.specs.Rows.{byte, key_at, quantity_at}

-- chunk i of n elements each
chunk_at : (n k : ℕ) (xs : List ℕ) (i : ℕ) (d : List ℕ) → i < k → get_or (first_chunks n k xs) i d ≡ take n (drop (n * i) xs)
chunk_at n zero xs i d h = absurd (omega arith)
chunk_at n (suc k) xs zero d h = let e : n * 0 ≡ 0 = omega arith in rw e
chunk_at n (suc k) xs (suc i) d h =
    let e : n + n * i ≡ n * suc i = omega arith in
    chunk_at n k (drop n xs) i d (omega arith) ∙ ap (take n) (drop-drop (n * i) n xs ∙ ap (λ m. drop m xs) e)

key_same : (xs ys : List ℕ) (j : ℕ) → ((k : ℕ) → k < 6 → byte xs k ≡ byte ys (j + k)) → key_at xs 0 ≡ key_at ys j
key_same xs ys j h =
    let a : byte xs 0 ≡ byte ys j = h 0 (omega arith) ∙ ap (byte ys) (add-zero j) in
    let b = h 1 (omega arith) in
    let c = h 2 (omega arith) in
    let d = h 3 (omega arith) in
    let e = h 4 (omega arith) in
    let f = h 5 (omega arith) in
    cc

quantity_same : (xs ys : List ℕ) (j : ℕ) → ((k : ℕ) → k < 4 → byte xs k ≡ byte ys (j + k)) → quantity_at xs 0 ≡ quantity_at ys j
quantity_same xs ys j h =
    let a : byte xs 0 ≡ byte ys j = h 0 (omega arith) ∙ ap (byte ys) (add-zero j) in
    let b = h 1 (omega arith) in
    let c = h 2 (omega arith) in
    let d = h 3 (omega arith) in
    cc

-- the bytes that are cut stand in others, from a place on
module _ (bytes xs : List ℕ) (from n i : ℕ) (d : List ℕ) (h : i < n) where
  byte_in : (size k : ℕ) → k < size → ((m : ℕ) → m < size * n → byte xs m ≡ byte bytes (from + m)) → size * i + k < size * n → byte (take size (drop (size * i) xs)) k ≡ byte bytes (from + size * i + k)
  byte_in size k l same inside =
      let e : from + (size * i + k) ≡ from + size * i + k = omega arith in
      get_or-take size (drop (size * i) xs) k 0 l
      ∙ get_or-drop (size * i) xs k 0
      ∙ same (size * i + k) inside
      ∙ ap (byte bytes) e

  pub key_in : ((m : ℕ) → m < 6 * n → byte xs m ≡ byte bytes (from + m)) → key_at (get_or (first_chunks 6 n xs) i d) 0 ≡ key_at bytes (from + 6 * i)
  key_in same = ap (λ ys. key_at ys 0) (chunk_at 6 n xs i d h) ∙ key_same (take 6 (drop (6 * i) xs)) bytes (from + 6 * i) (λ k u. byte_in 6 k u same (omega arith))

  pub quantity_in : ((m : ℕ) → m < 4 * n → byte xs m ≡ byte bytes (from + m)) → quantity_at (get_or (first_chunks 4 n xs) i d) 0 ≡ quantity_at bytes (from + 4 * i)
  quantity_in same = ap (λ ys. quantity_at ys 0) (chunk_at 4 n xs i d h) ∙ quantity_same (take 4 (drop (4 * i) xs)) bytes (from + 4 * i) (λ k u. byte_in 4 k u same (omega arith))
