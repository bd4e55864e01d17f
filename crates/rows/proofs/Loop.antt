-- The loops over rows, which add up own sizes or put own bytes one behind the other, by any rule of own bytes and of own sizes.
use Rattle.std.proofs.Common.{◌≡◌, refl, ap, sym, ◌∙◌, true, List, [], ◌++◌, append_assoc, append-nil, ℕ, zero, suc, ◌+◌, ◌-◌, ◌*◌, ◌≤◌, ◌<◌, zero-add, suc-add, add-zero, mul-suc, mul-le-mul_left, arith, length, length-append}
use Rattle.packed.specs.Packed.{put}
use Rattle.packed.proofs.Put.{length-put, put_more}
use Rattle.value.specs.Kinds.{Kind, kind_of}
use Rattle.tables.specs.Row.{Row, row_at}
use Rattle.rows.specs.Walk.{within_store}
use Rattle.rows.specs.Rule.{RowHolds}
use Rattle.rows.specs.Size.{of_row, own_at, own_from, sum_from}

-- ---- sizes added up

module _ (size : Kind → Row → ℕ) (t : List ℕ) where
  size_join : (m i n : ℕ) → sum_from size t i (m + n) ≡ sum_from size t i m + sum_from size t (i + m) n
  unfolding sum_from
  size_join zero i n = rw (zero-add n, add-zero i) (omega arith)
  size_join (suc m) i n = let e : i + suc m ≡ suc i + m = omega arith in rw (suc-add, size_join m (suc i) n, e) (omega arith)

  pub size_none : (i : ℕ) → 0 ≡ sum_from size t i 0
  unfolding sum_from
  size_none i = refl

  pub size-next : (n : ℕ) → sum_from size t 0 n + of_row size t n ≡ sum_from size t 0 (n + 1)
  unfolding sum_from
  size-next n = sym (size_join n 0 1 ∙ rw (zero-add n) (omega arith))

  -- a row of n ends where they do at the latest
  pub size-within : (i n : ℕ) → i < n → sum_from size t 0 i + of_row size t i ≤ sum_from size t 0 n
  size-within i n h =
      let e : (i + 1) + (n - (i + 1)) ≡ n = omega arith in
      omega (arith, size-next i, size_join (i + 1) 0 (n - (i + 1)), ap (sum_from size t 0) e)

  module _ (most : ℕ) where
    size-most : (n i : ℕ) → ((j : ℕ) → i ≤ j → j < i + n → of_row size t j ≤ most) → sum_from size t i n ≤ most * n
    unfolding sum_from
    size-most zero i h = omega arith
    size-most (suc n) i h = omega (arith, mul-suc most n, h i (omega arith) (omega arith), size-most n (suc i) (λ j a b. h j (omega arith) (omega arith)))

    pub size_below : (n i : ℕ) → i ≤ n → ((j : ℕ) → j < n → of_row size t j ≤ most) → sum_from size t 0 i ≤ most * n
    size_below n i l h = omega (arith, mul-le-mul_left most l, size-most i 0 (λ j a b. h j (omega arith)))

-- ---- bytes one behind the other

-- a row's own bytes are as many as its own size says, where its array is in the store
abbrev pub Sized : (Kind → Row → List ℕ → List ℕ) → (Kind → Row → ℕ) → Type 0
Sized own size = (k : Kind) (r : Row) (s : List ℕ) → within_store k r (length s) ≡ true → length (own k r s) ≡ size k r

module _ (own : Kind → Row → List ℕ → List ℕ) (t s : List ℕ) where
  pub bytes_join : (m i n : ℕ) → own_from own t s i (m + n) ≡ own_from own t s i m ++ own_from own t s (i + m) n
  unfolding own_from
  bytes_join zero i n = rw (zero-add, add-zero)
  bytes_join (suc m) i n = let e : i + suc m ≡ suc i + m = omega arith in rw (suc-add, bytes_join m (suc i) n, e, append_assoc)

  pub bytes-none : (i : ℕ) → own_from own t s i 0 ≡ []
  unfolding own_from
  bytes-none i = refl

  pub bytes_next : (i : ℕ) → own_from own t s 0 i ++ own_at own t s i ≡ own_from own t s 0 (i + 1)
  unfolding own_from
  bytes_next i = sym (bytes_join i 0 1 ∙ rw (zero-add i, append-nil))

  module _ (size : Kind → Row → ℕ) (sized : Sized own size) where
    length_from : (n i : ℕ) → ((j : ℕ) → i ≤ j → j < i + n → RowHolds t s j) → length (own_from own t s i n) ≡ sum_from size t i n
    unfolding own_from sum_from
    length_from zero i h = omega arith
    length_from (suc n) i h =
        rw (length-append, sized (kind_of (row_at t i).kind) (row_at t i) s (h i (omega arith) (omega arith)).within, length_from n (suc i) (λ j a b. h j (omega arith) (omega arith)))

    module _ (n : ℕ) (h : (j : ℕ) → j < n → RowHolds t s j) where
      pub put-length : (i : ℕ) → i ≤ n → length (own_from own t s 0 i) ≡ sum_from size t 0 i
      put-length i l = length_from i 0 (λ j a b. h j (omega arith))

      -- after row i, whose bytes are put behind those of the rows before it
      pub rows_next : (out : List ℕ) (index : ℕ) → index + sum_from size t 0 n ≤ length out → (mid exit : List ℕ) (at i : ℕ) → i < n → at ≡ index + sum_from size t 0 i → mid ≡ put out index (own_from own t s 0 i) → exit ≡ put mid at (own_at own t s i) → (exit ≡ put out index (own_from own t s 0 (i + 1))) × (length exit ≡ length out)
      rows_next out index f mid exit at i l a m e =
          let x = put-length i (omega arith) in
          let y = sized (kind_of (row_at t i).kind) (row_at t i) s (h i l).within in
          let z = size-within size t i n l in
          let k : at ≡ index + length (own_from own t s 0 i) = omega arith in
          let r : exit ≡ put out index (own_from own t s 0 (i + 1)) = e ∙ ap (λ (o : List ℕ). put o at (own_at own t s i)) m ∙ put_more out index (own_from own t s 0 i) (own_at own t s i) at k (omega arith) ∙ ap (put out index) (bytes_next i) in
          (r, ap length r ∙ length-put out index (own_from own t s 0 (i + 1)) (omega (arith, put-length (i + 1) (omega arith), size-next size t i)))
