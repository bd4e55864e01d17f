-- The byte rule by rows: a value's bytes are its rows' own, its size is the sum of their own sizes, and it is bounded; and the size of a
-- row whose children have passed.
use Rattle.std.proofs.Common.{◌≡◌, refl, ap, sym, subst, ◌∙◌, Bool, true, false, List, ℕ, suc, ◌+◌, ◌-◌, ◌*◌, ◌^◌, ◌≤◌, ◌<◌, add-one, arith, length, take, drop, length-append, length-drop, length-take-le, eqb, leb-true}
use Rattle.refusal.specs.Outcome.{accepted, test, reason, row}
use Rattle.refusal.proofs.Outcome.{post_accepted}
use Rattle.packed.specs.Packed.{Bytes, Below}
use Rattle.packed.proofs.Laws.{length_pack, length_unpack_seq}
use Rattle.value.specs.Kinds.{Number, uint32, uint64, int32, int64, width, element_width, Kind, kind_of, constant, number, array, tuple, elements, union, other}
use Rattle.value.specs.Tree.{Val, Vals, VConstant, VNumber, VArray, VTuple, VNumberArray, VCase, vnil, vcons, SizeOfV, SeqSum, row_count, row_counts}
use Rattle.value.specs.Bytes.{bytes_of, bytes_of_all}
use Rattle.value.proofs.Laws.{length_bytes_of}
use Rattle.tables.specs.Row.{Row, row_at}
use Rattle.rows.specs.Layout.{own_row}
use Rattle.rows.specs.Walk.{within_store, child_count, row_value, check_row, check_size_word, walk_row}
use Rattle.rows.specs.Rule.{StandFor, StandForAll, TableOf}
use Rattle.rows.specs.Size.{own_bytes, own_size, own_size_at, bytes_from, size_from, most_own_size, child_sizes, ChildrenHold}
use Rattle.rows.proofs.Laws.{ends, ends-accepted, row_passed, children_of, row_sized, first-walked}
use Rattle.rows.proofs.Rule.{row-size, WalkedAll, children-walked, walk-walked}
use Rattle.rows.proofs.Parts.{table-holds}
use Rattle.rows.proofs.Loop.{Sized}
use Rattle.rows.proofs.Spelling.{Spelling, table_own, table-sum}

pub length-own_bytes : Sized own_bytes own_size
unfolding own_bytes
length-own_bytes constant r s h = refl
length-own_bytes (number k) r s h = length_pack (width k) r.word2
length-own_bytes array r s h = length_pack 8 r.word2
length-own_bytes tuple r s h = refl
length-own_bytes (elements k) r s h =
    let f = leb-true (r.word3 + element_width k * r.word2) (length s) h in
    rw (length-append, length_pack, length-take-le (element_width k * r.word2) (drop r.word3 s) (rw length-drop (omega arith)))
length-own_bytes union r s h = length_pack 8 r.word2
length-own_bytes other r s h = refl

-- the byte rule is a spelling
pub record_spelling : Spelling own_bytes bytes_of bytes_of_all
unfolding own_row own_bytes bytes_of
record_spelling = record {
  of_constant = λ place s. refl;
  of_number = λ k n place s. refl;
  of_array = λ vs place s. refl;
  of_tuple = λ vs place s. refl;
  of_number_array = λ k ns place s h. rw h.bytes;
  of_case = λ c v place s. refl;
  of_none = refl;
  of_more = λ v vs. refl;
}

-- ---- the bound

width-most : (k : Number) → width k ≤ 8
width-most uint32 = omega arith
width-most uint64 = omega arith
width-most int32 = omega arith
width-most int64 = omega arith

-- a row's own bytes are those of an array at most, which lie in the store
pub own_most : (k : Kind) (r : Row) (len : ℕ) → within_store k r len ≡ true → len ≤ 1048576 → own_size k r ≤ most_own_size
own_most constant r len h l = omega arith
own_most (number k) r len h l = omega (arith, width-most k)
own_most array r len h l = omega arith
own_most tuple r len h l = omega arith
own_most (elements k) r len h l = omega (arith, leb-true (r.word3 + element_width k * r.word2) len h)
own_most union r len h l = omega arith
own_most other r len h l = omega arith

-- so a value has at most so many for each of its rows
module _ (t s : List ℕ) (short : length s ≤ 1048576) where
  mutual
    unfolding StandFor SizeOfV row_count

    size-rows : (v : Val) (i : ℕ) → StandFor t s i v → SizeOfV v ≤ most_own_size * row_count v
    size-rows VConstant i h = omega arith
    size-rows (VNumber k n) i h = omega (arith, width-most k)
    size-rows (VArray vs) i h = omega (arith, sizes-rows vs (suc i) h.1)
    size-rows (VTuple vs) i h = omega (arith, sizes-rows vs (suc i) h.1)
    size-rows (VNumberArray k ns) i h = omega (arith, h.1.within)
    size-rows (VCase c v) i h = omega (arith, size-rows v (suc i) h.1)

    sizes-rows : (vs : Vals) (i : ℕ) → StandForAll t s i vs → SeqSum vs ≤ most_own_size * row_counts vs
    sizes-rows vnil i h = omega arith
    sizes-rows (vcons v vs) i h = omega (arith, size-rows v i h.0, sizes-rows vs (i + row_count v) h.1)

module _ (t : List ℕ) (n : ℕ) (s : List ℕ) (v : Val) (h : TableOf t n s v) where
  pub table-small : (j : ℕ) → j < n → own_size_at t j ≤ most_own_size
  table-small j l = own_most (kind_of (row_at t j).kind) (row_at t j) (length s) (table-holds t n s v h j l).within h.store

  pub table-bytes : bytes_from t s 0 n ≡ bytes_of v
  table-bytes = table_own record_spelling t n s v h

  pub table-size : size_from t 0 n ≡ SizeOfV v
  table-size = table-sum record_spelling t n s v h own_size length-own_bytes ∙ length_bytes_of v

  -- row 0 says it
  pub table_says : (row_at t 0).size ≡ SizeOfV v
  table_says = row-size t s v 0 h.rows

  -- never above 4,293,951,488: a value with children has at most 8 bytes of its own, and each of the other 4,095 rows at most 1,048,584
  pub table_bound : SizeOfV v ≤ 4293951488
  unfolding StandFor SizeOfV row_count
  table_bound = go v h.rows (omega (arith, h.count, h.few))
    where
      go : (u : Val) → StandFor t s 0 u → row_count u ≤ 4096 → SizeOfV u ≤ 4293951488
      go VConstant st f = omega arith
      go (VNumber k n) st f = omega (arith, width-most k)
      go (VArray vs) st f = omega (arith, sizes-rows t s h.store vs 1 st.1)
      go (VTuple vs) st f = omega (arith, sizes-rows t s h.store vs 1 st.1)
      go (VNumberArray k ns) st f = omega (arith, st.1.within, h.store)
      go (VCase c v) st f = omega (arith, size-rows t s h.store v 1 st.1)

-- ---- the size of a row whose children have passed

module _ (t s : List ℕ) (words : Below (2 ^ 64) t) (bytes : Bytes s) where
  -- by its class: its own bytes, and what its children's rows say
  value-size : (c : Kind) (i end : ℕ) (vs : Vals) → WalkedAll t s end (child_count c (row_at t i)) (suc i) vs → SizeOfV (row_value c (row_at t i) s vs) ≡ own_size c (row_at t i) + child_sizes t (child_count c (row_at t i)) (suc i)
  unfolding row_value SizeOfV child_sizes
  value-size constant i end vs q = refl
  value-size (number k) i end vs q = omega arith
  value-size array i end vs q = omega (arith, q.sizes)
  value-size tuple i end vs q = omega (arith, q.sizes)
  value-size (elements k) i end vs q = rw (length_unpack_seq (element_width k) (take (element_width k * (row_at t i).word2) (drop (row_at t i).word3 s)) (row_at t i).word2) (omega arith)
  value-size union i end vnil q = absurd (omega (arith, q.many))
  value-size union i end (vcons v vnil) q = omega (arith, q.sizes)
  value-size union i end (vcons v (vcons u vs)) q = absurd (omega (arith, q.many))
  value-size other i end vs q = refl

  -- children that passed, as values
  passed_children : (i end count : ℕ) → i < end → accepted tt ≡ ends (children_of t s i end count (i + 1)) → (vs : Vals) × (children_of t s i end count (i + 1) ≡ accepted vs) × WalkedAll t s end count (i + 1) vs
  passed_children i end count l h =
      let p = ends-accepted (children_of t s i end count (i + 1)) h in
      (p.0, p.1, post_accepted (rw p.1 at (children-walked t s words bytes (walk_row t s end) i end (λ j. walk-walked t s words bytes (end - j) end j) count (i + 1) (omega arith))))

  -- their sizes are small enough to be added up
  pub children_hold_lem : (i end count : ℕ) → i < end → end ≤ 4096 → length s ≤ 1048576 → accepted tt ≡ ends (children_of t s i end count (i + 1)) → ChildrenHold t count (i + 1)
  children_hold_lem i end count l f a h =
      let p = passed_children i end count l h in
      record { store = s; parent = i; end = end; values = p.0; few = f; reach = omega arith; walked = p.1; small = omega (arith, p.2.sizes, p.2.reach, sizes-rows t s a p.0 (i + 1) p.2.rows) }

  -- and with the row's own bytes they decide
  pub size_decides : (end i : ℕ) {count : ℕ} → i < end → accepted count ≡ check_row (row_at t i) (length s) i end → accepted tt ≡ ends (children_of t s i (i + (row_at t i).span) count (i + 1)) → test (eqb (row_at t i).size (own_size_at t i + child_sizes t count (i + 1))) (reason 13 (row i)) accepted ≡ ends (walk_row t s end i)
  unfolding check_size_word
  size_decides end i {count} l r h =
      let a = row_passed (row_at t i) (length s) i end count r in
      let p = passed_children i (i + (row_at t i).span) count (omega (arith, a.some)) h in
      let k = kind_of (row_at t i).kind in
      let v = row_value k (row_at t i) s p.0 in
      let q : WalkedAll t s (i + (row_at t i).span) (child_count k (row_at t i)) (suc i) p.0 = subst (λ (n : ℕ). WalkedAll t s (i + (row_at t i).span) n (suc i) p.0) a.children (subst (λ (n : ℕ). WalkedAll t s (i + (row_at t i).span) count n p.0) (add-one i) p.2) in
      let e : SizeOfV v ≡ own_size_at t i + child_sizes t count (i + 1) = value-size k i (i + (row_at t i).span) p.0 q ∙ ap (λ (n : ℕ). own_size_at t i + child_sizes t n (suc i)) (sym a.children) ∙ ap (λ (n : ℕ). own_size_at t i + child_sizes t count n) (sym (add-one i)) in
      sym (ap ends (row_sized t s end i l r p.1) ∙ go (eqb (row_at t i).size (SizeOfV v)) v ∙ ap (λ (n : ℕ). test (eqb (row_at t i).size n) (reason 13 (row i)) accepted) e)
    where
      go : (b : Bool) (v : Val) → ends (test b (reason 13 (row i)) (λ _. accepted v)) ≡ test b (reason 13 (row i)) accepted
      go true v = refl
      go false v = refl

-- ---- the loop over children: the sizes of those that are left

module _ (t : List ℕ) (left i : ℕ) (h : 0 < left) where
  pub sizes-next : child_sizes t left i ≡ (row_at t i).size + child_sizes t (left - 1) (i + (row_at t i).span)
  unfolding child_sizes
  sizes-next = let e : left ≡ suc (left - 1) = omega arith in ap (λ (n : ℕ). child_sizes t n i) e

  pub hold_next : ChildrenHold t left i → ChildrenHold t (left - 1) (i + (row_at t i).span)
  hold_next c =
      let p = first-walked t c.store c.parent c.end left i h c.walked in
      record { store = c.store; parent = c.parent; end = c.end; values = p.values; few = c.few; reach = p.reach; walked = p.walked; small = omega (arith, c.small, sizes-next) }

pub sizes_done : (t : List ℕ) (left i : ℕ) → left ≤ 0 → child_sizes t left i ≡ 0
unfolding child_sizes
sizes_done t left i h = let e : left ≡ 0 = omega arith in ap (λ (n : ℕ). child_sizes t n i) e
