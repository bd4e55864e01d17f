-- The walk is accepted exactly where the rows are a table of a value.
use Rattle.std.proofs.Common.{◌≡◌, refl, ap, sym, ◌∙◌, Bool, true, false, ◌&&◌, ◌↔◌, List, [], ◌∷◌, append-nil, ℕ, zero, suc, ◌+◌, ◌-◌, ◌*◌, ◌^◌, ◌≤◌, ◌<◌, arith, length, get_or, take, drop, length-drop, eqb, lit<, le-leb, leb-true, lt-ltb, eq-eqb, eqb-true}
use Rattle.std.proofs.Math.Decide.{dec_lt}
use Rattle.std.proofs.Math.ListN.{get_or-eq_default}
use Rattle.refusal.specs.Outcome.{Outcome, accepted, bind, Reason}
use Rattle.refusal.proofs.Outcome.{holds, fails, post_bind, post_weaken, post_reflects, post_accepted, test-true}
use Rattle.refusal.proofs.Tests.{and-true, reflects_leb, reflects_ltb, reflects_eqb, reflects_and}
use Rattle.packed.specs.Packed.{Bytes, Below, pack_little_endian_seq, unpack_little_endian_seq}
use Rattle.packed.proofs.Laws.{bytes_drop, length_unpack_seq, unpack_seq_take, unpack_seq_pack_seq, pack_seq_unpack_seq}
use Rattle.value.specs.Kinds.{width, number_kind, element_width, elements_kind, Kind, kinds, kind_of, constant, number, array, tuple, elements, union, other}
use Rattle.value.specs.Tree.{Val, Vals, VConstant, VNumber, VArray, VTuple, VNumberArray, VCase, vnil, vcons, seq_v, ValidVal, ValidVals, TypedVal, TypedVals, SizeOfV, SeqSum, row_count, row_counts}
use Rattle.value.proofs.KindLaws.{number-kind, elements-kind, kind-other}
use Rattle.value.proofs.Laws.{unpack_seq_below}
use Rattle.value.proofs.Agreement.{row_count_positive}
use Rattle.tables.specs.Row.{row_width, Row, row_at}
use Rattle.rows.specs.Layout.{own_row}
use Rattle.rows.specs.Walk.{keeps_rule, within_store, child_count, row_value, check_row, walk_children, check_size_word, walk_to, walk_row, walk}
use Rattle.rows.specs.Rule.{RowOf, StandFor, StandForAll, TableOf}
use Rattle.rows.specs.Size.{child_sizes}
use Rattle.rows.proofs.Laws.{Gives, gives-map, row_eq, Passed, row_post, children_of, children-none, size_right, walk-row, reflects_rows}

-- ---- from the rows to the walk

pub own_span : (v : Val) (place : ℕ) → (own_row v place).span ≡ row_count v
unfolding own_row
own_span VConstant place = refl
own_span (VNumber k n) place = refl
own_span (VArray vs) place = refl
own_span (VTuple vs) place = refl
own_span (VNumberArray k ns) place = refl
own_span (VCase c v) place = refl

own_row-size : (v : Val) (place : ℕ) → (own_row v place).size ≡ SizeOfV v
unfolding own_row
own_row-size VConstant place = refl
own_row-size (VNumber k n) place = refl
own_row-size (VArray vs) place = refl
own_row-size (VTuple vs) place = refl
own_row-size (VNumberArray k ns) place = refl
own_row-size (VCase c v) place = refl

module _ (t s : List ℕ) where
  pub own_row_lem : (v : Val) (i : ℕ) → StandFor t s i v → RowOf t i v
  unfolding StandFor
  own_row_lem VConstant i h = h
  own_row_lem (VNumber k n) i h = h
  own_row_lem (VArray vs) i h = h.0
  own_row_lem (VTuple vs) i h = h.0
  own_row_lem (VNumberArray k ns) i h = h.0
  own_row_lem (VCase c v) i h = h.0

  pub row-span : (v : Val) (i : ℕ) → StandFor t s i v → (row_at t i).span ≡ row_count v
  row-span v i h = ap (λ (r : Row). r.span) (own_row_lem v i h) ∙ own_span v (row_at t i).word3

  -- a row says the size of its value
  pub row-size : (v : Val) (i : ℕ) → StandFor t s i v → (row_at t i).size ≡ SizeOfV v
  row-size v i h = ap (λ (r : Row). r.size) (own_row_lem v i h) ∙ own_row-size v (row_at t i).word3

  children_more : (parent end count i n : ℕ) (v : Val) (vs : Vals) → i < end → (row_at t i).span ≡ n → walk_row t s end i ≡ accepted v → children_of t s parent end count (i + n) ≡ accepted vs → children_of t s parent end (suc count) i ≡ accepted (vcons v vs)
  unfolding walk_children
  children_more parent end count i n v vs h e a b = test-true _ _ (lt-ltb i end h) ∙ rw (a, e, b)

  -- what row i comes to where its words are r
  abbrev step : Row → ℕ → ℕ → Outcome Reason Val
  step r end i = bind (check_row r (length s) i end) (λ count. bind (children_of t s i (i + r.span) count (suc i)) (λ vs. check_size_word r i (row_value (kind_of r.kind) r s vs)))

  -- a row that passes by itself, is of class c and says its value's size, and its children
  passes : (i end : ℕ) {r : Row} {c : Kind} {vs : Vals} → row_at t i ≡ r → kind_of r.kind ≡ c → 1 ≤ r.span → i + r.span ≤ end → keeps_rule c r ≡ true → within_store c r (length s) ≡ true → children_of t s i (i + r.span) (child_count c r) (suc i) ≡ accepted vs → r.size ≡ SizeOfV (row_value c r s vs) → walk_row t s end i ≡ accepted (row_value c r s vs)
  unfolding check_row
  passes i end {r} {c} {vs} e k m h p w d z =
      let l : (row_at t i).span ≡ r.span = ap (λ (x : Row). x.span) e in
      walk-row t s end i (omega arith) ∙ ap (λ (x : Row). step x end i) e
      ∙ rw (k, le-leb 1 r.span m, le-leb (i + r.span) end h, p, w, d) (size_right t s r i (row_value c r s vs) z)

  mutual
    unfolding StandFor own_row row_value row_count TypedVal kind_of kinds

    pub stands_walk : (v : Val) (i end : ℕ) → TypedVal v → i + row_count v ≤ end → StandFor t s i v → walk_row t s end i ≡ accepted v
    stands_walk VConstant i end d h st = passes i end {vs = vnil} st refl (omega arith) h refl refl (children-none t s i (i + 1) (suc i) (omega arith)) refl
    stands_walk (VNumber k n) i end d h st = passes i end {vs = vnil} st (number-kind k) (omega arith) h (rw (lt-ltb n (256 ^ width k) d)) refl (children-none t s i (i + 1) (suc i) (omega arith)) refl
    stands_walk (VArray vs) i end d h st = passes i end st.0 refl (omega arith) h refl refl (stands_children vs i (suc i) (i + row_count (VArray vs)) d (omega arith) st.1) refl
    stands_walk (VTuple vs) i end d h st = passes i end st.0 refl (omega arith) h refl refl (stands_children vs i (suc i) (i + row_count (VTuple vs)) d (omega arith) st.1) refl
    stands_walk (VNumberArray k ns) i end d h st =
        let w = element_width k in
        let place = (row_at t i).word3 in
        let e : unpack_little_endian_seq w (take (w * length ns) (drop place s)) (length ns) ≡ ns = ap (λ (l : List ℕ). unpack_little_endian_seq w l (length ns)) (st.1.bytes ∙ sym (append-nil (pack_little_endian_seq w ns))) ∙ unpack_seq_pack_seq w ns [] d in
        passes i end {vs = vnil} st.0 (elements-kind k) (omega arith) h refl (le-leb (place + w * length ns) (length s) st.1.within) (children-none t s i (i + 1) (suc i) (omega arith)) (sym (ap (λ (l : List ℕ). SizeOfV (VNumberArray k l)) e)) ∙ rw e
    stands_walk (VCase c v) i end d h st =
        passes i end st.0 refl (omega arith) h refl refl
        (children_more i (i + row_count (VCase c v)) 0 (suc i) (row_count v) v vnil (omega (arith, row_count_positive v)) (row-span v (suc i) st.1)
        (stands_walk v (suc i) (i + row_count (VCase c v)) d.1 (omega arith) st.1)
        (children-none t s i (i + row_count (VCase c v)) (suc i + row_count v) (omega arith)))
        refl

    pub stands_children : (vs : Vals) (parent i end : ℕ) → TypedVals vs → i + row_counts vs ≡ end → StandForAll t s i vs → children_of t s parent end (length (seq_v vs)) i ≡ accepted vs
    stands_children vnil parent i end d h st = children-none t s parent end i (omega arith)
    stands_children (vcons v vs) parent i end d h st =
        children_more parent end (length (seq_v vs)) i (row_count v) v vs (omega (arith, row_count_positive v)) (row-span v i st.0)
        (stands_walk v i end d.0 (omega arith) st.0)
        (stands_children vs parent (i + row_count v) end d.1 (omega arith) st.1)

-- ---- from the walk to the rows

-- the kind word of a class
abbrev pub word_of : Kind → ℕ
word_of constant = 0
word_of (number k) = number_kind k
word_of array = 3
word_of tuple = 4
word_of (elements k) = elements_kind k
word_of union = 8
word_of other = 0

-- the kinds of a list have the words from b on
abbrev numbered : List Kind → ℕ → Bool
numbered [] b = true
numbered (k ∷ l) b = eqb (word_of k) b && numbered l (suc b)

word_in : (l : List Kind) (b w : ℕ) → numbered l b ≡ true → w < length l → word_of (get_or l w other) ≡ b + w
word_in [] b w h m = absurd (omega arith)
word_in (k ∷ l) b zero h m = eqb-true (word_of k) b (and-true (eqb (word_of k) b) (numbered l (suc b)) h).0 ∙ omega arith
word_in (k ∷ l) b (suc w) h m = word_in l (suc b) w (and-true (eqb (word_of k) b) (numbered l (suc b)) h).1 (omega arith) ∙ omega arith

-- a kind word that the papers name is its class's
pub kind-word : (w : ℕ) → (kind_of w ≡ other → ⊥) → w ≡ word_of (kind_of w)
unfolding kind_of kinds
kind-word w h = go (dec_lt w (length kinds))
  where
    go : Dec (w < length kinds) → w ≡ word_of (kind_of w)
    go (yes l) = sym (word_in kinds 0 w refl l ∙ omega arith)
    go (no l) = absurd (h (kind-other w (omega arith)))

pub class_word : (w : ℕ) {c : Kind} → (c ≡ other → ⊥) → kind_of w ≡ c → w ≡ word_of c
class_word w n e = kind-word w (λ o. n (sym e ∙ o)) ∙ ap word_of e

-- so the kind word of a row that keeps its rule is its class's
kind-is : (r : Row) {c : Kind} → kind_of r.kind ≡ c → keeps_rule c r ≡ true → r.kind ≡ word_of c
kind-is r {c} e h = class_word r.kind (λ o. let z : false ≡ true = ap (λ (k : Kind). keeps_rule k r) (sym o) ∙ h in let y : ◌≡◌ {A = ℕ} 0 1 = cc in omega arith) e

-- past the end of a table of words stands 0
word_below : (t : List ℕ) → Below (2 ^ 64) t → (j : ℕ) → get_or t j 0 < 2 ^ 64
word_below t b j = go (dec_lt j (length t))
  where
    go : Dec (j < length t) → get_or t j 0 < 2 ^ 64
    go (yes l) = b j l
    go (no l) = rw (get_or-eq_default t 0 {n = j} (omega arith)) (lit< tt)

-- what is known of a value walked from row i on, and of values walked from row i up to `end`
pub record Walked (t s : List ℕ) (end i : ℕ) (v : Val) : Type 0 where
  pub rows : StandFor t s i v
  pub valid : ValidVal v
  pub typed : TypedVal v
  pub reach : i + row_count v ≤ end

pub record WalkedAll (t s : List ℕ) (end count i : ℕ) (vs : Vals) : Type 0 where
  pub rows : StandForAll t s i vs
  pub valid : ValidVals vs
  pub typed : TypedVals vs
  pub reach : i + row_counts vs ≡ end
  pub many : length (seq_v vs) ≡ count
  pub sizes : child_sizes t count i ≡ SeqSum vs

module _ (t s : List ℕ) (words : Below (2 ^ 64) t) (bytes : Bytes s) where
  pub children-walked : (f : ℕ → Outcome Reason Val) (parent end : ℕ) → ((j : ℕ) → Gives (Walked t s end j) (f j)) → (count i : ℕ) → i ≤ end → Gives (WalkedAll t s end count i) (walk_children t f parent end count i)
  unfolding walk_children StandFor ValidVal TypedVal row_count child_sizes SizeOfV
  children-walked f parent end g zero i h =
      post_reflects _ _ _ (reflects_eqb i end) (λ e. holds _ (record { rows = tt; valid = tt; typed = tt; reach = omega arith; many = refl; sizes = refl })) (λ _. tt)
  children-walked f parent end g (suc count) i h =
      post_reflects _ _ _ (reflects_ltb i end) (λ l. post_bind _ (g i) (λ v p.
      let e : (row_at t i).span ≡ row_count v = row-span t s v i p.rows in
      let z = row-size t s v i p.rows in
      rw e (gives-map (vcons v) (children-walked f parent end g count (i + row_count v) p.reach) (λ vs q.
      record { rows = (p.rows, q.rows); valid = (p.valid, q.valid); typed = (p.typed, q.typed); reach = omega (arith, q.reach); many = ap suc q.many; sizes = omega (arith, z, ap (λ (n : ℕ). child_sizes t count (i + n)) e, q.sizes) }))))
      (λ _. tt)

  -- a row that counts its children
  counted-row : (c : Kind) (i : ℕ) (vs : Vals) {size : ℕ} → kind_of (row_at t i).kind ≡ c → keeps_rule c (row_at t i) ≡ true → (row_at t i).word3 ≡ 0 → WalkedAll t s (i + (row_at t i).span) (row_at t i).word2 (suc i) vs → (row_at t i).size ≡ size → row_at t i ≡ record { kind = word_of c; span = 1 + row_counts vs; word2 = length (seq_v vs); word3 = 0; size = size }
  counted-row c i vs e o u q z = row_eq (row_at t i) (kind-is (row_at t i) e o) (omega (arith, q.reach)) (sym q.many) u z

  counted-below : (i : ℕ) (vs : Vals) → WalkedAll t s (i + (row_at t i).span) (row_at t i).word2 (suc i) vs → length (seq_v vs) < 2 ^ 64
  counted-below i vs q = rw q.many (word_below t words (row_width * i + 2))

  -- the value of a row of class c that passes by itself and says its size, by its children's
  row_walked : (c : Kind) (i end : ℕ) (vs : Vals) → kind_of (row_at t i).kind ≡ c → Passed (row_at t i) (length s) i end (child_count c (row_at t i)) → WalkedAll t s (i + (row_at t i).span) (child_count c (row_at t i)) (suc i) vs → (row_at t i).size ≡ SizeOfV (row_value c (row_at t i) s vs) → Walked t s end i (row_value c (row_at t i) s vs)
  unfolding StandFor ValidVal TypedVal row_count row_value own_row
  row_walked constant i end vs e p q z =
      let r = row_at t i in
      let o = rw e at p.rule in
      let x = (reflects_and (reflects_eqb r.span 1) (reflects_and (reflects_eqb r.word2 0) (reflects_eqb r.word3 0))).1 o in
      record { rows = row_eq r (kind-is r e o) x.0 x.1.0 x.1.1 z; valid = tt; typed = tt; reach = omega (arith, p.reach, x.0) }
  row_walked (number k) i end vs e p q z =
      let r = row_at t i in
      let o = rw e at p.rule in
      let x = (reflects_and (reflects_eqb r.span 1) (reflects_and (reflects_ltb r.word2 (256 ^ width k)) (reflects_eqb r.word3 0))).1 o in
      record { rows = row_eq r (kind-is r e o) x.0 refl x.1.1 z; valid = tt; typed = x.1.0; reach = omega (arith, p.reach, x.0) }
  row_walked array i end vs e p q z =
      let o = rw e at p.rule in
      record { rows = (counted-row array i vs e o (eqb-true (row_at t i).word3 0 o) q z, q.rows); valid = (counted-below i vs q, q.valid); typed = q.typed; reach = omega (arith, p.reach, q.reach) }
  row_walked tuple i end vs e p q z =
      let o = rw e at p.rule in
      record { rows = (counted-row tuple i vs e o (eqb-true (row_at t i).word3 0 o) q z, q.rows); valid = (counted-below i vs q, q.valid); typed = q.typed; reach = omega (arith, p.reach, q.reach) }
  row_walked (elements k) i end vs e p q z =
      let r = row_at t i in
      let w = element_width k in
      let o = rw e at p.rule in
      let n : r.span ≡ 1 = eqb-true r.span 1 o in
      let f : r.word3 + w * r.word2 ≤ length s = leb-true (r.word3 + w * r.word2) (length s) (rw e at p.within) in
      let u : unpack_little_endian_seq w (take (w * r.word2) (drop r.word3 s)) r.word2 ≡ unpack_little_endian_seq w (drop r.word3 s) r.word2 = unpack_seq_take w r.word2 (w * r.word2) (drop r.word3 s) (omega arith) in
      let l : length (unpack_little_endian_seq w (drop r.word3 s) r.word2) ≡ r.word2 = length_unpack_seq w (drop r.word3 s) r.word2 in
      let y : r.size ≡ SizeOfV (VNumberArray k (unpack_little_endian_seq w (drop r.word3 s) r.word2)) = z ∙ ap (λ (x : List ℕ). SizeOfV (VNumberArray k x)) u in
      rw u (record {
        rows = (row_eq r (kind-is r e o) n (sym l) refl y, record { within = rw l f; bytes = rw l (sym (pack_seq_unpack_seq w r.word2 (drop r.word3 s) (bytes_drop r.word3 s bytes) (rw length-drop (omega arith)))) });
        valid = rw l (word_below t words (row_width * i + 2));
        typed = unpack_seq_below w (drop r.word3 s) r.word2 (bytes_drop r.word3 s bytes);
        reach = omega (arith, p.reach);
      })
  row_walked union i end vnil e p q z = absurd (omega (arith, q.many))
  row_walked union i end (vcons v vnil) e p q z =
      let r = row_at t i in
      let o = rw e at p.rule in
      let n : r.span ≡ 1 + row_count v = omega (arith, q.reach) in
      record { rows = (row_eq r (kind-is r e o) n refl (eqb-true r.word3 0 o) z, q.rows.0); valid = q.valid.0; typed = (word_below t words (row_width * i + 2), q.typed.0); reach = omega (arith, p.reach) }
  row_walked union i end (vcons v (vcons u vs)) e p q z = absurd (omega (arith, q.many))
  row_walked other i end vs e p q z = let o : false ≡ true = rw e at p.rule in let y : ◌≡◌ {A = ℕ} 0 1 = cc in absurd (omega arith)

  pub walk-walked : (depth end i : ℕ) → Gives (Walked t s end i) (walk_to t s depth end i)
  unfolding walk_to check_size_word
  walk-walked zero end i = fails _ tt
  walk-walked (suc depth) end i = post_bind _ (row_post (row_at t i) (length s) i end) (λ count p.
      let e : count ≡ child_count (kind_of (row_at t i).kind) (row_at t i) = p.children in
      post_bind _ (children-walked (walk_to t s depth (i + (row_at t i).span)) i (i + (row_at t i).span) (walk-walked depth (i + (row_at t i).span)) count (suc i) (omega (arith, p.some))) (λ vs q.
      post_reflects _ _ _ (reflects_eqb (row_at t i).size (SizeOfV (row_value (kind_of (row_at t i).kind) (row_at t i) s vs)))
      (λ z. holds _ (row_walked (kind_of (row_at t i).kind) i end vs refl (rw e at p) (rw e at q) z)) (λ _. tt)))

-- ---- the whole table

pub table-walked : (t : List ℕ) (n : ℕ) (s : List ℕ) → Below (2 ^ 64) t → Bytes s → Gives (TableOf t n s) (walk t n s)
unfolding walk
table-walked t n s words bytes =
    post_reflects _ _ _ (reflects_leb (length s) 1048576)
    (λ a. post_reflects _ _ _ (reflects_rows t n)
    (λ b. post_reflects _ _ _ (reflects_eqb (row_at t 0).span n)
    (λ e. post_weaken (λ v p. record { store = a; few = b.1.0; words = b.1.1; count = sym (row-span t s v 0 p.rows) ∙ e; rows = p.rows; valid = p.valid; typed = p.typed }) (λ _ _. tt) (walk-walked t s words bytes (n - 0) n 0))
    (λ _. tt)) (λ _. tt)) (λ _. tt)

pub table-accepted : (t : List ℕ) (n : ℕ) (s : List ℕ) (v : Val) → TableOf t n s v → walk t n s ≡ accepted v
unfolding walk
table-accepted t n s v h =
    let p : 0 < n = omega (arith, h.count, row_count_positive v) in
    test-true _ _ (le-leb (length s) 1048576 h.store)
    ∙ test-true _ _ ((reflects_rows t n).0 (p, (h.few, h.words)))
    ∙ test-true _ _ (eq-eqb (row_at t 0).span n (row-span t s v 0 h.rows ∙ h.count))
    ∙ stands_walk t s v 0 n h.typed (omega (arith, h.count)) h.rows

-- words and bytes are what the code's slices hold
pub accepted_exactly : (t : List ℕ) (n : ℕ) (s : List ℕ) (v : Val) → Below (2 ^ 64) t → Bytes s → (walk t n s ≡ accepted v) ↔ TableOf t n s v
accepted_exactly t n s v words bytes = (λ e. post_accepted (rw e at (table-walked t n s words bytes)), table-accepted t n s v)
