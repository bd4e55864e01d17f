-- The steps of an import as the code takes them.
use mathlib.Core.Path.{◌≡◌, refl, ap, sym, ◌∙◌}
use mathlib.Core.Bool.{Bool, true, false}
use mathlib.Core.List.{List, [], ◌∷◌}
use Prim.Native.Nat.{ℕ, zero, suc, ◌+◌, ◌-◌, ◌*◌, ◌/◌, ◌^◌, ◌≤◌, ◌<◌}
use native.Mathlib.Nat.{add-zero, le_refl, mul-div_cancel_left}
use native.Mathlib.Numerals.{add-one}
use native.Mathlib.Omega.{arith}
use lib.ListN.{length, get_or, take, drop, length-drop}
use Rattle.std.proofs.lemmas.List.{drop_all}
use lib.Seq.{drop-cons, take_all, length-take-le}
use lib.Dec.{leb, ltb}
use borrow.Author.Tests.{lt-ltb, le-ltb, le-leb, leb-true, ne_eqb}
use Rattle.refusal.specs.Outcome.{Outcome, accepted, refused, bind, test, map, Fills, Reason, reason, byte}
use Rattle.refusal.specs.Meaning.{reason_of}
use Rattle.refusal.specs.declared.Refusal.{Refusal}
use Rattle.refusal.proofs.Outcome.{clash, map-accepted, test-true, test-false, post_accepted}
use Rattle.packed.specs.Packed.{Bytes, present, put_at, put_within}
use Rattle.packed.proofs.Laws.{bytes_drop, bytes_take}
use Rattle.packed.proofs.Fitting.{put_within-nothing}
use Rattle.packed.proofs.Calls.{present-fits}
use Rattle.big_endian.specs.BigEndian.{unpack_big_endian, unpack_big_endian_seq, unpack_big_endian_at, reverse_each}
use Rattle.big_endian.proofs.Laws.{unpack_big_below, unpack_big_take, reverse_each-take, pack_seq_unpack_big_seq}
use Rattle.value.specs.Kinds.{Number, width, Elements, element_width, constant, number, elements}
use Rattle.value.specs.Tree.{Gs, VConstant, VNumber, VNumberArray, SizeOfV, row_count}
use Rattle.value.specs.Step.{Step, yield, next, give}
use Rattle.value.proofs.KindLaws.{element_width_positive}
use Rattle.grammar.specs.Tree.{node_tree}
use Rattle.rows.specs.Layout.{own_row}
use Rattle.tables.specs.Row.{laid}
use Rattle.xdr.specs.Xdr.{padding, store_of, rows_in}
use Rattle.xdr.specs.Import.{Filling, Importing, refusal, move, fill, zeros, claim, take_number, check_body, take_body, take_numbers, import_body}
use Rattle.xdr.proofs.Import.{body_post}
use Rattle.importing.specs.declared.Filling.{Filling as CodeFilling}
use Rattle.std.specs.Prelude.{Ok, Err}
use Rattle.importing.specs.Meaning.{CodeStep, filling_of}
use Rattle.importing.specs.Brings.{Brings, take_below, node_at}

-- ---- a row, and a number

module _ (at begun used capacity : ℕ) where
  pub claim-next : begun < capacity → accepted (record { at = at; begun = begun + 1; used = used }) ≡ claim capacity (record { at = at; begun = begun; used = used })
  unfolding claim
  claim-next h = rw add-one (sym (test-true _ _ (lt-ltb begun capacity h)))

  pub claim-refused : capacity ≤ begun → refused (reason 8 (byte at)) ≡ claim capacity (record { at = at; begun = begun; used = used })
  unfolding claim
  claim-refused h = sym (test-false _ _ (le-ltb begun capacity h))

-- what an unpacked number comes to in an import from s
abbrev pub unpacked : ℕ → Filling → Outcome Reason ℕ → Importing ℕ
unpacked w s (accepted n) = yield n (move w s)
unpacked w s (refused r) = refused r

module _ (d : List ℕ) (w : ℕ) (s : Filling) where
  pub take-unpacked : s.at ≤ length d → (o : Outcome Reason ℕ) → o ≡ unpack_big_endian_at w d s.at → unpacked w s o ≡ take_number d w s
  unfolding take_number present
  take-unpacked h o e = ap (unpacked w s) e ∙ rw (le-leb s.at (length d) h) (go (leb (s.at + w) (length d)))
    where
      go : (b : Bool) → unpacked w s (map (unpack_big_endian w) (map (λ _. take w (drop s.at d)) (test b (reason 9 (byte s.at)) accepted))) ≡ test b (refusal 9 s) (λ _. yield (unpack_big_endian w (drop s.at d)) (move w s))
      go true = ap (λ (n : ℕ). yield n (move w s)) (unpack_big_take w w (drop s.at d) (le_refl w))
      go false = refl

  -- an unpacked number was there
  pub unpacked-fits : {n : ℕ} → accepted n ≡ unpack_big_endian_at w d s.at → s.at + w ≤ length d
  unpacked-fits h =
      let x = map-accepted (unpack_big_endian w) (map (λ _. take w (drop s.at d)) (present (length d) s.at w)) (sym h) in
      let y = map-accepted (λ _. take w (drop s.at d)) (present (length d) s.at w) x.1 in
      present-fits (length d) s.at w (sym y.1)

  -- and fits its bytes
  pub unpacked-below : Bytes d → {n : ℕ} → accepted n ≡ unpack_big_endian_at w d s.at → n < 256 ^ w
  unpacked-below b h =
      let x = map-accepted (unpack_big_endian w) (map (λ _. take w (drop s.at d)) (present (length d) s.at w)) (sym h) in
      let y = map-accepted (λ _. take w (drop s.at d)) (present (length d) s.at w) x.1 in
      rw (x.2, y.2) (unpack_big_below w (take w (drop s.at d)) (bytes_take w (drop s.at d) (bytes_drop s.at d b)))

module _ (d : List ℕ) (limit number : ℕ) (s : Filling) where
  pub below-refused : {e : Reason} → refused e ≡ take_number d 4 s → refused e ≡ take_below d limit number s
  unfolding take_below
  below-refused h = ap (λ (x : Importing ℕ). next x (λ n t. test (ltb n limit) (refusal number s) (λ _. yield n t))) h

  module _ (n : ℕ) (t : Filling) (h : yield n t ≡ take_number d 4 s) where
    pub below-number : n < limit → yield n t ≡ take_below d limit number s
    unfolding take_below
    below-number l = sym (test-true _ _ (lt-ltb n limit l)) ∙ ap (λ (x : Importing ℕ). next x (λ n t. test (ltb n limit) (refusal number s) (λ _. yield n t))) h

    pub below_limit : limit ≤ n → refused (refusal number s) ≡ take_below d limit number s
    unfolding take_below
    below_limit l = sym (test-false _ _ (le-ltb n limit l)) ∙ ap (λ (x : Importing ℕ). next x (λ n t. test (ltb n limit) (refusal number s) (λ _. yield n t))) h

-- ---- the padding

module _ (bs : List ℕ) (i : ℕ) where
  pub zeros-next : i < length bs → get_or bs i 0 ≡ 0 → zeros (drop i bs) ≡ zeros (drop (i + 1) bs)
  unfolding zeros
  zeros-next h e = rw (add-one, drop-cons bs i 0 h, e)

  pub zeros-not : i < length bs → (get_or bs i 0 ≡ 0 → ⊥) → zeros (drop i bs) ≡ false
  unfolding zeros
  zeros-not h e = rw (drop-cons bs i 0 h, ne_eqb (get_or bs i 0) 0 e)

  pub zeros-none : length bs ≤ i → zeros (drop i bs) ≡ true
  unfolding zeros
  zeros-none h = rw (drop_all i bs h)

-- ---- an array's body

-- what holds where nothing is refused
pub body_holds : (len used size : ℕ) (part : List ℕ) (p : ℕ) → accepted tt ≡ check_body len used size part p → (size + padding size ≤ length part) × (used + size ≤ len)
body_holds len used size part p h = let x = post_accepted (rw (← h) at (body_post len used size part p)) in (x.0, x.1)

-- a number that was taken was there
pub take_moves : (d : List ℕ) (w : ℕ) (s : Filling) (n : ℕ) (t : Filling) → yield n t ≡ take_number d w s → (t ≡ move w s) × (s.at + w ≤ length d)
unfolding take_number
take_moves d w s n t h = go (leb (s.at + w) (length d)) refl h
  where
    go : (b : Bool) → leb (s.at + w) (length d) ≡ b → yield n t ≡ test b (refusal 9 s) (λ _. yield (unpack_big_endian w (drop s.at d)) (move w s)) → (t ≡ move w s) × (s.at + w ≤ length d)
    go true e q = let z : ◌≡◌ {A = Step Filling ℕ} (record { value = n; state = t }) (record { value = unpack_big_endian w (drop s.at d); state = move w s }) = cc in (ap (λ (u : Step Filling ℕ). u.state) z, leb-true (s.at + w) (length d) e)
    go false e q = clash (sym q)

-- the part handed on, from byte p to the end
pub part_from : (d : List ℕ) (p : ℕ) → take (length d - p) (drop p d) ≡ drop p d
part_from d p = take_all (length d - p) (drop p d) (rw length-drop (omega arith))

-- the numbers behind a count
module _ (d : List ℕ) (len : ℕ) (k : Elements) (s : Filling) where
  pub numbers-refused : {e : Reason} → refused e ≡ take_number d 4 s → refused e ≡ take_numbers d len k s
  unfolding take_numbers
  numbers-refused h = ap (λ (x : Importing ℕ). next x (λ n t. take_body d len k n s t)) h

  module _ (n : ℕ) (t : Filling) (h : yield n t ≡ take_number d 4 s) where
    behind : take_body d len k n s t ≡ take_numbers d len k s
    unfolding take_numbers
    behind = ap (λ (x : Importing ℕ). next x (λ n t. take_body d len k n s t)) h

    pub numbers_body : {e : Reason} → refused e ≡ check_body len s.used (element_width k * n) (drop t.at d) s.at → refused e ≡ take_numbers d len k s
    numbers_body q = ap (λ (x : Outcome Reason (Unit {0})). bind x (λ _. yield (unpack_big_endian_seq (element_width k) (drop t.at d) n) (fill (element_width k * n) (move (element_width k * n + padding (element_width k * n)) t)))) q ∙ behind

    pub numbers_taken : accepted tt ≡ check_body len s.used (element_width k * n) (drop t.at d) s.at → yield (unpack_big_endian_seq (element_width k) (drop t.at d) n) (fill (element_width k * n) (move (element_width k * n + padding (element_width k * n)) t)) ≡ take_numbers d len k s
    numbers_taken q = ap (λ (x : Outcome Reason (Unit {0})). bind x (λ _. yield (unpack_big_endian_seq (element_width k) (drop t.at d) n) (fill (element_width k * n) (move (element_width k * n + padding (element_width k * n)) t)))) q ∙ behind

-- ---- what the code did beside an import

module _ {A : Type 0} {rows_at : A → ℕ → List ℕ} {storeAt : A → List ℕ} {size_at : A → ℕ} {x : Importing A} {row used size₀ : ℕ} {rows₀ store₀ rows₁ store₁ : List ℕ} where
  pub brings_refused : (r : Refusal) → refused (reason_of r) ≡ x → Brings rows_at storeAt size_at x row used size₀ rows₀ store₀ (Err r) rows₁ store₁
  brings_refused r e = record {
    answers = ap (λ (y : Importing A). map (λ t. t.state) y) e;
    rows = λ t f. clash (e ∙ f);
    store = λ t f. clash (e ∙ f);
    size = λ t f. clash (e ∙ f);
  }

  pub brings_next : (u : CodeFilling) (a : A) → yield a (filling_of u) ≡ x → rows₁ ≡ laid rows₀ row (rows_at a used) → store₁ ≡ put_within store₀ used (storeAt a) → u.size ≡ size₀ + size_at a → Brings rows_at storeAt size_at x row used size₀ rows₀ store₀ (Ok u) rows₁ store₁
  brings_next u a e l p z = record {
    answers = ap (λ (y : Importing A). map (λ t. t.state) y) e;
    rows = λ t f. l ∙ ap (λ (y : Step Filling A). laid rows₀ row (rows_at y.value used)) (same t f);
    store = λ t f. p ∙ ap (λ (y : Step Filling A). put_within store₀ used (storeAt y.value)) (same t f);
    size = λ t f. z ∙ ap (λ (y : Step Filling A). size₀ + size_at y.value) (same t f);
  }
    where
      same : (t : Step Filling A) → x ≡ accepted t → record { value = a; state = filling_of u } ≡ t
      same t f = let q : accepted (record { value = a; state = filling_of u }) ≡ accepted t = e ∙ f in cc

-- ---- the bytes of arrays

pub fills_within : (out : List ℕ) (index : ℕ) (bs : List ℕ) {o : Outcome Reason (Unit {0})} {exit : List ℕ} → Fills (put_at out index bs) o out exit → exit ≡ put_within out index bs
unfolding put_within
fills_within out index bs f = f.buffer

-- the elements of an array behind its count, from byte p on, as they lie in a store
pub elements_stored : (k : Elements) (d : List ℕ) (p n size : ℕ) → Bytes d → size ≡ element_width k * n → p + size ≤ length d → let part = take (p + size - p) (drop p d) in reverse_each (element_width k) part (length part / element_width k) ≡ store_of (VNumberArray k (unpack_big_endian_seq (element_width k) (drop p d) n))
unfolding store_of
elements_stored k d p n size b f h =
    let w = element_width k in
    let l : length (drop p d) ≡ length d - p = length-drop p d in
    let e : p + size - p ≡ w * n = omega arith in
    let m : length (take (w * n) (drop p d)) ≡ w * n = length-take-le (w * n) (drop p d) (omega arith) in
    let q : w * n / w ≡ n = mul-div_cancel_left n (element_width_positive k) in
    rw (e, m, q, reverse_each-take w n (w * n) (drop p d) (le_refl (w * n)), pack_seq_unpack_big_seq w n (drop p d) (bytes_drop p d b) (omega arith))

-- ---- values without children, by the kind of their node

module _ (capacity len : ℕ) (d : List ℕ) (s : CodeFilling) (gs : Gs) {row : ℕ} {rows₀ store₀ rows₁ : List ℕ} where
  pub arm_constant : {u : CodeFilling} → u ≡ s → rows₁ ≡ laid rows₀ row (0 ∷ 1 ∷ 0 ∷ 0 ∷ 0 ∷ []) → Brings rows_in store_of SizeOfV (import_body capacity len d (node_tree constant gs) (filling_of s)) row s.used s.size rows₀ store₀ (Ok u) rows₁ store₀
  unfolding import_body node_tree rows_in store_of own_row row_count SizeOfV
  arm_constant e h = rw e (brings_next s VConstant refl h (sym (put_within-nothing store₀ s.used)) (sym (add-zero s.size)))

  pub arm_number : (k : Number) {r : CodeStep} {store₁ : List ℕ} → Brings rows_in store_of SizeOfV (give (VNumber k) (take_number d (width k) (filling_of s))) row s.used s.size rows₀ store₀ r rows₁ store₁ → Brings rows_in store_of SizeOfV (import_body capacity len d (node_tree (number k) gs) (filling_of s)) row s.used s.size rows₀ store₀ r rows₁ store₁
  unfolding import_body node_tree
  arm_number k b = b

  pub arm_elements : (k : Elements) {r : CodeStep} {store₁ : List ℕ} → Brings rows_in store_of SizeOfV (give (VNumberArray k) (take_numbers d len k (filling_of s))) row s.used s.size rows₀ store₀ r rows₁ store₁ → Brings rows_in store_of SizeOfV (import_body capacity len d (node_tree (elements k) gs) (filling_of s)) row s.used s.size rows₀ store₀ r rows₁ store₁
  unfolding import_body node_tree
  arm_elements k b = b

-- ---- the nodes that words name

pub node-named : (t : List ℕ) (place : ℕ) → (place ≡ 0 → ⊥) → get_or t place 0 ≡ node_at t place
node-named t zero h = absurd (h refl)
node-named t (suc place) h = refl
