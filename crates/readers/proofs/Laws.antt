-- The steps of a reading as the code takes them.
use mathlib.Core.Path.{◌≡◌, refl, ap, sym, ◌∙◌}
use mathlib.Core.Bool.{Bool, true, false}
use mathlib.Core.List.{List, [], ◌∷◌}
use Prim.Native.Nat.{ℕ, ◌+◌, ◌-◌, ◌*◌, ◌/◌, ◌≤◌, ◌<◌}
use native.Mathlib.Numerals.{add-one}
use native.Mathlib.Omega.{arith}
use lib.ListN.{length, take, drop, length-drop}
use lib.Seq.{take_all}
use lib.Dec.{leb}
use borrow.Author.Tests.{lt-ltb, le-ltb, le-leb, leb-true}
use Rattle.refusal.specs.Outcome.{Outcome, accepted, refused, test, map, Reason, reason, byte}
use Rattle.refusal.proofs.Outcome.{map-accepted, test-true, test-false}
use Rattle.packed.specs.Packed.{present, unpack_at, unpack_little_endian, unpack_little_endian_seq}
use Rattle.packed.proofs.Calls.{present-fits}
use Rattle.value.specs.Step.{Step, yield, next}
use Rattle.value.specs.Reading.{State, Stop, Reading, stop, move, claim, take_number, take_numbers}
use Rattle.value.specs.Kinds.{kind_of, other, Elements, element_width, elements_kind, last_kind}
use Rattle.value.specs.Tree.{VNumberArray, SizeOfV, row_count}
use Rattle.tables.specs.Grammar.{node_count, kind_word, first_word, count_word}
use Rattle.grammar.specs.Rule.{ChildRule, ChildrenRule}
use Rattle.grammar.proofs.Rule.{node-inside as grammar-node-inside, node-named as grammar_node-named, child_inside as grammar_child_inside}
use Rattle.tables.specs.Row.{laid}
use Rattle.rows.specs.Layout.{own_row, rows_of}
use Rattle.readers.specs.declared.State.{State as CodeState}
use Rattle.std.specs.Prelude.{Ok, Err}
use Rattle.readers.specs.declared.Stopped.{Stopped}
use Rattle.readers.specs.Meaning.{stop_of, state_of}
use Rattle.readers.specs.Reads.{Node, Reads}

-- Steps.

module _ (at begun capacity : ℕ) where
  pub claim-next : begun < capacity → accepted (record { at = at; begun = begun + 1 }) ≡ claim capacity (record { at = at; begun = begun })
  unfolding claim
  claim-next h = rw add-one (sym (test-true _ _ (lt-ltb begun capacity h)))

  pub claim-stop : capacity ≤ begun → refused (record { why = reason 8 (byte at); state = record { at = at; begun = begun + 1 } }) ≡ claim capacity (record { at = at; begun = begun })
  unfolding claim
  claim-stop h = rw add-one (sym (test-false _ _ (le-ltb begun capacity h)))

-- what an unpacked number comes to in a reading from s
abbrev pub unpacked : ℕ → State → Outcome Reason ℕ → Reading ℕ
unpacked w s (accepted n) = yield n (move w s)
unpacked w s (refused r) = refused (record { why = r; state = s })

pub take-unpacked : (d : List ℕ) (w : ℕ) (s : State) → s.at ≤ length d → unpacked w s (unpack_at w d s.at) ≡ take_number d w s
unfolding take_number present
take-unpacked d w s h = rw (le-leb s.at (length d) h) (go (leb (s.at + w) (length d)))
  where
    go : (b : Bool) → unpacked w s (map (unpack_little_endian w) (map (λ _. take w (drop s.at d)) (test b (reason 9 (byte s.at)) accepted))) ≡ test b (stop 9 s) (λ _. yield (unpack_little_endian w (take w (drop s.at d))) (move w s))
    go true = refl
    go false = refl

-- What a test's outcome says.

pub test-refused : {E A : Type 0} (b : Bool) (e : E) (a : A) {x : E} → refused x ≡ test b e (λ _. accepted a) → (b ≡ false) × (x ≡ e)
test-refused true e a h = let z : ◌≡◌ {A = ℕ} 0 1 = cc in absurd (omega arith)
test-refused false e a h = (refl, cc)

pub test-accepted : {E A : Type 0} (b : Bool) (e : E) (a : A) {x : A} → accepted x ≡ test b e (λ _. accepted a) → (b ≡ true) × (x ≡ a)
test-accepted true e a h = (refl, cc)
test-accepted false e a h = let z : ◌≡◌ {A = ℕ} 0 1 = cc in absurd (omega arith)

-- a number that was taken was there
pub take_moves : (d : List ℕ) (w : ℕ) (s : State) (n : ℕ) (t : State) → yield n t ≡ take_number d w s → (t ≡ move w s) × (s.at + w ≤ length d)
unfolding take_number
take_moves d w s n t h =
    let x = test-accepted (leb (s.at + w) (length d)) (stop 9 s) (record { value = unpack_little_endian w (take w (drop s.at d)); state = move w s }) h in
    (ap (λ (u : Step State ℕ). u.state) x.1, leb-true (s.at + w) (length d) x.0)

-- Numbers behind a count.

module _ (d : List ℕ) (w : ℕ) (s : State) where
  pub numbers_stopped : {e : Stop} → refused e ≡ take_number d 8 s → refused e ≡ take_numbers d w s
  unfolding take_numbers
  numbers_stopped h = ap (λ (x : Reading ℕ). next x (λ n t. test (leb n ((length d - s.at - 8) / w)) (stop 9 s) (λ _. yield (unpack_little_endian_seq w (take (w * n) (drop t.at d)) n) (move (w * n) t)))) h

  module _ (n : ℕ) (t : State) (h : yield n t ≡ take_number d 8 s) where
    counted : test (leb n ((length d - s.at - 8) / w)) (stop 9 s) (λ _. yield (unpack_little_endian_seq w (take (w * n) (drop t.at d)) n) (move (w * n) t)) ≡ take_numbers d w s
    unfolding take_numbers
    counted = ap (λ (x : Reading ℕ). next x (λ n t. test (leb n ((length d - s.at - 8) / w)) (stop 9 s) (λ _. yield (unpack_little_endian_seq w (take (w * n) (drop t.at d)) n) (move (w * n) t)))) h

    pub numbers-missing : leb n ((length d - s.at - 8) / w) ≡ false → refused (stop 9 s) ≡ take_numbers d w s
    numbers-missing e = sym (test-false _ _ e) ∙ counted

    pub numbers_taken : leb n ((length d - s.at - 8) / w) ≡ true → yield (unpack_little_endian_seq w (take (w * n) (drop t.at d)) n) (move (w * n) t) ≡ take_numbers d w s
    numbers_taken e = sym (test-true _ _ e) ∙ counted

-- the row of numbers behind their count
pub elements-row : (k : Elements) (ns : List ℕ) {kind count place size : ℕ} (p : ℕ) → kind ≡ elements_kind k → count ≡ length ns → place ≡ p + 8 → size ≡ 8 + element_width k * length ns → kind ∷ 1 ∷ count ∷ place ∷ size ∷ [] ≡ rows_of (VNumberArray k ns) p
unfolding rows_of own_row row_count SizeOfV
elements-row k ns p e l m z = rw (e, l, m, z)

-- What the code did beside a reading.

module _ {A : Type 0} {rows_at : A → ℕ → List ℕ} {x : Reading A} {capacity row p : ℕ} {entry exit : List ℕ} where
  pub reads_stopped : (z : Stopped) → refused (stop_of z) ≡ x → z.state.capacity ≡ capacity → Reads rows_at x capacity row p entry (Err z) exit
  reads_stopped z e c = record {
    answers = ap (λ (y : Reading A). map (λ t. t.state) y) e;
    keeps = c;
    rows = λ t f. let z : ◌≡◌ {A = ℕ} 0 1 = cc in absurd (omega arith);
  }

  pub reads_next : (u : CodeState) (a : A) → yield a (state_of u) ≡ x → u.capacity ≡ capacity → exit ≡ laid entry row (rows_at a p) → Reads rows_at x capacity row p entry (Ok u) exit
  reads_next u a e c l = record {
    answers = ap (λ (y : Reading A). map (λ t. t.state) y) e;
    keeps = c;
    rows = λ t f. let q : record { value = a; state = state_of u } ≡ t = cc in l ∙ ap (λ (y : Step State A). laid entry row (rows_at y.value p)) q;
  }

-- an unpacked number was there
pub unpacked-fits : (w : ℕ) (d : List ℕ) (at n : ℕ) → accepted n ≡ unpack_at w d at → at + w ≤ length d
unpacked-fits w d at n h =
    let x = map-accepted (unpack_little_endian w) (map (λ _. take w (drop at d)) (present (length d) at w)) (sym h) in
    let y = map-accepted (λ _. take w (drop at d)) (present (length d) at w) x.1 in
    present-fits (length d) at w (sym y.1)

-- the child words of a node in a table that passes lie within it
pub child_inside : (t : List ℕ) (k i : ℕ) → Node t k → i < count_word t k → (3 + 3 * k < length t) × (2 + 3 * node_count t + (first_word t k + i) < length t) × (node_count t ≤ 256) × (first_word t k ≤ 1024) × ChildRule t k (first_word t k + i)
child_inside t k i n h = grammar_child_inside t n.passes k n.below i h

-- where a number was taken
pub taken_at : (d : List ℕ) (w : ℕ) (s : State) (n : ℕ) (u : CodeState) → yield n (state_of u) ≡ take_number d w s → (u.at ≡ s.at + w) × (s.at + w ≤ length d)
taken_at d w s n u h = let m = take_moves d w s n (state_of u) h in (ap (λ (t : State). t.at) m.0, m.1)

-- the part handed on, from byte p to the end
pub part_from : (d : List ℕ) (p : ℕ) → take (length d - p) (drop p d) ≡ drop p d
part_from d p = take_all (length d - p) (drop p d) (rw length-drop (omega arith))

part_length : (d : List ℕ) (p : ℕ) → length (take (length d - p) (drop p d)) ≡ length d - p
part_length d p = rw (part_from d p, length-drop)

-- an array's body, decided on the part behind the count n of the value at s
module _ (d : List ℕ) (w : ℕ) (s : State) (n : ℕ) (u : CodeState) (h : yield n (state_of u) ≡ take_number d 8 s) where
  abbrev body : ℕ → Outcome Reason ℕ
  body left = test (leb n (left / w)) (reason 9 (byte s.at)) (λ _. accepted (w * n))

  decided : {o : Outcome Reason ℕ} → o ≡ body (length (take (length d - u.at) (drop u.at d))) → o ≡ body (length d - s.at - 8)
  decided b =
      let e : length (take (length d - u.at) (drop u.at d)) ≡ length d - s.at - 8 = part_length d u.at ∙ omega (arith, (taken_at d 8 s n u h).0) in
      b ∙ ap body e

  pub body_missing : {f : Reason} → refused f ≡ body (length (take (length d - u.at) (drop u.at d))) → refused (record { why = f; state = s }) ≡ take_numbers d w s
  body_missing b =
      let x = test-refused (leb n ((length d - s.at - 8) / w)) (reason 9 (byte s.at)) (w * n) (decided b) in
      ap (λ (y : Reason). refused (record { why = y; state = s })) x.1 ∙ numbers-missing d w s n (state_of u) h x.0

  pub body_bytes : {m : ℕ} → accepted m ≡ body (length (take (length d - u.at) (drop u.at d))) → (m ≡ w * n) × (yield (unpack_little_endian_seq w (take (w * n) (drop u.at d)) n) (move (w * n) (state_of u)) ≡ take_numbers d w s) × (n ≤ (length d - s.at - 8) / w)
  body_bytes b =
      let x = test-accepted (leb n ((length d - s.at - 8) / w)) (reason 9 (byte s.at)) (w * n) (decided b) in
      (x.1, numbers_taken d w s n (state_of u) h x.0, leb-true n ((length d - s.at - 8) / w) x.0)

-- a node's kind word names a kind
pub node-named : (t : List ℕ) (k : ℕ) → Node t k → kind_of (kind_word t k) ≡ other → ⊥
node-named t k n = grammar_node-named t n.passes k n.below

-- a node's words lie within its table
pub node-inside : (t : List ℕ) (k : ℕ) → Node t k → (3 + 3 * k < length t) × (k < 256) × (kind_word t k ≤ last_kind) × ChildrenRule t k
node-inside t k n = grammar-node-inside t n.passes k n.below
