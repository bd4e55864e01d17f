-- The whole import: it accepts exactly the XDR bytes of the values whose rows and arrays fit, and gives the only one.
use Rattle.std.proofs.Common.{◌≡◌, refl, sym, ap, ◌∙◌, ◌↔◌, ◌⊎◌, inl, inr, List, [], ◌++◌, append-nil, ℕ, ◌+◌, ◌≤◌, ◌<◌, arith, length, eqb, eqb→eq, eq-eqb}
use Rattle.std.proofs.Math.Seq.{drop-length}
use Rattle.refusal.specs.Outcome.{accepted, refused, reason, byte}
use Rattle.refusal.proofs.Outcome.{Post, fails, post_test, post_accepted, test-true}
use Rattle.packed.specs.Packed.{Bytes}
use Rattle.value.specs.Tree.{G, Val, ValidGrammar, ValueOf, row_count}
use Rattle.value.specs.Step.{Step, next}
use Rattle.value.proofs.Agreement.{gives}
use Rattle.xdr.specs.Xdr.{xdr_of, xdr_size, store_of}
use Rattle.xdr.specs.Import.{Filling, Importing, start, import_val, import_whole, import_to, at_end}
use Rattle.xdr.proofs.Import.{Small, Fate, fits, few, tight, import_fate, TakesVal, import_takes}

-- ---- the XDR bytes of a value

module _ (capacity len : ℕ) {g : G} {v : Val} (o : ValueOf g v) (m : Small v) where
  front : (rest : List ℕ) → Fate capacity len v (xdr_size v) (row_count v) (length (store_of v)) start (import_val capacity len (xdr_of v ++ rest) g start)
  front rest = import_fate capacity len (xdr_of v ++ rest) o.in_grammar o.typed m start rest (omega arith) refl

  front_fits : (rest : List ℕ) → row_count v ≤ capacity → length (store_of v) ≤ len → import_val capacity len (xdr_of v ++ rest) g start ≡ accepted (import_to v start)
  front_fits rest r h = go (front rest)
    where
      go : {x : Importing Val} → Fate capacity len v (xdr_size v) (row_count v) (length (store_of v)) start x → x ≡ accepted (import_to v start)
      go (fits t i j k l n) = rw (i, j, k)
      go (few p i) = absurd (omega arith)
      go (tight i) = absurd (omega arith)

  whole : Fate capacity len v (xdr_size v) (row_count v) (length (store_of v)) start (import_val capacity len (xdr_of v) g start)
  whole = rw append-nil at (front [])

  pub whole-fits : row_count v ≤ capacity → length (store_of v) ≤ len → import_whole capacity len (xdr_of v) g ≡ accepted (import_to v start)
  unfolding import_whole
  whole-fits r h =
      let e : import_val capacity len (xdr_of v) g start ≡ accepted (import_to v start) = rw append-nil at (front_fits [] r h) in
      ap (λ (x : Importing Val). next x (at_end (xdr_of v))) e ∙ test-true _ _ (eq-eqb (0 + xdr_size v) (xdr_size v) (omega arith))

  -- rows too few with a store that is enough: 8
  pub whole-few : capacity < row_count v → length (store_of v) ≤ len → (p : ℕ) × (import_whole capacity len (xdr_of v) g ≡ refused (reason 8 (byte p)))
  unfolding import_whole
  whole-few r h = go whole
    where
      go : {x : Importing Val} → Fate capacity len v (xdr_size v) (row_count v) (length (store_of v)) start x → (p : ℕ) × (next x (at_end (xdr_of v)) ≡ refused (reason 8 (byte p)))
      go (fits t i j k l n) = absurd (omega arith)
      go (few p i) = (p, refl)
      go (tight i) = absurd (omega arith)

  -- rows enough with a store too short: 17 at its length
  pub whole_tight : row_count v ≤ capacity → len < length (store_of v) → import_whole capacity len (xdr_of v) g ≡ refused (reason 17 (byte len))
  unfolding import_whole
  whole_tight r h = go whole
    where
      go : {x : Importing Val} → Fate capacity len v (xdr_size v) (row_count v) (length (store_of v)) start x → next x (at_end (xdr_of v)) ≡ refused (reason 17 (byte len))
      go (fits t i j k l n) = absurd (omega arith)
      go (few p i) = absurd (omega arith)
      go (tight i) = refl

  -- both too short: one of the two
  pub whole_either : capacity < row_count v → len < length (store_of v) → ((p : ℕ) × (import_whole capacity len (xdr_of v) g ≡ refused (reason 8 (byte p)))) ⊎ (import_whole capacity len (xdr_of v) g ≡ refused (reason 17 (byte len)))
  unfolding import_whole
  whole_either r h = go whole
    where
      go : {x : Importing Val} → Fate capacity len v (xdr_size v) (row_count v) (length (store_of v)) start x → ((p : ℕ) × (next x (at_end (xdr_of v)) ≡ refused (reason 8 (byte p)))) ⊎ (next x (at_end (xdr_of v)) ≡ refused (reason 17 (byte len)))
      go (fits t i j k l n) = absurd (omega arith)
      go (few p i) = inl (p, refl)
      go (tight i) = inr refl

-- ---- what is accepted

-- d is the XDR bytes of v, a value of g whose rows and arrays fit
pub record Imported (capacity len : ℕ) (g : G) (d : List ℕ) (v : Val) : Type 0 where
  pub of_grammar : ValueOf g v
  pub small : Small v
  pub bytes : d ≡ xdr_of v
  pub rows : row_count v ≤ capacity
  pub store : length (store_of v) ≤ len

module _ (capacity len : ℕ) (d : List ℕ) (g : G) (w : ValidGrammar g) (b : Bytes d) where
  whole_post : Post (λ t. Imported capacity len g d t.value × (t ≡ import_to t.value start)) (λ _. Unit {0}) (import_whole capacity len d g)
  unfolding import_whole
  whole_post = go (import_takes capacity len d b g w start (omega arith) (omega arith))
    where
      go : {x : Importing Val} → TakesVal capacity len d (λ v. ValueOf g v × Small v) start x → Post (λ t. Imported capacity len g d t.value × (t ≡ import_to t.value start)) (λ _. Unit {0}) (next x (at_end d))
      go (Post.holds t x) = post_test (eqb t.state.at (length d)) _ _
          (λ e.
          let n : t.state.at ≡ length d = eqb→eq t.state.at (length d) e in
          let i : t.state.at ≡ 0 + xdr_size t.value = x.there.end in
          let j = x.begun in
          let k = x.used in
          let y : d ≡ xdr_of t.value = x.there.here ∙ rw (n, drop-length d) (append-nil (xdr_of t.value)) in
          gives (record { of_grammar = x.meets.0; small = x.meets.1; bytes = y; rows = omega (arith, x.claimed); store = omega (arith, x.filled) }, λ z. record { value = t.value; state = record { at = i z; begun = j z; used = k z } }))
          (λ _. tt)
      go (Post.fails e x) = fails e tt

  pub whole-accepted : (t : Step Filling Val) → import_whole capacity len d g ≡ accepted t → Imported capacity len g d t.value × (t ≡ import_to t.value start)
  whole-accepted t e = post_accepted (rw e at whole_post)

  pub whole_exactly : (v : Val) → (import_whole capacity len d g ≡ accepted (import_to v start)) ↔ Imported capacity len g d v
  whole_exactly v = (λ e. (whole-accepted (import_to v start) e).0, λ o. rw o.bytes (whole-fits capacity len o.of_grammar o.small o.rows o.store))

-- ---- one meaning: of two different values of one grammar neither has XDR bytes that begin the other's

module _ {g : G} {v u : Val} (o : ValueOf g v) (m : Small v) (q : ValueOf g u) (n : Small u) where
  pub one_meaning : (r s : List ℕ) → xdr_of v ++ r ≡ xdr_of u ++ s → v ≡ u
  one_meaning r s e =
      let capacity : ℕ = row_count v + row_count u in
      let len : ℕ = length (store_of v) + length (store_of u) in
      let a = front_fits capacity len o m r (omega arith) (omega arith) in
      let c = front_fits capacity len q n s (omega arith) (omega arith) in
      let f : accepted (import_to v start) ≡ accepted (import_to u start) = sym a ∙ ap (λ (d : List ℕ). import_val capacity len d g start) e ∙ c in
      let h : import_to v start ≡ import_to u start = cc in
      ap (λ (t : Step Filling Val). t.value) h
