-- What the writers answer, step by step as the code decides it, and what an accepted writing says.
use Rattle.std.proofs.Common.{◌≡◌, refl, ap, sym, ◌∙◌, Bool, true, false, ◌↔◌, List, ℕ, ◌+◌, ◌^◌, ◌≤◌, arith, leb, le-leb, leb-true}
use Rattle.refusal.specs.Outcome.{Outcome, accepted, refused, bind, test, map, Reason, reason, row}
use Rattle.refusal.proofs.Outcome.{clash, bind_inverse, map-map, map-accepted, map-refused, test-true, test_passed}
use Rattle.packed.specs.Packed.{Bytes, Below, room}
use Rattle.packed.proofs.Calls.{room-all, room_fits}
use Rattle.value.specs.Tree.{Val, ValInGrammar, SizeOfV}
use Rattle.grammar.specs.Check.{check_grammar}
use Rattle.grammar.specs.Rule.{Passes}
use Rattle.grammar.specs.Tree.{tree_of}
use Rattle.grammar.proofs.Rule.{accepted_exactly as grammar_exactly}
use Rattle.rows.specs.Walk.{walk}
use Rattle.rows.proofs.Calls.{Table, passed}
use Rattle.sizing.specs.InGrammar.{check_in_grammar}
use Rattle.sizing.specs.Checks.{Standing}
use Rattle.sizing.specs.Writes.{value_in_grammar, check_size, value_to_write, marshall_val_of, Writes}
use Rattle.sizing.proofs.InGrammar.{in_grammar_exactly}

-- ---- the decision, as the code makes it

-- the value of a table that came to a size
pub table-sized : (t : List ℕ) (n : ℕ) (s : List ℕ) → Below (2 ^ 64) t → Bytes s → {size : ℕ} → accepted size ≡ map SizeOfV (walk t n s) → (h : Table t n s) × (size ≡ SizeOfV h.value)
table-sized t n s words bytes e =
    let h = passed t n s words bytes (ap (map (λ _. tt)) e ∙ map-map (λ _. tt) SizeOfV (walk t n s)) in
    let x = map-accepted SizeOfV (walk t n s) (sym e) in
    let q : accepted x.0 ≡ accepted h.value = sym x.1 ∙ h.walked in
    let v : x.0 ≡ h.value = cc in
    (h, x.2 ∙ ap SizeOfV v)

pub table_stands : (t : List ℕ) (n : ℕ) (s : List ℕ) → Table t n s → Standing t 0
table_stands t n s h = record { store = s; value = h.value; rows = h.table.rows; within = omega (arith, h.table.words, h.table.count) }

module _ (g t : List ℕ) (n : ℕ) (s : List ℕ) where
  pub value-grammar : {e : Reason} → refused e ≡ check_grammar g → refused e ≡ map SizeOfV (value_in_grammar g t n s)
  unfolding value_in_grammar
  value-grammar h = rw (← h)

  module _ (a : accepted tt ≡ check_grammar g) where
    pub value-rows : {e : Reason} → refused e ≡ map SizeOfV (walk t n s) → refused e ≡ map SizeOfV (value_in_grammar g t n s)
    unfolding value_in_grammar
    value-rows h = rw (← a, map-refused SizeOfV (walk t n s) (sym h))

    module _ (h : Table t n s) where
      pub value-refused : {e : Reason} → refused e ≡ check_in_grammar h.value (tree_of g 0) 0 → refused e ≡ map SizeOfV (value_in_grammar g t n s)
      unfolding value_in_grammar
      value-refused c = rw (← a, h.walked, ← c)

      pub value-accepted : accepted tt ≡ check_in_grammar h.value (tree_of g 0) 0 → {size : ℕ} → size ≡ SizeOfV h.value → accepted size ≡ map SizeOfV (value_in_grammar g t n s)
      unfolding value_in_grammar
      value-accepted c z = rw (z, ← a, h.walked, ← c)

-- what is decided of a value by its size, whichever rule of bytes that is
module _ (sizeBy : Val → ℕ) where
  -- no value, no size, whatever is asked of a value behind it
  pub size_stops : (f : Val → ℕ) (o : Outcome Reason Val) (k l : Val → Outcome Reason Val) {e : Reason} → refused e ≡ map f o → refused e ≡ map sizeBy (bind (bind o k) l)
  size_stops f o k l h = rw (map-refused f o (sym h))

  module _ (len index : ℕ) where
    -- 16, then 17
    pub size-fits : (o : Outcome Reason Val) {size : ℕ} → accepted size ≡ map sizeBy o → bind (check_size size size) (λ n. map (λ _. n) (room len index n)) ≡ map sizeBy (bind (bind o (λ v. check_size (sizeBy v) v)) (λ v. map (λ _. v) (room len index (sizeBy v))))
    size-fits (accepted v) {size} h = let z : size ≡ sizeBy v = cc in rw z (go (leb (sizeBy v) 1048576))
      where
        go : (b : Bool) → bind (test b (reason 16 (row 0)) (λ _. accepted (sizeBy v))) (λ n. map (λ _. n) (room len index n)) ≡ map sizeBy (bind (test b (reason 16 (row 0)) (λ _. accepted v)) (λ v. map (λ _. v) (room len index (sizeBy v))))
        go true = sym (map-map sizeBy (λ _. v) (room len index (sizeBy v)))
        go false = refl
    size-fits (refused e) h = clash (sym h)

    -- both are passed exactly by a value that is small and has room
    pub size-passes : (o : Outcome Reason Val) (v : Val) → o ≡ accepted v → sizeBy v ≤ 1048576 → index + sizeBy v ≤ len → bind (bind o (λ v. check_size (sizeBy v) v)) (λ v. map (λ _. v) (room len index (sizeBy v))) ≡ accepted v
    size-passes o v e l r = rw (e, le-leb (sizeBy v) 1048576 l, ← room-all len index (sizeBy v) r)

    pub size_passed : (o : Outcome Reason Val) (v : Val) → bind (bind o (λ v. check_size (sizeBy v) v)) (λ v. map (λ _. v) (room len index (sizeBy v))) ≡ accepted v → (o ≡ accepted v) × (sizeBy v ≤ 1048576) × (index + sizeBy v ≤ len)
    size_passed o v h =
        let a = bind_inverse (bind o (λ v. check_size (sizeBy v) v)) _ h in
        let b = bind_inverse o _ a.1 in
        let l : leb (sizeBy b.0) 1048576 ≡ true = test_passed (leb (sizeBy b.0) 1048576) (reason 16 (row 0)) (λ _. accepted b.0) a.0 b.2 in
        let e : accepted b.0 ≡ accepted a.0 = sym (test-true _ _ l) ∙ b.2 in
        let m = map-accepted (λ _. a.0) (room len index (sizeBy a.0)) a.2 in
        let w : b.0 ≡ a.0 = let q = e in cc in
        let u : v ≡ b.0 = m.2 ∙ sym w in
        rw u (b.1, leb-true (sizeBy b.0) 1048576 l, room_fits len index (sizeBy b.0) (sym (ap (λ (x : Val). room len index (sizeBy x)) w ∙ m.1)))

-- ---- when a value is written

-- v is the value of the rows, and of the grammar
pub record InGrammar (g t : List ℕ) (n : ℕ) (s : List ℕ) (v : Val) : Type 0 where
  pub grammar : Passes g
  pub rows : walk t n s ≡ accepted v
  pub in_grammar : ValInGrammar v (tree_of g 0)

module _ (g t : List ℕ) (n : ℕ) (s : List ℕ) (v : Val) where
  pub in_grammar-accepted : InGrammar g t n s v → value_in_grammar g t n s ≡ accepted v
  unfolding value_in_grammar
  in_grammar-accepted w = rw ((grammar_exactly g).1 w.grammar, w.rows, (in_grammar_exactly v (tree_of g 0) 0).1 w.in_grammar)

  pub accepted_in_grammar : value_in_grammar g t n s ≡ accepted v → InGrammar g t n s v
  unfolding value_in_grammar
  accepted_in_grammar h =
      let b = bind_inverse (check_grammar g) _ h in
      let c = bind_inverse (walk t n s) _ b.2 in
      let d = bind_inverse (check_in_grammar c.0 (tree_of g 0) 0) _ c.2 in
      let e : accepted c.0 ≡ accepted v = d.2 in
      let u : v ≡ c.0 = let q = e in cc in
      rw u (record { grammar = (grammar_exactly g).0 b.1; rows = c.1; in_grammar = (in_grammar_exactly c.0 (tree_of g 0) 0).0 d.1 })

module _ (g t : List ℕ) (n : ℕ) (s : List ℕ) (len index : ℕ) where
  pub write_accepted : (v : Val) → Writes g t n s len index v → marshall_val_of g t n s len index ≡ accepted v
  unfolding value_to_write marshall_val_of
  write_accepted v w =
      size-passes SizeOfV len index (value_in_grammar g t n s) v (in_grammar-accepted g t n s v (record { grammar = w.grammar; rows = w.rows; in_grammar = w.in_grammar })) w.small w.room

  pub accepted_writes : (v : Val) → marshall_val_of g t n s len index ≡ accepted v → Writes g t n s len index v
  unfolding value_to_write marshall_val_of
  accepted_writes v h =
      let p = size_passed SizeOfV len index (value_in_grammar g t n s) v h in
      let i = accepted_in_grammar g t n s v p.0 in
      record { grammar = i.grammar; rows = i.rows; in_grammar = i.in_grammar; small = p.1; room = p.2 }

  -- a value is written exactly where nothing is to be refused
  pub write_exactly : (v : Val) → (marshall_val_of g t n s len index ≡ accepted v) ↔ Writes g t n s len index v
  write_exactly v = (accepted_writes v, write_accepted v)
