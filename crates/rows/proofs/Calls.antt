-- What the calls over a table that passed rely on.
use Rattle.std.proofs.Common.{◌≡◌, refl, ap, sym, ◌∙◌, Bool, true, false, List, ℕ, ◌+◌, ◌*◌, ◌^◌, ◌≤◌, ◌<◌, arith, length, ltb, ltb-true, leb-true}
use Rattle.refusal.specs.Outcome.{Outcome, accepted, refused, bind, test, Reason, reason, row}
use Rattle.packed.specs.Packed.{Below, Bytes}
use Rattle.value.specs.Kinds.{element_width, Kind, kind_of, constant, number, array, tuple, elements, union, other}
use Rattle.value.specs.Tree.{Val}
use Rattle.tables.specs.Row.{Row, row_at}
use Rattle.rows.specs.Walk.{within_store, walk}
use Rattle.rows.specs.Rule.{TableOf}
use Rattle.rows.specs.Locate.{Part, look_up, elements_part, locate_array}
use Rattle.rows.proofs.Laws.{ends, ends-accepted}
use Rattle.rows.proofs.Rule.{accepted_exactly}
use Rattle.rows.proofs.Parts.{table-holds}

-- what goes on was accepted before
pub ends-bind : {A B : Type 0} (o : Outcome Reason A) (k : A → Outcome Reason B) (b : B) → accepted b ≡ bind o k → accepted tt ≡ ends o
ends-bind (accepted a) k b h = refl
ends-bind (refused e) k b h = let z : ◌≡◌ {A = ℕ} 0 1 = cc in absurd (omega arith)

-- the value of a table that passed
pub record Table (t : List ℕ) (n : ℕ) (s : List ℕ) : Type 0 where
  pub value : Val
  pub walked : walk t n s ≡ accepted value
  pub table : TableOf t n s value

-- a row of it that was found
pub record Found (m : ℕ) (t : List ℕ) (n : ℕ) (s : List ℕ) (i : ℕ) : Type 0 where
  pub below : i < n
  pub row : look_up m t n s i ≡ accepted (row_at t i)
  pub table : Table t n s

module _ (t : List ℕ) (n : ℕ) (s : List ℕ) (words : Below (2 ^ 64) t) (bytes : Bytes s) where
  pub passed : accepted tt ≡ ends (walk t n s) → Table t n s
  passed h =
      let p = ends-accepted (walk t n s) h in
      record { value = p.0; walked = p.1; table = (accepted_exactly t n s p.0 words bytes).0 p.1 }

  pub found : (m i : ℕ) → accepted tt ≡ ends (look_up m t n s i) → Found m t n s i
  unfolding look_up
  found m i h = go (walk t n s) (ltb i n) refl (ltb-true i n) refl h
    where
      go : (o : Outcome Reason Val) (b : Bool) → walk t n s ≡ o → (b ≡ true → i < n) → look_up m t n s i ≡ bind o (λ _. test b (reason m (row i)) (λ _. accepted (row_at t i))) → accepted tt ≡ ends (bind o (λ _. test b (reason m (row i)) (λ _. accepted (row_at t i)))) → Found m t n s i
      go (accepted v) true w l f e = record { below = l refl; row = f; table = passed (sym (ap ends w)) }
      go (accepted v) false w l f e = let z : ◌≡◌ {A = ℕ} 0 1 = cc in absurd (omega arith)
      go (refused x) b w l f e = let z : ◌≡◌ {A = ℕ} 0 1 = cc in absurd (omega arith)

-- a table that passed, looked up
pub found_if : (m : ℕ) (t : List ℕ) (n : ℕ) (s : List ℕ) (i : ℕ) → accepted tt ≡ ends (walk t n s) → test (ltb i n) (reason m (row i)) accepted ≡ ends (look_up m t n s i)
unfolding look_up
found_if m t n s i h = rw (ends-accepted (walk t n s) h).1 (go (ltb i n))
  where
    go : (b : Bool) → test b (reason m (row i)) accepted ≡ ends (test b (reason m (row i)) (λ _. accepted (row_at t i)))
    go true = refl
    go false = refl

-- elements that are there lie in the store
part-within : (k : Kind) (r : Row) (len : ℕ) (e : Reason) (p : Part) → within_store k r len ≡ true → accepted p ≡ elements_part k r e → p.start + p.size ≤ len
unfolding elements_part
part-within constant r len e p w h = let z : ◌≡◌ {A = ℕ} 0 1 = cc in absurd (omega arith)
part-within (number k) r len e p w h = let z : ◌≡◌ {A = ℕ} 0 1 = cc in absurd (omega arith)
part-within array r len e p w h = let z : ◌≡◌ {A = ℕ} 0 1 = cc in absurd (omega arith)
part-within tuple r len e p w h = let z : ◌≡◌ {A = ℕ} 0 1 = cc in absurd (omega arith)
part-within (elements k) r len e p w h =
    let q : p ≡ record { start = r.word3; size = element_width k * r.word2 } = cc in
    rw q (leb-true (r.word3 + element_width k * r.word2) len w)
part-within union r len e p w h = let z : ◌≡◌ {A = ℕ} 0 1 = cc in absurd (omega arith)
part-within other r len e p w h = let z : ◌≡◌ {A = ℕ} 0 1 = cc in absurd (omega arith)

pub locate_within : (t : List ℕ) (n : ℕ) (s : List ℕ) (i : ℕ) (p : Part) → Below (2 ^ 64) t → Bytes s → accepted p ≡ locate_array t n s i → p.start + p.size ≤ length s
unfolding locate_array
locate_within t n s i p words bytes h =
    let f = found t n s words bytes 18 i (ends-bind (look_up 18 t n s i) _ p h) in
    let e : accepted p ≡ elements_part (kind_of (row_at t i).kind) (row_at t i) (reason 18 (row i)) = h ∙ rw f.row in
    part-within (kind_of (row_at t i).kind) (row_at t i) (length s) (reason 18 (row i)) p (table-holds t n s f.table.value f.table.table i f.below).within e
