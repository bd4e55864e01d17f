-- The walk's definition as the code takes it: it does not depend on the depth, and what is left of the children decides the whole.
use Rattle.std.proofs.Common.{◌≡◌, refl, ap, sym, ◌∙◌, Bool, true, false, ◌&&◌, ◌↔◌, List, ℕ, zero, suc, ◌+◌, ◌-◌, ◌*◌, ◌^◌, ◌≤◌, ◌<◌, add-one, arith, length, leb, ltb, eqb, lt-ltb, le-ltb, ltb-true, le-leb, eq-eqb, ne_eqb}
use borrow.Author.Tests.{lt-leb}
use Rattle.refusal.specs.Outcome.{Outcome, accepted, refused, bind, test, map, Reason, reason, byte, row}
use Rattle.refusal.proofs.Outcome.{Post, holds, fails, post_bind, post_reflects, post_accepted, map-map, test-true, test-false}
use Rattle.refusal.proofs.Tests.{reflects_leb, reflects_ltb, reflects_eqb, reflects_and}
use Rattle.value.specs.Kinds.{Number, width, kind_of, number}
use Rattle.value.specs.Tree.{Val, Vals, vnil, vcons, SizeOfV}
use Rattle.tables.specs.Row.{row_width, Row, row_at}
use Rattle.rows.specs.Walk.{keeps_rule, within_store, child_count, row_value, check_row, walk_children, check_size_word, walk_to, walk_row, count_holds, walk}

-- an outcome without its value
abbrev pub ends : {A : Type 0} → Outcome Reason A → Outcome Reason (Unit {0})
ends o = map (λ _. tt) o

-- an accepted outcome has a value
pub ends-accepted : {A : Type 0} (o : Outcome Reason A) → accepted tt ≡ ends o → (a : A) × (o ≡ accepted a)
ends-accepted (accepted a) h = (a, refl)
ends-accepted (refused e) h = let z : ◌≡◌ {A = ℕ} 0 1 = cc in absurd (omega arith)

-- P of the value, if there is one
abbrev pub Gives : {A : Type 0} → (A → Type 0) → Outcome Reason A → Type 0
Gives P o = Post P (λ _. Unit {0}) o

pub gives-map : {A B : Type 0} {P : A → Type 0} {R : B → Type 0} {x : Outcome Reason A} (f : A → B) → Gives P x → ((a : A) → P a → R (f a)) → Gives R (map f x)
gives-map f (holds a p) c = holds (f a) (c a p)
gives-map f (fails e q) c = fails e q

-- continuations that agree where they are needed
test-same : {A : Type 0} (b : Bool) (e : Reason) (k l : Unit {0} → Outcome Reason A) → (b ≡ true → k tt ≡ l tt) → test b e k ≡ test b e l
test-same true e k l h = h refl
test-same false e k l h = refl

bind-same : {A B : Type 0} {P : A → Type 0} {x : Outcome Reason A} (k l : A → Outcome Reason B) → Gives P x → ((a : A) → P a → k a ≡ l a) → bind x k ≡ bind x l
bind-same k l (holds a p) h = h a p
bind-same k l (fails e q) h = refl

-- ---- a row by itself

pub row_eq : (r : Row) {k n a b m : ℕ} → r.kind ≡ k → r.span ≡ n → r.word2 ≡ a → r.word3 ≡ b → r.size ≡ m → r ≡ record { kind = k; span = n; word2 = a; word3 = b; size = m }
row_eq r p q x y z = rw (← p, ← q, ← x, ← y, ← z)

-- the number of a row that keeps its rule
pub number-below : (k : Number) (r : Row) → keeps_rule (number k) r ≡ true → r.word2 < 256 ^ width k
number-below k r h = ((reflects_and (reflects_eqb r.span 1) (reflects_and (reflects_ltb r.word2 (256 ^ width k)) (reflects_eqb r.word3 0))).1 h).1.0

-- what a row that passes says: a span that ends within its parent's, its kind's rule, its array in the store
pub record Passed (r : Row) (len i end count : ℕ) : Type 0 where
  pub some : 1 ≤ r.span
  pub reach : i + r.span ≤ end
  pub rule : keeps_rule (kind_of r.kind) r ≡ true
  pub within : within_store (kind_of r.kind) r len ≡ true
  pub children : count ≡ child_count (kind_of r.kind) r

itself : {P : Type 0} → P ↔ P
itself = (λ p. p, λ p. p)

pub row_post : (r : Row) (len i end : ℕ) → Gives (Passed r len i end) (check_row r len i end)
unfolding check_row
row_post r len i end =
    post_reflects _ _ _ (reflects_and (reflects_leb 1 r.span) (reflects_and (reflects_leb (i + r.span) end) itself))
    (λ h. post_reflects (within_store (kind_of r.kind) r len) _ _ itself
    (λ w. holds _ (record { some = h.0; reach = h.1.0; rule = h.1.1; within = w; children = refl }))
    (λ _. tt)) (λ _. tt)

pub row_passed : (r : Row) (len i end count : ℕ) → accepted count ≡ check_row r len i end → Passed r len i end count
row_passed r len i end count h = post_accepted (rw (← h) at (row_post r len i end))

-- a span that is 0 or does not reach is 13
pub row_out : (r : Row) (len i end : ℕ) → (leb 1 r.span && leb (i + r.span) end) ≡ false → refused (reason 13 (row i)) ≡ check_row r len i end
unfolding check_row
row_out r len i end p = go (leb 1 r.span) (leb (i + r.span) end) p
  where
    go : (a b : Bool) → (a && b) ≡ false → refused (reason 13 (row i)) ≡ test (a && (b && keeps_rule (kind_of r.kind) r)) (reason 13 (row i)) (λ _. test (within_store (kind_of r.kind) r len) (reason 14 (row i)) (λ _. accepted (child_count (kind_of r.kind) r)))
    go true true h = let z : ◌≡◌ {A = ℕ} 0 1 = cc in absurd (omega arith)
    go true false h = refl
    go false b h = refl

-- ---- the depth

module _ (t s : List ℕ) where
  children-same : (f g : ℕ → Outcome Reason Val) (parent end count i : ℕ) → ((j : ℕ) → i ≤ j → j < end → f j ≡ g j) → walk_children t f parent end count i ≡ walk_children t g parent end count i
  unfolding walk_children
  children-same f g parent end zero i h = refl
  children-same f g parent end (suc count) i h =
      test-same (ltb i end) _ _ _ (λ l. rw (h i (omega arith) (ltb-true i end l), children-same f g parent end count (i + (row_at t i).span) (λ j a b. h j (omega arith) b)))

  -- a row that says its value's size
  pub size_right : (r : Row) (i : ℕ) (v : Val) → r.size ≡ SizeOfV v → check_size_word r i v ≡ accepted v
  unfolding check_size_word
  size_right r i v z = test-true _ _ (eq-eqb r.size (SizeOfV v) z)

  -- what the values of row i's children make of it
  abbrev made : ℕ → Outcome Reason Vals → Outcome Reason Val
  made i o = bind o (λ vs. check_size_word (row_at t i) i (row_value (kind_of (row_at t i).kind) (row_at t i) s vs))

  walk_same : (d e end i : ℕ) → i < end → end ≤ i + d → end ≤ i + e → walk_to t s d end i ≡ walk_to t s e end i
  unfolding walk_to
  walk_same zero e end i h a b = absurd (omega arith)
  walk_same (suc d) zero end i h a b = absurd (omega arith)
  walk_same (suc d) (suc e) end i h a b = bind-same _ _ (row_post (row_at t i) (length s) i end) (λ count p.
      ap (made i)
      (children-same _ _ i (i + (row_at t i).span) count (suc i) (λ j l m. walk_same d e (i + (row_at t i).span) j m (omega (arith, p.reach)) (omega (arith, p.reach)))))

  -- any depth that holds the rows is deep enough
  pub walk_depth : (d end i : ℕ) → i < end → end ≤ i + d → walk_to t s d end i ≡ walk_row t s end i
  walk_depth d end i h a = walk_same d (end - i) end i h a (omega arith)

  -- the children of row i, whose span is up to `end`
  abbrev pub children_of : ℕ → ℕ → ℕ → ℕ → Outcome Reason Vals
  children_of i end count j = walk_children t (walk_row t s end) i end count j

  -- no children fill no rows
  pub children-none : (parent end i : ℕ) → i ≡ end → children_of parent end 0 i ≡ accepted vnil
  unfolding walk_children
  children-none parent end i h = test-true _ _ (eq-eqb i end h)

  -- a row, then its children, then its size
  pub walk-row : (end i : ℕ) → i < end → walk_row t s end i ≡ bind (check_row (row_at t i) (length s) i end) (λ count. made i (children_of i (i + (row_at t i).span) count (suc i)))
  unfolding walk_to
  walk-row end i h =
      let e : end - i ≡ suc (end - suc i) = omega arith in
      ap (λ (d : ℕ). walk_to t s d end i) e
      ∙ bind-same _ _ (row_post (row_at t i) (length s) i end) (λ count p.
      ap (made i)
      (children-same _ _ i (i + (row_at t i).span) count (suc i) (λ j l m. walk_depth (end - suc i) (i + (row_at t i).span) j m (omega (arith, p.reach)))))

  pub row-refused : (end i : ℕ) {e : Reason} → i < end → refused e ≡ check_row (row_at t i) (length s) i end → refused e ≡ ends (walk_row t s end i)
  row-refused end i h r = sym (ap ends (walk-row end i h) ∙ rw (← r))

  -- a row that passes by itself
  module _ (end i : ℕ) {count : ℕ} (h : i < end) (r : accepted count ≡ check_row (row_at t i) (length s) i end) where
    row_made : walk_row t s end i ≡ made i (children_of i (i + (row_at t i).span) count (i + 1))
    row_made = walk-row end i h ∙ rw (← r, add-one i)

    pub children-refused : {e : Reason} → refused e ≡ ends (children_of i (i + (row_at t i).span) count (i + 1)) → refused e ≡ ends (walk_row t s end i)
    children-refused {e} q = sym (ap ends row_made ∙ go (children_of i (i + (row_at t i).span) count (i + 1)) q)
      where
        go : (o : Outcome Reason Vals) → refused e ≡ ends o → ends (made i o) ≡ refused e
        go (accepted vs) q = let z : ◌≡◌ {A = ℕ} 0 1 = cc in absurd (omega arith)
        go (refused f) q = sym q

    -- its children accepted, its size decides
    pub row_sized : {vs : Vals} → children_of i (i + (row_at t i).span) count (i + 1) ≡ accepted vs → walk_row t s end i ≡ check_size_word (row_at t i) i (row_value (kind_of (row_at t i).kind) (row_at t i) s vs)
    row_sized e = row_made ∙ ap (made i) e

-- ---- the loop over children: what is left from row i on

module _ (t s : List ℕ) (parent end left i : ℕ) (h : 0 < left) where
  next_child : children_of t s parent end left i ≡ test (ltb i end) (reason 13 (row parent)) (λ _. bind (walk_row t s end i) (λ v. map (vcons v) (children_of t s parent end (left - 1) (i + (row_at t i).span))))
  unfolding walk_children
  next_child = let e : left ≡ suc (left - 1) = omega arith in ap (λ (k : ℕ). children_of t s parent end k i) e

  pub child_missing : end ≤ i → refused (reason 13 (row parent)) ≡ ends (children_of t s parent end left i)
  child_missing l = sym (ap ends (next_child ∙ test-false _ _ (le-ltb i end l)))

  module _ (l : i < end) where
    here : children_of t s parent end left i ≡ bind (walk_row t s end i) (λ v. map (vcons v) (children_of t s parent end (left - 1) (i + (row_at t i).span)))
    here = next_child ∙ test-true _ _ (lt-ltb i end l)

    pub child_refused : {e : Reason} → refused e ≡ ends (walk_row t s end i) → refused e ≡ ends (children_of t s parent end left i)
    child_refused {e} r = sym (ap ends here ∙ go (walk_row t s end i) r)
      where
        go : (x : Outcome Reason Val) → refused e ≡ ends x → ends (bind x (λ v. map (vcons v) (children_of t s parent end (left - 1) (i + (row_at t i).span)))) ≡ refused e
        go (accepted v) q = let z : ◌≡◌ {A = ℕ} 0 1 = cc in absurd (omega arith)
        go (refused f) q = sym q

    pub child_accepted : accepted tt ≡ ends (walk_row t s end i) → ends (children_of t s parent end (left - 1) (i + (row_at t i).span)) ≡ ends (children_of t s parent end left i)
    child_accepted a = sym (ap ends here ∙ go (walk_row t s end i) (children_of t s parent end (left - 1) (i + (row_at t i).span)) a)
      where
        go : (x : Outcome Reason Val) (y : Outcome Reason Vals) → accepted tt ≡ ends x → ends (bind x (λ v. map (vcons v) y)) ≡ ends y
        go (accepted v) y q = map-map _ _ y
        go (refused f) y q = let z : ◌≡◌ {A = ℕ} 0 1 = cc in absurd (omega arith)

-- a row that is accepted ends where it may
walk-reach : (t s : List ℕ) (end i : ℕ) (v : Val) → i < end → walk_row t s end i ≡ accepted v → i + (row_at t i).span ≤ end
walk-reach t s end i v l h =
    let g : Gives (λ _. i + (row_at t i).span ≤ end) (walk_row t s end i) = rw (walk-row t s end i l) (post_bind _ (row_post (row_at t i) (length s) i end) (λ count p. go p.reach (made t s i (children_of t s i (i + (row_at t i).span) count (suc i))))) in
    post_accepted (rw h at g)
  where
    go : {R : Type 0} → R → (o : Outcome Reason Val) → Gives (λ _. R) o
    go r (accepted v) = holds v r
    go r (refused e) = fails e tt

-- children that are accepted: the first of them, and those behind it
pub record FirstWalked (t s : List ℕ) (parent end left i : ℕ) : Type 0 where
  pub reach : i + (row_at t i).span ≤ end
  pub values : Vals
  pub walked : children_of t s parent end left (i + (row_at t i).span) ≡ accepted values

pub first-walked : (t s : List ℕ) (parent end left i : ℕ) {vs : Vals} → 0 < left → children_of t s parent end left i ≡ accepted vs → FirstWalked t s parent end (left - 1) i
first-walked t s parent end left i {vs} h e = go (ltb i end) (walk_row t s end i) (children_of t s parent end (left - 1) (i + (row_at t i).span)) (ltb-true i end) (walk-reach t s end i) refl (sym (next_child t s parent end left i h) ∙ e)
  where
    go : (b : Bool) (x : Outcome Reason Val) (y : Outcome Reason Vals) → (b ≡ true → i < end) → ((v : Val) → i < end → x ≡ accepted v → i + (row_at t i).span ≤ end) → children_of t s parent end (left - 1) (i + (row_at t i).span) ≡ y → test b (reason 13 (row parent)) (λ _. bind x (λ v. map (vcons v) y)) ≡ accepted vs → FirstWalked t s parent end (left - 1) i
    go true (accepted v) (accepted us) l r w q = record { reach = r v (l refl) refl; values = us; walked = w }
    go true (accepted v) (refused f) l r w q = let z : ◌≡◌ {A = ℕ} 0 1 = cc in absurd (omega arith)
    go true (refused f) y l r w q = let z : ◌≡◌ {A = ℕ} 0 1 = cc in absurd (omega arith)
    go false x y l r w q = let z : ◌≡◌ {A = ℕ} 0 1 = cc in absurd (omega arith)

-- a row that wants no children and has no rows behind its own
pub childless : (t s : List ℕ) (i count next : ℕ) → i < next → count ≤ 0 → next ≤ i + 1 → accepted tt ≡ ends (children_of t s i next count (i + 1))
childless t s i count next l none alone =
    let e : count ≡ 0 = omega arith in
    rw e (sym (ap ends (children-none t s i next (i + 1) (omega arith))))

-- one child that fills all rows comes to what it comes to as a row
pub only_child_lem : (t s : List ℕ) (parent end : ℕ) → 0 < end → (row_at t 0).span ≡ end → ends (children_of t s parent end 1 0) ≡ ends (walk_row t s end 0)
only_child_lem t s parent end h e =
    let n : children_of t s parent end 0 (0 + (row_at t 0).span) ≡ accepted vnil = children-none t s parent end (0 + (row_at t 0).span) (omega arith) in
    ap ends (here t s parent end 1 0 (omega arith) h) ∙ rw n (go (walk_row t s end 0))
  where
    go : (x : Outcome Reason Val) → ends (bind x (λ v. accepted (vcons v vnil))) ≡ ends x
    go (accepted v) = refl
    go (refused f) = refl

pub children_done : (t s : List ℕ) (parent end left i : ℕ) → left ≤ 0 → test (eqb i end) (reason 13 (row parent)) accepted ≡ ends (children_of t s parent end left i)
unfolding walk_children
children_done t s parent end left i h = let e : left ≡ 0 = omega arith in rw e (go (eqb i end))
  where
    go : (b : Bool) → test b (reason 13 (row parent)) accepted ≡ ends (test b (reason 13 (row parent)) (λ _. accepted vnil))
    go true = refl
    go false = refl

-- ---- the whole table

pub reflects_rows : (t : List ℕ) (n : ℕ) → ((0 < n) × ((n ≤ 4096) × (row_width * n ≤ length t))) ↔ (count_holds t n ≡ true)
reflects_rows t n = reflects_and (reflects_ltb 0 n) (reflects_and (reflects_leb n 4096) (reflects_leb (row_width * n) (length t)))

module _ (t : List ℕ) (n : ℕ) (s : List ℕ) where
  pub store_long : 1048576 < length s → refused (reason 6 (byte 0)) ≡ ends (walk t n s)
  unfolding walk
  store_long h = sym (ap ends (test-false _ _ (lt-leb (length s) 1048576 h)))

  module _ (a : length s ≤ 1048576) where
    pub rows-missing : count_holds t n ≡ false → refused (reason 12 (row 0)) ≡ ends (walk t n s)
    unfolding walk
    rows-missing h = sym (ap ends (test-true _ _ (le-leb (length s) 1048576 a) ∙ test-false _ _ h))

    module _ (b : count_holds t n ≡ true) where
      pub root-short : ((row_at t 0).span ≡ n → ⊥) → refused (reason 13 (row 0)) ≡ ends (walk t n s)
      unfolding walk
      root-short h = sym (ap ends (test-true _ _ (le-leb (length s) 1048576 a) ∙ test-true _ _ b ∙ test-false _ _ (ne_eqb (row_at t 0).span n h)))

      pub root-walk : (row_at t 0).span ≡ n → ends (walk_row t s n 0) ≡ ends (walk t n s)
      unfolding walk
      root-walk h = sym (ap ends (test-true _ _ (le-leb (length s) 1048576 a) ∙ test-true _ _ b ∙ test-true _ _ (eq-eqb (row_at t 0).span n h)))
