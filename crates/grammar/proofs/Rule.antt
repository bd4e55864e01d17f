-- The check is accepted exactly where the table passes, and refused exactly by its first refusal.
use Rattle.std.proofs.Common.{◌≡◌, true, refl, ap, sym, subst, ◌∙◌, ◌↔◌, List, ℕ, zero, suc, ◌+◌, ◌-◌, ◌*◌, ◌≤◌, ◌<◌, add-zero, zero-add, arith, length}
use Rattle.std.proofs.Math.Decide.{ℕ_discrete}
use Rattle.refusal.specs.Outcome.{Outcome, accepted, refused, bind, Reason, reason, word}
use Rattle.refusal.proofs.Tests.{refuted}
use Rattle.refusal.proofs.Outcome.{Post, holds, fails, post_bind, post_reflects, post_accepted, post_refused, test-true, test-false}
use Rattle.value.specs.Kinds.{Kind, last_kind, kind_of, other}
use Rattle.tables.specs.Grammar.{node_count, kind_word, first_word, count_word}
use Rattle.grammar.specs.Check.{is_named, start_holds, length_holds, children_hold, child_holds, check_layout, check_node, check_children, check_nodes, check_grammar}
use Rattle.grammar.specs.Rule.{ChildrenRule, ChildRule, ChildOf, NodeRule, LaidOut, Passes, Reached, FirstRefusal, first1, first2, first3, first4, first5}
use Rattle.grammar.proofs.Laws.{reflects_start, reflects_length, reflects_kind, reflects_children, reflects_child}

-- what holds of every number below i, and of i, holds of every number below suc i
pub one_more : {P : ℕ → Type 0} {i : ℕ} → ((h : ℕ) → h < i → P h) → P i → (h : ℕ) → h < suc i → P h
one_more {P} {i} b p h l = go (ℕ_discrete i h)
  where
    go : Dec (i ≡ h) → P h
    go (yes e) = subst P e p
    go (no n) = b h (omega arith)

-- ---- from the check to its meaning

module _ (t : List ℕ) where
  children_post : (k : ℕ) → Reached t k → kind_word t k ≤ last_kind → ChildrenRule t k → (n i : ℕ) → first_word t k ≤ i → i + n ≡ first_word t k + count_word t k → ((h : ℕ) → h < i → first_word t k ≤ h → ChildRule t k h) → Post (λ _. (h : ℕ) → ChildOf t k h → ChildRule t k h) (FirstRefusal t) (check_children t k i n)
  unfolding check_children
  children_post k r kd ru zero i a e b = holds tt (λ h o. b h (omega (arith, o.1)) o.0)
  children_post k r kd ru (suc n) i a e b =
      post_reflects (child_holds t k i) _ _ (reflects_child t k i)
      (λ c. children_post k r kd ru n (suc i) (omega arith) (omega arith) (one_more {P = λ h. first_word t k ≤ h → ChildRule t k h} b (λ _. c)))
      (λ c. first5 k i r kd ru (a, omega arith) (λ h p l. b h l p) c)

  node_post : (k : ℕ) → Reached t k → Post (λ _. (kind_word t k ≤ last_kind) × ChildrenRule t k) (FirstRefusal t) (check_node t k)
  unfolding check_node
  node_post k r =
      post_reflects (is_named (kind_of (kind_word t k))) _ _ (reflects_kind (kind_word t k))
      (λ kd. post_reflects (children_hold t k) _ _ (reflects_children t k) (λ ru. holds tt (kd, ru)) (λ ru. first4 k r kd ru))
      (λ kd. first3 k r kd)

  nodes_post : LaidOut t → (n k : ℕ) → k + n ≡ node_count t → ((j : ℕ) → j < k → NodeRule t j) → Post (λ _. (j : ℕ) → j < node_count t → NodeRule t j) (FirstRefusal t) (check_nodes t k n)
  unfolding check_nodes
  nodes_post l zero k e b = holds tt (λ j h. b j (omega arith))
  nodes_post l (suc n) k e b =
      let r : Reached t k = record { layout = l; below = omega arith; before = b } in
      post_bind _ (node_post k r) (λ _ p.
      post_bind _ (children_post k r p.0 p.1 (count_word t k) (first_word t k) (omega arith) refl (λ h s m. absurd (omega arith))) (λ _ c.
      nodes_post l n (suc k) (omega arith) (one_more b (record { kind = p.0; rule = p.1; children = c }))))

  layout_post : Post (λ _. LaidOut t) (FirstRefusal t) (check_layout t)
  unfolding check_layout
  layout_post =
      post_reflects (start_holds t) _ _ (reflects_start t)
      (λ s. post_reflects (length_holds t) _ _ (reflects_length t) (λ l. holds tt (record { start = s; size = l })) (λ l. first2 s l))
      (λ s. first1 s)

  grammar_post : Post (λ _. Passes t) (FirstRefusal t) (check_grammar t)
  unfolding check_grammar
  grammar_post = post_bind _ layout_post (λ _ l. go l (nodes_post l (node_count t) 0 (omega arith) (λ j h. absurd (omega arith))))
    where
      go : LaidOut t → {x : Outcome Reason (Unit {0})} → Post (λ _. (j : ℕ) → j < node_count t → NodeRule t j) (FirstRefusal t) x → Post (λ _. Passes t) (FirstRefusal t) x
      go l (holds u p) = holds u (record { layout = l; node = p })
      go l (fails e q) = fails e q

-- ---- from the meaning to the check

module _ (t : List ℕ) where
  -- children that keep their rule are passed over
  skip_children : (k m i n : ℕ) → ((h : ℕ) → i ≤ h → h < i + m → ChildRule t k h) → check_children t k i (m + n) ≡ check_children t k (i + m) n
  unfolding check_children
  skip_children k zero i n b = rw (zero-add n, add-zero i)
  skip_children k (suc m) i n b =
      let s : suc m + n ≡ suc (m + n) = omega arith in
      let e : i + suc m ≡ suc i + m = omega arith in
      rw (s, e) (test-true _ _ ((reflects_child t k i).0 (b i (omega arith) (omega arith))) ∙ skip_children k m (suc i) n (λ h p l. b h (omega arith) (omega arith)))

  kept-node : (k : ℕ) → kind_word t k ≤ last_kind → ChildrenRule t k → check_node t k ≡ accepted tt
  unfolding check_node
  kept-node k kd ru = test-true _ _ ((reflects_kind (kind_word t k)).0 kd) ∙ test-true _ _ ((reflects_children t k).0 ru)

  -- and so are all the children of a node that keeps its rule
  kept-children : (k : ℕ) → NodeRule t k → check_children t k (first_word t k) (count_word t k) ≡ accepted tt
  unfolding check_children
  kept-children k r =
      ap (check_children t k (first_word t k)) (sym (add-zero (count_word t k)))
      ∙ skip_children k (count_word t k) (first_word t k) 0 (λ h p l. r.children h (p, l))

  -- nodes that keep their rule are passed over
  skip_nodes : (m k n : ℕ) → ((j : ℕ) → k ≤ j → j < k + m → NodeRule t j) → check_nodes t k (m + n) ≡ check_nodes t (k + m) n
  unfolding check_nodes
  skip_nodes zero k n b = rw (zero-add n, add-zero k)
  skip_nodes (suc m) k n b =
      let r : NodeRule t k = b k (omega arith) (omega arith) in
      let s : suc m + n ≡ suc (m + n) = omega arith in
      let e : k + suc m ≡ suc k + m = omega arith in
      rw (s, e, kept-node k r.kind r.rule, kept-children k r) (skip_nodes m (suc k) n (λ j p l. b j (omega arith) (omega arith)))

  start : LaidOut t → check_grammar t ≡ check_nodes t 0 (node_count t)
  unfolding check_grammar check_layout
  start l = rw ((reflects_start t).0 l.start, (reflects_length t).0 l.size)

  -- the check at node k, once it is reached
  at-node : (k : ℕ) → Reached t k → check_grammar t ≡ bind (check_node t k) (λ _. bind (check_children t k (first_word t k) (count_word t k)) (λ _. check_nodes t (suc k) (node_count t - suc k)))
  unfolding check_nodes
  at-node k r =
      let l = r.below in
      let e : node_count t ≡ k + suc (node_count t - suc k) = omega arith in
      start r.layout ∙ ap (check_nodes t 0) e ∙ skip_nodes k 0 (suc (node_count t - suc k)) (λ j p q. r.before j (omega arith)) ∙ ap (λ (j : ℕ). check_nodes t j (suc (node_count t - suc k))) (zero-add k)

  -- the first bad child of node k
  bad_child : (k i : ℕ) → ChildOf t k i → ((h : ℕ) → first_word t k ≤ h → h < i → ChildRule t k h) → (ChildRule t k i → ⊥) → check_children t k (first_word t k) (count_word t k) ≡ refused (reason 5 (word (2 + 3 * node_count t + i)))
  unfolding check_children
  bad_child k i o b n =
      let left = first_word t k + count_word t k - suc i in
      let e : count_word t k ≡ (i - first_word t k) + suc left = omega (arith, o.0, o.1) in
      let f : first_word t k + (i - first_word t k) ≡ i = omega (arith, o.0) in
      ap (check_children t k (first_word t k)) e
      ∙ skip_children k (i - first_word t k) (first_word t k) (suc left) (λ h p l. b h p (omega arith))
      ∙ ap (λ (j : ℕ). check_children t k j (suc left)) f
      ∙ test-false _ _ (refuted (reflects_child t k i) n)

  passes-accepted : Passes t → check_grammar t ≡ accepted tt
  unfolding check_nodes
  passes-accepted p = start p.layout ∙ ap (check_nodes t 0) (sym (add-zero (node_count t))) ∙ skip_nodes (node_count t) 0 0 (λ j a b. p.node j (omega arith))

  first-refused : {r : Reason} → FirstRefusal t r → check_grammar t ≡ refused r
  unfolding check_grammar check_layout check_node check_children
  first-refused (first1 n) = rw (refuted (reflects_start t) n)
  first-refused (first2 s n) = rw ((reflects_start t).0 s, refuted (reflects_length t) n)
  first-refused (first3 k r n) = at-node k r ∙ rw (refuted (reflects_kind (kind_word t k)) n)
  first-refused (first4 k r kd n) = at-node k r ∙ rw ((reflects_kind (kind_word t k)).0 kd, refuted (reflects_children t k) n)
  first-refused (first5 k i r kd ru o b n) = at-node k r ∙ rw (kept-node k kd ru) (ap (λ (x : Outcome Reason (Unit {0})). bind x (λ _. check_nodes t (suc k) (node_count t - suc k))) (bad_child k i o b n))

pub accepted_exactly : (t : List ℕ) → (check_grammar t ≡ accepted tt) ↔ Passes t
accepted_exactly t = (λ e. post_accepted (rw e at (grammar_post t)), passes-accepted t)

pub refused_exactly : (t : List ℕ) (r : Reason) → (check_grammar t ≡ refused r) ↔ FirstRefusal t r
refused_exactly t r = (λ e. post_refused (rw e at (grammar_post t)), first-refused t)

-- a refusal is at a word, which is below the length of the longest table
pub refused-word : (t : List ℕ) {r : Reason} → FirstRefusal t r → (n : ℕ) × (w : ℕ) × (r ≡ reason n (word w)) × (w < 1794)
refused-word t (first1 n) = (1, 0, refl, omega arith)
refused-word t (first2 s n) = (2, 1 + 3 * node_count t, refl, omega (arith, s.1.1))
refused-word t (first3 k r n) = (3, 1 + 3 * k, refl, omega (arith, r.below, r.layout.start.1.1))
refused-word t (first4 k r kd n) = (4, 2 + 3 * k, refl, omega (arith, r.below, r.layout.start.1.1))
refused-word t (first5 k i r kd ru o b n) = (5, 2 + 3 * node_count t + i, refl, omega (arith, r.layout.start.1.1, r.layout.size.1.0, ru.1, o.1))

-- ---- where the words of a table that passes stand

module _ (t : List ℕ) (p : Passes t) (k : ℕ) (b : k < node_count t) where
  pub node-inside : (3 + 3 * k < length t) × (k < 256) × (kind_word t k ≤ last_kind) × ChildrenRule t k
  node-inside =
      let l = p.layout in
      let r = p.node k b in
      (omega (arith, l.size.1.1), omega (arith, l.start.1.1), r.kind, r.rule)

  -- its kind word names a kind
  pub node-named : kind_of (kind_word t k) ≡ other → ⊥
  node-named e =
      let h : is_named other ≡ true = subst (λ (x : Kind). is_named x ≡ true) e ((reflects_kind (kind_word t k)).0 node-inside.2) in
      let z : ◌≡◌ {A = ℕ} 0 1 = cc in
      omega arith

  pub child_inside : (i : ℕ) → i < count_word t k → (3 + 3 * k < length t) × (2 + 3 * node_count t + (first_word t k + i) < length t) × (node_count t ≤ 256) × (first_word t k ≤ 1024) × ChildRule t k (first_word t k + i)
  child_inside i h =
      let l = p.layout in
      let r = p.node k b in
      let w = r.rule.1 in
      (omega (arith, l.size.1.1), omega (arith, l.size.1.1), l.start.1.1, omega (arith, l.size.1.0), r.children (first_word t k + i) (omega arith, omega arith))
