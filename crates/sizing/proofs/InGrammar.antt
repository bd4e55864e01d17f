-- Refusal 15 is not given exactly where the value is in the grammar, and its place is one of the value's rows.
use Rattle.std.proofs.Common.{◌≡◌, refl, ap, sym, subst, ◌∙◌, ◌↔◌, ℕ, suc, ◌+◌, ◌≤◌, ◌<◌, arith, length, eq-eqb, lt-ltb}
use Rattle.refusal.specs.Outcome.{accepted, refused, Reason, reason, row}
use Rattle.refusal.proofs.Outcome.{Post, holds, post_bind, post_reflects, post_weaken, post_accepted, post_refused, test-true}
use Rattle.refusal.proofs.Tests.{reflects_eqb, reflects_ltb, reflects_and}
use Rattle.value.specs.Kinds.{number_kind, elements_kind, Kind, kinds, kind_of, constant, number, array, tuple, elements, union, other}
use Rattle.value.specs.Tree.{G, Gs, GConstant, GNumber, GArray, GTuple, GNumberArray, GTaggedUnion, gnil, gcons, Val, Vals, VConstant, VNumber, VArray, VTuple, VNumberArray, VCase, vnil, vcons, seq_g, seq_v, case_at, ValInGrammar, AllInGrammar, EachInGrammar, in_constant, in_number, in_array, in_tuple, in_number_array, in_case, all_nil, all_cons, each_nil, each_cons, row_count, row_counts}
use Rattle.value.proofs.KindLaws.{number-kind, elements-kind}
use Rattle.value.proofs.Laws.{each_length}
use Rattle.sizing.specs.InGrammar.{kind_number, element_grammar, part_grammars, check_in_grammar, check_all_in_grammar, check_each_in_grammar}

-- ---- from the grammar to the check

mutual
  unfolding check_in_grammar

  in_accepted : {v : Val} {g : G} → ValInGrammar v g → (i : ℕ) → check_in_grammar v g i ≡ accepted tt
  in_accepted in_constant i = refl
  in_accepted (in_number {k = k}) i = test-true _ _ (eq-eqb (number_kind k) (number_kind k) refl)
  in_accepted (in_array x) i = all-accepted x (suc i)
  in_accepted (in_tuple {vs = vs} {gs = gs} x) i = rw (eq-eqb (length (seq_v vs)) (length (seq_g gs)) (each_length x)) (each_accepted x (suc i))
  in_accepted (in_number_array {k = k}) i = test-true _ _ (eq-eqb (elements_kind k) (elements_kind k) refl)
  in_accepted (in_case {c = c} {gs = gs} l x) i = rw (lt-ltb c (length (seq_g gs)) l) (in_accepted x (suc i))

  all-accepted : {vs : Vals} {g : G} → AllInGrammar vs g → (i : ℕ) → check_all_in_grammar vs g i ≡ accepted tt
  all-accepted all_nil i = refl
  all-accepted (all_cons {v = v} x xs) i = rw (in_accepted x i) (all-accepted xs (i + row_count v))

  each_accepted : {vs : Vals} {gs : Gs} → EachInGrammar vs gs → (i : ℕ) → check_each_in_grammar vs gs i ≡ accepted tt
  each_accepted each_nil i = refl
  each_accepted (each_cons {v = v} x xs) i = rw (in_accepted x i) (each_accepted xs (i + row_count v))

-- ---- from the check to the grammar

-- a grammar by its kind and its parts
abbrev shaped : Kind → G → Gs → G
shaped constant g gs = GConstant
shaped (number k) g gs = GNumber k
shaped array g gs = GArray g
shaped tuple g gs = GTuple gs
shaped (elements k) g gs = GNumberArray k
shaped union g gs = GTaggedUnion gs
shaped other g gs = GConstant

known : (g : G) → g ≡ shaped (kind_of (kind_number g)) (element_grammar g) (part_grammars g)
unfolding kind_of kinds
known GConstant = refl
known (GNumber k) = rw (number-kind k)
known (GArray g) = refl
known (GTuple gs) = refl
known (GNumberArray k) = rw (elements-kind k)
known (GTaggedUnion gs) = refl

-- so of one whose kind number is k
of-kind : {v : Val} (g : G) {k : ℕ} {c : Kind} → kind_of k ≡ c → kind_number g ≡ k → ValInGrammar v (shaped c (element_grammar g) (part_grammars g)) → ValInGrammar v g
of-kind {v} g {k} {c} e n h =
    let s : g ≡ shaped c (element_grammar g) (part_grammars g) = known g ∙ ap (λ (x : Kind). shaped x (element_grammar g) (part_grammars g)) (ap kind_of n ∙ e) in
    subst (ValInGrammar v) (sym s) h

-- refusal 15 at one of n rows from row i on
pub record At15 (i n : ℕ) (e : Reason) : Type 0 where
  pub at : ℕ
  pub is : e ≡ reason 15 (row at)
  pub from : i ≤ at
  pub to : at < i + n

here : {n : ℕ} (i : ℕ) → 0 < n → At15 i n (reason 15 (row i))
here i h = record { at = i; is = refl; from = omega arith; to = omega arith }

wider : {j m : ℕ} (i n : ℕ) → i ≤ j → j + m ≤ i + n → (e : Reason) → At15 j m e → At15 i n e
wider i n a b e q = record { at = q.at; is = q.is; from = omega (arith, q.from); to = omega (arith, q.to) }

mutual
  unfolding check_in_grammar row_count kind_of kinds

  in_post : (v : Val) (g : G) (i : ℕ) → Post (λ _. ValInGrammar v g) (At15 i (row_count v)) (check_in_grammar v g i)
  in_post VConstant g i = post_reflects _ _ _ (reflects_eqb (kind_number g) 0) (λ e. holds tt (of-kind g refl e in_constant)) (λ _. here i (omega arith))
  in_post (VNumber k n) g i = post_reflects _ _ _ (reflects_eqb (kind_number g) (number_kind k)) (λ e. holds tt (of-kind g (number-kind k) e in_number)) (λ _. here i (omega arith))
  in_post (VArray vs) g i =
      post_reflects _ _ _ (reflects_eqb (kind_number g) 3)
      (λ e. post_weaken (λ _ x. of-kind g refl e (in_array x)) (wider i (row_count (VArray vs)) (omega arith) (omega arith)) (all_post vs (element_grammar g) (suc i)))
      (λ _. here i (omega arith))
  in_post (VTuple vs) g i =
      post_reflects _ _ _ (reflects_and (reflects_eqb (kind_number g) 4) (reflects_eqb (length (seq_v vs)) (length (seq_g (part_grammars g)))))
      (λ e. post_weaken (λ _ x. of-kind g refl e.0 (in_tuple x)) (wider i (row_count (VTuple vs)) (omega arith) (omega arith)) (each_post vs (part_grammars g) (suc i) e.1))
      (λ _. here i (omega arith))
  in_post (VNumberArray k ns) g i = post_reflects _ _ _ (reflects_eqb (kind_number g) (elements_kind k)) (λ e. holds tt (of-kind g (elements-kind k) e in_number_array)) (λ _. here i (omega arith))
  in_post (VCase c v) g i =
      post_reflects _ _ _ (reflects_and (reflects_eqb (kind_number g) 8) (reflects_ltb c (length (seq_g (part_grammars g)))))
      (λ e. post_weaken (λ _ x. of-kind g refl e.0 (in_case e.1 x)) (wider i (row_count (VCase c v)) (omega arith) (omega arith)) (in_post v (case_at (part_grammars g) c) (suc i)))
      (λ _. here i (omega arith))

  all_post : (vs : Vals) (g : G) (i : ℕ) → Post (λ _. AllInGrammar vs g) (At15 i (row_counts vs)) (check_all_in_grammar vs g i)
  all_post vnil g i = holds tt all_nil
  all_post (vcons v vs) g i =
      post_bind _ (post_weaken (λ _ x. x) (wider i (row_counts (vcons v vs)) (omega arith) (omega arith)) (in_post v g i)) (λ _ x.
      post_weaken (λ _ y. all_cons x y) (wider i (row_counts (vcons v vs)) (omega arith) (omega arith)) (all_post vs g (i + row_count v)))

  each_post : (vs : Vals) (gs : Gs) (i : ℕ) → length (seq_v vs) ≡ length (seq_g gs) → Post (λ _. EachInGrammar vs gs) (At15 i (row_counts vs)) (check_each_in_grammar vs gs i)
  each_post vnil gnil i e = holds tt each_nil
  each_post vnil (gcons g gs) i e = absurd (omega arith)
  each_post (vcons v vs) gnil i e = absurd (omega arith)
  each_post (vcons v vs) (gcons g gs) i e =
      post_bind _ (post_weaken (λ _ x. x) (wider i (row_counts (vcons v vs)) (omega arith) (omega arith)) (in_post v g i)) (λ _ x.
      post_weaken (λ _ y. each_cons x y) (wider i (row_counts (vcons v vs)) (omega arith) (omega arith)) (each_post vs gs (i + row_count v) (omega arith)))

-- 15 is not given exactly where the value is in the grammar
pub in_grammar_exactly : (v : Val) (g : G) (i : ℕ) → (check_in_grammar v g i ≡ accepted tt) ↔ ValInGrammar v g
in_grammar_exactly v g i = (λ e. post_accepted (rw e at (in_post v g i)), λ h. in_accepted h i)

-- nothing else is given, and its place is a row of the value
pub in_grammar-refused : (v : Val) (g : G) (i : ℕ) (e : Reason) → check_in_grammar v g i ≡ refused e → At15 i (row_count v) e
in_grammar-refused v g i e h = post_refused (rw h at (in_post v g i))
