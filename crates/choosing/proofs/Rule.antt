-- Which grammar is chosen, how many values are begun, and that this is what the definition says.
use Rattle.std.proofs.Common.{◌≡◌, refl, ap, sym, ◌∙◌, ◌↔◌, List, ℕ, zero, suc, ◌+◌, ◌-◌, ◌*◌, ◌≤◌, ◌<◌, add-one, arith, length}
use Rattle.std.proofs.Math.Nat.{sub-zero}
use Rattle.refusal.specs.Outcome.{Outcome, accepted, refused, bind, word, byte, Reason, reason}
use Rattle.refusal.proofs.Tests.{reflects_eqb}
use Rattle.refusal.proofs.Outcome.{Post, holds, fails, post_bind, post_weaken, post_accepted, test-true, clash}
use Rattle.value.specs.Tree.{Val}
use Rattle.value.specs.Step.{Step}
use Rattle.value.specs.Reading.{State, Stop, Reading}
use Rattle.value.proofs.Begun.{begins_whole, begun-whole}
use Rattle.grammar.specs.Check.{check_grammar}
use Rattle.grammar.specs.Tree.{tree_of}
use Rattle.grammar.proofs.Rule.{one_more}
use Rattle.admission.specs.Admission.{check_length}
use Rattle.admission.proofs.Admission.{length-fits, length_post}
use Rattle.reading.specs.Calls.{without_state, demarshall_of}
use Rattle.reading.proofs.Calls.{without_state-accepted, checked}
use Rattle.choosing.specs.Choose.{list_count, count_at, grammar_of, check_list, placed_reason, in_list, check_grammars, try_of, Choice, tried, try_grammars, choose_of}
use Rattle.choosing.specs.Rule.{ListRule, ListPasses, Accepts, begun_over, IsFirst, ChoosesFirst, BegunWithin}
use Rattle.choosing.proofs.Laws.{rule-ends, list_post, list_filled, grammars-none, grammar_passed, grammar-refused, choose-length, tries-none, tries-accepted, tries-refused}

-- ---- 21, then 1 to 5 of each grammar

module _ (l : List ℕ) where
  pub rule_held : accepted tt ≡ check_list l → ListRule l
  rule_held h = post_accepted (rw (sym h) at (list_post l))

  pub rule-passes : ListRule l → accepted tt ≡ check_list l
  rule-passes r = sym (test-true _ _ ((reflects_eqb (count_at l (list_count l)) (length l)).0 (rule-ends l r))) ∙ list_filled l (λ e. omega (arith, r.some)) r.most

  pub rule-broken : (ListRule l → ⊥) → refused (reason 21 (word 0)) ≡ check_list l
  rule-broken n = go (list_post l)
    where
      go : {o : Outcome Reason (Unit {0})} → Post (λ _. ListRule l) (λ e. (e ≡ reason 21 (word 0)) × (ListRule l → ⊥)) o → refused (reason 21 (word 0)) ≡ o
      go (holds u r) = absurd (n r)
      go (fails e q) = ap refused (sym q.0)

  abbrev Passed : ℕ → Type 0
  Passed j = check_grammar (grammar_of l j) ≡ accepted tt

  abbrev AllPass : Type 0
  AllPass = (i : ℕ) → i < list_count l → Passed i

  -- grammar `number` is the first of the list that does not pass, and e is its refusal
  pub record FirstBad (e : Reason) : Type 0 where
    pub number : ℕ
    pub below : number < list_count l
    pub before : (i : ℕ) → i < number → Passed i
    pub why : Reason
    pub refuses : check_grammar (grammar_of l number) ≡ refused why
    pub placed : e ≡ placed_reason (count_at l number + 1) why

  grammars_from : (n j : ℕ) → j + n ≡ list_count l → ((i : ℕ) → i < j → Passed i) → Post (λ _. AllPass) FirstBad (check_grammars l j n)
  unfolding check_grammars
  grammars_from zero j e b = holds tt (λ i h. b i (omega arith))
  grammars_from (suc n) j e b = go (check_grammar (grammar_of l j)) refl (λ p. grammars_from n (suc j) (omega arith) (one_more b p))
    where
      go : (o : Outcome Reason (Unit {0})) → check_grammar (grammar_of l j) ≡ o → (Passed j → Post (λ _. AllPass) FirstBad (check_grammars l (suc j) n)) → Post (λ _. AllPass) FirstBad (bind (in_list (count_at l j + 1) o) (λ _. check_grammars l (suc j) n))
      go (accepted u) p k = k p
      go (refused r) p k = fails _ (record { number = j; below = omega arith; before = b; why = r; refuses = p; placed = refl })

  pub grammars_post : Post (λ _. AllPass) FirstBad (check_grammars l 0 (list_count l))
  grammars_post = grammars_from (list_count l) 0 (omega arith) (λ i h. absurd (omega arith))

  -- grammars that pass are passed over
  skip_grammars : (j : ℕ) → j ≤ list_count l → ((i : ℕ) → i < j → Passed i) → check_grammars l j (list_count l - j) ≡ check_grammars l 0 (list_count l)
  skip_grammars zero h b = ap (check_grammars l 0) (sub-zero (list_count l))
  skip_grammars (suc j) h b = rw (add-one j) at (grammar_passed l j (list_count l) (omega arith) (sym (b j (omega arith)))) ∙ skip_grammars j (omega arith) (λ i k. b i (omega arith))

  pub grammars_pass : AllPass → accepted tt ≡ check_grammars l 0 (list_count l)
  grammars_pass b = grammars-none l (list_count l) (list_count l) (omega arith) ∙ skip_grammars (list_count l) (omega arith) b

  pub bad_refused : {e : Reason} → FirstBad e → refused e ≡ check_grammars l 0 (list_count l)
  bad_refused f = ap refused f.placed ∙ grammar-refused l f.number (list_count l) f.below (sym f.refuses) ∙ skip_grammars f.number (omega (arith, f.below)) f.before

  pub passes_held : accepted tt ≡ check_list l → accepted tt ≡ check_grammars l 0 (list_count l) → ListPasses l
  passes_held h k = record { rule = rule_held h; grammars = post_accepted (rw (sym k) at grammars_post) }

pub short : (d : List ℕ) → accepted tt ≡ check_length d → length d ≤ 1048576
short d h = post_accepted (rw (sym h) at (length_post d))

-- what `choose_grammar` takes
pub ruleset choose_steps = (rule_held, passes_held, short)

-- ---- the tries

module _ (l d : List ℕ) where
  -- the try of grammar j is refused
  abbrev Stops : ℕ → Type 0
  Stops j = (e : Stop) × (try_of l d j ≡ refused e)

  -- no grammar before number j accepts the record
  abbrev NoneBefore : ℕ → Type 0
  NoneBefore j = (i : ℕ) → i < j → ¬ (Accepts l d i)

  module _ (p : ListPasses l) (h : length d ≤ 1048576) where
    module _ (j : ℕ) (b : j < list_count l) where
      abbrev here : demarshall_of (grammar_of l j) d 4096 ≡ without_state (try_of l d j)
      here = checked (grammar_of l j) d 4096 (p.grammars j b) h

      accepts_exactly_lem : Accepts l d j ↔ ((t : Step State Val) × (try_of l d j ≡ accepted t))
      accepts_exactly_lem = (λ a. (a.0, without_state-accepted (try_of l d j) a.0 (sym here ∙ a.1)), λ t. (t.0, here ∙ ap without_state t.1))

      stops_not : Stops j → ¬ (Accepts l d j)
      stops_not s a = let x = accepts_exactly_lem.0 a in clash (sym s.1 ∙ x.1)

      not_stops : ¬ (Accepts l d j) → Stops j
      not_stops n = go (try_of l d j) refl
        where
          go : (o : Reading Val) → try_of l d j ≡ o → Stops j
          go (accepted t) e = absurd (n (accepts_exactly_lem.1 (t, e)))
          go (refused x) e = (x, e)

    abbrev None : Reason → Type 0
    None e = (e ≡ reason 22 (byte 0)) × NoneBefore (list_count l)

    tries_from : (n j before : ℕ) → j + n ≡ list_count l → before ≡ begun_over l d j → NoneBefore j → Post (IsFirst l d) None (try_grammars l d j before n)
    unfolding try_grammars begun_over
    tries_from zero j before e s b = fails _ (refl, λ i k. b i (omega arith))
    tries_from (suc n) j before e s b = go (try_of l d j) refl (λ x q. tries_from n (suc j) (before + x.state.begun) (omega arith) (rw q (ap (λ (m : ℕ). m + x.state.begun) s)) (one_more b (stops_not j (omega arith) (x, q))))
      where
        go : (o : Reading Val) → try_of l d j ≡ o → ((x : Stop) → try_of l d j ≡ refused x → Post (IsFirst l d) None (try_grammars l d (suc j) (before + x.state.begun) n)) → Post (IsFirst l d) None (tried j before o (λ begun. try_grammars l d (suc j) begun n))
        go (accepted t) q k = holds (record { number = j; begun = before + t.state.begun }) (record { passes = p; short = h; below = omega arith; accepts = (accepts_exactly_lem j (omega arith)).1 (t, q); first = b; begun = rw q (ap (λ (m : ℕ). m + t.state.begun) s) })
        go (refused x) q k = k x q

    -- the tries of a list that passes
    pub tries_post : Post (IsFirst l d) None (try_grammars l d 0 0 (list_count l))
    unfolding begun_over
    tries_post = tries_from (list_count l) 0 0 (omega arith) refl (λ i k. absurd (omega arith))

    -- tries that are refused are passed over
    skip_tries : (j : ℕ) → j ≤ list_count l → NoneBefore j → try_grammars l d j (begun_over l d j) (list_count l - j) ≡ try_grammars l d 0 0 (list_count l)
    unfolding begun_over
    skip_tries zero k b = ap (try_grammars l d 0 0) (sub-zero (list_count l))
    skip_tries (suc j) k b =
        let x = not_stops j (omega arith) (b j (omega arith)) in
        rw x.1 (rw (add-one j) at (tries-refused l d j (list_count l) (omega arith) (begun_over l d j) x.1)) ∙ skip_tries j (omega arith) (λ i m. b i (omega arith))

    pub none-accepts : NoneBefore (list_count l) → try_grammars l d 0 0 (list_count l) ≡ refused (reason 22 (byte 0))
    none-accepts n = sym (tries-none l d (list_count l) (begun_over l d (list_count l)) (list_count l) (omega arith) ∙ skip_tries (list_count l) (omega arith) n)

  first-accepted : {c : Choice} → IsFirst l d c → try_grammars l d 0 0 (list_count l) ≡ accepted c
  unfolding begun_over
  first-accepted {c} f =
      let t = (accepts_exactly_lem f.passes f.short c.number f.below).0 f.accepts in
      sym (skip_tries f.passes f.short c.number (omega (arith, f.below)) f.first)
      ∙ sym (tries-accepted l d c.number (list_count l) f.below (begun_over l d c.number) t.1)
      ∙ ap (λ (m : ℕ). accepted (record { number = c.number; begun = m })) (sym (f.begun ∙ rw t.1))

-- ---- the choice

module _ (l d : List ℕ) where
  chosen_post : Post (IsFirst l d) (λ _. Unit {0}) (choose_of l d)
  unfolding choose_of
  chosen_post =
      post_bind _ (post_weaken (λ _ r. r) (λ _ _. tt) (list_post l)) (λ _ r.
      post_bind _ (post_weaken (λ _ g. g) (λ _ _. tt) (grammars_post l)) (λ _ g.
      post_bind _ (post_weaken (λ _ h. h) (λ _ _. tt) (length_post d)) (λ _ h.
      post_weaken (λ _ f. f) (λ _ _. tt) (tries_post l d (record { rule = r; grammars = g }) h))))

  first-chosen : {c : Choice} → IsFirst l d c → choose_of l d ≡ accepted c
  first-chosen f =
      let p = f.passes in
      sym (choose-length l d (rule-passes l p.rule) (grammars_pass l p.grammars) (length-fits d f.short))
      ∙ first-accepted l d f

pub chooses_first : ChoosesFirst
chooses_first l d c = (λ e. post_accepted (rw e at (chosen_post l d)), λ f. first-chosen l d f)

-- a try begins from 1 to 4,097 values
module _ (l d : List ℕ) where
  over_bounds : (n : ℕ) → (n ≤ begun_over l d n) × (begun_over l d n ≤ 4097 * n)
  unfolding begun_over
  over_bounds zero = (omega arith, omega arith)
  over_bounds (suc n) = let o = over_bounds n in let t = begun-whole 4096 d (tree_of (grammar_of l n) 0) in (omega (arith, o.0, t.0), omega (arith, o.1, t.1))

pub begun-within : BegunWithin
unfolding begun_over
begun-within l d c e =
    let f = (chooses_first l d c).0 e in
    let t = (accepts_exactly_lem l d f.passes f.short c.number f.below).0 f.accepts in
    let s : c.begun ≡ begun_over l d c.number + t.0.state.begun = f.begun ∙ rw t.1 in
    let o = over_bounds l d c.number in
    let p = post_accepted (rw t.1 at (begins_whole 4096 d (tree_of (grammar_of l c.number) 0))) in
    let m : c.begun < 4097 * suc c.number = omega (arith, s, o.1, p.1) in
    record {
      least = omega (arith, s, o.0, p.0);
      most = m;
      figure = omega (arith, m, f.below, f.passes.rule.most);
    }
