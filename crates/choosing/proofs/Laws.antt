-- The chooser step by step, as the code decides it.
use Rattle.std.proofs.Common.{◌≡◌, refl, ap, sym, ◌∙◌, true, false, List, ℕ, zero, suc, ◌+◌, ◌-◌, ◌≤◌, ◌<◌, add-zero, add-one, arith, length, get_or, take, drop, length-drop, length-take-le, eqb}
use Rattle.std.proofs.Math.Nat.{sub-zero}
use Rattle.refusal.specs.Outcome.{Outcome, accepted, refused, bind, test, map, word, byte, Reason, reason}
use Rattle.refusal.specs.Meaning.{location_of, reason_of}
use Rattle.refusal.specs.declared.Refusal.{Refusal}
use Rattle.refusal.proofs.Tests.{reflects_leb, reflects_ltb, reflects_eqb, reflects_and, refuted}
use Rattle.refusal.proofs.Outcome.{Post, holds, post_reflects, post_accepted, post_refused, test-true, map-accepted, map-refused}
use Rattle.value.specs.Tree.{Val}
use Rattle.value.specs.Step.{Step}
use Rattle.value.specs.Reading.{State, Stop, Reading}
use Rattle.value.proofs.Begun.{begins_whole}
use Rattle.grammar.specs.Check.{check_grammar}
use Rattle.grammar.proofs.Rule.{refused_exactly, refused-word}
use Rattle.grammar.specs.Tree.{tree_of}
use Rattle.admission.specs.Admission.{check_length}
use Rattle.readers.specs.Root.{read_root}
use Rattle.reading.proofs.Calls.{try_whole}
use Rattle.choosing.specs.Choose.{list_count, count_at, grammar_of, check_list, placed_reason, in_list, check_grammars, try_of, Choice, tried, try_grammars, choose_of}
use Rattle.choosing.specs.Rule.{ListRule, ListPasses}

-- ---- the list

module _ (l : List ℕ) where
  pub count-first : 1 ≡ count_at l 0
  unfolding count_at
  count-first = refl

  count_next : (j : ℕ) → count_at l j + 1 + get_or l (count_at l j) 0 ≡ count_at l (suc j)
  unfolding count_at
  count_next j = refl

  -- each grammar takes a word at least
  rises : (n j : ℕ) → count_at l j + n ≤ count_at l (j + n)
  rises zero j = rw (add-zero j) (omega arith)
  rises (suc n) j = let e : j + suc n ≡ suc (j + n) = omega arith in rw e (omega (arith, rises n j, count_next (j + n)))

  -- from grammar j to grammar n the word count stands at least a word further on for each grammar
  count_rises : (j n : ℕ) → j ≤ n → count_at l j + (n - j) ≤ count_at l n
  count_rises j n h = let e : j + (n - j) ≡ n = omega arith in rw e at (rises (n - j) j)

  -- a list that ends before a word count is cut
  pub cut_short : (j n : ℕ) → j < n → length l ≤ count_at l j → false ≡ eqb (count_at l n) (length l)
  cut_short j n h k = sym (refuted (reflects_eqb (count_at l n) (length l)) (λ e. omega (arith, count_rises j n (omega arith))))

  -- the grammars of a list that is laid out lie in it
  pub within : count_at l (list_count l) ≡ length l → (j : ℕ) → j ≤ list_count l → count_at l j ≤ length l
  within e j h = omega (arith, count_rises j (list_count l) h)

  -- from the word count of grammar j to the next
  pub next_at : (j at : ℕ) → at ≡ count_at l j → at + (1 + get_or l at 0) ≡ count_at l (j + 1)
  next_at j at a = rw (a, add-one j) (omega (arith, count_next j))

  -- what 21 not given says
  rule-of : (0 < list_count l) × (list_count l ≤ 16) → count_at l (list_count l) ≡ length l → ListRule l
  rule-of c e = record {
    some = c.0;
    most = c.1;
    whole = λ j h. omega (arith, within e (suc j) h, count_next j);
    none = omega (arith, e);
  }

  -- the last grammar ends with the list
  pub rule-ends : ListRule l → count_at l (list_count l) ≡ length l
  rule-ends r =
      let n : list_count l ≡ suc (list_count l - 1) = omega (arith, r.some) in
      omega (arith, r.none, r.whole (list_count l - 1) (omega (arith, n)), ap (count_at l) n, count_next (list_count l - 1))

  pub list_post : Post (λ _. ListRule l) (λ e. (e ≡ reason 21 (word 0)) × (ListRule l → ⊥)) (check_list l)
  unfolding check_list
  list_post =
      post_reflects _ _ _ (reflects_and (reflects_ltb 0 (list_count l)) (reflects_leb (list_count l) 16))
      (λ c. post_reflects _ _ _ (reflects_eqb (count_at l (list_count l)) (length l)) (λ e. holds tt (rule-of c e)) (λ n. (refl, λ r. n (rule-ends r))))
      (λ n. (refl, λ r. n (r.some, r.most)))

  pub list_filled : (list_count l ≡ 0 → ⊥) → list_count l ≤ 16 → test (eqb (count_at l (list_count l)) (length l)) (reason 21 (word 0)) accepted ≡ check_list l
  unfolding check_list
  list_filled n h = sym (test-true _ _ ((reflects_and (reflects_ltb 0 (list_count l)) (reflects_leb (list_count l) 16)).0 (omega arith, h)))

  -- the words of grammar j, and the next word count behind them
  module _ {j at : ℕ} {g : List ℕ} (r : ListRule l) (h : j < list_count l) (a : at ≡ count_at l j) (e : g ≡ take (get_or l at 0) (drop (at + 1) l)) where
    pub part_is : g ≡ grammar_of l j
    part_is = rw (e, a)

    pub next_behind : at + (1 + length g) ≡ count_at l (j + 1)
    next_behind =
        let f : get_or l at 0 ≤ length (drop (at + 1) l) = rw (length-drop, a) (omega (arith, r.whole j h)) in
        rw (e, length-take-le (get_or l at 0) (drop (at + 1) l) f) (next_at j at a)

-- what the loop of `fills_list` takes
pub ruleset list_steps = (count-first, next_at, cut_short)

-- ---- the grammars of the list, one behind the other

-- a refusal of a grammar is at one of the words that a table may have
pub refusal-word : (g : List ℕ) (r : Refusal) → refused (reason_of r) ≡ check_grammar g → (w : ℕ) → location_of r.place ≡ word w → w < 1794
refusal-word g r h w e =
    let f = refused-word g ((refused_exactly g (reason_of r)).0 (sym h)) in
    let p : reason r.number (word w) ≡ reason f.0 (word f.1) = ap (reason r.number) (sym e) ∙ f.2 in
    let q : w ≡ f.1 = cc in
    omega (arith, f.3)

-- of n grammars those from number j on are one more than those behind it
left : (j n : ℕ) → j < n → n - j ≡ suc (n - suc j)
left j n h = omega arith

module _ (l : List ℕ) (j n : ℕ) where
  pub grammars-none : n ≤ j → accepted tt ≡ check_grammars l j (n - j)
  unfolding check_grammars
  grammars-none h = let e : n - j ≡ 0 = omega arith in rw e

  -- by what the check of grammar j came to
  grammar-step : j < n → {o : Outcome Reason (Unit {0})} → o ≡ check_grammar (grammar_of l j) → bind (in_list (count_at l j + 1) o) (λ _. check_grammars l (suc j) (n - suc j)) ≡ check_grammars l j (n - j)
  unfolding check_grammars
  grammar-step h e = rw (left j n h) (ap (λ (o : Outcome Reason (Unit {0})). bind (in_list (count_at l j + 1) o) (λ _. check_grammars l (suc j) (n - suc j))) e)

  pub grammar_passed : j < n → accepted tt ≡ check_grammar (grammar_of l j) → check_grammars l (j + 1) (n - (j + 1)) ≡ check_grammars l j (n - j)
  grammar_passed h e = rw (add-one j) (grammar-step h e)

  pub grammar-refused : j < n → {r : Reason} → refused r ≡ check_grammar (grammar_of l j) → refused (placed_reason (count_at l j + 1) r) ≡ check_grammars l j (n - j)
  grammar-refused h e = grammar-step h e

-- what the loop of `check_grammars` takes
pub ruleset grammar_steps = (count-first, sub-zero, part_is, next_behind, refusal-word, grammars-none, grammar_passed, grammar-refused)

-- ---- the tries

pub tries-none : (l d : List ℕ) (j before n : ℕ) → n ≤ j → refused (reason 22 (byte 0)) ≡ try_grammars l d j before (n - j)
unfolding try_grammars
tries-none l d j before n h = let e : n - j ≡ 0 = omega arith in rw e

-- the try of grammar j, of n, where the tries before it have begun so many values
module _ (l d : List ℕ) (j n : ℕ) (h : j < n) (before : ℕ) where
  -- by what it came to
  try_step : {o : Reading Val} → try_of l d j ≡ o → tried j before o (λ begun. try_grammars l d (suc j) begun (n - suc j)) ≡ try_grammars l d j before (n - j)
  unfolding try_grammars
  try_step e = rw (left j n h) (ap (λ (o : Reading Val). tried j before o (λ begun. try_grammars l d (suc j) begun (n - suc j))) (sym e))

  pub tries-accepted : {t : Step State Val} → try_of l d j ≡ accepted t → accepted (record { number = j; begun = before + t.state.begun }) ≡ try_grammars l d j before (n - j)
  tries-accepted e = try_step e

  pub tries-refused : {x : Stop} → try_of l d j ≡ refused x → try_grammars l d (j + 1) (before + x.state.begun) (n - (j + 1)) ≡ try_grammars l d j before (n - j)
  tries-refused e = rw (add-one j) (try_step e)

-- what is known at the try of grammar j, of n, by the words g
pub record Trying (l d g : List ℕ) (j n : ℕ) : Type 0 where
  pub below : j < n
  pub passes : check_grammar (grammar_of l j) ≡ accepted tt
  pub short : length d ≤ 1048576
  pub part : g ≡ grammar_of l j

pub trying : {l d g : List ℕ} {j n at : ℕ} → ListPasses l → length d ≤ 1048576 → n ≡ list_count l → j < n → at ≡ count_at l j → g ≡ take (get_or l at 0) (drop (at + 1) l) → Trying l d g j n
trying {l} {d} {g} {j} {n} {at} p s c h a e = record { below = h; passes = p.grammars j (omega arith); short = s; part = part_is l p.rule (omega arith) a e }

-- and what its answer says
module _ {l d g : List ℕ} {j n : ℕ} (k : Trying l d g j n) where
  whole : read_root g d 0 4096 true ≡ try_of l d j
  whole = ap (λ (x : List ℕ). read_root x d 0 4096 true) k.part ∙ try_whole (grammar_of l j) d 4096 k.passes k.short

  module _ {s : State} (r : accepted s ≡ map (λ t. t.state) (read_root g d 0 4096 true)) where
    accepted-read : (t : Step State Val) × (try_of l d j ≡ accepted t) × (s ≡ t.state)
    accepted-read = map-accepted (λ (t : Step State Val). t.state) (try_of l d j) (sym (r ∙ ap (map (λ t. t.state)) whole))

    pub accepted-most : s.begun ≤ 4096
    accepted-most = let x = accepted-read in omega (arith, ap (λ (q : State). q.begun) x.2, (post_accepted (rw x.1 at (begins_whole 4096 d (tree_of (grammar_of l j) 0)))).1)

    pub try_accepted : (before : ℕ) → accepted (record { number = j; begun = before + s.begun }) ≡ try_grammars l d j before (n - j)
    try_accepted before = let x = accepted-read in rw x.2 (tries-accepted l d j n k.below before x.1)

  module _ {x : Stop} (r : refused x ≡ map (λ t. t.state) (read_root g d 0 4096 true)) where
    refused-read : try_of l d j ≡ refused x
    refused-read = map-refused (λ (t : Step State Val). t.state) (try_of l d j) (sym (r ∙ ap (map (λ t. t.state)) whole))

    pub refused-most : x.state.begun ≤ 4097
    refused-most = omega (arith, (post_refused (rw refused-read at (begins_whole 4096 d (tree_of (grammar_of l j) 0)))).1)

    pub try_refused : (before : ℕ) → try_grammars l d (j + 1) (before + x.state.begun) (n - (j + 1)) ≡ try_grammars l d j before (n - j)
    try_refused before = tries-refused l d j n k.below before refused-read

-- what the loop of `try_grammars` takes
pub ruleset try_steps = (count-first, sub-zero, next_behind, tries-none, trying, accepted-most, try_accepted, refused-most, try_refused)

-- ---- 21, 1 to 5, 6, then the tries

module _ (l d : List ℕ) where
  abbrev tries : Outcome Reason Choice
  tries = try_grammars l d 0 0 (list_count l)

  -- by what each step came to, behind those that accept
  pub choose-list : {o : Outcome Reason (Unit {0})} → o ≡ check_list l → bind o (λ _. bind (check_grammars l 0 (list_count l)) (λ _. bind (check_length d) (λ _. tries))) ≡ choose_of l d
  unfolding choose_of
  choose-list e = ap (λ (o : Outcome Reason (Unit {0})). bind o (λ _. bind (check_grammars l 0 (list_count l)) (λ _. bind (check_length d) (λ _. tries)))) e

  module _ (p : accepted tt ≡ check_list l) where
    pub choose-grammars : {o : Outcome Reason (Unit {0})} → o ≡ check_grammars l 0 (list_count l) → bind o (λ _. bind (check_length d) (λ _. tries)) ≡ choose_of l d
    choose-grammars e = ap (λ (o : Outcome Reason (Unit {0})). bind o (λ _. bind (check_length d) (λ _. tries))) e ∙ choose-list p

    pub choose-length : accepted tt ≡ check_grammars l 0 (list_count l) → {o : Outcome Reason (Unit {0})} → o ≡ check_length d → bind o (λ _. tries) ≡ choose_of l d
    choose-length q e = ap (λ (o : Outcome Reason (Unit {0})). bind o (λ _. tries)) e ∙ choose-grammars q
