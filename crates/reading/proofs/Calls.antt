-- The public calls: 1 to 7 before the reading of the root, 11 behind it, and the rows it fills.
use mathlib.Core.Path.{◌≡◌, refl, ap, sym, subst, ◌∙◌}
use mathlib.Core.Bool.{Bool, true, false}
use mathlib.Core.Logic.{inl, inr}
use mathlib.Core.List.{List}
use Prim.Native.Nat.{ℕ, zero, suc, ◌≤◌}
use native.Mathlib.Omega.{arith}
use lib.ListN.{length}
use lib.Dec.{leb, eqb}
use borrow.Author.Tests.{le-leb}
use Rattle.refusal.specs.Outcome.{Outcome, accepted, refused, bind, test, map, contents, Reason, reason, byte}
use Rattle.refusal.specs.declared.Refusal.{Refusal}
use Rattle.refusal.specs.Meaning.{reason_of}
use Rattle.packed.specs.Packed.{put}
use Rattle.value.specs.Tree.{Val}
use Rattle.value.specs.Step.{Step, yield, next}
use Rattle.value.specs.Reading.{State, Stop, Reading, stop, start, claim, at_end, read_at, read_whole, read_val}
use Rattle.value.proofs.Capacity.{Or8, or8_val}
use Rattle.grammar.specs.Check.{check_grammar}
use Rattle.grammar.specs.Tree.{tree_of}
use Rattle.tables.specs.Row.{laid}
use Rattle.packed.proofs.Fitting.{put_within-fits}
use Rattle.rows.specs.Layout.{rows_of}
use Rattle.rows.proofs.LayoutLaws.{length_rows_of}
use Rattle.admission.specs.Admission.{in_force, capacity_of, admit_of}
use Rattle.std.specs.Prelude.{Result, Ok, Err}
use Rattle.readers.specs.Meaning.{CodeStep, stop_of, step_of}
use Rattle.readers.specs.Root.{capacity_within, before_start, read_root, FillsRows}
use Rattle.readers.proofs.Root.{within_none, root-few}
use Rattle.reading.specs.declared.Parsed.{Parsed}
use Rattle.reading.specs.Meaning.{parsed_of}
use Rattle.reading.specs.Calls.{without_state, parse_val_of, demarshall_of, counts_of, parsed_step, Parses, SameOr8}

pub without_state-accepted : (x : Reading Val) (t : Step State Val) → without_state x ≡ accepted t → x ≡ accepted t
without_state-accepted (accepted s) t h = let q : s ≡ t = cc in ap accepted q
without_state-accepted (refused e) t h = let z : ◌≡◌ {A = ℕ} 0 1 = cc in absurd (omega arith)

module _ (g d : List ℕ) (index : ℕ) where
  -- the reading waits for 1 to 7
  pub parse_admitted : (capacity : ℕ) → parse_val_of g d index capacity ≡ bind (admit_of g d index) (λ _. without_state (read_val capacity d (tree_of g 0) (start index)))
  unfolding parse_val_of admit_of read_at
  parse_admitted capacity = go (check_grammar g)
    where
      go2 : (b c : Bool) → test b (reason 6 (byte 0)) (λ _. without_state (test c (stop 7 (start index)) (λ _. read_val capacity d (tree_of g 0) (start index)))) ≡ bind (test b (reason 6 (byte 0)) (λ _. test c (reason 7 (byte index)) accepted)) (λ _. without_state (read_val capacity d (tree_of g 0) (start index)))
      go2 true true = refl
      go2 true false = refl
      go2 false c = refl

      go : (x : Outcome Reason (Unit {0})) → bind x (λ _. test (leb (length d) 1048576) (reason 6 (byte 0)) (λ _. without_state (test (leb index (length d)) (stop 7 (start index)) (λ _. read_val capacity d (tree_of g 0) (start index))))) ≡ bind (bind x (λ _. test (leb (length d) 1048576) (reason 6 (byte 0)) (λ _. test (leb index (length d)) (reason 7 (byte index)) accepted))) (λ _. without_state (read_val capacity d (tree_of g 0) (start index)))
      go (refused r) = refl
      go (accepted u) = go2 (leb (length d) 1048576) (leb index (length d))

  pub parse-refused : (capacity : ℕ) {r : Reason} → refused r ≡ admit_of g d index → refused r ≡ parse_val_of g d index capacity
  parse-refused capacity h = ap (λ (o : Outcome Reason (Unit {0})). bind o (λ _. without_state (read_val capacity d (tree_of g 0) (start index)))) h ∙ sym (parse_admitted capacity)

  pub parse-read : (capacity : ℕ) → accepted tt ≡ admit_of g d index → without_state (read_val capacity d (tree_of g 0) (start index)) ≡ parse_val_of g d index capacity
  parse-read capacity h = ap (λ (o : Outcome Reason (Unit {0})). bind o (λ _. without_state (read_val capacity d (tree_of g 0) (start index)))) h ∙ sym (parse_admitted capacity)

  -- a capacity of 0 has no row for the root
  pub parse-no-row : accepted tt ≡ admit_of g d index → refused (reason 8 (byte index)) ≡ parse_val_of g d index 0
  unfolding claim
  parse-no-row h = parse-read 0 h

  -- an accepted call passed 1 to 7, and the root was read
  pub parse-accepted : (capacity : ℕ) (t : Step State Val) → parse_val_of g d index capacity ≡ accepted t → (accepted tt ≡ admit_of g d index) × (read_val capacity d (tree_of g 0) (start index) ≡ accepted t)
  parse-accepted capacity t h = go (admit_of g d index) refl (sym (parse_admitted capacity) ∙ h)
    where
      go : (x : Outcome Reason (Unit {0})) → admit_of g d index ≡ x → bind x (λ _. without_state (read_val capacity d (tree_of g 0) (start index))) ≡ accepted t → (accepted tt ≡ admit_of g d index) × (read_val capacity d (tree_of g 0) (start index) ≡ accepted t)
      go (refused r) e q = let z : ◌≡◌ {A = ℕ} 0 1 = cc in absurd (omega arith)
      go (accepted u) e q = (sym e, without_state-accepted (read_val capacity d (tree_of g 0) (start index)) t q)

-- 11 of the whole reading, without its state
end_test : (d : List ℕ) (x : Reading Val) → without_state (next x (at_end d)) ≡ bind (without_state x) (λ t. test (eqb t.state.at (length d)) (reason 11 (byte t.state.at)) (λ _. accepted t))
end_test d (refused e) = refl
end_test d (accepted t) = go (eqb t.state.at (length d))
  where
    go : (b : Bool) → without_state (test b (stop 11 t.state) (λ _. yield t.value t.state)) ≡ test b (reason 11 (byte t.state.at)) (λ _. accepted t)
    go true = refl
    go false = refl

module _ (g d : List ℕ) (capacity : ℕ) where
  -- the whole reading is the reading from byte 0 on, and then 11
  pub whole-parse : demarshall_of g d capacity ≡ bind (parse_val_of g d 0 capacity) (λ t. test (eqb t.state.at (length d)) (reason 11 (byte t.state.at)) (λ _. accepted t))
  unfolding demarshall_of parse_val_of read_whole read_at
  whole-parse = go (check_grammar g)
    where
      go2 : (b c : Bool) → c ≡ true → test b (reason 6 (byte 0)) (λ _. without_state (next (read_val capacity d (tree_of g 0) (start 0)) (at_end d))) ≡ bind (test b (reason 6 (byte 0)) (λ _. without_state (test c (stop 7 (start 0)) (λ _. read_val capacity d (tree_of g 0) (start 0))))) (λ t. test (eqb t.state.at (length d)) (reason 11 (byte t.state.at)) (λ _. accepted t))
      go2 true true h = end_test d (read_val capacity d (tree_of g 0) (start 0))
      go2 true false h = let z : ◌≡◌ {A = ℕ} 0 1 = cc in absurd (omega arith)
      go2 false c h = refl

      go : (x : Outcome Reason (Unit {0})) → bind x (λ _. test (leb (length d) 1048576) (reason 6 (byte 0)) (λ _. without_state (next (read_val capacity d (tree_of g 0) (start 0)) (at_end d)))) ≡ bind (bind x (λ _. test (leb (length d) 1048576) (reason 6 (byte 0)) (λ _. without_state (test (leb 0 (length d)) (stop 7 (start 0)) (λ _. read_val capacity d (tree_of g 0) (start 0)))))) (λ t. test (eqb t.state.at (length d)) (reason 11 (byte t.state.at)) (λ _. accepted t))
      go (refused r) = refl
      go (accepted u) = go2 (leb (length d) 1048576) (leb 0 (length d)) (le-leb 0 (length d) (omega arith))

  -- an accepted whole reading is an accepted reading from byte 0 on
  pub whole-accepted : (t : Step State Val) → demarshall_of g d capacity ≡ accepted t → parse_val_of g d 0 capacity ≡ accepted t
  whole-accepted t h = go (parse_val_of g d 0 capacity) (sym whole-parse ∙ h)
    where
      go2 : (b : Bool) (s : Step State Val) → test b (reason 11 (byte s.state.at)) (λ _. accepted s) ≡ accepted t → ◌≡◌ {A = Outcome Reason (Step State Val)} (accepted s) (accepted t)
      go2 true s q = q
      go2 false s q = let z : ◌≡◌ {A = ℕ} 0 1 = cc in absurd (omega arith)

      go : (o : Outcome Reason (Step State Val)) → bind o (λ s. test (eqb s.state.at (length d)) (reason 11 (byte s.state.at)) (λ _. accepted s)) ≡ accepted t → o ≡ accepted t
      go (refused r) q = let z : ◌≡◌ {A = ℕ} 0 1 = cc in absurd (omega arith)
      go (accepted s) q = go2 (eqb s.state.at (length d)) s q

-- The calls at two capacities, c and one at least as large, m: with c the answer is the same, or refused with 8.

module _ (g d : List ℕ) (c m : ℕ) (l : c ≤ m) where
  pub parse-smaller : (index : ℕ) → SameOr8 (parse_val_of g d index c) (parse_val_of g d index m)
  parse-smaller index = rw (parse_admitted g d index c, parse_admitted g d index m) (go (admit_of g d index) (or8_val c m l d (tree_of g 0) (start index)))
    where
      go : {x y : Reading Val} (o : Outcome Reason (Unit {0})) → Or8 x y → SameOr8 (bind o (λ _. without_state x)) (bind o (λ _. without_state y))
      go (refused r) h = inl refl
      go (accepted u) (inl e) = inl (ap without_state e)
      go (accepted u) (inr h) = inr (h.0.at, ap without_state h.1)

  pub whole-smaller : SameOr8 (demarshall_of g d c) (demarshall_of g d m)
  whole-smaller = rw (whole-parse g d c, whole-parse g d m) (go (parse-smaller 0))
    where
      end : Outcome Reason (Step State Val) → Outcome Reason (Step State Val)
      end o = bind o (λ t. test (eqb t.state.at (length d)) (reason 11 (byte t.state.at)) (λ _. accepted t))

      go : {x y : Outcome Reason (Step State Val)} → SameOr8 x y → SameOr8 (end x) (end y)
      go (inl e) = inl (ap end e)
      go (inr h) = inr (h.0, ap end h.1)

-- a step of the code, as an answer
pub step_counts : (c : CodeStep) (x : Reading Val) → step_of c ≡ map (λ t. t.state) x → parsed_step c ≡ map counts_of (without_state x)
step_counts (Ok u) (accepted t) h = let q : record { at = u.at; begun = u.begun } ≡ t.state = cc in ap (λ (s : State). accepted (record { rows = s.begun; rest_index = s.at })) q
step_counts (Ok u) (refused e) h = let z : ◌≡◌ {A = ℕ} 0 1 = cc in absurd (omega arith)
step_counts (Err z) (accepted t) h = let z : ◌≡◌ {A = ℕ} 0 1 = cc in absurd (omega arith)
step_counts (Err z) (refused e) h = let q : stop_of z ≡ e = cc in ap (λ (s : Stop). refused s.why) q

-- a refused call: the rows stay
pub parses-refused : (o : Outcome Reason (Step State Val)) (index : ℕ) {f : Refusal} (rows : List ℕ) → refused (reason_of f) ≡ map counts_of o → Parses o index (Err f) rows rows
parses-refused (refused e) index rows h = record { answers = h; rows = refl }
parses-refused (accepted t) index rows h = let z : ◌≡◌ {A = ℕ} 0 1 = cc in absurd (omega arith)

-- The calls over `read`.

within-lent : (words : ℕ) → capacity_within (capacity_of words) words ≡ capacity_of words
unfolding capacity_within
within-lent zero = refl
within-lent (suc words) = omega arith

pub root-parse : (g d : List ℕ) (index capacity : ℕ) → without_state (read_root g d index capacity false) ≡ parse_val_of g d index capacity
unfolding read_root
root-parse g d index capacity = go (admit_of g d index) ∙ sym (parse_admitted g d index capacity)
  where
    go : (x : Outcome Reason (Unit {0})) → without_state (bind (before_start index x) (λ _. read_val capacity d (tree_of g 0) (start index))) ≡ bind x (λ _. without_state (read_val capacity d (tree_of g 0) (start index)))
    go (refused r) = refl
    go (accepted u) = refl

pub root-whole : (g d : List ℕ) (capacity : ℕ) → without_state (read_root g d 0 capacity true) ≡ demarshall_of g d capacity
unfolding read_root
root-whole g d capacity = go (admit_of g d 0) ∙ ap (λ (o : Outcome Reason (Step State Val)). bind o (λ t. test (eqb t.state.at (length d)) (reason 11 (byte t.state.at)) (λ _. accepted t))) (sym (parse_admitted g d 0 capacity)) ∙ sym (whole-parse g d capacity)
  where
    go : (x : Outcome Reason (Unit {0})) → without_state (bind (before_start 0 x) (λ _. next (read_val capacity d (tree_of g 0) (start 0)) (at_end d))) ≡ bind (bind x (λ _. without_state (read_val capacity d (tree_of g 0) (start 0)))) (λ t. test (eqb t.state.at (length d)) (reason 11 (byte t.state.at)) (λ _. accepted t))
    go (refused r) = refl
    go (accepted u) = end_test d (read_val capacity d (tree_of g 0) (start 0))

-- where 1 to 6 are not given, a try is the whole reading
module _ (g d : List ℕ) (capacity : ℕ) (p : check_grammar g ≡ accepted tt) (h : length d ≤ 1048576) where
  pub try_whole : read_root g d 0 capacity true ≡ read_whole capacity d (tree_of g 0)
  unfolding read_root admit_of read_whole
  try_whole = rw (p, le-leb (length d) 1048576 h, le-leb 0 (length d) (omega arith))

  pub checked : demarshall_of g d capacity ≡ without_state (read_whole capacity d (tree_of g 0))
  checked = sym (root-whole g d capacity) ∙ ap without_state try_whole

module _ (g d : List ℕ) (index : ℕ) (whole : Bool) (o : ℕ → Outcome Reason (Step State Val)) (e : (capacity : ℕ) → without_state (read_root g d index capacity whole) ≡ o capacity) {c : CodeStep} (p : Result Parsed Refusal) (a : parsed_of p ≡ parsed_step c) {entry exit : List ℕ} where
  counts : (capacity : ℕ) → FillsRows (read_root g d index capacity whole) capacity index c entry exit → parsed_of p ≡ map counts_of (o capacity)
  counts capacity f = a ∙ step_counts c (read_root g d index capacity whole) f.answers ∙ ap (map counts_of) (e capacity)

  -- a check at the capacity named
  pub counts-read : (named : ℕ) → FillsRows (read_root g d index (capacity_within named 0) whole) (capacity_within named 0) index c entry exit → parsed_of p ≡ map counts_of (o (in_force named))
  counts-read named f = counts (capacity_within named 0) f ∙ ap (λ (m : ℕ). map counts_of (o m)) (sym (within_none named 0 refl))

  -- rows of this length are lent
  pub parses-read : {capacity : ℕ} → capacity ≡ capacity_of (length entry) → FillsRows (read_root g d index (capacity_within capacity (length entry)) whole) (capacity_within capacity (length entry)) index c entry exit → Parses (o (capacity_of (length entry))) index p entry exit
  parses-read {capacity} k f =
      let lent = capacity_of (length entry) in
      let m : capacity_within capacity (length entry) ≡ lent = ap (λ (n : ℕ). capacity_within n (length entry)) k ∙ within-lent (length entry) in
      let h : FillsRows (read_root g d index lent whole) lent index c entry exit = subst (λ (n : ℕ). FillsRows (read_root g d index n whole) n index c entry exit) m f in
      record {
        answers = counts lent h;
        rows = h.rows ∙ filled (read_root g d index lent whole) (λ t q. omega (arith, root-few g d index lent whole t q, length_rows_of t.value index)) ∙ ap (λ (x : Outcome Reason (Step State Val)). contents (map (λ t. put entry 0 (rows_of t.value index)) x) entry) (e lent);
      }
    where
      filled : (x : Reading Val) → ((t : Step State Val) → x ≡ accepted t → length (rows_of t.value index) ≤ length entry) → contents (map (λ t. laid entry 0 (rows_of t.value index)) x) entry ≡ contents (map (λ t. put entry 0 (rows_of t.value index)) (without_state x)) entry
      filled (refused r) l = refl
      filled (accepted t) l = put_within-fits entry 0 (rows_of t.value index) (omega (arith, l t refl))
