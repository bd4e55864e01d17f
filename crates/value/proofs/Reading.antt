-- What a reading means: it is accepted exactly where the bytes of a value that fits stand, and it agrees with `parse_val`.
use Rattle.std.proofs.Common.{◌≡◌, refl, sym, ap, ◌∙◌, ◌↔◌, ◌≢◌, List, [], ◌++◌, ℕ, zero, suc, ◌+◌, ◌-◌, ◌^◌, ◌≤◌, ◌<◌, arith, length, drop, length-append, length-drop, take-append-drop, take_at, take_all, eqb, eqb→eq, eq-eqb, le-leb}
use Rattle.std.proofs.Math.Decide.{dec_le}
use Rattle.std.proofs.Math.Option.{Option, none, some}
use Rattle.std.proofs.Math.Seq.{drop-length}
use borrow.Author.Tests.{lt-leb}
use Rattle.refusal.specs.Outcome.{accepted, refused, Location, byte, reason}
use Rattle.refusal.proofs.Outcome.{Post, holds, fails, post_test, post_weaken, post_accepted, post_refused, test-true, test-false}
use Rattle.packed.specs.Packed.{Bytes}
use Rattle.packed.proofs.Laws.{bytes_drop}
use Rattle.value.specs.Tree.{G, Gs, gnil, gcons, Val, seq_g, case_at, ValueOf, ValidGrammar, SizeOfV, row_count}
use Rattle.value.specs.Bytes.{bytes_of, Stands}
use Rattle.value.specs.Step.{Step, next}
use Rattle.value.specs.Parse.{Parse, pair, parse_val, parse, Demarshallable, DemarshallFunc}
use Rattle.value.specs.Reading.{State, Stop, Reading, stop, start, free, at_end, read_body, read_case_at, read_val, read_at, read_whole, read_to}
use Rattle.value.proofs.Laws.{length_bytes_of, pair-parsed, parse_val_bytes_of, parse_val-value, demarshallable_value}
use Rattle.value.proofs.Agreement.{gives, Agrees, same, neither, short, agrees}

-- ---- at a position

-- what agreement says of a value read from s
record Same {A : Type 0} (capacity : ℕ) (d : List ℕ) (rows : A → ℕ) (s : State) (y : Parse A) (t : Step State A) : Type 0 where
  parsed : pair y ≡ (some t.value, drop t.state.at d)
  inside : t.state.at ≤ length d
  begun : t.state.begun ≡ s.begun + rows t.value
  fits : rows t.value ≤ free capacity s

-- and of a refusal
data Lacks {A : Type 0} (capacity : ℕ) (rows : A → ℕ) (s : State) (y : Parse A) : Stop → Type 0 where
  nothing : (n : ℕ) (t : State) → pair y ≡ (none, []) → Lacks capacity rows s y (stop n t)
  few : (t : State) → ((a : A) (rest : List ℕ) → pair y ≡ (some a, rest) → free capacity s < rows a) → Lacks capacity rows s y (stop 8 t)

agrees_post : {A : Type 0} {capacity : ℕ} {d : List ℕ} {rows : A → ℕ} {s : State} {x : Reading A} {y : Parse A} → Agrees capacity d rows s x y → Post (Same capacity d rows s y) (Lacks capacity rows s y) x
agrees_post (same a t h b f) = gives (record { parsed = refl; inside = h; begun = b; fits = f })
agrees_post (neither n t) = fails _ (nothing n t refl)
agrees_post (short t y p) = fails _ (few t (λ a rest e. post_accepted (rw (pair-parsed y a rest e) at p)))

-- v is read where its rows are free, else refused with 8
abbrev pub ReadOrShort : ℕ → State → Val → Reading Val → Type 0
ReadOrShort capacity s v x = Post (λ t. (t ≡ read_to v s) × (row_count v ≤ free capacity s)) (λ e. (e ≡ stop 8 e.state) × (free capacity s < row_count v)) x

module _ (capacity : ℕ) (d : List ℕ) (g : G) (s : State) (h : s.at ≤ length d) where
  agrees_val : Post (Same capacity d row_count s (parse g (drop s.at d))) (Lacks capacity row_count s (parse g (drop s.at d))) (read_val capacity d g s)
  agrees_val = agrees_post (agrees capacity d g s h)

  -- both outcomes at once
  pub read-value : (v : Val) → Stands d g s.at v → ReadOrShort capacity s v (read_val capacity d g s)
  read-value v o = post_weaken read few-rows agrees_val
    where
      rest : List ℕ
      rest = drop (SizeOfV v) (drop s.at d)

      here : drop s.at d ≡ bytes_of v ++ rest
      here = sym (take-append-drop (SizeOfV v) (drop s.at d)) ∙ rw o.bytes

      parsed : parse_val (drop s.at d) g ≡ (some v, rest)
      parsed = ap (λ (b : List ℕ). parse_val b g) here ∙ parse_val_bytes_of o.of_grammar rest

      read : (t : Step State Val) → Same capacity d row_count s (parse g (drop s.at d)) t → (t ≡ read_to v s) × (row_count v ≤ free capacity s)
      read t x =
          let e = sym x.parsed ∙ parsed in
          let f : some t.value ≡ some v = ap (λ (p : Option Val × List ℕ). p.0) e in
          let w : t.value ≡ v = cc in
          let r : length d - t.state.at ≡ length rest = sym (length-drop t.state.at d) ∙ ap (λ (p : Option Val × List ℕ). length p.1) e in
          let l : length d - s.at ≡ SizeOfV v + length rest = sym (length-drop s.at d) ∙ ap length here ∙ rw (length-append, length_bytes_of) in
          let i : t.state.at ≡ s.at + SizeOfV v = omega (arith, x.inside) in
          let b : t.state.begun ≡ s.begun + row_count v = x.begun ∙ rw w in
          (λ k. record { value = w k; state = record { at = i k; begun = b k } }, rw w at x.fits)

      few-rows : (e : Stop) → Lacks capacity row_count s (parse g (drop s.at d)) e → (e ≡ stop 8 e.state) × (free capacity s < row_count v)
      few-rows e (nothing n t q) =
          let z : some v ≡ none = ap (λ (p : Option Val × List ℕ). p.0) (sym parsed ∙ q) in
          let y : ◌≡◌ {A = ℕ} 0 1 = cc in
          absurd (omega arith)
      few-rows e (few t l) = (refl, l v rest parsed)

  pub read_fits : (v : Val) → Stands d g s.at v → row_count v ≤ free capacity s → read_val capacity d g s ≡ accepted (read_to v s)
  read_fits v o l = go (read-value v o)
    where
      go : {x : Reading Val} → ReadOrShort capacity s v x → x ≡ accepted (read_to v s)
      go (holds t p) = ap accepted p.0
      go (fails e q) = absurd (omega (arith, q.1))

  pub read_short : (v : Val) → Stands d g s.at v → free capacity s < row_count v → (t : State) × (read_val capacity d g s ≡ refused (stop 8 t))
  read_short v o l = go (read-value v o)
    where
      go : {x : Reading Val} → ReadOrShort capacity s v x → (t : State) × (x ≡ refused (stop 8 t))
      go (holds t p) = absurd (omega (arith, p.1))
      go (fails e q) = (e.state, ap refused q.0)

  -- what is read is what is parsed
  pub read-parsed : (t : Step State Val) → read_val capacity d g s ≡ accepted t → parse_val (drop s.at d) g ≡ (some t.value, drop t.state.at d)
  read-parsed t e = (post_accepted (rw e at agrees_val)).parsed

  -- where nothing is read, but for want of rows, nothing is parsed
  pub read-refused : (e : Stop) (n : ℕ) (place : Location) → read_val capacity d g s ≡ refused e → e.why ≡ reason n place → n ≢ 8 → parse_val (drop s.at d) g ≡ (none, [])
  read-refused e n place r w ne = go (post_refused (rw r at agrees_val)) w
    where
      go : {e : Stop} → Lacks capacity row_count s (parse g (drop s.at d)) e → e.why ≡ reason n place → parse_val (drop s.at d) g ≡ (none, [])
      go (nothing m t q) w = q
      go (few t l) w = absurd (ne (cc))

  -- a value that is read stands there, and its rows were free
  pub read-accepted : ValidGrammar g → Bytes d → (t : Step State Val) → read_val capacity d g s ≡ accepted t → Stands d g s.at t.value × (row_count t.value ≤ free capacity s) × (t ≡ read_to t.value s)
  read-accepted w b t e =
      let x = parse_val-value g w (drop s.at d) (bytes_drop s.at d b) t.value (drop t.state.at d) (read-parsed t e) in
      let o : Stands d g s.at t.value = record { of_grammar = x.1; bytes = rw x.0 (take_at (bytes_of t.value) (drop t.state.at d) (SizeOfV t.value) (length_bytes_of t.value)) } in
      let y = post_accepted (rw e at (read-value t.value o)) in
      (o, y.1, y.0)

  -- so a value is read exactly where it stands and its rows are free
  pub read_exactly : ValidGrammar g → Bytes d → (v : Val) → (read_val capacity d g s ≡ accepted (read_to v s)) ↔ (Stands d g s.at v × (row_count v ≤ free capacity s))
  read_exactly w b v = (λ e. let x = read-accepted w b (read_to v s) e in (x.0, x.1), λ o. read_fits v o.0 o.1)

-- a tag below the case count reads that case, any other is refused with 10 where the tag stands
module _ (capacity : ℕ) (d : List ℕ) (s t : State) where
  pub read_case_at-below : (gs : Gs) (c : ℕ) → c < length (seq_g gs) → read_case_at capacity d gs c s t ≡ read_val capacity d (case_at gs c) t
  unfolding read_body
  read_case_at-below gnil c h = absurd (omega arith)
  read_case_at-below (gcons g gs) zero h = refl
  read_case_at-below (gcons g gs) (suc c) h = read_case_at-below gs c (omega arith)

  pub read_case_at-above : (gs : Gs) (c : ℕ) → length (seq_g gs) ≤ c → read_case_at capacity d gs c s t ≡ refused (stop 10 s)
  unfolding read_body
  read_case_at-above gnil c h = refl
  read_case_at-above (gcons g gs) zero h = absurd (omega arith)
  read_case_at-above (gcons g gs) (suc c) h = read_case_at-above gs c (omega arith)

-- ---- at an index, and the whole reading

module _ (capacity : ℕ) (d : List ℕ) (g : G) (index : ℕ) where
  pub read_at-inside : index ≤ length d → read_at capacity d g index ≡ read_val capacity d g (start index)
  unfolding read_at
  read_at-inside h = test-true _ _ (le-leb index (length d) h)

  pub read_at-outside : length d < index → read_at capacity d g index ≡ refused (stop 7 (start index))
  unfolding read_at
  read_at-outside h = test-false _ _ (lt-leb index (length d) h)

module _ (capacity : ℕ) (d : List ℕ) (g : G) where
  -- an accepted one is a reading from byte 0 that stops at the end
  pub whole_post : Post (λ t. (read_val capacity d g (start 0) ≡ accepted t) × (t.state.at ≡ length d)) (λ _. Unit {0}) (read_whole capacity d g)
  unfolding read_whole
  whole_post = go (read_val capacity d g (start 0)) refl
    where
      go : (x : Reading Val) → read_val capacity d g (start 0) ≡ x → Post (λ t. (read_val capacity d g (start 0) ≡ accepted t) × (t.state.at ≡ length d)) (λ _. Unit {0}) (next x (at_end d))
      go (accepted t) e = post_test (eqb t.state.at (length d)) _ _ (λ b. gives (e, eqb→eq t.state.at (length d) b)) (λ _. tt)
      go (refused r) e = fails r tt

stands_whole : {g : G} {v : Val} → ValueOf g v → Stands (bytes_of v) g 0 v
stands_whole {v = v} o = record { of_grammar = o; bytes = take_all (SizeOfV v) (bytes_of v) (rw (length_bytes_of v) (omega arith)) }

module _ (capacity : ℕ) (g : G) (v : Val) (o : ValueOf g v) where
  -- the bytes of a value that fits are accepted, and give it
  pub whole-fits : row_count v ≤ capacity → read_whole capacity (bytes_of v) g ≡ accepted (read_to v (start 0))
  unfolding read_whole
  whole-fits l =
      let e : read_val capacity (bytes_of v) g (start 0) ≡ accepted (read_to v (start 0)) = read_fits capacity (bytes_of v) g (start 0) (omega arith) v (stands_whole o) (omega arith) in
      ap (λ (x : Reading Val). next x (at_end (bytes_of v))) e ∙ test-true _ _ (eq-eqb (0 + SizeOfV v) (length (bytes_of v)) (rw (length_bytes_of v) (omega arith)))

  -- those of a value that needs more rows are refused with 8
  pub whole-short : capacity < row_count v → (t : State) × (read_whole capacity (bytes_of v) g ≡ refused (stop 8 t))
  unfolding read_whole
  whole-short l =
      let x = read_short capacity (bytes_of v) g (start 0) (omega arith) v (stands_whole o) (omega arith) in
      (x.0, ap (λ (y : Reading Val). next y (at_end (bytes_of v))) x.1)

module _ (capacity : ℕ) (d : List ℕ) (g : G) (w : ValidGrammar g) (b : Bytes d) where
  -- what is accepted is the bytes of a value that fits, and the value is the one given
  pub whole-accepted : (t : Step State Val) → read_whole capacity d g ≡ accepted t → ValueOf g t.value × (d ≡ bytes_of t.value) × (row_count t.value ≤ capacity) × (t ≡ read_to t.value (start 0))
  whole-accepted t e =
      let x = post_accepted (rw e at (whole_post capacity d g)) in
      let y = read-accepted capacity d g (start 0) (omega arith) w b t x.0 in
      let l : 0 + SizeOfV t.value ≡ length d = sym (ap (λ (u : Step State Val). u.state.at) y.2) ∙ x.1 in
      (y.0.of_grammar, sym (take_all (SizeOfV t.value) d (omega arith)) ∙ y.0.bytes, omega (arith, y.1), y.2)

  pub whole_exactly : (v : Val) → (read_whole capacity d g ≡ accepted (read_to v (start 0))) ↔ (ValueOf g v × (d ≡ bytes_of v) × (row_count v ≤ capacity))
  whole_exactly v = (λ e. let x = whole-accepted (read_to v (start 0)) e in (x.0, x.1, x.2), λ o. rw o.1 (whole-fits capacity g v o.0 o.2))

  -- GM accepts what is accepted, and gives the same value
  pub whole_demarshallable : length d < 2 ^ 64 → (t : Step State Val) → read_whole capacity d g ≡ accepted t → (m : Demarshallable d g) × (DemarshallFunc d g m ≡ t.value)
  whole_demarshallable l t e =
      let x = post_accepted (rw e at (whole_post capacity d g)) in
      let p : parse_val d g ≡ (some t.value, drop t.state.at d) = read-parsed capacity d g (start 0) (omega arith) t x.0 in
      (record { bounded = l; valid_grammar = w; value = t.value; parsed = ap (λ (q : Option Val × List ℕ). q.0) p; valid_val = (whole-accepted t e).0.valid; whole = ap (λ (q : Option Val × List ℕ). q.1) p ∙ ap (λ (n : ℕ). drop n d) x.1 ∙ drop-length d }, refl {a = t.value})

  -- and accepts nothing that is refused, but for want of rows
  pub whole-refused : (e : Stop) (n : ℕ) (place : Location) → read_whole capacity d g ≡ refused e → e.why ≡ reason n place → n ≢ 8 → ¬ (Demarshallable d g)
  whole-refused e n place r y ne m = let x = demarshallable_value b m in go (DemarshallFunc d g m) x.0 x.1 (dec_le (row_count (DemarshallFunc d g m)) capacity)
    where
      go : (v : Val) → d ≡ bytes_of v → ValueOf g v → Dec (row_count v ≤ capacity) → ⊥
      go v q o (yes l) =
          let z : refused e ≡ accepted (read_to v (start 0)) = sym r ∙ rw q (whole-fits capacity g v o l) in
          let f : ◌≡◌ {A = ℕ} 0 1 = cc in
          omega arith
      go v q o (no l) =
          let s = whole-short capacity g v o (omega arith) in
          let z : refused e ≡ refused (stop 8 s.0) = sym r ∙ rw q s.1 in
          let f : e ≡ stop 8 s.0 = cc in
          let p : reason n place ≡ reason 8 (byte s.0.at) = sym y ∙ ap (λ (u : Stop). u.why) f in
          ne (cc)
