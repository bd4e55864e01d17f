-- When each definition refuses (specs/Refusals.antt), proved in both directions.
use Rattle.std.proofs.Common.{◌≡◌, refl, sym, ap, subst, ◌∙◌, ◌↔◌, ◌⊎◌, inl, inr, ⊎_elim, Bool, true, false, List, ℕ, zero, suc, ◌+◌, ◌-◌, ◌*◌, ◌/◌, ◌≤◌, ◌<◌, le_refl, arith, length, leb, ltb, eqb, le-leb, ltb-true}
use Rattle.std.proofs.Math.Option.{none, some}
use borrow.Author.Tests.{lt-leb}
use Rattle.refusal.specs.Outcome.{Outcome, accepted, refused, bind, test, map, word, byte, row, Reason, reason}
use Rattle.refusal.proofs.Outcome.{Post, holds, fails, post_bind, post_test, post_reflects, post_weaken, post_accepted, post_refused, clash, bind-accepted, bind_assoc, bind-test, test-true, test-false, map-refused}
use Rattle.refusal.proofs.Tests.{refuted, reflects_leb, reflects_ltb, reflects_eqb, reflects_and}
use Rattle.packed.specs.Packed.{present, room}
use Rattle.packed.proofs.Calls.{present-index, present-inside, room_fits}
use Rattle.value.specs.Kinds.{Number, uint32, uint64, int32, int64, width, number_kind, Elements, bytes, uint32s, uint64s, element_width, elements_kind, Kind, kind_of, constant, number, array, tuple, elements, union, other}
use Rattle.value.specs.Tree.{G, Gs, GConstant, GNumber, GArray, GTuple, GNumberArray, GTaggedUnion, gnil, gcons, Val, VNumber, VArray, VTuple, VNumberArray, VCase, vcons, ValInGrammar, SizeOfV, row_count}
use Rattle.value.specs.Step.{Step, next, give, elements as elements_of}
use Rattle.value.specs.Parse.{Parse, pair}
use Rattle.value.specs.Reading.{State, Stop, Reading, stop, start, begin, claim, claimed, free, take_number, take_numbers, read_body, read_fields, read_case_at, read_val}
use Rattle.value.specs.Signed.{is_signed, signed_of}
use Rattle.value.proofs.KindLaws.{number-kind, elements-kind, element_width_positive}
use Rattle.value.proofs.Laws.{count_fits, pair-parsed}
use Rattle.value.proofs.Agreement.{Agrees, same, neither, short, agrees}
use Rattle.value.proofs.Reading.{read-refused}
use Rattle.grammar.specs.Check.{check_grammar}
use Rattle.grammar.specs.Rule.{FirstRefusal}
use Rattle.grammar.specs.Tree.{tree_of}
use Rattle.grammar.proofs.Rule.{refused_exactly, refused-word}
use Rattle.tables.specs.Row.{Row, row_at}
use Rattle.rows.specs.Walk.{within_store, row_value, check_row, walk_children, check_size_word, walk_to, walk}
use Rattle.rows.specs.Locate.{look_up, elements_part, locate_array}
use Rattle.rows.proofs.Laws.{reflects_rows}
use Rattle.rows.proofs.Rule.{class_word}
use Rattle.signed.specs.Signed.{signed_of_row, signed_number_of}
use Rattle.admission.specs.Admission.{admit_of}
use Rattle.reading.specs.Calls.{without_state, parse_val_of, demarshall_of}
use Rattle.admission.proofs.Admission.{length-fits, length_above, length_post, admit_grammar, admit_length}
use Rattle.reading.proofs.Calls.{parse_admitted, parse-refused, whole-parse}
use Rattle.reading.proofs.Bridge.{parse-inside}
use Rattle.sizing.specs.InGrammar.{check_in_grammar}
use Rattle.sizing.specs.Writes.{value_in_grammar, check_size, value_to_write, marshall_val_of}
use Rattle.sizing.proofs.InGrammar.{in_grammar_exactly, in_grammar-refused}
use Rattle.xdr.specs.Xdr.{xdr_size, store_of}
use Rattle.xdr.specs.Import.{Importing, start as start_filling, import_val, import_whole, at_end as at_xdr_end}
use Rattle.xdr.proofs.Small.{FewCases, small_of}
use Rattle.xdr.proofs.Stops.{Stops, stops8, stops9, stops10, stops17, stops23, import_stays, front-refused}
use Rattle.exporting.specs.Export.{value_to_export, export_of}
use Rattle.importing.specs.Calls.{admit_of as admit_xdr, import_of}
use Rattle.route.specs.Rewriting.{rewrite_of}
use Rattle.comparing.specs.SameRoute.{NamedReason, of_grammar, of_first, of_second, naming, read_both}
use Rattle.choosing.specs.Choose.{count_at, grammar_of, placed_reason, choose_of}
use Rattle.choosing.specs.Rule.{ListRule, ListPasses}
use Rattle.choosing.proofs.Laws.{list_post, choose-list, choose-grammars, choose-length}
use Rattle.choosing.proofs.Rule.{rule-passes, rule-broken, FirstBad, grammars_post, grammars_pass, bad_refused, tries_post, none-accepts}
use Rattle.route.specs.Refusals.{Refuses, NoRoom, output_short, NotThere, above, missing, RowRefused, broken, outside, RowsRefused, store_above, row_table, at_row, LookUpRefused, of_rows, not_taken, IsArray, IsSigned, LocatorRefused, SignedRefused, ValueRefused, no_row, bytes_missing, tag_above, ReadingRefused, grammar_first, record_above, index_above, at_value, WholeRefused, of_reading, record_end, WritingRefused, grammar_before, rows_before, not_in_grammar, size_above, no_room, XdrFront, ImportStopped, no_row_left, xdr_missing, case_unknown, store_short, padding_set, ImportRefused, table_first, bytes_above, in_value, xdr_left, RewritingRefused, room_first, reading_then, RouteRefused, by_grammar, by_first, by_second, ChoosingRefused, list_broken, bad_grammar, record_long, none_accepts}

-- ---- outcomes whose every error has Q

abbrev Only : {E A : Type 0} → (E → Type 0) → Outcome E A → Type 0
Only Q x = Post (λ _. Unit {0}) Q x

gives : {E A : Type 0} {Q : E → Type 0} (a : A) → Only Q (accepted a)
gives a = holds a tt

only-refused : {E A : Type 0} {Q : E → Type 0} {x : Outcome E A} → Only Q x → (e : E) → x ≡ refused e → Q e
only-refused o e q = post_refused (rw q at o)

only-map : {E A B : Type 0} {Q : E → Type 0} (f : A → B) {x : Outcome E A} → Only Q x → Only Q (map f x)
only-map f (holds a p) = gives (f a)
only-map f (fails e q) = fails e q

module _ {E A : Type 0} {Q : E → Type 0} where
  -- from a form y of x, each of whose errors is known to be x's, and back
  refuses : {x y : Outcome E A} → x ≡ y → Only (λ e. x ≡ refused e → Q e) y → ((e : E) → Q e → x ≡ refused e) → Refuses Q x
  refuses h o c e = (λ q. only-refused o e (sym h ∙ q) q, c e)

  -- what is refused so, or accepted
  known : {x : Outcome E A} → Refuses Q x → Post (λ a. x ≡ accepted a) Q x
  known {x} r = go x refl
    where
      go : (y : Outcome E A) → x ≡ y → Post (λ a. x ≡ accepted a) Q y
      go (accepted a) h = holds a h
      go (refused e) h = fails e ((r e).0 h)

  -- and is one of the refusals of what goes on from it
  before : {R : E → Type 0} {P : E → Type 0} {x : Outcome E A} → ((e : E) → Q e → R e) → Refuses Q x → Post (λ a. x ≡ accepted a) (λ e. P e → R e) x
  before f r = post_weaken (λ _ h. h) (λ e q _. f e q) (known r)

pub map-refuses : {E A B : Type 0} {Q : E → Type 0} (f : A → B) {x : Outcome E A} → Refuses Q x → Refuses Q (map f x)
map-refuses f {x} r e = (λ q. (r e).0 (map-refused f x q), λ q. ap (map f) ((r e).1 q))

-- ---- numbers

module _ (len index size : ℕ) where
  pub room-refuses : Refuses (NoRoom len index size) (room len index size)
  unfolding room
  room-refuses = refuses refl (post_reflects _ _ _ (reflects_leb (index + size) len) (λ _. gives tt) (λ n _. output_short (omega (arith, n)))) (λ e q. back q)
    where
      back : {e : Reason} → NoRoom len index size e → room len index size ≡ refused e
      back (output_short l) = test-false _ _ (lt-leb (index + size) len l)

  pub room-there : index + size ≤ len → room len index size ≡ accepted tt
  unfolding room
  room-there l = test-true _ _ (le-leb (index + size) len l)

  pub present-refuses : Refuses (NotThere len index size) (present len index size)
  unfolding present
  present-refuses =
      refuses refl
      (post_reflects _ _ _ (reflects_leb index len)
      (λ i. post_reflects _ _ _ (reflects_leb (index + size) len) (λ _. gives tt) (λ n _. missing i (omega (arith, n))))
      (λ n _. above (omega (arith, n))))
      (λ e q. back q)
    where
      back : {e : Reason} → NotThere len index size e → present len index size ≡ refused e
      back (above l) = present-index len index size l
      back (missing i l) = present-inside len index size i ∙ test-false _ _ (lt-leb (index + size) len l)

-- ---- rows

-- the kind word of a row whose class is that of arrays of numbers
elements-word : (w : ℕ) {k : Elements} → kind_of w ≡ elements k → w ≡ elements_kind k
elements-word w h = class_word w (λ o. let z : ◌≡◌ {A = ℕ} 0 1 = cc in omega arith) h

-- an array that is not within the store
not_within : (c : Kind) (r : Row) (len : ℕ) → (within_store c r len ≡ true → ⊥) → (k : Elements) × (c ≡ elements k) × (len < r.word3 + element_width k * r.word2)
not_within constant r len n = absurd (n refl)
not_within (number k) r len n = absurd (n refl)
not_within array r len n = absurd (n refl)
not_within tuple r len n = absurd (n refl)
not_within (elements k) r len n =
    let m : r.word3 + element_width k * r.word2 ≤ len → ⊥ = λ l. n (le-leb (r.word3 + element_width k * r.word2) len l) in
    (k, refl, omega (arith, m))
not_within union r len n = absurd (n refl)
not_within other r len n = absurd (n refl)

itself : {P : Type 0} → P ↔ P
itself = (λ p. p, λ p. p)

module _ (t : List ℕ) (n : ℕ) (s : List ℕ) where
  row_post : (i end : ℕ) → i < n → Post (λ _. i + (row_at t i).span ≤ end) (RowRefused t n s) (check_row (row_at t i) (length s) i end)
  unfolding check_row
  row_post i end l =
      let r = row_at t i in
      post_reflects _ _ _ (reflects_and (reflects_leb 1 r.span) (reflects_and (reflects_leb (i + r.span) end) itself))
      (λ h. post_reflects (within_store (kind_of r.kind) r (length s)) _ _ itself (λ _. holds _ h.1.0) (λ m. let x = not_within (kind_of r.kind) r (length s) m in outside i l x.0 (elements-word r.kind x.1) x.2))
      (λ _. broken i l)

  children_post : (f : ℕ → Outcome Reason Val) (parent end : ℕ) → parent < n → ((j : ℕ) → j < end → Only (RowRefused t n s) (f j)) → (count i : ℕ) → Only (RowRefused t n s) (walk_children t f parent end count i)
  unfolding walk_children
  children_post f parent end l c zero i = post_reflects _ _ _ (reflects_eqb i end) (λ _. gives _) (λ _. broken parent l)
  children_post f parent end l c (suc count) i =
      post_reflects _ _ _ (reflects_ltb i end)
      (λ m. post_bind _ (c i m) (λ v _. only-map (vcons v) (children_post f parent end l c count (i + (row_at t i).span))))
      (λ _. broken parent l)

  walk_to_post : (depth end i : ℕ) → i < n → end ≤ n → Only (RowRefused t n s) (walk_to t s depth end i)
  unfolding walk_to check_size_word
  walk_to_post zero end i l m = fails _ (broken i l)
  walk_to_post (suc depth) end i l m =
      let stop = i + (row_at t i).span in
      post_bind _ (row_post i end l) (λ count h.
      post_bind _ (children_post (walk_to t s depth stop) i stop l (λ j k. walk_to_post depth stop j (omega arith) (omega arith)) count (suc i)) (λ vs _.
      post_reflects _ _ _ (reflects_eqb (row_at t i).size (SizeOfV (row_value (kind_of (row_at t i).kind) (row_at t i) s vs))) (λ _. gives _) (λ _. broken i l)))

  pub walk-refuses : Refuses (RowsRefused t n s) (walk t n s)
  unfolding walk
  walk-refuses =
      refuses refl
      (post_reflects _ _ _ (reflects_leb (length s) 1048576)
      (λ a. post_reflects _ _ _ (reflects_rows t n)
      (λ b. post_weaken (λ _ u. u) (λ e q w. at_row a b q w)
      (post_reflects _ _ _ (reflects_eqb (row_at t 0).span n) (λ _. walk_to_post (n - 0) n 0 b.0 (le_refl n)) (λ _. broken 0 b.0)))
      (λ b _. row_table a b))
      (λ a _. store_above (omega (arith, a))))
      (λ e q. back q)
    where
      back : {e : Reason} → RowsRefused t n s e → walk t n s ≡ refused e
      back (store_above l) = test-false _ _ (lt-leb (length s) 1048576 l)
      back (row_table a b) = test-true _ _ (le-leb (length s) 1048576 a) ∙ test-false _ _ (refuted (reflects_rows t n) b)
      back (at_row a b q w) = w

-- a call on a row by its kind word: it gives a value where it takes the word, else it is refused
data Decides {A : Type 0} (part : Kind → Row → Reason → Outcome Reason A) (Takes : ℕ → Type 0) (w : ℕ) : Type 0 where
  takes : ((r : Row) (e : Reason) → (a : A) × (part (kind_of w) r e ≡ accepted a)) → Takes w → Decides part Takes w
  leaves : ((r : Row) (e : Reason) → part (kind_of w) r e ≡ refused e) → (Takes w → ⊥) → Decides part Takes w

module _ {A : Type 0} (m : ℕ) (part : Kind → Row → Reason → Outcome Reason A) (Takes : ℕ → Type 0) (decides : (w : ℕ) → Decides part Takes w) (t : List ℕ) (n : ℕ) (s : List ℕ) (i : ℕ) where
  abbrev here : Outcome Reason A
  here = part (kind_of (row_at t i).kind) (row_at t i) (reason m (row i))

  part_post : {Q : Reason → Type 0} → ((Takes (row_at t i).kind → ⊥) → Q (reason m (row i))) → Only Q here
  part_post {Q} f = go (decides (row_at t i).kind)
    where
      go : Decides part Takes (row_at t i).kind → Only Q here
      go (takes g k) = let x = g (row_at t i) (reason m (row i)) in rw x.1 (gives x.0)
      go (leaves g k) = rw (g (row_at t i) (reason m (row i))) (fails _ (f k))

  part-refused : (Takes (row_at t i).kind → ⊥) → here ≡ refused (reason m (row i))
  part-refused n = go (decides (row_at t i).kind)
    where
      go : Decides part Takes (row_at t i).kind → here ≡ refused (reason m (row i))
      go (takes g k) = absurd (n k)
      go (leaves g k) = g (row_at t i) (reason m (row i))

  look_up_refuses : Refuses (LookUpRefused m Takes t n s i) (bind (look_up m t n s i) (λ r. part (kind_of r.kind) r (reason m (row i))))
  unfolding look_up
  look_up_refuses =
      refuses (bind_assoc (walk t n s) _ _)
      (post_bind _ (before (λ e q. of_rows q) (walk-refuses t n s)) (λ v h.
      rw bind-test (post_reflects _ _ _ (reflects_ltb i n)
      (λ l. part_post (λ k _. not_taken v h (λ _ x. k x)))
      (λ k _. not_taken v h (λ l _. k l)))))
      (λ e q. back q)
    where
      at : (b : Bool) → (b ≡ true → i < n) → (i < n → Takes (row_at t i).kind → ⊥) → bind (test b (reason m (row i)) (λ _. accepted (row_at t i))) (λ r. part (kind_of r.kind) r (reason m (row i))) ≡ refused (reason m (row i))
      at true l k = part-refused (k (l refl))
      at false l k = refl

      back : {e : Reason} → LookUpRefused m Takes t n s i e → bind (look_up m t n s i) (λ r. part (kind_of r.kind) r (reason m (row i))) ≡ refused e
      back (of_rows {e = e} q) = rw ((walk-refuses t n s e).1 q)
      back (not_taken v h k) = rw h (at (ltb i n) (ltb-true i n) k)

-- a kind word whose class is not taken is not taken
not_taken_lem : (taken : Kind → Bool) (w : ℕ) {c : Kind} {P : Type 0} → (P → taken (kind_of w) ≡ true) → kind_of w ≡ c → taken c ≡ false → P → ⊥
not_taken_lem taken w f e n x = let t = sym (f x) ∙ ap taken e ∙ n in let z : ◌≡◌ {A = ℕ} 0 1 = cc in omega arith

-- the class that the locator takes
abbrev has_elements : Kind → Bool
has_elements constant = false
has_elements (number k) = false
has_elements array = false
has_elements tuple = false
has_elements (elements k) = true
has_elements union = false
has_elements other = false

array_decides : (w : ℕ) → Decides elements_part IsArray w
unfolding elements_part
array_decides w = go (kind_of w) refl
  where
    class : (k : Elements) → w ≡ elements_kind k → has_elements (kind_of w) ≡ true
    class k h = ap has_elements (ap kind_of h ∙ elements-kind k)

    no : {c : Kind} → kind_of w ≡ c → has_elements c ≡ false → IsArray w → ⊥
    no e n = not_taken_lem has_elements w (⊎_elim (class bytes) (⊎_elim (class uint32s) (class uint64s))) e n

    word : (k : Elements) → w ≡ elements_kind k → IsArray w
    word bytes h = inl h
    word uint32s h = inr (inl h)
    word uint64s h = inr (inr h)

    go : (c : Kind) → kind_of w ≡ c → Decides elements_part IsArray w
    go constant e = leaves (λ r f. rw e) (no e refl)
    go (number k) e = leaves (λ r f. rw e) (no e refl)
    go array e = leaves (λ r f. rw e) (no e refl)
    go tuple e = leaves (λ r f. rw e) (no e refl)
    go (elements k) e = takes (λ r f. (record { start = r.word3; size = element_width k * r.word2 }, rw e)) (word k (elements-word w e))
    go union e = leaves (λ r f. rw e) (no e refl)
    go other e = leaves (λ r f. rw e) (no e refl)

-- the kinds that the signed number takes
abbrev has_sign : Kind → Bool
has_sign constant = false
has_sign (number k) = is_signed k
has_sign array = false
has_sign tuple = false
has_sign (elements k) = false
has_sign union = false
has_sign other = false

signed_decides : (w : ℕ) → Decides signed_of_row IsSigned w
unfolding signed_of_row
signed_decides w = go (kind_of w) refl
  where
    class : (k : Number) → is_signed k ≡ true → w ≡ number_kind k → has_sign (kind_of w) ≡ true
    class k s h = ap has_sign (ap kind_of h ∙ number-kind k) ∙ s

    no : {c : Kind} → kind_of w ≡ c → has_sign c ≡ false → IsSigned w → ⊥
    no e n = not_taken_lem has_sign w (⊎_elim (class int32 refl) (class int64 refl)) e n

    word : {k : Number} → kind_of w ≡ number k → w ≡ number_kind k
    word e = class_word w (λ o. let z : ◌≡◌ {A = ℕ} 0 1 = cc in omega arith) e

    go : (c : Kind) → kind_of w ≡ c → Decides signed_of_row IsSigned w
    go constant e = leaves (λ r f. rw e) (no e refl)
    go (number uint32) e = leaves (λ r f. rw e) (no e refl)
    go (number uint64) e = leaves (λ r f. rw e) (no e refl)
    go (number int32) e = takes (λ r f. (signed_of 4 r.word2, rw e)) (inl (word e))
    go (number int64) e = takes (λ r f. (signed_of 8 r.word2, rw e)) (inr (word e))
    go array e = leaves (λ r f. rw e) (no e refl)
    go tuple e = leaves (λ r f. rw e) (no e refl)
    go (elements k) e = leaves (λ r f. rw e) (no e refl)
    go union e = leaves (λ r f. rw e) (no e refl)
    go other e = leaves (λ r f. rw e) (no e refl)

-- a row that is looked up and taken whatever its kind
pub find_refuses : (m : ℕ) (t : List ℕ) (n : ℕ) (s : List ℕ) (i : ℕ) → Refuses (LookUpRefused m (λ _. Unit {0}) t n s i) (look_up m t n s i)
find_refuses m t n s i = subst (Refuses (LookUpRefused m (λ _. Unit {0}) t n s i)) (bind-accepted (look_up m t n s i)) (look_up_refuses m (λ _ r _. accepted r) (λ _. Unit {0}) (λ w. takes (λ r e. (r, refl)) tt) t n s i)

pub locate_refuses : (t : List ℕ) (n : ℕ) (s : List ℕ) (i : ℕ) → Refuses (LocatorRefused t n s i) (locate_array t n s i)
unfolding locate_array
locate_refuses = look_up_refuses 18 elements_part IsArray array_decides

pub signed-refuses : (t : List ℕ) (n : ℕ) (s : List ℕ) (i : ℕ) → Refuses (SignedRefused t n s i) (signed_number_of t n s i)
unfolding signed_number_of
signed-refuses = look_up_refuses 20 signed_of_row IsSigned signed_decides

-- ---- reading

-- 8, 9 or 10 of a value that starts at one of these bytes
data Placed (from to : ℕ) : Stop → Type 0 where
  placed8 : (s : State) → from ≤ s.at → s.at ≤ to → Placed from to (stop 8 s)
  placed9 : (s : State) → from ≤ s.at → s.at ≤ to → Placed from to (stop 9 s)
  placed10 : (s : State) → from ≤ s.at → s.at ≤ to → Placed from to (stop 10 s)

placed_from : {a b to : ℕ} {e : Stop} → a ≤ b → Placed b to e → Placed a to e
placed_from l (placed8 s f t) = placed8 s (omega arith) t
placed_from l (placed9 s f t) = placed9 s (omega arith) t
placed_from l (placed10 s f t) = placed10 s (omega arith) t

module _ (capacity : ℕ) (d : List ℕ) where
  -- a reading that neither ends nor is refused before a byte or behind the record
  abbrev Stays : {A : Type 0} → ℕ → Reading A → Type 0
  Stays from x = Post (λ t. (from ≤ t.state.at) × (t.state.at ≤ length d)) (Placed from (length d)) x

  stays_from : {A : Type 0} {from : ℕ} {x : Reading A} (at : ℕ) → from ≤ at → Stays at x → Stays from x
  stays_from at l p = post_weaken (λ u q. (omega (arith, q.0), q.1)) (λ e q. placed_from l q) p

  stays_give : {A B : Type 0} (f : A → B) {from : ℕ} {x : Reading A} → Stays from x → Stays from (give f x)
  stays_give f p = post_bind _ p (λ t q. holds _ q)

  stays_next : {A B : Type 0} {from : ℕ} {x : Reading A} (k : A → State → Reading B) → Stays from x → ((a : A) (t : State) → t.at ≤ length d → Stays t.at (k a t)) → Stays from (next x k)
  stays_next k p c = post_bind _ p (λ t q. stays_from t.state.at q.0 (c t.value t.state q.1))

  claim_stays : (r : State → Reading Val) (s : State) → s.at ≤ length d → Stays s.at (r (begin s)) → Stays s.at (claimed capacity r s)
  unfolding claim
  claim_stays r s h c = post_bind _ (post_test {P = λ u. u ≡ begin s} (ltb s.begun capacity) _ _ (λ _. holds _ refl) (λ _. placed8 (begin s) (le_refl s.at) h)) (λ u e. rw e c)

  number_at : (w : ℕ) (s : State) → s.at ≤ length d → Post (λ t. (t.state.at ≡ s.at + w) × (s.at + w ≤ length d)) (Placed s.at (length d)) (take_number d w s)
  unfolding take_number
  number_at w s h = post_reflects _ _ _ (reflects_leb (s.at + w) (length d)) (λ l. holds _ (refl, l)) (λ _. placed9 s (le_refl s.at) h)

  number_stays : (w : ℕ) (s : State) → s.at ≤ length d → Stays s.at (take_number d w s)
  number_stays w s h = post_weaken (λ t p. (omega (arith, p.0), omega (arith, p.0, p.1))) (λ _ q. q) (number_at w s h)

  numbers_stays : (w : ℕ) → 0 < w → (s : State) → s.at ≤ length d → Stays s.at (take_numbers d w s)
  unfolding take_numbers
  numbers_stays w pos s h =
      post_bind _ (number_at 8 s h) (λ t p.
      post_reflects _ _ _ (reflects_leb t.value ((length d - s.at - 8) / w))
      (λ l. holds _ (omega (arith, p.0), omega (arith, p.0, p.1, (count_fits pos).0 l)))
      (λ _. placed9 s (le_refl s.at) h))

  elements_stays : (r : State → Reading Val) → ((s : State) → s.at ≤ length d → Stays s.at (r s)) → (n : ℕ) (s : State) → s.at ≤ length d → Stays s.at (elements_of n r s)
  unfolding elements_of
  elements_stays r c zero s h = holds _ (le_refl s.at, h)
  elements_stays r c (suc n) s h = stays_next _ (c s h) (λ v t i. stays_give (vcons v) (elements_stays r c n t i))

  mutual
    unfolding read_body

    body_stays : (g : G) (s : State) → s.at ≤ length d → Stays s.at (read_body capacity d g s)
    body_stays GConstant s h = holds _ (le_refl s.at, h)
    body_stays (GNumber k) s h = stays_give (VNumber k) (number_stays (width k) s h)
    body_stays (GArray g) s h =
        post_bind _ (number_stays 8 s h) (λ t p.
        post_reflects _ _ _ (reflects_leb t.value (free capacity s))
        (λ _. stays_from t.state.at p.0 (stays_give VArray (elements_stays _ (λ u i. claim_stays _ u i (body_stays g (begin u) i)) t.value t.state p.1)))
        (λ _. placed8 s (le_refl s.at) h))
    body_stays (GTuple gs) s h = stays_give VTuple (fields_stays gs s h)
    body_stays (GNumberArray k) s h = stays_give (VNumberArray k) (numbers_stays (element_width k) (element_width_positive k) s h)
    body_stays (GTaggedUnion gs) s h = post_bind _ (number_stays 8 s h) (λ t p. stays_give (VCase t.value) (case_stays gs t.value s t.state h p.0 p.1))

    fields_stays : (gs : Gs) (s : State) → s.at ≤ length d → Stays s.at (read_fields capacity d gs s)
    fields_stays gnil s h = holds _ (le_refl s.at, h)
    fields_stays (gcons g gs) s h = stays_next _ (claim_stays _ s h (body_stays g (begin s) h)) (λ v t i. stays_give (vcons v) (fields_stays gs t i))

    case_stays : (gs : Gs) (c : ℕ) (s t : State) → s.at ≤ length d → s.at ≤ t.at → t.at ≤ length d → Stays s.at (read_case_at capacity d gs c s t)
    case_stays gnil c s t h l i = fails _ (placed10 s (le_refl s.at) h)
    case_stays (gcons g gs) zero s t h l i = stays_from t.at l (claim_stays _ t i (body_stays g (begin t) i))
    case_stays (gcons g gs) (suc c) s t h l i = case_stays gs c s t h l i

-- what GM parses where a reading is refused needs more rows than are free
read-few : {capacity : ℕ} {d : List ℕ} {s : State} {x : Reading Val} {y : Parse Val} → Agrees capacity d row_count s x y → {e : Stop} → x ≡ refused e → (v : Val) (rest : List ℕ) → pair y ≡ (some v, rest) → free capacity s < row_count v
read-few (same a t h b f) q v rest p = clash (sym q)
read-few (neither n t) q v rest p = let w : none ≡ some v = ap (λ x. x.0) p in let z : ◌≡◌ {A = ℕ} 0 1 = cc in absurd (omega arith)
read-few (short t y m) q v rest p = post_accepted (rw (pair-parsed y v rest p) at m)

module _ (g d : List ℕ) (index capacity : ℕ) where
  value-refused : index ≤ length d → (e : Stop) → read_val capacity d (tree_of g 0) (start index) ≡ refused e → ValueRefused g d index capacity e.why
  value-refused h e q = go (post_refused (rw q at (claim_stays capacity d (read_body capacity d (tree_of g 0)) (start index) h (body_stays capacity d (tree_of g 0) (begin (start index)) h)))) q
    where
      go : {x : Stop} → Placed index (length d) x → read_val capacity d (tree_of g 0) (start index) ≡ refused x → ValueRefused g d index capacity x.why
      go (placed8 s a b) q = no_row s.at a b (λ v rest p. let l = read-few (agrees capacity d (tree_of g 0) (start index) h) q v rest p in omega (arith, l))
      go (placed9 s a b) q = bytes_missing s.at a b (read-refused capacity d (tree_of g 0) (start index) h (stop 9 s) 9 (byte s.at) q refl (λ z. omega arith))
      go (placed10 s a b) q = tag_above s.at a b (read-refused capacity d (tree_of g 0) (start index) h (stop 10 s) 10 (byte s.at) q refl (λ z. omega arith))

  admit_post : Post (λ _. (check_grammar g ≡ accepted tt) × (length d ≤ 1048576) × (index ≤ length d)) (ReadingRefused g d index capacity) (admit_of g d index)
  unfolding admit_of
  admit_post =
      post_bind _ (post_weaken (λ _ h. h) (λ e q. grammar_first q) (known (refused_exactly g))) (λ _ p.
      post_reflects _ _ _ (reflects_leb (length d) 1048576)
      (λ l. post_reflects _ _ _ (reflects_leb index (length d)) (λ i. holds tt (p, l, i)) (λ n. index_above p l (omega (arith, n))))
      (λ n. record_above p (omega (arith, n))))

  pub parse-refuses : Refuses (ReadingRefused g d index capacity) (parse_val_of g d index capacity)
  parse-refuses =
      refuses (parse_admitted g d index capacity)
      (post_bind _ (post_weaken (λ _ h. h) (λ e q _. q) admit_post) (λ _ p. go p.0 p.1 p.2 (read_val capacity d (tree_of g 0) (start index)) refl))
      (λ e q. back q)
    where
      go : check_grammar g ≡ accepted tt → length d ≤ 1048576 → index ≤ length d → (x : Reading Val) → read_val capacity d (tree_of g 0) (start index) ≡ x → Only (λ e. parse_val_of g d index capacity ≡ refused e → ReadingRefused g d index capacity e) (without_state x)
      go p l i (accepted t) q = gives t
      go p l i (refused e) q = fails e.why (λ o. at_value p l i (value-refused i e q) o)

      back : {e : Reason} → ReadingRefused g d index capacity e → parse_val_of g d index capacity ≡ refused e
      back (grammar_first {e = e} f) = sym (parse-refused g d index capacity (admit_grammar g d index (sym ((refused_exactly g e).1 f))))
      back (record_above p l) = sym (parse-refused g d index capacity (admit_length g d index (sym p) (length_above d l)))
      back (index_above p l i) = sym (parse-refused g d index capacity (sym (test-false _ _ (lt-leb index (length d) i)) ∙ admit_length g d index (sym p) (length-fits d l)))
      back (at_value p l i v q) = q

module _ (g d : List ℕ) (capacity : ℕ) where
  abbrev at_end : Step State Val → Outcome Reason (Step State Val)
  at_end t = test (eqb t.state.at (length d)) (reason 11 (byte t.state.at)) (λ _. accepted t)

  pub demarshall_refuses : Refuses (WholeRefused g d capacity) (demarshall_of g d capacity)
  demarshall_refuses =
      refuses (whole-parse g d capacity)
      (post_bind _ (before (λ e q. of_reading q) (parse-refuses g d 0 capacity)) (λ t h.
      post_reflects _ _ _ (reflects_eqb t.state.at (length d)) (λ _. gives t) (λ n _. record_end t h (let l = parse-inside g d 0 capacity t h in omega (arith, n, l)))))
      (λ e q. back q)
    where
      back : {e : Reason} → WholeRefused g d capacity e → demarshall_of g d capacity ≡ refused e
      back (of_reading {e = e} q) = whole-parse g d capacity ∙ ap (λ (o : Outcome Reason (Step State Val)). bind o at_end) ((parse-refuses g d 0 capacity e).1 q)
      back (record_end t h l) = whole-parse g d capacity ∙ ap (λ (o : Outcome Reason (Step State Val)). bind o at_end) h ∙ test-false _ _ (refuted (reflects_eqb t.state.at (length d)) (λ q. omega arith))

-- ---- writing and export

module _ (sizeBy : Val → ℕ) (g t : List ℕ) (n : ℕ) (s : List ℕ) (len index : ℕ) where
  in_post : (v : Val) → check_grammar g ≡ accepted tt → walk t n s ≡ accepted v → Post (λ _. ValInGrammar v (tree_of g 0)) (WritingRefused sizeBy g t n s len index) (check_in_grammar v (tree_of g 0) 0)
  in_post v p w = go (check_in_grammar v (tree_of g 0) 0) refl
    where
      go : (x : Outcome Reason (Unit {0})) → check_in_grammar v (tree_of g 0) 0 ≡ x → Post (λ _. ValInGrammar v (tree_of g 0)) (WritingRefused sizeBy g t n s len index) x
      go (accepted u) q = holds u ((in_grammar_exactly v (tree_of g 0) 0).0 q)
      go (refused e) q =
          let x = in_grammar-refused v (tree_of g 0) 0 e q in
          fails e (subst (WritingRefused sizeBy g t n s len index) (sym x.is) (not_in_grammar v p w (λ i. clash (sym q ∙ (in_grammar_exactly v (tree_of g 0) 0).1 i)) x.at (omega (arith, x.to)) (q ∙ ap refused x.is)))

  -- 1 to 6, 12 to 15, then 16 and 17 by this size
  abbrev spelled : Outcome Reason Val
  spelled = bind (bind (value_in_grammar g t n s) (λ v. check_size (sizeBy v) v)) (λ v. map (λ _. v) (room len index (sizeBy v)))

  spelled-refuses : Refuses (WritingRefused sizeBy g t n s len index) spelled
  unfolding value_in_grammar room
  spelled-refuses =
      refuses refl
      (post_bind _
      (post_bind _
      (post_bind _ (before (λ e q. grammar_before q) (refused_exactly g)) (λ _ p.
      post_bind _ (before (λ e q. rows_before p q) (walk-refuses t n s)) (λ v w.
      post_bind {R = Decided} _ (post_weaken (λ _ i. i) (λ e q _. q) (in_post v p w)) (λ _ i. holds v (p, w, i)))))
      (λ v h. post_reflects {P = Written} _ _ _ (reflects_leb (sizeBy v) 1048576) (λ l. holds v (h.0, h.1, h.2, l)) (λ m _. size_above v h.0 h.1 h.2 (omega (arith, m)))))
      (λ v h. only-map (λ _. v) (post_reflects _ _ _ (reflects_leb (index + sizeBy v) len) (λ _. gives tt) (λ m _. no_room v h.0 h.1 h.2 h.3 (omega (arith, m))))))
      (λ e q. back q)
    where
      Decided : Val → Type 0
      Decided v = (check_grammar g ≡ accepted tt) × (walk t n s ≡ accepted v) × ValInGrammar v (tree_of g 0)

      Written : Val → Type 0
      Written v = (check_grammar g ≡ accepted tt) × (walk t n s ≡ accepted v) × ValInGrammar v (tree_of g 0) × (sizeBy v ≤ 1048576)

      back : {e : Reason} → WritingRefused sizeBy g t n s len index e → spelled ≡ refused e
      back (grammar_before {e = e} q) = rw ((refused_exactly g e).1 q)
      back (rows_before {e = e} p q) = rw (p, (walk-refuses t n s e).1 q)
      back (not_in_grammar v p w m i l q) = rw (p, w, q)
      back (size_above v p w i l) = rw (p, w, (in_grammar_exactly v (tree_of g 0) 0).1 i, lt-leb (sizeBy v) 1048576 l)
      back (no_room v p w i m l) = rw (p, w, (in_grammar_exactly v (tree_of g 0) 0).1 i, le-leb (sizeBy v) 1048576 m, lt-leb (index + sizeBy v) len l)

module _ (g t : List ℕ) (n : ℕ) (s : List ℕ) (len index : ℕ) where
  pub marshall_refuses : Refuses (WritingRefused SizeOfV g t n s len index) (marshall_val_of g t n s len index)
  unfolding marshall_val_of value_to_write
  marshall_refuses = spelled-refuses SizeOfV g t n s len index

  pub export_refuses : Refuses (WritingRefused xdr_size g t n s len index) (export_of g t n s len index)
  unfolding export_of value_to_export
  export_refuses = spelled-refuses xdr_size g t n s len index

-- ---- import

module _ (g d : List ℕ) (capacity len : ℕ) (p : check_grammar g ≡ accepted tt) where
  -- 1 to 6 are not given
  pub import_whole_lem : length d ≤ 1048576 → len ≤ 1048576 → import_of g d capacity len ≡ import_whole capacity len d (tree_of g 0)
  unfolding import_of admit_xdr
  import_whole_lem l m = rw (p, le-leb (length d) 1048576 l, le-leb len 1048576 m)

  above-refused : (1048576 < length d) ⊎ (1048576 < len) → import_of g d capacity len ≡ refused (reason 6 (byte 0))
  unfolding import_of admit_xdr
  above-refused (inl l) = rw (p, lt-leb (length d) 1048576 l)
  above-refused (inr l) = rw (p, lt-leb len 1048576 l) (go (leb (length d) 1048576))
    where
      go : (b : Bool) → bind (test b (reason 6 (byte 0)) (λ _. test false (reason 6 (byte 0)) accepted)) (λ _. import_whole capacity len d (tree_of g 0)) ≡ refused (reason 6 (byte 0))
      go true = refl
      go false = refl

module _ (g d : List ℕ) (capacity len : ℕ) (cases : FewCases (tree_of g 0)) where
  -- what a refusal says of a value that d begins with
  front : (n p : ℕ) → import_val capacity len d (tree_of g 0) start_filling ≡ refused (reason n (byte p)) → (v : Val) → XdrFront g d v → ((n ≡ 8) × (capacity < row_count v)) ⊎ ((n ≡ 17) × (len < length (store_of v)))
  front n p q v f = front-refused capacity len d (tree_of g 0) v f.rest f.value (small_of f.value.in_grammar cases (omega (arith, f.rows)) (omega (arith, f.size))) f.bytes n p q

  -- neither 8 nor 17
  no_front : (n p : ℕ) → (n ≡ 8 → ⊥) → (n ≡ 17 → ⊥) → import_val capacity len d (tree_of g 0) start_filling ≡ refused (reason n (byte p)) → (v : Val) → XdrFront g d v → ⊥
  no_front n p a b q v f = ⊎_elim (λ (x : (n ≡ 8) × (capacity < row_count v)). a x.0) (λ (x : (n ≡ 17) × (len < length (store_of v))). b x.0) (front n p q v f)

  import_stopped : (e : Reason) → import_val capacity len d (tree_of g 0) start_filling ≡ refused e → ImportStopped g d capacity len e
  import_stopped e q = go (post_refused (rw q at (import_stays capacity len d (tree_of g 0)))) q
    where
      go : {x : Reason} → Stops d len x → import_val capacity len d (tree_of g 0) start_filling ≡ refused x → ImportStopped g d capacity len x
      go (stops8 p h) q = no_row_left p h (λ v f. ⊎_elim (λ (x : (8 ≡ 8) × (capacity < row_count v)). x.1) (λ (x : (8 ≡ 17) × (len < length (store_of v))). absurd (omega (arith, x.0))) (front 8 p q v f))
      go (stops9 p h) q = xdr_missing p h (no_front 9 p (λ z. omega arith) (λ z. omega arith) q)
      go (stops10 p h) q = case_unknown p h (no_front 10 p (λ z. omega arith) (λ z. omega arith) q)
      go stops17 q = store_short (λ v f. ⊎_elim (λ (x : (17 ≡ 8) × (capacity < row_count v)). absurd (omega (arith, x.0))) (λ (x : (17 ≡ 17) × (len < length (store_of v))). x.1) (front 17 len q v f))
      go (stops23 p h) q = padding_set p h (no_front 23 p (λ z. omega arith) (λ z. omega arith) q)

  whole-only : check_grammar g ≡ accepted tt → length d ≤ 1048576 → len ≤ 1048576 → Only (ImportRefused g d capacity len) (import_whole capacity len d (tree_of g 0))
  unfolding import_whole
  whole-only p l m = go (import_val capacity len d (tree_of g 0) start_filling) refl (import_stays capacity len d (tree_of g 0))
    where
      go : (x : Importing Val) → import_val capacity len d (tree_of g 0) start_filling ≡ x → Post (λ t. t.state.at ≤ length d) (Stops d len) x → Only (ImportRefused g d capacity len) (next x (at_xdr_end d))
      go (accepted t) q h = post_reflects _ _ _ (reflects_eqb t.state.at (length d)) (λ _. gives _) (λ n. xdr_left t p l m q (let i = post_accepted h in omega (arith, n, i)))
      go (refused e) q h = fails e (in_value p l m (import_stopped e q) q)

  pub import_refuses : Refuses (ImportRefused g d capacity len) (import_of g d capacity len)
  unfolding import_of admit_xdr import_whole
  import_refuses =
      refuses refl
      (post_bind _ admitted (λ _ h. post_weaken (λ _ _. tt) (λ e q _. q) (whole-only h.0 h.1 h.2)))
      (λ e q. back q)
    where
      Admitted : Unit {0} → Type 0
      Admitted _ = (check_grammar g ≡ accepted tt) × (length d ≤ 1048576) × (len ≤ 1048576)

      admitted : Post Admitted (λ e. import_of g d capacity len ≡ refused e → ImportRefused g d capacity len e) (bind (check_grammar g) (λ _. test (leb (length d) 1048576) (reason 6 (byte 0)) (λ _. test (leb len 1048576) (reason 6 (byte 0)) accepted)))
      admitted =
          post_bind _ (before (λ e q. table_first q) (refused_exactly g)) (λ _ p.
          post_reflects _ _ _ (reflects_leb (length d) 1048576)
          (λ l. post_reflects _ _ _ (reflects_leb len 1048576) (λ m. holds tt (p, l, m)) (λ n _. bytes_above p (inr (omega (arith, n)))))
          (λ n _. bytes_above p (inl (omega (arith, n)))))

      back : {e : Reason} → ImportRefused g d capacity len e → import_of g d capacity len ≡ refused e
      back (table_first {e = e} q) = rw ((refused_exactly g e).1 q)
      back (bytes_above p l) = above-refused g d capacity len p l
      back (in_value {e = e} p l m v q) = import_whole_lem g d capacity len p l m ∙ ap (λ (x : Importing Val). next x (at_xdr_end d)) q
      back (xdr_left t p l m q i) = import_whole_lem g d capacity len p l m ∙ ap (λ (x : Importing Val). next x (at_xdr_end d)) q ∙ test-false _ _ (refuted (reflects_eqb t.state.at (length d)) (λ z. omega arith))

-- ---- the calls of `rewriting`, `comparing` and `choosing`

module _ (g d : List ℕ) (capacity len index : ℕ) where
  pub rewrite_refuses : Refuses (RewritingRefused g d capacity len index) (rewrite_of g d capacity len index)
  unfolding rewrite_of
  rewrite_refuses =
      refuses refl
      (post_bind _ (before (λ e q. room_first q) (room-refuses len index (length d))) (λ _ h.
      post_weaken (λ _ _. tt) (λ e q. q) (before (λ e q. reading_then (room_fits len index (length d) (sym h)) q) (demarshall_refuses g d capacity))))
      (λ e q. back q)
    where
      back : {e : Reason} → RewritingRefused g d capacity len index e → rewrite_of g d capacity len index ≡ refused e
      back (room_first {e = e} q) = rw ((room-refuses len index (length d) e).1 q)
      back (reading_then {e = e} l q) = rw (room-there len index (length d) l) ((demarshall_refuses g d capacity e).1 q)

naming_post : {A : Type 0} {P : A → Type 0} {Q : Reason → Type 0} {R : NamedReason → Type 0} (name : Reason → NamedReason) → ((e : Reason) → Q e → R (name e)) → {x : Outcome Reason A} → Post P Q x → Post P R (naming name x)
naming_post name f (holds a p) = holds a p
naming_post name f (fails e q) = fails (name e) (f e q)

module _ (g first second : List ℕ) where
  pub both-refuses : Refuses (RouteRefused g first second) (read_both g first second)
  unfolding read_both
  both-refuses =
      refuses refl
      (post_bind _ (naming_post of_grammar (λ e q _. by_grammar q) (known (refused_exactly g))) (λ _ p.
      post_bind _ (naming_post of_first (λ e q _. by_first p q) (known (demarshall_refuses g first 4096))) (λ t h.
      only-map _ (post_weaken (λ _ _. tt) (λ _ q. q) (naming_post of_second (λ e q _. by_second t p h q) (known (demarshall_refuses g second 4096)))))))
      (λ e q. back q)
    where
      back : {e : NamedReason} → RouteRefused g first second e → read_both g first second ≡ refused e
      back (by_grammar {e = e} q) = rw ((refused_exactly g e).1 q)
      back (by_first {e = e} p q) = rw (p, (demarshall_refuses g first 4096 e).1 q)
      back (by_second {e = e} t p h q) = rw (p, h, (demarshall_refuses g second 4096 e).1 q)

module _ (l d : List ℕ) where
  bad_grammar_lem : ListRule l → (e : Reason) → FirstBad l e → ChoosingRefused l d e
  bad_grammar_lem r e f =
      let q = (refused_exactly (grammar_of l f.number) f.why).0 f.refuses in
      let w = refused-word (grammar_of l f.number) q in
      subst (ChoosingRefused l d) (sym (f.placed ∙ ap (placed_reason (count_at l f.number + 1)) w.2)) (bad_grammar r f.number f.below f.before w.0 w.1 (subst (FirstRefusal (grammar_of l f.number)) w.2 q))

  pub choose-refuses : Refuses (ChoosingRefused l d) (choose_of l d)
  unfolding choose_of
  choose-refuses =
      refuses refl
      (post_bind _ (post_weaken (λ _ r. r) (λ e n _. subst (ChoosingRefused l d) (sym n.0) (list_broken n.1)) (list_post l)) (λ _ r.
      post_bind _ (post_weaken (λ _ g. g) (λ e f _. bad_grammar_lem r e f) (grammars_post l)) (λ _ g.
      let p : ListPasses l = record { rule = r; grammars = g } in
      post_bind _ (post_weaken (λ _ h. h) (λ e n _. subst (ChoosingRefused l d) (sym n.0) (record_long p n.1)) (length_post d)) (λ _ h.
      post_weaken (λ _ _. tt) (λ e n _. subst (ChoosingRefused l d) (sym n.0) (none_accepts p h n.1)) (tries_post l d p h)))))
      (λ e q. back q)
    where
      back : {e : Reason} → ChoosingRefused l d e → choose_of l d ≡ refused e
      back (list_broken n) = sym (choose-list l d (rule-broken l n))
      back (bad_grammar r j b p n w q) = sym (choose-grammars l d (rule-passes l r) (bad_refused l (record { number = j; below = b; before = p; why = reason n (word w); refuses = (refused_exactly (grammar_of l j) (reason n (word w))).1 q; placed = refl })))
      back (record_long p h) = sym (choose-length l d (rule-passes l p.rule) (grammars_pass l p.grammars) (length_above d h))
      back (none_accepts p h n) = sym (choose-length l d (rule-passes l p.rule) (grammars_pass l p.grammars) (length-fits d h)) ∙ none-accepts l d p h n
