-- Demand 2, proved.
use Rattle.std.proofs.Common.{◌↔◌, ◌≡◌, refl, sym, ap, subst, ◌∙◌, List, [], append-nil, ℕ, ◌+◌, ◌*◌, ◌≤◌, zero-add, le_refl, arith, length, take, drop, take_at, take_all, drop-drop, le-leb, Result}
use Rattle.refusal.specs.declared.Refusal.{Refusal}
use Rattle.std.proofs.Math.Option.{some}
use Rattle.refusal.specs.Outcome.{Outcome, accepted, map, contents, Fills, Reason}
use Rattle.refusal.proofs.Outcome.{test-true, map-accepted, map-refused}
use Rattle.packed.specs.Packed.{unpack_little_endian, unpack_little_endian_seq, pack_little_endian, pack_little_endian_seq, present, bytes_at, unpack_seq_at, room, put, put_at}
use Rattle.packed.proofs.Laws.{bytes_drop, length_pack, pack_bytes, unpack_packed, pack_unique, length_pack_seq, length_unpack_seq, unpack_seq_take, get_d_unpack_seq, unpack_seq_pack_seq, pack_seq_unpack_seq}
use Rattle.packed.proofs.Calls.{present-inside, present-fits, room_fits}
use Rattle.packed.proofs.Source.{unpack_uint32, unpack_uint64}
use Rattle.value.specs.Tree.{Val, SizeOfV, row_count}
use Rattle.value.specs.Bytes.{bytes_of, Stands}
use Rattle.value.specs.Step.{Step}
use Rattle.value.specs.Reading.{State, start, read_val, read_to}
use Rattle.value.specs.Parse.{parse_val}
use Rattle.value.proofs.Laws.{pack_seq_bytes, length_bytes_of, bytes_of_byte_array, parse_val_bytes_of, parse_val-value}
use Rattle.value.proofs.Reading.{read_fits}
use Rattle.value.proofs.Signed.{twos_complement, signed-one_to_one, pattern-signed, value-int32, value-int64}
use Rattle.grammar.specs.Check.{check_grammar}
use Rattle.grammar.specs.Tree.{tree_of}
use Rattle.grammar.proofs.Rule.{accepted_exactly}
use Rattle.grammar.proofs.Tree.{tree_valid}
use Rattle.rows.specs.Walk.{walk}
use Rattle.rows.proofs.Rule.{accepted_exactly as rows_exactly}
use Rattle.rows.proofs.Parts.{rows_say}
use Rattle.rows.proofs.Size.{table_says}
use Rattle.signed.proofs.Rule.{signed_exactly}
use Rattle.reading.specs.declared.Parsed.{Parsed}
use Rattle.reading.specs.Meaning.{Counts, parsed_of}
use Rattle.admission.specs.Admission.{capacity_of, admit_of}
use Rattle.reading.specs.Calls.{without_state, parse_val_of, demarshall_of, counts_of, Parses}
use Rattle.admission.proofs.Admission.{length-fits, admit_length, admitted}
use Rattle.reading.proofs.Calls.{parse-read, parse-no-row, parse-accepted, whole-parse, parse-smaller, whole-smaller}
use Rattle.reading.proofs.Meaning.{parsed_of_injective}
use Rattle.reading.proofs.Bridge.{parse-parses, parse_stands, parse-none, demarshall_accepted, demarshall_refused}
use Rattle.sizing.specs.Writes.{marshall_val_of}
use Rattle.sizing.proofs.Writes.{accepted_writes}
use Rattle.route.specs.Demands.{PutThere, ParseValAgrees, DemarshallAgrees, ChecksAgree, SizesAgree, RowsSaySizes, SignedAgrees, ByteRule, RuleStands, WritesTheRule, NumbersAgree, Demand2}
use Rattle.route.proofs.Put.{put-at}
use Rattle.route.proofs.Refusals.{room-there}
use Rattle.route.proofs.Reading.{rows-laid}
use Rattle.route.proofs.Writing.{written}

-- ---- reading

-- where none of 1 to 7 is to be given
admits : (g d : List ℕ) (index : ℕ) → check_grammar g ≡ accepted tt → length d ≤ 1048576 → index ≤ length d → accepted tt ≡ admit_of g d index
admits g d index p s i = sym (test-true _ _ (le-leb index (length d) i)) ∙ admit_length g d index (sym p) (length-fits d s)

parse-val_agrees : ParseValAgrees
parse-val_agrees g d rows exit index r w b h = record {
  value = λ k e.
      let y = map-accepted counts_of (parse_val_of g d index capacity) (sym h.answers ∙ e) in
      let t = y.0 in
      let a = admitted g d index (parse-accepted g d index capacity t y.1).0 in
      let x = parse_stands g d index capacity w b t y.1 in
      let n : k ≡ counts_of (read_to t.value (start index)) = y.2 ∙ ap counts_of x.2 in (
        t.value,
        record {
          passes = (accepted_exactly g).1 a.0;
          short = a.1;
          inside = a.2;
          fits = x.1;
          parsed = subst (λ (c : Counts). parse_val (drop index d) (tree_of g 0) ≡ (some t.value, drop c.rest_index d)) (sym y.2) (parse-parses g d index capacity t y.1);
          count = ap (λ (c : Counts). c.rows) n ∙ omega arith;
          rest = ap (λ (c : Counts). c.rest_index) n;
          layout = rows-laid h t y.1;
        },
      );
  nothing = λ n place e l. parse-none g d index capacity n place l (map-refused counts_of (parse_val_of g d index capacity) (sym h.answers ∙ e));
  within = λ p s i v rest e f.
      let x = parse_val-value (tree_of g 0) (tree_valid g w 0) (drop index d) (bytes_drop index d b) v rest e in
      let o : Stands d (tree_of g 0) index v = record { of_grammar = x.1; bytes = rw x.0 (take_at (bytes_of v) rest (SizeOfV v) (length_bytes_of v)) } in
      let q : read_val capacity d (tree_of g 0) (start index) ≡ accepted (read_to v (start index)) = read_fits capacity d (tree_of g 0) (start index) i v o (omega arith) in
      h.answers ∙ ap (map counts_of) (sym (parse-read g d index capacity (admits g d index p s i)) ∙ ap without_state q) ∙ rw (zero-add (row_count v));
}
  where
    capacity : ℕ
    capacity = capacity_of (length rows)

demarshall_agrees_lem : DemarshallAgrees
demarshall_agrees_lem g d rows exit r w b h = record {
  value = λ k e.
      let y = map-accepted counts_of (demarshall_of g d capacity) (sym h.answers ∙ e) in
      let m = demarshall_accepted g d capacity w b y.0 y.1 in
      (m.0, rows-laid h y.0 y.1 ∙ rw m.1);
  nothing = λ n place e l. demarshall_refused g d capacity w b n place l (map-refused counts_of (demarshall_of g d capacity) (sym h.answers ∙ e));
}
  where
    capacity : ℕ
    capacity = capacity_of (length rows)

-- at one capacity a check and a reading with rows lent answer the same
same_answer : (o : ℕ → Outcome Reason (Step State Val)) {index capacity : ℕ} {rows exit : List ℕ} (r q : Result Parsed Refusal) → capacity_of (length rows) ≡ capacity → parsed_of r ≡ map counts_of (o capacity) → Parses (o (capacity_of (length rows))) index q rows exit → r ≡ q
same_answer o r q e h p = parsed_of_injective r q (h ∙ sym (p.answers ∙ ap (λ (n : ℕ). map counts_of (o n)) e))

checks_agree_lem : ChecksAgree
checks_agree_lem = record {
  val = λ g d rows exit index r q e h p. same_answer (parse_val_of g d index) r q e h p;
  whole = λ g d rows exit r q e h p. same_answer (demarshall_of g d) r q e h p;
  val_with = λ g d rows exit index c r q e h p. same_answer (parse_val_of g d index) r q e h p;
  whole_with = λ g d rows exit c r q e h p. same_answer (demarshall_of g d) r q e h p;
  named = λ c h. omega arith;
  larger = λ c h. omega arith;
  lent = λ c. omega arith;
  none = λ g d index p s i. sym (parse-no-row g d index (admits g d index p s i));
  none_whole = λ g d p s. rw (whole-parse g d 0, sym (parse-no-row g d 0 (admits g d 0 p s (omega arith))));
  smaller = λ g d index c m l. parse-smaller g d c m l index;
  smaller_whole = λ g d c m l. whole-smaller g d c m l;
}

-- ---- sizes and writing

sizes_agree_lem : SizesAgree
sizes_agree_lem t s n r words bytes h size = (
  λ e. let y = map-accepted SizeOfV (walk t n s) (sym h ∙ e) in (y.0, (rows_exactly t n s y.0 words bytes).0 y.1, y.2),
  λ x. h ∙ ap (map SizeOfV) ((rows_exactly t n s x.0 words bytes).1 x.1) ∙ ap accepted (sym x.2),
)

rows_say_sizes_lem : RowsSaySizes
rows_say_sizes_lem t s n v words bytes w = let h = (rows_exactly t n s v words bytes).0 w in (table_says t n s v h, rows_say t n s v h)

signed_agrees_lem : SignedAgrees
signed_agrees_lem t s n i r words bytes h z = let x = signed_exactly t n s i z words bytes in (λ e. x.0 (sym h ∙ e), λ e. h ∙ x.1 e)

byte-rule : ByteRule
unfolding bytes_of
byte-rule = record {
  constant = refl;
  uint32 = λ n. refl;
  uint64 = λ n. refl;
  int32 = λ z. refl;
  int64 = λ z. refl;
  array = λ vs. refl;
  tuple = λ vs. refl;
  byte_array = bytes_of_byte_array;
  uint32_array = λ ns. refl;
  uint64_array = λ ns. refl;
  case = λ c v. refl;
  no_parts = refl;
  parts = λ v vs. refl;
}

rule_stands_lem : RuleStands
rule_stands_lem = record { rule = byte-rule; parses = λ g v o rest. parse_val_bytes_of o rest; parsed = parse_val-value; size = length_bytes_of; int32 = value-int32; int64 = value-int64 }

writes_the_rule_lem : WritesTheRule
writes_the_rule_lem g t s out exit n index w m = (
  (
    λ a. let y = map-accepted SizeOfV (marshall_val_of g t n s (length out) index) (sym m.answers ∙ a.1) in (y.0, accepted_writes g t n s (length out) index y.0 y.1),
    λ x. (SizeOfV x.0, (written m x.0 x.1).0),
  ),
  λ v x. written m v x,
)

-- ---- numbers

-- bytes are put exactly where they have room
module _ (out : List ℕ) (index : ℕ) (bs : List ℕ) (size : ℕ) (n : length bs ≡ size) {exit : List ℕ} {a : Outcome Reason (Unit {0})} (h : Fills (put_at out index bs) a out exit) where
  fills : index + length bs ≤ length out → a ≡ accepted tt
  fills l = h.answers ∙ ap (λ (o : Outcome Reason (Unit {0})). map (λ _. tt) (map (λ _. put out index bs) o)) (room-there (length out) index (length bs) l)

  filled : a ≡ accepted tt → (index + length bs ≤ length out) × PutThere bs out index exit
  filled e =
      let x = map-accepted (λ _. tt) (put_at out index bs) (sym h.answers ∙ e) in
      let y = map-accepted (λ _. put out index bs) (room (length out) index (length bs)) x.1 in
      let l = room_fits (length out) index (length bs) (sym y.1) in
      (l, put-at out index bs l (h.buffer ∙ ap (λ (o : Outcome Reason (List ℕ)). contents o out) x.1 ∙ y.2))

  fills_exactly : (a ≡ accepted tt) ↔ (index + size ≤ length out)
  fills_exactly = (λ e. omega (arith, (filled e).0), λ l. fills (omega arith))

-- bytes are taken exactly where they are there
module _ (s : List ℕ) (index size : ℕ) where
  taken : {bs : List ℕ} → bytes_at s index size ≡ accepted bs → (index + size ≤ length s) × (bs ≡ take size (drop index s))
  taken e = let x = map-accepted (λ _. take size (drop index s)) (present (length s) index size) e in (present-fits (length s) index size (sym x.1), x.2)

  takes : index + size ≤ length s → bytes_at s index size ≡ accepted (take size (drop index s))
  takes l = ap (map (λ _. take size (drop index s))) (present-inside (length s) index size (omega arith) ∙ test-true _ _ (le-leb (index + size) (length s) l))

numbers_agree_lem : (w : ℕ) → NumbersAgree w
numbers_agree_lem w = record {
  packs = λ n index out exit a h below.
      let bs = pack_little_endian w n in (
        fills_exactly out index bs w (length_pack w n) h,
        λ e. (bs, (filled out index bs w (length_pack w n) h e).1, pack_bytes w n, length_pack w n, unpack_packed w n below, λ cs b m e. (pack_unique w n cs below b m).0 e),
      );
  packs_seq = λ index ns out exit a h below.
      let bs = pack_little_endian_seq w ns in
      let u : unpack_little_endian_seq w bs (length ns) ≡ ns = ap (λ (x : List ℕ). unpack_little_endian_seq w x (length ns)) (sym (append-nil bs)) ∙ unpack_seq_pack_seq w ns [] below in (
        fills_exactly out index bs (w * length ns) (length_pack_seq w ns) h,
        λ e. (
          bs,
          (filled out index bs (w * length ns) (length_pack_seq w ns) h e).1,
          pack_seq_bytes w ns,
          length_pack_seq w ns,
          u,
          λ cs b m e.
              sym (take_all (w * length ns) cs (omega arith)) ∙ sym (pack_seq_unpack_seq w (length ns) cs b (omega arith)) ∙ ap (pack_little_endian_seq w) e,
        ),
      );
  unpacks = λ s index n. (
    λ e. let x = map-accepted (unpack_little_endian w) (bytes_at s index w) e in let y = taken s index w x.1 in (y.0, x.2 ∙ ap (unpack_little_endian w) y.1),
    λ h. ap (map (unpack_little_endian w)) (takes s index w h.0) ∙ ap accepted (sym h.1),
  );
  unpacks_seq = λ s index entry exit a h.
      let n = length entry in
      let f : List ℕ → List ℕ = λ bs. unpack_little_endian_seq w bs n in (
        (
          λ e. let x = map-accepted (λ _. tt) (unpack_seq_at w s index n) (sym h.answers ∙ e) in let y = map-accepted f (bytes_at s index (w * n)) x.1 in (taken s index (w * n) y.1).0,
          λ l. h.answers ∙ ap (λ (o : Outcome Reason (List ℕ)). map (λ _. tt) (map f o)) (takes s index (w * n) l),
        ),
        λ e.
            let x = map-accepted (λ _. tt) (unpack_seq_at w s index n) (sym h.answers ∙ e) in
            let y = map-accepted f (bytes_at s index (w * n)) x.1 in
            let z : exit ≡ unpack_little_endian_seq w (drop index s) n = h.buffer ∙ ap (λ (o : Outcome Reason (List ℕ)). contents o entry) x.1 ∙ y.2 ∙ ap f (taken s index (w * n) y.1).1 ∙ unpack_seq_take w n (w * n) (drop index s) (le_refl (w * n)) in
            (rw z (length_unpack_seq w (drop index s) n), λ i m. rw (z, get_d_unpack_seq w n (drop index s) i m, drop-drop (w * i) index s)),
      );
}

pub demand2 : Demand2
demand2 = record {
  parse_val_agrees = parse-val_agrees;
  demarshall_agrees = demarshall_agrees_lem;
  checks_agree = checks_agree_lem;
  rows_agree = λ t s n v. rows_exactly t n s v;
  sizes_agree = sizes_agree_lem;
  rows_say_sizes = rows_say_sizes_lem;
  signed_agrees = signed_agrees_lem;
  signed_rule = λ w h. record { number = λ p l. twos_complement w p h l; one_to_one = λ p q l m e. signed-one_to_one w p q h l m e; pattern = λ z r. pattern-signed w z h r };
  rule_stands = rule_stands_lem;
  writes_the_rule = writes_the_rule_lem;
  numbers_agree = numbers_agree_lem;
  sums_agree = record { uint32 = unpack_uint32; uint64 = unpack_uint64 };
}
