-- Request 08, proved.
use Rattle.std.proofs.Common.{◌≡◌, refl, sym, ap, subst, ◌∙◌, ◌⊎◌, inl, inr, List, [], ◌++◌, append-nil, ℕ, ◌+◌, ◌*◌, ◌≤◌, zero-add, arith, length, take, drop, length-append, length-drop, take_at, drop_at, take_all, Result}
use Rattle.refusal.specs.declared.Refusal.{Refusal}
use Rattle.refusal.specs.Outcome.{Outcome, accepted, refused, map, contents, Reason, reason, byte}
use Rattle.refusal.proofs.Outcome.{map-accepted}
use Rattle.packed.specs.Packed.{put}
use Rattle.packed.proofs.Put.{length-put}
use Rattle.packed.proofs.Source.{put-there}
use Rattle.big_endian.specs.BigEndian.{pack_big_endian, pack_big_endian_seq}
use Rattle.big_endian.proofs.Laws.{length_pack_big, unpack_big_packed, pack_big_unpack, unpack_big_sum, pack_big_seq_of-bytes}
use Rattle.big_endian.proofs.Calls.{unpack_big_none, unpack_big_next}
use Rattle.value.specs.Tree.{G, Val, ValueOf, row_count}
use Rattle.value.specs.Step.{Step}
use Rattle.tables.specs.Row.{row_width}
use Rattle.grammar.specs.Tree.{tree_of}
use Rattle.grammar.proofs.Rule.{accepted_exactly}
use Rattle.grammar.proofs.Tree.{tree_valid}
use Rattle.rows.specs.Walk.{walk}
use Rattle.rows.proofs.Rule.{accepted_exactly as rows_exactly}
use Rattle.admission.specs.Admission.{capacity_of}
use Rattle.xdr.specs.Xdr.{padded, xdr_of, xdr_size, store_of, rows_in}
use Rattle.xdr.specs.Import.{Filling, Importing, start, import_whole, import_to}
use Rattle.xdr.proofs.Sizes.{padding-few, padding-four, padded-numbers, sizes}
use Rattle.xdr.proofs.Rows.{length-rows_in, packed_walk}
use Rattle.xdr.proofs.Import.{Small}
use Rattle.xdr.proofs.AtArray.{at-array}
use Rattle.xdr.proofs.Small.{small_of}
use Rattle.xdr.proofs.Whole.{Imported as Whole, whole-fits, whole-few, whole_tight, whole_either, whole-accepted, one_meaning}
use Rattle.exporting.specs.Export.{export_of}
use Rattle.exporting.proofs.Narrow.{tree_few}
use Rattle.exporting.proofs.Exports.{accepted_exports, export_accepted}
use Rattle.importing.specs.Meaning.{Counts, imported_of}
use Rattle.importing.specs.Calls.{import_of, counts_of}
use Rattle.importing.specs.declared.Imported.{Imported}
use Rattle.route.specs.Demands.{PutThere, Grammar}
use Rattle.route.specs.Xdr.{XdrRule, XdrOf, Import, Brought, ImportsExactly, TooLittleLent, ExportThenImport, ImportThenExport, Xdr}
use Rattle.route.proofs.Put.{put-at}
use Rattle.route.proofs.Reading.{value_of, of-value, put_front}
use Rattle.route.proofs.Refusals.{import_whole_lem}

-- ---- the rule

xdr_rule : XdrRule
unfolding xdr_of padded pack_big_endian_seq
xdr_rule = record {
  constant = refl;
  uint32 = λ n. refl;
  uint64 = λ n. refl;
  int32 = λ z. refl;
  int64 = λ z. refl;
  array = λ vs. refl;
  tuple = λ vs. refl;
  byte_array = λ b h. rw (pack_big_seq_of-bytes b h);
  uint32_array = λ ns. ap (λ (bs : List ℕ). pack_big_endian 4 (length ns) ++ bs) (padded-numbers 1 ns);
  uint64_array = λ ns. ap (λ (bs : List ℕ). pack_big_endian 4 (length ns) ++ bs) (padded-numbers 2 ns);
  case = λ c v. refl;
  no_parts = refl;
  parts = λ v vs. refl;
  padded = λ n. (padding-few n, padding-four n);
  no_numbers = λ w. refl;
  numbers = λ w n ns. refl;
  no_bytes = λ bs. unpack_big_none bs;
  next_byte = λ w bs h. unpack_big_next w bs h;
  sum = λ a b c d. unpack_big_sum a b c d [];
  packs = λ w n h. (length_pack_big w n, rw append-nil at (unpack_big_packed w n [] h));
  only = λ w n bs b l e. sym (ap (pack_big_endian w) (sym e) ∙ pack_big_unpack w bs b (omega arith) ∙ take_all w bs (omega arith));
  smaller = λ v. (sizes v).outer;
  arrays_within = λ v. (sizes v).inner;
}

-- ---- values of a grammar that passes

-- d is the XDR bytes of v, in the theory's terms
module _ {g d : List ℕ} {v : Val} (w : Grammar g) (short : length d ≤ 1048576) (o : XdrOf g d v) where
  of_theory : ValueOf (tree_of g 0) v
  of_theory = value_of w o.value

  small : Small v
  small = let l : xdr_size v ≤ 1048576 = omega (arith, ap length o.bytes) in small_of o.value.in_grammar (tree_few g w.words 0) (omega (arith, o.rows)) (omega arith)

-- ---- the whole import

module _ {g d rows store rows₁ store₁ : List ℕ} {r : Result Imported Refusal} (h : Import g d rows store r rows₁ store₁) where
  whole : import_of g d (capacity_of (length rows)) (length store) ≡ import_whole (capacity_of (length rows)) (length store) d (tree_of g 0)
  whole = import_whole_lem g d (capacity_of (length rows)) (length store) h.grammar.passes h.short h.lent

  -- of the XDR bytes of v
  answers : (v : Val) → d ≡ xdr_of v → (o : Outcome Reason (Step Filling Val)) → import_whole (capacity_of (length rows)) (length store) (xdr_of v) (tree_of g 0) ≡ o → imported_of r ≡ map counts_of o
  answers v b o e = h.call.answers ∙ ap (map counts_of) (whole ∙ ap (λ (bs : List ℕ). import_whole (capacity_of (length rows)) (length store) bs (tree_of g 0)) b ∙ e)

  -- what is known of an accepted import
  taken : (k : Counts) → imported_of r ≡ accepted k → (v : Val) × Whole (capacity_of (length rows)) (length store) (tree_of g 0) d v × (k ≡ counts_of (import_to v start)) × (rows₁ ≡ put rows 0 (rows_in v 0)) × (store₁ ≡ put store 0 (store_of v))
  taken k e =
      let y = map-accepted counts_of (import_of g d (capacity_of (length rows)) (length store)) (sym h.call.answers ∙ e) in
      let t = y.0 in
      let x = whole-accepted (capacity_of (length rows)) (length store) d (tree_of g 0) (tree_valid g h.grammar.words 0) h.bytes t (sym whole ∙ y.1) in (
        t.value,
        x.0,
        y.2 ∙ ap counts_of x.1,
        h.call.rows ∙ ap (λ (o : Outcome Reason (Step Filling Val)). contents (map (λ t. put rows 0 (rows_in t.value 0)) o) rows) y.1,
        h.call.store ∙ ap (λ (o : Outcome Reason (Step Filling Val)). contents (map (λ t. put store 0 (store_of t.value)) o) store) y.1,
      )

-- ---- buffers filled from their start

module _ (entry front exit : List ℕ) (n : ℕ) (l : length front ≡ n) (m : n ≤ length entry) (e : exit ≡ put entry 0 front) where
  filled : exit ≡ front ++ drop n entry
  filled = e ∙ put_front entry front ∙ rw l

  filled_front : take n exit ≡ front
  filled_front = ap (take n) filled ∙ take_at front (drop n entry) n l

  filled_kept : drop n exit ≡ drop n entry
  filled_kept = ap (drop n) filled ∙ drop_at front (drop n entry) n l

  filled_length : length exit ≡ length entry
  filled_length = ap length e ∙ length-put entry 0 front (omega arith)

-- rows and store of v, in front of whatever they held, stand for v
walk_back : (rows store rows₁ store₁ : List ℕ) (v : Val) {g : G} → ValueOf g v → row_count v ≤ 4096 → row_width * row_count v ≤ length rows → length (store_of v) ≤ length store → length store ≤ 1048576 → rows₁ ≡ put rows 0 (rows_in v 0) → store₁ ≡ put store 0 (store_of v) → walk rows₁ (row_count v) store₁ ≡ accepted v
walk_back rows store rows₁ store₁ v o few lr ls lent e f =
    let a : rows₁ ≡ rows_in v 0 ++ drop (row_width * row_count v) rows = filled rows (rows_in v 0) rows₁ (row_width * row_count v) (length-rows_in v 0) lr e in
    let b : store₁ ≡ store_of v ++ drop (length (store_of v)) store = filled store (store_of v) store₁ (length (store_of v)) refl ls f in
    let c : length (store_of v ++ drop (length (store_of v)) store) ≤ 1048576 = rw (length-append, length-drop) (omega arith) in
    rw (a, b) (packed_walk v (drop (row_width * row_count v) rows) (drop (length (store_of v)) store) few c o.valid o.typed)

-- the rows of a capacity are lent
capacity_lent : (words n : ℕ) → n ≤ capacity_of words → (n ≤ 4096) × (row_width * n ≤ words)
capacity_lent words n h = (omega arith, omega arith)

-- ---- import

brought : {g d rows store rows₁ store₁ : List ℕ} {r : Result Imported Refusal} → Import g d rows store r rows₁ store₁ → (k : Counts) → imported_of r ≡ accepted k → (v : Val) × Brought g d rows store k rows₁ store₁ v × (row_count v ≤ capacity_of (length rows)) × (length (store_of v) ≤ length store)
brought {g} {d} {rows} {store} {rows₁} {store₁} h k e =
    let y = taken h k e in
    let v = y.0 in
    let x = y.1 in
    let c = capacity_lent (length rows) (row_count v) x.rows in
    let i : k.rows ≡ row_count v = ap (λ (z : Counts). z.rows) y.2 ∙ zero-add (row_count v) in
    let j : k.used ≡ length (store_of v) = ap (λ (z : Counts). z.used) y.2 ∙ zero-add (length (store_of v)) in
    let n : row_width * k.rows ≡ row_width * row_count v = ap (λ (z : ℕ). row_width * z) i in
    let lr : length (rows_in v 0) ≡ row_width * row_count v = length-rows_in v 0 in (
      v,
      record {
        of_xdr = record { value = of-value x.of_grammar; rows = omega (arith, c.0); bytes = x.bytes };
        count = i;
        used = j;
        walked = ap (λ (z : ℕ). walk rows₁ z store₁) i ∙ walk_back rows store rows₁ store₁ v x.of_grammar c.0 c.1 x.store h.lent y.3 y.4;
        layout = ap (λ (z : ℕ). take z rows₁) n ∙ filled_front rows (rows_in v 0) rows₁ (row_width * row_count v) lr c.1 y.3;
        most = omega (arith, (sizes v).near, ap length x.bytes, h.short, c.0);
        arrays = ap (λ (z : ℕ). take z store₁) j ∙ filled_front store (store_of v) store₁ (length (store_of v)) refl x.store y.4;
        rows_kept = ap (λ (z : ℕ). drop z rows₁) n ∙ filled_kept rows (rows_in v 0) rows₁ (row_width * row_count v) lr c.1 y.3 ∙ ap (λ (z : ℕ). drop z rows) (sym n);
        store_kept = ap (λ (z : ℕ). drop z store₁) j ∙ filled_kept store (store_of v) store₁ (length (store_of v)) refl x.store y.4 ∙ ap (λ (z : ℕ). drop z store) (sym j);
        words = filled_length rows (rows_in v 0) rows₁ (row_width * row_count v) lr c.1 y.3;
        bytes = filled_length store (store_of v) store₁ (length (store_of v)) refl x.store y.4;
        only = λ u o. one_meaning (of_theory h.grammar h.short o) (small h.grammar h.short o) x.of_grammar x.small [] [] (rw (sym o.bytes, sym x.bytes));
      },
      x.rows,
      x.store,
    )

imports_exactly_lem : ImportsExactly
imports_exactly_lem g d rows store rows₁ store₁ r h = (
  (
    λ a. let x = brought h a.0 a.1 in (x.0, x.1.of_xdr, x.2, x.3),
    λ b.
        let o = b.1 in
        (_, answers h b.0 o.bytes (accepted (import_to b.0 start)) (whole-fits (capacity_of (length rows)) (length store) (of_theory h.grammar h.short o) (small h.grammar h.short o) b.2 b.3)),
  ),
  λ k e. let x = brought h k e in (x.0, x.1),
)

too_little_lent_lem : TooLittleLent
too_little_lent_lem g d rows store rows₁ store₁ r h v o =
    let p = of_theory h.grammar h.short o in
    let m = small h.grammar h.short o in (
      λ a b. let x = whole-few (capacity_of (length rows)) (length store) p m a b in (x.0, answers h v o.bytes (refused (reason 8 (byte x.0))) x.1),
      λ a b. answers h v o.bytes (refused (reason 17 (byte (length store)))) (whole_tight (capacity_of (length rows)) (length store) p m a b),
      λ a b. go (whole_either (capacity_of (length rows)) (length store) p m a b),
    )
  where
    x : Importing Val
    x = import_whole (capacity_of (length rows)) (length store) (xdr_of v) (tree_of g 0)

    go : ((place : ℕ) × (x ≡ refused (reason 8 (byte place)))) ⊎ (x ≡ refused (reason 17 (byte (length store)))) → ((place : ℕ) × (imported_of r ≡ refused (reason 8 (byte place)))) ⊎ (imported_of r ≡ refused (reason 17 (byte (length store))))
    go (inl z) = inl (z.0, answers h v o.bytes (refused (reason 8 (byte z.0))) z.1)
    go (inr z) = inr (answers h v o.bytes (refused (reason 17 (byte (length store)))) z)

-- ---- round trips

export_then_import_lem : ExportThenImport
export_then_import_lem g t s out after n index size w words rows bytes m e =
    let y = map-accepted xdr_size (export_of g t n s (length out) index) (sym m.answers ∙ e) in
    let v = y.0 in
    let x = accepted_exports g t n s (length out) index v y.1 in
    let b = (rows_exactly t n s v rows bytes).0 x.rows in
    let a : after ≡ put out index (xdr_of v) = m.output ∙ ap (λ (o : Outcome Reason Val). contents (map (λ v. put out index (xdr_of v)) o) out) y.1 in
    let d : take size (drop index after) ≡ xdr_of v = ap (λ (j : ℕ). take j (drop index after)) y.2 ∙ ap (λ (bs : List ℕ). take (xdr_size v) (drop index bs)) a ∙ put-there out index (xdr_of v) x.room in
    let p : Grammar g = record { words = words; passes = (accepted_exactly g).1 x.grammar } in
    let o : ValueOf (tree_of g 0) v = record { in_grammar = x.in_grammar; valid = b.valid; typed = b.typed } in
    let i : Small v = small_of x.in_grammar (tree_few g words 0) (omega (arith, b.count, b.few)) (omega (arith, x.small)) in (
      v,
      x.rows,
      λ fill store rows₁ store₁ r l f k h.
          let c = capacity_lent (length fill) n l in
          let q : import_of g (take size (drop index after)) (capacity_of (length fill)) (length store) ≡ accepted (import_to v start) =
          ap (λ (bs : List ℕ). import_of g bs (capacity_of (length fill)) (length store)) d
          ∙ import_whole_lem g (xdr_of v) (capacity_of (length fill)) (length store) p.passes x.small k
          ∙ whole-fits (capacity_of (length fill)) (length store) o i (omega (arith, b.count)) f in
          let z : rows₁ ≡ put fill 0 (rows_in v 0) = h.rows ∙ ap (λ (o : Outcome Reason (Step Filling Val)). contents (map (λ t. put fill 0 (rows_in t.value 0)) o) fill) q in
          let u : store₁ ≡ put store 0 (store_of v) = h.store ∙ ap (λ (o : Outcome Reason (Step Filling Val)). contents (map (λ t. put store 0 (store_of t.value)) o) store) q in
          let j : 0 + row_count v ≡ n = zero-add (row_count v) ∙ b.count in (
            h.answers ∙ ap (map counts_of) q ∙ rw (j, zero-add (length (store_of v))),
            ap (λ (z : ℕ). walk rows₁ z store₁) (sym b.count) ∙ walk_back fill store rows₁ store₁ v o (omega (arith, b.count, b.few)) (omega (arith, b.count, c.1)) f k z u,
          ),
    )

import_then_export_lem : ImportThenExport
import_then_export_lem g d rows store rows₁ store₁ r h k e out index l w after m =
    let y = brought h k e in
    let v = y.0 in
    let x = y.1 in
    let n : xdr_size v ≡ length d = ap length (sym x.of_xdr.bytes) in
    let q = export_accepted g rows₁ k.rows store₁ (length out) index v (record { grammar = (accepted_exactly g).0 h.grammar.passes; rows = x.walked; in_grammar = x.of_xdr.value.in_grammar; small = omega (arith, h.short); room = omega arith }) in
    let a : after ≡ put out index (xdr_of v) = m.output ∙ ap (λ (o : Outcome Reason Val). contents (map (λ v. put out index (xdr_of v)) o) out) q in
    (m.answers ∙ ap (map xdr_size) q ∙ ap accepted n, subst (λ (bs : List ℕ). PutThere bs out index after) (sym x.of_xdr.bytes) (put-at out index (xdr_of v) (omega arith) a))

pub xdr : Xdr
xdr = record {
  rule = xdr_rule;
  imports_exactly = imports_exactly_lem;
  too_little_lent = too_little_lent_lem;
  order_at_array = at-array;
  export_then_import = export_then_import_lem;
  import_then_export = import_then_export_lem;
}
