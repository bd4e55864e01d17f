-- Putting what was decided.
use Rattle.std.proofs.Common.{◌≡◌, ap, sym, ◌∙◌, List, ◌++◌, append_assoc, ℕ, ◌+◌, ◌*◌, ◌/◌, ◌^◌, ◌≤◌, ◌<◌, min, arith, length, set, replicate, length-append, Ok, Err}
use Rattle.std.proofs.Math.ListN.{length-replicate, replicate-append-replicate}
use Rattle.std.proofs.Math.Nat.{mul-div_cancel_left}
use Rattle.refusal.specs.Outcome.{Outcome, accepted, refused, map, contents, Fills, Reason}
use Rattle.refusal.specs.Meaning.{reason_of}
use Rattle.refusal.specs.declared.Refusal.{Refusal}
use Rattle.refusal.proofs.Outcome.{map-accepted, map-refused}
use Rattle.packed.specs.Packed.{Bytes, Below, put, put_at}
use Rattle.packed.proofs.Put.{put-nothing, put_more, put_next}
use Rattle.packed.proofs.Calls.{fills_put, fills_answers}
use Rattle.big_endian.specs.BigEndian.{pack_big_endian, reverse_each}
use Rattle.big_endian.proofs.Laws.{length_pack_big, length-reverse_each}
use Rattle.big_endian.proofs.Calls.{elements-inside}
use Rattle.value.specs.Tree.{Val, SizeOfV}
use Rattle.rows.specs.Walk.{walk}
use Rattle.rows.specs.Rule.{TableOf}
use Rattle.rows.specs.Size.{sum_from}
use Rattle.rows.proofs.Rule.{accepted_exactly as rows_exactly}
use Rattle.sizing.specs.Writes.{value_in_grammar}
use Rattle.sizing.proofs.Writes.{accepted_in_grammar}
use Rattle.xdr.specs.Xdr.{padding, padded, xdr_of, xdr_size}
use Rattle.exporting.specs.Own.{own_xdr_size, RowFits}
use Rattle.exporting.specs.Export.{export_of, Exports}
use Rattle.exporting.proofs.Own.{xdr_size_lem}
use Rattle.exporting.proofs.Narrow.{table-narrow, table_fits}
use Rattle.exporting.proofs.Exports.{accepted_exports}

-- ---- an array

-- elements that have room, each turned round
module _ (w : ℕ) (src out : List ℕ) (index : ℕ) (p : 0 < w) (h : index + length src ≤ length out) {o : Outcome Reason (Unit {0})} {exit : List ℕ} (f : Fills (put_at out index (reverse_each w src (length src / w))) o out exit) where
  long : length (reverse_each w src (length src / w)) ≡ w * (length src / w)
  long = length-reverse_each w (length src / w) src (elements-inside w (length src) p)

  pub elements_copied : exit ≡ put out index (reverse_each w src (length src / w))
  elements_copied = let i = elements-inside w (length src) p in fills_put out index _ (w * (length src / w)) long (omega arith) f

  pub elements_fit : o ≡ accepted tt
  elements_fit = let i = elements-inside w (length src) p in fills_answers out index _ (w * (length src / w)) long (omega arith) f

-- the loop over padding: as many zeros are put as the count allows
module _ (out now : List ℕ) (index count i : ℕ) (e : now ≡ put out index (replicate (min i count) 0)) where
  zeros : (m n : ℕ) → m ≡ n → put out index (replicate m 0) ≡ put out index (replicate n 0)
  zeros m n = ap (λ (k : ℕ). put out index (replicate k 0))

  pub zeros-next : i < count → index + count ≤ length out → set now (index + i) 0 ≡ put out index (replicate (min (i + 1) count) 0)
  zeros-next l h = put_next out now index i 0 (replicate i 0) (e ∙ zeros (min i count) i (omega arith)) (length-replicate i 0) (omega arith) ∙ ap (put out index) (replicate-append-replicate i 1 0) ∙ zeros (i + 1) (min (i + 1) count) (omega arith)

  pub zeros-all : count ≤ i → now ≡ put out index (replicate (min (i + 1) count) 0)
  zeros-all l = e ∙ zeros (min i count) (min (i + 1) count) (omega arith)

  pub zeros-put : count ≤ i → {n : ℕ} → count ≡ n → now ≡ put out index (replicate n 0)
  zeros-put l {n} q = e ∙ zeros (min i count) n (omega (arith, q))

pub zeros-none : (out : List ℕ) (index count : ℕ) → out ≡ put out index (replicate (min 0 count) 0)
zeros-none out index count = let e : 0 ≡ min 0 count = omega arith in sym (put-nothing out index) ∙ ap (λ (n : ℕ). put out index (replicate n 0)) e

-- a count, the elements and their padding, put one behind the other
pub elements-put : (w count : ℕ) (src out : List ℕ) (index : ℕ) → 0 < w → length src ≡ w * count → index + (4 + (length src + padding (length src))) ≤ length out → {at : ℕ} {mid behind exit : List ℕ} → at ≡ index + 4 → mid ≡ put out index (pack_big_endian 4 count) → behind ≡ put mid at (reverse_each w src (length src / w)) → exit ≡ put behind (at + length src) (replicate (padding (length src)) 0) → exit ≡ put out index (pack_big_endian 4 count ++ padded (reverse_each w src count))
unfolding padded
elements-put w count src out index positive l room {at} {mid} {behind} {exit} a m b e =
    let n = length src in
    let bs = reverse_each w src count in
    let k : length bs ≡ n = length-reverse_each w count src (omega arith) ∙ sym l in
    let q : reverse_each w src (n / w) ≡ bs = rw (l, mul-div_cancel_left count positive) in
    let c = pack_big_endian 4 count in
    let f : length c ≡ 4 = length_pack_big 4 count in
    let zs : List ℕ = replicate (padding n) 0 in
    let r : length zs ≡ padding n = length-replicate (padding n) 0 in
    let x : behind ≡ put out index (c ++ bs) = b ∙ rw (m, q) (put_more out index c bs at (omega arith) (omega arith)) in
    let y : length (c ++ bs) ≡ 4 + n = rw (length-append, f, k) in
    e ∙ rw (x, k) (put_more out index (c ++ bs) zs (at + n) (omega arith) (omega arith) ∙ rw append_assoc)

-- ---- the whole

-- the value of an outcome, and its table
pub record Tabled (o : Outcome Reason Val) (t : List ℕ) (n : ℕ) (s : List ℕ) : Type 0 where
  pub value : Val
  pub found : o ≡ accepted value
  pub table : TableOf t n s value

-- where its size is known
tabled : (size : Val → ℕ) (o : Outcome Reason Val) (t : List ℕ) (n : ℕ) (s : List ℕ) → Below (2 ^ 64) t → Bytes s → ((v : Val) → o ≡ accepted v → walk t n s ≡ accepted v) → {m : ℕ} → accepted m ≡ map size o → Tabled o t n s
tabled size o t n s words stored rows h =
    let x = map-accepted size o (sym h) in
    record { value = x.0; found = x.1; table = (rows_exactly t n s x.0 words stored).0 (rows x.0 x.1) }

module _ (g t : List ℕ) (n : ℕ) (s : List ℕ) where
  pub valued : Below (2 ^ 64) t → Bytes s → {size : ℕ} → accepted size ≡ map SizeOfV (value_in_grammar g t n s) → Tabled (value_in_grammar g t n s) t n s
  valued words stored = tabled SizeOfV (value_in_grammar g t n s) t n s words stored (λ v e. (accepted_in_grammar g t n s v e).rows)

  -- its XDR size
  pub valued_size : (h : Tabled (value_in_grammar g t n s) t n s) {size : ℕ} → size ≡ sum_from own_xdr_size t 0 n → accepted size ≡ map xdr_size (value_in_grammar g t n s)
  valued_size h e = ap accepted (e ∙ xdr_size_lem t n s h.value h.table) ∙ ap (map xdr_size) (sym h.found)

  -- and where it is to be put
  module _ (len index : ℕ) where
    pub decided : Below (2 ^ 64) t → Bytes s → {size : ℕ} → accepted size ≡ map xdr_size (export_of g t n s len index) → Tabled (export_of g t n s len index) t n s
    decided words stored = tabled xdr_size (export_of g t n s len index) t n s words stored (λ v e. (accepted_exports g t n s len index v e).rows)

    pub put-ready : Below (2 ^ 32) g → Tabled (export_of g t n s len index) t n s → ((j : ℕ) → j < n → RowFits t s j) × (index + sum_from own_xdr_size t 0 n ≤ len)
    put-ready b w =
        let v = w.value in
        let h = w.table in
        let x = accepted_exports g t n s len index v w.found in
        (table_fits t n s v h (table-narrow g t n s v b h x.in_grammar), omega (arith, xdr_size_lem t n s v h, x.room))

module _ (o : Outcome Reason Val) (index : ℕ) (out : List ℕ) where
  output : {x : Outcome Reason Val} → o ≡ x → contents (map (λ v. put out index (xdr_of v)) o) out ≡ contents (map (λ v. put out index (xdr_of v)) x) out
  output e = ap (λ (x : Outcome Reason Val). contents (map (λ v. put out index (xdr_of v)) x) out) e

  pub exports_refused : (r : Refusal) → refused (reason_of r) ≡ map xdr_size o → Exports o index (Err r) out out
  unfolding output
  exports_refused r h = record { answers = h; output = sym (output (map-refused xdr_size o (sym h))) }

  pub exports_put : {size : ℕ} {v : Val} {exit : List ℕ} → accepted size ≡ map xdr_size o → o ≡ accepted v → exit ≡ put out index (xdr_of v) → Exports o index (Ok size) out exit
  unfolding output
  exports_put h e p = record { answers = h; output = p ∙ sym (output e) }
