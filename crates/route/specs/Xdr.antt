-- Document 02's request 08, XDR for the rack software, as statements over the definitions that the contracts of `export_xdr` and `import_xdr`
-- cite. Above each part stand the words that it says, and what would leave it empty; proofs/Xdr.antt proves them.
use Rattle.std.specs.Prelude.{◌≡◌, ◌↔◌, ◌⊎◌, List, [], ◌∷◌, ◌++◌, ℕ, ◌+◌, ◌*◌, ◌%◌, ◌^◌, ◌≤◌, ◌<◌, length, take, drop, replicate, get_or, ℤ, Result}
use Rattle.refusal.specs.declared.Refusal.{Refusal}
use Rattle.refusal.specs.Meaning.{outcome_of}
use Rattle.refusal.specs.Outcome.{accepted, refused, byte, reason}
use Rattle.packed.specs.Packed.{Bytes, Below}
use Rattle.big_endian.specs.BigEndian.{pack_big_endian, pack_big_endian_seq, unpack_big_endian}
use Rattle.value.specs.Kinds.{Elements}
use Rattle.value.specs.Tree.{Val, Vals, VConstant, VArray, VTuple, VCase, vnil, vcons, VUint32, VUint64, VByteArray, VUint32Array, VUint64Array, seq_v, SizeOfV, row_count}
use Rattle.value.specs.Signed.{pattern_of, VInt32, VInt64}
use Rattle.tables.specs.Row.{row_width}
use Rattle.rows.specs.Walk.{walk}
use Rattle.admission.specs.Admission.{capacity_of}
use Rattle.xdr.specs.Xdr.{padding, xdr_of, xdr_of_all, xdr_size, store_of, rows_in}
use Rattle.xdr.specs.Import.{Filling}
use Rattle.xdr.specs.AtArray.{AtArray}
use Rattle.exporting.specs.Export.{export_of, Exports}
use Rattle.importing.specs.Meaning.{Counts, imported_of}
use Rattle.importing.specs.Calls.{import_of, Imports}
use Rattle.importing.specs.declared.Imported.{Imported}
use Rattle.route.specs.Demands.{PutThere, Grammar, ValueOfGrammar}

-- "constant as void, kinds 1, 2, 9 and 10 as unsigned int, unsigned hyper, int and hyper, tuples as structures, arrays and kinds 6 and 7 as
-- variable-length arrays (6 of unsigned int, 7 of unsigned hyper), byte arrays as variable-length opaque with zero padding to a multiple of
-- four, unions with an unsigned 32-bit discriminant": RFC 4506, kind by kind. No call is in it
pub record XdrRule : Type 0 where
  pub constant : xdr_of VConstant ≡ []
  pub uint32 : (n : ℕ) → xdr_of (VUint32 n) ≡ pack_big_endian 4 n
  pub uint64 : (n : ℕ) → xdr_of (VUint64 n) ≡ pack_big_endian 8 n
  pub int32 : (z : ℤ) → xdr_of (VInt32 z) ≡ pack_big_endian 4 (pattern_of 4 z)
  pub int64 : (z : ℤ) → xdr_of (VInt64 z) ≡ pack_big_endian 8 (pattern_of 8 z)
  pub array : (vs : Vals) → xdr_of (VArray vs) ≡ pack_big_endian 4 (length (seq_v vs)) ++ xdr_of_all vs
  pub tuple : (vs : Vals) → xdr_of (VTuple vs) ≡ xdr_of_all vs
  pub byte_array : (b : List ℕ) → Below 256 b → xdr_of (VByteArray b) ≡ pack_big_endian 4 (length b) ++ (b ++ replicate (padding (length b)) 0)
  pub uint32_array : (ns : List ℕ) → xdr_of (VUint32Array ns) ≡ pack_big_endian 4 (length ns) ++ pack_big_endian_seq 4 ns
  pub uint64_array : (ns : List ℕ) → xdr_of (VUint64Array ns) ≡ pack_big_endian 4 (length ns) ++ pack_big_endian_seq 8 ns
  pub case : (c : ℕ) (v : Val) → xdr_of (VCase c v) ≡ pack_big_endian 4 c ++ xdr_of v
  pub no_parts : xdr_of_all vnil ≡ []
  pub parts : (v : Val) (vs : Vals) → xdr_of_all (vcons v vs) ≡ xdr_of v ++ xdr_of_all vs
  -- 0 to 3 bytes, up to a multiple of four
  pub padded : (n : ℕ) → (padding n ≤ 3) × ((n + padding n) % 4 ≡ 0)
  -- numbers one behind the other, in their order
  pub no_numbers : (w : ℕ) → pack_big_endian_seq w [] ≡ []
  pub numbers : (w n : ℕ) (ns : List ℕ) → pack_big_endian_seq w (n ∷ ns) ≡ pack_big_endian w n ++ pack_big_endian_seq w ns
  -- at every width the first byte is the most significant, and the bytes of a number are the only ones with that sum
  pub no_bytes : (bs : List ℕ) → 0 ≡ unpack_big_endian 0 bs
  pub next_byte : (w : ℕ) (bs : List ℕ) → w < length bs → get_or bs w 0 + unpack_big_endian w bs * 256 ≡ unpack_big_endian (w + 1) bs
  pub sum : (a b c d : ℕ) → unpack_big_endian 4 (a ∷ b ∷ c ∷ d ∷ []) ≡ a * 0x1_00_00_00 + b * 0x1_00_00 + c * 0x1_00 + d
  pub packs : (w n : ℕ) → n < 256 ^ w → (length (pack_big_endian w n) ≡ w) × (unpack_big_endian w (pack_big_endian w n) ≡ n)
  pub only : (w n : ℕ) (bs : List ℕ) → Bytes bs → length bs ≡ w → unpack_big_endian w bs ≡ n → bs ≡ pack_big_endian w n
  -- what may be written may be exported: the XDR size is never above `SizeOfV`
  pub smaller : (v : Val) → xdr_size v ≤ SizeOfV v
  -- a store as long as the XDR is enough
  pub arrays_within : (v : Val) → length (store_of v) ≤ xdr_size v

-- d is the XDR bytes of the value v of the grammar, which has fewer than 2^32 rows. Of more rows a 4-byte count would not tell
pub record XdrOf (g d : List ℕ) (v : Val) : Type 0 where
  pub value : ValueOfGrammar g v
  pub rows : row_count v < 2 ^ 32
  pub bytes : d ≡ xdr_of v

-- `import_xdr` was called with a grammar that passes, bytes that 6 lets through, whatever rows, and a store that 6 lets through, and its
-- contract allows the answer r and these rows and this store at exit
pub record Import (g d rows store : List ℕ) (r : Result Imported Refusal) (rows₁ store₁ : List ℕ) : Type 0 where
  pub grammar : Grammar g
  pub bytes : Bytes d
  pub short : length d ≤ 1048576
  pub lent : length store ≤ 1048576
  pub call : Imports (import_of g d (capacity_of (length rows)) (length store)) r rows store rows₁ store₁

-- a value fits the rows and the store that are lent
abbrev pub RowsFit : List ℕ → Val → Type 0
RowsFit rows v = row_count v ≤ capacity_of (length rows)

abbrev pub StoreFits : List ℕ → Val → Type 0
StoreFits store v = length (store_of v) ≤ length store

-- what an accepted import leaves: the rows and the store of v, and everything else as it was
pub record Brought (g d rows store : List ℕ) (k : Counts) (rows₁ store₁ : List ℕ) (v : Val) : Type 0 where
  pub of_xdr : XdrOf g d v
  pub count : k.rows ≡ row_count v
  pub used : k.used ≡ length (store_of v)
  pub walked : walk rows₁ k.rows store₁ ≡ accepted v
  -- "fills lent rows and a lent store, whose only changed bytes are the arrays', packed from place 0 one behind the other"
  pub layout : take (row_width * k.rows) rows₁ ≡ rows_in v 0
  -- so the sizes in the rows are the record's: of 4 bytes a row more than the XDR's at most, and a value may be too long to be written
  pub most : SizeOfV v ≤ 1064960
  pub arrays : take k.used store₁ ≡ store_of v
  pub rows_kept : drop (row_width * k.rows) rows₁ ≡ drop (row_width * k.rows) rows
  pub store_kept : drop k.used store₁ ≡ drop k.used store
  pub words : length rows₁ ≡ length rows
  pub bytes : length store₁ ≡ length store
  pub only : (u : Val) → XdrOf g d u → u ≡ v

-- "Import reads whole": it accepts exactly the XDR bytes of the values of the grammar that fit the rows and the store, and hands out the only
-- one. One that refuses all fails from right to left
abbrev pub ImportsExactly : Type 0
ImportsExactly =
    (g d rows store rows₁ store₁ : List ℕ) (r : Result Imported Refusal) → Import g d rows store r rows₁ store₁
    → (((k : Counts) × (imported_of r ≡ accepted k)) ↔ ((v : Val) × XdrOf g d v × RowsFit rows v × StoreFits store v))
    × ((k : Counts) → imported_of r ≡ accepted k → (v : Val) × Brought g d rows store k rows₁ store₁ v)

-- XDR bytes of a value that does not fit: 8 where only the rows are too few, 17 at the store's length where only the store is too short, one of
-- the two where both are
abbrev pub TooLittleLent : Type 0
TooLittleLent =
    (g d rows store rows₁ store₁ : List ℕ) (r : Result Imported Refusal) → Import g d rows store r rows₁ store₁ → (v : Val) → XdrOf g d v
    → (capacity_of (length rows) < row_count v → StoreFits store v → (place : ℕ) × (imported_of r ≡ refused (reason 8 (byte place))))
    × (RowsFit rows v → length store < length (store_of v) → imported_of r ≡ refused (reason 17 (byte (length store))))
    × (capacity_of (length rows) < row_count v → length store < length (store_of v) → ((place : ℕ) × (imported_of r ≡ refused (reason 8 (byte place)))) ⊎ (imported_of r ≡ refused (reason 17 (byte (length store)))))

-- "Under one grammar, with rows enough and a store that is enough and passes 6, exporting and importing gives an equal value": `export_xdr` was
-- accepted at an index of an output; v is the value of its rows; what was put there is imported, and the rows and the store that are filled
-- stand for v. An export that is never accepted would leave it empty: `examples_hold` of `exporting` has accepted ones
abbrev pub ExportThenImport : Type 0
ExportThenImport =
    (g t s out after : List ℕ) (n index size : ℕ) (w : Result ℕ Refusal) → Below (2 ^ 32) g → Below (2 ^ 64) t → Bytes s
    → Exports (export_of g t n s (length out) index) index w out after → outcome_of w ≡ accepted size
    → (v : Val) × (walk t n s ≡ accepted v)
    × ((rows store rows₁ store₁ : List ℕ) (r : Result Imported Refusal) → n ≤ capacity_of (length rows) → StoreFits store v → length store ≤ 1048576
    → Imports (import_of g (take size (drop index after)) (capacity_of (length rows)) (length store)) r rows store rows₁ store₁
    → (imported_of r ≡ accepted (record { rows = n; used = length (store_of v) })) × (walk rows₁ n store₁ ≡ accepted v))

-- "and what import accepts exports to the same bytes where the output is long enough": at whatever index. An import that is never accepted
-- would leave it empty, and fails `ImportsExactly`
abbrev pub ImportThenExport : Type 0
ImportThenExport =
    (g d rows store rows₁ store₁ : List ℕ) (r : Result Imported Refusal) → Import g d rows store r rows₁ store₁
    → (k : Counts) → imported_of r ≡ accepted k
    → (out : List ℕ) (index : ℕ) → index + length d ≤ length out
    → (w : Result ℕ Refusal) (after : List ℕ) → Exports (export_of g rows₁ k.rows store₁ (length out) index) index w out after → (outcome_of w ≡ accepted (length d)) × PutThere d out index after

-- 9, 17 and 23 "at an array", in the request's order: of every array of numbers, wherever it starts, in any bytes and for any store. `AtArray`
-- has the words and leaves out no case
abbrev pub OrderAtArray : Type 0
OrderAtArray = (capacity len : ℕ) (d : List ℕ) (k : Elements) (s : Filling) → AtArray capacity len d k s

pub record Xdr : Type 0 where
  pub rule : XdrRule
  pub imports_exactly : ImportsExactly
  pub too_little_lent : TooLittleLent
  pub order_at_array : OrderAtArray
  pub export_then_import : ExportThenImport
  pub import_then_export : ImportThenExport
