-- How many bytes: of the padding, of the XDR bytes beside those of the record and of the store.
use Rattle.std.proofs.Common.{◌≡◌, List, append-nil, ℕ, ◌+◌, ◌*◌, ◌%◌, ◌≤◌, mul_assoc, arith, length, length-append}
use Rattle.std.proofs.Math.ListN.{length-replicate}
use Rattle.packed.proofs.Laws.{length_pack_seq}
use Rattle.big_endian.specs.BigEndian.{pack_big_endian_seq}
use Rattle.big_endian.proofs.Laws.{length_pack_big, length_pack_big_seq}
use Rattle.value.specs.Kinds.{width, Elements, element_width}
use Rattle.value.specs.Tree.{Val, Vals, VConstant, VNumber, VArray, VTuple, VNumberArray, VCase, vnil, vcons, SizeOfV, SeqSum, row_count, row_counts}
use Rattle.xdr.specs.Xdr.{padding, padded, xdr_of, xdr_of_all, xdr_size, store_of, store_of_all}

pub padding-few : (n : ℕ) → padding n ≤ 3
unfolding padding
padding-few n = omega arith

-- up to a multiple of four
pub padding-four : (n : ℕ) → (n + padding n) % 4 ≡ 0
unfolding padding
padding-four n = omega arith

-- a multiple of four needs none
pub padding-none : (n : ℕ) → padding (4 * n) ≡ 0
unfolding padding
padding-none n = omega arith

pub length-padded : (bs : List ℕ) → length (padded bs) ≡ length bs + padding (length bs)
unfolding padded
length-padded bs = rw (length-append, length-replicate)

-- numbers of a multiple of four bytes have none behind them
pub padded-numbers : (m : ℕ) (ns : List ℕ) → padded (pack_big_endian_seq (4 * m) ns) ≡ pack_big_endian_seq (4 * m) ns
unfolding padded
padded-numbers m ns =
    let e : 4 * m * length ns ≡ 4 * (m * length ns) = mul_assoc 4 m (length ns) in
    rw (length_pack_big_seq, e, padding-none (m * length ns), append-nil)

-- a count and the elements behind it
pub length-elements : (k : Elements) (ns : List ℕ) → xdr_size (VNumberArray k ns) ≡ 4 + (element_width k * length ns + padding (element_width k * length ns))
unfolding xdr_of
length-elements k ns = rw (length-append, length_pack_big, length-padded (pack_big_endian_seq (element_width k) ns), length_pack_big_seq)

-- what lies in the store is no more than the XDR bytes, these no more than the record's, and the record's at most 4 a row more
pub record Sizes (store xdr size rows : ℕ) : Type 0 where
  pub inner : store ≤ xdr
  pub outer : xdr ≤ size
  pub near : size ≤ xdr + 4 * rows

mutual
  unfolding xdr_of store_of SizeOfV row_count

  pub sizes : (v : Val) → Sizes (length (store_of v)) (xdr_size v) (SizeOfV v) (row_count v)
  sizes VConstant = record { inner = omega arith; outer = omega arith; near = omega arith }
  sizes (VNumber k n) = rw (length_pack_big (width k) n) (record { inner = omega arith; outer = omega arith; near = omega arith })
  sizes (VArray vs) = let x = sizes-all vs in rw (length-append, length_pack_big) (record { inner = omega arith; outer = omega arith; near = omega arith })
  sizes (VTuple vs) = let x = sizes-all vs in record { inner = omega arith; outer = omega arith; near = omega arith }
  sizes (VNumberArray k ns) =
      let x = padding-few (element_width k * length ns) in
      rw (length-elements k ns, length_pack_seq) (record { inner = omega arith; outer = omega arith; near = omega arith })
  sizes (VCase c v) = let x = sizes v in rw (length-append, length_pack_big) (record { inner = omega arith; outer = omega arith; near = omega arith })

  sizes-all : (vs : Vals) → Sizes (length (store_of_all vs)) (length (xdr_of_all vs)) (SeqSum vs) (row_counts vs)
  sizes-all vnil = record { inner = omega arith; outer = omega arith; near = omega arith }
  sizes-all (vcons v vs) = let x = sizes v in let y = sizes-all vs in rw (length-append (store_of v) (store_of_all vs), length-append (xdr_of v) (xdr_of_all vs)) (record { inner = omega arith; outer = omega arith; near = omega arith })
