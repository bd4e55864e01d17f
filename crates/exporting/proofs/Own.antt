-- XDR by rows: a value's XDR bytes are its rows' own, and its XDR size is the sum of their own sizes, each of which is bounded.
use Rattle.std.proofs.Common.{◌≡◌, refl, ap, sym, ◌∙◌, List, [], append-nil, ℕ, ◌+◌, ◌*◌, ◌≤◌, ◌<◌, arith, length, take, drop, length-append, length-drop, length-take-le, leb-true}
use Rattle.big_endian.specs.BigEndian.{pack_big_endian_seq, reverse_each}
use Rattle.big_endian.proofs.Laws.{length_pack_big, length-reverse_each, reverse_each_pack_seq}
use Rattle.packed.specs.Packed.{pack_little_endian_seq}
use Rattle.value.specs.Kinds.{width, element_width, Kind, kind_of, constant, number, array, tuple, elements, union, other}
use Rattle.value.specs.Tree.{Val}
use Rattle.tables.specs.Row.{Row, row_at}
use Rattle.rows.specs.Layout.{own_row}
use Rattle.rows.specs.Rule.{TableOf}
use Rattle.rows.specs.Size.{own_size, most_own_size, of_row, own_from, sum_from}
use Rattle.rows.proofs.Loop.{Sized}
use Rattle.rows.proofs.Spelling.{Spelling, table_own, table-sum}
use Rattle.rows.proofs.Size.{table-small}
use Rattle.xdr.specs.Xdr.{xdr_of, xdr_of_all, xdr_size}
use Rattle.xdr.proofs.Sizes.{padding-few, length-padded}
use Rattle.exporting.specs.Own.{own_xdr, own_xdr_size}

pub length-own_xdr : Sized own_xdr own_xdr_size
unfolding own_xdr
length-own_xdr constant r s h = refl
length-own_xdr (number k) r s h = length_pack_big (width k) r.word2
length-own_xdr array r s h = length_pack_big 4 r.word2
length-own_xdr tuple r s h = refl
length-own_xdr (elements k) r s h =
    let n = element_width k * r.word2 in
    let f = leb-true (r.word3 + n) (length s) h in
    let l : length (take n (drop r.word3 s)) ≡ n = length-take-le n (drop r.word3 s) (rw length-drop (omega arith)) in
    let e : length (reverse_each (element_width k) (take n (drop r.word3 s)) r.word2) ≡ n = length-reverse_each (element_width k) r.word2 (take n (drop r.word3 s)) (omega arith) in
    rw (length-append, length_pack_big, length-padded (reverse_each (element_width k) (take n (drop r.word3 s)) r.word2), e)
length-own_xdr union r s h = length_pack_big 4 r.word2
length-own_xdr other r s h = refl

-- elements that lie packed, each turned round
turned : (w : ℕ) (ns : List ℕ) → reverse_each w (pack_little_endian_seq w ns) (length ns) ≡ pack_big_endian_seq w ns
turned w ns = ap (λ (bs : List ℕ). reverse_each w bs (length ns)) (sym (append-nil (pack_little_endian_seq w ns))) ∙ reverse_each_pack_seq w ns []

-- XDR is a spelling
pub xdr_spelling : Spelling own_xdr xdr_of xdr_of_all
unfolding own_row own_xdr xdr_of
xdr_spelling = record {
  of_constant = λ place s. refl;
  of_number = λ k n place s. refl;
  of_array = λ vs place s. refl;
  of_tuple = λ vs place s. refl;
  of_number_array = λ k ns place s h. rw (h.bytes, turned (element_width k) ns);
  of_case = λ c v place s. refl;
  of_none = refl;
  of_more = λ v vs. refl;
}

-- no row has more bytes in XDR than in a record
own_below : (k : Kind) (r : Row) → own_xdr_size k r ≤ own_size k r
own_below constant r = omega arith
own_below (number k) r = omega arith
own_below array r = omega arith
own_below tuple r = omega arith
own_below (elements k) r = omega (arith, padding-few (element_width k * r.word2))
own_below union r = omega arith
own_below other r = omega arith

module _ (t : List ℕ) (n : ℕ) (s : List ℕ) (v : Val) (h : TableOf t n s v) where
  pub xdr_small : (j : ℕ) → j < n → of_row own_xdr_size t j ≤ most_own_size
  xdr_small j l = omega (arith, own_below (kind_of (row_at t j).kind) (row_at t j), table-small t n s v h j l)

  pub xdr_bytes : own_from own_xdr t s 0 n ≡ xdr_of v
  xdr_bytes = table_own xdr_spelling t n s v h

  pub xdr_size_lem : sum_from own_xdr_size t 0 n ≡ xdr_size v
  xdr_size_lem = table-sum xdr_spelling t n s v h own_xdr_size length-own_xdr
