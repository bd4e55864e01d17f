-- PackedInts' own text: its equations hold of the definitions, and its methods' clauses of what the calls do.
use Rattle.std.proofs.Common.{◌≡◌, refl, ap, sym, ◌∙◌, List, [], ◌∷◌, ◌++◌, append_assoc, append-nil, ℕ, suc, ◌+◌, ◌-◌, ◌*◌, ◌^◌, ◌<◌, ◌≤◌, arith, length, get_or, take, drop, length-append, get_or-take, get_or-drop, take_at, drop_at, length-take-le}
use Rattle.packed.specs.Packed.{Below, unpack_little_endian, unpack_little_endian_seq, pack_little_endian, pack_little_endian_seq, put}
use Rattle.packed.proofs.Laws.{length_pack, unpack_packed, length_pack_seq, length_unpack_seq, get_d_unpack_seq, unpack_seq_pack_seq}

-- unpack_LittleEndian_Uint32
pub unpack_uint32 : (s : List ℕ) → unpack_little_endian 4 s ≡ get_or s 0 0 + get_or s 1 0 * 0x1_00 + get_or s 2 0 * 0x1_00_00 + get_or s 3 0 * 0x1_00_00_00
unfolding unpack_little_endian
unpack_uint32 s = omega arith

-- unpack_LittleEndian_Uint64
pub unpack_uint64 : (s : List ℕ) → unpack_little_endian 8 s ≡ get_or s 0 0 + get_or s 1 0 * 0x1_00 + get_or s 2 0 * 0x1_00_00 + get_or s 3 0 * 0x1_00_00_00 + get_or s 4 0 * 0x1_00_00_00_00 + get_or s 5 0 * 0x1_00_00_00_00_00 + get_or s 6 0 * 0x1_00_00_00_00_00_00 + get_or s 7 0 * 0x1_00_00_00_00_00_00_00
unfolding unpack_little_endian
unpack_uint64 s = omega arith

-- both sums cut after their first summands, 1 to 3 of the one and 1 to 7 of the other: what unpacking holds after as many bytes
pub unpack_cut : (s : List ℕ) →
    (unpack_little_endian 1 s ≡ get_or s 0 0)
    × (unpack_little_endian 2 s ≡ get_or s 0 0 + get_or s 1 0 * 0x1_00)
    × (unpack_little_endian 3 s ≡ get_or s 0 0 + get_or s 1 0 * 0x1_00 + get_or s 2 0 * 0x1_00_00)
    × (unpack_little_endian 4 s ≡ get_or s 0 0 + get_or s 1 0 * 0x1_00 + get_or s 2 0 * 0x1_00_00 + get_or s 3 0 * 0x1_00_00_00)
    × (unpack_little_endian 5 s ≡ get_or s 0 0 + get_or s 1 0 * 0x1_00 + get_or s 2 0 * 0x1_00_00 + get_or s 3 0 * 0x1_00_00_00 + get_or s 4 0 * 0x1_00_00_00_00)
    × (unpack_little_endian 6 s ≡ get_or s 0 0 + get_or s 1 0 * 0x1_00 + get_or s 2 0 * 0x1_00_00 + get_or s 3 0 * 0x1_00_00_00 + get_or s 4 0 * 0x1_00_00_00_00 + get_or s 5 0 * 0x1_00_00_00_00_00)
    × (unpack_little_endian 7 s ≡ get_or s 0 0 + get_or s 1 0 * 0x1_00 + get_or s 2 0 * 0x1_00_00 + get_or s 3 0 * 0x1_00_00_00 + get_or s 4 0 * 0x1_00_00_00_00 + get_or s 5 0 * 0x1_00_00_00_00_00 + get_or s 6 0 * 0x1_00_00_00_00_00_00)
unfolding unpack_little_endian
unpack_cut s = (omega arith, omega arith, omega arith, omega arith, omega arith, omega arith, omega arith)

-- unpack_LittleEndian_Uint32_Seq at w = 4, unpack_LittleEndian_Uint64_Seq at w = 8: the body, where len is 0 and where it is not
pub unpack_seq_none : (w : ℕ) (packed : List ℕ) → unpack_little_endian_seq w packed 0 ≡ []
unfolding unpack_little_endian_seq
unpack_seq_none w packed = refl

pub unpack_seq_more : (w : ℕ) (packed : List ℕ) (len : ℕ) → unpack_little_endian_seq w packed (suc len) ≡ unpack_little_endian_seq w (take (w * len) packed) len ++ (unpack_little_endian w (take w (drop (w * len) packed)) ∷ [])
unfolding unpack_little_endian_seq
unpack_seq_more w packed len = refl

-- their clauses
pub unpack_seq_length : (w : ℕ) (packed : List ℕ) (len : ℕ) → length (unpack_little_endian_seq w packed len) ≡ len
unpack_seq_length = length_unpack_seq

pub unpack_seq_element : (w : ℕ) (packed : List ℕ) (len i : ℕ) → i < len → get_or (unpack_little_endian_seq w packed len) i 0 ≡ unpack_little_endian w (take w (drop (w * i) packed))
unpack_seq_element w packed len i h = get_d_unpack_seq w len packed i h

-- the clauses of the packers, of an output with bs put at the index: every byte before and behind is as it was
module _ (out : List ℕ) (index : ℕ) (bs : List ℕ) (h : index + length bs ≤ length out) where
  front : length (take index out) ≡ index
  front = length-take-le index out (omega arith)

  pub put-before : (j : ℕ) → j < index → get_or (put out index bs) j 0 ≡ get_or out j 0
  unfolding put
  put-before j l =
      let e : take index (take index out ++ (bs ++ drop (index + length bs) out)) ≡ take index out = take_at (take index out) (bs ++ drop (index + length bs) out) index front in
      sym (get_or-take index (take index out ++ (bs ++ drop (index + length bs) out)) j 0 l) ∙ ap (λ (x : List ℕ). get_or x j 0) e ∙ get_or-take index out j 0 l

  pub put-behind : (j : ℕ) → index + length bs ≤ j → get_or (put out index bs) j 0 ≡ get_or out j 0
  unfolding put
  put-behind j l =
      let m : length (take index out ++ bs) ≡ index + length bs = rw (length-append, front) in
      let e : drop (index + length bs) (take index out ++ (bs ++ drop (index + length bs) out)) ≡ drop (index + length bs) out =
      ap (drop (index + length bs)) (sym (append_assoc (take index out) bs (drop (index + length bs) out))) ∙ drop_at (take index out ++ bs) (drop (index + length bs) out) (index + length bs) m in
      let k : (x : List ℕ) → get_or (drop (index + length bs) x) (j - (index + length bs)) 0 ≡ get_or x j 0 = λ x. get_or-drop (index + length bs) x (j - (index + length bs)) 0 ∙ ap (λ (i : ℕ). get_or x i 0) (omega arith) in
      sym (k (take index out ++ (bs ++ drop (index + length bs) out))) ∙ ap (λ (x : List ℕ). get_or x (j - (index + length bs)) 0) e ∙ k out

  -- ar[index .. index + size]
  pub put-there : take (length bs) (drop index (put out index bs)) ≡ bs
  unfolding put
  put-there = ap (take (length bs)) (drop_at (take index out) (bs ++ drop (index + length bs) out) index front) ∙ take_at bs (drop (index + length bs) out) (length bs) refl

-- Pack_LittleEndian_Uint32_into_Array and .._Uint64_..: what was put unpacks to the number
pub unpack_put : (w n : ℕ) (out : List ℕ) (index : ℕ) → n < 256 ^ w → index + w ≤ length out → unpack_little_endian w (take w (drop index (put out index (pack_little_endian w n)))) ≡ n
unpack_put w n out index below h =
    let l : length (pack_little_endian w n) ≡ w = length_pack w n in
    let t : take w (drop index (put out index (pack_little_endian w n))) ≡ pack_little_endian w n =
    ap (λ (k : ℕ). take k (drop index (put out index (pack_little_endian w n)))) (sym l) ∙ put-there out index (pack_little_endian w n) (omega arith) in
    ap (unpack_little_endian w) t ∙ unpack_packed w n below

-- Pack_LittleEndian_Uint32_Seq_into_Array and .._Uint64_..: what was put unpacks to the numbers
pub unpack_seq_put : (w : ℕ) (ns out : List ℕ) (index : ℕ) → Below (256 ^ w) ns → index + w * length ns ≤ length out → unpack_little_endian_seq w (take (w * length ns) (drop index (put out index (pack_little_endian_seq w ns)))) (length ns) ≡ ns
unpack_seq_put w ns out index below h =
    let l : length (pack_little_endian_seq w ns) ≡ w * length ns = length_pack_seq w ns in
    let t : take (w * length ns) (drop index (put out index (pack_little_endian_seq w ns))) ≡ pack_little_endian_seq w ns =
    ap (λ (k : ℕ). take k (drop index (put out index (pack_little_endian_seq w ns)))) (sym l) ∙ put-there out index (pack_little_endian_seq w ns) (omega arith) in
    ap (λ (x : List ℕ). unpack_little_endian_seq w x (length ns)) (t ∙ sym (append-nil (pack_little_endian_seq w ns))) ∙ unpack_seq_pack_seq w ns [] below
