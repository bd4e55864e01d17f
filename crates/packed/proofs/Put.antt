-- Bytes put into an output at an index, as a loop puts them.
use Rattle.std.proofs.Common.{◌≡◌, sym, ap, ◌∙◌, List, [], ◌∷◌, ◌++◌, append_assoc, append-nil, ℕ, suc, ◌+◌, ◌-◌, ◌*◌, ◌≤◌, ◌<◌, add-zero, add_assoc, mul-suc, mul-le-mul_left, add-one, arith, length, get_or, set, take, drop, length-append, length-drop, take-append-drop, drop_of_length-le, take-suc, take_at, drop_at, length-take-le, drop-drop}
use Rattle.std.proofs.Math.Seq.{set_split}
use Rattle.packed.specs.Packed.{put, pack_little_endian, pack_little_endian_seq, unpack_little_endian_seq}
use Rattle.packed.specs.Steps.{Summed, PutSoFar, UnpackedTo, PackedTo}
use Rattle.packed.proofs.Laws.{length_pack, length_pack_seq, pack_seq_append, pack_seq_one, length_unpack_seq, unpack_seq_snoc}

pub length-put : (out : List ℕ) (index : ℕ) (bs : List ℕ) → index + length bs ≤ length out → length (put out index bs) ≡ length out
unfolding put
length-put out index bs h = rw (length-append, length-append, length-take-le index out (omega arith), length-drop) (omega arith)

pub put-nothing : (out : List ℕ) (index : ℕ) → put out index [] ≡ out
unfolding put
put-nothing out index = rw (add-zero index, take-append-drop)

-- the bytes that stand there
pub put_same : (out : List ℕ) (index i : ℕ) → index + i ≤ length out → put out index (take i (drop index out)) ≡ out
unfolding put
put_same out index i h =
    let l : length (take i (drop index out)) ≡ i = length-take-le i (drop index out) (rw length-drop (omega arith)) in
    rw (l, sym (drop-drop i index out), take-append-drop, take-append-drop)

-- bytes that fill the whole output
pub put_whole : (out bs : List ℕ) → length bs ≡ length out → put out 0 bs ≡ bs
unfolding put
put_whole out bs h = rw (drop_of_length-le out {i = 0 + length bs} (omega arith)) (append-nil bs)

put_one : (out : List ℕ) (index b : ℕ) → index < length out → set out index b ≡ put out index (b ∷ [])
unfolding put
put_one out index b h = let e : index + 1 ≡ suc index = omega arith in rw (set_split out index b h, e)

-- bytes put right behind bytes
pub put_more : (out : List ℕ) (index : ℕ) (xs ys : List ℕ) (k : ℕ) → k ≡ index + length xs → index + length xs + length ys ≤ length out → put (put out index xs) k ys ≡ put out index (xs ++ ys)
unfolding put
put_more out index xs ys k e h =
    let m : length (take index out ++ xs) ≡ k = rw (length-append, length-take-le index out (omega arith)) (sym e) in
    let s : take index out ++ (xs ++ drop (index + length xs) out) ≡ (take index out ++ xs) ++ drop (index + length xs) out = sym (append_assoc (take index out) xs (drop (index + length xs) out)) in
    let d : drop (k + length ys) (take index out ++ (xs ++ drop (index + length xs) out)) ≡ drop (index + length (xs ++ ys)) out =
    sym (drop-drop (length ys) k (take index out ++ (xs ++ drop (index + length xs) out)))
    ∙ ap (drop (length ys)) (ap (drop k) s ∙ drop_at (take index out ++ xs) (drop (index + length xs) out) k m)
    ∙ drop-drop (length ys) (index + length xs) out
    ∙ rw (length-append, add_assoc) in
    let t : take k (take index out ++ (xs ++ drop (index + length xs) out)) ≡ take index out ++ xs = ap (take k) s ∙ take_at (take index out ++ xs) (drop (index + length xs) out) k m in
    rw (t, d, append_assoc, append_assoc)

-- bytes put over bytes, as many or more
pub put-over : (out : List ℕ) (index : ℕ) (xs ys : List ℕ) → length xs ≤ length ys → index + length ys ≤ length out → put (put out index xs) index ys ≡ put out index ys
unfolding put
put-over out index xs ys s h =
    let f : length (take index out) ≡ index = length-take-le index out (omega arith) in
    let m : length (take index out ++ xs) ≡ index + length xs = rw (length-append, f) in
    let k : ℕ = length ys - length xs in
    let e : index + length ys ≡ index + length xs + k = omega arith in
    let d : drop (index + length ys) (take index out ++ (xs ++ drop (index + length xs) out)) ≡ drop (index + length ys) out =
    rw (e, sym (append_assoc (take index out) xs (drop (index + length xs) out)), sym (drop-drop k (index + length xs) out), sym (drop-drop k (index + length xs) ((take index out ++ xs) ++ drop (index + length xs) out)), drop_at (take index out ++ xs) (drop (index + length xs) out) (index + length xs) m) in
    rw (take_at (take index out) (xs ++ drop (index + length xs) out) index f, d)

-- a loop that stores one element a turn: i are put, and the next is the one behind them
pub put_next : (out now : List ℕ) (index i b : ℕ) (bs : List ℕ) → now ≡ put out index bs → length bs ≡ i → index + i < length out → set now (index + i) b ≡ put out index (bs ++ (b ∷ []))
put_next out now index i b bs e l h =
    let n : length (put out index bs) ≡ length out = length-put out index bs (omega arith) in
    rw e (put_one (put out index bs) (index + i) b (omega arith) ∙ put_more out index bs (b ∷ []) (index + i) (omega arith) (omega arith))

-- a loop that copies: after i elements exactly the first i are put
pub copy_next : (out now : List ℕ) (index : ℕ) (src : List ℕ) (i : ℕ) → now ≡ put out index (take i src) → i < length src → index + length src ≤ length out → set now (index + i) (get_or src i 0) ≡ put out index (take (i + 1) src)
copy_next out now index src i e l h =
    put_next out now index i (get_or src i 0) (take i src) e (length-take-le i src (omega arith)) (omega arith) ∙ rw (add-one, take-suc src i 0 l)

-- a loop that unpacks numbers into the front of a slice
pub unpack_seq_next : (w : ℕ) (s numbers now : List ℕ) (index i v : ℕ) → UnpackedTo w s index numbers i now → i < length numbers → Summed s (index + w * i) w v → UnpackedTo w s index numbers (i + 1) (set now i v)
unpack_seq_next w s numbers now index i v e l f =
    let z : i ≡ 0 + i = omega arith in
    ap (λ (k : ℕ). set now k v) z
    ∙ put_next numbers now 0 i v (unpack_little_endian_seq w (drop index s) i) e (length_unpack_seq w (drop index s) i) (omega arith)
    ∙ rw (add-one, unpack_seq_snoc, drop-drop, f)

-- a loop that packs numbers one behind the other
pub pack_seq_next : (w : ℕ) (out now next : List ℕ) (index i : ℕ) (ns : List ℕ) → i < length ns → index + w * length ns ≤ length out → PackedTo w ns out index i now → PutSoFar (get_or ns i 0) now (index + w * i) w next → PackedTo w ns out index (i + 1) next
pack_seq_next w out now next index i ns h f e g =
    let l : length (pack_little_endian_seq w (take i ns)) ≡ w * i = length_pack_seq w (take i ns) ∙ ap (λ (k : ℕ). w * k) (length-take-le i ns (omega arith)) in
    let m : w * suc i ≤ w * length ns = mul-le-mul_left w h in
    let n : w * suc i ≡ w * i + w = mul-suc w i in
    let p : length (pack_little_endian w (get_or ns i 0)) ≡ w = length_pack w (get_or ns i 0) in
    let s : next ≡ put out index (pack_little_endian_seq w (take i ns) ++ pack_little_endian w (get_or ns i 0)) =
    g ∙ rw e (put_more out index (pack_little_endian_seq w (take i ns)) (pack_little_endian w (get_or ns i 0)) (index + w * i) (omega arith) (omega arith)) in
    s ∙ rw (add-one, take-suc ns i 0 h, pack_seq_append, pack_seq_one)
