-- The laws of bytes most byte first, once for every width, from those of PackedInts.
use Rattle.std.proofs.Common.{◌≡◌, refl, ap, sym, ◌∙◌, List, [], ◌∷◌, ◌++◌, append_assoc, reverse, ℕ, zero, suc, ◌+◌, ◌-◌, ◌*◌, ◌/◌, ◌^◌, ◌<◌, ◌≤◌, suc-le-suc, mul-suc, mul-zero, add_comm, mod-eq_of_lt, le_refl, div-one, arith, length, take, drop, length-append, length-drop, lit<, take_all, take-take, take-add, take_at, drop_at, length-take-le}
use Rattle.std.proofs.Math.ListN.{length-reverse}
use Rattle.std.proofs.Math.Seq.{take-nil, take-length}
use mathlib.Core.List.{reverse_aux, reverse-reverse}
use Rattle.packed.specs.Packed.{Bytes, Below, unpack_little_endian, pack_little_endian, pack_little_endian_seq}
use Rattle.packed.proofs.Laws.{bytes_take, bytes_drop, unpack_below, length_pack, pack_bytes, unpack_packed, pack_unpack}
use Rattle.big_endian.specs.BigEndian.{pack_big_endian, unpack_big_endian, pack_big_endian_seq, unpack_big_endian_seq, reverse_each}

-- ---- lists

bytes_cons : (b : ℕ) (bs : List ℕ) → b < 256 → Bytes bs → Bytes (b ∷ bs)
bytes_cons b bs h k zero = h
bytes_cons b bs h k (suc j) = k j

bytes_reverse_aux : (xs ys : List ℕ) → Bytes xs → Bytes ys → Bytes (reverse_aux xs ys)
bytes_reverse_aux [] ys h k = k
bytes_reverse_aux (x ∷ xs) ys h k = bytes_reverse_aux xs (x ∷ ys) (λ j. h (suc j)) (bytes_cons x ys (h 0) k)

pub bytes-reverse : (bs : List ℕ) → Bytes bs → Bytes (reverse bs)
bytes-reverse bs h = bytes_reverse_aux bs [] h (λ j. lit< tt)

drop-take : (n m : ℕ) (l : List ℕ) → drop n (take m l) ≡ take (m - n) (drop n l)
drop-take zero m l = let e : m - 0 ≡ m = omega arith in rw e
drop-take (suc n) zero l = let e : 0 - suc n ≡ 0 = omega arith in rw e
drop-take (suc n) (suc m) [] = sym (take-nil (suc m - suc n))
drop-take (suc n) (suc m) (x ∷ l) = let e : suc m - suc n ≡ m - n = omega arith in rw e (drop-take n m l)

-- ---- one number

pub length_pack_big : (w n : ℕ) → length (pack_big_endian w n) ≡ w
unfolding pack_big_endian
length_pack_big w n = length-reverse (pack_little_endian w n) ∙ length_pack w n

pub pack_big_bytes : (w n : ℕ) → Bytes (pack_big_endian w n)
unfolding pack_big_endian
pack_big_bytes w n = bytes-reverse (pack_little_endian w n) (pack_bytes w n)

pub unpack_big_below : (w : ℕ) (s : List ℕ) → Bytes s → unpack_big_endian w s < 256 ^ w
unfolding unpack_big_endian
unpack_big_below w s h = unpack_below w (reverse (take w s)) (bytes-reverse (take w s) (bytes_take w s h))

-- only the first w bytes count
pub unpack_big_take : (w m : ℕ) (s : List ℕ) → w ≤ m → unpack_big_endian w (take m s) ≡ unpack_big_endian w s
unfolding unpack_big_endian
unpack_big_take w m s h = rw (take-take w m s h)

pub unpack_big_packed : (w n : ℕ) (rest : List ℕ) → n < 256 ^ w → unpack_big_endian w (pack_big_endian w n ++ rest) ≡ n
unfolding unpack_big_endian pack_big_endian
unpack_big_packed w n rest h =
    ap (λ (bs : List ℕ). unpack_little_endian w (reverse bs)) (take_at (pack_big_endian w n) rest w (length_pack_big w n))
    ∙ ap (unpack_little_endian w) (reverse-reverse (pack_little_endian w n))
    ∙ unpack_packed w n h

pub pack_big_unpack : (w : ℕ) (s : List ℕ) → Bytes s → w ≤ length s → pack_big_endian w (unpack_big_endian w s) ≡ take w s
unfolding pack_big_endian unpack_big_endian
pack_big_unpack w s h l =
    let k : length (reverse (take w s)) ≡ w = length-reverse (take w s) ∙ length-take-le w s l in
    ap reverse (pack_unpack w (reverse (take w s)) (bytes-reverse (take w s) (bytes_take w s h)) (omega arith) ∙ take_all w (reverse (take w s)) (omega arith))
    ∙ reverse-reverse (take w s)

-- unpacked most byte first and packed least byte first
pub pack_unpack_big : (w : ℕ) (s : List ℕ) → Bytes s → w ≤ length s → pack_little_endian w (unpack_big_endian w s) ≡ reverse (take w s)
unfolding pack_big_endian
pack_unpack_big w s h l = sym (reverse-reverse (pack_little_endian w (unpack_big_endian w s))) ∙ ap reverse (pack_big_unpack w s h l)

-- RFC 4506, sections 4.1 and 4.2: of four bytes the first is the most significant
pub unpack_big_sum : (a b c d : ℕ) (rest : List ℕ) → unpack_big_endian 4 (a ∷ b ∷ c ∷ d ∷ rest) ≡ a * 0x1_00_00_00 + b * 0x1_00_00 + c * 0x1_00 + d
unfolding unpack_big_endian unpack_little_endian
unpack_big_sum a b c d rest = omega arith

-- ---- numbers one behind the other

pub length_pack_big_seq : (w : ℕ) (ns : List ℕ) → length (pack_big_endian_seq w ns) ≡ w * length ns
unfolding pack_big_endian_seq
length_pack_big_seq w [] = sym (mul-zero w)
length_pack_big_seq w (n ∷ ns) = rw (length-append, length_pack_big, length_pack_big_seq w ns, mul-suc, add_comm w (w * length ns))

pub length_unpack_big_seq : (w : ℕ) (s : List ℕ) (n : ℕ) → length (unpack_big_endian_seq w s n) ≡ n
unfolding unpack_big_endian_seq
length_unpack_big_seq w s zero = refl
length_unpack_big_seq w s (suc n) = ap suc (length_unpack_big_seq w (drop w s) n)

pub unpack_big_seq_below : (w : ℕ) (s : List ℕ) (n : ℕ) → Bytes s → Below (256 ^ w) (unpack_big_endian_seq w s n)
unfolding unpack_big_endian_seq
unpack_big_seq_below w s zero h j l = absurd (omega arith)
unpack_big_seq_below w s (suc n) h zero l = unpack_big_below w s h
unpack_big_seq_below w s (suc n) h (suc j) l = unpack_big_seq_below w (drop w s) n (bytes_drop w s h) j (omega arith)

pub unpack_big_seq_pack_seq : (w : ℕ) (ns rest : List ℕ) → Below (256 ^ w) ns → unpack_big_endian_seq w (pack_big_endian_seq w ns ++ rest) (length ns) ≡ ns
unfolding pack_big_endian_seq unpack_big_endian_seq
unpack_big_seq_pack_seq w [] rest h = refl
unpack_big_seq_pack_seq w (n ∷ ns) rest h =
    rw (append_assoc, unpack_big_packed w n (pack_big_endian_seq w ns ++ rest) (h 0 (omega arith)), drop_at (pack_big_endian w n) (pack_big_endian_seq w ns ++ rest) w (length_pack_big w n), unpack_big_seq_pack_seq w ns rest (λ j l. h (suc j) (suc-le-suc l)))

-- w * (n + 1) bytes are w and w * n behind them
module _ (w n : ℕ) (s : List ℕ) (l : w * suc n ≤ length s) where
  first_fits : w + w * n ≤ length s
  first_fits = let e : w * suc n ≡ w * n + w = mul-suc w n in omega arith

  rest-fits : w * n ≤ length (drop w s)
  rest-fits = rw length-drop (omega (arith, first_fits))

  take-first : take (w * suc n) s ≡ take w s ++ take (w * n) (drop w s)
  take-first = let e : w * suc n ≡ w + w * n = mul-suc w n ∙ add_comm (w * n) w in rw (e, take-add)

pub pack_big_seq_unpack_seq : (w n : ℕ) (s : List ℕ) → Bytes s → w * n ≤ length s → pack_big_endian_seq w (unpack_big_endian_seq w s n) ≡ take (w * n) s
unfolding pack_big_endian_seq unpack_big_endian_seq
pack_big_seq_unpack_seq w zero s h l = rw mul-zero
pack_big_seq_unpack_seq w (suc n) s h l =
    rw (pack_big_unpack w s h (omega (arith, first_fits w n s l)), pack_big_seq_unpack_seq w n (drop w s) (bytes_drop w s h) (rest-fits w n s l), take-first w n s l)

-- bytes are numbers of one byte
pub pack_big_seq_of-bytes : (b : List ℕ) → Below 256 b → pack_big_endian_seq 1 b ≡ b
unfolding pack_big_endian_seq pack_big_endian pack_little_endian
pack_big_seq_of-bytes [] h = refl
pack_big_seq_of-bytes (n ∷ b) h = rw (mod-eq_of_lt (h 0 (omega arith)), pack_big_seq_of-bytes b (λ j l. h (suc j) (omega arith)))

-- ---- each element turned round

pub length-reverse_each : (w n : ℕ) (s : List ℕ) → w * n ≤ length s → length (reverse_each w s n) ≡ w * n
unfolding reverse_each
length-reverse_each w zero s l = sym (mul-zero w)
length-reverse_each w (suc n) s l =
    let e : w * suc n ≡ w * n + w = mul-suc w n in
    rw (length-append, length-reverse, length-take-le w s (omega (arith, first_fits w n s l)), length-reverse_each w n (drop w s) (rest-fits w n s l)) (omega arith)

-- only the first w * n bytes count
pub reverse_each-take : (w n m : ℕ) (s : List ℕ) → w * n ≤ m → reverse_each w (take m s) n ≡ reverse_each w s n
unfolding reverse_each
reverse_each-take w zero m s h = refl
reverse_each-take w (suc n) m s h =
    let e : w * suc n ≡ w * n + w = mul-suc w n in
    rw (take-take w m s (omega arith), drop-take, reverse_each-take w n (m - w) (drop w s) (omega arith))

-- bytes are elements of one byte
reverse_each-one : (n : ℕ) (s : List ℕ) → n ≤ length s → reverse_each 1 s n ≡ take n s
unfolding reverse_each
reverse_each-one zero s h = refl
reverse_each-one (suc n) [] h = absurd (omega arith)
reverse_each-one (suc n) (b ∷ s) h = rw (reverse_each-one n s (omega arith))

pub bytes_as_elements : (bs : List ℕ) → reverse_each 1 bs (length bs / 1) ≡ bs
bytes_as_elements bs = rw (div-one (length bs), reverse_each-one (length bs) bs (le_refl (length bs)), take-length bs)

-- packed numbers, from least byte first to most byte first
pub reverse_each_pack_seq : (w : ℕ) (ns rest : List ℕ) → reverse_each w (pack_little_endian_seq w ns ++ rest) (length ns) ≡ pack_big_endian_seq w ns
unfolding reverse_each pack_little_endian_seq pack_big_endian_seq pack_big_endian
reverse_each_pack_seq w [] rest = refl
reverse_each_pack_seq w (n ∷ ns) rest =
    rw (append_assoc, take_at (pack_little_endian w n) (pack_little_endian_seq w ns ++ rest) w (length_pack w n), drop_at (pack_little_endian w n) (pack_little_endian_seq w ns ++ rest) w (length_pack w n), reverse_each_pack_seq w ns rest)

-- and back
pub pack_seq_unpack_big_seq : (w n : ℕ) (s : List ℕ) → Bytes s → w * n ≤ length s → pack_little_endian_seq w (unpack_big_endian_seq w s n) ≡ reverse_each w s n
unfolding reverse_each pack_little_endian_seq unpack_big_endian_seq
pack_seq_unpack_big_seq w zero s h l = refl
pack_seq_unpack_big_seq w (suc n) s h l = rw (pack_unpack_big w s h (omega (arith, first_fits w n s l)), pack_seq_unpack_big_seq w n (drop w s) (bytes_drop w s h) (rest-fits w n s l))
