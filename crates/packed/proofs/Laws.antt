-- The laws of a number's bytes, once for every width.
use Rattle.std.proofs.Common.{◌≡◌, refl, ap, sym, ◌∙◌, ◌↔◌, List, [], ◌∷◌, ◌++◌, append_assoc, append-nil, ℕ, zero, suc, ◌+◌, ◌*◌, ◌/◌, ◌%◌, ◌^◌, ◌<◌, ◌≤◌, zero-le, suc-le-suc, pow-suc, mul-le-mul_right, mul_left_comm, div-one, lt_of_lt_of_le, lt_of_le_of_lt, le_of_suc-le-suc, mul-suc, mul-zero, add_comm, mod-eq_of_lt, le_refl, arith, length, get_or, take, drop, length-append, length-drop, lit<, get_or-drop, get_or-take, take_all, drop-drop, take-take, take-add, take_at, drop_at}
use Rattle.std.proofs.Math.Arith.{mod-mul}
use Rattle.std.proofs.Math.Nat.{pow-succ', pow-le-pow_right, div-div-eq-div-mul}
use Rattle.packed.specs.Packed.{Bytes, Below, unpack_little_endian, unpack_little_endian_seq, pack_little_endian, pack_little_endian_seq}

pub bytes_drop : (n : ℕ) (bs : List ℕ) → Bytes bs → Bytes (drop n bs)
bytes_drop n bs h j = rw get_or-drop (h (n + j))

pub bytes_take : (n : ℕ) (bs : List ℕ) → Bytes bs → Bytes (take n bs)
bytes_take zero bs h j = lit< tt
bytes_take (suc n) [] h j = lit< tt
bytes_take (suc n) (b ∷ bs) h zero = h 0
bytes_take (suc n) (b ∷ bs) h (suc j) = bytes_take n bs (λ k. h (suc k)) j

pub pow_256 : (i : ℕ) → 0 < 256 ^ i
pow_256 i = pow-le-pow_right {n = 256} (lit< tt) zero-le

-- the weight of a byte of a u64
pub weight_fits : (i : ℕ) → i < 8 → 256 ^ i < 2 ^ 64
weight_fits i l = let s : i ≤ 7 = omega arith in lt_of_le_of_lt (pow-le-pow_right {n = 256} (lit< tt) s) (lit< tt)

-- Unpacking.

-- the sum of w bytes is below 256 to the power w
pub unpack_below : (w : ℕ) (bs : List ℕ) → Bytes bs → unpack_little_endian w bs < 256 ^ w
unfolding unpack_little_endian
unpack_below zero bs h = lit< tt
unpack_below (suc i) bs h =
    let b : get_or bs i 0 ≤ 255 = omega (arith, h i) in
    rw pow-suc (omega (arith, unpack_below i bs h, mul-le-mul_right (256 ^ i) b))

-- the same of w bytes of a record from an index on
pub unpack_at-below : (w : ℕ) (s : List ℕ) (index : ℕ) → Bytes s → unpack_little_endian w (take w (drop index s)) < 256 ^ w
unpack_at-below w s index h = unpack_below w (take w (drop index s)) (bytes_take w (drop index s) (bytes_drop index s h))

-- only the first w bytes count
pub unpack_ext : (w : ℕ) (a b : List ℕ) → ((i : ℕ) → i < w → get_or a i 0 ≡ get_or b i 0) → unpack_little_endian w a ≡ unpack_little_endian w b
unfolding unpack_little_endian
unpack_ext zero a b h = refl
unpack_ext (suc w) a b h = rw (unpack_ext w a b (λ i l. h i (omega arith)), h w (omega arith))

pub unpack_take : (w n : ℕ) (bs : List ℕ) → w ≤ n → unpack_little_endian w (take n bs) ≡ unpack_little_endian w bs
unpack_take w n bs h = unpack_ext w (take n bs) bs (λ i l. get_or-take n bs i 0 (omega arith))

-- the sum by its first byte
pub unpack_cons : (w b : ℕ) (bs : List ℕ) → unpack_little_endian (suc w) (b ∷ bs) ≡ b + 256 * unpack_little_endian w bs
unfolding unpack_little_endian
unpack_cons zero b bs = omega arith
unpack_cons (suc w) b bs =
    let e : get_or bs w 0 * 256 ^ suc w ≡ 256 * (get_or bs w 0 * 256 ^ w) = rw (pow-succ', mul_left_comm) in
    omega (arith, e, unpack_cons w b bs)

-- the sum of the first bytes of a u64
pub unpack_fits : (s : List ℕ) (index i : ℕ) → Bytes s → i < 8 → unpack_little_endian (i + 1) (take (i + 1) (drop index s)) < 2 ^ 64
unpack_fits s index i h l =
    let e : i + 1 ≤ 8 = omega arith in
    lt_of_lt_of_le (unpack_at-below (i + 1) s index h) (pow-le-pow_right {n = 256} (lit< tt) e)

-- Packing.

pub length_pack : (w n : ℕ) → length (pack_little_endian w n) ≡ w
unfolding pack_little_endian
length_pack zero n = refl
length_pack (suc w) n = ap suc (length_pack w (n / 256))

pub pack_bytes : (w n : ℕ) → Bytes (pack_little_endian w n)
unfolding pack_little_endian
pack_bytes zero n j = lit< tt
pack_bytes (suc w) n zero = omega arith
pack_bytes (suc w) n (suc j) = pack_bytes w (n / 256) j

-- the bytes by the last one
pub pack_snoc : (w n : ℕ) → pack_little_endian (suc w) n ≡ pack_little_endian w n ++ (n / 256 ^ w % 256 ∷ [])
unfolding pack_little_endian
pack_snoc zero n = rw div-one
pack_snoc (suc w) n =
    let e : n / 256 / 256 ^ w ≡ n / 256 ^ suc w = rw (div-div-eq-div-mul, pow-succ') in
    ap (λ (l : List ℕ). n % 256 ∷ l) (pack_snoc w (n / 256) ∙ rw e)

-- the first w of k bytes
pub pack_front : (w k n : ℕ) → w ≤ k → take w (pack_little_endian k n) ≡ pack_little_endian w n
unfolding pack_little_endian
pack_front zero k n h = refl
pack_front (suc w) zero n h = absurd (omega arith)
pack_front (suc w) (suc k) n h = rw (pack_front w k (n / 256) (omega arith))

-- Each undoes the other.

-- the packed bytes sum to the number
pub unpack_pack : (w n : ℕ) → unpack_little_endian w (pack_little_endian w n) ≡ n % 256 ^ w
unfolding unpack_little_endian pack_little_endian
unpack_pack zero n = omega arith
unpack_pack (suc w) n =
    rw (unpack_cons w (n % 256) (pack_little_endian w (n / 256)), unpack_pack w (n / 256), pow-suc)
    (omega (arith, mod-mul n {m = 256 ^ w} {c = 256} (pow_256 w) (lit< tt)))

pub unpack_packed : (w n : ℕ) → n < 256 ^ w → unpack_little_endian w (pack_little_endian w n) ≡ n
unpack_packed w n h = unpack_pack w n ∙ mod-eq_of_lt h

pub pack_unpack : (w : ℕ) (bs : List ℕ) → Bytes bs → w ≤ length bs → pack_little_endian w (unpack_little_endian w bs) ≡ take w bs
unfolding unpack_little_endian pack_little_endian
pack_unpack zero bs h l = refl
pack_unpack (suc w) [] h l = let z : ⊥ = omega arith in absurd z
pack_unpack (suc w) (b ∷ bs) h l =
    let q : (b + 256 * unpack_little_endian w bs) / 256 ≡ unpack_little_endian w bs = omega (arith, h 0) in
    let r : (b + 256 * unpack_little_endian w bs) % 256 ≡ b = omega (arith, h 0) in
    rw (unpack_cons, q, r, pack_unpack w bs (λ j. h (suc j)) (le_of_suc-le-suc l))

-- the packed bytes are the only ones of that length with that sum
pub pack_unique : (w n : ℕ) (bs : List ℕ) → n < 256 ^ w → Bytes bs → length bs ≡ w → (unpack_little_endian w bs ≡ n) ↔ (bs ≡ pack_little_endian w n)
pack_unique w n bs below h l = (
  λ (e : unpack_little_endian w bs ≡ n). sym (ap (pack_little_endian w) (sym e) ∙ pack_unpack w bs h (omega arith) ∙ take_all w bs (omega arith)),
  λ (e : bs ≡ pack_little_endian w n). ap (unpack_little_endian w) e ∙ unpack_packed w n below,
)

-- Numbers one behind the other.

pub length_unpack_seq : (w : ℕ) (s : List ℕ) (n : ℕ) → length (unpack_little_endian_seq w s n) ≡ n
unfolding unpack_little_endian_seq
length_unpack_seq w s zero = refl
length_unpack_seq w s (suc n) = rw (length-append, length_unpack_seq w (take (w * n) s) n) (omega arith)

-- only the first w * n bytes count
pub unpack_seq_take : (w n m : ℕ) (s : List ℕ) → w * n ≤ m → unpack_little_endian_seq w (take m s) n ≡ unpack_little_endian_seq w s n
unfolding unpack_little_endian_seq
unpack_seq_take w zero m s h = refl
unpack_seq_take w (suc n) m s h =
    let l : w * n + w ≤ m = rw mul-suc at h in
    let e : unpack_little_endian w (take w (drop (w * n) (take m s))) ≡ unpack_little_endian w (take w (drop (w * n) s)) =
    unpack_ext w _ _ (λ i k. rw (get_or-take w (drop (w * n) (take m s)) i 0 k, get_or-take w (drop (w * n) s) i 0 k, get_or-drop, get_or-drop) (get_or-take m s (w * n + i) 0 (omega arith))) in
    rw (take-take (w * n) m s (omega arith), e)

-- a sequence by its last number
pub unpack_seq_snoc : (w n : ℕ) (s : List ℕ) → unpack_little_endian_seq w s (suc n) ≡ unpack_little_endian_seq w s n ++ (unpack_little_endian w (take w (drop (w * n) s)) ∷ [])
unfolding unpack_little_endian_seq
unpack_seq_snoc w n s = rw (unpack_seq_take w n (w * n) s (le_refl (w * n)))

-- a sequence by its first number
pub unpack_seq_cons : (w n : ℕ) (s : List ℕ) → unpack_little_endian_seq w s (suc n) ≡ unpack_little_endian w (take w s) ∷ unpack_little_endian_seq w (drop w s) n
unfolding unpack_little_endian_seq
unpack_seq_cons w zero s = rw mul-zero
unpack_seq_cons w (suc n) s =
    let e : w + w * n ≡ w * suc n = rw mul-suc (add_comm w (w * n)) in
    unpack_seq_snoc w (suc n) s ∙ rw (unpack_seq_cons w n s, unpack_seq_snoc w n (drop w s), drop-drop, e)

-- element by element
pub get_d_unpack_seq : (w n : ℕ) (s : List ℕ) (i : ℕ) → i < n → get_or (unpack_little_endian_seq w s n) i 0 ≡ unpack_little_endian w (take w (drop (w * i) s))
get_d_unpack_seq w zero s i h = let z : ⊥ = omega arith in absurd z
get_d_unpack_seq w (suc n) s zero h = rw (unpack_seq_cons, mul-zero)
get_d_unpack_seq w (suc n) s (suc i) h =
    let e : w + w * i ≡ w * suc i = rw mul-suc (add_comm w (w * i)) in
    rw (unpack_seq_cons, get_d_unpack_seq w n (drop w s) i (le_of_suc-le-suc h), drop-drop, e)

pub length_pack_seq : (w : ℕ) (ns : List ℕ) → length (pack_little_endian_seq w ns) ≡ w * length ns
unfolding pack_little_endian_seq
length_pack_seq w [] = sym (mul-zero w)
length_pack_seq w (n ∷ ns) = rw (length-append, length_pack, length_pack_seq w ns, mul-suc, add_comm w (w * length ns))

pub pack_seq_append : (w : ℕ) (ms ns : List ℕ) → pack_little_endian_seq w (ms ++ ns) ≡ pack_little_endian_seq w ms ++ pack_little_endian_seq w ns
unfolding pack_little_endian_seq
pack_seq_append w [] ns = refl
pack_seq_append w (m ∷ ms) ns = rw (pack_seq_append w ms ns, append_assoc)

pub pack_seq_one : (w n : ℕ) → pack_little_endian_seq w (n ∷ []) ≡ pack_little_endian w n
unfolding pack_little_endian_seq
pack_seq_one w n = append-nil (pack_little_endian w n)

-- packed numbers unpack to themselves, whatever stands behind them
pub unpack_seq_pack_seq : (w : ℕ) (ns rest : List ℕ) → Below (256 ^ w) ns → unpack_little_endian_seq w (pack_little_endian_seq w ns ++ rest) (length ns) ≡ ns
unfolding pack_little_endian_seq unpack_little_endian_seq
unpack_seq_pack_seq w [] rest h = refl
unpack_seq_pack_seq w (n ∷ ns) rest h =
    unpack_seq_cons w (length ns) (pack_little_endian_seq w (n ∷ ns) ++ rest) ∙
    rw (append_assoc, take_at (pack_little_endian w n) (pack_little_endian_seq w ns ++ rest) w (length_pack w n), drop_at (pack_little_endian w n) (pack_little_endian_seq w ns ++ rest) w (length_pack w n), unpack_packed w n (h 0 (omega arith)), unpack_seq_pack_seq w ns rest (λ j l. h (suc j) (suc-le-suc l)))

-- bytes that unpack to numbers are those numbers packed
pub pack_seq_unpack_seq : (w n : ℕ) (s : List ℕ) → Bytes s → w * n ≤ length s → pack_little_endian_seq w (unpack_little_endian_seq w s n) ≡ take (w * n) s
unfolding pack_little_endian_seq unpack_little_endian_seq
pack_seq_unpack_seq w zero s h l = rw mul-zero
pack_seq_unpack_seq w (suc n) s h l =
    let m : w * n + w ≤ length s = rw mul-suc at l in
    let e : w * suc n ≡ w + w * n = rw mul-suc (add_comm (w * n) w) in
    let a : pack_little_endian w (unpack_little_endian w (take w s)) ≡ take w s = ap (pack_little_endian w) (unpack_take w w s (le_refl w)) ∙ pack_unpack w s h (omega arith) in
    let b : pack_little_endian_seq w (unpack_little_endian_seq w (drop w s) n) ≡ take (w * n) (drop w s) = pack_seq_unpack_seq w n (drop w s) (bytes_drop w s h) (rw length-drop (omega arith)) in
    ap (pack_little_endian_seq w) (unpack_seq_cons w n s) ∙ rw (a, b, e, take-add)
