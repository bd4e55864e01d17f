-- Request 05, proved: the steps of packing and unpacking, once for every width.
use Rattle.std.proofs.Common.{◌≡◌, refl, sym, ap, subst, ◌∙◌, ◌↔◌, List, ℕ, ◌+◌, ◌*◌, ◌/◌, ◌%◌, ◌^◌, ◌≤◌, ◌<◌, le_refl, mod-eq_of_lt, add-one, arith, length, get_or, set, take, drop, get_or-drop}
use Rattle.refusal.specs.Outcome.{Outcome, accepted, map, contents, Fills, Reason}
use Rattle.packed.specs.Packed.{Bytes, unpack_little_endian, pack_little_endian, present, room, unpack_at, put, put_at}
use Rattle.packed.specs.Steps.{Summed, PutSoFar, InOrder, StepsOfE}
use Rattle.packed.proofs.Laws.{unpack_at-below, unpack_take, length_pack, pack_snoc, pack_front, unpack_pack}
use Rattle.packed.proofs.Put.{put-nothing, put_same, put-over, put_next}
use Rattle.packed.proofs.Source.{put-there}
use Rattle.packed.proofs.Calls.{present-all, present-fits, room-all, room_fits}

sums_none_lem : (s : List ℕ) (index : ℕ) → Summed s index 0 0
unfolding unpack_little_endian
sums_none_lem s index = refl

adds : (s : List ℕ) (index i sum : ℕ) → Summed s index i sum → Summed s index (i + 1) (sum + get_or s (index + i) 0 * 256 ^ i)
unfolding unpack_little_endian
adds s index i sum h =
    let e : sum ≡ unpack_little_endian i (drop index s) = h ∙ unpack_take i i (drop index s) (le_refl i) in
    rw (unpack_take (i + 1) (i + 1) (drop index s) (le_refl (i + 1)), add-one, e, get_or-drop)

sums-all : (w : ℕ) (s : List ℕ) (index sum : ℕ) → index + w ≤ length s → Summed s index w sum → unpack_at w s index ≡ accepted sum
sums-all w s index sum inside h =
    sym (ap accepted h ∙ ap (λ (o : Outcome Reason (Unit {0})). map (unpack_little_endian w) (map (λ _. take w (drop index s)) o)) (present-all (length s) index w inside))

puts_none_lem : (n : ℕ) (entry : List ℕ) (index : ℕ) → PutSoFar n entry index 0 entry
unfolding pack_little_endian
puts_none_lem n entry index = sym (put-nothing entry index)

puts_all : (w n : ℕ) (entry : List ℕ) (index : ℕ) (out : List ℕ) → index + w ≤ length entry → PutSoFar n entry index w out → put_at entry index (pack_little_endian w n) ≡ accepted out
puts_all w n entry index out inside h =
    let k : length (pack_little_endian w n) ≡ w = length_pack w n in
    sym (ap accepted h ∙ ap (map (λ _. put entry index (pack_little_endian w n))) (room-all (length entry) index (length (pack_little_endian w n)) (omega arith)))

module _ (n : ℕ) (entry : List ℕ) (index i : ℕ) (out : List ℕ) where
  bytes : length (pack_little_endian i n) ≡ i
  bytes = length_pack i n

  puts : index + i < length entry → PutSoFar n entry index i out → PutSoFar n entry index (i + 1) (set out (index + i) (n / 256 ^ i % 256))
  puts l h = put_next entry out index i (n / 256 ^ i % 256) (pack_little_endian i n) h bytes l ∙ rw (add-one, pack_snoc)

  there : index + i ≤ length entry → PutSoFar n entry index i out → take i (drop index out) ≡ pack_little_endian i n
  there l h =
      let k : length (pack_little_endian i n) ≡ i = bytes in
      let t : take (length (pack_little_endian i n)) (drop index (put entry index (pack_little_endian i n))) ≡ pack_little_endian i n = put-there entry index (pack_little_endian i n) (omega arith) in
      rw h (rw k at t)

  meets : index + i ≤ length entry → PutSoFar n entry index i out → Summed out index i (n % 256 ^ i)
  meets l h = sym (ap (unpack_little_endian i) (there l h) ∙ unpack_pack i n)

pub in_order : InOrder
in_order = record {
  sums_none = sums_none_lem;
  adds = adds;
  sums_all = sums-all;
  puts_none = puts_none_lem;
  puts = puts;
  putsAll = puts_all;
  sums_front = λ w s index i l. unpack_take i w (drop index s) l ∙ sym (unpack_take i i (drop index s) (le_refl i));
  puts_front = λ w n entry index i l. ap (put entry index) (pack_front i w n l);
  meets = meets;
}

-- where i bytes are put, to put them again changes nothing, and to put k, these first, is to put k
module _ (n : ℕ) (entry : List ℕ) (index i : ℕ) (out : List ℕ) (h : PutSoFar n entry index i out) where
  over : (k : ℕ) → i ≤ k → index + k ≤ length entry → put out index (pack_little_endian k n) ≡ put entry index (pack_little_endian k n)
  over k l inside =
      let a : length (pack_little_endian i n) ≡ i = length_pack i n in
      let b : length (pack_little_endian k n) ≡ k = length_pack k n in
      ap (λ (o : List ℕ). put o index (pack_little_endian k n)) h ∙ put-over entry index (pack_little_endian i n) (pack_little_endian k n) (omega arith) (omega arith)

  pub put-again : index + i ≤ length entry → PutSoFar n out index i out
  put-again inside = h ∙ sym (over i (le_refl i) inside)

  pub put_on : (k : ℕ) {after : List ℕ} → i ≤ k → index + k ≤ length entry → PutSoFar n out index k after → PutSoFar n entry index k after
  put_on k l inside e = e ∙ over k l inside

-- what the contract of `put_byte` asks of the output, `PutSoFar` of it with itself: the i bytes of n stand at the index
pub stands : (n : ℕ) (out : List ℕ) (index i : ℕ) → index + i ≤ length out → PutSoFar n out index i out ↔ (take i (drop index out) ≡ pack_little_endian i n)
stands n out index i inside = (
  there n out index i out inside,
  λ (e : take i (drop index out) ≡ pack_little_endian i n). sym (ap (put out index) (sym e) ∙ put_same out index i inside),
)

-- the calls, where all bytes are there, or have room
-- the sum of all bytes fits its type
pub summed-fits : (w : ℕ) (s : List ℕ) (index : ℕ) {n : ℕ} → Bytes s → Summed s index w n → n % 256 ^ w ≡ n
summed-fits w s index {n} h e = mod-eq_of_lt (subst (λ (x : ℕ). x < 256 ^ w) (sym e) (unpack_at-below w s index h))

pub unpack_accepted : (w : ℕ) (s : List ℕ) (index : ℕ) {n : ℕ} → accepted tt ≡ present (length s) index w → Summed s index w n → accepted n ≡ unpack_at w s index
unpack_accepted w s index h e = sym (in_order.sums_all w s index _ (present-fits (length s) index w h) e)

pub pack_accepted : (w n : ℕ) (out : List ℕ) (index : ℕ) {exit : List ℕ} → accepted tt ≡ room (length out) index w → PutSoFar n out index w exit → Fills (put_at out index (pack_little_endian w n)) (accepted tt) out exit
pack_accepted w n out index {exit} h e =
    let p : put_at out index (pack_little_endian w n) ≡ accepted exit = in_order.putsAll w n out index exit (room_fits (length out) index w h) e in
    record { answers = ap (map (λ _. tt)) (sym p); buffer = ap (λ (o : Outcome Reason (List ℕ)). contents o out) (sym p) }

-- the fields of `InOrder` that no function cites, in one law: the first i of w bytes, where they are put, sum to n modulo 256 to the power i
pub first-of_w : (w n : ℕ) (entry : List ℕ) (index i : ℕ) → i ≤ w → index + i ≤ length entry → unpack_little_endian i (take w (drop index (put entry index (take i (pack_little_endian w n))))) ≡ n % 256 ^ i
first-of_w w n entry index i l inside =
    in_order.sums_front w _ index i l ∙ sym (in_order.meets n entry index i _ inside (in_order.puts_front w n entry index i l))

pub steps_E : StepsOfE
unfolding unpack_little_endian pack_little_endian put
steps_E = record {
  puts = (refl, refl, refl, refl, refl);
  sums = (refl, refl, refl, refl, refl);
}
