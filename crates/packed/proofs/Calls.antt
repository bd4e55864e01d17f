-- When bytes are present and when they have room, as the calls decide it.
use Rattle.std.proofs.Common.{le-div_iff_mul-le, mul_comm, ◌-◌, ◌/◌, ◌≡◌, refl, sym, ap, ◌∙◌, true, ℕ, ◌+◌, ◌*◌, ◌≤◌, ◌<◌, le_refl, arith, length, take, drop, take_all, leb, le-leb, leb-true, List, ◌++◌}
use borrow.Author.Tests.{lt-leb}
use Rattle.refusal.specs.Outcome.{Outcome, accepted, refused, test, map, contents, Fills, Reason, reason, byte}
use Rattle.refusal.proofs.Tests.{leb_iff}
use Rattle.refusal.proofs.Outcome.{test-true, test-false, test_passed, fills_accepted}
use Rattle.packed.specs.Packed.{present, room, unpack_little_endian_seq, pack_little_endian_seq, unpack_seq_at, put, put_at}
use Rattle.packed.specs.Steps.{UnpackedTo, PackedTo}
use Rattle.packed.proofs.Laws.{length_unpack_seq, unpack_seq_take, length_pack_seq}
use Rattle.packed.proofs.Put.{length-put, put_whole, put_more}

-- a count compared with the numbers that have room says what the product would, as `within` compares it
pub count_compared : (len index count width : ℕ) → 0 < width → index ≤ len → leb count ((len - index) / width) ≡ leb (index + width * count) len
count_compared len index count width pos h =
    leb_iff count ((len - index) / width) (index + width * count) len
    (λ (l : count ≤ (len - index) / width). let p : count * width ≤ len - index = (le-div_iff_mul-le pos).0 l in omega (arith, mul_comm count width))
    (λ (l : index + width * count ≤ len). (le-div_iff_mul-le pos).1 (omega (arith, mul_comm count width)))

module _ (len index size : ℕ) where
  pub present-index : len < index → present len index size ≡ refused (reason 7 (byte index))
  unfolding present
  present-index h = test-false _ _ (lt-leb index len h)

  pub present-inside : index ≤ len → present len index size ≡ test (leb (index + size) len) (reason 9 (byte index)) accepted
  unfolding present
  present-inside h = test-true _ _ (le-leb index len h)

  pub present-all : index + size ≤ len → accepted tt ≡ present len index size
  unfolding present
  present-all h = sym (test-true _ _ (le-leb index len (omega arith)) ∙ test-true _ _ (le-leb (index + size) len h))

  pub present-fits : accepted tt ≡ present len index size → index + size ≤ len
  unfolding present
  present-fits h =
      let p : leb index len ≡ true = test_passed (leb index len) _ _ tt (sym h) in
      leb-true (index + size) len (test_passed (leb (index + size) len) (reason 9 (byte index)) accepted tt (sym (test-true _ _ p) ∙ sym h))

  pub room-test : room len index size ≡ test (leb (index + size) len) (reason 17 (byte len)) accepted
  unfolding room
  room-test = refl

  pub room-all : index + size ≤ len → accepted tt ≡ room len index size
  unfolding room
  room-all h = sym (test-true _ _ (le-leb (index + size) len h))

  pub room_fits : accepted tt ≡ room len index size → index + size ≤ len
  unfolding room
  room_fits h = leb-true (index + size) len (test_passed (leb (index + size) len) _ _ tt (sym h))

-- a loop has unpacked all i numbers, which are there
module _ (w : ℕ) (s : List ℕ) (index : ℕ) (numbers : List ℕ) where
  bytes : Outcome Reason (Unit {0}) → Outcome Reason (List ℕ)
  bytes o = map (λ _. take (w * length numbers) (drop index s)) o

  pub unpack_seq_accepted : {exit : List ℕ} (i : ℕ) → i ≡ length numbers → UnpackedTo w s index numbers i exit → accepted tt ≡ present (length s) index (w * length numbers) → Fills (unpack_seq_at w s index (length numbers)) (accepted tt) numbers exit
  unfolding bytes
  unpack_seq_accepted i e f h =
      let l : length (unpack_little_endian_seq w (drop index s) i) ≡ length numbers = length_unpack_seq w (drop index s) i ∙ e in
      fills_accepted (λ bs. unpack_little_endian_seq w bs (length numbers)) numbers (ap bytes h)
      (f ∙ put_whole numbers (unpack_little_endian_seq w (drop index s) i) l ∙ ap (unpack_little_endian_seq w (drop index s)) e ∙ sym (unpack_seq_take w (length numbers) (w * length numbers) (drop index s) (le_refl (w * length numbers))))

-- putting bytes that have room
module _ (out : List ℕ) (index : ℕ) (bs : List ℕ) (size : ℕ) (l : length bs ≡ size) where
  pub put-accepted : {exit : List ℕ} → accepted tt ≡ room (length out) index size → exit ≡ put out index bs → Fills (put_at out index bs) (accepted tt) out exit
  put-accepted h e = rw l (fills_accepted (λ _. put out index bs) out h e)

  -- bytes that have room were put
  pub fills_put : index + size ≤ length out → {o : Outcome Reason (Unit {0})} {exit : List ℕ} → Fills (put_at out index bs) o out exit → exit ≡ put out index bs
  fills_put h f =
      f.buffer ∙ ap (λ (x : Outcome Reason (Unit {0})). contents (map (λ _. put out index bs) x) out) (sym (room-all (length out) index (length bs) (omega arith)))

  -- and the call answers that it is done
  pub fills_answers : index + size ≤ length out → {o : Outcome Reason (Unit {0})} {exit : List ℕ} → Fills (put_at out index bs) o out exit → o ≡ accepted tt
  fills_answers h f =
      f.answers ∙ ap (λ (x : Outcome Reason (Unit {0})). map (λ _. tt) (map (λ _. put out index bs) x)) (sym (room-all (length out) index (length bs) (omega arith)))

-- a loop has packed all i numbers, which have room
module _ (w : ℕ) (numbers out : List ℕ) (index : ℕ) where
  pub pack_seq_accepted : {exit : List ℕ} (i : ℕ) → i ≡ length numbers → PackedTo w numbers out index i exit → accepted tt ≡ room (length out) index (w * length numbers) → Fills (put_at out index (pack_little_endian_seq w numbers)) (accepted tt) out exit
  pack_seq_accepted i e f h =
      put-accepted out index (pack_little_endian_seq w numbers) (w * length numbers) (length_pack_seq w numbers) h
      (f ∙ ap (λ (ns : List ℕ). put out index (pack_little_endian_seq w ns)) (take_all i numbers (omega arith)))

-- bytes that were put right behind others
pub fills_more : (out mid : List ℕ) (index at : ℕ) (xs ys : List ℕ) → index + (length xs + length ys) ≤ length out → at ≡ index + length xs → mid ≡ put out index xs → {o : Outcome Reason (Unit {0})} {exit : List ℕ} → Fills (put_at mid at ys) o mid exit → exit ≡ put out index (xs ++ ys)
fills_more out mid index at xs ys h a m f =
    let k : length mid ≡ length out = ap length m ∙ length-put out index xs (omega arith) in
    fills_put mid at ys (length ys) refl (omega arith) f ∙ ap (λ (x : List ℕ). put x at ys) m ∙ put_more out index xs ys at a (omega arith)
