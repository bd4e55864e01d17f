-- One meaning: what the bytes of a value are, and that parsing gives a value exactly for its bytes.
use Rattle.std.proofs.Common.{◌≡◌, refl, sym, ap, ◌∙◌, ◌↔◌, List, [], ◌∷◌, ◌++◌, append_assoc, append-nil, ℕ, zero, suc, ◌+◌, ◌*◌, ◌/◌, ◌^◌, ◌≤◌, ◌<◌, le-div_iff_mul-le, mul_comm, mod-eq_of_lt, arith, length, take, drop, length-append, take-append-drop, take_at, drop_at, take-take, length-take-le, leb, leb→le, lit<, le-leb}
use Rattle.std.proofs.Math.Option.{Option, none, some}
use Rattle.std.proofs.Math.Seq.{drop-append-le, slice, length-slice}
use Rattle.refusal.specs.Outcome.{accepted, refused, test}
use Rattle.refusal.proofs.Outcome.{Post, holds, fails, post_bind, post_test, post_weaken, post_accepted}
use Rattle.packed.specs.Packed.{unpack_little_endian, unpack_little_endian_seq, pack_little_endian, pack_little_endian_seq, Bytes, Below}
use Rattle.packed.proofs.Laws.{bytes_drop, bytes_take, unpack_below, unpack_take, length_pack, pack_bytes, unpack_packed, pack_unpack, length_unpack_seq, unpack_seq_take, get_d_unpack_seq, length_pack_seq, unpack_seq_pack_seq, pack_seq_unpack_seq}
use Rattle.value.specs.Kinds.{width, element_width}
use Rattle.value.specs.Tree.{G, Gs, GConstant, GNumber, GArray, GTuple, GNumberArray, GTaggedUnion, gnil, gcons, Val, Vals, VConstant, VNumber, VArray, VTuple, VNumberArray, VCase, vnil, vcons, VByteArray, seq_g, seq_v, case_at, CountsBelow, CountsBelowAll, ValInGrammar, AllInGrammar, EachInGrammar, in_constant, in_number, in_array, in_tuple, in_number_array, in_case, all_nil, all_cons, each_nil, each_cons, ValidGrammar, ValidGrammars, ValidVal, ValidVals, TypedVal, TypedVals, ValueOf, ElementsOf, FieldsOf, SizeOfV, SeqSum}
use Rattle.value.specs.Bytes.{bytes_of, bytes_of_all}
use Rattle.value.specs.Step.{Step, yield, elements}
use Rattle.value.specs.Parse.{Parse, missing, pair, parse_number, parse_numbers, parse, parse_fields, parse_case_at, parse_val, Demarshallable, DemarshallFunc}
use Rattle.value.proofs.KindLaws.{element_width_positive}

-- ---- lists of bytes

pub bytes_append : (a b : List ℕ) → Bytes a → Bytes b → Bytes (a ++ b)
bytes_append [] b h k j = k j
bytes_append (x ∷ a) b h k zero = h 0
bytes_append (x ∷ a) b h k (suc j) = bytes_append a b (λ i. h (suc i)) k j

pub pack_seq_bytes : (w : ℕ) (ns : List ℕ) → Bytes (pack_little_endian_seq w ns)
unfolding pack_little_endian_seq
pack_seq_bytes w [] = λ j. lit< tt
pack_seq_bytes w (n ∷ ns) = bytes_append (pack_little_endian w n) (pack_little_endian_seq w ns) (pack_bytes w n) (pack_seq_bytes w ns)

pub unpack_seq_below : (w : ℕ) (s : List ℕ) (n : ℕ) → Bytes s → Below (256 ^ w) (unpack_little_endian_seq w s n)
unpack_seq_below w s n h j l =
    let l' : j < n = omega (arith, length_unpack_seq w s n) in
    rw (get_d_unpack_seq w n s j l') (unpack_below w (take w (drop (w * j) s)) (bytes_take w (drop (w * j) s) (bytes_drop (w * j) s h)))

-- two parts that follow one another
slice_join : (d : List ℕ) (i j k : ℕ) → i ≤ j → j ≤ k → k ≤ length d → slice i j d ++ slice j k d ≡ slice i k d
slice_join d i j k h l m =
    let e : take j d ≡ take j (take k d) = sym (take-take j k d l) in
    let n : i ≤ length (take j (take k d)) = rw (length-take-le j (take k d) (rw (length-take-le k d m) l)) h in
    rw (e, ← drop-append-le i (take j (take k d)) (drop j (take k d)) n, take-append-drop)

-- a count compared by division
pub count_fits : {w n m : ℕ} → 0 < w → (n ≤ m / w) ↔ (w * n ≤ m)
count_fits {w} {n} {m} h = (λ l. rw mul_comm ((le-div_iff_mul-le h).0 l), λ l. (le-div_iff_mul-le h).1 (rw mul_comm l))

-- ---- the bytes of a value

mutual
  unfolding SizeOfV bytes_of

  pub length_bytes_of : (v : Val) → length (bytes_of v) ≡ SizeOfV v
  length_bytes_of VConstant = refl
  length_bytes_of (VNumber k n) = length_pack (width k) n
  length_bytes_of (VArray vs) = rw (length-append, length_pack, length-bytes_of_all vs)
  length_bytes_of (VTuple vs) = length-bytes_of_all vs
  length_bytes_of (VNumberArray k ns) = rw (length-append, length_pack, length_pack_seq)
  length_bytes_of (VCase c v) = rw (length-append, length_pack, length_bytes_of v)

  pub length-bytes_of_all : (vs : Vals) → length (bytes_of_all vs) ≡ SeqSum vs
  length-bytes_of_all vnil = refl
  length-bytes_of_all (vcons v vs) = rw (length-append, length_bytes_of v, length-bytes_of_all vs)

mutual
  unfolding bytes_of

  pub bytes_of_bytes : (v : Val) → Bytes (bytes_of v)
  bytes_of_bytes VConstant = λ j. lit< tt
  bytes_of_bytes (VNumber k n) = pack_bytes (width k) n
  bytes_of_bytes (VArray vs) = bytes_append (pack_little_endian 8 (length (seq_v vs))) (bytes_of_all vs) (pack_bytes 8 (length (seq_v vs))) (bytes_of_all-bytes vs)
  bytes_of_bytes (VTuple vs) = bytes_of_all-bytes vs
  bytes_of_bytes (VNumberArray k ns) = bytes_append (pack_little_endian 8 (length ns)) (pack_little_endian_seq (element_width k) ns) (pack_bytes 8 (length ns)) (pack_seq_bytes (element_width k) ns)
  bytes_of_bytes (VCase c v) = bytes_append (pack_little_endian 8 c) (bytes_of v) (pack_bytes 8 c) (bytes_of_bytes v)

  pub bytes_of_all-bytes : (vs : Vals) → Bytes (bytes_of_all vs)
  bytes_of_all-bytes vnil = λ j. lit< tt
  bytes_of_all-bytes (vcons v vs) = bytes_append (bytes_of v) (bytes_of_all vs) (bytes_of_bytes v) (bytes_of_all-bytes vs)

-- a byte array's elements are its bytes
pub pack_seq_of-bytes : (b : List ℕ) → Below 256 b → pack_little_endian_seq 1 b ≡ b
unfolding pack_little_endian pack_little_endian_seq
pack_seq_of-bytes [] h = refl
pack_seq_of-bytes (n ∷ b) h = rw (mod-eq_of_lt (h 0 (omega arith)), pack_seq_of-bytes b (λ j l. h (suc j) (omega arith)))

pub bytes_of_byte_array : (b : List ℕ) → Below 256 b → bytes_of (VByteArray b) ≡ pack_little_endian 8 (length b) ++ b
unfolding bytes_of
bytes_of_byte_array b h = rw (pack_seq_of-bytes b h)

-- ---- from a value to its parsing

parse_number_pack : (w n : ℕ) (rest : List ℕ) → n < 256 ^ w → parse_number w (pack_little_endian w n ++ rest) ≡ yield n rest
unfolding parse_number
parse_number_pack w n rest h =
    let l : w ≤ length (pack_little_endian w n ++ rest) = rw (length-append, length_pack) (omega arith) in
    rw (le-leb w (length (pack_little_endian w n ++ rest)) l, take_at (pack_little_endian w n) rest w (length_pack w n), drop_at (pack_little_endian w n) rest w (length_pack w n), unpack_packed w n h)

parse_numbers_pack : (w : ℕ) (ns rest : List ℕ) → 0 < w → length ns < 256 ^ 8 → Below (256 ^ w) ns → parse_numbers w ((pack_little_endian 8 (length ns) ++ pack_little_endian_seq w ns) ++ rest) ≡ yield ns rest
unfolding parse_numbers
parse_numbers_pack w ns rest pos h b =
    let r : List ℕ = pack_little_endian_seq w ns ++ rest in
    let l : length ns ≤ length r / w = (count_fits pos).1 (rw (length-append, length_pack_seq) (omega arith)) in
    let u : unpack_little_endian_seq w (take (w * length ns) r) (length ns) ≡ ns = unpack_seq_take w (length ns) (w * length ns) r (omega arith) ∙ unpack_seq_pack_seq w ns rest b in
    rw (append_assoc, parse_number_pack 8 (length ns) r h, le-leb (length ns) (length r / w) l, u, drop_at (pack_little_endian_seq w ns) rest (w * length ns) (length_pack_seq w ns))

pub parse_case_at-below : (gs : Gs) (c : ℕ) (d : List ℕ) → c < length (seq_g gs) → parse_case_at gs c d ≡ parse (case_at gs c) d
unfolding parse
parse_case_at-below gnil c d h = absurd (omega arith)
parse_case_at-below (gcons g gs) zero d h = refl
parse_case_at-below (gcons g gs) (suc c) d h = parse_case_at-below gs c d (omega arith)

pub parse_case_at-above : (gs : Gs) (c : ℕ) (d : List ℕ) → length (seq_g gs) ≤ c → parse_case_at gs c d ≡ missing
unfolding parse
parse_case_at-above gnil c d h = refl
parse_case_at-above (gcons g gs) zero d h = absurd (omega arith)
parse_case_at-above (gcons g gs) (suc c) d h = parse_case_at-above gs c d (omega arith)

mutual
  unfolding parse elements bytes_of ValidVal TypedVal

  pub parse_bytes_of : {v : Val} {g : G} → ValInGrammar v g → ValidVal v → TypedVal v → (rest : List ℕ) → parse g (bytes_of v ++ rest) ≡ yield v rest
  parse_bytes_of in_constant p t rest = refl
  parse_bytes_of (in_number {k} {n}) p t rest = rw (parse_number_pack (width k) n rest t)
  parse_bytes_of (in_array {vs} i) p t rest = rw (append_assoc, parse_number_pack 8 (length (seq_v vs)) (bytes_of_all vs ++ rest) p.0, elements_bytes_of i p.1 t rest)
  parse_bytes_of (in_tuple i) p t rest = rw (fields_bytes_of i p.1 t rest)
  parse_bytes_of (in_number_array {k} {ns}) p t rest = rw (parse_numbers_pack (element_width k) ns rest (element_width_positive k) p t)
  parse_bytes_of (in_case {c} {v} {gs} l i) p t rest = rw (append_assoc, parse_number_pack 8 c (bytes_of v ++ rest) t.0, parse_case_at-below gs c (bytes_of v ++ rest) l, parse_bytes_of i p t.1 rest)

  pub elements_bytes_of : {vs : Vals} {g : G} → AllInGrammar vs g → ValidVals vs → TypedVals vs → (rest : List ℕ) → elements (length (seq_v vs)) (parse g) (bytes_of_all vs ++ rest) ≡ yield vs rest
  elements_bytes_of all_nil p t rest = refl
  elements_bytes_of (all_cons {v} {vs} i is) p t rest = rw (append_assoc, parse_bytes_of i p.0 t.0 (bytes_of_all vs ++ rest), elements_bytes_of is p.1 t.1 rest)

  pub fields_bytes_of : {vs : Vals} {gs : Gs} → EachInGrammar vs gs → ValidVals vs → TypedVals vs → (rest : List ℕ) → parse_fields gs (bytes_of_all vs ++ rest) ≡ yield vs rest
  fields_bytes_of each_nil p t rest = refl
  fields_bytes_of (each_cons {v} {vs} i is) p t rest = rw (append_assoc, parse_bytes_of i p.0 t.0 (bytes_of_all vs ++ rest), fields_bytes_of is p.1 t.1 rest)

-- ---- from a parsing to its value

-- d is bs and then the rest, which is of bytes
pub record Split (d bs rest : List ℕ) : Type 0 where
  pub whole : d ≡ bs ++ rest
  pub behind : Bytes rest

split_none : {d : List ℕ} → Bytes d → Split d [] d
split_none h = record { whole = refl; behind = h }

split_join : {d a r b q : List ℕ} → Split d a r → Split r b q → Split d (a ++ b) q
split_join {a = a} {b = b} {q} s t = record { whole = rw (s.whole, t.whole, append_assoc); behind = t.behind }

-- the first n bytes
split_take : (n : ℕ) {d : List ℕ} → Bytes d → Split d (take n d) (drop n d)
split_take n {d} h = record { whole = sym (take-append-drop n d); behind = bytes_drop n d h }

-- what was parsed from d has the property, and its bytes stood there
pub record Parsed {A : Type 0} (bytes : A → List ℕ) (P : A → Type 0) (d : List ℕ) (t : Step (List ℕ) A) : Type 0 where
  pub split : Split d (bytes t.value) t.state
  pub meets : P t.value

abbrev pub Parses : {A : Type 0} → (A → List ℕ) → (A → Type 0) → List ℕ → Parse A → Type 0
Parses bytes P d x = Post (Parsed bytes P d) (λ _. Unit {0}) x

yields : {A : Type 0} {bytes : A → List ℕ} {P : A → Type 0} {d : List ℕ} {a : A} {r : List ℕ} → Split d (bytes a) r → P a → Parses bytes P d (yield a r)
yields s p = holds _ (record { split = s; meets = p })

parses-leb : {A : Type 0} {bytes : A → List ℕ} {P : A → Type 0} {d : List ℕ} (m n : ℕ) (k : Unit {0} → Parse A) → (m ≤ n → Parses bytes P d (k tt)) → Parses bytes P d (test (leb m n) tt k)
parses-leb m n k c = post_test (leb m n) tt k (λ t. c (leb→le m n t)) (λ _. tt)

parse_number_post : (w : ℕ) (d : List ℕ) → Bytes d → Parses (pack_little_endian w) (λ n. n < 256 ^ w) d (parse_number w d)
unfolding parse_number
parse_number_post w d h = parses-leb w (length d) _ (λ l.
    let e : pack_little_endian w (unpack_little_endian w (take w d)) ≡ take w d = ap (pack_little_endian w) (unpack_take w w d (omega arith)) ∙ pack_unpack w d h l in
    yields (rw e (split_take w h)) (unpack_below w (take w d) (bytes_take w d h)))

parse_numbers_post : (w : ℕ) (d : List ℕ) → 0 < w → Bytes d → Parses (λ ns. pack_little_endian 8 (length ns) ++ pack_little_endian_seq w ns) (λ ns. (length ns < 2 ^ 64) × Below (256 ^ w) ns) d (parse_numbers w d)
unfolding parse_numbers
parse_numbers_post w d pos h = post_bind _ (parse_number_post 8 d h) (λ a x. parses-leb a.value (length a.state / w) _ (λ l.
    let n : ℕ = a.value in
    let r : List ℕ = a.state in
    let u : unpack_little_endian_seq w (take (w * n) r) n ≡ unpack_little_endian_seq w r n = unpack_seq_take w n (w * n) r (omega arith) in
    let e : pack_little_endian_seq w (unpack_little_endian_seq w r n) ≡ take (w * n) r = pack_seq_unpack_seq w n r x.split.behind ((count_fits pos).0 l) in
    rw u (yields (rw (length_unpack_seq w r n, e) (split_join x.split (split_take (w * n) x.split.behind))) (rw (length_unpack_seq w r n) x.meets, unpack_seq_below w r n x.split.behind))))

-- a tuple has as many fields as its grammar
pub each_length : {vs : Vals} {gs : Gs} → EachInGrammar vs gs → length (seq_v vs) ≡ length (seq_g gs)
each_length each_nil = refl
each_length (each_cons i is) = ap suc (each_length is)

valid-case : (gs : Gs) (c : ℕ) → ValidGrammars gs → ValidGrammar (case_at gs c)
unfolding ValidGrammar
valid-case gnil c w = tt
valid-case (gcons g gs) zero w = w.0
valid-case (gcons g gs) (suc c) w = valid-case gs c w.1

-- a tuple of a valid grammar has fewer than 2^64 fields, so `ValidVal` asks no more of a value than document 01 does
mutual
  unfolding ValidGrammar ValidVal CountsBelow

  pub valid-counts : {v : Val} {g : G} → ValidGrammar g → ValInGrammar v g → CountsBelow v → ValidVal v
  valid-counts w in_constant c = tt
  valid-counts w in_number c = tt
  valid-counts w (in_array i) c = (c.0, valid-all w i c.1)
  valid-counts w (in_tuple i) c = (rw (each_length i) w.0, valid_each w.1 i c)
  valid-counts w in_number_array c = c
  valid-counts w (in_case {c = k} {gs = gs} l i) c = valid-counts (valid-case gs k w.1) i c

  valid-all : {vs : Vals} {g : G} → ValidGrammar g → AllInGrammar vs g → CountsBelowAll vs → ValidVals vs
  valid-all w all_nil c = tt
  valid-all w (all_cons i is) c = (valid-counts w i c.0, valid-all w is c.1)

  valid_each : {vs : Vals} {gs : Gs} → ValidGrammars gs → EachInGrammar vs gs → CountsBelowAll vs → ValidVals vs
  valid_each w each_nil c = tt
  valid_each w (each_cons i is) c = (valid-counts w.0 i c.0, valid_each w.1 is c.1)

pub elements_post : (g : G) → ((d : List ℕ) → Bytes d → Parses bytes_of (ValueOf g) d (parse g d)) → (n : ℕ) (d : List ℕ) → Bytes d → Parses bytes_of_all (λ vs. ElementsOf g vs × (length (seq_v vs) ≡ n)) d (elements n (parse g) d)
unfolding elements bytes_of ValidVal TypedVal
elements_post g r zero d h = yields (split_none h) (record { in_grammar = all_nil; valid = tt; typed = tt }, refl)
elements_post g r (suc n) d h =
    post_bind _ (r d h) (λ a x. post_bind _ (elements_post g r n a.state x.split.behind) (λ b y. yields (split_join x.split y.split)
    (record { in_grammar = all_cons x.meets.in_grammar y.meets.0.in_grammar; valid = (x.meets.valid, y.meets.0.valid); typed = (x.meets.typed, y.meets.0.typed) }, ap suc y.meets.1)))

mutual
  unfolding parse bytes_of ValidGrammar ValidVal TypedVal

  pub parse_post : (g : G) → ValidGrammar g → (d : List ℕ) → Bytes d → Parses bytes_of (ValueOf g) d (parse g d)
  parse_post GConstant w d h = yields (split_none h) (record { in_grammar = in_constant; valid = tt; typed = tt })
  parse_post (GNumber k) w d h = post_bind _ (parse_number_post (width k) d h) (λ a x. yields x.split (record { in_grammar = in_number; valid = tt; typed = x.meets }))
  parse_post (GArray g) w d h =
      post_bind _ (parse_number_post 8 d h) (λ a x. post_bind _ (elements_post g (parse_post g w) a.value a.state x.split.behind) (λ b y. yields (rw y.meets.1 (split_join x.split y.split))
      (record { in_grammar = in_array y.meets.0.in_grammar; valid = (rw y.meets.1 x.meets, y.meets.0.valid); typed = y.meets.0.typed })))
  parse_post (GTuple gs) w d h = post_bind _ (fields_post gs w.1 d h) (λ b y. yields y.split
      (record { in_grammar = in_tuple y.meets.in_grammar; valid = (rw (each_length y.meets.in_grammar) w.0, y.meets.valid); typed = y.meets.typed }))
  parse_post (GNumberArray k) w d h = post_bind _ (parse_numbers_post (element_width k) d (element_width_positive k) h) (λ a x. yields x.split (record { in_grammar = in_number_array; valid = x.meets.0; typed = x.meets.1 }))
  parse_post (GTaggedUnion gs) w d h =
      post_bind _ (parse_number_post 8 d h) (λ a x. post_bind _ (case_post gs w.1 a.value a.state x.split.behind) (λ b y. yields (split_join x.split y.split)
      (record { in_grammar = in_case y.meets.0 y.meets.1.in_grammar; valid = y.meets.1.valid; typed = (x.meets, y.meets.1.typed) })))

  pub fields_post : (gs : Gs) → ValidGrammars gs → (d : List ℕ) → Bytes d → Parses bytes_of_all (FieldsOf gs) d (parse_fields gs d)
  fields_post gnil w d h = yields (split_none h) (record { in_grammar = each_nil; valid = tt; typed = tt })
  fields_post (gcons g gs) w d h =
      post_bind _ (parse_post g w.0 d h) (λ a x. post_bind _ (fields_post gs w.1 a.state x.split.behind) (λ b y. yields (split_join x.split y.split)
      (record { in_grammar = each_cons x.meets.in_grammar y.meets.in_grammar; valid = (x.meets.valid, y.meets.valid); typed = (x.meets.typed, y.meets.typed) })))

  pub case_post : (gs : Gs) → ValidGrammars gs → (c : ℕ) (d : List ℕ) → Bytes d → Parses bytes_of (λ v. (c < length (seq_g gs)) × ValueOf (case_at gs c) v) d (parse_case_at gs c d)
  case_post gnil w c d h = fails tt tt
  case_post (gcons g gs) w zero d h = post_weaken (λ a x. record { split = x.split; meets = (omega arith, x.meets) }) (λ e q. tt) (parse_post g w.0 d h)
  case_post (gcons g gs) w (suc c) d h = post_weaken (λ a x. record { split = x.split; meets = (omega (arith, x.meets.0), x.meets.1) }) (λ e q. tt) (case_post gs w.1 c d h)

-- ---- the two directions, of `parse_val`

module _ {A : Type 0} where
  pub pair-parsed : (x : Parse A) (a : A) (rest : List ℕ) → pair x ≡ (some a, rest) → x ≡ yield a rest
  pair-parsed (accepted t) a rest e =
      let v : some t.value ≡ some a = ap (λ (p : Option A × List ℕ). p.0) e in
      let r : t.state ≡ rest = ap (λ (p : Option A × List ℕ). p.1) e in
      let w : t.value ≡ a = cc in
      rw (w, r)
  pair-parsed (refused u) a rest e = let z : none ≡ some a = ap (λ (p : Option A × List ℕ). p.0) e in cc

  pub pair-some : (x : Parse A) (a : A) → (pair x).0 ≡ some a → x ≡ yield a (pair x).1
  pair-some (accepted t) a e = let w : t.value ≡ a = cc in rw w
  pair-some (refused u) a e = cc

-- parsing a value's bytes, whatever stands behind them, gives the value and that
pub parse_val_bytes_of : {v : Val} {g : G} → ValueOf g v → (rest : List ℕ) → parse_val (bytes_of v ++ rest) g ≡ (some v, rest)
parse_val_bytes_of o rest = ap pair (parse_bytes_of o.in_grammar o.valid o.typed rest)

-- what is parsed from bytes was the bytes of a value of the grammar
pub parse_val-value : (g : G) → ValidGrammar g → (d : List ℕ) → Bytes d → (v : Val) (rest : List ℕ) → parse_val d g ≡ (some v, rest) → (d ≡ bytes_of v ++ rest) × ValueOf g v
parse_val-value g w d h v rest e =
    let x : Parsed bytes_of (ValueOf g) d (record { value = v; state = rest }) = post_accepted (rw (pair-parsed (parse g d) v rest e) at (parse_post g w d h)) in
    (x.split.whole, x.meets)

-- so GM accepts a value's bytes
pub demarshallable_bytes_of : {v : Val} {g : G} → ValidGrammar g → ValueOf g v → SizeOfV v < 2 ^ 64 → Demarshallable (bytes_of v) g
demarshallable_bytes_of {v} {g} w o l =
    let e : parse_val (bytes_of v) g ≡ (some v, []) = rw append-nil at (parse_val_bytes_of o []) in
    record { bounded = rw (length_bytes_of v) l; valid_grammar = w; value = v; parsed = ap (λ (p : Option Val × List ℕ). p.0) e; valid_val = o.valid; whole = ap (λ (p : Option Val × List ℕ). p.1) e }

-- and gives the value
pub demarshall_func_bytes_of : {v : Val} {g : G} → ValueOf g v → (h : Demarshallable (bytes_of v) g) → DemarshallFunc (bytes_of v) g h ≡ v
demarshall_func_bytes_of {v} {g} o h =
    let e : parse_val (bytes_of v) g ≡ (some v, []) = rw append-nil at (parse_val_bytes_of o []) in
    let f : some h.value ≡ some v = sym h.parsed ∙ ap (λ (p : Option Val × List ℕ). p.0) e in
    cc

-- and accepts nothing else
pub demarshallable_value : {d : List ℕ} {g : G} → Bytes d → (h : Demarshallable d g) → (d ≡ bytes_of (DemarshallFunc d g h)) × ValueOf g (DemarshallFunc d g h)
demarshallable_value {d} {g} b h =
    let e : parse g d ≡ yield h.value [] = pair-some (parse g d) h.value h.parsed ∙ rw h.whole in
    let x = parse_val-value g h.valid_grammar d b h.value [] (ap pair e) in
    (rw append-nil at x.0, x.1)

-- ---- one meaning

-- one parser that gives each of two values back from its bytes tells them apart
apart : {A : Type 0} {v u : A} (p : List ℕ → Parse A) (a b r s : List ℕ) → p (a ++ r) ≡ yield v r → p (b ++ s) ≡ yield u s → a ++ r ≡ b ++ s → (v ≡ u) × (r ≡ s)
apart {A} {v} {u} p a b r s x y e =
    let z : ◌≡◌ {A = Option A × List ℕ} (some v, r) (some u, s) = sym (ap pair x) ∙ ap (λ (d : List ℕ). pair (p d)) e ∙ ap pair y in
    let f : some v ≡ some u = ap (λ (q : Option A × List ℕ). q.0) z in
    (cc, ap (λ (q : Option A × List ℕ). q.1) z)

module _ {g : G} {v u : Val} (o : ValueOf g v) (q : ValueOf g u) where
  -- of two different values of one grammar neither has bytes that begin the other's, whatever follows them
  pub one_meaning : (r s : List ℕ) → bytes_of v ++ r ≡ bytes_of u ++ s → (v ≡ u) × (r ≡ s)
  one_meaning r s = apart (parse g) (bytes_of v) (bytes_of u) r s (parse_bytes_of o.in_grammar o.valid o.typed r) (parse_bytes_of q.in_grammar q.valid q.typed s)

  -- a front part is the first bytes, from none to all
  pub front-part : (k : ℕ) → bytes_of v ≡ take k (bytes_of u) → v ≡ u
  front-part k e = (one_meaning (drop k (bytes_of u)) [] (rw (e, take-append-drop, append-nil))).0

  -- bytes have at most one value
  pub one_value_lem : bytes_of v ≡ bytes_of u → v ≡ u
  one_value_lem e = (one_meaning [] [] (rw e)).0

-- the same of as many elements, which may all be without bytes, and of fields
module _ {vs us : Vals} where
  pub one_meaning_elements : {g : G} → ElementsOf g vs → ElementsOf g us → length (seq_v vs) ≡ length (seq_v us) → (r s : List ℕ) → bytes_of_all vs ++ r ≡ bytes_of_all us ++ s → (vs ≡ us) × (r ≡ s)
  one_meaning_elements {g} o q l r s = apart (elements (length (seq_v vs)) (parse g)) (bytes_of_all vs) (bytes_of_all us) r s (elements_bytes_of o.in_grammar o.valid o.typed r) (rw l (elements_bytes_of q.in_grammar q.valid q.typed s))

  pub one_meaning_fields : {gs : Gs} → FieldsOf gs vs → FieldsOf gs us → (r s : List ℕ) → bytes_of_all vs ++ r ≡ bytes_of_all us ++ s → (vs ≡ us) × (r ≡ s)
  one_meaning_fields {gs} o q r s = apart (parse_fields gs) (bytes_of_all vs) (bytes_of_all us) r s (fields_bytes_of o.in_grammar o.valid o.typed r) (fields_bytes_of q.in_grammar q.valid q.typed s)

-- ---- three lemmas that GM exports and whose text was not at hand: the statements are ours, after their names

-- a seq<V> and one value more
unfoldable pub snoc : Vals → Val → Vals
snoc vnil u = vcons u vnil
snoc (vcons v vs) u = vcons v (snoc vs u)

-- GM's `lemma_SeqSum_prefix`
pub lemma_seq_sum_prefix : (vs : Vals) (u : Val) → SeqSum (snoc vs u) ≡ SeqSum vs + SizeOfV u
unfolding SeqSum snoc
lemma_seq_sum_prefix vnil u = omega arith
lemma_seq_sum_prefix (vcons v vs) u = omega (arith, lemma_seq_sum_prefix vs u)

-- GM's `lemma_SizeOfV_parse_Val`
pub lemma_size_of_v_parse_val : (g : G) → ValidGrammar g → (d : List ℕ) → Bytes d → (v : Val) (rest : List ℕ) → parse_val d g ≡ (some v, rest) → SizeOfV v + length rest ≡ length d
lemma_size_of_v_parse_val g w d h v rest e = rw ((parse_val-value g w d h v rest e).0, length-append, length_bytes_of)

-- GM's `lemma_parse_Val_view_specific`: what parses from exactly its size parses from any longer part, the rest behind it
pub lemma_parse_val_view_specific : (g : G) → ValidGrammar g → (d : List ℕ) → Bytes d → (v : Val) (index bound : ℕ) → index + SizeOfV v ≤ bound → bound ≤ length d → (parse_val (slice index (index + SizeOfV v) d) g).0 ≡ some v → parse_val (slice index bound d) g ≡ (some v, slice (index + SizeOfV v) bound d)
lemma_parse_val_view_specific g w d h v index bound l m e =
    let part : List ℕ = slice index (index + SizeOfV v) d in
    let rest : List ℕ = (parse_val part g).1 in
    let x = parse_val-value g w part (bytes_drop index (take (index + SizeOfV v) d) (bytes_take (index + SizeOfV v) d h)) v rest (ap pair (pair-some (parse g part) v e)) in
    let n : length part ≡ SizeOfV v = length-slice index (index + SizeOfV v) d (omega arith) ∙ omega arith in
    let z : length rest ≡ 0 = omega (arith, simp (length-append, length_bytes_of) at (ap length x.0)) in
    let b : part ≡ bytes_of v = x.0 ∙ ap (λ (r : List ℕ). bytes_of v ++ r) (nothing rest z) ∙ append-nil (bytes_of v) in
    let j : slice index bound d ≡ bytes_of v ++ slice (index + SizeOfV v) bound d = sym (slice_join d index (index + SizeOfV v) bound (omega arith) l m) ∙ rw b in
    rw j (parse_val_bytes_of x.1 (slice (index + SizeOfV v) bound d))
  where
    nothing : (r : List ℕ) → length r ≡ 0 → r ≡ []
    nothing [] z = refl
    nothing (a ∷ r) z = absurd (omega arith)
