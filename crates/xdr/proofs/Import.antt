-- Import: what the XDR bytes of a value are read to, and what an accepted import read.
use Rattle.std.proofs.Common.{◌≡◌, refl, sym, ap, subst, ◌∙◌, Bool, true, false, not, List, [], ◌∷◌, ◌++◌, append_assoc, ℕ, zero, suc, ◌+◌, ◌-◌, ◌*◌, ◌^◌, ◌≤◌, ◌<◌, arith, length, take, drop, length-append, length-drop, take-append-drop, replicate, drop-drop, take_at, drop_at, length-take-le, leb, ltb, eqb, T, leb→le, ltb→lt, nltb→le, eqb→eq, le-leb}
use Rattle.std.proofs.Math.Dec.{nleb→lt}
use Rattle.std.proofs.Math.ListN.{length-replicate}
use Rattle.refusal.specs.Outcome.{accepted, refused, bind, test, reason, byte}
use Rattle.refusal.proofs.Outcome.{Post, fails, post_bind, post_test, post_reflects, post_weaken, bind-test, bind_assoc}
use Rattle.refusal.proofs.Tests.{and-true}
use Rattle.packed.specs.Packed.{Bytes, Below}
use Rattle.packed.proofs.Laws.{bytes_drop, length_pack_seq}
use Rattle.packed.proofs.Calls.{room-test}
use Rattle.big_endian.specs.BigEndian.{pack_big_endian, pack_big_endian_seq, unpack_big_endian_seq}
use Rattle.big_endian.proofs.Laws.{length_pack_big, unpack_big_packed, unpack_big_below, pack_big_unpack, length_pack_big_seq, length_unpack_big_seq, unpack_big_seq_below, unpack_big_seq_pack_seq, pack_big_seq_unpack_seq}
use Rattle.value.specs.Kinds.{width, Elements, element_width}
use Rattle.value.specs.Tree.{G, Gs, GConstant, GNumber, GArray, GTuple, GNumberArray, GTaggedUnion, gnil, gcons, Val, Vals, VConstant, VNumber, VArray, VTuple, VNumberArray, VCase, vnil, vcons, seq_g, seq_v, case_at, ValInGrammar, AllInGrammar, EachInGrammar, in_constant, in_number, in_array, in_tuple, in_number_array, in_case, all_nil, all_cons, each_nil, each_cons, ValidGrammar, ValidGrammars, ValidVal, TypedVal, TypedVals, ValueOf, ElementsOf, FieldsOf, row_count, row_counts}
use Rattle.value.specs.Step.{Step, yield, next, give, both, elements}
use Rattle.value.proofs.KindLaws.{width_positive}
use Rattle.value.proofs.Laws.{each_length}
use Rattle.value.proofs.Agreement.{row_count_positive, count-rows, gives}
use Rattle.rows.proofs.LayoutLaws.{after, within}
use Rattle.xdr.specs.Xdr.{padding, padded, xdr_of, xdr_of_all, xdr_size, store_of, store_of_all}
use Rattle.xdr.specs.Import.{Filling, Importing, move, begin, fill, zeros, claim, claimed, free, take_number, check_body, take_body, take_numbers, import_body, import_fields, import_case_at, import_val}
use Rattle.xdr.proofs.Sizes.{length-elements}

-- counts and tags that 4 bytes hold
unfoldable mutual
  pub Small : Val → Type 0
  Small VConstant = Unit {0}
  Small (VNumber k n) = Unit {0}
  Small (VArray vs) = (length (seq_v vs) < 256 ^ 4) × SmallAll vs
  Small (VTuple vs) = SmallAll vs
  Small (VNumberArray k ns) = length ns < 256 ^ 4
  Small (VCase c v) = (c < 256 ^ 4) × Small v

  pub SmallAll : Vals → Type 0
  SmallAll vnil = Unit {0}
  SmallAll (vcons v vs) = Small v × SmallAll vs

zeros-replicate : (n : ℕ) → zeros (replicate n 0) ≡ true
unfolding zeros
zeros-replicate zero = refl
zeros-replicate (suc n) = zeros-replicate n

replicate-zeros : (bs : List ℕ) → zeros bs ≡ true → bs ≡ replicate (length bs) 0
unfolding zeros
replicate-zeros [] t = refl
replicate-zeros (b ∷ bs) t =
    let x = and-true (eqb b 0) (zeros bs) t in
    let e : b ≡ 0 = eqb→eq b 0 (subst T (sym x.0) tt) in
    let r : bs ≡ replicate (length bs) 0 = replicate-zeros bs x.1 in
    cc

-- ---- from a value to its import

-- what becomes of a from s, where its `size` bytes stand and it takes `rows` rows and `held` bytes of the store: it is imported, or there
-- are too few rows, or the store is too short
pub data Fate (capacity len : ℕ) {A : Type 0} (a : A) (size rows held : ℕ) (s : Filling) : Importing A → Type 0 where
  fits : (t : Filling) → t.at ≡ s.at + size → t.begun ≡ s.begun + rows → t.used ≡ s.used + held → t.begun ≤ capacity → t.used ≤ len → Fate capacity len a size rows held s (yield a t)
  few : (p : ℕ) → capacity < s.begun + rows → Fate capacity len a size rows held s (refused (reason 8 (byte p)))
  tight : len < s.used + held → Fate capacity len a size rows held s (refused (reason 17 (byte len)))

module _ (capacity len : ℕ) where
  fate_few : {A : Type 0} {a : A} {size rows held : ℕ} {s : Filling} (b : Bool) (p : ℕ) (k : Unit {0} → Importing A) → (T b → Fate capacity len a size rows held s (k tt)) → (T (not b) → capacity < s.begun + rows) → Fate capacity len a size rows held s (test b (reason 8 (byte p)) k)
  fate_few true p k f n = f tt
  fate_few false p k f n = few p (n tt)

  fate_tight : {A : Type 0} {a : A} {size rows held : ℕ} {s : Filling} (b : Bool) (k : Unit {0} → Importing A) → (T b → Fate capacity len a size rows held s (k tt)) → (T (not b) → len < s.used + held) → Fate capacity len a size rows held s (bind (test b (reason 17 (byte len)) accepted) k)
  fate_tight true k f n = f tt
  fate_tight false k f n = tight (n tt)

  fate_claimed : {A : Type 0} {a : A} {size rows held : ℕ} {s : Filling} (k : Filling → Importing A) → 0 < rows → (s.begun < capacity → Fate capacity len a size rows held s (k (begin s))) → Fate capacity len a size rows held s (claimed capacity k s)
  unfolding claim
  fate_claimed {s = s} k p f = rw (bind-test _ _ _ k) (fate_few (ltb s.begun capacity) s.at _ (λ b. f (ltb→lt s.begun capacity b)) (λ b. omega (arith, nltb→le s.begun capacity b)))

  fate_next : {A B : Type 0} {a : A} {b : B} {size rows held size' rows' held' : ℕ} {s s' : Filling} {x : Importing A} (k : A → Filling → Importing B) → Fate capacity len a size rows held s x
      → (capacity < s.begun + rows → capacity < s'.begun + rows') → (len < s.used + held → len < s'.used + held')
      → ((t : Filling) → t.at ≡ s.at + size → t.begun ≡ s.begun + rows → t.used ≡ s.used + held → t.begun ≤ capacity → t.used ≤ len → Fate capacity len b size' rows' held' s' (k a t))
      → Fate capacity len b size' rows' held' s' (next x k)
  fate_next k (fits t i j l m n) v w f = f t i j l m n
  fate_next k (few p i) v w f = few p (v i)
  fate_next k (tight i) v w f = tight (w i)

  module _ (d : List ℕ) where
    -- a number n of w bytes
    fate_number : {A : Type 0} {a : A} {size rows held : ℕ} {s : Filling} (w n : ℕ) (rest : List ℕ) (u : Filling) (k : ℕ → Filling → Importing A) → 0 < w → drop u.at d ≡ pack_big_endian w n ++ rest → n < 256 ^ w
        → Fate capacity len a size rows held s (k n (move w u)) → Fate capacity len a size rows held s (next (take_number d w u) k)
    unfolding take_number
    fate_number w n rest u k pos e l f =
        let m : length (pack_big_endian w n) ≡ w = length_pack_big w n in
        let i : u.at + w ≤ length d = omega (arith, within d u.at (pack_big_endian w n) rest e (omega arith)) in
        rw (le-leb (u.at + w) (length d) i, e, unpack_big_packed w n rest l) f

    -- the elements and their padding behind the count
    fate_body : {s : Filling} (k : Elements) (ns rest : List ℕ) (u : Filling) → u.at ≡ s.at → u.begun ≡ s.begun + 1 → u.used ≡ s.used → u.begun ≤ capacity → drop (u.at + 4) d ≡ padded (pack_big_endian_seq (element_width k) ns) ++ rest → Below (256 ^ element_width k) ns
        → Fate capacity len ns (xdr_size (VNumberArray k ns)) 1 (element_width k * length ns) s (take_body d len k (length ns) u (move 4 u))
    unfolding check_body padded
    fate_body {s} k ns rest u a g o c e b =
        let size : ℕ = element_width k * length ns in
        let bs : List ℕ = pack_big_endian_seq (element_width k) ns in
        let zs : List ℕ = replicate (padding size) 0 in
        let m : length bs ≡ size = length_pack_big_seq (element_width k) ns in
        let e' : drop (u.at + 4) d ≡ bs ++ (zs ++ rest) = e ∙ rw (m, append_assoc) in
        let part : List ℕ = drop (u.at + 4) d in
        let l : length part ≡ size + (padding size + length rest) = ap length e' ∙ rw (length-append, length-append, m, length-replicate) in
        let z : take (padding size) (drop size part) ≡ zs = ap (λ (x : List ℕ). take (padding size) (drop size x)) e' ∙ ap (take (padding size)) (drop_at bs (zs ++ rest) size m) ∙ take_at zs rest (padding size) (length-replicate (padding size) 0) in
        let v : unpack_big_endian_seq (element_width k) part (length ns) ≡ ns = ap (λ (x : List ℕ). unpack_big_endian_seq (element_width k) x (length ns)) e' ∙ unpack_big_seq_pack_seq (element_width k) ns (zs ++ rest) b in
        rw (le-leb (size + padding size) (length part) (omega arith), room-test len u.used size)
        (rw bind_assoc
        (fate_tight (leb (u.used + size) len) _
        (λ t. rw (z, zeros-replicate (padding size), v, length-elements k ns) (fits (fill size (move (size + padding size) (move 4 u))) (omega arith) (omega arith) (omega arith) c (leb→le (u.used + size) len t)))
        (λ t. omega (arith, nleb→lt (u.used + size) len t))))

    behind-count : (p n : ℕ) (bs rest : List ℕ) → drop p d ≡ (pack_big_endian 4 n ++ bs) ++ rest → drop (p + 4) d ≡ bs ++ rest
    behind-count p n bs rest h = after d p 4 (pack_big_endian 4 n) (bs ++ rest) (h ∙ append_assoc (pack_big_endian 4 n) bs rest) (length_pack_big 4 n)

    fate_numbers : (k : Elements) (ns : List ℕ) (s : Filling) (rest : List ℕ) → s.begun < capacity → drop s.at d ≡ xdr_of (VNumberArray k ns) ++ rest → Below (256 ^ element_width k) ns → length ns < 256 ^ 4
        → Fate capacity len ns (xdr_size (VNumberArray k ns)) 1 (element_width k * length ns) s (take_numbers d len k (begin s))
    unfolding xdr_of take_numbers
    fate_numbers k ns s rest b h y m =
        let bs : List ℕ = padded (pack_big_endian_seq (element_width k) ns) in
        fate_number 4 (length ns) (bs ++ rest) (begin s) _ (omega arith) (h ∙ append_assoc (pack_big_endian 4 (length ns)) bs rest) m
        (fate_body k ns rest (begin s) refl (omega arith) refl b (behind-count s.at (length ns) bs rest h) y)

    fate_case : {a : Val} {size rows held : ℕ} {s : Filling} (gs : Gs) (c : ℕ) (q t : Filling) → c < length (seq_g gs) → Fate capacity len a size rows held s (import_val capacity len d (case_at gs c) t) → Fate capacity len a size rows held s (import_case_at capacity len d gs c q t)
    unfolding import_body
    fate_case gnil c q t l f = absurd (omega arith)
    fate_case (gcons g gs) zero q t l f = f
    fate_case (gcons g gs) (suc c) q t l f = fate_case gs c q t (omega arith) f

    -- a value and those behind it
    both_fate : (v : Val) (vs : Vals) (s : Filling) (rest : List ℕ) → drop s.at d ≡ xdr_of_all (vcons v vs) ++ rest → {x : Importing Val} (k : Filling → Importing Vals) → Fate capacity len v (xdr_size v) (row_count v) (length (store_of v)) s x
        → ((t : Filling) → t.begun ≤ capacity → t.used ≤ len → drop t.at d ≡ xdr_of_all vs ++ rest → Fate capacity len vs (length (xdr_of_all vs)) (row_counts vs) (length (store_of_all vs)) t (k t))
        → Fate capacity len (vcons v vs) (length (xdr_of_all (vcons v vs))) (row_counts (vcons v vs)) (length (store_of_all (vcons v vs))) s (both x k)
    unfolding xdr_of store_of row_count
    both_fate v vs s rest h k x f =
        let n : length (store_of v ++ store_of_all vs) ≡ length (store_of v) + length (store_of_all vs) = length-append (store_of v) (store_of_all vs) in
        let e : length (xdr_of v ++ xdr_of_all vs) ≡ length (xdr_of v) + length (xdr_of_all vs) = length-append (xdr_of v) (xdr_of_all vs) in
        fate_next _ x (λ a. omega arith) (λ a. omega arith)
        (λ t j g o c u. fate_next _ (f t c u (rw j (after d s.at (length (xdr_of v)) (xdr_of v) (xdr_of_all vs ++ rest) (h ∙ append_assoc (xdr_of v) (xdr_of_all vs) rest) refl))) (λ a. omega arith) (λ a. omega arith)
        (λ t' j' g' o' c' u'. fits t' (omega arith) (omega arith) (omega arith) c' u'))

    -- a value, where its body is known
    value_fate : (v : Val) (g : G) (s : Filling) → (s.begun < capacity → Fate capacity len v (xdr_size v) (row_count v) (length (store_of v)) s (import_body capacity len d g (begin s))) → Fate capacity len v (xdr_size v) (row_count v) (length (store_of v)) s (import_val capacity len d g s)
    value_fate v g s f = fate_claimed (import_body capacity len d g) (row_count_positive v) f

    mutual
      unfolding import_body elements xdr_of store_of TypedVal Small row_count

      body_fate : {v : Val} {g : G} → ValInGrammar v g → TypedVal v → Small v → (s : Filling) (rest : List ℕ) → s.begun < capacity → s.used ≤ len → drop s.at d ≡ xdr_of v ++ rest
          → Fate capacity len v (xdr_size v) (row_count v) (length (store_of v)) s (import_body capacity len d g (begin s))
      body_fate in_constant y m s rest b l h = fits (begin s) (omega arith) (omega arith) (omega arith) b l
      body_fate (in_number {k} {n}) y m s rest b l h =
          fate_number (width k) n rest (begin s) _ (width_positive k) h y (fits (move (width k) (begin s)) (rw (length_pack_big (width k) n)) (omega arith) (omega arith) b l)
      body_fate (in_array {vs} {g} i) y m s rest b l h =
          fate_number 4 (length (seq_v vs)) (xdr_of_all vs ++ rest) (begin s) _ (omega arith) (h ∙ append_assoc (pack_big_endian 4 (length (seq_v vs))) (xdr_of_all vs) rest) m.0
          (fate_few (leb (length (seq_v vs)) (free capacity (begin s))) s.at _
          (λ t. fate_next _ (elements_fate i y m.1 (move 4 (begin s)) rest b l (behind-count s.at (length (seq_v vs)) (xdr_of_all vs) rest h)) (λ a. omega arith) (λ a. omega arith)
          (λ t j e o c u. fits t (rw (length-append, length_pack_big) (omega arith)) (omega arith) o c u))
          (λ t. omega (arith, nleb→lt (length (seq_v vs)) (free capacity (begin s)) t, count-rows vs)))
      body_fate (in_tuple {vs} i) y m s rest b l h =
          fate_next _ (fields_fate i y m (begin s) rest b l h) (λ a. omega arith) (λ a. omega arith) (λ t j e o c u. fits t j (omega arith) o c u)
      body_fate (in_number_array {k} {ns}) y m s rest b l h =
          fate_next _ (fate_numbers k ns s rest b h y m) (λ a. a) (λ a. rw (length_pack_seq (element_width k) ns) a) (λ t j e o c u. fits t j e (rw (length_pack_seq (element_width k) ns) o) c u)
      body_fate (in_case {c} {v} {gs} j i) y m s rest b l h =
          fate_number 4 c (xdr_of v ++ rest) (begin s) _ (omega arith) (h ∙ append_assoc (pack_big_endian 4 c) (xdr_of v) rest) m.0
          (fate_next _ (fate_case gs c (begin s) (move 4 (begin s)) j (value_fate v (case_at gs c) (move 4 (begin s)) (λ b'. body_fate i y.1 m.1 (move 4 (begin s)) rest b' l (behind-count s.at c (xdr_of v) rest h)))) (λ a. omega arith) (λ a. omega arith)
          (λ t j e o c u. fits t (rw (length-append, length_pack_big) (omega arith)) (omega arith) o c u))

      elements_fate : {vs : Vals} {g : G} → AllInGrammar vs g → TypedVals vs → SmallAll vs → (s : Filling) (rest : List ℕ) → s.begun ≤ capacity → s.used ≤ len → drop s.at d ≡ xdr_of_all vs ++ rest
          → Fate capacity len vs (length (xdr_of_all vs)) (row_counts vs) (length (store_of_all vs)) s (elements (length (seq_v vs)) (import_val capacity len d g) s)
      elements_fate all_nil y m s rest b l h = fits s (omega arith) (omega arith) (omega arith) b l
      elements_fate (all_cons {v} {vs} {g} i is) y m s rest b l h = both_fate v vs s rest h (elements (length (seq_v vs)) (import_val capacity len d g)) (value_fate v g s (λ b'. body_fate i y.0 m.0 s (xdr_of_all vs ++ rest) b' l (h ∙ append_assoc (xdr_of v) (xdr_of_all vs) rest)))
          (λ t b' l' h'. elements_fate is y.1 m.1 t rest b' l' h')

      fields_fate : {vs : Vals} {gs : Gs} → EachInGrammar vs gs → TypedVals vs → SmallAll vs → (s : Filling) (rest : List ℕ) → s.begun ≤ capacity → s.used ≤ len → drop s.at d ≡ xdr_of_all vs ++ rest
          → Fate capacity len vs (length (xdr_of_all vs)) (row_counts vs) (length (store_of_all vs)) s (import_fields capacity len d gs s)
      fields_fate each_nil y m s rest b l h = fits s (omega arith) (omega arith) (omega arith) b l
      fields_fate (each_cons {v} {vs} {g} {gs} i is) y m s rest b l h = both_fate v vs s rest h (import_fields capacity len d gs) (value_fate v g s (λ b'. body_fate i y.0 m.0 s (xdr_of_all vs ++ rest) b' l (h ∙ append_assoc (xdr_of v) (xdr_of_all vs) rest)))
          (λ t b' l' h'. fields_fate is y.1 m.1 t rest b' l' h')

    -- where the XDR bytes of v stand
    pub import_fate : {v : Val} {g : G} → ValInGrammar v g → TypedVal v → Small v → (s : Filling) (rest : List ℕ) → s.used ≤ len → drop s.at d ≡ xdr_of v ++ rest
        → Fate capacity len v (xdr_size v) (row_count v) (length (store_of v)) s (import_val capacity len d g s)
    import_fate {v} {g} i y m s rest l h = value_fate v g s (λ b. body_fate i y m s rest b l h)

-- ---- from an import to its value

-- bs stand in d from byte p up to byte q
pub record At (d : List ℕ) (p : ℕ) (bs : List ℕ) (q : ℕ) : Type 0 where
  pub here : drop p d ≡ bs ++ drop q d
  pub end : q ≡ p + length bs
  pub inside : q ≤ length d

at_none : (d : List ℕ) (p : ℕ) → p ≤ length d → At d p [] p
at_none d p h = record { here = refl; end = omega arith; inside = h }

at_join : {d : List ℕ} {p q r : ℕ} (a b : List ℕ) → At d p a q → At d q b r → At d p (a ++ b) r
at_join a b x y = record { here = rw (x.here, y.here, append_assoc); end = rw length-append (omega (arith, x.end, y.end)); inside = y.inside }

at_take : (d : List ℕ) (p n : ℕ) → p + n ≤ length d → At d p (take n (drop p d)) (p + n)
at_take d p n h =
    let l : length (drop p d) ≡ length d - p = length-drop p d in
    record { here = rw (← drop-drop n p d, take-append-drop); end = rw (length-take-le n (drop p d) (omega arith)); inside = h }

-- what holds where nothing is refused behind a count
pub body_post : (len used size : ℕ) (part : List ℕ) (p : ℕ) → Post (λ _. (size + padding size ≤ length part) × (used + size ≤ len) × (take (padding size) (drop size part) ≡ replicate (padding size) 0)) (λ _. Unit {0}) (check_body len used size part p)
unfolding check_body
body_post len used size part p =
    rw (room-test len used size, bind-test (leb (used + size) len))
    (post_test (leb (size + padding size) (length part)) _ _ (λ a. post_test (leb (used + size) len) _ _ (λ b. post_reflects (zeros (take (padding size) (drop size part))) _ _ (λ z. z, λ z. z) (λ c.
    let l : size + padding size ≤ length part = leb→le (size + padding size) (length part) a in
    let n : length (take (padding size) (drop size part)) ≡ padding size = length-take-le (padding size) (drop size part) (rw length-drop (omega arith)) in
    gives (l, leb→le (used + size) len b, replicate-zeros (take (padding size) (drop size part)) c ∙ ap (λ (j : ℕ). replicate j 0) n)) (λ _. tt)) (λ _. tt)) (λ _. tt))

module _ (capacity len : ℕ) (d : List ℕ) where
  -- what was imported from s: its bytes stood there, its rows and its bytes of the store are counted and fit, and it has the property
  pub record Took {A : Type 0} (bytes : A → List ℕ) (rows held : A → ℕ) (P : A → Type 0) (s : Filling) (t : Step Filling A) : Type 0 where
    pub there : At d s.at (bytes t.value) t.state.at
    pub begun : t.state.begun ≡ s.begun + rows t.value
    pub claimed : t.state.begun ≤ capacity
    pub used : t.state.used ≡ s.used + held t.value
    pub filled : t.state.used ≤ len
    pub meets : P t.value

  abbrev pub Takes : {A : Type 0} → (A → List ℕ) → (A → ℕ) → (A → ℕ) → (A → Type 0) → Filling → Importing A → Type 0
  Takes bytes rows held P s x = Post (Took bytes rows held P s) (λ _. Unit {0}) x

  -- a value of the grammar, with counts and tags that 4 bytes hold
  abbrev pub TakesVal : (Val → Type 0) → Filling → Importing Val → Type 0
  TakesVal P s x = Takes xdr_of row_count (λ v. length (store_of v)) P s x

  abbrev TakesVals : (Vals → Type 0) → Filling → Importing Vals → Type 0
  TakesVals P s x = Takes xdr_of_all row_counts (λ vs. length (store_of_all vs)) P s x

  takes_claimed : (P : Val → Type 0) (s : Filling) (k : Filling → Importing Val) → (s.begun < capacity → TakesVal P s (k (begin s))) → TakesVal P s (claimed capacity k s)
  unfolding claim
  takes_claimed P s k c = rw (bind-test _ _ _ k) (post_test (ltb s.begun capacity) _ _ (λ b. c (ltb→lt s.begun capacity b)) (λ _. tt))

  module _ (ok : Bytes d) where
    number_post : (w : ℕ) (s : Filling) → Post (λ t. At d s.at (pack_big_endian w t.value) t.state.at × (t.value < 256 ^ w) × (t.state ≡ move w s)) (λ _. Unit {0}) (take_number d w s)
    unfolding take_number
    number_post w s = post_test (leb (s.at + w) (length d)) _ _ (λ b.
        let h : s.at + w ≤ length d = leb→le (s.at + w) (length d) b in
        let l : length (drop s.at d) ≡ length d - s.at = length-drop s.at d in
        let o : Bytes (drop s.at d) = bytes_drop s.at d ok in
        gives (rw (pack_big_unpack w (drop s.at d) o (omega arith)) (at_take d s.at w h), unpack_big_below w (drop s.at d) o, refl))
        (λ _. tt)

    -- a number and what goes on from it
    takes_number : {A : Type 0} {bytes : A → List ℕ} {rows held : A → ℕ} {P : A → Type 0} {s : Filling} (w : ℕ) (u : Filling) (k : ℕ → Filling → Importing A) → ((n : ℕ) → At d u.at (pack_big_endian w n) (u.at + w) → n < 256 ^ w → Takes bytes rows held P s (k n (move w u))) → Takes bytes rows held P s (next (take_number d w u) k)
    takes_number {A} {bytes} {rows} {held} {P} {s} w u k c = post_bind _ (number_post w u) (λ a x. rw x.2 (c a.value (rw x.2 at x.0) x.1))

    -- the elements and their padding behind the count n of the value begun at s
    takes_body : (k : Elements) (n : ℕ) (s : Filling) → s.begun < capacity → At d s.at (pack_big_endian 4 n) (s.at + 4) → n < 256 ^ 4
        → Takes (λ ns. xdr_of (VNumberArray k ns)) (λ _. 1) (λ ns. element_width k * length ns) (λ ns. (length ns < 256 ^ 4) × Below (256 ^ element_width k) ns) s (take_body d len k n (begin s) (move 4 (begin s)))
    unfolding xdr_of padded
    takes_body k n s b x m = post_bind _ (body_post len s.used (element_width k * n) (drop (s.at + 4) d) s.at) (λ _ h.
        let w : ℕ = element_width k in
        let size : ℕ = w * n in
        let p : ℕ = s.at + 4 in
        let l : length (drop p d) ≡ length d - p = length-drop p d in
        let ns : List ℕ = unpack_big_endian_seq w (drop p d) n in
        let e : length ns ≡ n = length_unpack_big_seq w (drop p d) n in
        let o : Bytes (drop p d) = bytes_drop p d ok in
        let y : At d p (pack_big_endian_seq w ns) (p + size) = rw (pack_big_seq_unpack_seq w n (drop p d) o (omega (arith, h.0))) (at_take d p size (omega (arith, x.inside, h.0))) in
        let q : length (pack_big_endian_seq w ns) ≡ size = length_pack_big_seq w ns ∙ rw e in
        let z : take (padding size) (drop (p + size) d) ≡ replicate (padding size) 0 = ap (take (padding size)) (sym (drop-drop size p d)) ∙ h.2 in
        let f : At d (p + size) (replicate (padding size) 0) (p + size + padding size) = rw z at (at_take d (p + size) (padding size) (omega (arith, x.inside, h.0))) in
        let g : p + size + padding size ≡ p + (size + padding size) = omega arith in
        gives (record {
          there = rw (e, q) (at_join (pack_big_endian 4 n) (pack_big_endian_seq w ns ++ replicate (padding size) 0) x (rw g at (at_join (pack_big_endian_seq w ns) (replicate (padding size) 0) y f)));
          begun = omega arith;
          claimed = b;
          used = rw e;
          filled = h.1;
          meets = (rw e m, unpack_big_seq_below w (drop p d) n o);
        }))

    takes_numbers : (k : Elements) (s : Filling) → s.begun < capacity → Takes (λ ns. xdr_of (VNumberArray k ns)) (λ _. 1) (λ ns. element_width k * length ns) (λ ns. (length ns < 256 ^ 4) × Below (256 ^ element_width k) ns) s (take_numbers d len k (begin s))
    unfolding take_numbers
    takes_numbers k s b = takes_number 4 (begin s) _ (λ n x m. takes_body k n s b x m)

    -- what is made of what was imported, where bytes, rows and store are those of both
    takes_give : {A B : Type 0} {bytes : A → List ℕ} {rows held : A → ℕ} {P : A → Type 0} {bytes' : B → List ℕ} {rows' held' : B → ℕ} {Q : B → Type 0} {s s' : Filling} {x : Importing A} (f : A → B) (front : List ℕ) → Takes bytes rows held P s x
        → At d s'.at front s.at → ((a : A) → P a → (bytes' (f a) ≡ front ++ bytes a) × (s.begun + rows a ≡ s'.begun + rows' (f a)) × (s.used + held a ≡ s'.used + held' (f a)) × Q (f a)) → Takes bytes' rows' held' Q s' (give f x)
    takes_give {bytes = bytes} {s = s} {s'} f front x y c = post_bind _ x (λ a t.
        let z = c a.value t.meets in
        gives (record { there = rw z.0 (at_join front (bytes a.value) y t.there); begun = t.begun ∙ z.1; claimed = t.claimed; used = t.used ∙ z.2; filled = t.filled; meets = z.3 }))

    weaken : {P Q : Val → Type 0} {s : Filling} {x : Importing Val} → ((v : Val) → P v → Q v) → TakesVal P s x → TakesVal Q s x
    weaken f x = post_weaken (λ t y. record { there = y.there; begun = y.begun; claimed = y.claimed; used = y.used; filled = y.filled; meets = f t.value y.meets }) (λ _ _. tt) x

    -- a value and those behind it
    takes_both : {P : Val → Type 0} {Q R : Vals → Type 0} (s : Filling) {x : Importing Val} (k : Filling → Importing Vals) → TakesVal P s x → ((t : Filling) → t.at ≤ length d → t.begun ≤ capacity → t.used ≤ len → TakesVals Q t (k t)) → ((v : Val) (vs : Vals) → P v → Q vs → R (vcons v vs)) → TakesVals R s (both x k)
    unfolding xdr_of store_of row_count
    takes_both s k x c f = post_bind _ x (λ a t. post_bind _ (c a.state t.there.inside t.claimed t.filled) (λ b u.
        gives (record {
          there = at_join (xdr_of a.value) (xdr_of_all b.value) t.there u.there;
          begun = omega (arith, t.begun, u.begun);
          claimed = u.claimed;
          used = rw (length-append (store_of a.value) (store_of_all b.value)) (omega (arith, t.used, u.used));
          filled = u.filled;
          meets = f a.value b.value t.meets u.meets;
        })))

    -- a value of g with small counts and tags; elements, fields, and the value of a case
    abbrev ValOf : G → Val → Type 0
    ValOf g v = ValueOf g v × Small v

    abbrev AllOf : G → ℕ → Vals → Type 0
    AllOf g n vs = ElementsOf g vs × SmallAll vs × (length (seq_v vs) ≡ n)

    abbrev EachOf : Gs → Vals → Type 0
    EachOf gs vs = FieldsOf gs vs × SmallAll vs

    abbrev CaseOf : Gs → ℕ → Val → Type 0
    CaseOf gs c v = (c < length (seq_g gs)) × ValueOf (case_at gs c) v × Small v

    elements_takes : (g : G) → ((s : Filling) → s.at ≤ length d → s.begun ≤ capacity → s.used ≤ len → TakesVal (ValOf g) s (import_val capacity len d g s)) → (n : ℕ) (s : Filling) → s.at ≤ length d → s.begun ≤ capacity → s.used ≤ len → TakesVals (AllOf g n) s (elements n (import_val capacity len d g) s)
    unfolding elements xdr_of store_of row_count ValidVal TypedVal Small
    elements_takes g r zero s h b l = gives (record { there = at_none d s.at h; begun = omega arith; claimed = b; used = omega arith; filled = l; meets = (record { in_grammar = all_nil; valid = tt; typed = tt }, tt, refl) })
    elements_takes g r (suc n) s h b l = takes_both s (elements n (import_val capacity len d g)) (r s h b l) (λ t i c m. elements_takes g r n t i c m)
        (λ v vs x y. (record { in_grammar = all_cons x.0.in_grammar y.0.in_grammar; valid = (x.0.valid, y.0.valid); typed = (x.0.typed, y.0.typed) }, (x.1, y.1), ap suc y.2))

    mutual
      unfolding import_body xdr_of store_of row_count ValidGrammar ValidVal TypedVal Small

      -- a value begun at s
      body_takes : (g : G) → ValidGrammar g → (s : Filling) → s.at ≤ length d → s.begun < capacity → s.used ≤ len → TakesVal (ValOf g) s (import_body capacity len d g (begin s))
      body_takes GConstant w s h b l = gives (record { there = at_none d s.at h; begun = omega arith; claimed = b; used = omega arith; filled = l; meets = (record { in_grammar = in_constant; valid = tt; typed = tt }, tt) })
      body_takes (GNumber k) w s h b l = takes_number (width k) (begin s) _ (λ n x m. gives (record { there = x; begun = omega arith; claimed = b; used = omega arith; filled = l; meets = (record { in_grammar = in_number; valid = tt; typed = m }, tt) }))
      body_takes (GArray g) w s h b l = takes_number 4 (begin s) _ (λ n x m. post_test (leb n (free capacity (begin s))) _ _
          (λ t. takes_give VArray (pack_big_endian 4 n) (elements_takes g (λ u i c o. takes_claimed (ValOf g) u (import_body capacity len d g) (λ c'. body_takes g w u i c' o)) n (move 4 (begin s)) x.inside b l) x
          (λ vs y. (rw y.2, omega arith, refl, (record { in_grammar = in_array y.0.in_grammar; valid = (omega (arith, y.2), y.0.valid); typed = y.0.typed }, (rw y.2 m, y.1)))))
          (λ _. tt))
      body_takes (GTuple gs) w s h b l = takes_give VTuple [] (fields_takes gs w.1 (begin s) h b l) (at_none d s.at h)
          (λ vs y. (refl, omega arith, refl, (record { in_grammar = in_tuple y.0.in_grammar; valid = (rw (each_length y.0.in_grammar) w.0, y.0.valid); typed = y.0.typed }, y.1)))
      body_takes (GNumberArray k) w s h b l = takes_give (VNumberArray k) [] (takes_numbers k s b) (at_none d s.at h)
          (λ ns y. (refl, omega arith, rw (length_pack_seq (element_width k) ns), (record { in_grammar = in_number_array; valid = omega (arith, y.0); typed = y.1 }, y.0)))
      body_takes (GTaggedUnion gs) w s h b l = takes_number 4 (begin s) _ (λ c x m.
          takes_give (VCase c) (pack_big_endian 4 c) (case_takes gs w.1 c (begin s) (move 4 (begin s)) x.inside b l) x
          (λ v y. (refl, omega arith, refl, (record { in_grammar = in_case y.0 y.1.in_grammar; valid = y.1.valid; typed = (omega arith, y.1.typed) }, (m, y.2)))))

      pub fields_takes : (gs : Gs) → ValidGrammars gs → (s : Filling) → s.at ≤ length d → s.begun ≤ capacity → s.used ≤ len → TakesVals (EachOf gs) s (import_fields capacity len d gs s)
      fields_takes gnil w s h b l = gives (record { there = at_none d s.at h; begun = omega arith; claimed = b; used = omega arith; filled = l; meets = (record { in_grammar = each_nil; valid = tt; typed = tt }, tt) })
      fields_takes (gcons g gs) w s h b l = takes_both s (import_fields capacity len d gs) (takes_claimed (ValOf g) s (import_body capacity len d g) (λ c. body_takes g w.0 s h c l)) (λ t i c m. fields_takes gs w.1 t i c m)
          (λ v vs x y. (record { in_grammar = each_cons x.0.in_grammar y.0.in_grammar; valid = (x.0.valid, y.0.valid); typed = (x.0.typed, y.0.typed) }, (x.1, y.1)))

      case_takes : (gs : Gs) → ValidGrammars gs → (c : ℕ) (q s : Filling) → s.at ≤ length d → s.begun ≤ capacity → s.used ≤ len → TakesVal (CaseOf gs c) s (import_case_at capacity len d gs c q s)
      case_takes gnil w c q s h b l = fails _ tt
      case_takes (gcons g gs) w zero q s h b l = takes_claimed (CaseOf (gcons g gs) zero) s (import_body capacity len d g) (λ c. weaken (λ v y. (omega arith, y.0, y.1)) (body_takes g w.0 s h c l))
      case_takes (gcons g gs) w (suc c) q s h b l = weaken (λ v y. (omega (arith, y.0), y.1, y.2)) (case_takes gs w.1 c q s h b l)

    -- what is imported at s
    pub import_takes : (g : G) → ValidGrammar g → (s : Filling) → s.at ≤ length d → s.used ≤ len → TakesVal (ValOf g) s (import_val capacity len d g s)
    import_takes g w s h l = takes_claimed (ValOf g) s (import_body capacity len d g) (λ b. body_takes g w s h b l)
