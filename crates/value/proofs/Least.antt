-- What the least length of a grammar is: no value is shorter, and one is of that length.
use Rattle.std.proofs.Common.{◌≡◌, refl, ap, ◌∙◌, true, List, [], ℕ, zero, suc, ◌+◌, ◌≤◌, ◌<◌, min, Option, Some, None, arith, length, ltb-true}
use Rattle.std.proofs.Math.Decide.{dec_le}
use Rattle.refusal.specs.Outcome.{accepted}
use Rattle.packed.specs.Packed.{Bytes}
use Rattle.packed.proofs.Laws.{pow_256}
use Rattle.value.specs.Kinds.{width}
use Rattle.value.specs.Tree.{G, Gs, GConstant, GNumber, GArray, GTuple, GNumberArray, GTaggedUnion, gnil, gcons, seq_g, case_at, Val, Vals, VConstant, VNumber, VArray, VTuple, VNumberArray, VCase, vnil, vcons, ValInGrammar, EachInGrammar, in_constant, in_number, in_array, in_tuple, in_number_array, in_case, all_nil, each_nil, each_cons, ValidGrammar, ValidGrammars, ValidVal, TypedVal, ValueOf, FieldsOf, SizeOfV, SeqSum}
use Rattle.value.specs.Step.{Step}
use Rattle.value.specs.Reading.{State, read_whole}
use Rattle.value.specs.Least.{add_least, min_least, least, fold_least, below_least, IsLeastLength}
use Rattle.value.proofs.KindLaws.{width-most}
use Rattle.value.proofs.Laws.{length_bytes_of, each_length}
use Rattle.value.proofs.Reading.{whole-accepted}

-- ---- no value is shorter

-- there is a least length, and it is at most s
abbrev AtMost : Option ℕ → ℕ → Type 0
AtMost None s = ⊥
AtMost (Some l) s = l ≤ s

add_at-most : (a b : Option ℕ) (x y : ℕ) → AtMost a x → AtMost b y → AtMost (add_least a b) (x + y)
unfolding add_least
add_at-most None b x y h k = h
add_at-most (Some a) None x y h k = k
add_at-most (Some a) (Some b) x y h k = omega arith

min-first : (a b : Option ℕ) (x : ℕ) → AtMost a x → AtMost (min_least a b) x
unfolding min_least
min-first None b x h = absurd h
min-first (Some a) None x h = h
min-first (Some a) (Some b) x h = omega arith

min-second : (a b : Option ℕ) (x : ℕ) → AtMost b x → AtMost (min_least a b) x
unfolding min_least
min-second None b x h = h
min-second (Some a) None x h = absurd h
min-second (Some a) (Some b) x h = omega arith

-- the least of the cases is at most that of each
min-case : (gs : Gs) (c x : ℕ) → c < length (seq_g gs) → AtMost (least (case_at gs c)) x → AtMost (fold_least min_least None gs) x
unfolding fold_least
min-case gnil c x l h = absurd (omega arith)
min-case (gcons g gs) zero x l h = min-first (least g) (fold_least min_least None gs) x h
min-case (gcons g gs) (suc c) x l h = min-second (least g) (fold_least min_least None gs) x (min-case gs c x (omega arith) h)

mutual
  unfolding least SizeOfV

  least-value : {v : Val} {g : G} → ValInGrammar v g → AtMost (least g) (SizeOfV v)
  least-value in_constant = omega arith
  least-value in_number = omega arith
  least-value (in_array i) = omega arith
  least-value (in_tuple i) = least_fields i
  least-value in_number_array = omega arith
  least-value (in_case {c} {v} {gs} l i) = add_at-most (Some 8) (fold_least min_least None gs) 8 (SizeOfV v) (omega arith) (min-case gs c (SizeOfV v) l (least-value i))

  least_fields : {vs : Vals} {gs : Gs} → EachInGrammar vs gs → AtMost (fold_least add_least (Some 0) gs) (SeqSum vs)
  least_fields each_nil = omega arith
  least_fields (each_cons {v} {vs} {g} {gs} i is) = add_at-most (least g) (fold_least add_least (Some 0) gs) (SizeOfV v) (SeqSum vs) (least-value i) (least_fields is)

-- ---- and one is of that length

-- a least length beside what it is the least of: none, or that of one of them
data Reaches {A : Type 0} (P : A → Type 0) (size : A → ℕ) : Option ℕ → Type 0 where
  without : Reaches P size None
  with : (l : ℕ) (a : A) → P a → l ≡ min 1048577 (size a) → Reaches P size (Some l)

module _ {A B C : Type 0} (P : A → Type 0) (Q : B → Type 0) (R : C → Type 0) (sizeA : A → ℕ) (sizeB : B → ℕ) (sizeC : C → ℕ) (join : A → B → C) where
  reaches_add : ((a : A) (b : B) → P a → Q b → R (join a b)) → ((a : A) (b : B) → sizeC (join a b) ≡ sizeA a + sizeB b) → (x y : Option ℕ) → Reaches P sizeA x → Reaches Q sizeB y → Reaches R sizeC (add_least x y)
  unfolding add_least
  reaches_add r e x y without k = without
  reaches_add r e x y (with l a p h) without = without
  reaches_add r e x y (with l a p h) (with m b q k) = with (min 1048577 (l + m)) (join a b) (r a b p q) (omega (arith, e a b))

-- the value of some case
abbrev OfCase : Gs → ℕ × Val → Type 0
OfCase gs x = (x.0 < length (seq_g gs)) × ValueOf (case_at gs x.0) x.1

reaches_min : (g : G) (gs : Gs) (x y : Option ℕ) → Reaches (ValueOf g) SizeOfV x → Reaches (OfCase gs) (λ z. SizeOfV z.1) y → Reaches (OfCase (gcons g gs)) (λ z. SizeOfV z.1) (min_least x y)
unfolding min_least
reaches_min g gs x y without without = without
reaches_min g gs x y without (with m z p k) = with m (suc z.0, z.1) (omega (arith, p.0), p.1) k
reaches_min g gs x y (with l v o h) without = with l (zero, v) (omega arith, o) h
reaches_min g gs x y (with l v o h) (with m z p k) = go (dec_le l m)
  where
    go : Dec (l ≤ m) → Reaches (OfCase (gcons g gs)) (λ z. SizeOfV z.1) (Some (min l m))
    go (yes c) = with (min l m) (zero, v) (omega arith, o) (omega arith)
    go (no c) = with (min l m) (suc z.0, z.1) (omega (arith, p.0), p.1) (omega arith)

mutual
  unfolding least SizeOfV ValidGrammar ValidVal TypedVal

  least-reached : (g : G) → ValidGrammar g → Reaches (ValueOf g) SizeOfV (least g)
  least-reached GConstant w = with 0 VConstant (record { in_grammar = in_constant; valid = tt; typed = tt }) refl
  least-reached (GNumber k) w = with (width k) (VNumber k 0) (record { in_grammar = in_number; valid = tt; typed = pow_256 (width k) }) (omega (arith, width-most k))
  least-reached (GArray g) w = with 8 (VArray vnil) (record { in_grammar = in_array all_nil; valid = (omega arith, tt); typed = tt }) refl
  least-reached (GTuple gs) w = go (fields_reached gs w.1)
    where
      go : {x : Option ℕ} → Reaches (FieldsOf gs) SeqSum x → Reaches (ValueOf (GTuple gs)) SizeOfV x
      go without = without
      go (with l vs o h) = with l (VTuple vs) (record { in_grammar = in_tuple o.in_grammar; valid = (omega (arith, each_length o.in_grammar, w.0), o.valid); typed = o.typed }) h
  least-reached (GNumberArray k) w = with 8 (VNumberArray k []) (record { in_grammar = in_number_array; valid = omega arith; typed = λ i h. absurd (omega arith) }) (omega arith)
  least-reached (GTaggedUnion gs) w =
      reaches_add (λ (u : Unit {0}). Unit {0}) (OfCase gs) (ValueOf (GTaggedUnion gs)) (λ _. 8) (λ z. SizeOfV z.1) SizeOfV (λ _ z. VCase z.0 z.1)
      (λ _ z _ p. record { in_grammar = in_case p.0 p.1.in_grammar; valid = p.1.valid; typed = (omega (arith, p.0, w.0), p.1.typed) })
      (λ _ z. refl)
      (Some 8) (fold_least min_least None gs) (with 8 tt tt refl) (cases_reached gs w.1)

  fields_reached : (gs : Gs) → ValidGrammars gs → Reaches (FieldsOf gs) SeqSum (fold_least add_least (Some 0) gs)
  fields_reached gnil w = with 0 vnil (record { in_grammar = each_nil; valid = tt; typed = tt }) refl
  fields_reached (gcons g gs) w =
      reaches_add (ValueOf g) (FieldsOf gs) (FieldsOf (gcons g gs)) SizeOfV SeqSum SeqSum vcons
      (λ v vs o os. record { in_grammar = each_cons o.in_grammar os.in_grammar; valid = (o.valid, os.valid); typed = (o.typed, os.typed) })
      (λ v vs. refl)
      (least g) (fold_least add_least (Some 0) gs) (least-reached g w.0) (fields_reached gs w.1)

  cases_reached : (gs : Gs) → ValidGrammars gs → Reaches (OfCase gs) (λ z. SizeOfV z.1) (fold_least min_least None gs)
  cases_reached gnil w = without
  cases_reached (gcons g gs) w = reaches_min g gs (least g) (fold_least min_least None gs) (least-reached g w.0) (cases_reached gs w.1)

pub least-length : (g : G) → IsLeastLength g
least-length g =
    record {
      absent = λ e v i. rw e at (least-value i);
      below = λ l e v i. rw e at (least-value i);
      reached = λ l e w. one (rw e at (least-reached g w));
    }
  where
    one : {l : ℕ} → Reaches (ValueOf g) SizeOfV (Some l) → (v : Val) × ValueOf g v × (l ≡ min 1048577 (SizeOfV v))
    one (with l v o h) = (v, o, h)

-- ---- a record that is shorter is not accepted

module _ (capacity : ℕ) (d : List ℕ) (g : G) (w : ValidGrammar g) (b : Bytes d) where
  pub below-least-refused : below_least (least g) (length d) ≡ true → (t : Step State Val) → ¬ (read_whole capacity d g ≡ accepted t)
  unfolding below_least
  below-least-refused h t e = go (least g) refl h
    where
      value : ValInGrammar t.value g
      value = (whole-accepted capacity d g w b t e).0.in_grammar

      size : length d ≡ SizeOfV t.value
      size = ap length (whole-accepted capacity d g w b t e).1 ∙ length_bytes_of t.value

      go : (o : Option ℕ) → least g ≡ o → below_least o (length d) ≡ true → ⊥
      go None q k = (least-length g).absent q t.value value
      go (Some l) q k = omega (arith, ltb-true (length d) l k, size, (least-length g).below l q t.value value)
