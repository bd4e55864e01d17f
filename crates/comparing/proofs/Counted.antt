-- What counts of two values of one grammar, and its bytes in their records.
use Rattle.std.proofs.Common.{◌≡◌, refl, sym, ap, ◌∙◌, ◌↔◌, List, [], ◌++◌, ℕ, ◌+◌, ◌≤◌, zero-add, arith, drop, drop_at}
use Rattle.value.specs.Tree.{G, Gs, Val, Vals, VTuple, vcons, ValInGrammar, in_constant, in_number, in_array, in_tuple, in_number_array, in_case, each_nil, each_cons, ValidVal, TypedVal, ValueOf, FieldsOf, SizeOfV}
use Rattle.value.specs.Bytes.{bytes_of, bytes_of_all}
use Rattle.value.specs.Reading.{start}
use Rattle.value.proofs.Laws.{length_bytes_of, one_value_lem, one_meaning_fields}
use Rattle.readers.specs.Root.{behind_first_field}
use Rattle.comparing.specs.SameRoute.{counted}

-- a value without a first field, which counts whole
pub record Whole (x : Val) : Type 0 where
  pub counts : counted x ≡ x
  pub from : behind_first_field x ≡ start 0

-- two values of one grammar: both have a first field, or neither has
pub data FirstFields : Val → Val → Type 0 where
  both : (gs : Gs) (v u : Val) (vs us : Vals) → FieldsOf gs vs → FieldsOf gs us → FirstFields (VTuple (vcons v vs)) (VTuple (vcons u us))
  neither : {x y : Val} → Whole x → Whole y → FirstFields x y

whole : {x : Val} → counted x ≡ x → behind_first_field x ≡ start 0 → Whole x
whole c f = record { counts = c; from = f }

pub first_fields : {g : G} {x y : Val} → ValueOf g x → ValueOf g y → FirstFields x y
unfolding ValidVal TypedVal
first_fields o q = go o.in_grammar q.in_grammar o.valid q.valid o.typed q.typed
  where
    go : {g : G} {x y : Val} → ValInGrammar x g → ValInGrammar y g → ValidVal x → ValidVal y → TypedVal x → TypedVal y → FirstFields x y
    go in_constant in_constant a b c d = neither (whole refl refl) (whole refl refl)
    go in_number in_number a b c d = neither (whole refl refl) (whole refl refl)
    go (in_array i) (in_array j) a b c d = neither (whole refl refl) (whole refl refl)
    go (in_tuple each_nil) (in_tuple each_nil) a b c d = neither (whole refl refl) (whole refl refl)
    go (in_tuple (each_cons {v = v} {vs = vs} {gs = gs} i is)) (in_tuple (each_cons {v = u} {vs = us} j js)) a b c d = both gs v u vs us (record { in_grammar = is; valid = a.1.1; typed = c.1 }) (record { in_grammar = js; valid = b.1.1; typed = d.1 })
    go in_number_array in_number_array a b c d = neither (whole refl refl) (whole refl refl)
    go (in_case l i) (in_case m j) a b c d = neither (whole refl refl) (whole refl refl)

-- behind the first field stand the bytes of the fields behind it
behind-first : (v : Val) (vs : Vals) → drop (behind_first_field (VTuple (vcons v vs))).at (bytes_of (VTuple (vcons v vs))) ≡ bytes_of_all vs
unfolding bytes_of
behind-first v vs = drop_at (bytes_of v) (bytes_of_all vs) (0 + SizeOfV v) (length_bytes_of v ∙ sym (zero-add (SizeOfV v)))

-- what counts is equal exactly when the bytes behind the first fields are
pub counted-bytes : {g : G} (x y : Val) → ValueOf g x → ValueOf g y → (counted x ≡ counted y) ↔ (drop (behind_first_field x).at (bytes_of x) ≡ drop (behind_first_field y).at (bytes_of y))
unfolding bytes_of
counted-bytes x y o q = go (first_fields o q) o q
  where
    go : {g : G} {x y : Val} → FirstFields x y → ValueOf g x → ValueOf g y → (counted x ≡ counted y) ↔ (drop (behind_first_field x).at (bytes_of x) ≡ drop (behind_first_field y).at (bytes_of y))
    go (both gs v u vs us i j) o q = (
      λ e. behind-first v vs ∙ ap bytes_of e ∙ sym (behind-first u us),
      λ e. ap VTuple (one_meaning_fields i j [] [] (ap (λ (l : List ℕ). l ++ []) (sym (behind-first v vs) ∙ e ∙ behind-first u us))).0,
    )
    go (neither a b) o q = rw (a.counts, b.counts, a.from, b.from) (λ e. ap bytes_of e, λ e. one_value_lem o q e)

-- the first field ends within the value
pub first-within : {g : G} (x : Val) → ValueOf g x → (behind_first_field x).at ≤ SizeOfV x
unfolding SizeOfV
first-within x o = go (first_fields o o)
  where
    go : {x y : Val} → FirstFields x y → (behind_first_field x).at ≤ SizeOfV x
    go (both gs v u vs us i j) = omega arith
    go (neither a b) = rw a.from (omega arith)
