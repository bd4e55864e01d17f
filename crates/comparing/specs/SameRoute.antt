-- What `same_route` answers: whether two records under one grammar are equal in what counts, or what is refused and why.
use Rattle.std.specs.Prelude.{◌≡◌, ◌↔◌, Bool, true, false, List, ℕ, ◌^◌, ◌<◌, drop, Result, Ok, Err}
use Rattle.refusal.specs.Outcome.{Outcome, accepted, refused, bind, map, Reason}
use Rattle.refusal.specs.Meaning.{reason_of}
use Rattle.packed.specs.Packed.{Bytes, Below}
use Rattle.value.specs.Tree.{Val, Vals, VConstant, VNumber, VArray, VTuple, VNumberArray, VCase, vnil, vcons}
use Rattle.tables.specs.Grammar.{kind_word, count_word}
use Rattle.grammar.specs.Check.{check_grammar}
use Rattle.readers.specs.Root.{behind_first_field}
use Rattle.reading.specs.Calls.{demarshall_of}
use Rattle.comparing.specs.declared.Unread.{Unread}
use Rattle.comparing.specs.declared.Unread.TheVariants as U

-- a refusal and the record that it names: neither, where it is the grammar's, the first or the second
pub data NamedReason : Type 0 where
  of_grammar : Reason → NamedReason
  of_first : Reason → NamedReason
  of_second : Reason → NamedReason

abbrev pub named_of : Unread → NamedReason
named_of (U.Grammar r) = of_grammar (reason_of r)
named_of (U.First r) = of_first (reason_of r)
named_of (U.Second r) = of_second (reason_of r)

-- what an answer means; `true` is yes and `false` is no
abbrev pub same_route_of : Result Bool Unread → Outcome NamedReason Bool
same_route_of (Ok same) = accepted same
same_route_of (Err u) = refused (named_of u)

abbrev pub naming : {A : Type 0} → (Reason → NamedReason) → Outcome Reason A → Outcome NamedReason A
naming name (accepted a) = accepted a
naming name (refused e) = refused (name e)

-- the values of two records
pub record Both : Type 0 where
  pub first : Val
  pub second : Val

-- both values, by whole readings of capacity 4,096; or the first refusal, of the grammar, then of the first record, then of the second.
-- A reading's own refusal of the grammar does not come behind the grammar's check
unfoldable pub read_both : List ℕ → List ℕ → List ℕ → Outcome NamedReason Both
read_both g first second =
    bind (naming of_grammar (check_grammar g))
    (λ _. bind (naming of_first (demarshall_of g first 4096))
    (λ t. map (λ u. record { first = t.value; second = u.value }) (naming of_second (demarshall_of g second 4096))))

-- what counts of a record's value: of a tuple with at least one field all fields but the first, which on the bench is the serial
-- number of the box that wrote the record; of any other value all of it
abbrev pub counted : Val → Val
counted VConstant = VConstant
counted (VNumber k n) = VNumber k n
counted (VArray vs) = VArray vs
counted (VTuple vnil) = VTuple vnil
counted (VTuple (vcons v vs)) = VTuple vs
counted (VNumberArray k ns) = VNumberArray k ns
counted (VCase c v) = VCase c v

-- the bytes of what counts of a record, by its whole reading of capacity 4,096: those behind the first field of a tuple that has one, else all
abbrev pub counted_bytes : List ℕ → List ℕ → Outcome Reason (List ℕ)
counted_bytes g d = map (λ t. drop (behind_first_field t.value).at d) (demarshall_of g d 4096)

-- when the values are those of the same route
abbrev pub Same : Both → Type 0
Same b = counted b.first ≡ counted b.second

-- request 02 in the table's terms: what decides of two values that were read under the table g
pub record RootRule (g : List ℕ) (b : Both) : Type 0 where
  -- a tuple with at least one field: the fields behind the first decide
  pub tuple_root : kind_word g 0 ≡ 4 → 0 < count_word g 0 → (v : Val) × (vs : Vals) × (u : Val) × (us : Vals) × (b.first ≡ VTuple (vcons v vs)) × (b.second ≡ VTuple (vcons u us)) × (Same b ↔ (vs ≡ us))
  -- any other root: the values
  pub other_root : (kind_word g 0 ≡ 4 → count_word g 0 ≡ 0) → Same b ↔ (b.first ≡ b.second)

-- it holds of any two records that are accepted under one table
abbrev pub RootDecides : Type 0
RootDecides = (g first second : List ℕ) → Below (2 ^ 32) g → Bytes first → Bytes second → (b : Both) → read_both g first second ≡ accepted b → RootRule g b

-- exactly when o is yes, no, or a refusal
pub record Compares (g first second : List ℕ) (o : Outcome NamedReason Bool) : Type 0 where
  pub yes : (o ≡ accepted true) ↔ ((b : Both) × (read_both g first second ≡ accepted b) × Same b)
  pub no : (o ≡ accepted false) ↔ ((b : Both) × (read_both g first second ≡ accepted b) × ¬ (Same b))
  pub refuses : (e : NamedReason) → (o ≡ refused e) ↔ (read_both g first second ≡ refused e)
