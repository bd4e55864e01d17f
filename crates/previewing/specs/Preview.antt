-- What `preview` answers: what a writing with the same arguments would answer, and how many bytes of the output it would change.
use Rattle.std.specs.Prelude.{◌≡◌, ◌↔◌, cond, List, [], ◌∷◌, ℕ, suc, ◌+◌, ◌≤◌, length, eqb, Result}
use Rattle.refusal.specs.Outcome.{Outcome, accepted, map, Reason}
use Rattle.refusal.specs.declared.Refusal.{Refusal}
use Rattle.refusal.specs.Meaning.{outcome_of}
use Rattle.packed.specs.Packed.{put}
use Rattle.value.specs.Tree.{SizeOfV}
use Rattle.value.specs.Bytes.{bytes_of}
use Rattle.sizing.specs.Writes.{marshall_val_of}
use Rattle.writing.specs.Marshall.{Marshalls}
use Rattle.previewing.specs.declared.Previewed.{Previewed}

-- at how many places two lists differ, up to the end of the shorter: of lists of one length their Hamming distance
unfoldable pub differing : List ℕ → List ℕ → ℕ
differing [] b = 0
differing (x ∷ a) [] = 0
differing (x ∷ a) (y ∷ b) = cond (eqb x y) 0 1 + differing a b

-- the size of the value, and the number of output bytes whose content would differ after the writing
pub record Preview : Type 0 where
  pub size : ℕ
  pub changed : ℕ

-- the outcome is the writers', so its refusals and their order are theirs; `put` gives the output that they leave
unfoldable pub preview_of : List ℕ → List ℕ → ℕ → List ℕ → List ℕ → ℕ → Outcome Reason Preview
preview_of g t n s out index = map (λ v. record { size = SizeOfV v; changed = differing out (put out index (bytes_of v)) }) (marshall_val_of g t n s (length out) index)

-- what the answer means
abbrev pub previewed_of : Result Previewed Refusal → Outcome Reason Preview
previewed_of r = map (λ p. record { size = p.size; changed = p.changed }) (outcome_of r)

-- "It must equal what writing to a copy of the output would answer and change" (document 02): of every answer p that the contract of `preview`
-- allows and every answer w and output at exit that the contract of `marshall_val` allows, with the same arguments. It would be empty if
-- nothing were written: in `examples` of Examples.antt case A is, over outputs of which from no byte to all 14 differ
abbrev pub EqualsWriting : Type 0
EqualsWriting =
    (g t s out exit : List ℕ) (n index : ℕ) (p : Result Previewed Refusal) (w : Result ℕ Refusal)
    → previewed_of p ≡ preview_of g t n s out index
    → Marshalls (marshall_val_of g t n s (length out) index) index w out exit
    → previewed_of p ≡ map (λ size. record { size = size; changed = differing out exit }) (outcome_of w)

-- what `differing` counts, without its text: of lists of one length 0 exactly where they are equal, each place counts once, and no more than
-- there are
pub record CountsPlaces : Type 0 where
  pub zero : (a b : List ℕ) → length a ≡ length b → (differing a b ≡ 0) ↔ (a ≡ b)
  pub equal : (x : ℕ) (a b : List ℕ) → differing (x ∷ a) (x ∷ b) ≡ differing a b
  pub different : (x y : ℕ) (a b : List ℕ) → ¬ (x ≡ y) → differing (x ∷ a) (y ∷ b) ≡ suc (differing a b)
  pub at_most : (a b : List ℕ) → differing a b ≤ length a

-- what a caller may take from a preview
pub record Consequences : Type 0 where
  -- no more bytes would differ than would be written, and the size is at most 1,048,576
  pub most : (g t s out : List ℕ) (n index : ℕ) (p : Preview) → preview_of g t n s out index ≡ accepted p → (p.changed ≤ p.size) × (p.size ≤ 1048576)
  -- no byte would differ exactly where the writing leaves the output as it is
  pub none : (g t s out exit : List ℕ) (n index : ℕ) (p : Preview) (w : Result ℕ Refusal) → preview_of g t n s out index ≡ accepted p → Marshalls (marshall_val_of g t n s (length out) index) index w out exit → (p.changed ≡ 0) ↔ (exit ≡ out)
  -- a preview over what an accepted writing left, all else the same, gives that size and no byte
  pub again : (g t s out exit : List ℕ) (n index size : ℕ) (w : Result ℕ Refusal) → Marshalls (marshall_val_of g t n s (length out) index) index w out exit → outcome_of w ≡ accepted size → preview_of g t n s exit index ≡ accepted (record { size = size; changed = 0 })
