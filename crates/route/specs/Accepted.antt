-- At the C interface number 0 says that a call is accepted: stated of the outcome that each C call answers. And of a signed number the word
-- that C gets says which it is.
use Rattle.std.specs.Prelude.{◌≡◌, ◌↔◌, Bool, List, ℕ, ◌^◌, ℤ}
use Rattle.refusal.specs.Outcome.{Outcome, accepted, map, Reason}
use Rattle.packed.specs.Packed.{Bytes, Below, unpack_at, unpack_seq_at, put_at}
use Rattle.value.specs.Tree.{SizeOfV}
use Rattle.value.specs.Signed.{signed_of}
use Rattle.grammar.specs.Check.{check_grammar}
use Rattle.rows.specs.Size.{compute_size_of}
use Rattle.rows.specs.Locate.{locate_array}
use Rattle.signed.specs.Signed.{signed_number_of}
use Rattle.reading.specs.Calls.{parse_val_of, demarshall_of, counts_of}
use Rattle.sizing.specs.Writes.{marshall_val_of}
use Rattle.previewing.specs.Preview.{preview_of}
use Rattle.comparing.specs.SameRoute.{NamedReason, Compares}
use Rattle.choosing.specs.Choose.{choose_of}
use Rattle.accepting.specs.Accepts.{accepts_of}
use Rattle.xdr.specs.Xdr.{xdr_size}
use Rattle.exporting.specs.Export.{export_of}
use Rattle.importing.specs.Calls.{import_of, counts_of as import_counts}
use Rattle.answer_c.specs.Answer.{Values, answer_of, no_value, one_value, signed_value, part_values, count_values, preview_values, choice_values, verdict_values, import_values, same_answer_of}

pub data IsAccepted {E A : Type 0} : Outcome E A → Type 0 where
  is_accepted : (a : A) → IsAccepted (accepted a)

-- the number of the C answer is 0 exactly when the outcome is accepted
abbrev pub ZeroIsAccepted : {A : Type 0} → (A → Values) → Outcome Reason A → Type 0
ZeroIsAccepted f o = ((answer_of (map f o)).number ≡ 0) ↔ IsAccepted o

pub record NumberZero : Type 0 where
  pub grammar : (g : List ℕ) → ZeroIsAccepted no_value (check_grammar g)
  pub packers : (out : List ℕ) (index : ℕ) (bs : List ℕ) → ZeroIsAccepted no_value (put_at out index bs)
  pub unpackers : (w : ℕ) (s : List ℕ) (index : ℕ) → ZeroIsAccepted one_value (unpack_at w s index)
  pub unpackers_seq : (w : ℕ) (s : List ℕ) (index len : ℕ) → ZeroIsAccepted no_value (unpack_seq_at w s index len)
  pub sizes : (t : List ℕ) (n : ℕ) (s : List ℕ) → ZeroIsAccepted one_value (compute_size_of t n s)
  pub locator : (t : List ℕ) (n : ℕ) (s : List ℕ) (i : ℕ) → ZeroIsAccepted part_values (locate_array t n s i)
  pub signed : (t : List ℕ) (n : ℕ) (s : List ℕ) (i : ℕ) → ZeroIsAccepted signed_value (signed_number_of t n s i)
  pub reading : (g d : List ℕ) (index capacity : ℕ) → ZeroIsAccepted count_values (map counts_of (parse_val_of g d index capacity))
  pub whole_reading : (g d : List ℕ) (capacity : ℕ) → ZeroIsAccepted count_values (map counts_of (demarshall_of g d capacity))
  pub writing : (g t : List ℕ) (n : ℕ) (s : List ℕ) (len index : ℕ) → ZeroIsAccepted one_value (map SizeOfV (marshall_val_of g t n s len index))
  pub preview : (g t : List ℕ) (n : ℕ) (s out : List ℕ) (index : ℕ) → ZeroIsAccepted preview_values (preview_of g t n s out index)
  pub choosing : (l d : List ℕ) → ZeroIsAccepted choice_values (choose_of l d)
  pub accepting : (g d : List ℕ) → ZeroIsAccepted verdict_values (accepts_of g d)
  pub exporting : (g t : List ℕ) (n : ℕ) (s : List ℕ) (len index : ℕ) → ZeroIsAccepted one_value (map xdr_size (export_of g t n s len index))
  pub importing : (g d : List ℕ) (capacity len : ℕ) → Below (2 ^ 32) g → ZeroIsAccepted import_values (map import_counts (import_of g d capacity len))
  -- yes and no
  pub routes : (g first second : List ℕ) (o : Outcome NamedReason Bool) → Compares g first second o → ((same_answer_of o).number ≡ 0) ↔ IsAccepted o

-- of a signed number C gets the 64-bit pattern of that number as its first word, so the cast to int64_t gives the number
abbrev pub WordIsNumber : Type 0
WordIsNumber = (t s : List ℕ) (n i : ℕ) (z : ℤ) → Below (2 ^ 64) t → Bytes s → signed_number_of t n s i ≡ accepted z → signed_of 8 (answer_of (map signed_value (signed_number_of t n s i))).first ≡ z
