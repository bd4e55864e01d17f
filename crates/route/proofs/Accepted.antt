-- Number 0 of a C answer says that the call is accepted (specs/Accepted.antt): no refusal of the tables has number 0.
use Rattle.std.proofs.Common.{◌≡◌, refl, ◌↔◌, Bool, true, false, ℕ, ◌<◌, arith, length, ℤ}
use Rattle.refusal.specs.Outcome.{Outcome, accepted, refused, Location, Reason, reason}
use Rattle.value.specs.Kinds.{Number, uint32, uint64, int32, int64, width}
use Rattle.value.specs.Signed.{InRange}
use Rattle.value.specs.Tree.{SizeOfV}
use Rattle.value.proofs.Signed.{pattern-signed}
use Rattle.signed.proofs.Rule.{signed_exactly}
use Rattle.reading.specs.Calls.{counts_of}
use Rattle.comparing.specs.SameRoute.{NamedReason, of_grammar, of_first, of_second}
use Rattle.xdr.specs.Xdr.{xdr_size}
use Rattle.importing.specs.Calls.{counts_of as import_counts}
use Rattle.answer_c.specs.Answer.{Values, values, answer_of, same_answer_of}
use Rattle.route.specs.Refusals.{Refuses, Listed, of_word, of_byte, of_output, of_row, of_locator, of_signed, of_list, of_choice, of_padding, Lists, unnamed}
use Rattle.route.specs.Accepted.{IsAccepted, is_accepted, ZeroIsAccepted, NumberZero, WordIsNumber}
use Rattle.route.proofs.Refusals.{map-refuses}
use Rattle.route.proofs.Demand1.{demand1}

listed_positive : {n : ℕ} {l : Location} → Listed (reason n l) → 0 < n
listed_positive (of_word n w a b) = a
listed_positive (of_byte n w a b) = omega (arith, a)
listed_positive (of_output b) = omega arith
listed_positive (of_row n w a b) = omega (arith, a)
listed_positive (of_locator r) = omega arith
listed_positive (of_signed r) = omega arith
listed_positive (of_list w) = omega arith
listed_positive (of_choice b) = omega arith
listed_positive (of_padding b) = omega arith

not-zero : {P : Type 0} {n : ℕ} {l : Location} → Listed (reason n l) → n ≡ 0 → P
not-zero h q = let p = listed_positive h in absurd (omega (arith, p, q))

not-refused : {E A P : Type 0} {e : E} {o : Outcome E A} → IsAccepted o → o ≡ refused e → P
not-refused (is_accepted a) h = let z : ◌≡◌ {A = ℕ} 0 1 = cc in absurd (omega arith)

accepted-zero : (v : Values) → (answer_of (accepted v)).number ≡ 0
accepted-zero (values a b) = refl

zero : {A : Type 0} (f : A → Values) (o : Outcome Reason A) → ((e : Reason) → o ≡ refused e → Listed e) → ZeroIsAccepted f o
zero f (accepted a) h = (λ _. is_accepted a, λ _. accepted-zero (f a))
zero f (refused (reason n l)) h = (not-zero (h (reason n l) refl), λ a. not-refused a refl)

-- of an outcome whose refusals are known
zero_of : {A : Type 0} {Q : Reason → Type 0} (f : A → Values) {o : Outcome Reason A} → Refuses Q o → Lists Q → ZeroIsAccepted f o
zero_of f {o} r l = zero f o (λ e q. l e ((r e).0 q))

named-zero : (o : Outcome NamedReason Bool) → ((e : NamedReason) → o ≡ refused e → Listed (unnamed e)) → ((same_answer_of o).number ≡ 0) ↔ IsAccepted o
named-zero (accepted true) h = (λ _. is_accepted true, λ _. refl)
named-zero (accepted false) h = (λ _. is_accepted false, λ _. refl)
named-zero (refused (of_grammar (reason n l))) h = (not-zero (h (of_grammar (reason n l)) refl), λ a. not-refused a refl)
named-zero (refused (of_first (reason n l))) h = (not-zero (h (of_first (reason n l)) refl), λ a. not-refused a refl)
named-zero (refused (of_second (reason n l))) h = (not-zero (h (of_second (reason n l)) refl), λ a. not-refused a refl)

pub number-zero : NumberZero
number-zero = record {
  grammar = λ g. zero_of _ (demand1.grammar g) (demand1.listed_grammar g);
  packers = λ out index bs. zero_of _ (demand1.packers out index bs) (demand1.listed_room _ _ _);
  unpackers = λ w s index. zero_of _ (demand1.unpackers w s index) (demand1.listed_unpackers _ _ _);
  unpackers_seq = λ w s index len. zero_of _ (demand1.unpackers_seq w s index len) (demand1.listed_unpackers _ _ _);
  sizes = λ t n s. zero_of _ (demand1.sizes t n s) (demand1.listed_rows t n s);
  locator = λ t n s i. zero_of _ (demand1.locator t n s i) (demand1.listed_locator t n s i);
  signed = λ t n s i. zero_of _ (demand1.signed t n s i) (demand1.listed_signed t n s i);
  reading = λ g d index capacity. zero_of _ (map-refuses counts_of (demand1.reading g d index capacity)) (demand1.listed_reading g d index capacity);
  whole_reading = λ g d capacity. zero_of _ (map-refuses counts_of (demand1.whole_reading g d capacity)) (demand1.listed_whole g d capacity);
  writing = λ g t n s len index. zero_of _ (map-refuses SizeOfV (demand1.writing g t n s len index)) (demand1.listed_writing SizeOfV g t n s len index);
  preview = λ g t n s out index. zero_of _ (demand1.preview g t n s out index) (demand1.listed_writing SizeOfV g t n s (length out) index);
  choosing = λ l d. zero_of _ (demand1.choosing l d) (demand1.listed_choosing l d);
  accepting = λ g d. zero_of _ (demand1.accepting g d) (demand1.listed_grammar g);
  exporting = λ g t n s len index. zero_of _ (map-refuses xdr_size (demand1.exporting g t n s len index)) (demand1.listed_writing xdr_size g t n s len index);
  importing = λ g d capacity len words. zero_of _ (map-refuses import_counts (demand1.importing g d capacity len words)) (demand1.listed_importing g d capacity len);
  routes = λ g first second o h. named-zero o (λ e q. demand1.listed_routes g first second e ((demand1.routes g first second e).0 ((h.refuses e).0 q)));
}

-- the numbers of each kind's width are numbers of 8 bytes
range-of_8 : (k : Number) (z : ℤ) → InRange (width k) z → InRange 8 z
range-of_8 uint32 z h = omega arith
range-of_8 uint64 z h = h
range-of_8 int32 z h = omega arith
range-of_8 int64 z h = h

pub word-is-number : WordIsNumber
word-is-number t s n i z words bytes e =
    let h = (signed_exactly t n s i z words bytes).0 e in
    rw e (pattern-signed 8 z (omega arith) (range-of_8 h.kind z h.number.range)).1
