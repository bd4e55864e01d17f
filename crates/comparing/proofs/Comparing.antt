-- That the code of `same_route` may compare bytes, and that its contract leaves nothing to the program.
use Rattle.std.proofs.Common.{◌≡◌, refl, sym, ap, subst, ◌∙◌, ◌↔◌, Bool, true, false, List, ℕ, ◌^◌, ◌≤◌, arith, length, drop}
use Rattle.std.proofs.Math.Logic.Iff
use Rattle.refusal.specs.Outcome.{Outcome, accepted, refused, map, Reason}
use Rattle.refusal.proofs.Outcome.{clash, map-accepted, map-refused}
use Rattle.refusal.proofs.Tests.{refuted, refutes}
use Rattle.packed.specs.Packed.{Bytes, Below}
use Rattle.value.specs.Tree.{Val, ValueOf, SizeOfV}
use Rattle.value.specs.Bytes.{bytes_of}
use Rattle.value.specs.Step.{Step}
use Rattle.value.specs.Reading.{State, Stop}
use Rattle.value.proofs.Laws.{length_bytes_of, demarshallable_value}
use Rattle.grammar.specs.Check.{check_grammar}
use Rattle.grammar.specs.Tree.{tree_of}
use Rattle.readers.specs.Root.{read_root, behind_first_field, first_field_of}
use Rattle.reading.specs.Calls.{without_state, demarshall_of}
use Rattle.reading.proofs.Calls.{root-whole}
use Rattle.reading.proofs.Bridge.{demarshall_accepted}
use Rattle.comparing.specs.SameRoute.{NamedReason, of_grammar, of_first, of_second, Both, read_both, counted_bytes, Same, Compares}
use Rattle.comparing.proofs.Counted.{counted-bytes, first-within}

-- an accepted record is the bytes of its value, a value of the root's tree
pub record_value : (g d : List ℕ) (capacity : ℕ) → Below (2 ^ 32) g → Bytes d → (t : Step State Val) → demarshall_of g d capacity ≡ accepted t → (d ≡ bytes_of t.value) × ValueOf (tree_of g 0) t.value
record_value g d capacity w b t h =
    let m = demarshall_accepted g d capacity w b t h in
    let x = demarshallable_value b m.0 in
    (x.0 ∙ ap bytes_of m.1, subst (ValueOf (tree_of g 0)) m.1 x.1)

-- under one grammar two accepted records are of the same route exactly when their bytes behind the first fields are equal
pub same-route-same-bytes : (g first second : List ℕ) (capacity : ℕ) → Below (2 ^ 32) g → Bytes first → Bytes second → (t u : Step State Val) → demarshall_of g first capacity ≡ accepted t → demarshall_of g second capacity ≡ accepted u → Same (record { first = t.value; second = u.value }) ↔ (drop (behind_first_field t.value).at first ≡ drop (behind_first_field u.value).at second)
same-route-same-bytes g first second capacity w a b t u h k =
    let x = record_value g first capacity w a t h in
    let y = record_value g second capacity w b u k in
    rw (x.0, y.0) (counted-bytes t.value u.value x.1 y.1)

-- what the check of a record's first field says of its whole reading
module _ (g d : List ℕ) where
  pub field_refused : {e : Stop} → refused e ≡ first_field_of g d 4096 → refused e.why ≡ counted_bytes g d
  field_refused h = ap (map _) (sym (ap without_state (map-refused (λ (t : Step State Val). behind_first_field t.value) (read_root g d 0 4096 true) (sym h))) ∙ root-whole g d 4096)

  field-accepted : {s : State} → accepted s ≡ first_field_of g d 4096 → (t : Step State Val) × (demarshall_of g d 4096 ≡ accepted t) × (s ≡ behind_first_field t.value)
  field-accepted h =
      let m = map-accepted (λ (t : Step State Val). behind_first_field t.value) (read_root g d 0 4096 true) (sym h) in
      (m.0, sym (root-whole g d 4096) ∙ ap without_state m.1, m.2)

  pub field_counted : {s : State} → accepted s ≡ first_field_of g d 4096 → accepted (drop s.at d) ≡ counted_bytes g d
  field_counted {s} h = let m = field-accepted h in go m.0 m.1 m.2
    where
      go : (t : Step State Val) → demarshall_of g d 4096 ≡ accepted t → s ≡ behind_first_field t.value → accepted (drop s.at d) ≡ counted_bytes g d
      go t p q = rw (p, q)

  -- the first field ends within the record
  pub field_within : {s : State} → accepted s ≡ first_field_of g d 4096 → Below (2 ^ 32) g → Bytes d → s.at ≤ length d
  field_within {s} h w b =
      let m = field-accepted h in
      let x = record_value g d 4096 w b m.0 m.1 in
      let l : length d ≡ SizeOfV m.0.value = ap length x.0 ∙ length_bytes_of m.0.value in
      omega (arith, first-within m.0.value x.1, ap (λ (q : State). q.at) m.2, l)

module _ (g first second : List ℕ) where
  -- by what both readings come to
  refused-both : {e : NamedReason} → read_both g first second ≡ refused e → Compares g first second (refused e)
  refused-both {e} h = record {
    yes = (λ q. clash q, λ x. clash (sym h ∙ x.1));
    no = (λ q. clash q, λ x. clash (sym h ∙ x.1));
    refuses = λ f. (
      λ q. let i : e ≡ f = cc in h ∙ ap refused i,
      λ q. let p : refused e ≡ refused f = sym h ∙ q in let i : e ≡ f = cc in ap refused i,
    );
  }

  accepted-both : {b : Both} {s : Bool} → read_both g first second ≡ accepted b → Same b ↔ (s ≡ true) → Compares g first second (accepted s)
  accepted-both {b} {s} h r = record {
    yes = (λ q. let t : s ≡ true = cc in (b, h, r.1 t), λ x. ap accepted (r.0 (rw (is x) at x.2)));
    no = (λ q. let f : s ≡ false = cc in (b, h, refutes r f), λ x. ap accepted (refuted r (rw (is x) at x.2)));
    refuses = λ e. (λ q. clash (sym q), λ q. clash (sym q ∙ h));
  }
    where
      is : {P : Both → Type 0} → (x : (a : Both) × (read_both g first second ≡ accepted a) × P a) → x.0 ≡ b
      is x = let p : accepted x.0 ≡ accepted b = sym x.1 ∙ h in cc

  -- by the answers of the calls
  pub grammar_refused : {e : Reason} → refused e ≡ check_grammar g → Compares g first second (refused (of_grammar e))
  unfolding read_both
  grammar_refused h = refused-both (rw (sym h))

  pub first_refused : accepted tt ≡ check_grammar g → {e : Reason} → refused e ≡ counted_bytes g first → Compares g first second (refused (of_first e))
  unfolding read_both
  first_refused p h = refused-both (rw (sym p, map-refused _ (demarshall_of g first 4096) (sym h)))

  pub second_refused : accepted tt ≡ check_grammar g → {a : List ℕ} → accepted a ≡ counted_bytes g first → {e : Reason} → refused e ≡ counted_bytes g second → Compares g first second (refused (of_second e))
  unfolding read_both
  second_refused p h k =
      let t = map-accepted _ (demarshall_of g first 4096) (sym h) in
      refused-both (rw (sym p, t.1, map-refused _ (demarshall_of g second 4096) (sym k)))

  both_read : (t u : Step State Val) → accepted tt ≡ check_grammar g → demarshall_of g first 4096 ≡ accepted t → demarshall_of g second 4096 ≡ accepted u → read_both g first second ≡ accepted (record { first = t.value; second = u.value })
  unfolding read_both
  both_read t u p h k = rw (sym p, h, k)

  pub compared : accepted tt ≡ check_grammar g → {a b : List ℕ} → accepted a ≡ counted_bytes g first → accepted b ≡ counted_bytes g second → Below (2 ^ 32) g → Bytes first → Bytes second → {s : Bool} → (a ≡ b) ↔ (s ≡ true) → Compares g first second (accepted s)
  compared p h k w c d {s} e =
      let t = map-accepted _ (demarshall_of g first 4096) (sym h) in
      let u = map-accepted _ (demarshall_of g second 4096) (sym k) in
      let f : (drop (behind_first_field t.0.value).at first ≡ drop (behind_first_field u.0.value).at second) ↔ (s ≡ true) = rw (t.2, u.2) at e in
      accepted-both (both_read t.0 u.0 p t.1 u.1) (Iff.trans (same-route-same-bytes g first second 4096 w c d t.0 u.0 t.1 u.1) f)

-- the contract allows one outcome
pub compares-one : (g first second : List ℕ) (o p : Outcome NamedReason Bool) → Compares g first second o → Compares g first second p → o ≡ p
compares-one g first second (accepted true) p a b = sym (b.yes.1 (a.yes.0 refl))
compares-one g first second (accepted false) p a b = sym (b.no.1 (a.no.0 refl))
compares-one g first second (refused e) p a b = sym ((b.refuses e).1 ((a.refuses e).0 refl))
