-- What counts by the root of the table.
use Rattle.std.proofs.Common.{◌≡◌, refl, sym, ap, subst, ◌↔◌, List, ℕ, arith}
use Rattle.refusal.specs.Outcome.{Outcome, accepted, refused, Reason}
use Rattle.refusal.proofs.Outcome.{clash, bind_inverse, map-accepted}
use Rattle.value.specs.Tree.{G, Gs, GTuple, gcons, Val, Vals, VTuple, vcons, ValInGrammar, in_tuple, each_cons}
use Rattle.value.specs.Step.{Step}
use Rattle.value.specs.Reading.{State}
use Rattle.tables.specs.Grammar.{kind_word, count_word}
use Rattle.grammar.specs.Check.{check_grammar}
use Rattle.grammar.specs.Rule.{Passes}
use Rattle.grammar.specs.Tree.{tree_of}
use Rattle.grammar.proofs.Rule.{accepted_exactly}
use Rattle.readers.proofs.FirstField.{tuple-root, root_fields}
use Rattle.reading.specs.Calls.{demarshall_of}
use Rattle.comparing.specs.SameRoute.{NamedReason, of_grammar, of_first, of_second, naming, Both, read_both, Same, RootRule, RootDecides}
use Rattle.comparing.proofs.Counted.{FirstFields, both, neither, first_fields}
use Rattle.comparing.proofs.Comparing.{record_value}

naming-accepted : {A : Type 0} (name : Reason → NamedReason) (o : Outcome Reason A) {a : A} → naming name o ≡ accepted a → o ≡ accepted a
naming-accepted name (accepted a) h = cc
naming-accepted name (refused e) h = clash h

-- both records were read under a grammar that passes
record BothRead (g first second : List ℕ) (b : Both) : Type 0 where
  grammar : check_grammar g ≡ accepted tt
  t : Step State Val
  read_first : demarshall_of g first 4096 ≡ accepted t
  u : Step State Val
  read_second : demarshall_of g second 4096 ≡ accepted u
  values : b ≡ record { first = t.value; second = u.value }

both_inverse : (g first second : List ℕ) (b : Both) → read_both g first second ≡ accepted b → BothRead g first second b
unfolding read_both
both_inverse g first second b h =
    let x = bind_inverse (naming of_grammar (check_grammar g)) _ h in
    let y = bind_inverse (naming of_first (demarshall_of g first 4096)) _ x.2 in
    let z = map-accepted (λ (u : Step State Val). record { first = y.0.value; second = u.value }) (naming of_second (demarshall_of g second 4096)) y.2 in
    record {
      grammar = naming-accepted of_grammar (check_grammar g) x.1;
      t = y.0;
      read_first = naming-accepted of_first (demarshall_of g first 4096) y.1;
      u = z.0;
      read_second = naming-accepted of_second (demarshall_of g second 4096) z.1;
      values = z.2;
    }

-- what counts of two tuples with a first field
tuples : (v u : Val) (vs us : Vals) → Same (record { first = VTuple (vcons v vs); second = VTuple (vcons u us) }) ↔ (vs ≡ us)
tuples v u vs us = (λ e. cc, λ e. ap VTuple e)

-- what counts of two values of a tuple's tree
tuple-rule : {x y : Val} {c : G} {cs : Gs} → ValInGrammar x (GTuple (gcons c cs)) → ValInGrammar y (GTuple (gcons c cs)) → (v : Val) × (vs : Vals) × (u : Val) × (us : Vals) × (x ≡ VTuple (vcons v vs)) × (y ≡ VTuple (vcons u us)) × (Same (record { first = x; second = y }) ↔ (vs ≡ us))
tuple-rule (in_tuple (each_cons {v = v} {vs = vs} i is)) (in_tuple (each_cons {v = u} {vs = us} j js)) = (v, vs, u, us, refl, refl, tuples v u vs us)

-- what counts of two values of any other root
other-rule : (g : List ℕ) → Passes g → (kind_word g 0 ≡ 4 → count_word g 0 ≡ 0) → {x y : Val} → ValInGrammar x (tree_of g 0) → FirstFields x y → Same (record { first = x; second = y }) ↔ (x ≡ y)
other-rule g p n i (both gs v u vs us k l) = let r = tuple-root g p i in let z = n r.0 in absurd (omega (arith, r.1, z))
other-rule g p n i (neither a b) = rw (a.counts, b.counts) (λ e. e, λ e. e)

pub root-rule : RootDecides
root-rule g first second w c d b h =
    let r = both_inverse g first second b h in
    let p = (accepted_exactly g).0 r.grammar in
    let x = (record_value g first 4096 w c r.t r.read_first).1 in
    let y = (record_value g second 4096 w d r.u r.read_second).1 in
    subst (RootRule g) (sym r.values) (record {
      tuple_root = λ k n. let f = root_fields g p k n in tuple-rule (subst (ValInGrammar r.t.value) f.1 x.in_grammar) (subst (ValInGrammar r.u.value) f.1 y.in_grammar);
      other_root = λ n. other-rule g p n x.in_grammar (first_fields x y);
    })
