-- When a verdict is yes, when it is no, and how many values were begun.
use Rattle.std.proofs.Common.{◌≡◌, refl, ap, sym, ◌∙◌, Bool, true, false, List, ℕ, ◌^◌, ◌≤◌, arith, length, lt-ltb}
use Rattle.std.proofs.Math.Decide.{dec_le}
use Rattle.refusal.specs.Outcome.{Outcome, accepted, refused, Reason}
use Rattle.refusal.proofs.Outcome.{clash, map-accepted}
use Rattle.refusal.proofs.Tests.{refutes}
use Rattle.packed.specs.Packed.{Bytes, Below}
use Rattle.value.specs.Tree.{Val}
use Rattle.value.specs.Step.{Step}
use Rattle.value.specs.Reading.{State, Reading, begun_of, read_whole}
use Rattle.value.specs.Least.{below_least}
use Rattle.value.proofs.Begun.{begun-whole}
use Rattle.value.proofs.Least.{below-least-refused}
use Rattle.grammar.specs.Check.{check_grammar}
use Rattle.grammar.specs.Tree.{tree_of}
use Rattle.grammar.proofs.Rule.{accepted_exactly}
use Rattle.grammar.proofs.Tree.{tree_valid}
use Rattle.admission.proofs.Admission.{admitted}
use Rattle.reading.specs.Calls.{without_state, demarshall_of}
use Rattle.reading.proofs.Calls.{without_state-accepted, whole-accepted, parse-accepted, checked}
use Rattle.choosing.specs.Choose.{grammar_of}
use Rattle.accepting.specs.Accepts.{Verdict, unread, verdict, unless, decided, accepts_of}
use Rattle.accepting.specs.Rule.{NoWalk, too_long, no_value, too_short, YesExactly, NoExactly, Counted, AcceptsRule}
use Rattle.accepting.proofs.Laws.{yes-is-not-no, reflects_decided, not-walked, walked}

-- an accepted verdict has passed the grammar's check
passed : (g d : List ℕ) {v : Verdict} → accepts_of g d ≡ accepted v → check_grammar g ≡ accepted tt
unfolding accepts_of
passed g d h = (map-accepted (λ (u : Unit {0}). unless (decided g d) (λ _. verdict (read_whole 4096 d (tree_of g 0)))) (check_grammar g) h).1

-- by whether there was a walk
data Came (g d : List ℕ) (v : Verdict) : Type 0 where
  without : NoWalk g d → v ≡ unread → Came g d v
  by : ¬ (NoWalk g d) → v ≡ verdict (read_whole 4096 d (tree_of g 0)) → Came g d v

same : {x y : Verdict} → ◌≡◌ {A = Outcome Reason Verdict} (accepted x) (accepted y) → x ≡ y
same h = cc

came : (g d : List ℕ) (v : Verdict) → accepts_of g d ≡ accepted v → Came g d v
came g d v h = go (decided g d) refl
  where
    p : accepted tt ≡ check_grammar g
    p = sym (passed g d h)

    go : (b : Bool) → decided g d ≡ b → Came g d v
    go true e = let n = (reflects_decided g d).1 e in without n (sym (same (not-walked g d p n ∙ h)))
    go false e = let n = refutes (reflects_decided g d) e in by n (sym (same (walked g d p n ∙ h)))

-- ---- yes and no

no-is-not-yes : {n : ℕ} {v : Verdict} → v ≡ unread → ◌≡◌ {A = Verdict} (record { yes = true; begun = n }) v → ⊥
no-is-not-yes e h = yes-is-not-no (ap (λ (x : Verdict). x.yes) (h ∙ e))

-- a yes is of an accepted reading
verdict-yes : {n : ℕ} (x : Reading Val) → ◌≡◌ {A = Verdict} (record { yes = true; begun = n }) (verdict x) → (t : Step State Val) × (x ≡ accepted t) × (t.state.begun ≡ n)
verdict-yes (accepted t) h = (t, refl, sym (ap (λ (x : Verdict). x.begun) h))
verdict-yes (refused e) h = yes-is-not-no (ap (λ (x : Verdict). x.yes) h)

module _ (g d : List ℕ) where
  not-above : ¬ (NoWalk g d) → length d ≤ 1048576
  not-above w = go (dec_le (length d) 1048576)
    where
      go : Dec (length d ≤ 1048576) → length d ≤ 1048576
      go (yes l) = l
      go (no l) = absurd (w (too_long (omega arith)))

  yes-accepted : (n : ℕ) → accepts_of g d ≡ accepted (record { yes = true; begun = n }) → (t : Step State Val) × (demarshall_of g d 4096 ≡ accepted t) × (t.state.begun ≡ n)
  yes-accepted n h = go (came g d _ h)
    where
      go : Came g d (record { yes = true; begun = n }) → (t : Step State Val) × (demarshall_of g d 4096 ≡ accepted t) × (t.state.begun ≡ n)
      go (without w e) = absurd (no-is-not-yes e refl)
      go (by w e) = let x = verdict-yes (read_whole 4096 d (tree_of g 0)) e in (x.0, checked g d 4096 (passed g d h) (not-above w) ∙ ap without_state x.1, x.2)

  module _ (u : Below (2 ^ 32) g) (b : Bytes d) where
    -- the other way: an accepted record is neither too long nor shorter than every value
    accepted-yes : (t : Step State Val) → demarshall_of g d 4096 ≡ accepted t → accepts_of g d ≡ accepted (record { yes = true; begun = t.state.begun })
    unfolding below_least
    accepted-yes t h =
        let a = (parse-accepted g d 0 4096 t (whole-accepted g d 4096 t h)).0 in
        let x = admitted g d 0 a in
        let p = (accepted_exactly g).1 x.0 in
        let r : read_whole 4096 d (tree_of g 0) ≡ accepted t = without_state-accepted (read_whole 4096 d (tree_of g 0)) t (sym (checked g d 4096 p x.1) ∙ h) in
        sym (walked g d (sym p) (walks r x.1)) ∙ ap (λ (o : Reading Val). accepted (verdict o)) r
      where
        walks : read_whole 4096 d (tree_of g 0) ≡ accepted t → length d ≤ 1048576 → ¬ (NoWalk g d)
        walks r l (too_long k) = omega arith
        walks r l (no_value e) = below-least-refused 4096 d (tree_of g 0) (tree_valid g u 0) b (rw e) t r
        walks r l (too_short m e k) = below-least-refused 4096 d (tree_of g 0) (tree_valid g u 0) b (rw e (lt-ltb (length d) m k)) t r

    yes_exactly : YesExactly g d
    yes_exactly n = (yes-accepted n, λ x. accepted-yes x.0 x.1 ∙ ap (λ (m : ℕ). accepted (record { yes = true; begun = m })) x.2)

    no-refused : (n : ℕ) → accepts_of g d ≡ accepted (record { yes = false; begun = n }) → (e : Reason) × (demarshall_of g d 4096 ≡ refused e)
    no-refused n h = go (demarshall_of g d 4096) refl
      where
        go : (o : Outcome Reason (Step State Val)) → demarshall_of g d 4096 ≡ o → (e : Reason) × (demarshall_of g d 4096 ≡ refused e)
        go (refused e) q = (e, q)
        go (accepted t) q = yes-is-not-no (ap (λ (x : Verdict). x.yes) (same (sym (accepted-yes t q) ∙ h)))

    refused-no : (e : Reason) → check_grammar g ≡ accepted tt → demarshall_of g d 4096 ≡ refused e → (n : ℕ) × (accepts_of g d ≡ accepted (record { yes = false; begun = n }))
    unfolding accepts_of
    refused-no e p h = let v = unless (decided g d) (λ _. verdict (read_whole 4096 d (tree_of g 0))) in go v.yes v.begun (rw p)
      where
        go : (b : Bool) (n : ℕ) → accepts_of g d ≡ accepted (record { yes = b; begun = n }) → (n : ℕ) × (accepts_of g d ≡ accepted (record { yes = false; begun = n }))
        go true n q = let x = yes-accepted n q in clash (sym h ∙ x.1)
        go false n q = (n, q)

    no_exactly : NoExactly g d
    no_exactly = (λ x. (passed g d x.1, no-refused x.0 x.1), λ x. refused-no x.1.0 x.0 x.1.1)

-- ---- the values begun

verdict-begun : (x : Reading Val) → (verdict x).begun ≡ begun_of x
verdict-begun (accepted t) = refl
verdict-begun (refused e) = refl

counted : (g d : List ℕ) (v : Verdict) → accepts_of g d ≡ accepted v → Counted g d v
counted g d v h = go (came g d v h)
  where
    bounds : (1 ≤ begun_of (read_whole 4096 d (tree_of g 0))) × (begun_of (read_whole 4096 d (tree_of g 0)) ≤ 4097)
    bounds = begun-whole 4096 d (tree_of g 0)

    go : Came g d v → Counted g d v
    go (without w e) =
        record {
          zero = (λ _. w, λ _. ap (λ (x : Verdict). x.begun) e);
          walked = λ n. absurd (n w);
          most = omega (arith, ap (λ (x : Verdict). x.begun) e);
        }
    go (by w e) =
        let q : v.begun ≡ begun_of (read_whole 4096 d (tree_of g 0)) = ap (λ (x : Verdict). x.begun) e ∙ verdict-begun (read_whole 4096 d (tree_of g 0)) in
        record {
          zero = (λ z. absurd (omega (arith, bounds.0)), λ n. absurd (w n));
          walked = λ _. q;
          most = omega (arith, bounds.1);
        }

pub accepts-rule : AcceptsRule
accepts-rule = record { unwalked = λ g d p n. sym (not-walked g d (sym p) n); yes = yes_exactly; no = no_exactly; count = counted; as_a_try = λ l d j v h n. (counted (grammar_of l j) d v h).walked n }
