-- Refusals 1 to 7, step by step as the code decides them.
use Rattle.std.proofs.Common.{◌≡◌, refl, ap, sym, ◌∙◌, true, List, ℕ, ◌≤◌, ◌<◌, arith, length, leb, le-leb, leb-true}
use borrow.Author.Tests.{lt-leb}
use Rattle.refusal.specs.Outcome.{Outcome, accepted, refused, bind, test, Reason, reason, byte}
use Rattle.refusal.proofs.Tests.{reflects_leb}
use Rattle.refusal.proofs.Outcome.{Post, holds, post_reflects, bind-test, test-true, test-false, test_passed}
use Rattle.grammar.specs.Check.{check_grammar}
use Rattle.grammar.specs.Rule.{Passes}
use Rattle.grammar.proofs.Rule.{accepted_exactly}
use Rattle.admission.specs.Admission.{check_length, admit_of}

module _ (d : List ℕ) where
  pub length-fits : length d ≤ 1048576 → accepted tt ≡ check_length d
  length-fits h = sym (test-true _ _ (le-leb (length d) 1048576 h))

  pub length_above : 1048576 < length d → refused (reason 6 (byte 0)) ≡ check_length d
  length_above h = sym (test-false _ _ (lt-leb (length d) 1048576 h))

  pub length_post : Post (λ _. length d ≤ 1048576) (λ e. (e ≡ reason 6 (byte 0)) × (1048576 < length d)) (check_length d)
  length_post = post_reflects _ _ _ (reflects_leb (length d) 1048576) (λ h. holds tt h) (λ n. (refl, omega (arith, n)))

module _ (g d : List ℕ) (index : ℕ) where
  pub admit_grammar : {r : Reason} → refused r ≡ check_grammar g → refused r ≡ admit_of g d index
  unfolding admit_of
  admit_grammar h = ap (λ (o : Outcome Reason (Unit {0})). bind o (λ _. test (leb (length d) 1048576) (reason 6 (byte 0)) (λ _. test (leb index (length d)) (reason 7 (byte index)) accepted))) h

  module _ (h : accepted tt ≡ check_grammar g) where
    admit_sound : test (leb (length d) 1048576) (reason 6 (byte 0)) (λ _. test (leb index (length d)) (reason 7 (byte index)) accepted) ≡ admit_of g d index
    unfolding admit_of
    admit_sound = ap (λ (o : Outcome Reason (Unit {0})). bind o (λ _. test (leb (length d) 1048576) (reason 6 (byte 0)) (λ _. test (leb index (length d)) (reason 7 (byte index)) accepted))) h

    -- by what `check_length` came to
    pub admit_length : {o : Outcome Reason (Unit {0})} → o ≡ check_length d → bind o (λ _. test (leb index (length d)) (reason 7 (byte index)) accepted) ≡ admit_of g d index
    admit_length e = ap (λ (o : Outcome Reason (Unit {0})). bind o (λ _. test (leb index (length d)) (reason 7 (byte index)) accepted)) e ∙ bind-test (leb (length d) 1048576) (reason 6 (byte 0)) accepted (λ _. test (leb index (length d)) (reason 7 (byte index)) accepted) ∙ admit_sound

  -- what 1 to 7 not given says
  pub admitted : accepted tt ≡ admit_of g d index → Passes g × (length d ≤ 1048576) × (index ≤ length d)
  unfolding admit_of
  admitted h = go (check_grammar g) refl h
    where
      go : (x : Outcome Reason (Unit {0})) → check_grammar g ≡ x → accepted tt ≡ bind x (λ _. test (leb (length d) 1048576) (reason 6 (byte 0)) (λ _. test (leb index (length d)) (reason 7 (byte index)) accepted)) → Passes g × (length d ≤ 1048576) × (index ≤ length d)
      go (refused r) e q = let z : ◌≡◌ {A = ℕ} 0 1 = cc in absurd (omega arith)
      go (accepted u) e q =
          let l : leb (length d) 1048576 ≡ true = test_passed (leb (length d) 1048576) _ _ tt (sym q) in
          let i : leb index (length d) ≡ true = test_passed (leb index (length d)) (reason 7 (byte index)) accepted tt (sym (test-true _ _ l) ∙ sym q) in
          ((accepted_exactly g).0 e, leb-true (length d) 1048576 l, leb-true index (length d) i)
