-- When the length decides, and what `accepts` then answers.
use Rattle.std.proofs.Common.{Option, Some, None, ◌≡◌, refl, ap, sym, ◌∙◌, Bool, true, false, ◌||◌, ◌↔◌, List, ℕ, ◌≤◌, ◌<◌, arith, length, ltb, lt-ltb, le-ltb, ltb-true}
use Rattle.refusal.specs.Outcome.{accepted, refused, Reason}
use Rattle.refusal.proofs.Outcome.{map-accepted, map-refused}
use Rattle.refusal.proofs.Tests.{refuted}
use Rattle.value.specs.Tree.{Val}
use Rattle.value.specs.Reading.{Reading, read_whole}
use Rattle.value.specs.Least.{least, below_least}
use Rattle.grammar.specs.Check.{check_grammar}
use Rattle.grammar.specs.Tree.{tree_of}
use Rattle.readers.specs.Root.{read_root}
use Rattle.reading.proofs.Calls.{try_whole}
use Rattle.least.specs.Least.{least_of}
use Rattle.accepting.specs.Accepts.{unread, verdict, decided, accepts_of}
use Rattle.accepting.specs.Rule.{NoWalk, too_long, no_value, too_short}

pub yes-is-not-no : {P : Type 0} → true ≡ false → P
yes-is-not-no e = let z : ◌≡◌ {A = ℕ} 0 1 = cc in absurd (omega arith)

or_first : (a b : Bool) → a ≡ true → (a || b) ≡ true
or_first a b h = rw h

or_second : (a b : Bool) → b ≡ true → (a || b) ≡ true
or_second true b h = refl
or_second false b h = h

-- the check of a grammar whose least length is given
pub least_known : (g : List ℕ) {x : Option ℕ} → accepted x ≡ least_of g → (accepted tt ≡ check_grammar g) × (least (tree_of g 0) ≡ x)
least_known g h = let a = map-accepted (λ (u : Unit {0}). least (tree_of g 0)) (check_grammar g) (sym h) in (sym a.1, sym a.2)

module _ (g d : List ℕ) where
  pub reflects_decided : NoWalk g d ↔ (decided g d ≡ true)
  unfolding below_least
  reflects_decided = (to, λ h. from (least (tree_of g 0)) refl (ltb 1048576 (length d)) refl h)
    where
      to : NoWalk g d → decided g d ≡ true
      to (too_long h) = or_first (ltb 1048576 (length d)) (below_least (least (tree_of g 0)) (length d)) (lt-ltb 1048576 (length d) h)
      to (no_value e) = or_second (ltb 1048576 (length d)) (below_least (least (tree_of g 0)) (length d)) (rw e)
      to (too_short l e h) = or_second (ltb 1048576 (length d)) (below_least (least (tree_of g 0)) (length d)) (rw e (lt-ltb (length d) l h))

      from : (o : Option ℕ) → least (tree_of g 0) ≡ o → (b : Bool) → ltb 1048576 (length d) ≡ b → (b || below_least o (length d)) ≡ true → NoWalk g d
      from o e true q h = too_long (ltb-true 1048576 (length d) q)
      from None e false q h = no_value e
      from (Some l) e false q h = too_short l e (ltb-true (length d) l h)

  module _ (p : accepted tt ≡ check_grammar g) where
    pub not-walked : NoWalk g d → accepted unread ≡ accepts_of g d
    unfolding accepts_of
    not-walked n = rw (sym p, reflects_decided.0 n)

    pub walked : (NoWalk g d → ⊥) → accepted (verdict (read_whole 4096 d (tree_of g 0))) ≡ accepts_of g d
    unfolding accepts_of
    walked n = rw (sym p, refuted reflects_decided n)

  -- by what the least length came to
  pub accepts_refused : {r : Reason} → refused r ≡ least_of g → refused r ≡ accepts_of g d
  unfolding accepts_of
  accepts_refused h = rw (map-refused (λ (u : Unit {0}). least (tree_of g 0)) (check_grammar g) (sym h))

  module _ {x : Option ℕ} (k : accepted x ≡ least_of g) where
    pub too_long_unread : 1048576 < length d → accepted unread ≡ accepts_of g d
    too_long_unread h = not-walked (least_known g k).0 (too_long h)

    pub below_unread : below_least x (length d) ≡ true → accepted unread ≡ accepts_of g d
    unfolding accepts_of
    below_unread h =
        let a = least_known g k in
        rw (sym a.0, or_second (ltb 1048576 (length d)) (below_least (least (tree_of g 0)) (length d)) (rw a.1 h))

    pub tried : length d ≤ 1048576 → below_least x (length d) ≡ false → accepted (verdict (read_root g d 0 4096 true)) ≡ accepts_of g d
    unfolding accepts_of
    tried h e =
        let a = least_known g k in
        ap (λ (x : Reading Val). accepted (verdict x)) (try_whole g d 4096 (sym a.0) h)
        ∙ rw (sym a.0, le-ltb 1048576 (length d) h, a.1, e)

-- what `accepts` takes
pub ruleset accepts_steps = (accepts_refused, too_long_unread, below_unread, tried)
