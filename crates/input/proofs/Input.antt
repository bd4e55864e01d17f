-- When an input is laid out, as the functions decide it.
use Rattle.std.proofs.Common.{◌≡◌, ◌↔◌, List, ℕ, ◌+◌, ◌*◌, ◌≤◌, Bool, true, length, take, drop, leb, eqb, refl, ap, sym, subst, ◌∙◌, arith, le-leb, leb-true, eq-eqb, eqb-true}
use Rattle.refusal.specs.Outcome.{accepted, test, Outcome, Reason}
use Rattle.refusal.proofs.Outcome.{bind_inverse, test-true, test_passed}
use Rattle.packed.specs.Packed.{unpack_little_endian}
use Rattle.input.specs.declared.Layout.{Layout}
use Rattle.input.specs.Input.{most_input, most_words, not_laid_out, count_at, record_after, layout_of, LaidOut}

test_inverse : {A : Type 0} (b : Bool) (e : Reason) (k : Unit {0} → Outcome Reason A) (a : A) → test b e k ≡ accepted a → (b ≡ true) × (k tt ≡ accepted a)
test_inverse b e k a h = let t = test_passed b e k a h in (t, sym (test-true e k t) ∙ h)

module _ (input : List ℕ) (p : Layout) where
  count_inverse : (index n : ℕ) → count_at input index ≡ accepted n → unpack_little_endian 4 (take 4 (drop index input)) ≡ n
  unfolding count_at
  count_inverse index n h = let q = (test_inverse (leb (index + 4) (length input)) (not_laid_out input) (λ _. accepted (unpack_little_endian 4 (take 4 (drop index input)))) n h).1 in cc

  count-accepted : (index n : ℕ) → index + 4 ≤ length input → unpack_little_endian 4 (take 4 (drop index input)) ≡ n → count_at input index ≡ accepted n
  unfolding count_at
  count-accepted index n l e = test-true _ _ (le-leb (index + 4) (length input) l) ∙ ap accepted e

  laid_out : layout_of input ≡ accepted p → LaidOut input p
  unfolding layout_of record_after
  laid_out h =
      let s = test_inverse (leb (length input) most_input) (not_laid_out input) _ p h in
      let w = bind_inverse (count_at input 0) _ s.1 in
      let m = test_inverse (leb w.0 most_words) (not_laid_out input) _ p w.2 in
      let z = bind_inverse (count_at input (4 + 4 * w.0)) _ m.1 in
      let e = test_inverse (eqb (8 + 4 * w.0 + z.0) (length input)) (not_laid_out input) _ p z.2 in
      let q : record { words = w.0; start = 8 + 4 * w.0; size = z.0 } ≡ p = cc in
      subst (LaidOut input) q
      (record {
        short = leb-true (length input) most_input s.0;
        counted = count_inverse 0 w.0 w.1;
        few = leb-true w.0 most_words m.0;
        start = refl;
        sized = count_inverse (4 + 4 * w.0) z.0 z.1;
        whole = eqb-true (8 + 4 * w.0 + z.0) (length input) e.0;
      })

  accepts : LaidOut input p → layout_of input ≡ accepted p
  unfolding layout_of record_after
  accepts l =
      rw (le-leb (length input) most_input l.short, count-accepted 0 p.words (omega (arith, l.start, l.whole)) l.counted, le-leb p.words most_words l.few, count-accepted (4 + 4 * p.words) p.size (omega (arith, l.start, l.whole)) l.sized, eq-eqb (8 + 4 * p.words + p.size) (length input) (omega (arith, l.start, l.whole)))
      (ap (λ (k : ℕ). accepted (record { words = p.words; start = k; size = p.size })) (sym l.start))

  -- an input is accepted exactly where it is laid out
  pub layout_exactly : (layout_of input ≡ accepted p) ↔ LaidOut input p
  layout_exactly = (laid_out, accepts)
