-- An entry that is set in its block of 64.
use Rattle.std.proofs.Common.{◌≡◌, List, ◌++◌, ℕ, ◌-◌, ◌≤◌, ◌<◌, arith, set}
use Rattle.std.proofs.lemmas.List.{set-append_left, set-append_right}
use Rattle.least.specs.Entries.{Blocks, entries}

module _ (a b c d : List ℕ) (p : Blocks a b c d) (i x : ℕ) where
  -- behind the first block
  behind_a : 64 ≤ i → set (entries a b c d) i x ≡ a ++ set (b ++ (c ++ d)) (i - 64) x
  unfolding entries
  behind_a l = set-append_right a (b ++ (c ++ d)) 64 i x p.0 l

  behind_b : 128 ≤ i → set (entries a b c d) i x ≡ a ++ (b ++ set (c ++ d) (i - 128) x)
  behind_b l =
      let e : i - 64 - 64 ≡ i - 128 = omega arith in
      rw (behind_a (omega arith), set-append_right b (c ++ d) 64 (i - 64) x p.1 (omega arith), e)

  pub set_a : i < 64 → entries (set a i x) b c d ≡ set (entries a b c d) i x
  unfolding entries
  set_a h = rw (set-append_left a (b ++ (c ++ d)) i x (omega (arith, p.0)))

  pub set_b : 64 ≤ i → i < 128 → entries a (set b (i - 64) x) c d ≡ set (entries a b c d) i x
  unfolding entries
  set_b l h = rw (behind_a l, set-append_left b (c ++ d) (i - 64) x (omega (arith, p.1)))

  pub set_c : 128 ≤ i → i < 192 → entries a b (set c (i - 128) x) d ≡ set (entries a b c d) i x
  unfolding entries
  set_c l h = rw (behind_b l, set-append_left c d (i - 128) x (omega (arith, p.2)))

  pub set_d : 192 ≤ i → entries a b c (set d (i - 192) x) ≡ set (entries a b c d) i x
  unfolding entries
  set_d l =
      let e : i - 128 - 64 ≡ i - 192 = omega arith in
      rw (behind_b (omega arith), set-append_right c d 64 (i - 128) x p.2 (omega arith), e)

-- what `set` takes
pub ruleset set_steps = (set_a, set_b, set_c, set_d)
