-- Laws of the tests that definitions are made of.
use Rattle.std.proofs.Common.{◌≡◌, refl, sym, ◌↔◌, Bool, true, false, ◌&&◌, ℕ, zero, suc, zero-le, ◌≤◌, ◌<◌, arith, leb, ltb, eqb, le-leb, leb-true, lt-ltb, ltb-true, eq-eqb, eqb-true}

pub and-true : (a b : Bool) → (a && b) ≡ true → (a ≡ true) × (b ≡ true)
and-true true b h = (refl, h)
and-true false b h = let z : ◌≡◌ {A = ℕ} 0 1 = cc in absurd (omega arith)

-- a test that is true exactly where P holds: `P ↔ (b ≡ true)`
module _ {P : Type 0} {b : Bool} (r : P ↔ (b ≡ true)) where
  pub refuted : (P → ⊥) → b ≡ false
  refuted n = go b r.1
    where
      go : (x : Bool) → (x ≡ true → P) → x ≡ false
      go true f = absurd (n (f refl))
      go false f = refl

  pub refutes : b ≡ false → P → ⊥
  refutes e p = let t : b ≡ true = r.0 p in let z : ◌≡◌ {A = ℕ} 0 1 = cc in omega arith

pub reflects_leb : (m n : ℕ) → (m ≤ n) ↔ (leb m n ≡ true)
reflects_leb m n = (le-leb m n, leb-true m n)

pub reflects_ltb : (m n : ℕ) → (m < n) ↔ (ltb m n ≡ true)
reflects_ltb m n = (lt-ltb m n, ltb-true m n)

pub reflects_eqb : (m n : ℕ) → (m ≡ n) ↔ (eqb m n ≡ true)
reflects_eqb m n = (eq-eqb m n, eqb-true m n)

pub reflects_and : {P Q : Type 0} {a b : Bool} → P ↔ (a ≡ true) → Q ↔ (b ≡ true) → (P × Q) ↔ ((a && b) ≡ true)
reflects_and {P} {Q} {a} {b} p q = (λ h. rw (p.0 h.0) (q.0 h.1), λ h. let s = and-true a b h in (p.1 s.0, q.1 s.1))

bool_iff : (x y : Bool) → (x ≡ true → y ≡ true) → (y ≡ true → x ≡ true) → x ≡ y
bool_iff true true f g = refl
bool_iff true false f g = sym (f refl)
bool_iff false true f g = g refl
bool_iff false false f g = refl

-- two comparisons that say the same
pub leb_iff : (a b c d : ℕ) → (a ≤ b → c ≤ d) → (c ≤ d → a ≤ b) → leb a b ≡ leb c d
leb_iff a b c d f g = bool_iff (leb a b) (leb c d) (λ t. le-leb c d (f (leb-true a b t))) (λ t. le-leb a b (g (leb-true c d t)))

-- the last arm of a match on numbers: none of those below, so that number or more
abbrev pub NoneBelow : ℕ → ℕ → Type 0
NoneBelow zero k = Unit {0}
NoneBelow (suc b) k = NoneBelow b k × (k ≡ b → ⊥)

pub none_below : (b k : ℕ) → NoneBelow b k → b ≤ k
none_below zero k h = zero-le
none_below (suc b) k h = let l = none_below b k h.0 in let n = h.1 in omega arith
