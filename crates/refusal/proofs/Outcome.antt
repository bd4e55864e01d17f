-- The laws of outcomes: of `bind`, of `test`, of `map`, and of a postcondition along them.
use Rattle.std.proofs.Common.{◌≡◌, refl, ap, sym, ◌∙◌, List, ◌↔◌, Bool, true, false, not, ℕ, arith, T}
use Rattle.refusal.proofs.Tests.{refutes}
use Rattle.refusal.specs.Outcome.{Outcome, accepted, refused, bind, test, map, contents, Fills, Reason}

-- no outcome is refused and accepted
pub clash : {E A P : Type 0} {e : E} {a : A} → refused e ≡ accepted a → P
clash h = let z : ◌≡◌ {A = ℕ} 0 1 = cc in absurd (omega arith)

pub bind-accepted : {E A : Type 0} (x : Outcome E A) → bind x accepted ≡ x
bind-accepted (accepted a) = refl
bind-accepted (refused e) = refl

pub bind_assoc : {E A B C : Type 0} (x : Outcome E A) (k : A → Outcome E B) (l : B → Outcome E C) → bind (bind x k) l ≡ bind x (λ a. bind (k a) l)
bind_assoc (accepted a) k l = refl
bind_assoc (refused e) k l = refl

-- what an accepted outcome says of the one that it goes on from
pub bind_inverse : {E A B : Type 0} (x : Outcome E A) (k : A → Outcome E B) {b : B} → bind x k ≡ accepted b → (a : A) × (x ≡ accepted a) × (k a ≡ accepted b)
bind_inverse (accepted a) k h = (a, refl, h)
bind_inverse (refused e) k h = clash h

pub bind-test : {E A B : Type 0} (b : Bool) (e : E) (k : Unit {0} → Outcome E A) (l : A → Outcome E B) → bind (test b e k) l ≡ test b e (λ u. bind (k u) l)
bind-test true e k l = refl
bind-test false e k l = refl

pub test-true : {E A : Type 0} {b : Bool} (e : E) (k : Unit {0} → Outcome E A) → b ≡ true → test b e k ≡ k tt
test-true e k h = rw h

pub test-false : {E A : Type 0} {b : Bool} (e : E) (k : Unit {0} → Outcome E A) → b ≡ false → test b e k ≡ refused e
test-false e k h = rw h

-- an accepted test was true
pub test_passed : {E A : Type 0} (b : Bool) (e : E) (k : Unit {0} → Outcome E A) (a : A) → test b e k ≡ accepted a → b ≡ true
test_passed true e k a h = refl
test_passed false e k a h = clash h

pub map-bind : {E A B C : Type 0} (f : B → C) (x : Outcome E A) (k : A → Outcome E B) → map f (bind x k) ≡ bind x (λ a. map f (k a))
map-bind f (accepted a) k = refl
map-bind f (refused e) k = refl

pub map-map : {E A B C : Type 0} (f : B → C) (g : A → B) (x : Outcome E A) → map f (map g x) ≡ map (λ a. f (g a)) x
map-map f g (accepted a) = refl
map-map f g (refused e) = refl

-- what the value or the error of a function says of the outcome
module _ {E A B : Type 0} (f : A → B) where
  pub map-accepted : (o : Outcome E A) {b : B} → map f o ≡ accepted b → (a : A) × (o ≡ accepted a) × (b ≡ f a)
  map-accepted (accepted a) h = (a, refl, cc)
  map-accepted (refused e) h = clash h

  pub map-refused : (o : Outcome E A) {e : E} → map f o ≡ refused e → o ≡ refused e
  map-refused (accepted a) h = clash (sym h)
  map-refused (refused x) h = cc

-- P holds of the value, Q of the error
pub data Post {E A : Type 0} (P : A → Type 0) (Q : E → Type 0) : Outcome E A → Type 0 where
  holds : (a : A) → P a → Post P Q (accepted a)
  fails : (e : E) → Q e → Post P Q (refused e)

pub post_bind : {E A B : Type 0} {P : A → Type 0} {R : B → Type 0} {Q : E → Type 0} {x : Outcome E A} (k : A → Outcome E B) → Post P Q x → ((a : A) → P a → Post R Q (k a)) → Post R Q (bind x k)
post_bind k (holds a p) c = c a p
post_bind k (fails e q) c = fails e q

pub post_test : {E A : Type 0} {P : A → Type 0} {Q : E → Type 0} (b : Bool) (e : E) (k : Unit {0} → Outcome E A) → (T b → Post P Q (k tt)) → (T (not b) → Q e) → Post P Q (test b e k)
post_test true e k c n = c tt
post_test false e k c n = fails e (n tt)

-- the same where the test reflects R
pub post_reflects : {E A : Type 0} {P : A → Type 0} {Q : E → Type 0} {R : Type 0} (b : Bool) (e : E) (k : Unit {0} → Outcome E A) → R ↔ (b ≡ true) → (R → Post P Q (k tt)) → ((R → ⊥) → Q e) → Post P Q (test b e k)
post_reflects true e k r c n = c (r.1 refl)
post_reflects false e k r c n = fails e (n (refutes r refl))

pub post_weaken : {E A : Type 0} {P R : A → Type 0} {Q S : E → Type 0} {x : Outcome E A} → ((a : A) → P a → R a) → ((e : E) → Q e → S e) → Post P Q x → Post R S x
post_weaken f g (holds a p) = holds a (f a p)
post_weaken f g (fails e q) = fails e (g e q)

-- what a postcondition says of a known outcome
pub post_accepted : {E A : Type 0} {P : A → Type 0} {Q : E → Type 0} {a : A} → Post P Q (accepted a) → P a
post_accepted (holds a p) = p

pub post_refused : {E A : Type 0} {P : A → Type 0} {Q : E → Type 0} {e : E} → Post P Q (refused e) → Q e
post_refused (fails e q) = q

-- a call that fills a buffer by a function of what another outcome gives
module _ {A B : Type 0} (f : B → List A) (entry : List A) {o : Outcome Reason B} where
  pub fills_refused : {x : Reason} → refused x ≡ o → Fills (map f o) (refused x) entry entry
  fills_refused h = record {
    answers = ap (λ (p : Outcome Reason B). map (λ _. tt) (map f p)) h;
    buffer = ap (λ (p : Outcome Reason B). contents (map f p) entry) h;
  }

  pub fills_accepted : {b : B} {exit : List A} → accepted b ≡ o → exit ≡ f b → Fills (map f o) (accepted tt) entry exit
  fills_accepted h e = record {
    answers = ap (λ (p : Outcome Reason B). map (λ _. tt) (map f p)) h;
    buffer = e ∙ ap (λ (p : Outcome Reason B). contents (map f p) entry) h;
  }
