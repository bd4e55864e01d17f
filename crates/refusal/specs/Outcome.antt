-- What a definition answers: a value, or why there is none. All definitions of the project use this one type.
use Rattle.std.specs.Prelude.{◌≡◌, List, ℕ, Bool, true, false}

-- document 01's place: a grammar word, a byte or a row, each with its number; the word is one of a grammar list where that is what a call takes
pub data Location : Type 0 where
  word : ℕ → Location
  byte : ℕ → Location
  row : ℕ → Location

-- document 01's refusal: its number in the papers' tables, and its place
pub data Reason : Type 0 where
  reason : ℕ → Location → Reason

-- a value of A, or an error of E: a `Reason`, or a `Reason` with what else is known where it arose
pub data Outcome (E A : Type 0) : Type 0 where
  accepted : A → Outcome E A
  refused : E → Outcome E A

-- goes on with the value; an error ends it
abbrev pub bind : {E A B : Type 0} → Outcome E A → (A → Outcome E B) → Outcome E B
bind (accepted a) k = k a
bind (refused e) k = refused e

-- goes on where the test holds. What follows waits for the test, so that a refused count is not counted down
abbrev pub test : {E A : Type 0} → Bool → E → (Unit {0} → Outcome E A) → Outcome E A
test true e k = k tt
test false e k = refused e

-- a function of the value
abbrev pub map : {E A B : Type 0} → (A → B) → Outcome E A → Outcome E B
map f (accepted a) = accepted (f a)
map f (refused e) = refused e

-- what a lent buffer holds at exit: what the outcome gives it, or after a refusal what it held at entry
abbrev pub contents : {E A : Type 0} → Outcome E A → A → A
contents (accepted b) entry = b
contents (refused e) entry = entry

-- a call that fills a lent buffer as the outcome o says: what it answers, and what the buffer holds at exit
pub record Fills {A : Type 0} (o : Outcome Reason (List A)) (answer : Outcome Reason (Unit {0})) (entry exit : List A) : Type 0 where
  pub answers : answer ≡ map (λ _. tt) o
  pub buffer : exit ≡ contents o entry
