-- Steps over a grammar: each takes a state to a value and the state behind it, or to an error. Parsing and reading are made of them.
use Rattle.std.specs.Prelude.{ℕ, zero, suc}
use Rattle.refusal.specs.Outcome.{Outcome, accepted, bind}
use Rattle.value.specs.Tree.{Val, Vals, vnil, vcons}

pub record Step (S A : Type 0) : Type 0 where
  pub value : A
  pub state : S

abbrev pub yield : {E S A : Type 0} → A → S → Outcome E (Step S A)
yield a s = accepted (record { value = a; state = s })

-- goes on from the value and the state behind it
abbrev pub next : {E S A B : Type 0} → Outcome E (Step S A) → (A → S → Outcome E (Step S B)) → Outcome E (Step S B)
next x k = bind x (λ t. k t.value t.state)

-- a function of the value
abbrev pub give : {E S A B : Type 0} → (A → B) → Outcome E (Step S A) → Outcome E (Step S B)
give f x = next x (λ a s. yield (f a) s)

-- a value, and the values behind it
abbrev pub both : {E S : Type 0} → Outcome E (Step S Val) → (S → Outcome E (Step S Vals)) → Outcome E (Step S Vals)
both x k = next x (λ v s. give (vcons v) (k s))

-- n values, one behind the other
unfoldable pub elements : {E S : Type 0} → ℕ → (S → Outcome E (Step S Val)) → S → Outcome E (Step S Vals)
elements zero r s = yield vnil s
elements (suc n) r s = both (r s) (λ t. elements n r t)
