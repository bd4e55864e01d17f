-- An answer is determined by what it means, so a contract through the meaning fixes the answer.
use Rattle.std.proofs.Common.{◌≡◌, ℕ, Ok, Err, arith, ap, sym, ◌∙◌}
use Rattle.refusal.proofs.Meaning.{reason_injective}
use Rattle.value.specs.Reading.{State, Stop}
use Rattle.readers.specs.declared.State.{State as CodeState}
use Rattle.readers.specs.declared.Stopped.{Stopped}
use Rattle.readers.specs.Meaning.{CodeStep, state_of, stop_of, step_of, StepKeeps}

state_of_injective : (s t : CodeState) → state_of s ≡ state_of t → s.capacity ≡ t.capacity → s ≡ t
state_of_injective s t h c = rw (ap (λ (u : State). u.at) h, ap (λ (u : State). u.begun) h, c)

stop_of_injective : (a b : Stopped) → stop_of a ≡ stop_of b → a.state.capacity ≡ b.state.capacity → a ≡ b
stop_of_injective a b e c =
    let f : a.state ≡ b.state = state_of_injective a.state b.state (ap (λ (u : Stop). u.state) e) c in
    let g : a.refusal ≡ b.refusal = reason_injective a.refusal b.refusal (ap (λ (u : Stop). u.why) e) in
    rw (f, g)

pub step_of_injective : (capacity : ℕ) (a b : CodeStep) → step_of a ≡ step_of b → StepKeeps capacity a → StepKeeps capacity b → a ≡ b
step_of_injective capacity (Ok s) (Ok t) h c d = let e : state_of s ≡ state_of t = cc in ap Ok (state_of_injective s t e (c ∙ sym d))
step_of_injective capacity (Ok s) (Err b) h c d = let z : ◌≡◌ {A = ℕ} 0 1 = cc in absurd (omega arith)
step_of_injective capacity (Err a) (Ok t) h c d = let z : ◌≡◌ {A = ℕ} 0 1 = cc in absurd (omega arith)
step_of_injective capacity (Err a) (Err b) h c d = let e : stop_of a ≡ stop_of b = cc in ap Err (stop_of_injective a b e (c ∙ sym d))
