-- The loop's invariant: `same` says whether the bytes so far are equal.
use Rattle.std.proofs.Common.{◌≡◌, ℕ, ◌<◌, true, ◌↔◌, length, slice_index}
use Rattle.comparing.proofs.same_bytes.Given as goal

abbrev pub invariant-loop-x : goal.invariant-loop-x
invariant-loop-x l = ((k : ℕ) → k < length l.yielded → slice_index l.a k ≡ slice_index l.b k) ↔ (l.same ≡ true)
