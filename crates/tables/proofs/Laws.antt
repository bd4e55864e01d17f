-- A row put word by word.
use Rattle.std.proofs.Common.{◌≡◌, refl, ap, sym, ◌∙◌, List, [], ◌∷◌, ℕ, ◌+◌, ◌≤◌, add-zero, arith, length, set}
use Rattle.packed.specs.Packed.{put}
use Rattle.packed.proofs.Put.{put-nothing, put_next}

pub put_five : (l : List ℕ) (at a b c d e : ℕ) → at + 5 ≤ length l → set (set (set (set (set l at a) (at + 1) b) (at + 2) c) (at + 3) d) (at + 4) e ≡ put l at (a ∷ b ∷ c ∷ d ∷ e ∷ [])
put_five l at a b c d e h =
    let l₁ = set l at a in
    let l₂ = set l₁ (at + 1) b in
    let l₃ = set l₂ (at + 2) c in
    let p : l₁ ≡ put l at (a ∷ []) = ap (λ (i : ℕ). set l i a) (sym (add-zero at)) ∙ put_next l l at 0 a [] (sym (put-nothing l at)) refl (omega arith) in
    let q : l₂ ≡ put l at (a ∷ b ∷ []) = put_next l l₁ at 1 b (a ∷ []) p refl (omega arith) in
    let r : l₃ ≡ put l at (a ∷ b ∷ c ∷ []) = put_next l l₂ at 2 c (a ∷ b ∷ []) q refl (omega arith) in
    let s : set l₃ (at + 3) d ≡ put l at (a ∷ b ∷ c ∷ d ∷ []) = put_next l l₃ at 3 d (a ∷ b ∷ c ∷ []) r refl (omega arith) in
    put_next l (set l₃ (at + 3) d) at 4 e (a ∷ b ∷ c ∷ d ∷ []) s refl (omega arith)
