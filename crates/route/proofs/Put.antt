-- What was put at an index of an output long enough.
use Rattle.std.proofs.Common.{◌≡◌, sym, ap, ◌∙◌, List, ◌++◌, append_assoc, ℕ, ◌+◌, ◌≤◌, arith, length, take, drop, length-append, take_at, drop_at, length-take-le}
use Rattle.packed.specs.Packed.{put}
use Rattle.packed.proofs.Put.{length-put}
use Rattle.packed.proofs.Source.{put-there}
use Rattle.route.specs.Demands.{PutThere}

module _ (out : List ℕ) (index : ℕ) (bs : List ℕ) (l : index + length bs ≤ length out) where
  index-there : length (take index out) ≡ index
  index-there = length-take-le index out (omega arith)

  put-before : take index (put out index bs) ≡ take index out
  unfolding put
  put-before = take_at (take index out) (bs ++ drop (index + length bs) out) index index-there

  put-behind : drop (index + length bs) (put out index bs) ≡ drop (index + length bs) out
  unfolding put
  put-behind =
      ap (drop (index + length bs)) (sym (append_assoc (take index out) bs (drop (index + length bs) out)))
      ∙ drop_at (take index out ++ bs) (drop (index + length bs) out) (index + length bs) (rw (length-append, index-there))

  pub put-at : {exit : List ℕ} → exit ≡ put out index bs → PutThere bs out index exit
  put-at e = rw e (record { there = put-there out index bs l; before = put-before; behind = put-behind; same = length-put out index bs l })
