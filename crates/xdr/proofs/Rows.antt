-- The rows of a value whose arrays lie one behind the other in a store: their length, and that with that store they stand for the value.
use Rattle.std.proofs.Common.{◌≡◌, refl, ap, sym, ◌∙◌, List, ◌++◌, append_assoc, ℕ, suc, ◌+◌, ◌-◌, ◌*◌, ◌≤◌, arith, length, take, drop, length-append, length-drop, take_at}
use Rattle.refusal.specs.Outcome.{accepted}
use Rattle.packed.specs.Packed.{pack_little_endian_seq}
use Rattle.packed.proofs.Laws.{length_pack_seq}
use Rattle.value.specs.Kinds.{Elements, element_width}
use Rattle.value.specs.Tree.{Val, Vals, VConstant, VNumber, VArray, VTuple, VNumberArray, VCase, vnil, vcons, ValidVal, TypedVal, row_count, row_counts}
use Rattle.tables.specs.Row.{row_width, Row}
use Rattle.rows.specs.Layout.{own_row}
use Rattle.rows.specs.Walk.{walk}
use Rattle.rows.specs.Rule.{PackedAt, StandFor, StandForAll, TableOf}
use Rattle.rows.proofs.Rule.{table-accepted}
use Rattle.rows.proofs.LayoutLaws.{after, row-there, own_there, next-there, behind-row}
use Rattle.xdr.specs.Xdr.{store_of, store_of_all, rows_in, rows_in_all}

mutual
  unfolding rows_in row_count

  pub length-rows_in : (v : Val) (p : ℕ) → length (rows_in v p) ≡ row_width * row_count v
  length-rows_in VConstant p = refl
  length-rows_in (VNumber k n) p = refl
  length-rows_in (VArray vs) p = omega (arith, length-rows_in_all vs p)
  length-rows_in (VTuple vs) p = omega (arith, length-rows_in_all vs p)
  length-rows_in (VNumberArray k ns) p = refl
  length-rows_in (VCase c v) p = omega (arith, length-rows_in v p)

  pub length-rows_in_all : (vs : Vals) (p : ℕ) → length (rows_in_all vs p) ≡ row_width * row_counts vs
  length-rows_in_all vnil p = refl
  length-rows_in_all (vcons v vs) p = rw length-append (omega (arith, length-rows_in v p, length-rows_in_all vs (p + length (store_of v))))

module _ (t s : List ℕ) where
  packed_there : (k : Elements) (ns : List ℕ) (p : ℕ) (rest : List ℕ) → p ≤ length s → drop p s ≡ pack_little_endian_seq (element_width k) ns ++ rest → PackedAt s p k ns
  packed_there k ns p rest l b =
      let bs = pack_little_endian_seq (element_width k) ns in
      let n : length s - p ≡ element_width k * length ns + length rest = sym (length-drop p s) ∙ ap length b ∙ rw (length-append, length_pack_seq) in
      record {
        within = omega arith;
        bytes = ap (take (element_width k * length ns)) b ∙ take_at bs rest (element_width k * length ns) (length_pack_seq (element_width k) ns);
      }

  mutual
    unfolding rows_in own_row StandFor store_of row_count

    pub packed_stands : (v : Val) (i p : ℕ) (more rest : List ℕ) → p ≤ length s → drop (row_width * i) t ≡ rows_in v p ++ more → drop p s ≡ store_of v ++ rest → StandFor t s i v
    packed_stands VConstant i p more rest l h b = own_there t s VConstant i p more h
    packed_stands (VNumber k n) i p more rest l h b = own_there t s (VNumber k n) i p more h
    packed_stands (VArray vs) i p more rest l h b = (
      own_there t s (VArray vs) i p (rows_in_all vs p ++ more) h,
      packed_stand vs (suc i) p more rest l (behind-row t s (VArray vs) i p (rows_in_all vs p ++ more) h) b,
    )
    packed_stands (VTuple vs) i p more rest l h b = (
      own_there t s (VTuple vs) i p (rows_in_all vs p ++ more) h,
      packed_stand vs (suc i) p more rest l (behind-row t s (VTuple vs) i p (rows_in_all vs p ++ more) h) b,
    )
    packed_stands (VNumberArray k ns) i p more rest l h b = (
      own_there t s (VNumberArray k ns) i p more h,
      rw (ap (λ (r : Row). r.word3) (row-there t i (own_row (VNumberArray k ns) p) more h)) (packed_there k ns p rest l b),
    )
    packed_stands (VCase c v) i p more rest l h b = (
      own_there t s (VCase c v) i p (rows_in v p ++ more) h,
      packed_stands v (suc i) p more rest l (behind-row t s (VCase c v) i p (rows_in v p ++ more) h) b,
    )

    packed_stand : (vs : Vals) (i p : ℕ) (more rest : List ℕ) → p ≤ length s → drop (row_width * i) t ≡ rows_in_all vs p ++ more → drop p s ≡ store_of_all vs ++ rest → StandForAll t s i vs
    packed_stand vnil i p more rest l h b = tt
    packed_stand (vcons v vs) i p more rest l h b =
        let n : ℕ = length (store_of v) in
        let h' : drop (row_width * i) t ≡ rows_in v p ++ (rows_in_all vs (p + n) ++ more) = h ∙ append_assoc (rows_in v p) (rows_in_all vs (p + n)) more in
        let b' : drop p s ≡ store_of v ++ (store_of_all vs ++ rest) = b ∙ append_assoc (store_of v) (store_of_all vs) rest in
        let m : length s - p ≡ n + length (store_of_all vs ++ rest) = sym (length-drop p s) ∙ ap length b' ∙ length-append (store_of v) (store_of_all vs ++ rest) in (
          packed_stands v i p _ _ l h' b',
          packed_stand vs (i + row_count v) (p + n) more rest (omega arith) (next-there t s i (row_count v) (rows_in v p) _ h' (length-rows_in v p)) (after s p n (store_of v) _ b' refl),
        )

-- the rows of v with the store that its arrays begin, whatever follows: a table of v, and the walk gives v back
module _ (v : Val) (more rest : List ℕ) (few : row_count v ≤ 4096) (store : length (store_of v ++ rest) ≤ 1048576) (valid : ValidVal v) (typed : TypedVal v) where
  pub packed_table : TableOf (rows_in v 0 ++ more) (row_count v) (store_of v ++ rest) v
  packed_table = record {
    store = store;
    few = few;
    words = rw length-append (omega (arith, length-rows_in v 0));
    count = refl;
    rows = packed_stands (rows_in v 0 ++ more) (store_of v ++ rest) v 0 0 more rest (omega arith) refl refl;
    valid = valid;
    typed = typed;
  }

  pub packed_walk : walk (rows_in v 0 ++ more) (row_count v) (store_of v ++ rest) ≡ accepted v
  packed_walk = table-accepted (rows_in v 0 ++ more) (row_count v) (store_of v ++ rest) v packed_table
