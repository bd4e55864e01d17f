-- The layout of a value: its length, and that with the value's bytes in the store it stands for the value.
use Rattle.std.proofs.Common.{◌≡◌, refl, ap, sym, ◌∙◌, List, ◌++◌, append_assoc, ℕ, suc, ◌+◌, ◌-◌, ◌*◌, ◌≤◌, add-one, arith, length, get_or, take, drop, length-append, length-drop, take-append-drop, get_or-drop, drop-drop, take_at, drop_at}
use Rattle.refusal.specs.Outcome.{accepted}
use Rattle.packed.specs.Packed.{pack_little_endian, pack_little_endian_seq}
use Rattle.packed.proofs.Laws.{length_pack, length_pack_seq}
use Rattle.value.specs.Kinds.{Elements, element_width}
use Rattle.value.specs.Tree.{Val, Vals, VConstant, VNumber, VArray, VTuple, VNumberArray, VCase, vnil, vcons, seq_v, ValidVal, TypedVal, SizeOfV, row_count, row_counts}
use Rattle.value.specs.Bytes.{bytes_of, bytes_of_all}
use Rattle.value.proofs.Laws.{length_bytes_of}
use Rattle.tables.specs.Row.{row_width, Row, row_words, row_at}
use Rattle.rows.specs.Layout.{own_row, rows_of, rows_of_all}
use Rattle.rows.specs.Walk.{walk}
use Rattle.rows.specs.Rule.{RowOf, PackedAt, StandFor, StandForAll, TableOf}
use Rattle.rows.proofs.Rule.{table-accepted}

mutual
  unfolding rows_of row_count

  pub length_rows_of : (v : Val) (p : ℕ) → length (rows_of v p) ≡ row_width * row_count v
  length_rows_of VConstant p = refl
  length_rows_of (VNumber k n) p = refl
  length_rows_of (VArray vs) p = omega (arith, length-rows_of_all vs (p + 8))
  length_rows_of (VTuple vs) p = omega (arith, length-rows_of_all vs p)
  length_rows_of (VNumberArray k ns) p = refl
  length_rows_of (VCase c v) p = omega (arith, length_rows_of v (p + 8))

  pub length-rows_of_all : (vs : Vals) (p : ℕ) → length (rows_of_all vs p) ≡ row_width * row_counts vs
  length-rows_of_all vnil p = refl
  length-rows_of_all (vcons v vs) p = rw length-append (omega (arith, length_rows_of v p, length-rows_of_all vs (p + SizeOfV v)))

-- what stands behind a front part
pub after : (l : List ℕ) (p n : ℕ) (front rest : List ℕ) → drop p l ≡ front ++ rest → length front ≡ n → drop (p + n) l ≡ rest
after l p n front rest h e = sym (drop-drop n p l) ∙ ap (drop n) h ∙ drop_at front rest n e

-- a part that is there lies within
pub within : (l : List ℕ) (p : ℕ) (front rest : List ℕ) → drop p l ≡ front ++ rest → 1 ≤ length front → p + length front ≤ length l
within l p front rest h e =
    let a : length l - p ≡ length front + length rest = sym (length-drop p l) ∙ ap length h ∙ length-append front rest in
    omega arith

-- a row that stands at row i of a table
pub row-there : (t : List ℕ) (i : ℕ) (r : Row) (rest : List ℕ) → drop (row_width * i) t ≡ row_words r ++ rest → row_at t i ≡ r
row-there t i r rest h =
    let g : (j : ℕ) → get_or t (row_width * i + j) 0 ≡ get_or (row_words r ++ rest) j 0 = λ j. sym (get_or-drop (row_width * i) t j 0) ∙ ap (λ (l : List ℕ). get_or l j 0) h in
    let z : row_width * i + 0 ≡ row_width * i = omega arith in
    rw (rw z at (g 0), g 1, g 2, g 3, g 4)

-- a row knows its place
own_place : (v : Val) (place : ℕ) → own_row v place ≡ own_row v (own_row v place).word3
unfolding own_row
own_place VConstant place = refl
own_place (VNumber k n) place = refl
own_place (VArray vs) place = refl
own_place (VTuple vs) place = refl
own_place (VNumberArray k ns) place = refl
own_place (VCase c v) place = refl

module _ (t s : List ℕ) where
  pub own_there : (v : Val) (i place : ℕ) (rest : List ℕ) → drop (row_width * i) t ≡ row_words (own_row v place) ++ rest → RowOf t i v
  own_there v i place rest h =
      let e : row_at t i ≡ own_row v place = row-there t i (own_row v place) rest h in
      e ∙ own_place v place ∙ ap (λ (r : Row). own_row v r.word3) (sym e)

  pub next-there : (i n : ℕ) (front rest : List ℕ) → drop (row_width * i) t ≡ front ++ rest → length front ≡ row_width * n → drop (row_width * (i + n)) t ≡ rest
  next-there i n front rest h e =
      let m : row_width * (i + n) ≡ row_width * i + row_width * n = omega arith in
      rw m (after t (row_width * i) (row_width * n) front rest h e)

  -- what stands behind a row, and behind a count or a tag
  pub behind-row : (v : Val) (i place : ℕ) (rest : List ℕ) → drop (row_width * i) t ≡ row_words (own_row v place) ++ rest → drop (row_width * suc i) t ≡ rest
  behind-row v i place rest h = rw add-one at (next-there i 1 (row_words (own_row v place)) rest h refl)

  behind-count : (p n : ℕ) (bs rest : List ℕ) → drop p s ≡ (pack_little_endian 8 n ++ bs) ++ rest → drop (p + 8) s ≡ bs ++ rest
  behind-count p n bs rest h = after s p 8 (pack_little_endian 8 n) (bs ++ rest) (h ∙ append_assoc (pack_little_endian 8 n) bs rest) (length_pack 8 n)

  -- an array's elements behind its count
  packed_there : (k : Elements) (ns : List ℕ) (p : ℕ) (rest : List ℕ) → drop p s ≡ bytes_of (VNumberArray k ns) ++ rest → PackedAt s (p + 8) k ns
  unfolding bytes_of
  packed_there k ns p rest b =
      let bs = pack_little_endian_seq (element_width k) ns in
      let l : length (pack_little_endian 8 (length ns) ++ bs) ≡ 8 + element_width k * length ns = rw (length-append, length_pack, length_pack_seq) in
      record {
        within = omega (arith, within s p (pack_little_endian 8 (length ns) ++ bs) rest b (omega arith));
        bytes = ap (take (element_width k * length ns)) (behind-count p (length ns) bs rest b) ∙ take_at bs rest (element_width k * length ns) (length_pack_seq (element_width k) ns);
      }

  mutual
    unfolding rows_of own_row StandFor bytes_of row_count

    pub layout_stands : (v : Val) (i p : ℕ) (more rest : List ℕ) → drop (row_width * i) t ≡ rows_of v p ++ more → drop p s ≡ bytes_of v ++ rest → StandFor t s i v
    layout_stands VConstant i p more rest h b = own_there VConstant i (p + 8) more h
    layout_stands (VNumber k n) i p more rest h b = own_there (VNumber k n) i (p + 8) more h
    layout_stands (VArray vs) i p more rest h b = (
      own_there (VArray vs) i (p + 8) (rows_of_all vs (p + 8) ++ more) h,
      layouts_stand vs (suc i) (p + 8) more rest (behind-row (VArray vs) i (p + 8) (rows_of_all vs (p + 8) ++ more) h) (behind-count p (length (seq_v vs)) (bytes_of_all vs) rest b),
    )
    layout_stands (VTuple vs) i p more rest h b = (
      own_there (VTuple vs) i (p + 8) (rows_of_all vs p ++ more) h,
      layouts_stand vs (suc i) p more rest (behind-row (VTuple vs) i (p + 8) (rows_of_all vs p ++ more) h) b,
    )
    layout_stands (VNumberArray k ns) i p more rest h b =
        let o = own_there (VNumberArray k ns) i (p + 8) more h in
        (o, rw (ap (λ (r : Row). r.word3) (row-there t i (own_row (VNumberArray k ns) (p + 8)) more h)) (packed_there k ns p rest b))
    layout_stands (VCase c v) i p more rest h b = (
      own_there (VCase c v) i (p + 8) (rows_of v (p + 8) ++ more) h,
      layout_stands v (suc i) (p + 8) more rest (behind-row (VCase c v) i (p + 8) (rows_of v (p + 8) ++ more) h) (behind-count p c (bytes_of v) rest b),
    )

    layouts_stand : (vs : Vals) (i p : ℕ) (more rest : List ℕ) → drop (row_width * i) t ≡ rows_of_all vs p ++ more → drop p s ≡ bytes_of_all vs ++ rest → StandForAll t s i vs
    layouts_stand vnil i p more rest h b = tt
    layouts_stand (vcons v vs) i p more rest h b =
        let h' : drop (row_width * i) t ≡ rows_of v p ++ (rows_of_all vs (p + SizeOfV v) ++ more) = h ∙ append_assoc (rows_of v p) (rows_of_all vs (p + SizeOfV v)) more in
        let b' : drop p s ≡ bytes_of v ++ (bytes_of_all vs ++ rest) = b ∙ append_assoc (bytes_of v) (bytes_of_all vs) rest in (
          layout_stands v i p _ _ h' b',
          layouts_stand vs (i + row_count v) (p + SizeOfV v) more rest (next-there i (row_count v) (rows_of v p) _ h' (length_rows_of v p)) (after s p (SizeOfV v) (bytes_of v) _ b' (length_bytes_of v)),
        )

-- the rows of v laid out, whatever follows them, with v's bytes at that place of the store: a table of v, and the walk gives v back
module _ (v : Val) (p : ℕ) (more s : List ℕ) (few : row_count v ≤ 4096) (store : length s ≤ 1048576) (valid : ValidVal v) (typed : TypedVal v) (bytes : take (SizeOfV v) (drop p s) ≡ bytes_of v) where
  pub layout-table : TableOf (rows_of v p ++ more) (row_count v) s v
  layout-table = record {
    store = store;
    few = few;
    words = rw length-append (omega (arith, length_rows_of v p));
    count = refl;
    rows = layout_stands (rows_of v p ++ more) s v 0 p more (drop (SizeOfV v) (drop p s)) refl (sym (take-append-drop (SizeOfV v) (drop p s)) ∙ rw bytes);
    valid = valid;
    typed = typed;
  }

  pub layout-walk : walk (rows_of v p ++ more) (row_count v) s ≡ accepted v
  layout-walk = table-accepted (rows_of v p ++ more) (row_count v) s v layout-table
