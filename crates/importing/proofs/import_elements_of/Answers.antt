use Rattle.std.proofs.Common.{◌≡◌, ℕ, ◌+◌, ◌-◌, ◌*◌, ◌≤◌, ◌<◌, length, drop, arith, ap, ◌∙◌, mul-le-mul_right}
use Rattle.std.proofs.lemmas.Result.{err_from_is_err_and}
use Rattle.std.proofs.Math.ListN.{length-drop}
use Rattle.refusal.specs.Outcome.{accepted}
use Rattle.packed.specs.Packed.{put_within}
use Rattle.big_endian.specs.BigEndian.{unpack_big_endian_seq}
use Rattle.big_endian.proofs.Laws.{length_unpack_big_seq}
use Rattle.value.specs.Kinds.{Elements, bytes, uint32s, uint64s, element_width}
use Rattle.value.specs.Meaning.{elements_named}
use Rattle.value.specs.Tree.{VNumberArray, SizeOfV, row_count}
use Rattle.value.specs.Step.{yield, give}
use Rattle.rows.specs.Layout.{own_row}
use Rattle.xdr.specs.Xdr.{padding, rows_in}
use Rattle.xdr.specs.Import.{Filling, fill, move, take_number, check_body}
use Rattle.importing.specs.Meaning.{filling_of}
use Rattle.importing.proofs.Laws.{take_moves, part_from, body_holds, numbers-refused, numbers_body, numbers_taken, brings_refused, brings_next, elements_stored, fills_within}
use Rattle.importing.proofs.import_elements_of.Goals as goal
use Rattle.importing.proofs.import_elements_of.Goals.{In_ok-count, In_ok-import_array_body}

-- behind the count: it was taken, where it stands, that it is of 4 bytes, and the state behind it
counted : (c : In_ok-count) →
    let a = c.args in
    let n = c.in_ok-count in
    (yield n.count (filling_of n.next) ≡ take_number a.bytes.now 4 (filling_of a.s)) × (n.next.at ≡ a.s.at + 4) × (a.s.at + 4 ≤ length a.bytes.now) × (n.count < 4294967296) × (n.next.used ≡ a.s.used) × (n.next.size ≡ a.s.size)
counted c =
    let a = c.args in
    let n = c.in_ok-count in
    let e = n.ensures in
    let m = take_moves a.bytes.now 4 (filling_of a.s) n.count (filling_of n.next) e.0 in
    (e.0, ap (λ (t : Filling). t.at) m.0, m.1, e.1, ap (λ (t : Filling). t.used) m.0, e.2)

-- the width of an element
small : (k : Elements) → element_width k ≤ 8
small bytes = omega arith
small uint32s = omega arith
small uint64s = omega arith

-- behind the body: nothing is refused, so all bytes are there and have room
body : (c : In_ok-import_array_body) →
    let a = c.args in
    let n = c.in_ok-count in
    let size = c.width.result * n.count in
    (accepted tt ≡ check_body a.room a.s.used size (drop n.next.at a.bytes.now) a.s.at) × (size + padding size ≤ length a.bytes.now - n.next.at) × (a.s.used + size ≤ a.room)
body c =
    let a = c.args in
    let n = c.in_ok-count in
    let size = c.width.result * n.count in
    let e : accepted tt ≡ check_body a.room a.s.used size (drop n.next.at a.bytes.now) a.s.at = rw (part_from a.bytes.now n.next.at) at c.in_ok-import_array_body.ensures in
    let h = body_holds a.room a.s.used size (drop n.next.at a.bytes.now) a.s.at e in
    (e, rw length-drop at h.0, h.1)

pub returns-in_err-count : goal.returns-in_err-count
returns-in_err-count c =
    let a = c.args in
    let k = elements_named a.elements in
    let p = err_from_is_err_and c.from_residual.result c.from_residual.ensures.1 in
    rw (p.1, p.2) (brings_refused c.in_err-count.field-0.0 (ap (give (VNumberArray k)) (numbers-refused a.bytes.now a.room k (filling_of a.s) c.in_err-count.ensures.0)))

pub overflow_mul-size : goal.overflow_mul-size
overflow_mul-size c =
    let h = counted (goal.at.overflow_mul-size c).In_ok-count in
    let m : c.width.result * c.in_ok-count.count ≤ 8 * c.in_ok-count.count = mul-le-mul_right c.in_ok-count.count (rw c.width.ensures (small (elements_named c.args.elements))) in
    record { fits = omega (arith, h.3) }

pub slice_bounds-import_array_body-count : goal.slice_bounds-import_array_body-count
slice_bounds-import_array_body-count c = let h = counted (goal.at.slice_bounds-import_array_body-count c).In_ok-count in omega (arith, h.1, h.2)

pub slice_bounds-import_array_body-start : goal.slice_bounds-import_array_body-start
slice_bounds-import_array_body-start c = let h = counted (goal.at.slice_bounds-import_array_body-start c).In_ok-count in omega (arith, h.1, h.2)

pub import_array_body-requires : goal.import_array_body-requires
import_array_body-requires c =
    let h = counted (goal.at.import_array_body-requires c).In_ok-count in
    let m : c.width.result * c.in_ok-count.count ≤ 8 * c.in_ok-count.count = mul-le-mul_right c.in_ok-count.count (rw c.width.ensures (small (elements_named c.args.elements))) in
    omega (arith, h.3)

pub returns-in_err-import_array_body : goal.returns-in_err-import_array_body
returns-in_err-import_array_body c =
    let a = c.args in
    let n = c.in_ok-count in
    let k = elements_named a.elements in
    let r = c.from_residual-in_err-import_array_body in
    let p = err_from_is_err_and r.result r.ensures.1 in
    let h = rw (c.width.ensures, part_from a.bytes.now n.next.at) at c.in_err-import_array_body.ensures in
    rw (p.1, p.2) (brings_refused c.in_err-import_array_body.field-0.0 (ap (give (VNumberArray k)) (numbers_body a.bytes.now a.room k (filling_of a.s) n.count (filling_of n.next) n.ensures.0 h)))

pub overflow_add-end : goal.overflow_add-end
overflow_add-end c =
    let h = counted (goal.at.overflow_add-end c).In_ok-count in
    omega (arith, h.1, h.2, (body c).1, c.requires.1)

pub overflow_add-whole : goal.overflow_add-whole
overflow_add-whole c = omega (arith, (body (goal.at.overflow_add-whole c).In_ok-import_array_body).1, c.requires.1)

pub slice_bounds-copy_elements-end : goal.slice_bounds-copy_elements-end
slice_bounds-copy_elements-end c =
    let h = counted (goal.at.slice_bounds-copy_elements-end c).In_ok-count in
    let y = body (goal.at.slice_bounds-copy_elements-end c).In_ok-import_array_body in
    omega (arith, h.1, h.2, y.1)

pub overflow_add-size : goal.overflow_add-size
overflow_add-size c =
    let y = body (goal.at.overflow_add-size c).In_ok-import_array_body in
    record { fits = omega (arith, y.1, c.padding-padding.ensures, c.requires.1) }

pub move_on-requires : goal.move_on-requires
move_on-requires c =
    let h = counted (goal.at.move_on-requires c).In_ok-count in
    let y = body (goal.at.move_on-requires c).In_ok-import_array_body in
    omega (arith, h.1, h.2, y.1, c.padding-padding.ensures, c.requires.1)

pub fill-requires : goal.fill-requires
fill-requires c =
    let h = counted (goal.at.fill-requires c).In_ok-count in
    let y = body (goal.at.fill-requires c).In_ok-import_array_body in
    let m = ap (λ (t : Filling). t.used) c.move_on.ensures.0 in
    omega (arith, h.4, y.2, m, c.ranges)

pub grow-requires : goal.grow-requires
grow-requires c =
    let h = counted (goal.at.grow-requires c).In_ok-count in
    let p = c.requires in
    omega (arith, h.5, (body (goal.at.grow-requires c).In_ok-import_array_body).1, c.fill.ensures.1, c.move_on.ensures.1, p.1, p.2)

pub returns : goal.returns
unfolding rows_in own_row row_count SizeOfV
returns c =
    let h = counted (goal.at.returns c).In_ok-count in
    let y = body (goal.at.returns c).In_ok-import_array_body in
    let a = c.args in
    let n = c.in_ok-count in
    let d = a.bytes.now in
    let p = n.next.at in
    let k = elements_named a.elements in
    let w = element_width k in
    let f = c.width.ensures in
    let ns = unpack_big_endian_seq w (drop p d) n.count in
    let l : length ns ≡ n.count = length_unpack_big_seq w (drop p d) n.count in
    let t : filling_of c.grow.result ≡ fill (w * n.count) (move (w * n.count + padding (w * n.count)) (filling_of n.next)) =
    c.grow.ensures.0 ∙ c.fill.ensures.0 ∙ ap (fill (c.width.result * n.count)) (c.move_on.ensures.0 ∙ ap (λ (m : ℕ). move (c.width.result * n.count + m) (filling_of n.next)) c.padding-padding.ensures) ∙ rw f in
    brings_next c.grow.result (VNumberArray k ns)
    (ap (give (VNumberArray k)) (ap (λ (s : Filling). yield ns s) t ∙ numbers_taken d a.room k (filling_of a.s) n.count (filling_of n.next) h.0 (rw f at y.0)))
    (c.put_row.ensures ∙ rw (c.word.ensures, f, l))
    (fills_within a.store.now a.s.used _ c.copy_elements.ensures ∙ ap (put_within a.store.now a.s.used) (elements_stored k d p n.count (c.width.result * n.count) (λ j. (c.type_inv.bytes j).fits) (rw f) (omega (arith, y.1, h.1, h.2))))
    (c.grow.ensures.1 ∙ ap (λ (m : ℕ). m + (8 + c.width.result * n.count)) (c.fill.ensures.1 ∙ c.move_on.ensures.1 ∙ h.5) ∙ rw (f, l))
