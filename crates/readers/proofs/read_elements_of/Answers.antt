use Rattle.std.proofs.Common.{◌≡◌, ℕ, ◌+◌, ◌-◌, ◌*◌, ◌/◌, ◌≤◌, length, take, drop, arith, refl, ap, sym, ◌∙◌}
use Rattle.std.proofs.lemmas.Result.{err_from_is_err_and}
use Rattle.packed.specs.Packed.{unpack_little_endian_seq}
use Rattle.packed.proofs.Laws.{length_unpack_seq}
use Rattle.value.specs.Kinds.{element_width}
use Rattle.value.specs.Meaning.{elements_named}
use Rattle.value.specs.Tree.{VNumberArray}
use Rattle.value.specs.Step.{yield, give}
use Rattle.value.specs.Reading.{move, take_numbers}
use Rattle.value.proofs.KindLaws.{element_width_positive}
use Rattle.value.proofs.Laws.{count_fits}
use Rattle.tables.specs.Row.{laid}
use Rattle.readers.specs.Meaning.{state_of}
use Rattle.readers.proofs.Laws.{numbers_stopped, body_missing, body_bytes, elements-row, reads_stopped, reads_next, taken_at}
use Rattle.readers.proofs.read_elements_of.Goals as goal
use Rattle.readers.proofs.read_elements_of.Goals.{In_ok-count, In-Ok}

-- the count was there
there : (c : In_ok-count) → (c.in_ok-count.next.at ≡ c.args.s.at + 8) × (c.args.s.at + 8 ≤ length c.args.bytes.now)
there c = taken_at c.args.bytes.now 8 (state_of c.args.s) c.in_ok-count.count c.in_ok-count.next c.in_ok-count.ensures.0

pub returns-in_err-count : goal.returns-in_err-count
returns-in_err-count c =
    let a = c.args in
    let k = elements_named a.elements in
    let p = err_from_is_err_and c.from_residual.result c.from_residual.ensures.1 in
    rw (p.1, p.2)
    (reads_stopped c.in_err-count.field-0.0 (ap (give (VNumberArray k)) (numbers_stopped a.bytes.now (element_width k) (state_of a.s) c.in_err-count.ensures.0)) c.in_err-count.ensures.1)

pub slice_bounds-read_array_body-count : goal.slice_bounds-read_array_body-count
slice_bounds-read_array_body-count c = omega (arith, there (goal.at.slice_bounds-read_array_body-count c).In_ok-count)

pub slice_bounds-read_array_body-start : goal.slice_bounds-read_array_body-start
slice_bounds-read_array_body-start c = omega (arith, there (goal.at.slice_bounds-read_array_body-start c).In_ok-count)

-- the elements were there
all_there : (c : In-Ok) →
    let w = element_width (elements_named c.args.elements) in
    let n = c.in_ok-count in
    (c.in-Ok.n ≡ w * n.count)
    × (yield (unpack_little_endian_seq w (take (w * n.count) (drop n.next.at c.args.bytes.now)) n.count) (move (w * n.count) (state_of n.next)) ≡ take_numbers c.args.bytes.now w (state_of c.args.s))
    × (n.count ≤ (length c.args.bytes.now - c.args.s.at - 8) / w)
all_there c =
    let n = c.in_ok-count in
    body_bytes c.args.bytes.now (element_width (elements_named c.args.elements)) (state_of c.args.s) n.count n.next n.ensures.0 (rw c.width.ensures at c.in-Ok.ensures)

-- and fit
fits : (c : In-Ok) → c.in-Ok.n + (c.args.s.at + 8) ≤ length c.args.bytes.now
fits c =
    let y = all_there c in
    let l = (count_fits (element_width_positive (elements_named c.args.elements))).0 y.2 in
    let t = there (goal.at.In-Ok c).In_ok-count in
    omega (arith, y.0, l, t)

pub move_on-requires : goal.move_on-requires
move_on-requires c =
    let p = (goal.at.move_on-requires c).In-Ok in
    omega (arith, there (goal.at.move_on-requires c).In_ok-count, fits p, c.requires)

pub returns-in-Err : goal.returns-in-Err
returns-in-Err c =
    let a = c.args in
    let n = c.in_ok-count in
    let k = elements_named a.elements in
    rw c.stop.ensures
    (reads_stopped (record { state = a.s; refusal = c.in-Err.r }) (ap (give (VNumberArray k)) (body_missing a.bytes.now (element_width k) (state_of a.s) n.count n.next n.ensures.0 (rw c.width.ensures at c.in-Err.ensures))) refl)

pub returns-in-Ok : goal.returns-in-Ok
returns-in-Ok c =
    let a = c.args in
    let n = c.in_ok-count in
    let k = elements_named a.elements in
    let w = element_width k in
    let y = all_there (goal.at.returns-in-Ok c).In-Ok in
    let ns = unpack_little_endian_seq w (take (w * n.count) (drop n.next.at a.bytes.now)) n.count in
    let l : length ns ≡ n.count = length_unpack_seq w (take (w * n.count) (drop n.next.at a.bytes.now)) n.count in
    let z : 8 + c.in-Ok.n ≡ 8 + w * length ns = rw (l, y.0) in
    reads_next c.move_on.result (VNumberArray k ns)
    (ap (give (VNumberArray k)) (ap (yield ns) (c.move_on.ensures.0 ∙ ap (λ (i : ℕ). move i (state_of n.next)) y.0) ∙ y.1))
    (c.move_on.ensures.1 ∙ n.ensures.1)
    (c.put_row.ensures ∙ ap (laid a.rows.now a.row) (elements-row k ns a.s.at c.word.ensures (sym l) (there (goal.at.returns-in-Ok c).In_ok-count).0 z))
