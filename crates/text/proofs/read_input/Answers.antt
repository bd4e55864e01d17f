use Rattle.std.proofs.Common.{◌≡◌, ◌+◌, ◌-◌, arith, sym, length-take-le}
use Rattle.std.proofs.lemmas.Result.{err_from_is_err_and}
use Rattle.input.proofs.Input.{layout_exactly}
use Rattle.text.proofs.Read.{input_refused, input_read}
use Rattle.text.proofs.read_input.Goals as goal

pub overflow_add-end : goal.overflow_add-end
overflow_add-end c =
    let l = (layout_exactly c.args.input.now c.in_ok-layout.layout).0 (sym c.in_ok-layout.ensures) in
    record { fits = omega (arith, l.short, l.whole) }

pub slice_bounds-record-end : goal.slice_bounds-record-end
slice_bounds-record-end c =
    let l = (layout_exactly c.args.input.now c.in_ok-layout.layout).0 (sym c.in_ok-layout.ensures) in
    omega (arith, l.whole)

pub slice_bounds-read_record-end : goal.slice_bounds-read_record-end
slice_bounds-read_record-end c =
    let l = (layout_exactly c.args.input.now c.in_ok-layout.layout).0 (sym c.in_ok-layout.ensures) in
    omega (arith, l.few, c.requires.0)

pub slice_bounds-read_record-end-2 : goal.slice_bounds-read_record-end-2
slice_bounds-read_record-end-2 c =
    let l = (layout_exactly c.args.input.now c.in_ok-layout.layout).0 (sym c.in_ok-layout.ensures) in
    sym (length-take-le c.in_ok-layout.layout.words c.args.words.now (omega (arith, l.few, c.requires.0)))

pub read_record-requires : goal.read_record-requires
read_record-requires c =
    let l = (layout_exactly c.args.input.now c.in_ok-layout.layout).0 (sym c.in_ok-layout.ensures) in
    let n = length-take-le c.in_ok-layout.layout.words c.args.words.now (omega (arith, l.few, c.requires.0)) in
    (omega (arith, l.start, l.whole, n), c.requires.1)

pub returns-in_err-layout : goal.returns-in_err-layout
returns-in_err-layout c =
    let p = err_from_is_err_and c.from_residual.result c.from_residual.ensures.1 in
    rw (p.1, p.2) (input_refused c.args.input.now c.in_err-layout.ensures)

pub returns : goal.returns
returns c =
    let l = (layout_exactly c.args.input.now c.in_ok-layout.layout).0 (sym c.in_ok-layout.ensures) in
    let n = length-take-le c.in_ok-layout.layout.words c.args.words.now (omega (arith, l.few, c.requires.0)) in
    let e : c.in_ok-layout.layout.start + c.in_ok-layout.layout.size - c.in_ok-layout.layout.start ≡ c.in_ok-layout.layout.size = omega arith in
    input_read c.args.input.now c.in_ok-layout.layout c.in_ok-layout.ensures n e c.read_record.ensures
