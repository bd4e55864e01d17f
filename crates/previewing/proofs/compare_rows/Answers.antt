use Rattle.std.proofs.Common.{refl, length-drop, sym, ◌+◌, drop, add-zero, arith}
use Rattle.rows.specs.Size.{own_bytes, own_size, bytes_from}
use Rattle.rows.proofs.Loop.{bytes-none, size-within, put-length}
use Rattle.rows.proofs.Size.{length-own_bytes}
use Rattle.previewing.proofs.Differing.{differing-none, differing-most}
use Rattle.previewing.proofs.ComparedLaws.{rows_next}
use Rattle.previewing.proofs.compare_rows.Goals as goal

pub loop-i-init : goal.loop-i-init
loop-i-init c =
    let a = c.args in
    rw (bytes-none own_bytes a.rows.now a.store.now 0, differing-none) (sym (add-zero a.index), refl)

pub compare_row-row-requires : goal.compare_row-row-requires
compare_row-row-requires c =
    let a = c.args in
    let l = c.loop-i in
    (c.requires.0 l.i c.loop-i-test.true, omega (arith, l.invariant.0, c.requires.1, put-length own_bytes a.rows.now a.store.now own_size length-own_bytes a.n c.requires.0 l.i (omega arith), size-within own_size a.rows.now l.i a.n c.loop-i-test.true))

pub overflow_add-changed : goal.overflow_add-changed
overflow_add-changed c =
    let a = c.args in
    let l = c.loop-i in
    let behind = drop a.index a.out.now in
    let e = rows_next a.rows.now a.store.now a.out.now a.index l.i l.invariant.0 l.invariant.1 c.compare_row-row.ensures in
    omega (arith, e.1, (differing-most behind (bytes_from a.rows.now a.store.now 0 (l.i + 1))).0, length-drop a.index a.out.now)

pub loop-i-preserved : goal.loop-i-preserved
loop-i-preserved c =
    let a = c.args in
    let l = c.loop-i in
    rows_next a.rows.now a.store.now a.out.now a.index l.i l.invariant.0 l.invariant.1 c.compare_row-row.ensures
