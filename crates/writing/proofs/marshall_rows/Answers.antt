use Rattle.std.proofs.Common.{sym, ap, ◌∙◌, arith}
use Rattle.packed.specs.Packed.{put}
use Rattle.packed.proofs.Put.{put-nothing}
use Rattle.rows.specs.Size.{own_bytes, own_size}
use Rattle.rows.proofs.Loop.{size_none, size-next, size-within, bytes-none, rows_next}
use Rattle.rows.proofs.Size.{length-own_bytes}
use Rattle.writing.proofs.marshall_rows.Goals as goal

pub loop-i-init : goal.loop-i-init
loop-i-init c =
    let a = c.args in
    (omega (arith, size_none own_size a.rows.now 0), sym (ap (put a.out.now a.index) (bytes-none own_bytes a.rows.now a.store.now 0) ∙ put-nothing a.out.now a.index))

pub marshall_row-at-requires : goal.marshall_row-at-requires
marshall_row-at-requires c =
    let l = c.loop-i in
    (c.requires.0 l.i c.loop-i-test.true, omega (arith, c.requires.1, size-within own_size c.args.rows.now l.i c.args.n c.loop-i-test.true))

pub loop-i-preserved : goal.loop-i-preserved
loop-i-preserved c =
    let a = c.args in
    let l = c.loop-i in
    let q = c.marshall_row-at in
    let r = rows_next own_bytes a.rows.now a.store.now own_size length-own_bytes a.n c.requires.0 a.out.now a.index c.requires.1 l.out _ l.at l.i c.loop-i-test.true l.invariant.0 l.invariant.1 q.ensures.1 in
    (omega (arith, q.ensures.0, size-next own_size a.rows.now l.i), r.0)
