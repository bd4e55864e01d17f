use Rattle.std.proofs.Common.{◌≡◌, ℕ, ap, sym, arith, ◌∙◌}
use Rattle.packed.specs.Packed.{put}
use Rattle.packed.proofs.Put.{put-nothing}
use Rattle.rows.specs.Size.{own_from}
use Rattle.rows.proofs.Loop.{size_none, size-next, size-within, bytes-none, rows_next}
use Rattle.exporting.specs.Own.{own_xdr, own_xdr_size}
use Rattle.exporting.proofs.Own.{length-own_xdr}
use Rattle.exporting.proofs.export_rows.Goals as goal

pub loop-i-init : goal.loop-i-init
loop-i-init c =
    let a = c.args in
    (omega (arith, size_none own_xdr_size a.rows.now 0), sym (ap (put a.out.now a.index) (bytes-none own_xdr a.rows.now a.store.now 0) ∙ put-nothing a.out.now a.index))

pub export_row-at-requires : goal.export_row-at-requires
export_row-at-requires c =
    let l = c.loop-i in
    (c.requires.0 l.i c.loop-i-test.true, omega (arith, c.requires.1, size-within own_xdr_size c.args.rows.now l.i c.args.n c.loop-i-test.true))

pub loop-i-preserved : goal.loop-i-preserved
loop-i-preserved c =
    let a = c.args in
    let l = c.loop-i in
    let q = c.export_row-at in
    let r = rows_next own_xdr a.rows.now a.store.now own_xdr_size length-own_xdr a.n (λ j l. (c.requires.0 j l).holds) a.out.now a.index c.requires.1 l.out _ l.at l.i c.loop-i-test.true l.invariant.0 l.invariant.1 q.ensures.1 in
    (omega (arith, q.ensures.0, size-next own_xdr_size a.rows.now l.i), r.0)

pub returns : goal.returns
returns c =
    let a = c.args in
    let e : c.loop-i.i ≡ a.n = omega arith in
    c.loop-i.invariant.1 ∙ ap (λ (i : ℕ). put a.out.now a.index (own_from own_xdr a.rows.now a.store.now 0 i)) e
