use Rattle.std.proofs.Common.{ap, sym, ◌∙◌}
use Rattle.packed.proofs.Fitting.{put_within-nothing}
use Rattle.value.specs.Meaning.{number_named}
use Rattle.value.specs.Tree.{VNumber, SizeOfV, row_count}
use Rattle.value.specs.Step.{yield, give}
use Rattle.rows.specs.Layout.{own_row}
use Rattle.xdr.specs.Xdr.{store_of, rows_in}
use Rattle.xdr.specs.Import.{Filling}
use Rattle.importing.proofs.Laws.{brings_next}
use Rattle.importing.proofs.import_number.Goals as goal

pub returns : goal.returns
unfolding rows_in store_of own_row row_count SizeOfV
returns c =
    λ store.
    let k = number_named c.args.number in
    let n = c.in_ok-n in
    brings_next c.grow-grown.result (VNumber k n.n)
    (ap (give (VNumber k)) (ap (λ (s : Filling). yield n.n s) c.grow-grown.ensures.0 ∙ n.ensures.0))
    (c.put_row.ensures ∙ rw (c.word.ensures, c.width-size.ensures))
    (sym (put_within-nothing store c.args.s.used))
    (rw (c.width-size.ensures, n.ensures.1) at c.grow-grown.ensures.1)
