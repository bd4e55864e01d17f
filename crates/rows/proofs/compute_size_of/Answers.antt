-- Row 0 says the size of the value that the table stands for.
use Rattle.std.proofs.Common.{◌≡◌, ap, sym, ◌∙◌, arith}
use Rattle.refusal.specs.Outcome.{accepted, map}
use Rattle.value.specs.Tree.{SizeOfV}
use Rattle.rows.proofs.Size.{table_says, table_bound}
use Rattle.rows.proofs.Calls.{passed}
use Rattle.rows.proofs.compute_size_of.Goals as goal

pub returns : goal.returns
returns c =
    let a = c.args in
    let h = passed a.rows.now a.n a.store.now (λ j _. (c.type_inv.rows j).fits) (λ j. (c.type_inv.store j).fits) c.in_ok-check_rows.ensures in
    let e : c.size_at.result ≡ SizeOfV h.value = c.size_at.ensures ∙ table_says a.rows.now a.n a.store.now h.value h.table in
    (ap accepted e ∙ sym (ap (map SizeOfV) h.walked), omega (arith, table_bound a.rows.now a.n a.store.now h.value h.table))
