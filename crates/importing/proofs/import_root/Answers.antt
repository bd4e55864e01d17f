use mathlib.Core.Path.{refl}
use Rattle.importing.proofs.Cycle.{children-root}
use Rattle.importing.proofs.Root.{root-ready, root-one}
use Rattle.importing.proofs.import_root.Goals as goal

pub import_children-requires : goal.import_children-requires
import_children-requires c =
    let p = c.requires in
    (children-root c.args.grammar.now p.table, root-ready _ refl refl refl refl p)

pub returns : goal.returns
returns c =
    root-one c.args.grammar.now c.args.bytes.now c.args.lent c.import_children.ensures
