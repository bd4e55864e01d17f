use Rattle.std.proofs.Common.{arith, append-nil, length-append, sym}
use Rattle.std.proofs.lemmas.Grind.{common_steps}
use Rattle.text.proofs.Lines.{lines_none, lines_more}
use Rattle.text.proofs.Text.push_lines.Goals as goal

pub loop-row-init : goal.loop-row-init
loop-row-init c = rw lines_none (sym (append-nil c.args.self.now), omega arith)

pub loop-row-preserved : goal.loop-row-preserved
loop-row-preserved c = rw lines_more (grind (arith, common_steps), rw length-append (omega arith))
