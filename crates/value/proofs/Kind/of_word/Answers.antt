use Rattle.std.proofs.Common.{sym, arith}
use Rattle.value.specs.Kinds.{kinds}
use Rattle.value.proofs.KindLaws.{kind-other}
use Rattle.value.proofs.Kind.of_word.Goals as goal

pub returns-in-11-to-18446744073709551615 : goal.returns-in-11-to-18446744073709551615
unfolding kinds
returns-in-11-to-18446744073709551615 c = sym (kind-other c.args.word (omega arith))
