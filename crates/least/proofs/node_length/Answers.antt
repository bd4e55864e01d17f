use Rattle.std.proofs.Common.{ap, ◌∙◌, Some, arith}
use Rattle.value.specs.Kinds.{constant, number, array, tuple, elements, union}
use Rattle.value.specs.Meaning.{number_named, elements_named}
use Rattle.value.specs.Least.{add_least, least}
use Rattle.value.proofs.KindLaws.{width-most}
use Rattle.grammar.specs.Tree.{node_tree}
use Rattle.least.specs.Least.{length_of}
use Rattle.least.proofs.Laws.{plain, node_entry}
use Rattle.least.proofs.node_length.Goals as goal

pub returns-in-Some-Constant : goal.returns-in-Some-Constant
unfolding length_of node_tree least
returns-in-Some-Constant c = node_entry c.requires constant (rw (c.in-Some-Constant.field-0-is, c.word.ensures.0) at c.in-Some-Constant.ensures)

pub returns-in-Some-Number : goal.returns-in-Some-Number
unfolding node_tree least
returns-in-Some-Number c =
    let k = number_named c.in-Some-Number.n in
    plain c.width.result (λ h. omega (arith, c.width.ensures, width-most k))
    ∙ ap Some c.width.ensures
    ∙ node_entry c.requires (number k) (rw (c.in-Some-Number.field-0-is, c.word.ensures.0) at c.in-Some-Number.ensures)

pub returns-in-Some-Array : goal.returns-in-Some-Array
unfolding length_of node_tree least
returns-in-Some-Array c = node_entry c.requires array (rw (c.in-Some-Array.field-0-is, c.word.ensures.0) at c.in-Some-Array.ensures)

pub returns-in-Some-Tuple : goal.returns-in-Some-Tuple
unfolding length_of node_tree least
returns-in-Some-Tuple c = c.join_children.ensures ∙ node_entry c.requires tuple (rw (c.in-Some-Tuple.field-0-is, c.word.ensures.0) at c.in-Some-Tuple.ensures)

pub returns-in-Some-Elements : goal.returns-in-Some-Elements
unfolding length_of node_tree least
returns-in-Some-Elements c = node_entry c.requires (elements (elements_named c.in-Some-Elements.field-0-0)) (rw (c.in-Some-Elements.field-0-is, c.word.ensures.0) at c.in-Some-Elements.ensures)

pub returns-in-Some-Union : goal.returns-in-Some-Union
unfolding length_of node_tree least
returns-in-Some-Union c =
    c.add_least.ensures
    ∙ ap (add_least (Some 8)) c.join_children-in-Some-Union.ensures
    ∙ node_entry c.requires union (rw (c.in-Some-Union.field-0-is, c.word.ensures.0) at c.in-Some-Union.ensures)
