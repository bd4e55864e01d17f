-- How the least lengths of a node's children are joined: a tuple's are added, of a union's the least is taken.
use Rattle.value.specs.Least.{add_least, min_least}
use Rattle.least.proofs.node_length.Given as goal

abbrev pub ghost-join_children : goal.ghost-join_children
ghost-join_children a = add_least

abbrev pub ghost-join_children-2 : goal.ghost-join_children-2
ghost-join_children-2 a = min_least
