use mathlib.Core.Path.{◌≡◌, ◌∙◌}
use Prim.Native.Nat.{◌+◌, ◌*◌}
use native.Mathlib.Omega.{arith}
use lib.ListN.{get_or}
use Rattle.tables.specs.Grammar.{node_count, first_word}
use Rattle.readers.proofs.Laws.{child_inside}
use Rattle.readers.proofs.child_at.Goals as goal

pub word-nodes-requires : goal.word-nodes-requires
word-nodes-requires c =
    let h = child_inside c.args.grammar.now c.args.node c.args.i c.requires.0 c.requires.1 in
    omega (arith, h.0)

pub overflow_mul-node : goal.overflow_mul-node
overflow_mul-node c =
    let h = child_inside c.args.grammar.now c.args.node c.args.i c.requires.0 c.requires.1 in
    omega (arith, h.0)

pub overflow_add-node : goal.overflow_add-node
overflow_add-node c =
    let h = child_inside c.args.grammar.now c.args.node c.args.i c.requires.0 c.requires.1 in
    omega (arith, h.0)

pub word-first-requires : goal.word-first-requires
word-first-requires c =
    let h = child_inside c.args.grammar.now c.args.node c.args.i c.requires.0 c.requires.1 in
    omega (arith, h.0)

pub overflow_mul-nodes : goal.overflow_mul-nodes
overflow_mul-nodes c =
    let h = child_inside c.args.grammar.now c.args.node c.args.i c.requires.0 c.requires.1 in
    omega (arith, h.2, c.word-nodes.ensures.0)

pub overflow_add-nodes : goal.overflow_add-nodes
overflow_add-nodes c =
    let h = child_inside c.args.grammar.now c.args.node c.args.i c.requires.0 c.requires.1 in
    omega (arith, h.2, c.word-nodes.ensures.0)

pub overflow_add-first : goal.overflow_add-first
overflow_add-first c =
    let h = child_inside c.args.grammar.now c.args.node c.args.i c.requires.0 c.requires.1 in
    omega (arith, h.3, c.ranges.i)

pub overflow_add-nodes-2 : goal.overflow_add-nodes-2
overflow_add-nodes-2 c =
    let h = child_inside c.args.grammar.now c.args.node c.args.i c.requires.0 c.requires.1 in
    omega (arith, h.1, h.2, c.word-nodes.ensures.0, c.word-first.ensures.0, c.well_formed.0)

pub word-requires : goal.word-requires
word-requires c =
    let h = child_inside c.args.grammar.now c.args.node c.args.i c.requires.0 c.requires.1 in
    omega (arith, h.1, c.word-nodes.ensures.0, c.word-first.ensures.0)

pub returns : goal.returns
returns c =
    let t = c.args.grammar.now in
    let k = c.args.node in
    let i = c.args.i in
    let h = child_inside t k i c.requires.0 c.requires.1 in
    let e : c.word.result ≡ get_or t (2 + 3 * node_count t + (first_word t k + i)) 0 = c.word.ensures.0 ∙ rw (c.word-nodes.ensures.0, c.word-first.ensures.0) in
    (e, rw e h.4.1)
