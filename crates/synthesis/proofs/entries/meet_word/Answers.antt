-- `meet_word` meets its contract. The loop's invariant: the nodes from bit `end` on came, and the bits below it are left.
use mathlib.Core.Path.{◌∙◌}
use native.Mathlib.Omega.{arith}
use borrow.Author.Rules.{rules}
use lib.{Pow.{pow_pos}}
use Rattle.values.specs.Setup.{meet_of}
use Rattle.synthesis.specs.TableEntries.{Met}
use Rattle.synthesis.proofs.MarkedNodes.{walk_start, walk_less, walk_next, walk_done}
use Rattle.synthesis.proofs.entries.meet_word.Goals as goal

pub loop-rest-init : goal.loop-rest-init
loop-rest-init c =
    let step = Met (meet_of c.args.value_set.kind c.args.value_set.meet.now) c.args.nodes.now.firsts c.args.nodes.now.values c.args.events c.args.state in
    (search rules, walk_start step c.args.word c.args.base c.args.to.now c.ranges.word.fits)

pub power-rest-requires : goal.power-rest-requires
power-rest-requires c = c.last_set-end.ensures.low

pub nonzero_rem-rest : goal.nonzero_rem-rest
nonzero_rem-rest c = omega (arith, pow_pos c.last_set-end.result, c.power-rest.ensures)

pub overflow_add-base : goal.overflow_add-base
overflow_add-base c = omega (arith, c.last_set-end.ensures.low)

pub meet_node-requires : goal.meet_node-requires
meet_node-requires c = (
  omega (arith, c.last_set-end.ensures.low),
  search rules,
  search rules,
  omega (arith, c.loop-rest.invariant.0, c.requires.3),
)

pub loop-rest-smaller : goal.loop-rest-smaller
loop-rest-smaller c =
    walk_less _ _ _ _ _ _ _ c.loop-rest.invariant.1 c.last_set-end.result c.last_set-end.ensures

pub loop-rest-preserved : goal.loop-rest-preserved
loop-rest-preserved c = (
  c.meet_node.ensures.sized ∙ c.loop-rest.invariant.0,
  walk_next _ _ _ _ _ _ _ c.loop-rest.invariant.1 c.last_set-end.result c.last_set-end.ensures _ _ c.power-rest.ensures c.meet_node.ensures,
)

pub returns : goal.returns
returns c = (c.loop-rest.invariant.0, walk_done _ _ _ _ _ _ _ c.loop-rest.invariant.1 (omega arith))
