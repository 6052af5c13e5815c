-- `advance_word` meets its contract. The loop's invariant: the nodes from bit `end` on came, and the bits below it are left.
use native.Mathlib.Omega.{arith}
use borrow.Author.Rules.{rules}
use lib.{Pow.{pow_pos}}
use Rattle.synthesis.specs.{Exploring.{PassedStates}}
use Rattle.synthesis.proofs.MarkedNodes.{walk_start, walk_less, walk_next, walk_done}
use Rattle.synthesis.proofs.exploration.advance_word.Goals as goal

pub loop-rest-init : goal.loop-rest-init
loop-rest-init c =
    let step = PassedStates c.args.nodes.now.firsts c.args.rows.now c.args.events in
    walk_start step c.args.word c.args.base c.args.sets.now c.ranges.word.fits

pub power-rest-requires : goal.power-rest-requires
power-rest-requires c = c.last_set-end.ensures.low

pub nonzero_rem-rest : goal.nonzero_rem-rest
nonzero_rem-rest c = omega (arith, pow_pos c.last_set-end.result, c.power-rest.ensures)

pub overflow_add-base : goal.overflow_add-base
overflow_add-base c = omega (arith, c.last_set-end.ensures.low)

pub advance_node-requires : goal.advance_node-requires
advance_node-requires c =
    (omega (arith, c.last_set-end.ensures.low), search rules)

pub loop-rest-smaller : goal.loop-rest-smaller
loop-rest-smaller c =
    walk_less _ _ _ _ _ _ _ c.loop-rest.invariant c.last_set-end.result c.last_set-end.ensures

pub loop-rest-preserved : goal.loop-rest-preserved
loop-rest-preserved c =
    walk_next _ _ _ _ _ _ _ c.loop-rest.invariant c.last_set-end.result c.last_set-end.ensures _ _ c.power-rest.ensures
    c.advance_node.ensures

pub returns : goal.returns
returns c = walk_done _ _ _ _ _ _ _ c.loop-rest.invariant (omega arith)
