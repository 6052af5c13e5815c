-- `advance` meets its contract. The loop's invariant: the marked nodes of the words from w on came.
use borrow.Author.Rules.{rules}
use mathlib.Core.Path.{◌≡◌}
use native.Mathlib.Omega.{arith}
use Rattle.synthesis.specs.{NodeWords.{set_of}, MarkedNodes.{none_yet}}
use Rattle.synthesis.proofs.{MarkedNodes.{words_next, words_done}, NextSets.{next_sets}}
use Rattle.synthesis.proofs.exploration.advance.Goals as goal

pub loop-w-init : goal.loop-w-init
loop-w-init c = (search rules, none_yet)

pub advance_word-requires : goal.advance_word-requires
advance_word-requires c =
    (omega arith, search rules)

pub loop-w-preserved : goal.loop-w-preserved
loop-w-preserved c = (
  omega (arith, c.loop-w.invariant.0),
  words_next _ c.args.set.now c.args.marks.now _ c.loop-w.w c.loop-w.sets _
      c.loop-w-test.true c.loop-w.invariant.0 c.loop-w.invariant.1 c.advance_word.ensures,
)

pub returns : goal.returns
returns c =
    let none : c.loop-w.w ≡ 0 = omega arith in
    next_sets c.args.marks.now c.args.nodes.now.firsts c.args.rows.now (set_of c.args.set.now) c.args.events _ c.loop-w.sets
    c.clear.ensures (words_done _ c.args.set.now c.args.marks.now _ c.loop-w.w c.loop-w.sets none c.loop-w.invariant.1)
