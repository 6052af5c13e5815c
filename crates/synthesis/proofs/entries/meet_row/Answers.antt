-- `meet_row` meets its contract. The loop's invariant: the marked nodes of the words from w on came.
use mathlib.Core.Path.{◌∙◌}
use native.Mathlib.Omega.{arith}
use borrow.Author.Rules.{rules}
use Rattle.synthesis.specs.{MarkedNodes.{none_yet}}
use Rattle.synthesis.proofs.MarkedNodes.{words_next, words_done}
use Rattle.synthesis.proofs.entries.meet_row.Goals as goal

pub loop-w-init : goal.loop-w-init
loop-w-init c = (search rules, search rules, none_yet)

pub meet_word-requires : goal.meet_word-requires
meet_word-requires c = (
  omega arith,
  search rules,
  search rules,
  omega (arith, c.loop-w.invariant.1, c.requires.2),
)

pub loop-w-preserved : goal.loop-w-preserved
loop-w-preserved c = (
  omega (arith, c.loop-w.invariant.0),
  c.meet_word.ensures.0 ∙ c.loop-w.invariant.1,
  words_next _ c.args.set.now c.args.marks.now _ c.loop-w.w c.loop-w.to _
      c.loop-w-test.true c.loop-w.invariant.0 c.loop-w.invariant.2 c.meet_word.ensures.1,
)

pub returns : goal.returns
returns c =
    words_done _ c.args.set.now c.args.marks.now _ c.loop-w.w c.loop-w.to (omega arith) c.loop-w.invariant.2
