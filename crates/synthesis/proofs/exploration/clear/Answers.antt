-- `clear` meets its contract. The loop's invariant: the sets passed are empty.
use mathlib.Core.{List.{[]}, Path.{◌∙◌, ap}}
use native.Mathlib.Omega.{arith}
use borrow.Author.{Count.{below_more}, Rules.{rules}}
use lib.{ListN.{replicate, length-set}, Seq.{get_or-set_same, get_or-set_other}}
use Rattle.synthesis.specs.NodeWords.{set_of}
use Rattle.synthesis.proofs.NodeWords.{no_nodes}
use Rattle.synthesis.proofs.exploration.clear.Goals as goal

pub loop-e-init : goal.loop-e-init
loop-e-init c = (search rules, λ i h. absurd (omega arith))

pub loop-e-preserved : goal.loop-e-preserved
loop-e-preserved c = (
  length-set c.loop-e.sets c.loop-e.e _ ∙ c.loop-e.invariant.0,
  below_more _ _
      (λ i h. ap set_of (get_or-set_other c.loop-e.sets c.loop-e.e i (replicate 4 0) [] (λ q. omega (arith, q))) ∙ c.loop-e.invariant.1 i h)
      (ap set_of (get_or-set_same c.loop-e.sets c.loop-e.e (replicate 4 0) [] (omega (arith, c.loop-e.invariant.0))) ∙ no_nodes),
)

pub returns : goal.returns
returns c = λ i h. c.loop-e.invariant.1 i (omega arith)
