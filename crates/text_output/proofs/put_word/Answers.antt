use Rattle.std.proofs.Common.{arith}
use lib.{Seq.{take_all}}
use Rattle.text_output.proofs.Outputs.{puts_none, puts_on, puts_as}
use Rattle.text_output.proofs.put_word.Goals as goal

pub loop-b-init : goal.loop-b-init
loop-b-init c = puts_none _ _ (omega arith) (omega arith)

pub loop-b-preserved : goal.loop-b-preserved
loop-b-preserved c = puts_on _ _ c.loop-b-test.true c.loop-b.invariant c.put-n.ensures

pub returns : goal.returns
returns c = puts_as (take_all _ _ c.loop-b-test.false) c.loop-b.invariant
