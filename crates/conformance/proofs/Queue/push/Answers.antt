-- `push` meets its contract: a pair whose flag is set is in the queue already.
use Rattle.conformance.specs.PairQueue.{pushed}
use Rattle.conformance.proofs.Queue.push.Goals as goal

pub returns-then-not-self-flag : goal.returns-then-not-self-flag
unfolding pushed
returns-then-not-self-flag g c = rw c.if-not-self-flag.true

pub returns-else-not-self-flag : goal.returns-else-not-self-flag
unfolding pushed
returns-else-not-self-flag g c = rw c.if-not-self-flag.false
