-- `judge_pair` meets its contract. The loop's invariant: what the events before e show.
use native.Mathlib.Omega.{arith}
use Rattle.conformance.specs.PairQueue.{JudgedPair}
use Rattle.conformance.proofs.Pairs.{tests_on, bad_here, equal_here, below_here, all_judged}
use Rattle.conformance.proofs.Pairing.judge_pair.Goals as goal
use Rattle.conformance.proofs.Pairing.judge_pair.Goals.{in-NotBelow, in_default, in-Equal, in_default-matches}

pub returns-then-matches : goal.returns-then-matches
unfolding JudgedPair
returns-then-matches c =
    let t = tests_on _ _ _ _ _ c.compare_on-compared.ensures in
    elim c.match-matches.branch [
      | in-NotBelow w ↦ bad_here _ _ _ _ c.loop-e.invariant t _ c.loop-e-test.true w.in-NotBelow.is
      | in_default w ↦ absurd cc
    ]

pub loop-e-preserved : goal.loop-e-preserved
loop-e-preserved c =
    let t = tests_on _ _ _ _ _ c.compare_on-compared.ensures in
    elim c.match-matches.branch [
      | in-NotBelow w ↦ absurd cc
      | in_default w ↦ elim c.match-matches-2.branch [
        | in-Equal v ↦ equal_here _ _ _ _ c.loop-e.invariant t _ v.in-Equal.is v.matches-is
        | in_default-matches v ↦ below_here _ _ _ _ c.loop-e.invariant t _ w.in_default.not-NotBelow v.in_default-matches.not-Equal v.matches-is
      ]
    ]

pub returns : goal.returns
unfolding JudgedPair
returns c = all_judged _ _ _ _ _ (omega arith) c.loop-e.invariant
