-- `put_rule` meets its contract. The invariant: the nodes from here on have tokens, and give what all nodes give.
use Prim.Native.Nat.{◌+◌, ◌-◌, ◌≤◌, min}
use lib.{ListN.{length, drop}, Seq.{sets}}
use Rattle.text_output.specs.Output.{offset_limit, Puts}
use Rattle.channel_writer.specs.Steps.{IsSome, tokens_of, nodes_text}
use Rattle.channel_writer.proofs.put_rule.Given as goal

abbrev pub invariant-loop-i : goal.invariant-loop-i
invariant-loop-i l = (l.i ≤ length l.nodes) × IsSome (tokens_of l.values (drop l.i l.nodes)) × (l.n ≤ offset_limit)
    × Puts l.out (nodes_text l.values (drop l.i l.nodes)) (sets l.initial.out l.initial.n (nodes_text l.values l.nodes)) l.n
    (min (l.initial.n + length (nodes_text l.values l.nodes)) offset_limit)

abbrev pub decreases-loop-i : goal.decreases-loop-i
decreases-loop-i l = length l.nodes - l.i
