-- `has_tokens` meets its contract. The invariant: all nodes have tokens exactly if those from here on have.
use Prim.Native.Nat.{◌-◌, ◌≤◌}
use mathlib.Core.{Path.{◌≡◌}}
use lib.ListN.{length, drop}
use Rattle.channel_writer.specs.Steps.{is_some, tokens_of}
use Rattle.channel_writer.proofs.has_tokens.Given as goal

abbrev pub invariant-loop-at : goal.invariant-loop-at
invariant-loop-at l = (l.at ≤ length l.nodes) × (is_some (tokens_of l.values l.nodes) ≡ is_some (tokens_of l.values (drop l.at l.nodes)))

abbrev pub decreases-loop-at : goal.decreases-loop-at
decreases-loop-at l = length l.nodes - l.at
