-- `set_single` meets its contract: the node's bit is set where none was.
use mathlib.Core.Path.{◌∙◌, ap}
use Prim.Native.Nat.{◌/◌}
use native.Mathlib.Omega.{arith}
use lib.{Bits.{bit_or}, ListN.{get_or, set, replicate}}
use Rattle.theory.specs.DemandSets.{only, union}
use Rattle.theory.proofs.NodeSets.{empty_union}
use Rattle.synthesis.specs.NodeWords.{set_of}
use Rattle.synthesis.proofs.NodeWords.{set_insert, no_nodes}
use Rattle.synthesis.proofs.node_sets.set_single.Goals as goal

pub returns : goal.returns
returns c =
    let k = c.args.node in
    let zeros = replicate 4 0 in
    ap (λ y. set_of (set zeros (k / 64) (bit_or (get_or zeros (k / 64) 0) y))) c.power.ensures
    ∙ set_insert zeros k c.requires (omega arith)
    ∙ ap (λ C. union C (only k)) no_nodes
    ∙ empty_union (only k)
