-- `NodeList::put` meets its contract: one node is stored behind those before.
use mathlib.Core.Path.{sym}
use native.Mathlib.Omega.{arith}
use Rattle.std.proofs.Common.{rules}
use Rattle.characteristic.specs.NodeOutput.{node_of}
use Rattle.characteristic.proofs.{Appended.{one_node}, OpenPath.{same_some}}
use Rattle.characteristic.proofs.nodes.NodeList.put.Goals as goal

pub returns : goal.returns
returns c =
    record {
      appended = λ n e. one_node (node_of c.args.node) c.store.ensures.kind (sym (same_some e)) (cc (c.store.ensures.bytes, same_some e));
      few = λ n e. omega (arith, same_some e);
      too_many = λ e. search rules;
    }
