-- `NodeList::put_both` meets its contract: two nodes are stored behind those before.
use mathlib.Core.Path.{◌≡◌, refl}
use Prim.Native.Nat.{◌+◌}
use native.Mathlib.Omega.{arith}
use Rattle.std.proofs.Common.{rules}
use Rattle.characteristic.specs.NodeOutput.{node_of, first_nodes}
use Rattle.characteristic.proofs.{Appended.{one_node, both}, OpenPath.{same_some}}
use Rattle.characteristic.proofs.nodes.NodeList.put_both.Goals as goal

pub returns : goal.returns
returns c =
    record {
      appended = λ n e.
          both {between = first_nodes c.store.new.self (c.args.count + 1)}
          (one_node (node_of c.args.one) c.store.ensures.kind refl c.store.ensures.bytes)
          (one_node (node_of c.args.other) c.store-2.ensures.kind (omega (arith, same_some e))
          (let two : c.args.count + 2 ≡ c.args.count + 1 + 1 = omega arith in cc (c.store-2.ensures.bytes, c.store.ensures.kind, same_some e, two)));
      few = λ n e. omega (arith, same_some e);
      too_many = λ e. search rules;
    }
