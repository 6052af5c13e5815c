-- `NodeList::store` meets its contract: number, first field and value are the bytes of the node.
use mathlib.Core.{Path.{◌≡◌, ◌∙◌, ap}, List.{◌∷◌, ◌++◌}}
use Prim.Native.Nat.{◌+◌, ◌*◌}
use native.Mathlib.Omega.{arith}
use lib.{ListN.{length, take}, Seq.{sets}}
use Rattle.std.proofs.Common.{rules}
use Rattle.limits.specs.Limits.{node_limit}
use Rattle.theory.specs.ValueSets.{unpack}
use Rattle.values.specs.Setup.{mask_bytes, value_bytes}
use Rattle.machines.specs.Claims.{OfBytes}
use Rattle.formulas.specs.RuleConditions.{node_width}
use Rattle.formulas.proofs.NodeCodes.{next_node}
use Rattle.characteristic.specs.NodeOutput.{node_of}
use Rattle.characteristic.proofs.Appended.{node_room, node_fields_are, behind, value_first, six_bytes, node_long, take_stored}
use Rattle.characteristic.proofs.nodes.NodeList.store.Goals as goal

pub put_fields-requires : goal.put_fields-requires
put_fields-requires c =
    let long : length c.args.self.now.bytes ≡ node_limit * 6 = search rules in
    omega (arith, node_room c.args.self.now.kind c.requires.0, long, ap (λ w. c.args.count * w) c.args.self.now.width_is)

pub returns-clause-bytes : goal.returns-clause-bytes
returns-clause-bytes c =
    let kind = c.args.self.now.kind in
    let bytes = c.args.self.now.bytes in
    let value = c.fields-node_kind.result.2 in
    let first = c.fields-node_kind.result.1 in
    let number = c.number.result in
    let at = c.args.count * node_width kind in
    let fits : OfBytes kind value = search rules in
    let long : length bytes ≡ node_limit * 6 = search rules in
    ap (take ((c.args.count + 1) * node_width kind))
    (c.put_fields.ensures
    ∙ ap (λ w. sets bytes (c.args.count * w) (number ∷ first ∷ mask_bytes (unpack value).low ++ mask_bytes (unpack value).high)) c.args.self.now.width_is
    ∙ ap (λ b. sets bytes at (number ∷ first ∷ b)) (value_first kind value fits))
    ∙ take_stored bytes (number ∷ first ∷ value_bytes kind value) (behind kind value) at ((c.args.count + 1) * node_width kind)
    (omega (arith, six_bytes kind value, node_room kind c.requires.0, long))
    (next_node kind c.args.count ∙ ap (λ k. at + k) (node_long kind number first value))
    ∙ ap (λ b. take at bytes ++ b)
    (node_fields_are kind (node_of c.args.node) (c.number.ensures ∙ c.fields-node_kind.ensures.kind) c.fields-node_kind.ensures.first
    c.fields-node_kind.ensures.value)
