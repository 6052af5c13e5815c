-- `put_rule` meets its contract. The invariant: the nodes from here on have tokens, and give what all nodes give.
use Prim.Native.Nat.{ℕ, ◌+◌}
use mathlib.Core.Path.{◌≡◌, sym, subst}
use native.Mathlib.Omega.{arith}
use lib.{ListN.{drop}}
use Rattle.text_output.proofs.Outputs.{puts_length, puts_then, puts_as, puts_done, puts_open, puts_within}
use Rattle.channel_writer.specs.Steps.{IsSome, width, tokens_of, node_at, nodes_text}
use Rattle.channel_writer.proofs.{Nodes.{width_least}, Texts.{whole_node, tokens_on, nodes_at, item_put, nothing_left}}
use Rattle.channel_writer.proofs.put_rule.Goals as goal

pub loop-i-init : goal.loop-i-init
loop-i-init c = (
  omega arith,
  c.requires,
  puts_within
      c.put_word-n.ensures,
  puts_open c.put_word-n.ensures _,
)

pub put_token-m-requires : goal.put_token-m-requires
put_token-m-requires c = whole_node c.args.values
    c.args.nodes.now c.loop-i.i
    c.loop-i.invariant.1 c.loop-i-test.true

pub overflow_add-i : goal.overflow_add-i
overflow_add-i c =
    let z : c.width_of-size.result ≡ width
    c.args.values = c.width_of-size.ensures in
    omega (
      arith,
      whole_node c.args.values c.args.nodes.now c.loop-i.i
          c.loop-i.invariant.1 c.loop-i-test.true,
    )

pub loop-i-smaller : goal.loop-i-smaller
loop-i-smaller c =
    let z : c.width_of-size.result ≡ width c.args.values = c.width_of-size.ensures in
    omega (
      arith,
      width_least c.args.values,
      whole_node c.args.values c.args.nodes.now c.loop-i.i c.loop-i.invariant.1
          c.loop-i-test.true,
    )

pub loop-i-preserved : goal.loop-i-preserved
loop-i-preserved c =
    let z : c.width_of-size.result ≡ width c.args.values = c.width_of-size.ensures in
    let h = whole_node c.args.values c.args.nodes.now c.loop-i.i c.loop-i.invariant.1 c.loop-i-test.true in (
      omega arith,
      subst (λ (n : ℕ). IsSome (tokens_of c.args.values (drop (c.loop-i.i + n) c.args.nodes.now))) (sym z)
          (tokens_on c.args.values c.args.nodes.now c.loop-i.i c.loop-i.invariant.1 c.loop-i-test.true),
      puts_within c.put-n.ensures,
      item_put (node_at c.args.values c.args.nodes.now c.loop-i.i) _ _
          (nodes_at c.args.values c.args.nodes.now c.loop-i.i c.loop-i.invariant.1 c.loop-i-test.true _ z c.behind.ensures) c.loop-i.invariant.3
          c.put_token-m.ensures c.put-n.ensures,
    )

pub shape_of-out : goal.shape_of-out
shape_of-out c =
    puts_length (puts_then {u = nodes_text c.args.values c.args.nodes.now} c.put_word-n.ensures
    (puts_done (puts_as (nothing_left c.args.values c.args.nodes.now c.loop-i.i c.loop-i-test.false) c.loop-i.invariant.3)
    c.loop-i.invariant.2))

pub returns : goal.returns
returns c =
    puts_then c.put_word-n.ensures
    (puts_done (puts_as (nothing_left c.args.values c.args.nodes.now c.loop-i.i c.loop-i-test.false) c.loop-i.invariant.3)
    c.loop-i.invariant.2)
