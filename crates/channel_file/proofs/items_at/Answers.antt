-- `channel_file::items_at` meets its contract: the node of each item is stored as far as there is room, and counted.
use mathlib.Core.Path.{ap, ◌∙◌}
use native.Mathlib.Omega.{arith}
use lib.ListN.{drop}
use Rattle.text_format.specs.Format.{ok}
use Rattle.text_output.proofs.Outputs.{puts_none}
use Rattle.channel_file.specs.Steps.{token_of, separator_of}
use Rattle.channel_file.specs.declared.Behind.{Behind}
use Rattle.channel_file.proofs.Storing.{rule_items, token_forward, items_none, items_next, items_end}
use Rattle.channel_file.proofs.items_at.Goals as goal

pub loop-x-init : goal.loop-x-init
loop-x-init c =
    (c.requires, omega arith, items_none (rule_items c.args.values) c.args.text.now c.args.at c.args.out.now (puts_none _ 0 (omega arith) (omega arith)))

pub returns-in-Newline : goal.returns-in-Newline
returns-in-Newline c =
    let q = c.in_ok-x.ensures in
    items_end (rule_items c.args.values) c.args.text.now c.args.at c.loop-x.i c.loop-x.invariant.2 (token_of c.args.values c.in_ok-x.x) c.in_ok-x.next
    c.put_node-k.ensures
    (record {
      same = q.same ∙ ap (λ (z : Behind). ok (token_of c.args.values c.in_ok-x.x, separator_of z) (drop c.in_ok-x.next c.args.text.now)) c.in-Newline.is;
      within = q.within;
    })

pub loop-x-smaller : goal.loop-x-smaller
loop-x-smaller c =
    let q = c.in_ok-x.ensures in
    let w = q.within in
    let f = token_forward c.args.values c.args.text.now c.loop-x.i c.in_ok-x.next (token_of c.args.values c.in_ok-x.x, separator_of c.in_ok-x.end) w q.same in
    omega arith

pub loop-x-preserved : goal.loop-x-preserved
loop-x-preserved c =
    let q = c.in_ok-x.ensures in
    let w = q.within in
    let f = token_forward c.args.values c.args.text.now c.loop-x.i c.in_ok-x.next (token_of c.args.values c.in_ok-x.x, separator_of c.in_ok-x.end) w q.same in (
      w,
      omega arith,
      items_next (rule_items c.args.values) c.args.text.now c.args.at c.loop-x.i c.loop-x.invariant.2 (token_of c.args.values c.in_ok-x.x) c.in_ok-x.next
          c.put_node-k.ensures
          (record {
            same = q.same ∙ ap (λ (z : Behind). ok (token_of c.args.values c.in_ok-x.x, separator_of z) (drop c.in_ok-x.next c.args.text.now)) c.in-Space.is;
            within = w;
          }),
    )
