-- `put_token` meets its contract, kind by kind.
use Prim.Native.Nat.{◌+◌}
use mathlib.Core.Path.{sym}
use lib.ListN.{get_or}
use native.Mathlib.Omega.{arith}
use Rattle.text_output.proofs.Outputs.{puts_as, puts_then}
use Rattle.channel_writer.specs.Steps.{value_at, value_text}
use Rattle.channel_writer.proofs.Nodes.{width_least, text_0, text_1, text_2, text_3, text_4, text_5}
use Rattle.channel_writer.proofs.put_token.Goals as goal

pub bounds-nodes-i : goal.bounds-nodes-i
bounds-nodes-i c = omega (arith, c.requires, width_least c.args.values)

pub overflow_add-a : goal.overflow_add-a
overflow_add-a c = omega (arith, c.requires, width_least c.args.values)

pub bounds-nodes-i-2 : goal.bounds-nodes-i-2
bounds-nodes-i-2 c = omega (arith, c.requires, width_least c.args.values)

pub returns-in-0 : goal.returns-in-0
returns-in-0 c =
    puts_as (sym (text_0 (value_text c.args.values (value_at c.args.values c.args.nodes.now (c.args.i + 2))) _ (get_or c.args.nodes.now (c.args.i + 1) 0)
    c.in-0.is)) c.put_word.ensures

pub returns-in-1 : goal.returns-in-1
returns-in-1 c =
    puts_as (sym (text_1 (value_text c.args.values (value_at c.args.values c.args.nodes.now (c.args.i + 2))) _ (get_or c.args.nodes.now (c.args.i + 1) 0)
    c.in-1.is)) c.put_keyed.ensures

pub returns-in-2 : goal.returns-in-2
returns-in-2 c =
    puts_as (sym (text_2 (value_text c.args.values (value_at c.args.values c.args.nodes.now (c.args.i + 2))) _ (get_or c.args.nodes.now (c.args.i + 1) 0)
    c.in-2.is)) c.put_keyed-in-2.ensures

pub returns-in-3 : goal.returns-in-3
returns-in-3 c =
    puts_as (sym (text_3 (value_text c.args.values (value_at c.args.values c.args.nodes.now (c.args.i + 2))) _ (get_or c.args.nodes.now (c.args.i + 1) 0)
    c.in-3.is))
    (puts_then c.put_keyed-n.ensures c.put_value.ensures)

pub returns-in-4 : goal.returns-in-4
returns-in-4 c =
    puts_as (sym (text_4 (value_text c.args.values (value_at c.args.values c.args.nodes.now (c.args.i + 2))) _ (get_or c.args.nodes.now (c.args.i + 1) 0)
    c.in-4.is)) c.put_word-in-4.ensures

pub returns-in-5 : goal.returns-in-5
returns-in-5 c =
    puts_as (sym (text_5 (value_text c.args.values (value_at c.args.values c.args.nodes.now (c.args.i + 2))) _ (get_or c.args.nodes.now (c.args.i + 1) 0)
    c.in-5.is)) c.put_word-in-5.ensures
