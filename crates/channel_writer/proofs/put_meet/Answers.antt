-- `put_meet` meets its contract. The invariant: the entries from here on give what all entries give.
use Prim.Native.Nat.{◌+◌}
use mathlib.Core.Path.{ap}
use native.Mathlib.Omega.{arith}
use lib.{ListN.{drop, get_or}}
use Rattle.text_output.proofs.Outputs.{puts_length, puts_then, puts_as, puts_done, puts_open, puts_within}
use Rattle.channel_file.proofs.Offsets.{over}
use Rattle.channel_file.specs.{ChannelFile.{number}, FileFormat.{entries}}
use Rattle.channel_writer.proofs.Texts.{entries_at, item_put}
use Rattle.channel_writer.proofs.put_meet.Goals as goal

pub loop-i-init : goal.loop-i-init
loop-i-init c = (omega arith, puts_within c.put_word-n.ensures, puts_open c.put_word-n.ensures _)

pub loop-i-preserved : goal.loop-i-preserved
loop-i-preserved c = (
  omega arith,
  puts_within c.put-n.ensures,
  item_put (number (get_or c.args.meet.now c.loop-i.i 0)) _ (entries.print (drop (c.loop-i.i + 1) c.args.meet.now))
      (entries_at c.args.meet.now c.loop-i.i _ c.loop-i-test.true
      c.behind.ensures)
      c.loop-i.invariant.2
      c.put_keyed-m.ensures c.put-n.ensures,
)

pub shape_of-out : goal.shape_of-out
shape_of-out c = puts_length (puts_then {u = entries.print c.args.meet.now}
    c.put_word-n.ensures
    (puts_done (puts_as (ap entries.print (over c.args.meet.now
    c.loop-i.i c.loop-i-test.false)) c.loop-i.invariant.2) c.loop-i.invariant.1))

pub returns : goal.returns
returns c = puts_then c.put_word-n.ensures
    (puts_done (puts_as (ap entries.print (over c.args.meet.now
    c.loop-i.i c.loop-i-test.false)) c.loop-i.invariant.2) c.loop-i.invariant.1)
