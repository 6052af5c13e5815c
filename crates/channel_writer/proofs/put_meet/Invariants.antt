-- `put_meet` meets its contract. The invariant: the entries from here on give what all entries give.
use Prim.Native.Nat.{◌+◌, ◌≤◌, min}
use lib.{ListN.{length, drop}, Seq.{sets}}
use Rattle.text_output.specs.Output.{offset_limit, Puts}
use Rattle.channel_file.specs.{FileFormat.{entries}}
use Rattle.channel_writer.proofs.put_meet.Given as goal

abbrev pub invariant-loop-i : goal.invariant-loop-i
invariant-loop-i l = (l.i ≤ length l.meet) × (l.n ≤ offset_limit)
    × Puts l.out (entries.print (drop l.i l.meet)) (sets l.initial.out l.initial.n (entries.print l.meet)) l.n
    (min (l.initial.n + length (entries.print l.meet)) offset_limit)
