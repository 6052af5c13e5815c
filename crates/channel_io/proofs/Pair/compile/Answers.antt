-- `Pair::compile` meets its contract: the table goes into the front of its buffer, none of it where the entries have no room.
use mathlib.Core.Path.{sym}
use lib.Seq.{length-take-le}
use Rattle.refusal.specs.Refusal.{put}
use Rattle.refusal.proofs.Answers.{passed_on}
use Rattle.values.specs.HandedIn.{setup_of}
use Rattle.text_output.proofs.Outputs.{puts_front}
use Rattle.channel_io.proofs.TablePairs.{room_within, entries_in, makes_refused, makes_all}
use Rattle.channel_io.proofs.Pair.compile.Goals as goal

pub slice_bounds-compile-end : goal.slice_bounds-compile-end
slice_bounds-compile-end c =
    room_within (setup_of c.args.self.set_up) c.args.self.nodes.now c.args.meet.now c.args.to.now c.entries-entries.ensures c.table_room-room.ensures

pub slice_bounds-compile-end-2 : goal.slice_bounds-compile-end-2
slice_bounds-compile-end-2 c =
    sym (length-take-le _ _ (room_within (setup_of c.args.self.set_up) c.args.self.nodes.now c.args.meet.now c.args.to.now c.entries-entries.ensures
    c.table_room-room.ensures))

pub returns-in_err-states : goal.returns-in_err-states
returns-in_err-states c =
    makes_refused (setup_of c.args.self.set_up) c.args.self.nodes.now c.args.meet.now c.args.to.now c.entries-entries.ensures c.table_room-room.ensures
    c.compile.ensures.answer c.compile.ensures.contents (passed_on c.from_residual.result c.in_err-states.field-0.0 c.from_residual.ensures.1)
    c.in_err-states.was

pub returns : goal.returns
unfolding put
returns c =
    let h =
    entries_in (setup_of c.args.self.set_up) c.args.self.nodes.now c.args.meet.now c.args.to.now c.entries-entries.ensures c.table_room-room.ensures
    c.compile.ensures.answer c.in_ok-states.was in
    makes_all (setup_of c.args.self.set_up) c.args.self.nodes.now c.args.meet.now c.args.to.now c.entries-entries.ensures c.table_room-room.ensures
    c.compile.ensures.answer c.compile.ensures.contents c.in_ok-states.was (puts_front c.put_word.ensures h).whole
