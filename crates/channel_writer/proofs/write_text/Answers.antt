-- `write_text` meets its contract: the text is put into no buffer first, for its length, and then where it has room.
use mathlib.Core.Path.{sym}
use native.Mathlib.Omega.{arith}
use lib.ListN.{length}
use Rattle.channel_file.specs.ChannelFile.{text}
use Rattle.channel_writer.specs.{Writing.{node_tokens}, Steps.{lines_text}}
use Rattle.channel_writer.proofs.Nodes.{is_some_true}
use Rattle.channel_writer.proofs.Replies.{fine, not_none, over_room, written, writes_none, no_entries, no_nodes, no_tokens}
use borrow.Author.Tests.{eqb-true}
use Rattle.channel_writer.proofs.write_text.Goals.{then-is_empty-via-then-is_empty, then-is_empty-via-else-is_empty+then-is_empty-2}
use Rattle.channel_writer.proofs.write_text.Goals.{then-is_empty-via-else-is_empty+else-is_empty-2+then-not-has_tokens}
use Rattle.channel_writer.proofs.write_text.Goals as goal

pub put_lines-size-requires : goal.put_lines-size-requires
put_lines-size-requires c = is_some_true (node_tokens c.args.nodes.now) (sym c.if-not-has_tokens.ensures)

pub put_lines-requires : goal.put_lines-requires
put_lines-requires c = is_some_true (node_tokens c.args.nodes.now) (sym c.if-not-has_tokens.ensures)

pub returns-then-is_empty : goal.returns-then-is_empty
returns-then-is_empty c =
    let o = node_tokens c.args.nodes.now in
    elim c.then-is_empty.branch [
      | then-is_empty-via-then-is_empty w ↦ writes_none text _ _
          (no_entries c.args.events c.args.values c.args.top c.args.meet.now o (eqb-true (length c.args.meet.now) 0 (sym w.if-is_empty.ensures)))
      | then-is_empty-via-else-is_empty+then-is_empty-2 w ↦ writes_none text _ _
          (no_nodes c.args.events c.args.values c.args.top c.args.meet.now c.args.nodes.now
          (eqb-true (length c.args.nodes.now) 0 (sym w.if-is_empty-2.ensures)))
      | then-is_empty-via-else-is_empty+else-is_empty-2+then-not-has_tokens w ↦ writes_none text _ _
          (no_tokens c.args.events c.args.values c.args.top c.args.meet.now o (sym w.if-not-has_tokens.ensures))
    ]

pub returns-then-min-size : goal.returns-then-min-size
returns-then-min-size c =
    over_room text _ (lines_text c.args.events c.args.values c.args.top c.args.meet.now c.args.nodes.now) _ _ _
    (fine c.args.events c.args.values c.args.top c.args.meet.now c.args.nodes.now (not_none (length c.args.meet.now) c.if-is_empty.ensures)
    (not_none (length c.args.nodes.now) c.if-is_empty-2.ensures)
    (is_some_true (node_tokens c.args.nodes.now) (sym c.if-not-has_tokens.ensures)))
    c.put_lines-size.ensures c.args.out.now (omega arith)

pub returns : goal.returns
returns c =
    written text _ (lines_text c.args.events c.args.values c.args.top c.args.meet.now c.args.nodes.now) _ _ _
    (fine c.args.events c.args.values c.args.top c.args.meet.now c.args.nodes.now (not_none (length c.args.meet.now) c.if-is_empty.ensures)
    (not_none (length c.args.nodes.now) c.if-is_empty-2.ensures)
    (is_some_true (node_tokens c.args.nodes.now) (sym c.if-not-has_tokens.ensures)))
    c.put_lines-size.ensures c.args.out.now _ _ (omega arith) c.put_lines.ensures
