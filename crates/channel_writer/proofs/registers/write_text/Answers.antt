-- `registers::write_text` meets its contract: the text is put into no buffer first, for its length, and then where it has room.
use mathlib.Core.Path.{sym}
use native.Mathlib.Omega.{arith}
use lib.ListN.{length}
use Rattle.channel_file.specs.RegisterFile.{text}
use Rattle.channel_writer.specs.{RegisterWriting.{node_tokens}, Steps.{register_text}}
use Rattle.channel_writer.proofs.Nodes.{is_some_true}
use Rattle.channel_writer.proofs.Replies.{fine_register, not_none, over_room, written}
use Rattle.channel_writer.proofs.registers.write_text.Goals as goal

pub put_lines-size-requires : goal.put_lines-size-requires
put_lines-size-requires c = is_some_true (node_tokens c.args.nodes.now) (sym c.if-not-has_tokens.ensures)

pub put_lines-requires : goal.put_lines-requires
put_lines-requires c = is_some_true (node_tokens c.args.nodes.now) (sym c.if-not-has_tokens.ensures)

pub returns-then-min-size : goal.returns-then-min-size
returns-then-min-size c =
    over_room text _ (register_text c.args.events c.args.lines c.args.nodes.now) _ _ _
    (fine_register c.args.events c.args.lines c.args.nodes.now (not_none (length c.args.nodes.now) c.if-is_empty.ensures)
    (is_some_true (node_tokens c.args.nodes.now) (sym c.if-not-has_tokens.ensures)))
    c.put_lines-size.ensures c.args.out.now (omega arith)

pub returns : goal.returns
returns c =
    written text _ (register_text c.args.events c.args.lines c.args.nodes.now) _ _ _
    (fine_register c.args.events c.args.lines c.args.nodes.now (not_none (length c.args.nodes.now) c.if-is_empty.ensures)
    (is_some_true (node_tokens c.args.nodes.now) (sym c.if-not-has_tokens.ensures)))
    c.put_lines-size.ensures c.args.out.now _ _ (omega arith) c.put_lines.ensures
