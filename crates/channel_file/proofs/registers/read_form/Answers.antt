-- `channel_file::registers::read_form` meets its contract: the limit first. Assumes nothing.
use mathlib.Core.{Bool.{Bool, cond}, Path.{sym, ap}}
use borrow.Author.Tests.{le-ltb}
use lib.ListN.{length}
use Rattle.text_format.specs.Format.{refused, read}
use Rattle.channel_file.specs.{RegisterReading.{read_file, form_of}, RegisterFormat.{file}}
use Rattle.channel_file.proofs.{Reading.{place, placed}, RegisterReading.{form_as}}
use Rattle.channel_file.proofs.registers.read_form.Goals as goal

pub returns : goal.returns
returns c =
    let h = form_as place (sym (ap (λ (b : Bool). cond b (refused 4096) (read file c.args.text.now))
    (le-ltb 4096 (length c.args.text.now) c.if-text-gt-FILE_LIMIT.false))) c.read_lines.ensures in
    record { reply = placed form_of (read_file c.args.text.now) c.read_lines.result c.map_err.result c.map_err.ensures.cases h.reply; bytes = h.bytes }
