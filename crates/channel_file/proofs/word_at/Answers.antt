-- `channel_file::word_at` meets its contract: the text ends within the word.
use mathlib.Core.Path.{◌∙◌}
use Rattle.std.proofs.lemmas.Result.{err_from_is_err_and}
use Rattle.channel_file.proofs.Offsets.{here}
use Rattle.channel_file.proofs.word_at.Goals as goal

pub returns-in_err-byte_at : goal.returns-in_err-byte_at
returns-in_err-byte_at c =
    let h = c.in_err-byte_at.ensures in
    let p = err_from_is_err_and c.from_residual.result c.from_residual.ensures.1 in
    rw (p.1, p.2, h.0)
    (record {
      same = c.loop-j.invariant.2 ∙ rw (h.1, here c.args.key.now c.loop-j.j c.loop-j-test.true);
      within = c.loop-j.invariant.0;
    })
