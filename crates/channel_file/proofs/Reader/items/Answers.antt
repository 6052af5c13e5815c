-- `channel_file::Reader::items` meets its contract: the key, and the items behind it.
use Rattle.std.specs.Prelude.{Ok, Err}
use Rattle.std.proofs.lemmas.Result.{err_from_is_err_and}
use Rattle.text_format.specs.Texts.{ascii}
use Rattle.channel_file.specs.Steps.{items_format, code}
use Rattle.channel_file.proofs.Storing.{items_keyed}
use Rattle.channel_file.proofs.Reader.items.Goals as goal

pub returns-in_err-n-clause-line : goal.returns-in_err-n-clause-line
returns-in_err-n-clause-line c =
    let p = err_from_is_err_and c.from_residual-in_err-n.result c.from_residual-in_err-n.ensures.1 in
    rw (p.1, p.2) (items_keyed (ascii "rule=") (items_format c.args.values) (code c.args.values) c.args.self.now.text.now c.args.self.now.at
    c.in_ok-start.start c.in_ok-start.ensures.same (Err _) c.in_err-n.ensures)

pub returns-clause-line : goal.returns-clause-line
returns-clause-line c =
    items_keyed (ascii "rule=") (items_format c.args.values) (code c.args.values) c.args.self.now.text.now c.args.self.now.at
    c.in_ok-start.start c.in_ok-start.ensures.same (Ok _) c.in_ok-n.ensures
