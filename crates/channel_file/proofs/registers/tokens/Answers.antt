-- `channel_file::registers::tokens` meets its contract. Assumes nothing.
use mathlib.Core.Path.{sym, ap, ◌∙◌}
use Prim.Native.Nat.{◌-◌}
use lib.ListN.{length}
use Rattle.channel_file.specs.Reading.{stretch}
use Rattle.channel_file.specs.RegisterReading.{read_file, form_of, tokens_stretch}
use Rattle.channel_file.specs.declared.registers.Form.{Form}
use Rattle.channel_file.proofs.{RegisterClaims.{register_form}, Forms.{starts_within}, Accepted.{accepted, not_accepted}}
use Rattle.channel_file.proofs.registers.tokens.Goals as goal

pub slice_bounds-result-count : goal.slice_bounds-result-count
slice_bounds-result-count c =
    let g = accepted form_of (read_file c.args.text.now) c.in-Ok.ensures in
    starts_within register_form c.args.text.now g.0 _ g.1 (ap (λ (f : Form). f.rule_at) g.2)

pub slice_bounds-result-start : goal.slice_bounds-result-start
slice_bounds-result-start c =
    let g = accepted form_of (read_file c.args.text.now) c.in-Ok.ensures in
    starts_within register_form c.args.text.now g.0 _ g.1 (ap (λ (f : Form). f.rule_at) g.2)

pub returns-in-Ok : goal.returns-in-Ok
returns-in-Ok c =
    let g = accepted form_of (read_file c.args.text.now) c.in-Ok.ensures in
    ap (λ (f : Form). stretch f.rule_at (length c.args.text.now - 1) c.args.text.now) g.2
    ∙ sym (ap (tokens_stretch c.args.text.now) g.1)

pub returns-in-Err : goal.returns-in-Err
returns-in-Err c = sym (ap (tokens_stretch c.args.text.now) (not_accepted form_of (read_file c.args.text.now) c.in-Err.ensures).1)
