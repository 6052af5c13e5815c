-- `read_file` meets its contract: 4, or what is answered of the bytes that are judged.
use mathlib.Core.{Path.{refl, sym, ◌∙◌}}
use Rattle.refusal.proofs.Answers.{passed_on}
use Rattle.channel_io.proofs.{ShownBytes.{off_form, holds}, Pairs.{judging_as, reads_off_form, reads_refused, reads_held}}
use Rattle.channel_io.proofs.read_file.Goals as goal

pub returns-in_err-arrays : goal.returns-in_err-arrays
returns-in_err-arrays c =
    reads_off_form c.args.meet.now c.args.rule.now (passed_on c.from_residual.result c.in_err-arrays.field-0.0 c.from_residual.ensures.1)
    (off_form c.args.text.now (sym c.in_err-arrays.was ∙ c.read_arrays.ensures))

pub returns-in_err-keep : goal.returns-in_err-keep
returns-in_err-keep c =
    reads_refused c.args.meet.now c.args.rule.now
    (judging_as refl c.pair_of.ensures.set_up c.pair_of.ensures.nodes (holds c.args.text.now (sym c.in_ok-arrays.was ∙ c.read_arrays.ensures)))
    c.keep.ensures (passed_on c.from_residual-in_err-keep.result c.in_err-keep.field-0.0 c.from_residual-in_err-keep.ensures.1) c.in_err-keep.was

pub returns : goal.returns
returns c =
    reads_held c.args.meet.now c.args.rule.now
    (judging_as c.from.ensures c.pair_of.ensures.set_up c.pair_of.ensures.nodes
    (holds c.args.text.now (sym c.in_ok-arrays.was ∙ c.read_arrays.ensures)))
    c.keep.ensures c.in_ok-keep.was
