-- `registers::read_file` meets its contract: 4, or what is answered of the bytes that are judged.
use mathlib.Core.{Path.{refl, sym, ◌∙◌}, List.{[]}}
use Rattle.refusal.proofs.Answers.{passed_on}
use Rattle.channel_io.proofs.{RegisterPairs.{off_form, holds}, Pairs.{judging_as, reads_off_form, reads_refused, reads_held, reads_bare}}
use Rattle.channel_io.proofs.registers.read_file.Goals as goal

pub returns-in_err-arrays : goal.returns-in_err-arrays
returns-in_err-arrays c =
    reads_off_form [] c.args.rule.now (passed_on c.from_residual.result c.in_err-arrays.field-0.0 c.from_residual.ensures.1)
    (off_form c.args.text.now (sym c.in_err-arrays.was ∙ c.read_arrays.ensures))

pub returns-in_err-keep : goal.returns-in_err-keep
returns-in_err-keep c =
    let passed = passed_on c.from_residual-in_err-keep.result c.in_err-keep.field-0.0 c.from_residual-in_err-keep.ensures.1 in
    reads_bare (reads_refused [] c.args.rule.now
    (judging_as refl c.pair_of.ensures.set_up c.pair_of.ensures.nodes (holds c.args.text.now (sym c.in_ok-arrays.was ∙ c.read_arrays.ensures)))
    c.keep.ensures passed c.in_err-keep.was) c.keep.auto.meet

pub returns : goal.returns
returns c =
    reads_bare (reads_held [] c.args.rule.now
    (judging_as c.from.ensures c.pair_of.ensures.set_up c.pair_of.ensures.nodes
    (holds c.args.text.now (sym c.in_ok-arrays.was ∙ c.read_arrays.ensures)))
    c.keep.ensures c.in_ok-keep.was) c.keep.auto.meet
