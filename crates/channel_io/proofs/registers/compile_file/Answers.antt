-- `registers::compile_file` meets its contract: 4, or what is answered of the bytes that are judged.
use mathlib.Core.{Path.{refl, sym, ◌∙◌}, List.{[]}}
use Rattle.refusal.proofs.Answers.{passed_on}
use Rattle.channel_io.proofs.{RegisterPairs.{off_form, holds}, Pairs.{judging_as, compiles_off_form, compiles_refused, compiles_held, compiles_bare}}
use Rattle.channel_io.proofs.registers.compile_file.Goals as goal

pub returns-in_err-arrays : goal.returns-in_err-arrays
returns-in_err-arrays c =
    compiles_off_form [] c.args.to.now (passed_on c.from_residual.result c.in_err-arrays.field-0.0 c.from_residual.ensures.1)
    (off_form c.args.text.now (sym c.in_err-arrays.was ∙ c.read_arrays.ensures))

pub returns-in_err-states : goal.returns-in_err-states
returns-in_err-states c =
    let passed = passed_on c.from_residual-in_err-states.result c.in_err-states.field-0.0 c.from_residual-in_err-states.ensures.1 in
    compiles_bare (compiles_refused [] c.args.to.now
    (judging_as refl c.pair_of.ensures.set_up c.pair_of.ensures.nodes (holds c.args.text.now (sym c.in_ok-arrays.was ∙ c.read_arrays.ensures)))
    c.compile.ensures passed c.in_err-states.was) c.compile.auto.meet

pub returns : goal.returns
returns c =
    compiles_bare (compiles_held [] c.args.to.now
    (judging_as c.from.ensures c.pair_of.ensures.set_up c.pair_of.ensures.nodes
    (holds c.args.text.now (sym c.in_ok-arrays.was ∙ c.read_arrays.ensures)))
    c.compile.ensures c.in_ok-states.was) c.compile.auto.meet
