-- `compile_file` meets its contract: 4, or what is answered of the bytes that are judged.
use mathlib.Core.{Path.{refl, sym, ◌∙◌}}
use Rattle.refusal.proofs.Answers.{passed_on}
use Rattle.channel_io.proofs.{ShownBytes.{off_form, holds}, Pairs.{judging_as, compiles_off_form, compiles_refused, compiles_held}}
use Rattle.channel_io.proofs.compile_file.Goals as goal

pub returns-in_err-arrays : goal.returns-in_err-arrays
returns-in_err-arrays c =
    compiles_off_form c.args.meet.now c.args.to.now (passed_on c.from_residual.result c.in_err-arrays.field-0.0 c.from_residual.ensures.1)
    (off_form c.args.text.now (sym c.in_err-arrays.was ∙ c.read_arrays.ensures))

pub returns-in_err-states : goal.returns-in_err-states
returns-in_err-states c =
    compiles_refused c.args.meet.now c.args.to.now
    (judging_as refl c.pair_of.ensures.set_up c.pair_of.ensures.nodes (holds c.args.text.now (sym c.in_ok-arrays.was ∙ c.read_arrays.ensures)))
    c.compile.ensures (passed_on c.from_residual-in_err-states.result c.in_err-states.field-0.0 c.from_residual-in_err-states.ensures.1) c.in_err-states.was

pub returns : goal.returns
returns c =
    compiles_held c.args.meet.now c.args.to.now
    (judging_as c.from.ensures c.pair_of.ensures.set_up c.pair_of.ensures.nodes
    (holds c.args.text.now (sym c.in_ok-arrays.was ∙ c.read_arrays.ensures)))
    c.compile.ensures c.in_ok-states.was
