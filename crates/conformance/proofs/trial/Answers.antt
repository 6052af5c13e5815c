-- `trial` meets its contract: a refused set-up, or the trial over its values.
use mathlib.Core.Path.{sym, ◌∙◌, ap}
use Rattle.limits.specs.Limits.{device_limit, table_limit}
use Rattle.refusal.proofs.Answers.{passed_on}
use Rattle.values.specs.{HandedIn.{setup_of}, SetupTests.{setup_refusal}}
use Rattle.conformance.specs.{Trial.{input}, TrialAnswer.{trial_answer, trial_buffer}, declared.Pairing.{Pairing}}
use Rattle.conformance.proofs.Trials.{setup_refused, refused_answer, refused_buffer, same_input}
use Rattle.conformance.proofs.trial.Goals as goal

pub returns-in_err-values : goal.returns-in_err-values
unfolding input
returns-in_err-values c =
    let x = input (setup_of c.args.set_up) c.args.table.states c.args.table.entries.now c.args.device.table.states c.args.device.start
    c.args.device.table.entries.now in
    let z = setup_refused device_limit table_limit x c.args.word.now c.in_err-values.field-0.0 (sym c.in_err-values.ensures.judged) in
    record {
      answer =
          passed_on c.from_residual.result c.in_err-values.field-0.0 c.from_residual.ensures.1
          ∙ refused_answer device_limit table_limit x c.args.word.now c.in_err-values.field-0.0 z;
      contents = refused_buffer device_limit table_limit x c.args.word.now c.in_err-values.field-0.0 z;
    }

pub judge-requires : goal.judge-requires
judge-requires c = sym (c.in_ok-values.ensures.judged ∙ ap setup_refusal c.in_ok-values.ensures.yields)

pub returns : goal.returns
returns c =
    let p : Pairing = record { events = c.args.set_up.events; values = c.in_ok-values.values; table = c.args.table; device = c.args.device } in
    let e = same_input p (setup_of c.args.set_up) c.in_ok-values.ensures.yields in
    record {
      answer = c.judge.ensures.answer ∙ ap (λ x. trial_answer device_limit table_limit x c.args.word.now) (sym e);
      contents = c.judge.ensures.contents ∙ ap (λ x. trial_buffer device_limit table_limit x c.args.word.now) (sym e);
    }
