-- `compile` meets its contract: a refused set-up, or what `compile_accepted` answers.
use mathlib.Core.{Option.{none}, Path.{◌≡◌, sym, ◌∙◌, ap, subst}}
use Rattle.limits.specs.Limits.{state_limit}
use Rattle.refusal.specs.Refusal.{refusal_of}
use Rattle.refusal.proofs.Answers.{passed_on}
use Rattle.values.specs.{HandedIn.{setup_of}, Setup.{setup_top}, SetupTests.{setup_refusal}}
use Rattle.synthesis.specs.Compilation.{compile_answer, compile_contents}
use Rattle.synthesis.proofs.LentTable.{case_setup, whole_top}
use Rattle.synthesis.proofs.compile.Goals as goal

pub returns-in_err-value_set : goal.returns-in_err-value_set
returns-in_err-value_set c =
    let w = case_setup state_limit (setup_of c.args.set_up) c.args.rule.now c.args.to.now _
    (sym c.check_by_sets.ensures.judged ∙ ap refusal_of c.in_err-value_set.was) in
    record {
      answer = passed_on c.from_residual.result c.in_err-value_set.field-0.0 c.from_residual.ensures.1 ∙ w.0;
      contents = w.1;
    }

pub compile_accepted-requires : goal.compile_accepted-requires
compile_accepted-requires c = (
  subst (λ s. setup_refusal s ≡ none) c.in_ok-value_set.ensures.yields (sym c.check_by_sets.ensures.judged ∙ ap refusal_of c.in_ok-value_set.was),
  subst (λ s. setup_top s ≡ s.top) c.in_ok-value_set.ensures.yields (whole_top c.args.set_up),
)

pub returns : goal.returns
returns c =
    record {
      answer = c.compile_accepted.ensures.answer
          ∙ ap (λ s. compile_answer state_limit s c.args.rule.now c.args.to.now) (sym c.in_ok-value_set.ensures.yields);
      contents = c.compile_accepted.ensures.contents
          ∙ ap (λ s. compile_contents state_limit s c.args.rule.now c.args.to.now) (sym c.in_ok-value_set.ensures.yields);
    }
