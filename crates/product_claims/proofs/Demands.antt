-- A proof of each demand.
use mathlib.Core.Path.{sym, ◌∙◌, subst⁻¹}
use Rattle.limits.specs.Limits.{device_limit, table_limit}
use Rattle.refusal.specs.Refusal.{Judged}
use Rattle.refusal.proofs.Answers.{judgement_refusal_is}
use Rattle.values.specs.{Setup.{setup_conditions}, SetupTests.{setup_refusal}}
use Rattle.values.proofs.Setups.{setup_judged}
use Rattle.conformance.proofs.TrialClaims.{trial_refusals, trial_refused, trial_passes, trial_simulated, trial_fails}
use Rattle.recorder.proofs.Tools.{one_store}
use Rattle.recorder_claims.proofs.Calls.{calls_judged, replay_judged, replay_events, set_up_judged, refused_set_up, record_of_calls, own_calls}
use Rattle.recorder_claims.proofs.Calls.{other_rows_decide}
use Rattle.recorder_claims.proofs.Loading.{load_claim}
use Rattle.product_claims.specs.Demands.{DemandOne, DemandTwo, DemandThree}
use Rattle.product_claims.proofs.Files.{number_files_judged, register_files_judged, number_files_agree, register_files_agree}
use Rattle.product_claims.proofs.Compiled.{rule_trial, rule_judged, table_to_rule, table_to_rule_to_table, compile_judged, rule_to_table}

pub demand_one : DemandOne
demand_one =
    record {
      checking_a_set_up = λ s. subst⁻¹ (Judged (setup_conditions s)) (judgement_refusal_is (setup_refusal s)) (setup_judged s);
      compiling = compile_judged;
      writing_a_rule = rule_judged;
      trying = λ x old.
          let e = (trial_refused device_limit table_limit).answer x old in
          record {
            judged = subst⁻¹ (Judged _) e (trial_refusals device_limit table_limit x old);
            kept = (trial_refused device_limit table_limit).kept x old;
          };
      setting_up = set_up_judged;
      calling = calls_judged;
      replaying = replay_judged;
      files = number_files_judged;
      register_files = register_files_judged;
    }

pub demand_two : DemandTwo
demand_two =
    record {
      rule_to_table = rule_to_table;
      table_to_rule = table_to_rule;
      table_to_rule_to_table = table_to_rule_to_table;
      files = number_files_agree;
      register_files = register_files_agree;
    }

pub demand_three : DemandThree
demand_three =
    record {
      record_of_calls = record_of_calls;
      independence = own_calls;
      load_independence = other_rows_decide;
      loading = load_claim;
      replaying = replay_events;
      refused_set_up = refused_set_up;
      one_tool = one_store;
      passes = λ x old z.
          trial_simulated device_limit table_limit x old (sym ((trial_refused device_limit table_limit).answer x old) ∙ z);
      pass_keeps = (trial_passes device_limit table_limit).kept;
      fails = trial_fails device_limit table_limit;
      rule_trial = rule_trial;
    }
