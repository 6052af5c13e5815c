-- An accepted load on any tool that has all its cells: its channel has the rule's table at state 0, with no pulses, and every other channel
-- stays as it was.
use mathlib.Core.{Path.{◌≡◌, refl, ◌∙◌, ap, subst, subst⁻¹}, List.{List}, Option.{Option, none, some}}
use Prim.Native.Nat.{ℕ, ◌+◌, ◌≤◌, ◌<◌}
use borrow.Author.Tests.{leb-true}
use lib.{Dec.{leb}, ListN.{set}}
use Rattle.limits.specs.Limits.{channel_limit, row_limit}
use Rattle.refusal.specs.{declared.Refusal.{Refusal}, RefusalAnswers.{or_else}, declared.Refusal.TheVariants.{RowTotal}}
use Rattle.refusal.proofs.Refusals.{or_else_none}
use Rattle.values.specs.{Setup.{Setup, setup_meet, setup_top}, SetupTests.{setup_refusal}}
use Rattle.formulas.specs.RuleConditions.{encode_formula, node_bytes}
use Rattle.formulas.specs.RuleRefusal.{formula_of}
use Rattle.channel_log.specs.Calls.{load, accepted, reply_refusal, StandsAs}
use Rattle.channel_log.specs.{CallSteps.{channel_refusal}, Log.{load_rows_refusal}, Rows.{other_rows}}
use Rattle.channel_log.proofs.Record.{test_passed}
use Rattle.recorder.specs.Store.{Store, AllCells, ToolSetup, setup_of, tool_setup_of, channels, rows, ChannelInOrder}
use Rattle.recorder.specs.Splicing.{row_count}
use Rattle.recorder.specs.CompiledRule.{rule_judged, states_of_rule, values_of_rule, nexts_of_rule, loaded_rule}
use Rattle.recorder.specs.Called.{called}
use Rattle.recorder.proofs.Held.{channel_below, accepted_of_test, values_accepted, few_events}
use Rattle.recorder.proofs.{RowCounts.{others_are}, CompiledRules.{values_length, nexts_length}}
use Rattle.recorder_claims.specs.{ChannelLog.{begun}, Claims.{LoadClaim}}
use Rattle.recorder_claims.proofs.{View.{here, there}, LoadedRules.{accepted_code, rule_in_order, rule_table_is}}
use Rattle.recorder_claims.proofs.Calls.{Went, went_of}

module _ (t : Store) (cells : AllCells t) (c : ℕ) (rule : List ℕ) (went : (called (load c rule) t).0 ≡ accepted) where
  abbrev S : Setup
  S = setup_of t

  abbrev T : ToolSetup
  T = tool_setup_of t

  abbrev over : Option Refusal
  over = load_rows_refusal c (rows t) (states_of_rule S rule)

  facts : Went t (load c rule)
  facts = went_of t (load c rule) (ap reply_refusal went)

  set_up_fine : setup_refusal S ≡ none
  set_up_fine = values_accepted T (accepted_of_test T facts.set_up_passes)

  load_refusals : (channel_refusal c ≡ none) × (or_else (rule_judged S rule) over ≡ none)
  load_refusals = or_else_none (channel_refusal c) (or_else (rule_judged S rule) over) facts.unrefused

  channel_fine : c < channel_limit
  channel_fine = channel_below c load_refusals.0

  rule_fine : rule_judged S rule ≡ none
  rule_fine = (or_else_none (rule_judged S rule) over load_refusals.1).0

  -- The rows fit afterwards too.
  new_fits : row_count (set t.states c (states_of_rule S rule)) ≤ row_limit
  new_fits =
      let n = other_rows c (rows t) + states_of_rule S rule in
      subst (λ m. m ≤ row_limit) (others_are t c channel_fine cells.states_are (states_of_rule S rule))
      (leb-true n row_limit (test_passed (leb n row_limit) RowTotal (or_else_none (rule_judged S rule) over load_refusals.1).1))

  table_fine : ChannelInOrder S.events S.kind (loaded_rule S rule)
  table_fine = rule_in_order S rule set_up_fine rule_fine

  pub load_code : rule ≡ encode_formula (node_bytes S.kind) (formula_of S.kind rule)
  load_code = accepted_code S rule rule_fine

  channel_after : channels (called (load c rule) t).1 c ≡ some (loaded_rule S rule)
  channel_after =
      ap (λ a. channels a.1 c) facts.outcome
      ∙ here t cells.states_are cells.current_are cells.totals_are cells.values_are cells.nexts_are
      (few_events T facts.set_up_passes) facts.fits c (states_of_rule S rule) (values_of_rule S rule) (nexts_of_rule S rule)
      channel_fine new_fits (values_length S rule) (nexts_length S rule)
      table_fine.table.some_states

  pub load_stands :
      StandsAs (setup_meet S) (setup_top S) S.events (channels (called (load c rule) t).1 c) (some (begun (formula_of S.kind rule)))
  load_stands =
      subst⁻¹ (λ o. StandsAs (setup_meet S) (setup_top S) S.events o (some (begun (formula_of S.kind rule)))) channel_after
      (rule_table_is S rule set_up_fine rule_fine, refl, refl)

  pub load_others : (d : ℕ) → ¬ (d ≡ c) → channels (called (load c rule) t).1 d ≡ channels t d
  load_others d e =
      ap (λ a. channels a.1 d) facts.outcome
      ∙ there t cells.states_are cells.current_are cells.totals_are cells.values_are cells.nexts_are
      (few_events T facts.set_up_passes) facts.fits c (states_of_rule S rule) (values_of_rule S rule) (nexts_of_rule S rule)
      channel_fine new_fits (values_length S rule) (nexts_length S rule) d e

pub load_claim : LoadClaim
load_claim t cells c rule went =
    record {
      formula = formula_of t.setup.kind rule;
      code = load_code t cells c rule went;
      stands = load_stands t cells c rule went;
      others = load_others t cells c rule went;
    }
