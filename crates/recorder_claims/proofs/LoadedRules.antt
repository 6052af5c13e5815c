-- What a load stores: of the refusals none is 17, and the stored table is that of the rule's formula.
use mathlib.Core.{Path.{◌≡◌, refl, ◌∙◌, ap, ap₂, subst⁻¹}, List.{List}, Option.{none}}
use Prim.Native.Nat.{ℕ, ◌+◌, ◌*◌, ◌<◌}
use native.Mathlib.Omega.{arith}
use lib.ListN.{get_or}
use Rattle.limits.specs.Limits.{state_limit}
use Rattle.theory.specs.FormulaClasses.{WellFormed}
use Rattle.theory.specs.ReachableStates.{IsTableOf}
use Rattle.refusal.specs.Refusal.{First, condition_numbers, part_of}
use Rattle.refusal.proofs.Refusals.{or_else_none}
use Rattle.values.specs.{Setup.{Setup, SetupValue, setup_meet, setup_top}, SetupTests.{setup_refusal}}
use Rattle.formulas.specs.{RuleRefusal.{formula_of}, RuleConditions.{encode_formula, node_bytes}}
use Rattle.formulas.proofs.RuleClaims.{accepted_formula_of}
use Rattle.machines.specs.TableBytes.{entry_width, entry_bytes}
use Rattle.machines.proofs.{EntryBytes.{table_length}, TableRoundTrip.{entry_length}, EntryIndex.{index_below, index_state, index_event}}
use Rattle.synthesis.specs.Compilation.{flat, rule_table_refusal}
use Rattle.synthesis.proofs.{Compilation.{flat_at}, CompileClaims.{table_agrees, rule_first as table_first}, CompiledTable.{is_table}}
use Rattle.synthesis.proofs.LentTable.{laws, few, formula_well_formed, formula_small}
use Rattle.channel_log.proofs.Record.{Not, first_not}
use Rattle.recorder.specs.Splicing.{part}
use Rattle.recorder.specs.Store.{ChannelInOrder}
use Rattle.recorder.specs.CompiledRule.{rule_judged, states_of_rule, table_of_rule, values_of_rule, nexts_of_rule, loaded_rule}
use Rattle.recorder.proofs.{Rows.{get_d_part}, CompiledRules.{few_states, rule_runs}}
use Rattle.synthesis.specs.TableOfRule.{rule_conditions_of}

module _ (s : Setup) (rule : List ℕ) where
  -- The bytes of an accepted rule are the code of its formula.
  pub accepted_code : rule_judged s rule ≡ none → rule ≡ encode_formula (node_bytes s.kind) (formula_of s.kind rule)
  unfolding rule_judged rule_table_refusal
  accepted_code e = (accepted_formula_of s.events s.kind rule (or_else_none _ _ e).0).written

  module _ (ok : setup_refusal s ≡ none) where
    -- 5 to 10 beside an accepted set-up, of which none is 17.
    pub rule_first : First (rule_conditions_of s rule) (rule_judged s rule)
    unfolding rule_judged
    rule_first = table_first s rule ok

    pub judged_not_17 : Not 17 (rule_judged s rule)
    unfolding condition_numbers part_of
    judged_not_17 = first_not 17 (rule_conditions_of s rule) (rule_judged s rule) refl rule_first

    module _ (fine : rule_judged s rule ≡ none) where
      pub rule_well_formed : WellFormed s.events (SetupValue s) (formula_of s.kind rule)
      unfolding rule_judged
      rule_well_formed = formula_well_formed s ok state_limit rule fine

      -- The entries that are kept are the table's.
      entry_at :
          (f : ℕ → ℕ → ℕ) (l e : ℕ) → l < states_of_rule s rule → e < s.events →
          get_or (part (flat f s.events (states_of_rule s rule * s.events) (states_of_rule s rule * s.events)) 0 (states_of_rule s rule * s.events))
          (l * s.events + e) 0
          ≡ f l e
      entry_at f l e p q =
          let i = l * s.events + e in
          let h : i < states_of_rule s rule * s.events = index_below s.events (states_of_rule s rule) l e p q in
          let z : 0 + i ≡ i = omega arith in
          get_d_part (flat f s.events (states_of_rule s rule * s.events) (states_of_rule s rule * s.events)) 0 (states_of_rule s rule * s.events) i h
          ∙ ap (λ x. get_or (flat f s.events (states_of_rule s rule * s.events) (states_of_rule s rule * s.events)) x 0) z
          ∙ flat_at f s.events (states_of_rule s rule * s.events) (states_of_rule s rule * s.events) i h h
          ∙ ap₂ f (index_state s.events l e q) (index_event s.events l e q)

      next_at : (l e : ℕ) → l < states_of_rule s rule → e < s.events → (loaded_rule s rule).table.next l e ≡ (table_of_rule s rule).next l e
      unfolding nexts_of_rule
      next_at l e p q = entry_at (table_of_rule s rule).next l e p q

      value_at : (l e : ℕ) → l < states_of_rule s rule → e < s.events → (loaded_rule s rule).table.value l e ≡ (table_of_rule s rule).value l e
      unfolding values_of_rule
      value_at l e p q = entry_at (table_of_rule s rule).value l e p q

      pub rule_in_order : ChannelInOrder s.events s.kind (loaded_rule s rule)
      rule_in_order =
          let r = rule_runs s rule ok fine in
          record {
            table =
                record {
                  some_states = r.0;
                  few_states = few_states s rule ok fine;
                  entry_count =
                      table_length ℕ (entry_bytes s.kind) (entry_width s.kind) (entry_length s.kind) s.events (loaded_rule s rule).table
                      (states_of_rule s rule);
                  start_in = r.0;
                  values_in = λ l e p q. subst⁻¹ (SetupValue s) (value_at l e p q) (r.1.value_in l p e q);
                  nexts_in = λ l e p q. subst⁻¹ (λ x. x < states_of_rule s rule) (next_at l e p q) (r.1.next_in l p e q);
                };
            total = omega arith;
          }

      pub is_table_of : IsTableOf (setup_meet s) (setup_top s) s.events (formula_of s.kind rule) (states_of_rule s rule) (table_of_rule s rule)
      unfolding states_of_rule rule_judged
      is_table_of =
          is_table (SetupValue s) (setup_meet s) (setup_top s) (laws s ok) s.events state_limit (formula_of s.kind rule)
          (formula_well_formed s ok state_limit rule fine) (formula_small s ok state_limit rule fine) (few s ok state_limit rule fine)

      pub rule_table_is :
          IsTableOf (setup_meet s) (setup_top s) s.events (formula_of s.kind rule) (loaded_rule s rule).states (loaded_rule s rule).table
      rule_table_is =
          table_agrees (setup_meet s) (setup_top s) s.events (formula_of s.kind rule) (states_of_rule s rule)
          (table_of_rule s rule) (loaded_rule s rule).table (record { values_agree = value_at; nexts_agree = next_at }) is_table_of
