-- Twin of TableOfRule, pinned by product_claims DemandThree.
-- What load takes from the compiler, for a set-up and a rule's bytes (document 01, "Table of a rule" and refusals 5 to 10).
use mathlib.Core.{List.{List}, Option.{Option}}
use Rattle.std.specs.Prelude.{ℕ, ◌*◌}
use Rattle.limits.specs.Limits.{state_limit}
use Rattle.theory.specs.MealyMachine.{Machine}
use Rattle.refusal.specs.declared.Refusal.{Refusal}
use Rattle.values.specs.Setup.{Setup, setup_top}
use Rattle.synthesis.specs.Compilation.{rule_states, rule_table, rule_table_refusal, flat}
use Rattle.channel_log.specs.Calls.{Loaded}
use Rattle.recorder.specs.Store.{loaded_at}

module _ (s : Setup) (rule : List ℕ) where
  -- 5 to 10.
  unfoldable pub rule_judged : Option Refusal
  rule_judged = rule_table_refusal s.kind s.events (setup_top s) s.meet rule state_limit

  -- The table of an accepted rule: its states, and its entries by state, then event.
  unfoldable pub states_of_rule : ℕ
  states_of_rule = rule_states s.kind s.events (setup_top s) s.meet rule state_limit

  abbrev pub table_of_rule : Machine ℕ ℕ
  table_of_rule = rule_table s.kind s.events (setup_top s) s.meet rule state_limit

  unfoldable pub values_of_rule : List ℕ
  values_of_rule = flat table_of_rule.value s.events (states_of_rule * s.events) (states_of_rule * s.events)

  unfoldable pub nexts_of_rule : List ℕ
  nexts_of_rule = flat table_of_rule.next s.events (states_of_rule * s.events) (states_of_rule * s.events)

  -- The channel that it is loaded into.
  abbrev pub loaded_rule : Loaded ℕ
  loaded_rule = loaded_at 0 s.events states_of_rule 0 0 values_of_rule nexts_of_rule
