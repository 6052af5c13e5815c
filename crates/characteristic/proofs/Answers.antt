-- The answer of a call and the buffer afterwards, from the answers of its parts; the rule of an accepted table is the written one.
use mathlib.Core.{Path.{◌≡◌, sym, ◌∙◌, ap, subst}, Option.{Option, none, some}, List.{List}}
use Prim.Native.Nat.{ℕ, suc, ◌-◌, ◌≤◌, ◌<◌}
use native.Mathlib.Omega.{arith}
use lib.ListN.{length}
use Rattle.limits.specs.Limits.{event_limit, table_limit, node_limit}
use Rattle.theory.specs.Formula.{size}
use Rattle.theory.specs.MealyMachine.{States, Runs}
use Rattle.theory.proofs.CharacteristicFormula.{written_writes}
use Rattle.refusal.specs.declared.{Refusal.{Refusal}}
use Rattle.refusal.specs.RefusalAnswers.{or_else, judgement, answered, put_unless}
use Rattle.refusal.proofs.Refusals.{judgement_accepted, judgement_refused}
use Rattle.values.specs.declared.ValueSet.{ValueSet}
use Rattle.values.specs.HandedIn.{setup_of_set}
use Rattle.values.specs.Setup.{Setup, SetupValue}
use Rattle.values.specs.SetupInOrder.{AcceptedSetup}
use Rattle.values.specs.SetupTests.{setup_refusal}
use Rattle.values.proofs.Setups.{setup_accepted}
use Rattle.formulas.specs.RuleConditions.{encode_formula, node_bytes}
use Rattle.machines.specs.{TableBytes.{entry_width, machine_of, TableInOrder}, TableRefusal.{table_refusal}}
use Rattle.machines.proofs.TableRefusals.{none_in_order, accepted_table}
use Rattle.characteristic.specs.RuleOfTable.{IsRuleOf}
use Rattle.characteristic.specs.RuleWriting.{output_refusal, rule_of, write_refusal, write_answer, write_contents}
use Rattle.characteristic.specs.NodeOutput.{Answered}
use Rattle.characteristic.proofs.Outputs.{refused_answer}
use Rattle.std.specs.Prelude.{Err, Ok, Result}

module _ (table_most node_most : ℕ) (s : Setup) (states start : ℕ) (table : List ℕ) where
  -- The first refusal, one part after the other.
  pub setup_first :
      (room : ℕ) (reason : Refusal) → setup_refusal s ≡ some reason
      → write_refusal table_most node_most s states start table room ≡ some reason
  unfolding write_refusal or_else
  setup_first room reason e = rw e

  pub table_next :
      (room : ℕ) (answer : Option Refusal) → setup_refusal s ≡ none
      → table_refusal table_most s.events s.kind states start table ≡ answer
      → write_refusal table_most node_most s states start table room
      ≡ or_else answer (output_refusal s.kind node_most (rule_of s states start table) room)
  unfolding write_refusal or_else
  table_next room answer e d = rw (e, d)

  table_reason :
      (room : ℕ) (reason : Refusal) → setup_refusal s ≡ none
      → table_refusal table_most s.events s.kind states start table ≡ some reason
      → write_refusal table_most node_most s states start table room ≡ some reason
  unfolding or_else
  table_reason room reason e d = table_next room (some reason) e d

  pub output_last :
      (room : ℕ) → setup_refusal s ≡ none → table_refusal table_most s.events s.kind states start table ≡ none
      → write_refusal table_most node_most s states start table room ≡ output_refusal s.kind node_most (rule_of s states start table) room
  unfolding or_else
  output_last room e d = table_next room none e d

  -- The answer of a call and the buffer afterwards.
  module _ (old : List ℕ) where
    abbrev pub Call : Result ℕ Refusal → List ℕ → Type 0
    Call r after =
        (r ≡ write_answer table_most node_most s states start table old)
        × (after ≡ write_contents table_most node_most s states start table old)

    reason_given : (reason : Refusal) → write_refusal table_most node_most s states start table (length old) ≡ some reason → Call (Err reason) old
    unfolding write_answer write_contents
    reason_given reason e = refused_answer reason _ _ old e

    pub setup_refused : {r : Result ℕ Refusal} (reason : Refusal) → setup_refusal s ≡ some reason → r ≡ Err reason → Call r old
    setup_refused reason e r_is = let given = reason_given reason (setup_first (length old) reason e) in (r_is ∙ given.0, given.1)

    table_refused :
        (reason : Refusal) → setup_refusal s ≡ none → table_refusal table_most s.events s.kind states start table ≡ some reason
        → Call (Err reason) old
    table_refused reason e d = reason_given reason (table_reason (length old) reason e d)

  -- What is accepted: a table of at least one event with the start among its states, whose rule is the written one.
  module _ (setup_in_order : setup_refusal s ≡ none)
      (table_in_order : table_refusal table_most s.events s.kind states start table ≡ none) where
    well_formed : AcceptedSetup s
    well_formed = (setup_accepted s).0 setup_in_order

    in_order : TableInOrder (entry_width s.kind) table_most s.events (SetupValue s) states start table (machine_of s.kind s.events table)
    in_order = none_in_order table_most s.events s.kind states start table table_in_order

    pub some_event : 0 < s.events
    some_event = omega (arith, well_formed.some_events)

    pub few_events : s.events ≤ event_limit
    few_events = well_formed.few_events

    pub start_within : (start < states) × (states ≤ table_most)
    start_within = (in_order.start_in, in_order.few_states)

    pub runs : Runs s.events (SetupValue s) (States states) (machine_of s.kind s.events table)
    runs = (accepted_table table_most s.events s.kind states start table table_in_order).runs

    pub last_event : s.events ≡ suc (s.events - 1)
    last_event = omega (arith, well_formed.some_events)

    pub is_rule : IsRuleOf s.events s.kind start table (rule_of s states start table)
    unfolding rule_of
    is_rule =
        written_writes (machine_of s.kind s.events table) s.events (SetupValue s) states runs (s.events - 1) last_event start
        in_order.start_in

-- The answer of a call whose set-up and table are in order.
call_answered :
    (s : Setup) (states start : ℕ) (table old : List ℕ) {after : List ℕ} {r : Result ℕ Refusal} → setup_refusal s ≡ none
    → table_refusal table_limit s.events s.kind states start table ≡ none
    → Answered s.kind s.events start table old after r → Call table_limit node_limit s states start table old r after
unfolding write_answer write_contents
call_answered s states start table old setup_in_order table_in_order a =
    let last = output_last table_limit node_limit s states start table (length old) setup_in_order table_in_order in
    let rule = is_rule table_limit node_limit s states start table setup_in_order table_in_order in (
      a.answer (rule_of s states start table) rule ∙ ap (λ o. answered o (size (rule_of s states start table))) (sym last),
      a.contents (rule_of s states start table) rule
          ∙ ap (λ o. put_unless o (encode_formula (node_bytes s.kind) (rule_of s states start table)) old) (sym last),
    )

-- Over an accepted set-up: from the judgement of the table, and from the walk.
module _ (s : Setup) (events : ℕ) (v : ValueSet) (accepted : setup_refusal s ≡ none) (yields : s ≡ setup_of_set events v) (states start : ℕ)
    (table old : List ℕ) where
  set_accepted : setup_refusal (setup_of_set events v) ≡ none
  set_accepted = ap setup_refusal (sym yields) ∙ accepted

  on_set : (P : Setup → Type 0) → P (setup_of_set events v) → P s
  on_set P = subst P (sym yields)

  pub refused_table :
      {r : Result ℕ Refusal} (reason : Refusal) → judgement (table_refusal table_limit events v.kind states start table) ≡ Err reason → r ≡ Err reason
      → Call table_limit node_limit s states start table old r old
  refused_table {r} reason d r_is =
      on_set (λ t. Call table_limit node_limit t states start table old r old)
      (let given = table_refused table_limit node_limit (setup_of_set events v) states start table old reason set_accepted (judgement_refused _ reason d) in
      (r_is ∙ given.0, given.1))

  pub in_limits : (0 < events) × (events ≤ event_limit)
  in_limits = let w = (setup_accepted (setup_of_set events v)).0 set_accepted in (omega (arith, w.some_events), omega (arith, w.few_events))

  module _ (d : judgement (table_refusal table_limit events v.kind states start table) ≡ (Ok tt)) where
    pub written_table : {after : List ℕ} {r : Result ℕ Refusal} → Answered v.kind events start table old after r
        → Call table_limit node_limit s states start table old r after
    written_table {after} {r} a =
        on_set (λ t. Call table_limit node_limit t states start table old r after)
        (call_answered (setup_of_set events v) states start table old set_accepted (judgement_accepted _ d) a)

    -- What the walk asks of the start.
    pub small_start : start < table_limit
    small_start =
        let ok = none_in_order table_limit events v.kind states start table (judgement_accepted _ d) in
        omega (arith, ok.start_in, ok.few_states)
