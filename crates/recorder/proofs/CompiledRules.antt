-- What the compiler's answer is beside an accepted set-up and a buffer for the largest table: 5 to 10, and the bytes of an accepted rule's table.
use mathlib.Core.{Path.{◌≡◌, refl, sym, ◌∙◌, ap, ap₂}, List.{List, ◌++◌}, Option.{Option, none, some}}
use Prim.Native.Nat.{ℕ, ◌+◌, ◌*◌, ◌/◌, ◌%◌, ◌≤◌, ◌<◌}
use native.Mathlib.{Nat.{mul-le-mul, mul-le-mul_right}, Omega.{arith}}
use borrow.Author.Tests.{le-leb}
use lib.{Dec.{leb}, ListN.{length, drop, get_or-append}}
use Rattle.limits.specs.Limits.{event_limit, state_limit}
use Rattle.theory.specs.MealyMachine.{States, Runs}
use Rattle.refusal.specs.{declared.Refusal.{Refusal}, declared.Refusal.TheVariants.{BufferLength}}
use Rattle.refusal.specs.{Refusal.{put}, RefusalAnswers.{or_else, plain_unless, answered, put_unless}}
use Rattle.refusal.proofs.Refusals.{answered_accepted, answered_refused}
use Rattle.values.specs.declared.ValueKind.{ValueKind}
use Rattle.values.specs.declared.ValueKind.TheVariants.{Numbered, Register}
use Rattle.values.specs.{Setup.{Setup, SetupValue, setup_meet, setup_top, value_width, value_from}, SetupTests.{setup_refusal}}
use Rattle.values.proofs.Setups.{setup_accepted}
use Rattle.formulas.specs.RuleRefusal.{formula_of}
use Rattle.formulas.proofs.Padding.{padded_length}
use Rattle.machines.specs.{TableBytes.{table_bytes, entry_width, entry_bytes}, TableRefusal.{entry_value, entry_next}}
use Rattle.machines.proofs.{EntryIndex.{every_entry, index_state, index_event}, EntryBytes.{table_length}}
use Rattle.machines.proofs.TableRoundTrip.{entry_length, entry_width_is, entry_within, read_back}
use Rattle.synthesis.specs.Compilation.{flat, compile_refusal, compile_answer, compile_contents}
use Rattle.synthesis.proofs.{CompiledTable.{table_runs}, LentTable.{laws, few, formula_well_formed, formula_small}}
use Rattle.recorder.specs.CompiledRule.{rule_judged, states_of_rule, table_of_rule, values_of_rule, nexts_of_rule}
use Rattle.recorder.specs.Splicing.{entry_values, entry_nexts}
use Rattle.recorder.proofs.Rows.{same_padded}
use Rattle.std.specs.Prelude.{Err, Ok}

-- A value at the front of bytes.
value_front :
    (kind : ValueKind) (bytes more : List ℕ) (at : ℕ) → at + value_width kind ≤ length bytes →
    value_from kind (bytes ++ more) at ≡ value_from kind bytes at
value_front (Numbered n) bytes more at h = get_or-append bytes more 0 at (omega arith)
value_front (Register lines) bytes more at h =
    cc (
      get_or-append bytes more 0 at (omega arith),
      get_or-append bytes more 0 (at + 1) (omega arith),
      get_or-append bytes more 0 (at + 2) (omega arith),
      get_or-append bytes more 0 (at + 3) (omega arith),
    )

module _ (s : Setup) (rule : List ℕ) where
  pub values_length : length (values_of_rule s rule) ≡ states_of_rule s rule * s.events
  unfolding values_of_rule flat
  values_length =
      padded_length (λ x. (table_of_rule s rule).value (x / s.events) (x % s.events)) (states_of_rule s rule * s.events)
      (states_of_rule s rule * s.events) 0

  pub nexts_length : length (nexts_of_rule s rule) ≡ states_of_rule s rule * s.events
  unfolding nexts_of_rule flat
  nexts_length =
      padded_length (λ x. (table_of_rule s rule).next (x / s.events) (x % s.events)) (states_of_rule s rule * s.events)
      (states_of_rule s rule * s.events) 0

module _ (s : Setup) (rule : List ℕ) (ok : setup_refusal s ≡ none) where
  module _ (fine : rule_judged s rule ≡ none) where
    pub few_states : states_of_rule s rule ≤ state_limit
    unfolding states_of_rule rule_judged
    few_states = few s ok state_limit rule fine

    pub rule_runs : (0 < states_of_rule s rule) × Runs s.events (SetupValue s) (States (states_of_rule s rule)) (table_of_rule s rule)
    unfolding states_of_rule rule_judged
    rule_runs =
        let r =
        table_runs (SetupValue s) (setup_meet s) (setup_top s) (laws s ok) s.events state_limit (formula_of s.kind rule)
        (formula_well_formed s ok state_limit rule fine) (formula_small s ok state_limit rule fine) (few s ok state_limit rule fine) in
        (r.0, r.1)

    -- The table fits a buffer for the largest one.
    pub table_fits : (width n : ℕ) → state_limit * event_limit * width ≤ n → states_of_rule s rule * s.events * width ≤ n
    table_fits width n h = omega (arith, h, mul-le-mul_right width (mul-le-mul few_states ((setup_accepted s).0 ok).few_events))

  module _ (old : List ℕ) (room : state_limit * event_limit * entry_width s.kind ≤ length old) where
    abbrev thirteen : Option Refusal
    thirteen = plain_unless (leb (states_of_rule s rule * s.events * entry_width s.kind) (length old)) BufferLength

    -- Beside an accepted set-up and such a buffer only 5 to 10 are met.
    answer_is : compile_refusal state_limit s rule old ≡ rule_judged s rule
    unfolding compile_refusal rule_judged states_of_rule or_else plain_unless
    answer_is = ap (λ o. or_else o (or_else (rule_judged s rule) thirteen)) ok ∙ go (rule_judged s rule) refl
      where
        go : (o : Option Refusal) → rule_judged s rule ≡ o → or_else o thirteen ≡ o
        go none e =
            ap (λ b. plain_unless b BufferLength)
            (le-leb (states_of_rule s rule * s.events * entry_width s.kind) (length old) (table_fits e (entry_width s.kind) (length old) room))
        go (some x) e = refl

    verdict_is : compile_answer state_limit s rule old ≡ answered (rule_judged s rule) (states_of_rule s rule)
    unfolding states_of_rule
    verdict_is = ap (λ o. answered o (states_of_rule s rule)) answer_is

    pub rule_refused : (r : Refusal) → compile_answer state_limit s rule old ≡ Err r → rule_judged s rule ≡ some r
    rule_refused r e = answered_refused (rule_judged s rule) (states_of_rule s rule) r (sym verdict_is ∙ e)

    pub rule_counted : (n : ℕ) → compile_answer state_limit s rule old ≡ Ok n → (rule_judged s rule ≡ none) × (n ≡ states_of_rule s rule)
    rule_counted n e = let f = answered_accepted (rule_judged s rule) (states_of_rule s rule) n (sym verdict_is ∙ e) in (f.0, sym f.1)

    module _ (fine : rule_judged s rule ≡ none) where
      abbrev count : ℕ
      count = states_of_rule s rule * s.events

      abbrev bytes : List ℕ
      bytes = table_bytes (entry_bytes s.kind) s.events (table_of_rule s rule) (states_of_rule s rule)

      contents_are : compile_contents state_limit s rule old ≡ bytes ++ drop (length bytes) old
      unfolding compile_contents put_unless put states_of_rule
      contents_are = ap (λ o. put_unless o bytes old) (answer_is ∙ fine)

      bytes_length : length bytes ≡ count * entry_width s.kind
      bytes_length =
          table_length ℕ (entry_bytes s.kind) (entry_width s.kind) (entry_length s.kind) s.events (table_of_rule s rule)
          (states_of_rule s rule)

      within : (i : ℕ) → i < count → i * entry_width s.kind + (value_width s.kind + 1) ≤ length bytes
      within i h = omega (arith, entry_within s.kind count i h, entry_width_is s.kind, bytes_length)

      -- The entries are read back, by state and event.
      value_at : (i : ℕ) → i < count → entry_value s.kind bytes i ≡ (table_of_rule s rule).value (i / s.events) (i % s.events)
      value_at =
          every_entry (λ i. entry_value s.kind bytes i ≡ (table_of_rule s rule).value (i / s.events) (i % s.events)) s.events
          (states_of_rule s rule)
          (λ l e hl he.
          (read_back s.kind s.events (states_of_rule s rule) (table_of_rule s rule)).values_agree l e hl he
          ∙ sym (ap₂ (λ l e. (table_of_rule s rule).value l e) (index_state s.events l e he) (index_event s.events l e he)))

      next_at : (i : ℕ) → i < count → entry_next s.kind bytes i ≡ (table_of_rule s rule).next (i / s.events) (i % s.events)
      next_at =
          every_entry (λ i. entry_next s.kind bytes i ≡ (table_of_rule s rule).next (i / s.events) (i % s.events)) s.events
          (states_of_rule s rule)
          (λ l e hl he.
          (read_back s.kind s.events (states_of_rule s rule) (table_of_rule s rule)).nexts_agree l e hl he
          ∙ sym (ap₂ (λ l e. (table_of_rule s rule).next l e) (index_state s.events l e he) (index_event s.events l e he)))

      pub values_are : entry_values s.kind (compile_contents state_limit s rule old) count ≡ values_of_rule s rule
      unfolding entry_values values_of_rule flat
      values_are =
          same_padded (entry_value s.kind (compile_contents state_limit s rule old))
          (λ x. (table_of_rule s rule).value (x / s.events) (x % s.events)) count
          (λ i h.
          ap (λ l. entry_value s.kind l i) contents_are
          ∙ value_front s.kind bytes (drop (length bytes) old) (i * entry_width s.kind) (omega (arith, within i h))
          ∙ value_at i h) count 0

      pub nexts_are : entry_nexts s.kind (compile_contents state_limit s rule old) count ≡ nexts_of_rule s rule
      unfolding entry_nexts nexts_of_rule flat
      nexts_are =
          same_padded (entry_next s.kind (compile_contents state_limit s rule old))
          (λ x. (table_of_rule s rule).next (x / s.events) (x % s.events)) count
          (λ i h.
          ap (λ l. entry_next s.kind l i) contents_are
          ∙ get_or-append bytes (drop (length bytes) old) 0 (i * entry_width s.kind + value_width s.kind) (omega (arith, within i h))
          ∙ next_at i h) count 0
