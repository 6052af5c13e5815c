-- What load and clear decide, and what they store.
use mathlib.Core.{Path.{◌≡◌, sym, ◌∙◌, ap, ap₂, subst}, Bool.{Bool, true, false, cond}, List.{List, []}, Option.{Option, none, some}}
use Prim.Native.Nat.{ℕ, ◌+◌, ◌*◌, ◌%◌, ◌≤◌}
use native.Mathlib.{Nat.{mod-eq_of_lt}, Omega.{arith}}
use borrow.Author.Tests.{leb-true}
use lib.{Dec.{leb}, ListN.{length, set}}
use Rattle.limits.specs.Limits.{channel_limit, event_limit, row_limit, state_limit}
use Rattle.refusal.specs.{declared.Refusal.{Refusal}, declared.Refusal.TheVariants.{RowTotal}}
use Rattle.refusal.specs.RefusalAnswers.{or_else}
use Rattle.refusal.proofs.Refusals.{or_else_assoc}
use Rattle.values.specs.{declared.ValueKind.{ValueKind}, SetupTests.{setup_refusal}}
use Rattle.machines.specs.TableBytes.{entry_width}
use Rattle.synthesis.specs.Compilation.{compile_answer, compile_contents}
use Rattle.formulas.specs.NodeArrays.{padded}
use Rattle.channel_log.specs.{Calls.{load, clear, accepted, refused}}
use Rattle.channel_log.specs.{CallSteps.{channel_refusal}, Log.{rows_refusal, load_rows_refusal}, Rows.{other_rows}}
use Rattle.recorder.specs.Store.{Store, setup_of, tool_setup_of, rows}
use Rattle.recorder.specs.ToolTests.{passed}
use Rattle.recorder.specs.Splicing.{row_count, entry_values, entry_nexts}
use Rattle.recorder.specs.CompiledRule.{rule_judged, states_of_rule}
use Rattle.recorder.specs.Called.{with_table, with_entries, fault_refusal, tool_refusal, called}
use Rattle.recorder.specs.Decisions.{named_refusal, Storable}
use Rattle.recorder.proofs.Held.{accepted_of_test, values_accepted, few_events}
use Rattle.recorder.proofs.{RowTotals.{before_moved}, RowCounts.{others_are}}
use Rattle.recorder.proofs.Decided.{refused_call, accepted_call, Named, named_of}
use Rattle.recorder.proofs.CompiledRules.{rule_refused, rule_counted, values_are, nexts_are, few_states, table_fits}
use Rattle.std.specs.Prelude.{Err, Ok, Result}

module _ (t : Store) (c : ℕ) where
  -- Clear.
  pub clear_refused : (r : Refusal) → named_refusal t c ≡ some r → (refused r, t) ≡ called (clear c) t
  clear_refused r h = sym (refused_call t (clear c) r h)

  -- Load.
  module _ (rule : List ℕ) where
    abbrev judged_rule : Option Refusal
    judged_rule = rule_judged (setup_of t) rule

    abbrev over : Option Refusal
    over = load_rows_refusal c (rows t) (states_of_rule (setup_of t) rule)

    found : tool_refusal t (load c rule) ≡ or_else (named_refusal t c) (or_else judged_rule over)
    found = or_else_assoc (fault_refusal t (load c rule)) (channel_refusal c) (or_else judged_rule over)

    pub load_refused : (r : Refusal) → named_refusal t c ≡ some r → (refused r, t) ≡ called (load c rule) t
    unfolding or_else
    load_refused r h = sym (refused_call t (load c rule) r (found ∙ ap (λ o. or_else o (or_else judged_rule over)) h))

  module _ (went : named_refusal t c ≡ none) where
    abbrev g : Named t c
    g = named_of t c went

    ok : setup_refusal (setup_of t) ≡ none
    ok = values_accepted (tool_setup_of t) (accepted_of_test (tool_setup_of t) g.passes.0)

    pub setup_passed : passed (setup_refusal (setup_of t)) ≡ true
    setup_passed = ap passed ok

    -- What is stored has room.
    storable : (k : ℕ) → row_count (set t.states c k) ≤ row_limit → Storable t.setup.events t.states c k
    storable k h =
        record { channel = g.inside; few_events = few_events (tool_setup_of t) g.passes.0; fits = g.fit; new_fits = h }

    pub clear_storable : length t.states ≡ channel_limit → Storable t.setup.events t.states c 0
    clear_storable sized =
        storable 0 (omega (arith, g.fit, before_moved t.states c 0 (omega (arith, sized, g.inside)) channel_limit g.inside))

    pub clear_done : (u : Store) → u ≡ with_entries t c 0 [] → (accepted, u) ≡ called (clear c) t
    unfolding entry_values entry_nexts padded
    clear_done u e =
        ap (λ u. (accepted, u))
        (e ∙ ap₂ (λ a b. with_table t c 0 a b) (ap (λ n. entry_values kind [] n) none_there) (ap (λ n. entry_nexts kind [] n) none_there))
        ∙ sym (accepted_call t (clear c) went)
      where
        kind : ValueKind
        kind = t.setup.kind

        none_there : 0 * t.setup.events ≡ 0
        none_there = omega arith

    module _ (rule old : List ℕ) (room : length old ≡ state_limit * event_limit * entry_width (setup_of t).kind) where
      large : state_limit * event_limit * entry_width (setup_of t).kind ≤ length old
      large = omega (arith, room)

      found_later : tool_refusal t (load c rule) ≡ or_else (judged_rule rule) (over rule)
      unfolding or_else
      found_later = found rule ∙ ap (λ o. or_else o (or_else (judged_rule rule) (over rule))) went

      -- The compiler's answer.
      abbrev answer : Result ℕ Refusal
      answer = compile_answer state_limit (setup_of t) rule old

      pub load_judged : (r : Refusal) → answer ≡ Err r → (refused r, t) ≡ called (load c rule) t
      unfolding or_else
      load_judged r e =
          sym (refused_call t (load c rule) r
          (found_later ∙ ap (λ o. or_else o (over rule)) (rule_refused (setup_of t) rule ok old large r e)))

      module _ (n : ℕ) (e_count : answer ≡ Ok n) where
        abbrev S : ℕ
        S = states_of_rule (setup_of t) rule

        counted_rule : (judged_rule rule ≡ none) × (n ≡ S)
        counted_rule = rule_counted (setup_of t) rule ok old large n e_count

        few : n ≤ state_limit
        few = subst (λ k. k ≤ state_limit) (sym counted_rule.1) (few_states (setup_of t) rule ok counted_rule.0)

        pub small_count : n ≤ 65535
        small_count = omega (arith, few)

        narrow : n % 65536 ≡ n
        narrow = mod-eq_of_lt {n = n} {m = 65536} (omega (arith, few))

        module _ (sized : length t.states ≡ channel_limit) where
          -- The rows as the code counts them.
          counted_rows : other_rows c (rows t) + S ≡ row_count (set t.states c n)
          counted_rows = others_are t c g.inside sized S ∙ ap (λ k. row_count (set t.states c k)) (sym counted_rule.1)

          found_last : tool_refusal t (load c rule) ≡ rows_refusal (row_count (set t.states c n))
          unfolding or_else
          found_last = found_later ∙ ap (λ o. or_else o (over rule)) counted_rule.0 ∙ ap rows_refusal counted_rows

          abbrev over_unless : Bool → Option Refusal
          over_unless b = cond b none (some RowTotal)

          pub load_over : leb (row_count (set t.states c n)) row_limit ≡ false → (refused RowTotal, t) ≡ called (load c rule) t
          load_over h = sym (refused_call t (load c rule) RowTotal (found_last ∙ ap over_unless h))

          module _ (left : leb (row_count (set t.states c n)) row_limit ≡ true) where
            pub load_storable : Storable t.setup.events t.states c (n % 65536)
            load_storable =
                storable (n % 65536)
                (subst (λ k. row_count (set t.states c k) ≤ row_limit) (sym narrow)
                (leb-true (row_count (set t.states c n)) row_limit left))

            pub load_room : n % 65536 * t.setup.events * entry_width t.setup.kind ≤ length old
            load_room =
                subst (λ k. k * t.setup.events * entry_width (setup_of t).kind ≤ length old) (sym (narrow ∙ counted_rule.1))
                (table_fits (setup_of t) rule ok counted_rule.0 (entry_width (setup_of t).kind) (length old) large)

            pub load_done :
                (u : Store) → u ≡ with_entries t c (n % 65536) (compile_contents state_limit (setup_of t) rule old) → (accepted, u) ≡ called (load c rule) t
            load_done u e =
                ap (λ u. (accepted, u))
                (e
                ∙ ap (λ k. with_entries t c k (compile_contents state_limit (setup_of t) rule old)) (narrow ∙ counted_rule.1)
                ∙ ap₂ (λ a b. with_table t c S a b) (values_are (setup_of t) rule ok old large counted_rule.0)
                (nexts_are (setup_of t) rule ok old large counted_rule.0))
                ∙ sym (accepted_call t (load c rule) (found_last ∙ ap over_unless left))
