-- Twin of Calls, pinned by product_claims DemandThree.
-- A tool's channels: a table, a current state and a total (document 01, "Tool"; document 02, F-6).
use mathlib.Core.{List.{List}, Option.{Option}}
use Rattle.std.specs.Prelude.{ℕ, zero, ◌+◌}
use Rattle.refusal.specs.{declared.Refusal.{Refusal}, RefusalAnswers.{or_else}}
use Rattle.channel_log.specs.{Calls.{map_option, Loaded}, CallSteps.{Content}, Log.{occurrence_refusal, load_rows_refusal}}
use Rattle.channel_log.specs.Distance.{Wheel, Occurrence, Reading, reading}

-- The same table, at a state and with a total.
abbrev pub at_state : {B : Type 0} → Loaded B → ℕ → ℕ → Loaded B
at_state x s total = record { states = x.states; table = x.table; current = s; total = total }

-- `judged`: 5 to 10 of a rule's bytes, before 25; `table_of`: the table that accepted bytes are compiled to. An event returns the value and the
-- distance, moves to the next state and adds its pulses; a load and a restart put the channel in state 0 with no pulses.
module _ {B : Type 0} (events : ℕ) (wheel : Wheel) (judged : List ℕ → Option Refusal) (table_of : List ℕ → Loaded B) where
  abbrev pub recorded : Content (Loaded B) Occurrence (Reading B)
  recorded =
      record {
        load_refusal = λ L c bytes. or_else (judged bytes) (load_rows_refusal c (λ d. map_option (λ x. x.states) (L d)) (table_of bytes).states);
        event_refusal = λ x i. occurrence_refusal events x.total i;
        loaded = λ bytes. at_state (table_of bytes) zero zero;
        output = λ x i. reading wheel (x.table.value x.current i.event) (x.total + i.pulses);
        moved = λ x i. at_state x (x.table.next x.current i.event) (x.total + i.pulses);
        restarted = λ x. at_state x zero zero;
      }
