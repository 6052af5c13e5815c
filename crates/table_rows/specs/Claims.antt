-- What is claimed of a call that renders a table, and what is known of a table that was accepted.
use Rattle.std.specs.Prelude.{ℕ, ◌≤◌, length}
use mathlib.Core.{Path.{◌≡◌}, List.{List}, Option.{none}}
use Rattle.limits.specs.Limits.{table_limit, event_limit}
use Rattle.refusal.specs.Refusal.{Judged}
use Rattle.values.specs.declared.ValueKind.{ValueKind}
use Rattle.table_rows.specs.Rendering.{handed_refusal, rendering_refusal}
use Rattle.table_rows.specs.TableConditions.{rendering_conditions}
use Rattle.table_rows.specs.Rows.{rows_text, rows_room}

-- A table handed in to be rendered is judged as document 01 asks, whatever the text.
abbrev pub RenderingClaim : Type 0
RenderingClaim =
    (events : ℕ) (kind : ValueKind) (top states : ℕ) (bytes text : List ℕ) (room : ℕ)
    → Judged (rendering_conditions events kind top states bytes text room)
    (rendering_refusal (handed_refusal events kind top states bytes) text room)

-- Every output has room.
abbrev pub RowsLengthClaim : Type 0
RowsLengthClaim =
    (events : ℕ) (kind : ValueKind) (states : ℕ) (bytes : List ℕ) → handed_refusal events kind 0 states bytes ≡ none
    → length (rows_text events kind states bytes) ≤ rows_room kind

-- The counts of an accepted table are within the limits.
pub record FewEntries (events states : ℕ) : Type 0 where
  pub some_events : 1 ≤ events
  pub few_events : events ≤ event_limit
  pub few_states : states ≤ table_limit
