-- The call that renders a table as a digraph.
use Rattle.std.specs.Prelude.{ℕ, ◌+◌, ◌*◌, ◌≤◌, length, Result}
use mathlib.Core.{Path.{◌≡◌}, List.{List}, Option.{Option, none}}
use Rattle.limits.specs.Limits.{entry_limit}
use Rattle.refusal.specs.{declared.Refusal.{Refusal}, Refusal.{Condition, Judged}}
use Rattle.values.specs.{declared.ValueKind.{ValueKind}, declared.ValueKind.TheVariants.{Numbered, Register}, Setup.{top_of}}
use Rattle.machines.specs.TableBytes.{machine_of}
use Rattle.table_rows.specs.{declared.accepted.AcceptedTable.{AcceptedTable}, TableConditions.{rendering_conditions}}
use Rattle.table_rows.specs.Rendering.{handed_refusal, rendering_refusal, Renders}
use Rattle.table_graph.specs.GraphText.{digraph_text}

-- An accepted table as a digraph.
abbrev pub table_digraph : AcceptedTable → List ℕ
table_digraph t = digraph_text t.kind t.events t.table.states t.top (machine_of t.kind t.events t.table.entries.now)

-- A register's top is fixed: what is handed in is not looked at.
abbrev pub graph_text : ℕ → ValueKind → ℕ → ℕ → List ℕ → List ℕ
graph_text events kind top states bytes = digraph_text kind events states (top_of kind top) (machine_of kind events bytes)

-- The conditions of a call, in order: 1 and 2 for the numbers of the set-up, or 1 and 20 for a register, 11 for the table, and 13.
abbrev pub graph_conditions : ℕ → ValueKind → ℕ → ℕ → List ℕ → ℕ → List Condition
graph_conditions events kind top states bytes room =
    rendering_conditions events kind top states bytes (graph_text events kind top states bytes) room

abbrev pub graph_refusal : ℕ → ValueKind → ℕ → ℕ → List ℕ → ℕ → Option Refusal
graph_refusal events kind top states bytes room =
    rendering_refusal (handed_refusal events kind top states bytes) (graph_text events kind top states bytes) room

abbrev pub Draws : ℕ → ValueKind → ℕ → ℕ → List ℕ → List ℕ → List ℕ → Result ℕ Refusal → Type 0
Draws events kind top states bytes old new r =
    Renders (handed_refusal events kind top states bytes) (graph_text events kind top states bytes) old new r

-- A call is judged as document 01 asks.
abbrev pub GraphRefusalClaim : Type 0
GraphRefusalClaim =
    (events : ℕ) (kind : ValueKind) (top states : ℕ) (bytes : List ℕ) (room : ℕ)
    → Judged (graph_conditions events kind top states bytes room) (graph_refusal events kind top states bytes room)

-- Every digraph has room in so many bytes.
abbrev pub graph_limit : ℕ
graph_limit = entry_limit * 33 + 18

abbrev pub register_graph_limit : ℕ
register_graph_limit = entry_limit * 40 + 18

abbrev pub graph_room : ValueKind → ℕ
graph_room (Numbered values) = graph_limit
graph_room (Register lines) = register_graph_limit

abbrev pub GraphLengthClaim : Type 0
GraphLengthClaim =
    (events : ℕ) (kind : ValueKind) (top states : ℕ) (bytes : List ℕ) → handed_refusal events kind top states bytes ≡ none
    → length (graph_text events kind top states bytes) ≤ graph_room kind
