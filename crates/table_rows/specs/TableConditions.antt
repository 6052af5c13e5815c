-- The conditions of a call that renders a table handed in.
use Rattle.std.specs.Prelude.{ℕ, ◌<◌, List, [], ◌∷◌, ◌++◌, length}
use Rattle.limits.specs.Limits.{table_limit}
use Rattle.refusal.specs.{Refusal.{Condition, plain}, declared.Refusal.TheVariants.{BufferLength, SetupEvents, SetupValues}}
use Rattle.values.specs.{declared.ValueKind.{ValueKind}, declared.ValueKind.TheVariants.{Numbered, Register}}
use Rattle.values.specs.Setup.{EventsFault, ValuesFault, ValueIn, register_setup, setup_conditions}
use Rattle.machines.specs.TableBytes.{entry_width, machine_of, table_condition}

-- For the counts of the set-up: 1 and 2 where values are numbers, of which no meet table is handed in; 1 and 20 for a register.
abbrev pub count_conditions : ℕ → ValueKind → ℕ → List Condition
count_conditions events (Numbered values) top = plain SetupEvents (EventsFault events) ∷ plain SetupValues (ValuesFault values top) ∷ []
count_conditions events (Register lines) top = setup_conditions (register_setup events lines)

-- The conditions of a call, in order: those of the counts, 11 for the table, of which every state may be the start, and 13 where the
-- buffer is shorter than the text.
abbrev pub rendering_conditions : ℕ → ValueKind → ℕ → ℕ → List ℕ → List ℕ → ℕ → List Condition
rendering_conditions events kind top states bytes text room =
    count_conditions events kind top
    ++ (table_condition (entry_width kind) table_limit events (ValueIn kind) states 0 bytes (machine_of kind events bytes)
    ∷ plain BufferLength (room < length text)
    ∷ [])
