-- Twin of TableText, pinned by table_rows RowsLengthClaim.
-- The call that prints a table handed in.
use Rattle.std.specs.Prelude.{ℕ, ◌+◌, ◌*◌, List, Result}
use Rattle.limits.specs.Limits.{entry_limit}
use Rattle.values.specs.{declared.ValueKind.{ValueKind}, declared.ValueKind.TheVariants.{Numbered, Register}}
use Rattle.machines.specs.TableBytes.{machine_of}
use Rattle.table_rows.specs.{TableText.{table_text}, Rendering.{handed_refusal, Renders}}
use Rattle.refusal.specs.declared.Refusal.{Refusal}

abbrev pub rows_text : ℕ → ValueKind → ℕ → List ℕ → List ℕ
rows_text events kind states bytes = table_text kind events states (machine_of kind events bytes)

-- A top is not handed in: 0 is below every count of values that 2 lets through, and a register's is not looked at.
abbrev pub PrintsRows : ℕ → ValueKind → ℕ → List ℕ → List ℕ → List ℕ → Result ℕ Refusal → Type 0
PrintsRows events kind states bytes old new r =
    Renders (handed_refusal events kind 0 states bytes) (rows_text events kind states bytes) old new r

-- Every output has room in so many bytes.
abbrev pub rows_limit : ℕ
rows_limit = entry_limit * 20 + 24

abbrev pub register_rows_limit : ℕ
register_rows_limit = entry_limit * 28 + 24

abbrev pub rows_room : ValueKind → ℕ
rows_room (Numbered values) = rows_limit
rows_room (Register lines) = register_rows_limit
