-- What is printed for a table (document 01, "Channel file"; document 02, F-7): its lines, each ended by byte 10.
use Rattle.std.specs.Prelude.{ℕ, ◌*◌, ◌/◌, ◌%◌, List, [], ◌∷◌, ◌++◌}
use Rattle.theory.specs.{ValueSets.{unpack}, MealyMachine.{Machine}}
use Rattle.values.specs.{declared.ValueKind.{ValueKind}, declared.ValueKind.TheVariants.{Numbered, Register}}
use Rattle.text_format.specs.Texts.{ascii, separated, numeral, each}
use Rattle.channel_file.specs.ChannelFile.{line}

-- A value: its number; for a register the low mask and the high mask, with a text between.
abbrev pub value_text : ValueKind → List ℕ → ℕ → List ℕ
value_text (Numbered values) between v = numeral v
value_text (Register lines) between v = numeral (unpack v).low ++ (between ++ numeral (unpack v).high)

-- "A row is state, event, value, next state." For a register that is `row=STATE EVENT LOW HIGH NEXT`.
unfoldable pub row_line : ValueKind → ℕ → ℕ → ℕ → ℕ → List ℕ
row_line kind state event value next =
    line (ascii "row=") (separated (numeral state ∷ numeral event ∷ value_text kind (ascii " ") value ∷ numeral next ∷ []))

-- Entries are ordered by state, then event: entry i is of state i / events and event i % events.
abbrev pub entry_line : ValueKind → ℕ → Machine ℕ ℕ → ℕ → List ℕ
entry_line kind events m i = row_line kind (i / events) (i % events) (m.value (i / events) (i % events)) (m.next (i / events) (i % events))

-- A table of n states, with values of a kind.
unfoldable pub table_text : ValueKind → ℕ → ℕ → Machine ℕ ℕ → List ℕ
table_text kind events n m =
    line (ascii "events=") (numeral events) ++ (line (ascii "states=") (numeral n) ++ each (entry_line kind events m) (n * events) 0)
