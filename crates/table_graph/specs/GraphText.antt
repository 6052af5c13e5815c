-- A table as a digraph of the Graphviz language: an arrow a line, by state, then event, labelled with event and value.
use Rattle.std.specs.Prelude.{ℕ, ◌*◌, ◌/◌, ◌%◌, eqb}
use mathlib.Core.{Bool.{cond}, List.{List, ◌++◌}}
use Rattle.theory.specs.MealyMachine.{Machine}
use Rattle.values.specs.declared.ValueKind.{ValueKind}
use Rattle.text_format.specs.Texts.{ascii, numeral, each}
use Rattle.table_rows.specs.TableText.{value_text}

-- A value in a label, behind its slash: `open` for the top value. A register's masks have a dot between (document 02, F-7).
unfoldable pub label_text : ValueKind → ℕ → ℕ → List ℕ
label_text kind top value = cond (eqb value top) (ascii "/open") (ascii "/" ++ value_text kind (ascii ".") value)

unfoldable pub arrow_line : ValueKind → ℕ → ℕ → ℕ → ℕ → ℕ → List ℕ
arrow_line kind top state event value next =
    ascii "  " ++ (numeral state ++ (ascii " -> " ++ (numeral next
    ++ (ascii " [label=\"" ++ (numeral event ++ (label_text kind top value ++ ascii "\"];\n"))))))

-- The arrow of entry i, which is of state i / events and event i % events.
abbrev pub entry_arrow : ValueKind → ℕ → ℕ → Machine ℕ ℕ → ℕ → List ℕ
entry_arrow kind events top m i =
    arrow_line kind top (i / events) (i % events) (m.value (i / events) (i % events)) (m.next (i / events) (i % events))

-- A table of n states, with values of a kind.
unfoldable pub digraph_text : ValueKind → ℕ → ℕ → ℕ → Machine ℕ ℕ → List ℕ
digraph_text kind events n top m =
    ascii "digraph table {\n" ++ (each (entry_arrow kind events top m) (n * events) 0 ++ ascii "}\n")
