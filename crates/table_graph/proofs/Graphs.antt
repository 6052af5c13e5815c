-- Digraphs piece by piece, and how long they are.
use Prim.Native.Nat.{ℕ, ◌+◌, ◌*◌, ◌/◌, ◌%◌, ◌≤◌, ◌<◌}
use mathlib.Core.{Path.{◌≡◌, refl, sym, ap}, List.{◌++◌, append_assoc}, Bool.{Bool, true, false, cond}, Option.{none}}
use native.Mathlib.{Omega.{arith}, Nat.{mod-lt, div-lt_iff_lt-mul, mul-le-mul, mul-le-mul_right}}
use lib.{Dec.{eqb}, ListN.{length, length-append}}
use borrow.Author.Tests.{eq-eqb, ne_eqb}
use Rattle.limits.specs.Limits.{entry_limit}
use Rattle.theory.specs.MealyMachine.{Machine, States, Runs}
use Rattle.values.specs.{declared.ValueKind.{ValueKind}, declared.ValueKind.TheVariants.{Numbered, Register}, Setup.{ValueIn}}
use Rattle.text_format.specs.Texts.{ascii, numeral, each}
use Rattle.text_output.proofs.Outputs.{numeral_short, each_length}
use Rattle.table_rows.specs.{TableText.{value_text}, Rendering.{count_refusal}, Claims.{FewEntries}}
use Rattle.table_rows.proofs.Texts.{value_room, value_length}
use Rattle.table_graph.specs.{GraphText.{label_text, arrow_line, entry_arrow, digraph_text}, Graph.{graph_room}}

-- ---- texts

module _ (kind : ValueKind) (top value : ℕ) where
  pub label_open : value ≡ top → ascii "/open" ≡ label_text kind top value
  unfolding label_text
  label_open e = sym (ap (λ (b : Bool). cond b (ascii "/open") (ascii "/" ++ value_text kind (ascii ".") value)) (eq-eqb value top e))

  pub label_value : (value ≡ top → ⊥) → ascii "/" ++ value_text kind (ascii ".") value ≡ label_text kind top value
  unfolding label_text
  label_value e = sym (ap (λ (b : Bool). cond b (ascii "/open") (ascii "/" ++ value_text kind (ascii ".") value)) (ne_eqb value top e))

pub arrow_parts : (kind : ValueKind) (top l e v n : ℕ)
    → (ascii "  " ++ numeral l) ++ ((ascii " -> " ++ numeral n) ++ ((ascii " [label=\"" ++ numeral e) ++ (label_text kind top v ++ ascii "\"];\n")))
    ≡ arrow_line kind top l e v n
unfolding arrow_line
arrow_parts kind top l e v n = simp append_assoc

pub graph_parts : (events : ℕ) (kind : ValueKind) (states top : ℕ) (m : Machine ℕ ℕ)
    → ascii "digraph table {\n" ++ (each (entry_arrow kind events top m) (states * events) 0 ++ ascii "}\n") ≡ digraph_text kind events states top m
unfolding digraph_text
graph_parts events kind states top m = refl

-- ---- lengths

-- The most bytes of a value in a label: `/open` has five.
abbrev label_room : ValueKind → ℕ
label_room (Numbered values) = 5
label_room (Register lines) = 12

label_within : (kind : ValueKind) → (5 ≤ label_room kind) × (1 + value_room kind ≤ label_room kind)
label_within (Numbered values) = (omega arith, omega arith)
label_within (Register lines) = (omega arith, omega arith)

label_length : (kind : ValueKind) (top value : ℕ) → length (value_text kind (ascii ".") value) ≤ value_room kind
    → length (label_text kind top value) ≤ label_room kind
unfolding label_text
label_length kind top value h = go (eqb value top)
  where
    go : (b : Bool) → length (cond b (ascii "/open") (ascii "/" ++ value_text kind (ascii ".") value)) ≤ label_room kind
    go true = (label_within kind).0
    go false = omega (arith, h, (label_within kind).1, length-append (ascii "/") (value_text kind (ascii ".") value))

arrow_length : (kind : ValueKind) (top l e v n : ℕ) → l < 1000 → e < 1000 → length (value_text kind (ascii ".") v) ≤ value_room kind → n < 1000
    → length (arrow_line kind top l e v n) ≤ 28 + label_room kind
arrow_length kind top l e v n hl he hv hn =
    let d = ascii " [label=\"" ++ numeral e in
    let w = label_text kind top v ++ ascii "\"];\n" in
    omega (
      arith,
      numeral_short l hl,
      numeral_short e he,
      numeral_short n hn,
      label_length kind top v hv,
      ap length (arrow_parts kind top l e v n),
      length-append (ascii "  " ++ numeral l) ((ascii " -> " ++ numeral n) ++ (d ++ w)),
      length-append (ascii " -> " ++ numeral n) (d ++ w),
      length-append d w,
      length-append (label_text kind top v) (ascii "\"];\n"),
      length-append (ascii "  ") (numeral l),
      length-append (ascii " -> ") (numeral n),
      length-append (ascii " [label=\"") (numeral e),
    )

-- the bytes of every arrow, and of the lines around them
graph_within : (kind : ValueKind) → entry_limit * (28 + label_room kind) + 18 ≤ graph_room kind
graph_within (Numbered values) = omega arith
graph_within (Register lines) = omega arith

pub graph_length : (events : ℕ) (kind : ValueKind) (handed states top : ℕ) (m : Machine ℕ ℕ) → FewEntries events states
    → count_refusal events kind handed ≡ none → Runs events (ValueIn kind) (States states) m
    → length (digraph_text kind events states top m) ≤ graph_room kind
unfolding digraph_text
graph_length events kind handed states top m few passed runs =
    let r = each (entry_arrow kind events top m) (states * events) 0 in
    omega (
      arith,
      graph_within kind,
      mul-le-mul_right (28 + label_room kind) (mul-le-mul few.few_states few.few_events),
      length-append (ascii "digraph table {\n") (r ++ ascii "}\n"),
      length-append r (ascii "}\n"),
      each_length (entry_arrow kind events top m) (28 + label_room kind) (states * events) 0 one,
    )
  where
    one : (i : ℕ) → 0 ≤ i → i < 0 + states * events → length (entry_arrow kind events top m i) ≤ 28 + label_room kind
    one i low high =
        let at_most = few.few_states in
        let at_most_events = few.few_events in
        let l : i / events < states = (div-lt_iff_lt-mul few.some_events).1 (omega arith) in
        let e : i % events < events = mod-lt i few.some_events in
        let v = value_length events kind handed (m.value (i / events) (i % events)) 46 passed (runs.value_in (i / events) l (i % events) e) in
        let n : m.next (i / events) (i % events) < states = runs.next_in (i / events) l (i % events) e in
        arrow_length kind top (i / events) (i % events) (m.value (i / events) (i % events)) (m.next (i / events) (i % events))
        (omega arith) (omega arith) v (omega arith)
