-- Lines, piece by piece, and how long they are: numbers of an accepted table have at most three digits, a register's masks five.
use Prim.Native.Nat.{ℕ, ◌+◌, ◌*◌, ◌/◌, ◌%◌, ◌^◌, ◌≤◌, ◌<◌}
use mathlib.Core.{Path.{◌≡◌, refl, ap}, List.{List, [], ◌∷◌, ◌++◌, append_assoc}, Bool.{true}, Option.{none}}
use native.Mathlib.{Omega.{arith}, Nat.{mod-lt, div-lt_iff_lt-mul, mul-le-mul, mul-le-mul_right}}
use lib.ListN.{length, length-append}
use Rattle.limits.specs.Limits.{entry_limit}
use Rattle.theory.specs.ValueSets.{unpack}
use Rattle.theory.specs.MealyMachine.{Machine, States, Runs}
use Rattle.refusal.specs.{RefusalAnswers.{plain_unless}, declared.Refusal.TheVariants.{SetupEvents, SetupValues}}
use Rattle.refusal.proofs.Refusals.{or_else_none, plain_none}
use Rattle.values.specs.declared.ValueKind.{ValueKind}
use Rattle.values.specs.declared.ValueKind.TheVariants.{Numbered, Register}
use Rattle.values.specs.{Setup.{ValueIn, register_setup}, SetupTests.{events_test, values_test}}
use Rattle.values.proofs.Setups.{values_small, setup_accepted}
use Rattle.text_format.specs.Texts.{ascii, numeral, each}
use Rattle.text_output.proofs.Outputs.{numeral_digits, numeral_short, each_length}
use Rattle.channel_file.specs.ChannelFile.{line}
use Rattle.table_rows.specs.TableText.{value_text, row_line, entry_line, table_text}
use Rattle.table_rows.specs.{Rendering.{count_refusal}, Rows.{rows_room}}
use Rattle.table_rows.specs.Claims.{FewEntries}

pub masks_parts : (lines : ℕ) (before between : List ℕ) (v : ℕ)
    → (before ++ numeral (v % 65536)) ++ (between ++ numeral (v / 65536)) ≡ before ++ value_text (Register lines) between v
unfolding unpack
masks_parts lines before between v = append_assoc before (numeral (v % 65536)) (between ++ numeral (v / 65536))

pub row_parts : (kind : ValueKind) (l e v n : ℕ)
    → (ascii "row=" ++ numeral l)
    ++ ((ascii " " ++ numeral e) ++ ((ascii " " ++ value_text kind (ascii " ") v) ++ line (ascii " ") (numeral n))) ≡ row_line kind l e v n
unfolding row_line
row_parts kind l e v n = simp append_assoc

pub table_parts : (events : ℕ) (kind : ValueKind) (n : ℕ) (m : Machine ℕ ℕ)
    → line (ascii "events=") (numeral events) ++ (line (ascii "states=") (numeral n) ++ each (entry_line kind events m) (n * events) 0)
    ≡ table_text kind events n m
unfolding table_text
table_parts events kind n m = refl

-- ---- lengths

pub line_length : (key s : List ℕ) → length (line key s) ≡ length key + (length s + 1)
line_length key s = omega (arith, length-append key (s ++ (10 ∷ [])), length-append s (10 ∷ []))

pub values_passed : (events values top : ℕ) → count_refusal events (Numbered values) top ≡ none → values_test values top ≡ true
unfolding count_refusal
values_passed events values top passed =
    plain_none (values_test values top) SetupValues (or_else_none (plain_unless (events_test events) SetupEvents) _ passed).1

-- at most 16 values or lines
abbrev pub size : ValueKind → ℕ
size (Numbered values) = values
size (Register lines) = lines

pub few_of_kind : (events : ℕ) (kind : ValueKind) (top : ℕ) → count_refusal events kind top ≡ none → size kind ≤ 16
unfolding count_refusal
few_of_kind events (Numbered values) top passed = values_small values top (values_passed events values top passed)
few_of_kind events (Register lines) top passed = ((setup_accepted (register_setup events lines)).0 passed).of_kind.few_lines

-- The most bytes of a value.
abbrev pub value_room : ValueKind → ℕ
value_room (Numbered values) = 3
value_room (Register lines) = 11

pub value_length : (events : ℕ) (kind : ValueKind) (top v b : ℕ) → count_refusal events kind top ≡ none → ValueIn kind v
    → length (value_text kind (b ∷ []) v) ≤ value_room kind
unfolding unpack
value_length events (Numbered values) top v b passed h =
    numeral_short v (omega (arith, few_of_kind events (Numbered values) top passed))
value_length events (Register lines) top v b passed h =
    let small : v < 2 ^ 32 = h.two_masks in
    omega (
      arith,
      numeral_digits 15 4 (v % 65536) refl (omega arith),
      numeral_digits 15 4 (v / 65536) refl (omega arith),
      length-append (numeral (v % 65536)) (b ∷ numeral (v / 65536)),
    )

row_length : (kind : ValueKind) (l e v n : ℕ) → l < 1000 → e < 1000 → length (value_text kind (ascii " ") v) ≤ value_room kind → n < 1000
    → length (row_line kind l e v n) ≤ 17 + value_room kind
row_length kind l e v n hl he hv hn =
    let value = value_text kind (ascii " ") v in
    let a = numeral_short l hl in
    let b = numeral_short e he in
    let d = numeral_short n hn in
    omega (
      arith,
      ap length (row_parts kind l e v n),
      length-append (ascii "row=" ++ numeral l) ((32 ∷ numeral e) ++ ((32 ∷ value) ++ line (ascii " ") (numeral n))),
      length-append (32 ∷ numeral e) ((32 ∷ value) ++ line (ascii " ") (numeral n)),
      length-append (32 ∷ value) (line (ascii " ") (numeral n)),
      length-append (ascii "row=") (numeral l),
      line_length (ascii " ") (numeral n),
    )

-- the bytes of every row, and of the lines before them
rows_within : (kind : ValueKind) → entry_limit * (17 + value_room kind) + 24 ≤ rows_room kind
rows_within (Numbered values) = omega arith
rows_within (Register lines) = omega arith

pub table_length : (events : ℕ) (kind : ValueKind) (top n : ℕ) (m : Machine ℕ ℕ) → FewEntries events n → count_refusal events kind top ≡ none
    → Runs events (ValueIn kind) (States n) m → length (table_text kind events n m) ≤ rows_room kind
unfolding table_text
table_length events kind top n m few passed runs =
    let r = each (entry_line kind events m) (n * events) 0 in
    let few_events = few.few_events in
    let few_states = few.few_states in
    omega (
      arith,
      rows_within kind,
      mul-le-mul_right (17 + value_room kind) (mul-le-mul few_states few_events),
      numeral_short events (omega arith),
      numeral_short n (omega arith),
      length-append (line (ascii "events=") (numeral events)) (line (ascii "states=") (numeral n) ++ r),
      length-append (line (ascii "states=") (numeral n)) r,
      line_length (ascii "events=") (numeral events),
      line_length (ascii "states=") (numeral n),
      each_length (entry_line kind events m) (17 + value_room kind) (n * events) 0 entry_length,
    )
  where
    entry_length : (i : ℕ) → 0 ≤ i → i < 0 + n * events → length (entry_line kind events m i) ≤ 17 + value_room kind
    entry_length i low high =
        let l : i / events < n = (div-lt_iff_lt-mul few.some_events).1 (omega arith) in
        let e : i % events < events = mod-lt i few.some_events in
        let v = value_length events kind top (m.value (i / events) (i % events)) 32 passed (runs.value_in (i / events) l (i % events) e) in
        let k : m.next (i / events) (i % events) < n = runs.next_in (i / events) l (i % events) e in
        let few_events = few.few_events in
        let few_states = few.few_states in
        row_length kind (i / events) (i % events) (m.value (i / events) (i % events)) (m.next (i / events) (i % events))
        (omega arith) (omega arith) v (omega arith)
