-- A table handed in, judged, and a text rendered: put into an empty buffer, which tells its length, and then into the lent one.
use Prim.Native.Nat.{ℕ, ◌≤◌, ◌<◌}
use mathlib.Core.{Path.{◌≡◌, refl, sym, ap, ap₂, ◌∙◌, subst}, List.{List}, Bool.{Bool, true, false}, Option.{Option, none, some}}
use native.Mathlib.Omega.{arith}
use lib.{Dec.{leb}, ListN.{length}}
use borrow.Author.Tests.{lt-leb, le-leb, leb-true, leb-false}
use Rattle.limits.specs.Limits.{event_limit, table_limit}
use Rattle.theory.specs.MealyMachine.{States, Runs}
use Rattle.theory.proofs.ValueSets.{and_left, and_right}
use Rattle.refusal.specs.{declared.{Refusal.{Refusal}}, declared.Refusal.TheVariants.{BufferLength, SetupEvents, SetupLines, SetupValues}}
use Rattle.refusal.specs.Refusal.{First, condition_numbers, right_places, part_of, order, has_place, put}
use Rattle.refusal.specs.RefusalAnswers.{or_else, plain_unless, judgement, answered, put_unless}
use Rattle.refusal.proofs.Refusals.{plain_first, first_append, judged, or_else_assoc, or_else_none, plain_none}
use Rattle.refusal.proofs.Refusals.{judgement_accepted, judgement_refused, answered_accepted}
use Rattle.values.specs.declared.ValueKind.{ValueKind}
use Rattle.values.specs.declared.ValueKind.TheVariants.{Numbered, Register}
use Rattle.values.specs.Setup.{ValueIn, top_of, register_setup, kind_conditions, setup_conditions}
use Rattle.values.specs.SetupTests.{events_test, values_test, lines_test, kind_refusal, setup_refusal}
use Rattle.values.proofs.Setups.{events_first, values_first, setup_first, accepted_events}
use Rattle.machines.specs.{TableBytes.{machine_of}, TableRefusal.{table_refusal}}
use Rattle.machines.proofs.TableRefusals.{table_refusal_first, none_in_order, accepted_table}
use Rattle.text_output.specs.Output.{Puts}
use Rattle.text_output.proofs.Outputs.{puts_long, puts_again}
use Rattle.table_rows.specs.TableConditions.{count_conditions, rendering_conditions}
use Rattle.table_rows.specs.Rendering.{count_refusal, handed_refusal, rendering_refusal, Renders}
use Rattle.table_rows.specs.{Handed.{kind_of, values_of}, declared.{HandedKind.{HandedKind}, CountedValues.{CountedValues}}}
use Rattle.table_rows.specs.Claims.{RenderingClaim, FewEntries, RowsLengthClaim}
use Rattle.table_rows.proofs.Texts.{table_length}
use Rattle.std.specs.Prelude.{Err, Ok, Result}

-- ---- the judgement

count_first : (events : ℕ) (kind : ValueKind) (top : ℕ) → First (count_conditions events kind top) (count_refusal events kind top)
unfolding count_refusal
count_first events (Numbered values) top = first_append _ _ _ _ (events_first events) (values_first values top)
count_first events (Register lines) top = setup_first (register_setup events lines)

rendering_first : (events : ℕ) (kind : ValueKind) (top states : ℕ) (bytes text : List ℕ) (room : ℕ)
    → First (rendering_conditions events kind top states bytes text room) (rendering_refusal (handed_refusal events kind top states bytes) text room)
unfolding rendering_refusal handed_refusal
rendering_first events kind top states bytes text room =
    let c = count_refusal events kind top in
    let t = table_refusal table_limit events kind states 0 bytes in
    let b = plain_unless (leb (length text) room) BufferLength in
    subst (First (rendering_conditions events kind top states bytes text room)) (or_else_assoc c t b)
    (first_append _ _ c _ (count_first events kind top)
    (first_append _ _ t _ (table_refusal_first table_limit events kind states 0 bytes)
    (plain_first BufferLength (room < length text) (leb (length text) room)
    (λ f. leb-false (length text) room f)
    (λ f h. omega (arith, leb-true (length text) room f)))))

pub rendering_judged : RenderingClaim
unfolding setup_conditions kind_conditions condition_numbers right_places part_of order has_place
rendering_judged events (Numbered values) top states bytes text room =
    judged _ _ (rendering_first events (Numbered values) top states bytes text room) refl refl
rendering_judged events (Register lines) top states bytes text room =
    judged _ _ (rendering_first events (Register lines) top states bytes text room) refl refl

counts_events : (events : ℕ) (kind : ValueKind) (top : ℕ) → count_refusal events kind top ≡ none → events_test events ≡ true
unfolding count_refusal
counts_events events (Numbered values) top e = plain_none (events_test events) SetupEvents (or_else_none (plain_unless (events_test events) SetupEvents) _ e).0
counts_events events (Register lines) top e = accepted_events (register_setup events lines) e

module _ (events : ℕ) (kind : ValueKind) (top states : ℕ) (bytes : List ℕ) where
  -- what is known of a table that passed
  module _ (passed : handed_refusal events kind top states bytes ≡ none) where
    pub counts_passed : count_refusal events kind top ≡ none
    unfolding handed_refusal
    counts_passed = (or_else_none (count_refusal events kind top) _ passed).0

    table_passed : table_refusal table_limit events kind states 0 bytes ≡ none
    unfolding handed_refusal
    table_passed = (or_else_none (count_refusal events kind top) _ passed).1

    pub few_entries : FewEntries events states
    unfolding events_test
    few_entries =
        let few = counts_events events kind top counts_passed in
        record {
          some_events = leb-true 1 events (and_left (leb 1 events) (leb events event_limit) few);
          few_events = leb-true events event_limit (and_right (leb 1 events) (leb events event_limit) few);
          few_states = (none_in_order table_limit events kind states 0 bytes table_passed).few_states;
        }

    pub handed_runs : Runs events (ValueIn kind) (States states) (machine_of kind events bytes)
    handed_runs = (accepted_table table_limit events kind states 0 bytes table_passed).runs

  pub handed_none : count_refusal events kind top ≡ none → table_refusal table_limit events kind states 0 bytes ≡ none
      → handed_refusal events kind top states bytes ≡ none
  unfolding handed_refusal or_else
  handed_none c t = rw c t

  -- what the check refuses
  pub counts_refused : {r : Refusal} → count_refusal events kind top ≡ some r → handed_refusal events kind top states bytes ≡ some r
  unfolding handed_refusal or_else
  counts_refused e = rw e

  table_refused : {r : Refusal} → count_refusal events kind top ≡ none → table_refusal table_limit events kind states 0 bytes ≡ some r
      → handed_refusal events kind top states bytes ≡ some r
  unfolding handed_refusal or_else
  table_refused c t = rw (c, t)

-- what the tests of numbers say
pub bad_events : (events : ℕ) (kind : ValueKind) (top : ℕ) → events_test events ≡ false → count_refusal events kind top ≡ some SetupEvents
unfolding count_refusal setup_refusal or_else plain_unless
bad_events events (Numbered values) top e = rw e
bad_events events (Register lines) top e = rw e

module _ (events values top : ℕ) where
  pub bad_values : events_test events ≡ true → values_test values top ≡ false → count_refusal events (Numbered values) top ≡ some SetupValues
  unfolding count_refusal or_else plain_unless
  bad_values e v = rw (e, v)

  pub counts_none : events_test events ≡ true → values_test values top ≡ true → count_refusal events (Numbered values) top ≡ none
  unfolding count_refusal or_else plain_unless
  counts_none e v = rw (e, v)

module _ (events lines top : ℕ) where
  pub bad_lines : events_test events ≡ true → lines_test lines ≡ false → count_refusal events (Register lines) top ≡ some SetupLines
  unfolding count_refusal setup_refusal kind_refusal or_else plain_unless
  bad_lines e l = rw (e, l)

  pub lines_none : events_test events ≡ true → lines_test lines ≡ true → count_refusal events (Register lines) top ≡ none
  unfolding count_refusal setup_refusal kind_refusal or_else plain_unless
  lines_none e l = rw (e, l)

-- the answer of a check, from what it refuses
pub refused_as : {A : Type 0} {o : Option Refusal} {r : Refusal} (v : A) → o ≡ some r → Err r ≡ answered o v
unfolding answered
refused_as v e = rw e

pub accepted_as : {A : Type 0} {o : Option Refusal} {v w : A} → o ≡ none → v ≡ w → Ok w ≡ answered o v
unfolding answered
accepted_as e d = rw e (ap Ok (sym d))

-- The check of a table that is handed in: its counts give these values, and the table is judged with values of their kind.
module _ (events : ℕ) (kind : HandedKind) (top states : ℕ) (bytes : List ℕ) {counted : Result CountedValues Refusal} {v : CountedValues}
    {j : Result (Unit {0}) Refusal} (counts : counted ≡ answered (count_refusal events (kind_of kind) top) (values_of kind top)) (values_are : counted ≡ Ok v)
    (judged_as : j ≡ judgement (table_refusal table_limit events v.kind states 0 bytes)) where
  passed : (count_refusal events (kind_of kind) top ≡ none) × (values_of kind top ≡ v)
  passed = answered_accepted _ (values_of kind top) v (sym counts ∙ values_are)

  same_table : table_refusal table_limit events (kind_of kind) states 0 bytes ≡ table_refusal table_limit events v.kind states 0 bytes
  same_table = ap (λ (w : CountedValues). table_refusal table_limit events w.kind states 0 bytes) passed.1

  pub handed_refused : {r : Refusal} → j ≡ Err r → handed_refusal events (kind_of kind) top states bytes ≡ some r
  handed_refused {r} e = table_refused events (kind_of kind) top states bytes passed.0 (same_table ∙ judgement_refused _ r (sym judged_as ∙ e))

  pub handed_accepted : j ≡ Ok tt → handed_refusal events (kind_of kind) top states bytes ≡ none
  handed_accepted e = handed_none events (kind_of kind) top states bytes passed.0 (same_table ∙ judgement_accepted _ (sym judged_as ∙ e))

  pub kind_counted : v.kind ≡ kind_of kind
  kind_counted = ap (λ (w : CountedValues). w.kind) (sym passed.1)

  pub top_counted : v.top ≡ top_of (kind_of kind) top
  top_counted = ap (λ (w : CountedValues). w.top) (sym passed.1)

pub rows_length : RowsLengthClaim
rows_length events kind states bytes passed =
    table_length events kind 0 states _ (few_entries events kind 0 states bytes passed) (counts_passed events kind 0 states bytes passed)
    (handed_runs events kind 0 states bytes passed)

-- ---- the answer

-- the same refusal and the same text
pub renders_as : {o p : Option Refusal} {s u old new : List ℕ} {r : Result ℕ Refusal} → o ≡ p → s ≡ u → Renders o s old new r → Renders p u old new r
renders_as {o} {p} {s} {u} {old} {new} {r} e d h =
    subst (λ (z : List ℕ). Renders p z old new r) d (subst (λ (q : Option Refusal). Renders q s old new r) e h)

module _ (o : Option Refusal) (text old : List ℕ) where
  -- an answer that passes a refusal on
  pub renders_refused : {answer : Result ℕ Refusal} {r : Refusal} → answer ≡ Err r → o ≡ some r → Renders o text old old answer
  unfolding rendering_refusal or_else answered put_unless
  renders_refused passed e =
      record {
        answer = passed ∙ sym (ap (λ (x : Option Refusal). answered (rendering_refusal x text (length old)) (length text)) e);
        buffer = sym (ap (λ (x : Option Refusal). put_unless (rendering_refusal x text (length old)) text old) e);
      }

  -- nothing was refused before, and the text was put into another buffer, up to the offset n
  module _ {l l' : List ℕ} {n : ℕ} (e : o ≡ none) (w : Puts l text l' 0 n) where
    -- by the comparison of the lengths
    with_room : (b : Bool) → leb (length text) (length old) ≡ b → rendering_refusal o text (length old) ≡ plain_unless b BufferLength
    unfolding rendering_refusal or_else
    with_room b f = ap₂ (λ (x : Option Refusal) (y : Bool). or_else x (plain_unless y BufferLength)) e f

    pub renders_short : length old < n → Renders o text old old (Err BufferLength)
    unfolding plain_unless answered put_unless
    renders_short h =
        let r = with_room false (lt-leb (length text) (length old) (puts_long w old h)) in
        record {
          answer = sym (ap (λ (x : Option Refusal). answered x (length text)) r);
          buffer = sym (ap (λ (x : Option Refusal). put_unless x text old) r);
        }

    pub renders_all : {new : List ℕ} {q : ℕ} → n ≤ length old → Puts old text new 0 q → Renders o text old new (Ok n)
    unfolding plain_unless answered put_unless put
    renders_all h g =
        let p = puts_again w h g in
        let r = with_room true (le-leb (length text) (length old) p.1) in
        record {
          answer = ap Ok p.0.behind ∙ sym (ap (λ (x : Option Refusal). answered x (length text)) r);
          buffer = p.0.whole ∙ sym (ap (λ (x : Option Refusal). put_unless x text old) r);
        }
