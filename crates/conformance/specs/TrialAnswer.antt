-- Twin of Trial, pinned by product_claims DemandThree.
-- A trial, computed: its refusal, its answer (how it passes: product_claims Requests), and what the word buffer holds afterwards.
use mathlib.Core.{Bool.{Bool, true, false}, Option.{Option, none, some}, List.{List}}
use Rattle.std.specs.Prelude.{ℕ, zero, ◌*◌}
use lib.{Dec.{eqb, leb}, ListN.{length}}
use Rattle.theory.specs.ConformanceCheck.{is_none, counterexample}
use Rattle.refusal.specs.{declared.Refusal.{Refusal}, RefusalAnswers.{or_else, plain_unless, answered}, Refusal.{put}}
use Rattle.values.specs.{declared.ValueKind.{ValueKind}, SetupTests.{setup_refusal}, ValueTests.{at_or_below}}
use Rattle.machines.specs.TableRefusal.{table_refusal}
use Rattle.conformance.specs.{declared.Verdict.{Verdict}, declared.Verdict.TheVariants.{Pass, Fail}}
use Rattle.conformance.specs.{declared.Grade.{Grade}, declared.Grade.TheVariants.{Same, Stricter}}
use Rattle.conformance.specs.Trial.{TrialInput, Answer, device_machine, table_machine}
use Rattle.refusal.specs.declared.Refusal.TheVariants.{BufferLength}

abbrev pub below : TrialInput → ℕ → ℕ → Bool
below x = at_or_below x.set_up.kind x.set_up.meet

-- 11 computed, for the device and then for the table.
unfoldable pub tables_refusal : (device_most table_most events : ℕ) → ValueKind → ℕ → List ℕ → ℕ → ℕ → List ℕ → Option Refusal
tables_refusal device_most table_most events kind states table device_states device_start device =
    or_else (table_refusal device_most events kind device_states device_start device) (table_refusal table_most events kind states zero table)

module _ (device_most table_most : ℕ) (x : TrialInput) (buffer : List ℕ) where
  -- 11 and 13, where the set-up is accepted.
  unfoldable pub handed_refusal : Option Refusal
  handed_refusal =
      or_else
      (tables_refusal device_most table_most x.set_up.events x.set_up.kind x.states x.table x.device_states x.device_start x.device)
      (plain_unless (leb (device_most * table_most) (length buffer)) BufferLength)

  unfoldable pub trial_refusal : Option Refusal
  trial_refusal = or_else (setup_refusal x.set_up) handed_refusal

-- The first word on which the device fails, the only one (document 02, F-1), or none; the computing twin of `Passes` and `FirstFailure`.
unfoldable pub first_failure : TrialInput → Option (List ℕ)
first_failure x =
    counterexample (below x) (device_machine x) (table_machine x)
    x.set_up.events x.device_states x.states x.device_start zero

-- Whether no word ends in different values; the computing twin of `EndsSame`.
unfoldable pub ends_same : TrialInput → Bool
ends_same x =
    is_none (counterexample eqb (device_machine x) (table_machine x)
    x.set_up.events x.device_states x.states x.device_start zero)

unfoldable pub grade_of : Bool → Grade
grade_of true = Same
grade_of false = Stricter

-- The verdict for a word or none, and the buffer after it: a word is put over the front, and the bytes after it keep their
-- contents.
unfoldable pub outcome : Option (List ℕ) → Bool → Verdict
outcome none same = Pass (grade_of same)
outcome (some word) same = Fail (length word)

unfoldable pub found_answer : TrialInput → Verdict
found_answer x = outcome (first_failure x) (ends_same x)

unfoldable pub shown : Option (List ℕ) → List ℕ → List ℕ
shown none old = old
shown (some word) old = put word old

-- A refusal leaves the buffer as it was.
unfoldable pub buffer_unless : Option Refusal → Option (List ℕ) → List ℕ → List ℕ
buffer_unless none found old = shown found old
buffer_unless (some refusal) found old = old

-- What a trial answers, and what the word buffer holds afterwards.
unfoldable pub trial_answer : ℕ → ℕ → TrialInput → List ℕ → Answer
trial_answer device_most table_most x old = answered (trial_refusal device_most table_most x old) (found_answer x)

unfoldable pub trial_buffer : ℕ → ℕ → TrialInput → List ℕ → List ℕ
trial_buffer device_most table_most x old = buffer_unless (trial_refusal device_most table_most x old) (first_failure x) old
