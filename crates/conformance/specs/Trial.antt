-- Document 01, "Trial", refusals 1 to 3, or 1 and 20, then 11 and 13: a device judged against a rule's table, both in bytes, over a set-up of
-- either kind.
use mathlib.Core.{Path.{◌≡◌}, Logic.{◌⊎◌}, Option.{Option, none, some}, List.{List, [], ◌∷◌, ◌++◌}}
use Rattle.std.specs.Prelude.{ℕ, zero, ◌*◌, ◌≤◌, ◌<◌, length, take, drop, Result, Ok, Err}
use Rattle.theory.specs.MealyMachine.{Machine, States, Simulated, SameValues, FirstCounterexample}
use Rattle.refusal.specs.{declared.Refusal.{Refusal}, Refusal.{Condition, plain}, declared.Refusal.TheVariants.{BufferLength, TableLimits}}
use Rattle.values.specs.Setup.{Setup, SetupValue, setup_meet, setup_conditions}
use Rattle.machines.specs.TableBytes.{entry_width, machine_of, TableInOrder}
use Rattle.conformance.specs.{declared.Verdict.{Verdict}, declared.Verdict.TheVariants.{Pass, Fail}, declared.Grade.{Grade}}

-- Handed in beside the word buffer: a set-up, the rule's table, which starts at state 0, with its state count, the device with its own and a start.
pub record TrialInput : Type 0 where
  pub set_up : Setup
  pub states : ℕ
  pub table : List ℕ
  pub device_states : ℕ
  pub device_start : ℕ
  pub device : List ℕ

unfoldable pub input : Setup → ℕ → List ℕ → ℕ → ℕ → List ℕ → TrialInput
input set_up states table device_states device_start device =
    record { set_up = set_up; states = states; table = table; device_states = device_states; device_start = device_start; device = device }

-- Both are read as machines over the set-up's events and values.
abbrev pub meet : TrialInput → ℕ → ℕ → ℕ
meet x = setup_meet x.set_up

abbrev pub device_machine : TrialInput → Machine ℕ ℕ
device_machine x = machine_of x.set_up.kind x.set_up.events x.device

abbrev pub table_machine : TrialInput → Machine ℕ ℕ
table_machine x = machine_of x.set_up.kind x.set_up.events x.table

-- "The device passes when the start is simulated (definition 1) by state 0 of the rule's table."
abbrev pub Passes : TrialInput → Type 1
Passes x = Simulated x.set_up.events (meet x) (States x.device_states) (device_machine x) (States x.states) (table_machine x)
    x.device_start zero

-- "Same is given exactly if every event sequence ends in equal values" (document 02, F-5), from the start and from state 0.
abbrev pub EndsSame : TrialInput → Type 0
EndsSame x = SameValues x.set_up.events (device_machine x) (table_machine x) x.device_start zero

-- "Otherwise the answer is a word .. after whose last event the device's value is not at or below the table's"; "the first" (document 02, F-1).
abbrev pub FirstFailure : TrialInput → List ℕ → Type 0
FirstFailure x = FirstCounterexample x.set_up.events (meet x) (device_machine x) (table_machine x) x.device_start zero

module _ (device_most table_most : ℕ) (x : TrialInput) (buffer : List ℕ) where
  -- 11 is one condition, "for a device or any other table handed in": each has its own limit of states.
  abbrev pub DeviceInOrder : Type 0
  DeviceInOrder = TableInOrder (entry_width x.set_up.kind) device_most x.set_up.events (SetupValue x.set_up) x.device_states x.device_start
      x.device (device_machine x)

  abbrev pub RuleTableInOrder : Type 0
  RuleTableInOrder = TableInOrder (entry_width x.set_up.kind) table_most x.set_up.events (SetupValue x.set_up) x.states zero x.table
      (table_machine x)

  -- What a trial is refused for, in document 01's order: the set-up's conditions, 11, and 13 for a buffer shorter than the longest word.
  unfoldable pub trial_conditions : List Condition
  trial_conditions = setup_conditions x.set_up
      ++ (plain TableLimits ((¬ DeviceInOrder) ⊎ (¬ RuleTableInOrder)) ∷ plain BufferLength (length buffer < device_most * table_most) ∷ [])

-- A failed trial: the front of the buffer holds the word, of at least one and "up to 16,384 events" (document 02, F-12), and the bytes after
-- it keep their contents. "It is then no longer free. The word's length is now fixed by the two tables as well" (F-1): every first word is
-- this one, and n its length.
pub record FailsBy (x : TrialInput) (longest : ℕ) (old new : List ℕ) (n : ℕ) : Type 1 where
  pub some_events : 1 ≤ n
  pub few_events : n ≤ longest
  pub word : FirstFailure x (take n new)
  pub only : (other : List ℕ) → FirstFailure x other → (take n new ≡ other) × (n ≡ length other)
  pub rest_kept : drop n new ≡ drop n old
  pub not_passed : ¬ Passes x

-- What a trial answers: a verdict, or the refusal.
abbrev pub Answer : Type 0
Answer = Result Verdict Refusal

-- What each answer says: that the device passed, as same or as stricter; the length of a failed trial's word. A refused one says neither.
abbrev pub Passed : Answer → Type 0
Passed (Ok (Pass passed_as)) = Unit {0}
Passed (Ok (Fail n)) = ⊥
Passed (Err refusal) = ⊥

abbrev pub grade : Answer → Option Grade
grade (Ok (Pass passed_as)) = some passed_as
grade (Ok (Fail n)) = none
grade (Err refusal) = none

abbrev pub word_length : Answer → Option ℕ
word_length (Ok (Pass passed_as)) = none
word_length (Ok (Fail n)) = some n
word_length (Err refusal) = none
