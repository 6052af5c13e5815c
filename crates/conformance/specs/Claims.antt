-- What is claimed of a trial (document 01, "Trial"), for every limit on the device's and the table's states; proofs/TrialClaims has a
-- proof of each.
use mathlib.Core.{Path.{◌≡◌}, Logic.{◌↔◌, ◌⊎◌}, List.{List}, Option.{none, some}}
use Rattle.std.specs.Prelude.{ℕ, ◌*◌, ◌<◌, zero}
use Rattle.theory.specs.{ValueSets.{AtOrBelow}, Formula.{Formula}, FormulaClasses.{WellFormed}, TableSatisfaction.{TableSatisfies}}
use Rattle.theory.specs.{ReachableStates.{IsTableOf}, MachineRuns.{SimulatedTable}}
use Rattle.refusal.specs.{declared.Refusal.{Refusal}, Refusal.{Judged, refusal_of}}
use Rattle.values.specs.Setup.{SetupValue, setup_top}
use Rattle.conformance.specs.declared.Grade.TheVariants.{Same, Stricter}
use Rattle.conformance.specs.Trial.{TrialInput, Answer, meet, device_machine, table_machine, Passes, EndsSame, FailsBy, trial_conditions, Passed}
use Rattle.conformance.specs.Trial.{grade, word_length}
use Rattle.conformance.specs.TrialAnswer.{trial_refusal, trial_answer, trial_buffer}

-- Definition 1 with decided relations: the same over tables (theory's `TableSimulationClaim`).
abbrev pub PassesDecided : TrialInput → Type 0
PassesDecided x =
    SimulatedTable x.set_up.events (meet x) x.device_states (device_machine x) x.states (table_machine x) x.device_start zero

-- The two passes together are the old pass (document 02, F-5).
abbrev pub TwoPassesClaim : Type 0
TwoPassesClaim = (answer : Answer) → Passed answer ↔ ((grade answer ≡ some Same) ⊎ (grade answer ≡ some Stricter))

-- A trial is judged as document 01 asks; its conditions stand in the order, 11 once for both tables.
module _ (device_most table_most : ℕ) where
  abbrev pub TrialRefusalClaim : Type 0
  TrialRefusalClaim =
      (x : TrialInput) (old : List ℕ) → Judged (trial_conditions device_most table_most x old) (trial_refusal device_most table_most x old)

  -- Its answer is that refusal, and a refused trial leaves the buffer.
  pub record TrialRefusedClaim : Type 0 where
    pub answer :
        (x : TrialInput) (old : List ℕ) → refusal_of (trial_answer device_most table_most x old) ≡ trial_refusal device_most table_most x old
    pub kept :
        (x : TrialInput) (old : List ℕ) (refusal : Refusal) → refusal_of (trial_answer device_most table_most x old) ≡ some refusal →
        trial_buffer device_most table_most x old ≡ old

  -- An accepted trial passes exactly if the device's start is simulated (definition 1) by state 0 of the rule's table; the buffer
  -- keeps its contents.
  pub record PassClaim : Type 0 where
    pub exactly :
        (x : TrialInput) (old : List ℕ) → trial_refusal device_most table_most x old ≡ none →
        Passed (trial_answer device_most table_most x old) ↔ PassesDecided x
    pub kept :
        (x : TrialInput) (old : List ℕ) → Passed (trial_answer device_most table_most x old) → trial_buffer device_most table_most x old ≡ old

  -- An accepted trial passes as same exactly if every event sequence ends in equal values, and as stricter where it passes otherwise
  -- (document 02, F-5).
  pub record GradeClaim : Type 1 where
    pub same :
        (x : TrialInput) (old : List ℕ) → trial_refusal device_most table_most x old ≡ none →
        (grade (trial_answer device_most table_most x old) ≡ some Same) ↔ EndsSame x
    pub stricter :
        (x : TrialInput) (old : List ℕ) → trial_refusal device_most table_most x old ≡ none →
        (grade (trial_answer device_most table_most x old) ≡ some Stricter) ↔ (Passes x × ¬ EndsSame x)

  -- A failed trial shows the first word after whose last event the device's value is not at or below the table's, and no other: at least
  -- one event, and no more than there are pairs of states.
  abbrev pub FailClaim : Type 1
  FailClaim =
      (x : TrialInput) (old : List ℕ) (n : ℕ) → word_length (trial_answer device_most table_most x old) ≡ some n →
      FailsBy x (device_most * table_most) old (trial_buffer device_most table_most x old) n

  -- Against the table of a well-formed formula, an accepted trial passes exactly if the device's start satisfies the formula by the
  -- set definition, which builds no table.
  abbrev pub TrialSatisfactionClaim : Type 0
  TrialSatisfactionClaim =
      (x : TrialInput) (old : List ℕ) → trial_refusal device_most table_most x old ≡ none →
      (φ : Formula ℕ) → WellFormed x.set_up.events (SetupValue x.set_up) φ →
      IsTableOf (meet x) (setup_top x.set_up) x.set_up.events φ x.states (table_machine x) →
      Passed (trial_answer device_most table_most x old) ↔ TableSatisfies (meet x) x.device_states (device_machine x) φ x.device_start

  -- Case 12, "passes every rule": a device whose every value is at or below all values passes.
  abbrev pub LowestPassesClaim : Type 0
  LowestPassesClaim =
      (x : TrialInput) (old : List ℕ) → trial_refusal device_most table_most x old ≡ none →
      ((s e b : ℕ) → s < x.device_states → e < x.set_up.events → SetupValue x.set_up b →
      AtOrBelow (meet x) ((device_machine x).value s e) b) →
      Passed (trial_answer device_most table_most x old)
