-- The theorems of this crate as propositions, for every meet-semilattice and every limit; proofs/Claims has a proof of each.
use mathlib.Core.{Path.{◌≡◌}, Bool.{Bool}, Logic.{◌↔◌, ◌⊎◌}, List.{List, []}, Option.{none, some}}
use Rattle.std.specs.Prelude.{ℕ, zero, suc, ◌+◌, ◌*◌, ◌≤◌, ◌<◌}
use lib.{Dec.{T}, ListN.{length}}
use Rattle.theory.specs.{ValueSets.{MeetSemilattice, AtOrBelow}, Formula.{Formula, transition, output, conjunction, size, Steps, Answers, Stands}}
use Rattle.theory.specs.FormulaClasses.{binders, Closed, ClosedPosition, Guarded, Fits, WellFormed}
use Rattle.theory.specs.MealyMachine.{Machine, Word, after, States, Runs, Simulated, SameValues, FirstCounterexample, Satisfies, Implies}
use Rattle.theory.specs.{MachineRuns.{SimulatedTable, BelowOnWords}, TableSatisfaction.{TableSatisfies}}
use Rattle.theory.specs.{ReachableStates.{NodeSet, IsSetMachine, Numbering, IsTable, IsTableOf, StatesAtMost}, CharacteristicFormula.{Writes}}
use Rattle.theory.specs.{FormulaWriting.{written}, ConformanceCheck.{counterexample}, Evaluation.{value, follower, formulas}}
use Rattle.theory.specs.{DemandSets.{set_machine, first_set}, Exploration.{state_count, table_of}}

-- Node d is a G or an O node: document 01's states are sets of such.
module _ {B : Type 0} (φ : Formula B) where
  abbrev pub IsTransitionOrOutput : ℕ → Type 0
  IsTransitionOrOutput d =
      ((bs : List ℕ) × (e : ℕ) × (ψ : Formula B) × Stands φ d bs (transition e ψ))
      ⊎ ((bs : List ℕ) × (e : ℕ) × (b : B) × Stands φ d bs (output e b))

-- The grammar's class lies in the wider guarded class.
abbrev pub GrammarClaim : Type 1
GrammarClaim = (B : Type 0) (φ : Formula B) → ClosedPosition φ → Guarded φ

-- For any carrier, meet and top: no law of meet is needed here.
module _ {B : Type 0} (In : B → Type 0) (meet : B → B → B) (top : B) (events : ℕ) where
  -- Each well-formed formula has one value and one follower on each event, which are the computed ones, and the follower is
  -- well-formed again.
  abbrev pub SemanticsClaim : Type 0
  SemanticsClaim =
      (φ : Formula B) → WellFormed events In φ → (e : ℕ) →
      Steps meet top e φ (value meet top e φ) (follower meet top e φ)
      × WellFormed events In (follower meet top e φ)
      × ((b : B) (ψ : Formula B) → Steps meet top e φ b ψ → (b ≡ value meet top e φ) × (ψ ≡ follower meet top e φ))

  -- So has it on each event sequence.
  abbrev pub AnswersClaim : Type 0
  AnswersClaim =
      (φ : Formula B) → WellFormed events In φ → (w : List ℕ) (e : ℕ) (b : B) →
      Answers meet top φ w e b ↔ (b ≡ value meet top e (after (formulas meet top) φ w))

  -- On each event sequence the value of a conjunction is the meet of the two values.
  abbrev pub ConjunctionClaim : Type 0
  ConjunctionClaim =
      (φ χ : Formula B) → WellFormed events In φ → WellFormed events In χ → (w : List ℕ) (e : ℕ) (b c : B) →
      Answers meet top φ w e b → Answers meet top χ w e c → Answers meet top (conjunction φ χ) w e (meet b c)

  -- Simulation (definition 1) is being at or below on every event sequence.
  abbrev pub SimulationClaim : Type 1
  SimulationClaim =
      (S Q : Type 0) (StateS : S → Type 0) (m : Machine S B) (StateQ : Q → Type 0) (q : Machine Q B) →
      Runs events In StateS m → Runs events In StateQ q → (s : S) (t : Q) → StateS s → StateQ t →
      Simulated events meet StateS m StateQ q s t ↔ BelowOnWords events meet m q s t

  -- A machine's states are numbered in one way only, and so its table is the only one.
  abbrev pub NumberingClaim : Type 1
  NumberingClaim =
      (S : Type 0) (m : Machine S B) (start : S) →
      ((U W : List (List ℕ)) → Numbering events m start U → Numbering events m start W → U ≡ W)
      × ((n k : ℕ) (t u : Machine ℕ B) → IsTable events m start n t → IsTable events m start k u →
      (n ≡ k) × ((l e : ℕ) → l < n → e < events → (t.value l e ≡ u.value l e) × (t.next l e ≡ u.next l e)))

  -- Between tables, definition 1 with decided relations is definition 1.
  abbrev pub TableSimulationClaim : Type 1
  TableSimulationClaim =
      (at_or_below : B → B → Bool) → ((b c : B) → T (at_or_below b c) ↔ AtOrBelow meet b c) →
      (n : ℕ) (m : Machine ℕ B) (k : ℕ) (q : Machine ℕ B) → Runs events In (States n) m → Runs events In (States k) q →
      (s t : ℕ) → s < n → t < k →
      SimulatedTable events meet n m k q s t ↔ Simulated events meet (States n) m (States k) q s t

  -- The computed machine of sets is document 01's, and the only one; the sets that it reaches are sets of G and O nodes.
  abbrev pub DemandClaim : Type 0
  DemandClaim =
      (φ : Formula B) → WellFormed events In φ →
      IsSetMachine meet top φ (set_machine meet top φ) (first_set φ)
      × ((m : Machine NodeSet B) (first : NodeSet) → IsSetMachine meet top φ m first →
      (m ≡ set_machine meet top φ) × (first ≡ first_set φ))
      × ((w : List ℕ) (d : ℕ) → T (after (set_machine meet top φ) (first_set φ) w d) → IsTransitionOrOutput φ d)

  -- The computed table is the formula's where at most `limit` states are reached, and the count tells where more are.
  abbrev pub TableClaim : Type 0
  TableClaim =
      (φ : Formula B) → WellFormed events In φ → (width limit : ℕ) → size φ ≤ width →
      ((state_count width meet top φ events limit ≤ limit) ↔ StatesAtMost meet top events φ limit)
      × (state_count width meet top φ events limit ≤ limit →
      IsTableOf meet top events φ (state_count width meet top φ events limit) (table_of width meet top φ events limit))

  -- The check of one table against another: no word is found exactly where the start is simulated by definition 1; a word that
  -- is found is the first of all counterexamples, and has at most n × k events.
  abbrev pub ConformanceClaim : Type 0
  ConformanceClaim =
      (at_or_below : B → B → Bool) → ((b c : B) → T (at_or_below b c) ↔ AtOrBelow meet b c) →
      (n : ℕ) (m : Machine ℕ B) (k : ℕ) (q : Machine ℕ B) → Runs events In (States n) m → Runs events In (States k) q →
      (s t : ℕ) → s < n → t < k →
      ((counterexample at_or_below m q events n k s t ≡ none) ↔ SimulatedTable events meet n m k q s t)
      × ((word : List ℕ) → counterexample at_or_below m q events n k s t ≡ some word →
      FirstCounterexample events meet m q s t word × (0 < length word) × (length word ≤ n * k))

  -- There is one first counterexample at most: it is fixed by the two machines, and its length with it (document 02, F-1).
  abbrev pub OneFirstWordClaim : Type 0
  OneFirstWordClaim =
      (m q : Machine ℕ B) (s t : ℕ) (v w : List ℕ) → FirstCounterexample events meet m q s t v → FirstCounterexample events meet m q s t w → v ≡ w

  -- The same check with equality: no word is found exactly where every event sequence ends in equal values (document 02, F-5).
  abbrev pub SameValuesClaim : Type 0
  SameValuesClaim =
      (equal : B → B → Bool) → ((b c : B) → T (equal b c) ↔ (b ≡ c)) →
      (n : ℕ) (m : Machine ℕ B) (k : ℕ) (q : Machine ℕ B) → Runs events In (States n) m → Runs events In (States k) q →
      (s t : ℕ) → s < n → t < k →
      (counterexample equal m q events n k s t ≡ none) ↔ SameValues events m q s t

-- For any value set that obeys the laws.
module _ {B : Type 0} (In : B → Type 0) (meet : B → B → B) (top : B) (laws : MeetSemilattice In meet top) (events : ℕ) where
  -- A state satisfies a formula by the set definition exactly if the formula simulates it, for every machine.
  abbrev pub SatisfactionClaim : Type 1
  SatisfactionClaim =
      (S : Type 0) (State : S → Type 0) (m : Machine S B) → Runs events In State m →
      (φ : Formula B) → WellFormed events In φ → (s : S) → State s →
      Satisfies meet State m φ s ↔ Simulated events meet State m (WellFormed events In) (formulas meet top) s φ

  -- Over a table of n states, the set definition with decided sets is the set definition.
  abbrev pub TableSatisfactionClaim : Type 1
  TableSatisfactionClaim =
      (at_or_below : B → B → Bool) → ((b c : B) → T (at_or_below b c) ↔ AtOrBelow meet b c) →
      (n : ℕ) (m : Machine ℕ B) → Runs events In (States n) m → (φ : Formula B) → WellFormed events In φ →
      (s : ℕ) → s < n → TableSatisfies meet n m φ s ↔ Satisfies meet (States n) m φ s

  -- The machine of demand sets has the formula's values on every event sequence.
  abbrev pub DemandValuesClaim : Type 0
  DemandValuesClaim =
      (φ : Formula B) → WellFormed events In φ → (m : Machine NodeSet B) (first : NodeSet) → IsSetMachine meet top φ m first →
      (w : List ℕ) (e : ℕ) → Answers meet top φ w e (m.value (after m first w) e)

  -- The table of a formula has the formula's values on every event sequence, and its entries are states and values.
  abbrev pub TableValuesClaim : Type 0
  TableValuesClaim =
      (φ : Formula B) → WellFormed events In φ → (n : ℕ) (t : Machine ℕ B) → IsTableOf meet top events φ n t →
      (0 < n) × Runs events In (States n) t
      × ((w : List ℕ) → Word events w → (e : ℕ) → e < events → Answers meet top φ w e (t.value (after t zero w) e))

  -- A table of n states has one written formula for each start. It is closed, of the grammar and within the set-up, and it has the
  -- start's values on every event sequence. Its size: each V node brings four nodes an event, itself counted in, and each part of
  -- its G nodes is an inner V or an X; so size + binders is 1 + 5 × events × binders. Its own table has one state for each V node.
  abbrev pub CharacteristicClaim : Type 0
  CharacteristicClaim =
      (n last : ℕ) (m : Machine ℕ B) → events ≡ suc last → Runs events In (States n) m → (s : ℕ) → s < n →
      Writes m events [] s (written m n last s)
      × ((φ : Formula B) → Writes m events [] s φ → φ ≡ written m n last s)
      × Closed (written m n last s) × ClosedPosition (written m n last s) × Fits events In (written m n last s)
      × ((w : List ℕ) → Word events w → (e : ℕ) → e < events →
      Answers meet top (written m n last s) w e (m.value (after m s w) e))
      × (size (written m n last s) + binders (written m n last s) ≡ suc (5 * (events * binders (written m n last s))))
      × ((k : ℕ) (t : Machine ℕ B) → IsTableOf meet top events (written m n last s) k t → k ≡ binders (written m n last s))
      × StatesAtMost meet top events (written m n last s) (binders (written m n last s))

  -- A device of n states passes against the table of a formula exactly if its start satisfies the formula by the set definition.
  abbrev pub TrialClaim : Type 0
  TrialClaim =
      (at_or_below : B → B → Bool) → ((b c : B) → T (at_or_below b c) ↔ AtOrBelow meet b c) →
      (φ : Formula B) → WellFormed events In φ → (k : ℕ) (q : Machine ℕ B) → IsTableOf meet top events φ k q →
      (n : ℕ) (m : Machine ℕ B) → Runs events In (States n) m → (s : ℕ) → s < n →
      (counterexample at_or_below m q events n k s zero ≡ none) ↔ TableSatisfies meet n m φ s

  -- A formula with a table implies another, which may have none, exactly if its table from state 0 satisfies the other (document 02, F-14).
  abbrev pub ImplicationClaim : Type 1
  ImplicationClaim =
      (φ χ : Formula B) → WellFormed events In φ → WellFormed events In χ → (n : ℕ) (m : Machine ℕ B) → IsTableOf meet top events φ n m →
      Satisfies meet (States n) m χ zero ↔ Implies events In meet φ χ
