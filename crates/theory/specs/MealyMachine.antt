-- Mealy machines, values on event sequences, and simulation (source 000, section 2, definition 1); the words on which one machine fails
-- against another (document 01, "Trial"). Document 01 calls a machine whose states are numbers a table, or a device where it is judged.
use mathlib.Core.{List.{List, [], ◌∷◌, ◌++◌}, Path.{◌≡◌}, Logic.{◌⊎◌, Lift}}
use Rattle.std.specs.Prelude.{ℕ, ◌<◌, zero, suc, length}
use Rattle.theory.specs.{ValueSets.{AtOrBelow}, Formula.{Formula, truth, variable, transition, output, conjunction, greatest}}

-- In each state, on each event, a value and a next state.
pub record Machine (S B : Type 0) : Type 0 where
  pub value : S → ℕ → B
  pub next : S → ℕ → S

-- An event sequence: every event is below the event count. The first event played stands first.
abbrev pub Word : ℕ → List ℕ → Type 0
Word events [] = Unit {0}
Word events (e ∷ w) = (e < events) × Word events w

-- The state that a sequence reaches.
abbrev pub after : {S B : Type 0} → Machine S B → S → List ℕ → S
after m s [] = s
after m s (e ∷ w) = after m (m.next s e) w

-- The states of a table are the numbers below n.
abbrev pub States : ℕ → ℕ → Type 0
States n s = s < n

-- The states of the machine are those of `State`: from each of them every event gives a value of the set and leads to one of them.
pub record Runs {S B : Type 0} (events : ℕ) (In : B → Type 0) (State : S → Type 0) (m : Machine S B) : Type 0 where
  pub value_in : (s : S) → State s → (e : ℕ) → e < events → In (m.value s e)
  pub next_in : (s : S) → State s → (e : ℕ) → e < events → State (m.next s e)

-- Definition 1, between the states `StateS` of m and the states `StateQ` of q.
module _ {B S Q : Type 0} (events : ℕ) (meet : B → B → B) (StateS : S → Type 0) (m : Machine S B) (StateQ : Q → Type 0) (q : Machine Q B) where
  abbrev pub IsSimulation : (S → Q → Type 0) → Type 0
  IsSimulation R = (s : S) (t : Q) → StateS s → StateQ t → R s t → (e : ℕ) → e < events →
      AtOrBelow meet (m.value s e) (q.value t e) × R (m.next s e) (q.next t e)

  -- s is simulated by t: some simulation holds between them.
  abbrev pub Simulated : S → Q → Type 1
  Simulated s t = (R : S → Q → Type 0) × IsSimulation R × R s t

-- "Every event sequence ends in equal values" (document 02, F-5): w, then e.
module _ {B S Q : Type 0} (events : ℕ) (m : Machine S B) (q : Machine Q B) where
  abbrev pub SameValues : S → Q → Type 0
  SameValues s t = (w : List ℕ) → Word events w → (e : ℕ) → e < events → m.value (after m s w) e ≡ q.value (after q t w) e

-- The order of event sequences (document 01, "Table of a rule"): shortest first, then the smaller at the first difference.
pub data Before : List ℕ → List ℕ → Type 0 where
  shorter : (v w : List ℕ) → length v < length w → Before v w
  smaller : (u v w : List ℕ) {a b : ℕ} → length v ≡ length w → a < b → Before (u ++ (a ∷ v)) (u ++ (b ∷ w))

abbrev pub NoLater : List ℕ → List ℕ → Type 0
NoLater v w = (v ≡ w) ⊎ Before v w

-- A word after whose last event the value of s is not at or below that of t.
module _ {B : Type 0} (events : ℕ) (meet : B → B → B) (m q : Machine ℕ B) (s t : ℕ) where
  pub record Counterexample (word : List ℕ) : Type 0 where
    pub events_of : Word events word
    pub before : List ℕ
    pub last : ℕ
    pub ends : word ≡ before ++ (last ∷ [])
    pub not_below : ¬ AtOrBelow meet (m.value (after m s before) last) (q.value (after q t before) last)

  -- The shortest, and among those the one with the smaller event at the first difference (document 02, F-1).
  pub record FirstCounterexample (word : List ℕ) : Type 0 where
    pub fails : Counterexample word
    pub first : (other : List ℕ) → Counterexample other → NoLater word other

-- A valuation with A for the innermost variable.
abbrev pub extend {κ} : {Set : Type κ} → Set → (ℕ → Set) → ℕ → Set
extend A η zero = A
extend A η (suc n) = η n

-- The set definition (document 01, "Trial"; source 000, section 3, second definition), which builds no table.
-- Sets of states are predicates: every machine, finite or not. T has all states; X the set put for its variable; G the states
-- whose next state on its event is in its part's set; O those whose value on its event is at or below its own; A what both
-- parts share; V the union of all sets that lie within its part's set when put for its variable: s is in that union when
-- some such set has it.
module _ {B S : Type 0} (meet : B → B → B) (State : S → Type 0) (m : Machine S B) where
  abbrev pub SatisfiesIn : (ℕ → S → Type 0) → Formula B → S → Type 1
  SatisfiesIn η truth s = Unit {1}
  SatisfiesIn η (variable n) s = Lift {0, 1} (η n s)
  SatisfiesIn η (transition e φ) s = SatisfiesIn η φ (m.next s e)
  SatisfiesIn η (output e b) s = Lift {0, 1} (AtOrBelow meet (m.value s e) b)
  SatisfiesIn η (conjunction φ χ) s = SatisfiesIn η φ s × SatisfiesIn η χ s
  SatisfiesIn η (greatest φ) s = (A : S → Type 0) × A s × ((t : S) → State t → A t → SatisfiesIn (extend A η) φ t)

  -- A closed formula, with the empty valuation.
  abbrev pub Satisfies : Formula B → S → Type 1
  Satisfies φ s = SatisfiesIn (λ n t. ⊥) φ s

-- "Implies means that every finite device satisfying the first satisfies the second, also one larger than a trial takes" (document 02,
-- F-14): a device of any number n of states, from any of them.
module _ {B : Type 0} (events : ℕ) (In : B → Type 0) (meet : B → B → B) where
  abbrev pub Implies : Formula B → Formula B → Type 1
  Implies φ χ = (n : ℕ) (m : Machine ℕ B) → Runs events In (States n) m → (start : ℕ) → start < n →
      Satisfies meet (States n) m φ start → Satisfies meet (States n) m χ start
