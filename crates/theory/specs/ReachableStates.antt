-- Document 01, "Table of a rule": demands, the sets of nodes that are states, and the reached states, numbered by their first sequence.
use mathlib.Core.{Path.{◌≡◌}, Logic.{◌↔◌}, Bool.{Bool, ◌&&◌, cond}, List.{List, [], ◌∷◌}}
use Rattle.std.specs.Prelude.{ℕ, zero, suc, ◌+◌, ◌<◌, ◌≤◌}
use lib.{Dec.{T, eqb}, ListN.{length, get_or}}
use Rattle.theory.specs.Formula.{Formula, variable, transition, output, conjunction, greatest, size, Node, truth_node, variable_node, transition_node}
use Rattle.theory.specs.Formula.{output_node, conjunction_node, greatest_node, nodes, Stands}
use Rattle.theory.specs.MealyMachine.{Machine, Word, after, Before, NoLater}

-- A set of node numbers.
abbrev pub NodeSet : Type 0
NodeSet = ℕ → Bool

module _ {B : Type 0} (φ : Formula B) where
  -- `Demands i d`: node i demands node d. T none; G and O themselves; A those of both parts; V those of its part; X those of its binder.
  pub data Demands : ℕ → ℕ → Type 0 where
    of_transition : {i : ℕ} {bs : List ℕ} {e : ℕ} {ψ : Formula B} → Stands φ i bs (transition e ψ) → Demands i i
    of_output : {i : ℕ} {bs : List ℕ} {e : ℕ} {b : B} → Stands φ i bs (output e b) → Demands i i
    of_left : {i d : ℕ} {bs : List ℕ} {ψ χ : Formula B} → Stands φ i bs (conjunction ψ χ) → Demands (suc i) d → Demands i d
    of_right : {i d : ℕ} {bs : List ℕ} {ψ χ : Formula B} → Stands φ i bs (conjunction ψ χ) → Demands (suc i + size ψ) d → Demands i d
    of_greatest : {i d : ℕ} {bs : List ℕ} {ψ : Formula B} → Stands φ i bs (greatest ψ) → Demands (suc i) d → Demands i d
    of_variable : {i d n : ℕ} {bs : List ℕ} → Stands φ i bs (variable n) → n < length bs → Demands (get_or bs n zero) d → Demands i d

  -- The next state of D on e is the union of the demands of the parts of its G nodes for e.
  abbrev pub InNextSet : NodeSet → ℕ → ℕ → Type 0
  InNextSet D e d = (i : ℕ) × (bs : List ℕ) × (ψ : Formula B) × T (D i) × Stands φ i bs (transition e ψ) × Demands (suc i) d

module _ {B : Type 0} where
  -- The values of the O nodes of D for e, in node order; the first node of the list is node i.
  abbrev pub outputs : NodeSet → ℕ → ℕ → List (Node B) → List B
  outputs D e i [] = []
  outputs D e i (truth_node ∷ ns) = outputs D e (suc i) ns
  outputs D e i (variable_node n ∷ ns) = outputs D e (suc i) ns
  outputs D e i (transition_node a ∷ ns) = outputs D e (suc i) ns
  outputs D e i (output_node a b ∷ ns) = cond (D i && eqb a e) (b ∷ outputs D e (suc i) ns) (outputs D e (suc i) ns)
  outputs D e i (conjunction_node ∷ ns) = outputs D e (suc i) ns
  outputs D e i (greatest_node ∷ ns) = outputs D e (suc i) ns

  module _ (meet : B → B → B) (top : B) where
    -- The meet of a list of values, top if there is none.
    abbrev pub meet_all : List B → B
    meet_all [] = top
    meet_all (b ∷ bs) = meet b (meet_all bs)

    -- On an event, the value of D is the meet of the O values for that event.
    abbrev pub value_of_set : Formula B → NodeSet → ℕ → B
    value_of_set φ D e = meet_all (outputs D e zero (nodes φ))

    -- The machine whose states are sets of nodes, with its state 0.
    pub record IsSetMachine (φ : Formula B) (m : Machine NodeSet B) (first : NodeSet) : Type 0 where
      -- state 0 is the root's demands
      pub first_set : (d : ℕ) → T (first d) ↔ Demands φ zero d
      pub next_set : (D : NodeSet) (e d : ℕ) → T (m.next D e d) ↔ InNextSet φ D e d
      pub value : (D : NodeSet) (e : ℕ) → m.value D e ≡ value_of_set φ D e

module _ {S B : Type 0} (events : ℕ) (m : Machine S B) (start : S) where
  -- The state that entry l of the list reaches.
  abbrev pub state_at : List (List ℕ) → ℕ → S
  state_at W l = after m start (get_or W l [])

  -- W has the first sequence to each state that is reached, in order: state l is the one that entry l reaches.
  pub record Numbering (W : List (List ℕ)) : Type 0 where
    pub words : (l : ℕ) → l < length W → Word events (get_or W l [])
    pub rising : (j l : ℕ) → j < l → l < length W → Before (get_or W j []) (get_or W l [])
    pub different : (j l : ℕ) → j < l → l < length W → ¬ (state_at W j ≡ state_at W l)
    pub complete : (w : List ℕ) → Word events w → (l : ℕ) × (l < length W) × (state_at W l ≡ after m start w) × NoLater (get_or W l []) w

  -- At most so many states are reached.
  abbrev pub ReachesAtMost : ℕ → Type 0
  ReachesAtMost limit = (W : List (List ℕ)) × Numbering W × (length W ≤ limit)

  -- t is the machine's table of n numbered states.
  pub record IsTable (n : ℕ) (t : Machine ℕ B) : Type 0 where
    pub sequences : List (List ℕ)
    pub numbering : Numbering sequences
    pub count : length sequences ≡ n
    pub values : (l e : ℕ) → l < n → e < events → t.value l e ≡ m.value (state_at sequences l) e
    pub nexts : (l e : ℕ) → l < n → e < events → (t.next l e < n) × (state_at sequences (t.next l e) ≡ m.next (state_at sequences l) e)

-- The table of a formula: of its machine of node sets, from the root's demands.
module _ {B : Type 0} (meet : B → B → B) (top : B) (events : ℕ) (φ : Formula B) where
  abbrev pub IsTableOf : ℕ → Machine ℕ B → Type 0
  IsTableOf n t = (m : Machine NodeSet B) × (first : NodeSet) × IsSetMachine meet top φ m first × IsTable events m first n t

  -- Refusal 10 is given where this does not hold of the limit.
  abbrev pub StatesAtMost : ℕ → Type 0
  StatesAtMost limit = (m : Machine NodeSet B) × (first : NodeSet) × IsSetMachine meet top φ m first × ReachesAtMost events m first limit
