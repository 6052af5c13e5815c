-- What the parts of the walk over a table promise: nodes appended to a list up to the limit, and the path of open states.
use mathlib.Core.{Path.{◌≡◌}, List.{List, ◌++◌}}
use Rattle.std.specs.Prelude.{ℕ, ◌+◌, ◌*◌, ◌-◌, ◌≤◌, ◌<◌, max, length, get_or, take, Option, None, Some, option_map, Result}
use Rattle.limits.specs.Limits.{table_limit, node_limit}
use Rattle.theory.specs.MealyMachine.{Machine as MealyMachine}
use Rattle.theory.specs.{Formula.{Formula, size, Node, nodes}, BinderDepth.{binder_depth}, CharacteristicFormula.{OpenAt, Writes, Rows}}
use Rattle.theory.specs.Formula.{variable_node, transition_node, output_node, conjunction_node, greatest_node}
use Rattle.refusal.specs.{RefusalAnswers.{answered, put_unless}}
use Rattle.refusal.specs.declared.Refusal.{Refusal}
use Rattle.values.specs.declared.ValueKind.{ValueKind}
use Rattle.formulas.specs.{NodeCode.{first_field, value_field}, RuleConditions.{encode_all, encode_formula, node_width, node_bytes}}
use Rattle.machines.specs.{TableBytes.{machine_of}, Claims.{OfBytes}}
use Rattle.characteristic.specs.{RuleOfTable.{IsRuleOf}, RuleWriting.{output_refusal}}
use Rattle.characteristic.specs.declared.{machine.Machine.{Machine}, nodes.NodeList.{NodeList}, path.Path.{Path as OpenStates}}
use Rattle.characteristic.specs.declared.nodes.Node.{Node as WrittenNode}
use Rattle.characteristic.specs.declared.nodes.Node.TheVariants.{Variable, Transition, Output, Conjunction, Greatest}

-- The machine of a table that is read.
abbrev pub mealy_of : Machine → MealyMachine ℕ ℕ
mealy_of m = machine_of m.kind m.events m.entries.now

-- The node that is appended.
abbrev pub node_of : WrittenNode → Node ℕ
node_of (Variable binders) = variable_node binders
node_of (Transition event) = transition_node event
node_of (Output event value) = output_node event value
node_of Conjunction = conjunction_node
node_of Greatest = greatest_node

-- Its fields fit the bytes of a node.
abbrev pub FitsBytes : ValueKind → Node ℕ → Type 0
FitsBytes kind n = (first_field n < 256) × OfBytes kind (value_field n)

-- So many nodes at the front of bytes.
pub record Listing : Type 0 where
  pub kind : ValueKind
  pub bytes : List ℕ
  pub count : ℕ

-- The first nodes of a list.
abbrev pub first_nodes : NodeList → ℕ → Listing
first_nodes l n = record { kind = l.kind; bytes = l.bytes; count = n }

-- All its nodes.
abbrev pub all_nodes : NodeList → Listing
all_nodes l = first_nodes l l.count

-- The bytes of the nodes.
abbrev pub listed : Listing → List ℕ
listed l = take (l.count * node_width l.kind) l.bytes

-- Nodes are appended.
pub record Appended (ns : List (Node ℕ)) (before after : Listing) : Type 0 where
  pub same_kind : after.kind ≡ before.kind
  pub count_is : after.count ≡ before.count + length ns
  pub bytes_are : listed after ≡ listed before ++ encode_all (node_bytes before.kind) ns

-- Nodes are appended, with the count told, or there are too many.
pub record Appends (ns : List (Node ℕ)) (before : Listing) (after : NodeList) (r : Option ℕ) : Type 0 where
  pub appended : (n : ℕ) → r ≡ Some n → Appended ns before (first_nodes after n)
  pub few : (n : ℕ) → r ≡ Some n → n ≤ node_limit
  pub too_many : r ≡ None → node_limit < before.count + length ns

-- These states are open, the innermost first: of each open state the array has how many were open with it when it was opened.
pub record IsPath (depth : ℕ) (opened : List (Option ℕ)) (states : List ℕ) : Type 0 where
  pub inside : (s d : ℕ) → get_or opened s None ≡ Some d → (0 < d) × (d ≤ depth)
  pub open_there : (s d : ℕ) → get_or opened s None ≡ Some d → OpenAt s states (depth - d)
  pub not_open : (s : ℕ) → get_or opened s None ≡ None → (i : ℕ) → ¬ OpenAt s states i

-- How many states were opened after a state, if it is open.
abbrev pub place_of : OpenStates → ℕ → Option ℕ
place_of p s = option_map (λ d. p.depth - d) (get_or p.opened s None)

-- Some states are open.
pub record Held (p : OpenStates) : Type 0 where
  pub states : List ℕ
  pub is_path : IsPath p.depth p.opened states

-- What the walk asks: values of the machine's kind, a path no longer than the nodes, no more of these than a rule may have, and a
-- state that indexes the table.
pub record Ready (m : Machine) (state : ℕ) (p : OpenStates) (l : Listing) : Type 0 where
  pub same_kind : l.kind ≡ m.kind
  pub held : Held p
  pub shallow : p.depth ≤ l.count
  pub few : l.count ≤ node_limit
  pub small_state : state < table_limit

-- A formula for each path of open states.
module _ (Of : List ℕ → Formula ℕ → Type 0) (p p_after : OpenStates) (l : Listing) where
  -- The nodes of each formula that is the one to be written below the open path are appended, the path is as it was, and the
  -- longest path of open states so far is kept.
  pub record Walked (l_after : Listing) : Type 0 where
    pub same_kind : l_after.kind ≡ l.kind
    pub rises : l.count ≤ l_after.count
    pub same_opened : p_after.opened ≡ p.opened
    pub same_depth : p_after.depth ≡ p.depth
    pub longer : p.longest ≤ p_after.longest
    pub longest_is :
        (states : List ℕ) → IsPath p.depth p.opened states → (φ : Formula ℕ) → Of states φ
        → p_after.longest ≡ max p.longest (p.depth + binder_depth φ)
    pub written : (states : List ℕ) → IsPath p.depth p.opened states → (φ : Formula ℕ) → Of states φ → Appended (nodes φ) l l_after

  -- Each such formula has too many nodes.
  abbrev pub Outgrown : Type 0
  Outgrown = (states : List ℕ) → IsPath p.depth p.opened states → (φ : Formula ℕ) → Of states φ → node_limit < l.count + size φ

  -- What the walk yields: the count is told, or kept in the list.
  pub record Counts (after : NodeList) (r : Option ℕ) : Type 0 where
    pub walked : (n : ℕ) → r ≡ Some n → Walked (first_nodes after n)
    pub few : (n : ℕ) → r ≡ Some n → n ≤ node_limit
    pub too_many : r ≡ None → Outgrown

  pub record Walks (after : NodeList) (r : Option (Unit {0})) : Type 0 where
    pub walked : r ≡ Some tt → Walked (all_nodes after)
    pub too_many : r ≡ None → Outgrown

-- The rule of a state; and the rows of a state from an event on.
abbrev pub WalksState : Machine → ℕ → (p p_after : OpenStates) (l : Listing) (after : NodeList) → Option ℕ → Type 0
WalksState m state = Counts (λ states. Writes (mealy_of m) m.events states state)

abbrev pub WalksRows : Machine → (state event : ℕ) (p p_after : OpenStates) (l : Listing) (after : NodeList) → Option (Unit {0}) → Type 0
WalksRows m state event = Walks (λ states. Rows (mealy_of m) m.events states state event)

-- The answer and the buffer after the rule of a table is written, 12, 23 and 13 judged.
pub record Answered (kind : ValueKind) (events start : ℕ) (table before after : List ℕ) (r : Result ℕ Refusal) : Type 0 where
  pub answer : (φ : Formula ℕ) → IsRuleOf events kind start table φ → r ≡ answered (output_refusal kind node_limit φ (length before)) (size φ)
  pub contents :
      (φ : Formula ℕ) → IsRuleOf events kind start table φ
      → after ≡ put_unless (output_refusal kind node_limit φ (length before)) (encode_formula (node_bytes kind) φ) before

abbrev pub WritesRule : Machine → (start : ℕ) (before after : List ℕ) → Result ℕ Refusal → Type 0
WritesRule m start = Answered m.kind m.events start m.entries.now
