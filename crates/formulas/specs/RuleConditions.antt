-- Rules in bytes (document 01, "Rules"), and refusals 5 to 9 and 23 ("Who can cause a refusal", rule writer), for any way in which nodes lie in bytes.
use mathlib.Core.{List.{List, [], ◌∷◌, ◌++◌}, Path.{◌≡◌}, Logic.{◌⊎◌}}
use Rattle.std.specs.Prelude.{ℕ, zero, suc, ◌+◌, ◌*◌, ◌/◌, ◌%◌, ◌≤◌, ◌<◌, length, take, drop}
use Rattle.theory.specs.Formula.{Formula, Node, truth_node, variable_node, transition_node, output_node, conjunction_node, greatest_node, nodes, variable}
use Rattle.theory.specs.Formula.{transition, conjunction, greatest, size, Stands}
use Rattle.values.specs.{declared.ValueKind.{ValueKind}, declared.ValueKind.TheVariants.{Numbered, Register}, Setup.{value_bytes, ValueIn}}
use Rattle.refusal.specs.Refusal.{Condition, plain, at_lowest, fields_place, tree_place, unbound_place, unprotected_place}
use Rattle.limits.specs.Limits.{node_limit, binder_limit}
use Rattle.refusal.specs.declared.Refusal.TheVariants.{BinderDepth, NodeCount}

-- Nodes one after the other, and a formula in prefix order: a node, then its parts.
module _ {B : Type 0} (encode : Node B → List ℕ) where
  abbrev pub encode_all : List (Node B) → List ℕ
  encode_all [] = []
  encode_all (n ∷ ns) = encode n ++ encode_all ns

  abbrev pub encode_formula : Formula B → List ℕ
  encode_formula φ = encode_all (nodes φ)

-- A node is three bytes where values are numbers, six where they are registers' masks: kind, first, value; an unused field is 0.
abbrev pub node_width : ValueKind → ℕ
node_width (Numbered n) = 3
node_width (Register lines) = 6

abbrev pub node_fields : Node ℕ → ℕ × ℕ × ℕ
node_fields truth_node = (0, 0, 0)
node_fields (variable_node n) = (1, n, 0)
node_fields (transition_node e) = (2, e, 0)
node_fields (output_node e v) = (3, e, v)
node_fields conjunction_node = (4, 0, 0)
node_fields greatest_node = (5, 0, 0)

abbrev pub node_bytes : ValueKind → Node ℕ → List ℕ
node_bytes kind n = (node_fields n).0 ∷ (node_fields n).1 ∷ value_bytes kind (node_fields n).2

-- The V and G nodes that a part stands below, the innermost first.
pub data Mark : Type 0 where
  binder_mark transition_mark : Mark

-- How many of them are V nodes.
abbrev pub binders_above : List Mark → ℕ
binders_above [] = zero
binders_above (binder_mark ∷ ms) = suc (binders_above ms)
binders_above (transition_mark ∷ ms) = binders_above ms

-- "a G lies between it and its own binder" (document 02, F-2): on the way up from variable n a G comes before its own binder, the V after
-- n others.
pub data Protected : List Mark → ℕ → Type 0 where
  by_transition : {ms : List Mark} {n : ℕ} → Protected (transition_mark ∷ ms) n
  past_binder : {ms : List Mark} {n : ℕ} → Protected ms n → Protected (binder_mark ∷ ms) (suc n)

-- `Placed i ms ψ`: the part ψ stands at node i, below these.
module _ {B : Type 0} (φ : Formula B) where
  pub data Placed : ℕ → List Mark → Formula B → Type 0 where
    root : Placed zero [] φ
    part_of_transition : {i : ℕ} {ms : List Mark} {e : ℕ} {ψ : Formula B} → Placed i ms (transition e ψ) → Placed (suc i) (transition_mark ∷ ms) ψ
    left_part : {i : ℕ} {ms : List Mark} {ψ χ : Formula B} → Placed i ms (conjunction ψ χ) → Placed (suc i) ms ψ
    right_part : {i : ℕ} {ms : List Mark} {ψ χ : Formula B} → Placed i ms (conjunction ψ χ) → Placed (suc i + size ψ) ms χ
    part_of_greatest : {i : ℕ} {ms : List Mark} {ψ : Formula B} → Placed i ms (greatest ψ) → Placed (suc i) (binder_mark ∷ ms) ψ

  -- Node i is a variable without binder.
  abbrev pub Unbound : ℕ → Type 0
  Unbound i = (bs : List ℕ) × (n : ℕ) × Stands φ i bs (variable n) × (length bs ≤ n)

  -- "a path with more than twelve V nodes" (document 02, F-9), for any limit: some part stands below more than `most`.
  abbrev pub TooDeep : ℕ → Type 0
  TooDeep most = (i : ℕ) × (ms : List Mark) × (ψ : Formula B) × Placed i ms ψ × (most < binders_above ms)

  -- Node i is a variable with no G between it and its own binder. 8 speaks first, of variables that have none.
  abbrev pub Unprotected : ℕ → Type 0
  Unprotected i = (ms : List Mark) × (n : ℕ) × Placed i ms (variable n) × ¬ Protected ms n

-- The events and values of a node are those of the set-up.
abbrev pub NodeFits : {B : Type 0} → ℕ → (B → Type 0) → Node B → Type 0
NodeFits events In truth_node = Unit {0}
NodeFits events In (variable_node n) = Unit {0}
NodeFits events In (transition_node e) = e < events
NodeFits events In (output_node e b) = (e < events) × In b
NodeFits events In conjunction_node = Unit {0}
NodeFits events In greatest_node = Unit {0}

-- How many whole nodes of so many bytes there are, and the bytes of node i.
abbrev pub node_count : ℕ → List ℕ → ℕ
node_count width bytes = length bytes / width

abbrev pub node_at : ℕ → List ℕ → ℕ → List ℕ
node_at width bytes i = take width (drop (i * width) bytes)

-- 5: no nodes, over the limit, or bytes left over after the last whole node.
abbrev pub CountAtFault : ℕ → ℕ → List ℕ → Type 0
CountAtFault width limit bytes = ¬ ((length bytes % width ≡ 0) × (0 < node_count width bytes) × (node_count width bytes ≤ limit))

module _ {B : Type 0} (width : ℕ) (encode : Node B → List ℕ) (bytes : List ℕ) where
  -- 6: unknown kind, event or value too large, unused field not 0: the bytes of node i are those of no node that fits.
  abbrev pub NodeAtFault : ℕ → (B → Type 0) → ℕ → Type 0
  NodeAtFault events In i = (i < node_count width bytes) × ((n : Node B) → node_at width bytes i ≡ encode n → ¬ NodeFits events In n)

  -- 7: the nodes run out: they begin the nodes of a formula and stop short of its end; place = node count.
  abbrev pub RunOut : ℕ → Type 0
  RunOut p = (φ : Formula B) × (n : Node B) × (ns : List (Node B)) × (bytes ++ encode_all encode (n ∷ ns) ≡ encode_formula encode φ)
      × (p ≡ node_count width bytes)

module _ {B : Type 0} (encode : Node B → List ℕ) (bytes : List ℕ) where
  -- 7: nodes are left over after a whole formula; place = first of them.
  abbrev pub LeftOver : ℕ → Type 0
  LeftOver p = (φ : Formula B) × (n : Node B) × (ns : List (Node B)) × (bytes ≡ encode_formula encode φ ++ encode_all encode (n ∷ ns)) × (p ≡ size φ)

  -- 8, 23, 9 and 10 speak of the formula whose bytes these are.
  abbrev pub OfFormula : (Formula B → Type 0) → Type 0
  OfFormula Met = (φ : Formula B) × (bytes ≡ encode_formula encode φ) × Met φ

-- The conditions, in order.
abbrev pub rule_conditions : {B : Type 0} (width : ℕ) (encode : Node B → List ℕ) (limit events : ℕ) (In : B → Type 0) (bytes : List ℕ) → List Condition
rule_conditions width encode limit events In bytes = plain NodeCount (CountAtFault width limit bytes)
    ∷ at_lowest fields_place (NodeAtFault width encode bytes events In)
    ∷ at_lowest tree_place (λ p. RunOut width encode bytes p ⊎ LeftOver encode bytes p)
    ∷ at_lowest unbound_place (λ i. OfFormula encode bytes (λ φ. Unbound φ i))
    ∷ plain BinderDepth (OfFormula encode bytes (λ φ. TooDeep φ binder_limit))
    ∷ at_lowest unprotected_place (λ i. OfFormula encode bytes (λ φ. Unprotected φ i))
    ∷ []

-- The conditions of a rule with values of a kind.
abbrev pub byte_conditions : ℕ → ValueKind → List ℕ → List Condition
byte_conditions events kind bytes = rule_conditions (node_width kind) (node_bytes kind) node_limit events (ValueIn kind) bytes
