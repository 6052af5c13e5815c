-- Twin of RuleConditions, pinned by formulas RuleRefusalClaim.
-- Computing twins of RuleConditions, in parts: what is read from a node's fields, where nodes run out or are left over, the
-- formula whose nodes these are, and the lowest node at fault. Nodes are reached through accessors, as in NodeReading.
use mathlib.Core.{Bool.{Bool, false, cond, not, ◌&&◌}, Option.{Option, none, some}, List.{List, [], ◌∷◌}}
use Rattle.std.specs.Prelude.{ℕ, zero, suc, ◌+◌, eqb, ltb, leb, Option as StdOption, Some, None}
use Rattle.theory.specs.Formula.{Formula, truth, variable, transition, output, conjunction, greatest, size, Node, truth_node, variable_node, transition_node}
use Rattle.theory.specs.Formula.{output_node, conjunction_node, greatest_node}
use Rattle.formulas.specs.declared.NodeKind.{NodeKind, TheVariants.{Truth, Variable, Transition, Output, Conjunction, Greatest}}

-- The first of two answers that is a place.
unfoldable pub first_of : Option ℕ → Option ℕ → Option ℕ
first_of none later = later
first_of (some i) later = some i

-- The lowest of the places from i on, `left` of them, where a test is true.
unfoldable pub lowest_from : (ℕ → Bool) → ℕ → ℕ → Option ℕ
lowest_from test zero i = none
lowest_from test (suc left) i = cond (test i) (some i) (lowest_from test left (suc i))

-- The kind of a number, where it is one's.
unfoldable pub kind_of : ℕ → StdOption NodeKind
kind_of zero = Some Truth
kind_of (suc zero) = Some Variable
kind_of (suc (suc zero)) = Some Transition
kind_of (suc (suc (suc zero))) = Some Output
kind_of (suc (suc (suc (suc zero)))) = Some Conjunction
kind_of (suc (suc (suc (suc (suc zero))))) = Some Greatest
kind_of (suc (suc (suc (suc (suc (suc k)))))) = None

-- The number of a kind.
abbrev pub number_of : NodeKind → ℕ
number_of Truth = 0
number_of Variable = 1
number_of Transition = 2
number_of Output = 3
number_of Conjunction = 4
number_of Greatest = 5

-- Of 6, for one node: the kind is known, its event is below the event count, its value fits, and unused fields are 0.
unfoldable pub fields_fit : ℕ → StdOption NodeKind → ℕ → ℕ → Bool → Bool
fields_fit events (Some Truth) first value fits = eqb first 0 && eqb value 0
fields_fit events (Some Variable) first value fits = eqb value 0
fields_fit events (Some Transition) first value fits = ltb first events && eqb value 0
fields_fit events (Some Output) first value fits = ltb first events && fits
fields_fit events (Some Conjunction) first value fits = eqb first 0 && eqb value 0
fields_fit events (Some Greatest) first value fits = eqb first 0 && eqb value 0
fields_fit events None first value fits = false

-- How many parts are awaited after a node of a kind, where k others were awaited beside it.
unfoldable pub awaited : StdOption NodeKind → ℕ → ℕ
awaited (Some Truth) k = k
awaited (Some Variable) k = k
awaited (Some Transition) k = suc k
awaited (Some Output) k = k
awaited (Some Conjunction) k = suc (suc k)
awaited (Some Greatest) k = suc k
awaited None k = k

-- 7: the nodes from i on, `left` of them, are those of as many formulas as are awaited; or the place where they run out, which is
-- the node count, or the first of those left over.
unfoldable pub end_fault : (ℕ → ℕ) → ℕ → ℕ → ℕ → Option ℕ
end_fault kind zero zero i = none
end_fault kind zero (suc left) i = some i
end_fault kind (suc k) zero i = some i
end_fault kind (suc k) (suc left) i = end_fault kind (awaited (kind_of (kind i)) k) left (suc i)

module _ {B : Type 0} where
  -- The node with these fields. An unknown kind, which 6 refuses, is read as T.
  unfoldable pub node_of : StdOption NodeKind → ℕ → B → Node B
  node_of (Some Truth) first value = truth_node
  node_of (Some Variable) first value = variable_node first
  node_of (Some Transition) first value = transition_node first
  node_of (Some Output) first value = output_node first value
  node_of (Some Conjunction) first value = conjunction_node
  node_of (Some Greatest) first value = greatest_node
  node_of None first value = truth_node

  -- The nodes from i on, `left` of them.
  unfoldable pub nodes_from : (ℕ → ℕ) → (ℕ → ℕ) → (ℕ → B) → ℕ → ℕ → List (Node B)
  nodes_from kind first value zero i = []
  nodes_from kind first value (suc left) i = node_of (kind_of (kind i)) (first i) (value i) ∷ nodes_from kind first value left (suc i)

  -- A node takes its parts from the formulas that follow it.
  unfoldable pub with_parts : Node B → List (Formula B) → List (Formula B)
  with_parts truth_node φs = truth ∷ φs
  with_parts (variable_node n) φs = variable n ∷ φs
  with_parts (transition_node e) [] = []
  with_parts (transition_node e) (φ ∷ φs) = transition e φ ∷ φs
  with_parts (output_node e b) φs = output e b ∷ φs
  with_parts conjunction_node [] = []
  with_parts conjunction_node (φ ∷ []) = []
  with_parts conjunction_node (φ ∷ χ ∷ φs) = conjunction φ χ ∷ φs
  with_parts greatest_node [] = []
  with_parts greatest_node (φ ∷ φs) = greatest φ ∷ φs

  -- Nodes read from right to left, each with its parts from the formulas already read.
  unfoldable pub formulas : List (Node B) → List (Formula B)
  formulas [] = []
  formulas (n ∷ ns) = with_parts n (formulas ns)

  unfoldable pub first_formula : List (Formula B) → Formula B
  first_formula [] = truth
  first_formula (φ ∷ φs) = φ

  -- The formula whose nodes these are, the first `count` of them.
  unfoldable pub formula_read : (ℕ → ℕ) → (ℕ → ℕ) → (ℕ → B) → ℕ → Formula B
  formula_read kind first value count = first_formula (formulas (nodes_from kind first value count 0))

-- A search for a variable or a V at fault. What decides it is kept on the way down: a state that changes below G and below V.
pub record Search (S : Type 0) : Type 0 where
  pub at_variable : S → ℕ → Bool
  pub at_greatest : S → Bool
  pub below_transition : S → S
  pub below_greatest : S → S

-- The lowest node at fault in a formula that stands at node i.
module _ {B S : Type 0} (f : Search S) where
  unfoldable pub lowest_fault : S → ℕ → Formula B → Option ℕ
  lowest_fault s i truth = none
  lowest_fault s i (variable n) = cond (f.at_variable s n) (some i) none
  lowest_fault s i (transition e φ) = lowest_fault (f.below_transition s) (suc i) φ
  lowest_fault s i (output e b) = none
  lowest_fault s i (conjunction φ χ) = first_of (lowest_fault s (suc i) φ) (lowest_fault s (suc i + size φ) χ)
  lowest_fault s i (greatest φ) = first_of (cond (f.at_greatest s) (some i) none) (lowest_fault (f.below_greatest s) (suc i) φ)

-- 8: a variable is at fault that counts as many binders as it stands below, or more.
unfoldable pub unbound_below : ℕ → ℕ → Bool
unbound_below depth n = not (ltb n depth)

-- 23: a V is at fault that stands below as many as a path may have, or more.
unfoldable pub path_full : ℕ → ℕ → Bool
path_full most depth = leb most depth

-- 9: a variable is at fault that counts fewer binders than stand since the last G: its own is one of them.
unfoldable pub bound_near : ℕ → ℕ → Bool
bound_near near n = ltb n near

abbrev pub unbound_search : Search ℕ
unbound_search = record { at_variable = unbound_below; at_greatest = λ depth. false; below_transition = λ depth. depth; below_greatest = suc }

abbrev pub deep_search : ℕ → Search ℕ
deep_search most = record { at_variable = λ depth n. false; at_greatest = path_full most; below_transition = λ depth. depth; below_greatest = suc }

abbrev pub unprotected_search : Search ℕ
unprotected_search = record { at_variable = bound_near; at_greatest = λ near. false; below_transition = λ near. zero; below_greatest = suc }

module _ {B : Type 0} where
  -- 8 from a node on, below so many binders: the lowest variable without binder.
  abbrev pub lowest_unbound : ℕ → ℕ → Formula B → Option ℕ
  lowest_unbound = lowest_fault unbound_search

  -- 23 from a node on, below so many binders, where a path may have `most`: the lowest V that makes one longer.
  abbrev pub lowest_deep : ℕ → ℕ → ℕ → Formula B → Option ℕ
  lowest_deep most = lowest_fault (deep_search most)

  -- 9 from a node on, below so many binders since the last G: the lowest variable with no G between it and its own binder.
  abbrev pub lowest_unprotected : ℕ → ℕ → Formula B → Option ℕ
  lowest_unprotected = lowest_fault unprotected_search
