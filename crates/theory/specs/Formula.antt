-- Formulas of the Mealy logic (document 01, "Rules"; source 000, definition 3 and section 3): their nodes in prefix order, and their meaning.
-- Document 01 calls a formula a rule.
use mathlib.Core.{Bool.{cond}, List.{List, [], ◌∷◌, ◌++◌}, Path.{◌≡◌}}
use Rattle.std.specs.Prelude.{ℕ, zero, suc, ◌+◌, eqb}

-- The six kinds, over any type of values. A variable is given by how many binders lie between it and its own.
pub data Formula (B : Type 0) : Type 0 where
  -- T: demands nothing
  truth : Formula B
  -- X
  variable : ℕ → Formula B
  -- G: after that event, the formula
  transition : ℕ → Formula B → Formula B
  -- O: on that event, a value at or below this one
  output : ℕ → B → Formula B
  -- A: both
  conjunction : Formula B → Formula B → Formula B
  -- V: the greatest fixed point; it binds a variable
  greatest : Formula B → Formula B

module _ {B : Type 0} where
  -- The node count.
  abbrev pub size : Formula B → ℕ
  size truth = 1
  size (variable n) = 1
  size (transition e φ) = suc (size φ)
  size (output e b) = 1
  size (conjunction φ χ) = suc (size φ + size χ)
  size (greatest φ) = suc (size φ)

  -- The closed formula u put for each free occurrence of variable k.
  abbrev pub substitute : ℕ → Formula B → Formula B → Formula B
  substitute k u truth = truth
  substitute k u (variable n) = cond (eqb n k) u (variable n)
  substitute k u (transition e φ) = transition e (substitute k u φ)
  substitute k u (output e b) = output e b
  substitute k u (conjunction φ χ) = conjunction (substitute k u φ) (substitute k u χ)
  substitute k u (greatest φ) = greatest (substitute (suc k) u φ)

  -- The part of a binder with the whole binder put for its variable.
  abbrev pub unfolded : Formula B → Formula B
  unfolded φ = substitute zero (greatest φ) φ

-- A node without its parts: kinds 0 to 5 of document 01, in its order.
pub data Node (B : Type 0) : Type 0 where
  truth_node : Node B
  variable_node : ℕ → Node B
  transition_node : ℕ → Node B
  output_node : ℕ → B → Node B
  conjunction_node : Node B
  greatest_node : Node B

module _ {B : Type 0} where
  -- The nodes of a formula in prefix order.
  abbrev pub nodes : Formula B → List (Node B)
  nodes truth = truth_node ∷ []
  nodes (variable n) = variable_node n ∷ []
  nodes (transition e φ) = transition_node e ∷ nodes φ
  nodes (output e b) = output_node e b ∷ []
  nodes (conjunction φ χ) = conjunction_node ∷ (nodes φ ++ nodes χ)
  nodes (greatest φ) = greatest_node ∷ nodes φ

-- `Stands i bs ψ`: ψ is the part of φ at node i, below the binders at the nodes bs, the innermost first.
module _ {B : Type 0} (φ : Formula B) where
  pub data Stands : ℕ → List ℕ → Formula B → Type 0 where
    root : Stands zero [] φ
    part_of_transition : {i : ℕ} {bs : List ℕ} {e : ℕ} {ψ : Formula B} → Stands i bs (transition e ψ) → Stands (suc i) bs ψ
    left_part : {i : ℕ} {bs : List ℕ} {ψ χ : Formula B} → Stands i bs (conjunction ψ χ) → Stands (suc i) bs ψ
    right_part : {i : ℕ} {bs : List ℕ} {ψ χ : Formula B} → Stands i bs (conjunction ψ χ) → Stands (suc i + size ψ) bs χ
    part_of_greatest : {i : ℕ} {bs : List ℕ} {ψ : Formula B} → Stands i bs (greatest ψ) → Stands (suc i) (i ∷ bs) ψ

module _ {B : Type 0} (meet : B → B → B) (top : B) where
  -- `Steps e φ b ψ`: on event e the value of φ is b, and its follower is ψ. One constructor for each equation of section 3;
  -- a variable has none.
  pub data Steps (e : ℕ) : Formula B → B → Formula B → Type 0 where
    of_truth : Steps e truth top truth
    of_transition : {φ : Formula B} → Steps e (transition e φ) top φ
    of_other_transition : {a : ℕ} {φ : Formula B} → ¬ (a ≡ e) → Steps e (transition a φ) top truth
    of_output : {b : B} → Steps e (output e b) b truth
    of_other_output : {a : ℕ} {b : B} → ¬ (a ≡ e) → Steps e (output a b) top truth
    of_conjunction : {φ χ φ' χ' : Formula B} {b c : B} → Steps e φ b φ' → Steps e χ c χ' → Steps e (conjunction φ χ) (meet b c) (conjunction φ' χ')
    of_greatest : {ψ φ' : Formula B} {b : B} → Steps e (unfolded ψ) b φ' → Steps e (greatest ψ) b φ'

  -- `Answers φ w e b`: after the events w, the follower being taken on each in turn, the value on e is b.
  pub data Answers : Formula B → List ℕ → ℕ → B → Type 0 where
    now : {φ φ' : Formula B} {e : ℕ} {b : B} → Steps e φ b φ' → Answers φ [] e b
    later : {φ φ' : Formula B} {a e : ℕ} {w : List ℕ} {b c : B} → Steps a φ c φ' → Answers φ' w e b → Answers φ (a ∷ w) e b
