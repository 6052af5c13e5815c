-- What is proved with of nodes in bytes: each takes so many, and equal bytes are of equal nodes.
use mathlib.Core.{Path.{◌≡◌}, List.{List, [], ◌∷◌}}
use Rattle.std.specs.Prelude.{ℕ, zero, suc, ◌*◌, ◌<◌, length, get_or}
use Rattle.formulas.specs.RuleConditions.{node_fields, NodeFits, node_at}
use Rattle.theory.specs.Formula.{Node, truth_node, variable_node, transition_node, output_node, conjunction_node, greatest_node}

module _ {B : Type 0} where
  -- The kinds' numbers.
  abbrev pub kind_number : Node B → ℕ
  kind_number truth_node = 0
  kind_number (variable_node n) = 1
  kind_number (transition_node e) = 2
  kind_number (output_node e b) = 3
  kind_number conjunction_node = 4
  kind_number greatest_node = 5

  -- The first field: X's binder count, G's and O's event; 0 where it is unused.
  abbrev pub first_field : Node B → ℕ
  first_field truth_node = 0
  first_field (variable_node n) = n
  first_field (transition_node e) = e
  first_field (output_node e b) = e
  first_field conjunction_node = 0
  first_field greatest_node = 0

  -- How nodes lie in bytes: each takes `width` bytes, the kind first and the first field second.
  pub record NodeCode (width : ℕ) (encode : Node B → List ℕ) : Type 0 where
    pub length_is : (n : Node B) → length (encode n) ≡ width
    pub two : 1 < width
    pub kind_byte : (n : Node B) → get_or (encode n) 0 0 ≡ kind_number n
    pub first_byte : (n : Node B) → get_or (encode n) 1 0 ≡ first_field n
    pub one_node : (m n : Node B) → encode m ≡ encode n → m ≡ n

-- The value of an O; 0 where it is unused.
abbrev pub value_field : Node ℕ → ℕ
value_field truth_node = 0
value_field (variable_node n) = 0
value_field (transition_node e) = 0
value_field (output_node e v) = v
value_field conjunction_node = 0
value_field greatest_node = 0

-- The three bytes where values are numbers.
abbrev pub three_bytes : Node ℕ → List ℕ
three_bytes n = (node_fields n).0 ∷ (node_fields n).1 ∷ (node_fields n).2 ∷ []

-- A node with these three fields.
pub record HasFields (n : Node ℕ) (k a v : ℕ) : Type 0 where
  pub kind_is : kind_number n ≡ k
  pub first_is : first_field n ≡ a
  pub value_is : value_field n ≡ v

module _ (kind first value : ℕ → ℕ) where
  -- The fields of the nodes from i on, `left` of them, in a row: three numbers a node.
  unfoldable pub field_list : ℕ → ℕ → List ℕ
  field_list zero i = []
  field_list (suc left) i = kind i ∷ first i ∷ value i ∷ field_list left (suc i)

  -- Bytes that hold `count` nodes with these fields, in whatever way nodes lie in bytes: the bytes of node i are those of the node
  -- that has its fields, where that fits, and of no other.
  pub record HoldsNodes (width : ℕ) (encode : Node ℕ → List ℕ) (events : ℕ) (In : ℕ → Type 0) (count : ℕ) (bytes : List ℕ) : Type 0 where
    pub whole : length bytes ≡ count * width
    pub its_bytes :
        (i : ℕ) → i < count → (n : Node ℕ) → NodeFits events In n → HasFields n (kind i) (first i) (value i) → node_at width bytes i ≡ encode n
    pub its_fields : (i : ℕ) → i < count → (n : Node ℕ) → node_at width bytes i ≡ encode n → HasFields n (kind i) (first i) (value i)
