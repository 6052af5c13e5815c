-- Nodes in bytes with values of either kind: equal bytes are of equal nodes, and the bytes of a node are its fields.
use mathlib.Core.{Path.{◌≡◌, refl, sym, ◌∙◌, ap, ap₂, subst}, Logic.{◌⊎◌}, List.{List, [], ◌∷◌}}
use Prim.Native.Nat.{ℕ, suc, ◌+◌, ◌*◌, ◌/◌, ◌≤◌, ◌<◌, min}
use native.Mathlib.{Nat.{div-add-mod'}, Omega.{arith}}
use lib.{ListN.{length, get_or, take, drop}, Seq.{drop-drop, drop-cons}}
use Rattle.limits.specs.Limits.{node_limit}
use Rattle.theory.specs.Formula.{Node, truth_node, variable_node, transition_node, output_node, conjunction_node, greatest_node}
use Rattle.values.specs.declared.ValueKind.{ValueKind}
use Rattle.values.specs.declared.ValueKind.TheVariants.{Numbered, Register}
use Rattle.values.specs.Setup.{ValueIn, value_width, value_bytes, value_from}
use Rattle.values.proofs.ValueBytes.{value_bytes_correct}
use Rattle.formulas.specs.NodeCode.{kind_number, first_field, value_field, HasFields}
use Rattle.formulas.specs.RuleConditions.{node_width, node_bytes, node_fields}
use Rattle.formulas.specs.RuleReading.{kind_of, node_of}
use Rattle.formulas.specs.{RuleRefusal.{kind_at, first_at, value_at}, Claims.{NodeCodeClaim}}
use Rattle.formulas.proofs.Encoding.{node_back}

pub width_is : (kind : ValueKind) → node_width kind ≡ 2 + value_width kind
width_is (Numbered n) = refl
width_is (Register lines) = refl

pub width_positive : (kind : ValueKind) → 1 < node_width kind
width_positive (Numbered n) = omega arith
width_positive (Register lines) = omega arith

-- The nodes that are counted lie within the bytes.
pub node_within : (kind : ValueKind) (n i : ℕ) → i < n / node_width kind → i * node_width kind + 2 + value_width kind ≤ n
node_within (Numbered k) n i h = omega (arith, h, div-add-mod' n 3)
node_within (Register lines) n i h = omega (arith, h, div-add-mod' n 6)

pub decoded_within :
    (kind : ValueKind) (n i : ℕ) → i < min node_limit (n / node_width kind)
    → (i * node_width kind + 2 + value_width kind ≤ n) × (i * node_width kind ≤ 1536) × (node_width kind ≤ 6) × (1 ≤ value_width kind)
decoded_within (Numbered k) n i h = (node_within (Numbered k) n i (omega arith), omega arith, omega arith, omega arith)
decoded_within (Register lines) n i h = (node_within (Register lines) n i (omega arith), omega arith, omega arith, omega arith)

pub next_node : (kind : ValueKind) (i : ℕ) → (i + 1) * node_width kind ≡ i * node_width kind + node_width kind
next_node (Numbered n) i = omega arith
next_node (Register lines) i = omega arith

-- The bytes after the first two.
after_two : (kind : ValueKind) (l : List ℕ) → drop 2 (take (node_width kind) l) ≡ take (value_width kind) (drop 2 l)
after_two (Numbered n) [] = refl
after_two (Numbered n) (x ∷ []) = refl
after_two (Numbered n) (x ∷ y ∷ l) = refl
after_two (Register lines) [] = refl
after_two (Register lines) (x ∷ []) = refl
after_two (Register lines) (x ∷ y ∷ l) = refl

whole_value : (kind : ValueKind) (v : ℕ) → take (value_width kind) (value_bytes kind v) ≡ value_bytes kind v
whole_value (Numbered n) v = refl
whole_value (Register lines) v = refl

sized : (kind : ValueKind) (n : Node ℕ) → length (node_bytes kind n) ≡ node_width kind
sized (Numbered k) n = refl
sized (Register lines) n = refl

-- The fields of a node, one by one.
kind_same : (n : Node ℕ) → (node_fields n).0 ≡ kind_number n
kind_same truth_node = refl
kind_same (variable_node n) = refl
kind_same (transition_node e) = refl
kind_same (output_node e v) = refl
kind_same conjunction_node = refl
kind_same greatest_node = refl

first_same : (n : Node ℕ) → (node_fields n).1 ≡ first_field n
first_same truth_node = refl
first_same (variable_node n) = refl
first_same (transition_node e) = refl
first_same (output_node e v) = refl
first_same conjunction_node = refl
first_same greatest_node = refl

value_same : (n : Node ℕ) → (node_fields n).2 ≡ value_field n
value_same truth_node = refl
value_same (variable_node n) = refl
value_same (transition_node e) = refl
value_same (output_node e v) = refl
value_same conjunction_node = refl
value_same greatest_node = refl

pub fields_same : (kind : ValueKind) (n : Node ℕ) → node_bytes kind n ≡ kind_number n ∷ first_field n ∷ value_bytes kind (value_field n)
fields_same kind n =
    ap₂ (λ k a. k ∷ a ∷ value_bytes kind (node_fields n).2) (kind_same n) (first_same n)
    ∙ ap (λ v. kind_number n ∷ first_field n ∷ value_bytes kind v) (value_same n)

module _ (kind : ValueKind) where
  -- The node of so many bytes.
  abbrev read_node : List ℕ → Node ℕ
  read_node bytes = node_of (kind_of (get_or bytes 0 0)) (get_or bytes 1 0) (value_from kind bytes 2)

  node_read : (n : Node ℕ) → read_node (node_bytes kind n) ≡ n
  node_read n =
      node_back n (node_fields n).0 (node_fields n).1 (value_from kind (node_bytes kind n) 2) (kind_same n) (first_same n)
      (λ e b d.
      value_bytes_correct.read kind (node_bytes kind n) 2 (node_fields n).2 (whole_value kind (node_fields n).2) ∙ value_same n ∙ ap value_field d)

  -- The value's bytes within a node's.
  pub value_part :
      (bytes : List ℕ) (at : ℕ) (n : Node ℕ) → take (node_width kind) (drop at bytes) ≡ node_bytes kind n
      → take (value_width kind) (drop (at + 2) bytes) ≡ value_bytes kind (value_field n)
  value_part bytes at n e =
      ap (take (value_width kind)) (sym (drop-drop 2 at bytes)) ∙ sym (after_two kind (drop at bytes)) ∙ ap (drop 2) e
      ∙ ap (value_bytes kind) (value_same n)

  pub value_there :
      (bytes : List ℕ) (i : ℕ) (n : Node ℕ) → take (node_width kind) (drop (i * node_width kind) bytes) ≡ node_bytes kind n
      → value_at kind bytes i ≡ value_field n
  value_there bytes i n e = value_bytes_correct.read kind bytes (i * node_width kind + 2) (value_field n) (value_part bytes (i * node_width kind) n e)

  -- The bytes of an O node have its value.
  pub output_value :
      (bytes : List ℕ) (i e v : ℕ) → take (node_width kind) (drop (i * node_width kind) bytes) ≡ node_bytes kind (output_node e v)
      → value_at kind bytes i ≡ v
  output_value bytes i e v d = value_there bytes i (output_node e v) d

-- The first two bytes of a node, and its value's.
split : (kind : ValueKind) (bytes : List ℕ) (at : ℕ) → at + 2 + value_width kind ≤ length bytes
    → take (node_width kind) (drop at bytes) ≡ get_or bytes at 0 ∷ get_or bytes (at + 1) 0 ∷ take (value_width kind) (drop (at + 2) bytes)
split (Numbered n) bytes at h =
    let p : suc at ≡ at + 1 = omega arith in
    let q : suc (at + 1) ≡ at + 2 = omega arith in
    cc (drop-cons bytes at 0 (omega arith), drop-cons bytes (at + 1) 0 (omega arith), p, q)
split (Register lines) bytes at h =
    let p : suc at ≡ at + 1 = omega arith in
    let q : suc (at + 1) ≡ at + 2 = omega arith in
    cc (drop-cons bytes at 0 (omega arith), drop-cons bytes (at + 1) 0 (omega arith), p, q)

pub node_code : NodeCodeClaim
node_code kind =
    record {
      length_is = sized kind;
      two = width_positive kind;
      kind_byte = kind_same;
      first_byte = first_same;
      one_node = λ m n e. sym (node_read kind m) ∙ ap (read_node kind) e ∙ node_read kind n;
    }

module _ (kind : ValueKind) (bytes : List ℕ) (i : ℕ) (inside : i < length bytes / node_width kind) where
  -- Fields of a node, whose value is one or 0, are its bytes.
  pub fields_bytes :
      (n : Node ℕ) → HasFields n (kind_at kind bytes i) (first_at kind bytes i) (value_at kind bytes i)
      → ValueIn kind (value_field n) ⊎ (value_field n ≡ 0)
      → take (node_width kind) (drop (i * node_width kind) bytes) ≡ node_bytes kind n
  fields_bytes n h w =
      split kind bytes (i * node_width kind) (node_within kind (length bytes) i inside)
      ∙ ap₂ (λ x y. x ∷ y ∷ take (value_width kind) (drop (i * node_width kind + 2) bytes)) (sym h.kind_is) (sym h.first_is)
      ∙ ap (λ l. kind_number n ∷ first_field n ∷ l)
      (value_bytes_correct.written kind bytes (i * node_width kind + 2) (node_within kind (length bytes) i inside)
      (subst (λ v. ValueIn kind v ⊎ (v ≡ 0)) h.value_is w)
      ∙ ap (value_bytes kind) (sym h.value_is))
      ∙ sym (fields_same kind n)

  pub bytes_fields :
      (n : Node ℕ) → take (node_width kind) (drop (i * node_width kind) bytes) ≡ node_bytes kind n
      → HasFields n (kind_at kind bytes i) (first_at kind bytes i) (value_at kind bytes i)
  bytes_fields n e =
      let d = sym (split kind bytes (i * node_width kind) (node_within kind (length bytes) i inside)) ∙ e in
      record {
        kind_is = sym (ap (λ l. get_or l 0 0) d ∙ kind_same n);
        first_is = sym (ap (λ l. get_or l 1 0) d ∙ first_same n);
        value_is = sym (value_there kind bytes i n e);
      }
