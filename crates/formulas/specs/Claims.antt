-- What is claimed of rules in bytes (document 01, "Rules", refusals 5 to 9 and 23): each is a proposition, inhabited in proofs/.
use mathlib.Core.{Path.{◌≡◌}, Logic.{◌↔◌}, Bool.{true}, Option.{none, some}, List.{List}}
use Rattle.std.specs.Prelude.{ℕ, ◌*◌, ◌≤◌, ◌<◌, length, Result}
use Rattle.theory.specs.Formula.{Formula, size, Node}
use Rattle.theory.specs.FormulaClasses.{Accepted}
use Rattle.theory.specs.BinderDepth.{binder_depth}
use Rattle.values.specs.declared.ValueKind.{ValueKind}
use Rattle.values.specs.Setup.{ValueIn}
use Rattle.values.specs.ValueTests.{value_fits}
use Rattle.limits.specs.Limits.{node_limit, binder_limit}
use Rattle.refusal.specs.{Refusal.{First, Judged, refusal_of}, RefusalAnswers.{judgement}, declared.Refusal.TheVariants.{BinderDepth}}
use Rattle.formulas.specs.NodeCode.{NodeCode, three_bytes, field_list, HoldsNodes}
use Rattle.formulas.specs.RuleConditions.{encode_formula, node_width, node_bytes, Unbound, TooDeep, Unprotected, NodeAtFault, rule_conditions, byte_conditions}
use Rattle.formulas.specs.{NodeReading.{Reads}, NodeWalks.{field}, NodeArrays.{decoded}}
use Rattle.formulas.specs.RuleRefusal.{count_fits, fields_refusal, kind_at, first_at, value_at, rule_refusal, formula_of}
use Rattle.refusal.specs.declared.Refusal.{Refusal}

-- With values of either kind, nodes are written in bytes so that equal bytes are of equal nodes.
abbrev pub NodeCodeClaim : Type 0
NodeCodeClaim = (kind : ValueKind) → NodeCode (node_width kind) (node_bytes kind)

-- A rule is judged as document 01 asks.
abbrev pub RuleRefusalClaim : Type 0
RuleRefusalClaim = (events : ℕ) (kind : ValueKind) (bytes : List ℕ) → Judged (byte_conditions events kind bytes) (rule_refusal events kind bytes)

-- Nodes handed in as arrays of fields, the first `count` of each, are judged as document 01 asks: the list of these fields, three
-- numbers a node; and so are bytes that hold them, under any node code. r is the answer of `check_nodes`.
pub record NodesRefusalClaim : Type 0 where
  pub of_fields :
      (events : ℕ) (kind : ValueKind) (kinds firsts values : List ℕ) (count : ℕ) (r : Result (Unit {0}) Refusal) →
      r ≡ judgement (fields_refusal (field kinds) (field firsts) (field values) count (value_fits kind) events) →
      Judged (rule_conditions 3 three_bytes node_limit events (ValueIn kind) (field_list (field kinds) (field firsts) (field values) count 0))
      (refusal_of r)
  pub of_bytes :
      (width : ℕ) (encode : Node ℕ → List ℕ) → NodeCode width encode →
      (events : ℕ) (kind : ValueKind) (kinds firsts values : List ℕ) (count : ℕ) (bytes : List ℕ) →
      HoldsNodes (field kinds) (field firsts) (field values) width encode events (ValueIn kind) count bytes →
      (r : Result (Unit {0}) Refusal) → r ≡ judgement (fields_refusal (field kinds) (field firsts) (field values) count (value_fits kind) events) →
      Judged (rule_conditions width encode node_limit events (ValueIn kind) bytes) (refusal_of r)

-- Bytes are accepted exactly if they are the prefix code of a closed and guarded formula, within the set-up and the limits.
pub record AcceptedFormula (events : ℕ) (kind : ValueKind) (bytes : List ℕ) (φ : Formula ℕ) : Type 0 where
  pub written : bytes ≡ encode_formula (node_bytes kind) φ
  pub accepted : Accepted node_limit binder_limit events (ValueIn kind) φ

abbrev pub AcceptedClaim : Type 0
AcceptedClaim =
    (events : ℕ) (kind : ValueKind) (bytes : List ℕ)
    → (rule_refusal events kind bytes ≡ none) ↔ ((φ : Formula ℕ) × AcceptedFormula events kind bytes φ)

-- A path has more V nodes than a limit exactly if the most on a path are more, for any limit (document 02, F-9).
abbrev pub DepthClaim : Type 1
DepthClaim = (B : Type 0) (φ : Formula B) (most : ℕ) → TooDeep φ most ↔ (most < binder_depth φ)

-- Of a formula within the limit of nodes whose nodes fit and whose variables have binders, 23 is the answer exactly if a path has more
-- than twelve V nodes.
abbrev pub TooDeepClaim : Type 0
TooDeepClaim =
    (events : ℕ) (kind : ValueKind) (φ : Formula ℕ) → size φ ≤ node_limit
    → ((i : ℕ) → ¬ NodeAtFault (node_width kind) (node_bytes kind) (encode_formula (node_bytes kind) φ) events (ValueIn kind) i)
    → ((i : ℕ) → ¬ Unbound φ i)
    → First (byte_conditions events kind (encode_formula (node_bytes kind) φ)) (some BinderDepth) ↔ TooDeep φ binder_limit

-- Of a formula within the limits whose nodes fit and whose variables have binders, the bytes are accepted exactly if a G lies between each
-- variable and its own binder (document 02, F-2).
abbrev pub ProtectedClaim : Type 0
ProtectedClaim =
    (events : ℕ) (kind : ValueKind) (φ : Formula ℕ) → size φ ≤ node_limit
    → ((i : ℕ) → ¬ NodeAtFault (node_width kind) (node_bytes kind) (encode_formula (node_bytes kind) φ) events (ValueIn kind) i)
    → ((i : ℕ) → ¬ Unbound φ i)
    → ¬ TooDeep φ binder_limit
    → (rule_refusal events kind (encode_formula (node_bytes kind) φ) ≡ none) ↔ ((i : ℕ) → ¬ Unprotected φ i)

-- Bytes are the code of one formula at most, and that one is `formula_of`.
abbrev pub FormulaOfClaim : Type 0
FormulaOfClaim = (kind : ValueKind) (bytes : List ℕ) (φ : Formula ℕ) → bytes ≡ encode_formula (node_bytes kind) φ → φ ≡ formula_of kind bytes

-- So accepted bytes are those of `formula_of`, which is accepted: what later promises speak of.
abbrev pub AcceptedFormulaClaim : Type 0
AcceptedFormulaClaim =
    (events : ℕ) (kind : ValueKind) (bytes : List ℕ) → rule_refusal events kind bytes ≡ none → AcceptedFormula events kind bytes (formula_of kind bytes)

-- Its nodes are those of the decoded fields, through which walks reach them.
pub record DecodedReads (kind : ValueKind) (bytes : List ℕ) (φ : Formula ℕ) : Type 0 where
  pub counted : (decoded kind bytes).count ≡ size φ
  pub reads : Reads (field (decoded kind bytes).kinds) (field (decoded kind bytes).firsts) (field (decoded kind bytes).values) 0 φ

abbrev pub DecodedClaim : Type 0
DecodedClaim = (kind : ValueKind) (bytes : List ℕ) (φ : Formula ℕ) → bytes ≡ encode_formula (node_bytes kind) φ → size φ ≤ node_limit → DecodedReads kind
    bytes φ

-- They are judged as the bytes are, where 5 lets the number of bytes through.
abbrev pub DecodedRefusalClaim : Type 0
DecodedRefusalClaim =
    (events : ℕ) (kind : ValueKind) (bytes : List ℕ) → count_fits (node_width kind) node_limit (length bytes) ≡ true
    → fields_refusal (field (decoded kind bytes).kinds) (field (decoded kind bytes).firsts) (field (decoded kind bytes).values)
    (decoded kind bytes).count (value_fits kind) events
    ≡ rule_refusal events kind bytes

-- Bytes are the code of a formula exactly if it reads through the accessors, up to the last node, and no node is at fault in itself.
abbrev pub ReadsClaim : Type 0
ReadsClaim =
    (kind : ValueKind) (bytes : List ℕ) (φ : Formula ℕ) → bytes ≡ encode_formula (node_bytes kind) φ
    → Reads (kind_at kind bytes) (first_at kind bytes) (value_at kind bytes) 0 φ × (length bytes ≡ size φ * node_width kind)

abbrev pub ReadsBackClaim : Type 0
ReadsBackClaim =
    (events : ℕ) (kind : ValueKind) (bytes : List ℕ) (φ : Formula ℕ) → Reads (kind_at kind bytes) (first_at kind bytes) (value_at kind bytes) 0 φ
    → length bytes ≡ size φ * node_width kind
    → ((i : ℕ) → ¬ NodeAtFault (node_width kind) (node_bytes kind) bytes events (ValueIn kind) i)
    → bytes ≡ encode_formula (node_bytes kind) φ

-- At most one formula reads at a node.
abbrev pub ReadsUniqueClaim : Type 1
ReadsUniqueClaim =
    (B : Type 0) (kind first : ℕ → ℕ) (value : ℕ → B) (φ χ : Formula B) (i : ℕ) → Reads kind first value i φ → Reads kind first value i χ → φ ≡ χ
