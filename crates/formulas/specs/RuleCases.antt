-- Rules other than document 01's marked cases, and what 5 to 9 answer: 5 and 6, rules where the order of the refusals decides, and registers.
use mathlib.Core.{Path.{◌≡◌}, Option.{Option, none, some}, List.{List, [], ◌∷◌}}
use Rattle.std.specs.Prelude.{ℕ, zero, suc}
use Rattle.theory.specs.Formula.{Node, truth_node, variable_node, transition_node, output_node, conjunction_node, greatest_node}
use Rattle.refusal.specs.{declared.Refusal.{Refusal}}
use Rattle.values.specs.{declared.ValueKind.{ValueKind}, declared.ValueKind.TheVariants.{Numbered, Register}}
use Rattle.formulas.specs.{RuleConditions.{encode_all, node_bytes}, NodeCode.{three_bytes}, RuleRefusal.{rule_refusal}}
use Rattle.refusal.specs.declared.Refusal.TheVariants.{BinderDepth, NodeCount, NodeFields, NodeTree, UnboundVariable, UnprotectedVariable}

pub record RuleCase : Type 0 where
  pub rule : List ℕ
  pub answer : Option Refusal

-- So many V nodes in a row, and what follows.
abbrev pub below_binders : ℕ → List (Node ℕ) → List (Node ℕ)
below_binders zero ns = ns
below_binders (suc n) ns = greatest_node ∷ below_binders n ns

abbrev rule_of : List (Node ℕ) → Option Refusal → RuleCase
rule_of ns a = record { rule = encode_all three_bytes ns; answer = a }

-- Rules with two events and four values.
abbrev pub rule_cases : List RuleCase
rule_cases =
    -- V A X0 G0 X5: 8 is judged on every variable before 9 is on any
    rule_of (greatest_node ∷ conjunction_node ∷ variable_node 0 ∷ transition_node 0 ∷ variable_node 5 ∷ []) (some (UnboundVariable 4))
    -- T G9: 6 is judged on every node, also past the root's end
    ∷ rule_of (truth_node ∷ transition_node 9 ∷ []) (some (NodeFields 1))
    -- no bytes, and bytes left over
    ∷ record { rule = []; answer = some NodeCount }
    ∷ record { rule = 0 ∷ 0 ∷ 0 ∷ 9 ∷ []; answer = some NodeCount }
    -- an unknown kind; X with a second field
    ∷ record { rule = 6 ∷ 0 ∷ 0 ∷ []; answer = some (NodeFields 0) }
    ∷ record { rule = 1 ∷ 0 ∷ 1 ∷ []; answer = some (NodeFields 0) }
    -- document 02, F-9: twelve V nodes on a path and thirteen, also in the second part of an A, which starts again where the first did
    ∷ rule_of (below_binders 12 (truth_node ∷ [])) none
    ∷ rule_of (below_binders 13 (truth_node ∷ [])) (some BinderDepth)
    ∷ rule_of (conjunction_node ∷ below_binders 12 (truth_node ∷ below_binders 12 (truth_node ∷ []))) none
    ∷ rule_of (conjunction_node ∷ truth_node ∷ below_binders 13 (truth_node ∷ [])) (some BinderDepth)
    -- 23 comes after 7 and 8, and before 9
    ∷ rule_of (below_binders 13 []) (some (NodeTree 13))
    ∷ rule_of (below_binders 13 (variable_node 13 ∷ [])) (some (UnboundVariable 13))
    ∷ rule_of (below_binders 13 (variable_node 0 ∷ [])) (some BinderDepth)
    ∷ rule_of (below_binders 12 (variable_node 0 ∷ [])) (some (UnprotectedVariable 12))
    ∷ []

-- Rules with two events and registers of two lines.
abbrev pub register_cases : List RuleCase
register_cases =
    -- V A G1 O1.1.2 G1 X0
    record {
      rule =
          encode_all (node_bytes (Register 2))
          (greatest_node ∷ conjunction_node ∷ transition_node 1 ∷ output_node 1 131073 ∷ transition_node 1 ∷ variable_node 0 ∷ []);
      answer = none;
    }
    -- O1.3.3: every bit of two lines
    ∷ record { rule = 3 ∷ 1 ∷ 3 ∷ 0 ∷ 3 ∷ 0 ∷ []; answer = none }
    -- O1.4.0 and O1.0.256: a bit at the line count, and one above it in the high byte of the high mask
    ∷ record { rule = 3 ∷ 1 ∷ 4 ∷ 0 ∷ 0 ∷ 0 ∷ []; answer = some (NodeFields 0) }
    ∷ record { rule = 3 ∷ 1 ∷ 0 ∷ 0 ∷ 0 ∷ 1 ∷ []; answer = some (NodeFields 0) }
    -- T with a mask that is not 0
    ∷ record { rule = 4 ∷ 0 ∷ 0 ∷ 0 ∷ 0 ∷ 0 ∷ 0 ∷ 0 ∷ 0 ∷ 0 ∷ 0 ∷ 1 ∷ []; answer = some (NodeFields 1) }
    -- three bytes are no whole node
    ∷ record { rule = 0 ∷ 0 ∷ 0 ∷ []; answer = some NodeCount }
    -- V X0, and A T
    ∷ record { rule = 5 ∷ 0 ∷ 0 ∷ 0 ∷ 0 ∷ 0 ∷ 1 ∷ 0 ∷ 0 ∷ 0 ∷ 0 ∷ 0 ∷ []; answer = some (UnprotectedVariable 1) }
    ∷ record { rule = 4 ∷ 0 ∷ 0 ∷ 0 ∷ 0 ∷ 0 ∷ 0 ∷ 0 ∷ 0 ∷ 0 ∷ 0 ∷ 0 ∷ []; answer = some (NodeTree 2) }
    ∷ []

unfoldable pub CasesHold : ValueKind → List RuleCase → Type 0
CasesHold kind [] = Unit
CasesHold kind (c ∷ cs) = (rule_refusal 2 kind c.rule ≡ c.answer) × CasesHold kind cs

pub record RuleCasesClaim : Type 0 where
  pub numbered : CasesHold (Numbered 4) rule_cases
  pub register : CasesHold (Register 2) register_cases
