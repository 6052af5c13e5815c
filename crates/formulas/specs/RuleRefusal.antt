-- Twin of RuleConditions, pinned by formulas RuleRefusalClaim.
-- Which of refusals 5 to 9 and 23 a rule in bytes meets, computed: the twin of `First rule_conditions`. Each is answered over the whole
-- input before the next.
use mathlib.Core.{Bool.{Bool, not, ◌&&◌}, Option.{Option}, List.{List}}
use Rattle.std.specs.Prelude.{ℕ, ◌+◌, ◌*◌, ◌/◌, ◌%◌}
use lib.{Dec.{eqb, ltb, leb}, ListN.{length, get_or}}
use Rattle.theory.specs.{Formula.{Formula}, BinderDepth.{binder_depth}}
use Rattle.refusal.specs.{RefusalAnswers.{or_else, plain_unless, at_found}, declared.Refusal.{Refusal}}
use Rattle.values.specs.{declared.ValueKind.{ValueKind}, ValueTests.{value_fits}, Setup.{value_from}}
use Rattle.limits.specs.Limits.{node_limit, binder_limit}
use Rattle.formulas.specs.RuleConditions.{node_width}
use Rattle.formulas.specs.RuleReading.{lowest_from, kind_of, fields_fit, end_fault, formula_read, lowest_unbound, lowest_unprotected}
use Rattle.refusal.specs.declared.Refusal.TheVariants.{BinderDepth, NodeCount, NodeFields, NodeTree, UnboundVariable, UnprotectedVariable}

-- Of 5: so many bytes are 1 to `limit` whole nodes.
unfoldable pub count_fits : ℕ → ℕ → ℕ → Bool
count_fits width limit n = eqb (n % width) 0 && (ltb 0 (n / width) && leb (n / width) limit)

-- 23 for a formula: a path with more V nodes than the limit.
unfoldable pub depth_refusal : {B : Type 0} → Formula B → Option Refusal
depth_refusal φ = plain_unless (leb (binder_depth φ) binder_limit) BinderDepth

-- 8, 23 and 9 for a formula: every variable is judged by 8 before any is by 9.
unfoldable pub variables_refusal : {B : Type 0} → Formula B → Option Refusal
variables_refusal φ = or_else (at_found (lowest_unbound 0 0 φ) UnboundVariable) (or_else (depth_refusal φ)
    (at_found (lowest_unprotected 0 0 φ) UnprotectedVariable))

module _ (kind first value : ℕ → ℕ) (count : ℕ) where
  -- 7 to 9.
  unfoldable pub structure_refusal : Option Refusal
  structure_refusal = or_else (at_found (end_fault kind 1 count 0) NodeTree) (variables_refusal (formula_read kind first value count))

  module _ (fits : ℕ → Bool) (events : ℕ) where
    -- 6: the lowest node whose fields do not fit; `fits` says which values do.
    unfoldable pub misfit_place : Option ℕ
    misfit_place = lowest_from (λ i. not (fields_fit events (kind_of (kind i)) (first i) (value i) (fits (value i)))) count 0

    -- 6 and 7.
    unfoldable pub tree_refusal : Option Refusal
    tree_refusal = or_else (at_found misfit_place NodeFields) (at_found (end_fault kind 1 count 0) NodeTree)

    -- 6 to 9.
    unfoldable pub nodes_refusal : Option Refusal
    nodes_refusal = or_else (at_found misfit_place NodeFields) structure_refusal

    -- 5 to 9, where the nodes' fields are at hand: 5 by their count alone.
    unfoldable pub fields_refusal : Option Refusal
    fields_refusal = or_else (plain_unless (ltb 0 count && leb count node_limit) NodeCount) nodes_refusal

-- The fields of node i, in the bytes that nodes have with values of a kind.
module _ (kind : ValueKind) (bytes : List ℕ) where
  abbrev pub kind_at : ℕ → ℕ
  kind_at i = get_or bytes (i * node_width kind) 0

  abbrev pub first_at : ℕ → ℕ
  first_at i = get_or bytes (i * node_width kind + 1) 0

  abbrev pub value_at : ℕ → ℕ
  value_at i = value_from kind bytes (i * node_width kind + 2)

-- 5 to 9 for a set-up's count of events and kind of values.
unfoldable pub rule_refusal : ℕ → ValueKind → List ℕ → Option Refusal
rule_refusal events kind bytes =
    or_else (plain_unless (count_fits (node_width kind) node_limit (length bytes)) NodeCount)
    (nodes_refusal (kind_at kind bytes) (first_at kind bytes) (value_at kind bytes) (length bytes / node_width kind) (value_fits kind) events)

-- The formula that accepted bytes are.
unfoldable pub formula_of : ValueKind → List ℕ → Formula ℕ
formula_of kind bytes = formula_read (kind_at kind bytes) (first_at kind bytes) (value_at kind bytes) (length bytes / node_width kind)
