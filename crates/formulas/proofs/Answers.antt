-- The answers of 5 to 9 and 23, one after the other, and that they depend on the nodes' fields alone.
use mathlib.Core.{Path.{◌≡◌, refl, sym, ◌∙◌, ap, ap₂}, Bool.{Bool, true, false, not, ◌&&◌}, Option.{Option, none, some, some-ne-none}}
use mathlib.Core.List.{◌∷◌}
use Prim.Native.Nat.{ℕ, zero, suc, ◌+◌, ◌≤◌, ◌<◌}
use native.Mathlib.Omega.{arith}
use lib.Dec.{ltb, leb}
use borrow.Author.Tests.{not-false, lt-ltb, le-ltb, le-leb, lt-leb}
use Rattle.theory.specs.{Formula.{Formula, size}, BinderDepth.{binder_depth}}
use Rattle.refusal.specs.RefusalAnswers.{or_else, plain_unless, at_found, judgement}
use Rattle.refusal.specs.declared.Refusal.{Refusal}
use Rattle.refusal.proofs.Refusals.{or_else_assoc, or_else_none, judgement_refused}
use Rattle.formulas.specs.NodeReading.{Reads}
use Rattle.formulas.specs.RuleReading.{first_of, kind_of, fields_fit, awaited, end_fault, node_of, nodes_from, formulas, first_formula, formula_read}
use Rattle.formulas.specs.RuleReading.{lowest_unbound, lowest_deep, lowest_unprotected}
use Rattle.formulas.specs.RuleRefusal.{depth_refusal, variables_refusal, structure_refusal, misfit_place, tree_refusal, nodes_refusal, fields_refusal}
use Rattle.formulas.specs.NodeWalks.{noted, Keeps}
use Rattle.formulas.proofs.{KindFacts.{fit_known}, Search.{lowest_clear, lowest_same}, Prefix.{no_fault}, Reading.{whole_read}}
use Rattle.formulas.proofs.Depth.{found_deep, clear_shallow}
use Rattle.limits.specs.Limits.{node_limit, binder_limit}
use Rattle.refusal.specs.declared.Refusal.TheVariants.{BinderDepth, NodeCount, NodeFields, NodeTree, UnboundVariable, UnprotectedVariable}
use Rattle.std.specs.Prelude.{Some, None, Err}

-- Every kind is known.
abbrev KnownKinds : (ℕ → ℕ) → ℕ → Type 0
KnownKinds kind count = (i : ℕ) → i < count → kind i < 6

-- A note that was clear before, taken back to the place.
pub kept_place : (o : Option ℕ) (i : ℕ) → Keeps o None (Some i) → o ≡ some i
unfolding noted first_of
kept_place o i w = sym w

pub kept_clear : (o : Option ℕ) → Keeps o None None → o ≡ none
unfolding noted first_of
kept_clear o w = sym w

pub place_unmet : (o : Option ℕ) (given : ℕ → Refusal) → at_found o given ≡ none → o ≡ none
unfolding at_found
place_unmet none given e = refl
place_unmet (some p) given e = absurd (some-ne-none (given p) e)

-- The first of two answers.
pub first_answer : (o : Option ℕ) (given : ℕ → Refusal) (p : ℕ) (later : Option Refusal) → o ≡ some p
    → or_else (at_found o given) later ≡ some (given p)
unfolding or_else at_found
first_answer o given p later e = ap (λ x. or_else (at_found x given) later) e

pub later_answer : (o : Option ℕ) (given : ℕ → Refusal) (later : Option Refusal) → o ≡ none → or_else (at_found o given) later ≡ later
unfolding or_else at_found
later_answer o given later e = ap (λ x. or_else (at_found x given) later) e

module _ (φ : Formula ℕ) where
  pub answer_unbound : (p : ℕ) → lowest_unbound 0 0 φ ≡ some p → variables_refusal φ ≡ some (UnboundVariable p)
  unfolding variables_refusal
  answer_unbound p e = first_answer (lowest_unbound 0 0 φ) UnboundVariable p (or_else (depth_refusal φ)
      (at_found (lowest_unprotected 0 0 φ) UnprotectedVariable)) e

  pub answer_deep : lowest_unbound 0 0 φ ≡ none → (p : ℕ) → lowest_deep binder_limit 0 0 φ ≡ some p → variables_refusal φ ≡ some BinderDepth
  unfolding variables_refusal depth_refusal plain_unless or_else
  answer_deep e p d =
      later_answer (lowest_unbound 0 0 φ) UnboundVariable (or_else (depth_refusal φ) (at_found (lowest_unprotected 0 0 φ) UnprotectedVariable)) e
      ∙ ap (λ b. or_else (plain_unless b BinderDepth) (at_found (lowest_unprotected 0 0 φ) UnprotectedVariable))
      (lt-leb (binder_depth φ) binder_limit (found_deep binder_limit φ p d))

  pub answer_unprotected : lowest_unbound 0 0 φ ≡ none → lowest_deep binder_limit 0 0 φ ≡ none → variables_refusal φ ≡ at_found (lowest_unprotected 0 0 φ)
      UnprotectedVariable
  unfolding variables_refusal depth_refusal plain_unless or_else
  answer_unprotected e d =
      later_answer (lowest_unbound 0 0 φ) UnboundVariable (or_else (depth_refusal φ) (at_found (lowest_unprotected 0 0 φ) UnprotectedVariable)) e
      ∙ ap (λ b. or_else (plain_unless b BinderDepth) (at_found (lowest_unprotected 0 0 φ) UnprotectedVariable))
      (le-leb (binder_depth φ) binder_limit (clear_shallow binder_limit φ d))

module _ (kind first value : ℕ → ℕ) (count : ℕ) where
  -- Where every kind is known and 7 is not met, the formula reads from node 0 on to the last node.
  pub formula_reads :
      KnownKinds kind count → end_fault kind 1 count 0 ≡ none
      → Reads kind first value 0 (formula_read kind first value count) × (size (formula_read kind first value count) ≡ count)
  formula_reads known e = whole_read kind first value (formula_read kind first value count) count known (no_fault kind first value count e)

  module _ (fits : ℕ → Bool) (events : ℕ) where
    -- 6, then 7.
    pub tree_misfit : (p : ℕ) → misfit_place kind first value count fits events ≡ some p → tree_refusal kind first value count fits events ≡ some (NodeFields p)
    unfolding tree_refusal
    tree_misfit p e = first_answer (misfit_place kind first value count fits events) NodeFields p (at_found (end_fault kind 1 count 0) NodeTree) e

    pub tree_end :
        misfit_place kind first value count fits events ≡ none
        → tree_refusal kind first value count fits events ≡ at_found (end_fault kind 1 count 0) NodeTree
    unfolding tree_refusal
    tree_end e = later_answer (misfit_place kind first value count fits events) NodeFields (at_found (end_fault kind 1 count 0) NodeTree) e

    -- 8 and 9 are answered after them.
    pub after_tree :
        nodes_refusal kind first value count fits events
        ≡ or_else (tree_refusal kind first value count fits events) (variables_refusal (formula_read kind first value count))
    unfolding nodes_refusal structure_refusal tree_refusal
    after_tree =
        or_else_assoc (at_found (misfit_place kind first value count fits events) NodeFields) (at_found (end_fault kind 1 count 0) NodeTree)
        (variables_refusal (formula_read kind first value count))

    -- Past 6 and 7.
    pub tree_clear :
        tree_refusal kind first value count fits events ≡ none
        → (misfit_place kind first value count fits events ≡ none) × (end_fault kind 1 count 0 ≡ none)
    unfolding tree_refusal
    tree_clear e =
        let w = or_else_none (at_found (misfit_place kind first value count fits events) NodeFields) (at_found (end_fault kind 1 count 0) NodeTree) e in
        (place_unmet (misfit_place kind first value count fits events) NodeFields w.0, place_unmet (end_fault kind 1 count 0) NodeTree w.1)

    -- 6 or 7 is met, or neither is.
    pub tree_met :
        (q : Refusal) → judgement (tree_refusal kind first value count fits events) ≡ Err q
        → nodes_refusal kind first value count fits events ≡ tree_refusal kind first value count fits events
    unfolding or_else
    tree_met q e =
        let w = judgement_refused (tree_refusal kind first value count fits events) q e in
        after_tree ∙ ap (λ o. or_else o (variables_refusal (formula_read kind first value count))) w ∙ sym w

    pub tree_unmet :
        tree_refusal kind first value count fits events ≡ none
        → nodes_refusal kind first value count fits events ≡ variables_refusal (formula_read kind first value count)
    unfolding or_else
    tree_unmet e = after_tree ∙ ap (λ o. or_else o (variables_refusal (formula_read kind first value count))) e

    -- 5 is met by the count, or is not.
    pub answer_count : (t : Bool) → (ltb 0 count && leb count node_limit) ≡ t
        → fields_refusal kind first value count fits events ≡ or_else (plain_unless t NodeCount) (nodes_refusal kind first value count fits events)
    unfolding fields_refusal
    answer_count t e = ap (λ b. or_else (plain_unless b NodeCount) (nodes_refusal kind first value count fits events)) e

    pub no_node : count ≡ 0 → fields_refusal kind first value count fits events ≡ some NodeCount
    unfolding or_else plain_unless
    no_node e = answer_count false (ap (λ b. b && leb count node_limit) (le-ltb 0 count (omega arith)))

    pub too_many : node_limit < count → fields_refusal kind first value count fits events ≡ some NodeCount
    unfolding or_else plain_unless
    too_many h =
        answer_count false (ap₂ (λ a b. a && b) (lt-ltb 0 count (omega arith)) (lt-leb count node_limit h))

    pub count_within :
        ¬ (count ≡ 0) → count ≤ node_limit
        → fields_refusal kind first value count fits events ≡ nodes_refusal kind first value count fits events
    unfolding or_else plain_unless
    count_within e h = answer_count true (ap₂ (λ a b. a && b) (lt-ltb 0 count (omega arith)) (le-leb count node_limit h))

    abbrev fit : ℕ → Bool
    fit i = fields_fit events (kind_of (kind i)) (first i) (value i) (fits (value i))

    -- Where 6 is not met, the fields of every node fit.
    pub all_fit : misfit_place kind first value count fits events ≡ none → (i : ℕ) → i < count → fit i ≡ true
    unfolding misfit_place
    all_fit e i h = not-false (fit i) (lowest_clear (λ j. not (fit j)) count 0 e i (omega arith) (omega arith))

    pub all_known : misfit_place kind first value count fits events ≡ none → KnownKinds kind count
    all_known e i h = fit_known events (first i) (value i) (fits (value i)) (kind i) (all_fit e i h)

-- Accessors that agree on the nodes give the same answers.
end_same :
    (kind other : ℕ → ℕ) (left k i : ℕ) → ((j : ℕ) → i ≤ j → j < i + left → kind j ≡ other j) → end_fault kind k left i ≡ end_fault other k left i
unfolding end_fault
end_same kind other zero zero i h = refl
end_same kind other zero (suc k) i h = refl
end_same kind other (suc left) zero i h = refl
end_same kind other (suc left) (suc k) i h =
    end_same kind other left (awaited (kind_of (kind i)) k) (suc i) (λ j l u. h j (omega arith) (omega arith))
    ∙ ap (λ x. end_fault other (awaited (kind_of x) k) left (suc i)) (h i (omega arith) (omega arith))

module _ (kind other first second value v : ℕ → ℕ) where
  pub from_same :
      (left i : ℕ) → ((j : ℕ) → i ≤ j → j < i + left → kind j ≡ other j) → ((j : ℕ) → i ≤ j → j < i + left → first j ≡ second j)
      → ((j : ℕ) → i ≤ j → j < i + left → value j ≡ v j) → nodes_from kind first value left i ≡ nodes_from other second v left i
  unfolding nodes_from
  from_same zero i h f g = refl
  from_same (suc left) i h f g =
      ap₂ (λ n l. n ∷ l)
      (ap₂ (λ x y. node_of (kind_of x) y (value i)) (h i (omega arith) (omega arith)) (f i (omega arith) (omega arith))
      ∙ ap (λ y. node_of (kind_of (other i)) (second i) y) (g i (omega arith) (omega arith)))
      (from_same left (suc i) (λ j l u. h j (omega arith) (omega arith)) (λ j l u. f j (omega arith) (omega arith)) (λ j l u. g j (omega arith) (omega arith)))

  pub refusal_same :
      (count : ℕ) (fits : ℕ → Bool) (events : ℕ) → ((j : ℕ) → j < count → kind j ≡ other j) → ((j : ℕ) → j < count → first j ≡ second j)
      → ((j : ℕ) → j < count → value j ≡ v j)
      → nodes_refusal kind first value count fits events ≡ nodes_refusal other second v count fits events
  unfolding nodes_refusal misfit_place structure_refusal formula_read
  refusal_same count fits events h f g =
      ap₂ (λ o l. or_else (at_found o NodeFields) l)
      (lowest_same
      (λ j. not (fields_fit events (kind_of (kind j)) (first j) (value j) (fits (value j))))
      (λ j. not (fields_fit events (kind_of (other j)) (second j) (v j) (fits (v j))))
      count
      0
      (λ j l u.
      ap₂ (λ x y. not (fields_fit events (kind_of x) y (value j) (fits (value j)))) (h j (omega arith)) (f j (omega arith))
      ∙ ap (λ y. not (fields_fit events (kind_of (other j)) (second j) y (fits y))) (g j (omega arith))))
      (ap₂ (λ o ns. or_else (at_found o NodeTree) (variables_refusal (first_formula (formulas ns))))
      (end_same kind other count 1 0 (λ j l u. h j (omega arith)))
      (from_same count 0 (λ j l u. h j (omega arith)) (λ j l u. f j (omega arith)) (λ j l u. g j (omega arith))))
