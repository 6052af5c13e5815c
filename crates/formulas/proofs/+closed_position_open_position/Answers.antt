-- `closed_position` and `open_position` meet their contracts: one step of the walk for each kind of node. The measure is the number of
-- nodes left.
use mathlib.Core.{Option.{none, some}, Bool.{cond}, Path.{sym, ◌∙◌, ap, subst}}
use Rattle.std.specs.Prelude.{Some}
use Rattle.formulas.specs.NodeWalks.{Keeps}
use Rattle.formulas.specs.declared.NodeKind.TheVariants.{Variable, Transition, Conjunction, Greatest}
use Rattle.formulas.proofs.{KindFacts.{IsLeaf, leaf_read, kind_byte}}
use Rattle.formulas.proofs.Walking.{scanned_none, scanned_leaf, scanned_variable, scanned_transition, scanned_greatest, scanned_conjunction, keeps_none}
use Rattle.formulas.proofs.Walking.{keeps_open}
use Rattle.formulas.proofs.+closed_position_open_position.Goals as goal

pub closed_position-returns-then-left-eq0 : goal.closed_position-returns-then-left-eq0
closed_position-returns-then-left-eq0 t c = scanned_none _ _ _ _ _ _ _ c.if-left-eq0.true

pub closed_position-returns-in-Variable : goal.closed_position-returns-in-Variable
closed_position-returns-in-Variable t c =
    scanned_variable _ _ _ _ _ _ _ _ c.if-left-eq0.false
    (kind_byte _ Variable (sym c.of.ensures ∙ c.in-Some.is ∙ ap Some c.in-Variable.is))
    (subst (λ x. Keeps (cond x (some c.args.at) none) c.args.faults.now.unbound c.noted-faults.result) c.unbound.ensures c.noted-faults.ensures)
    (keeps_none c.args.faults.now.too_deep)
    (subst (λ x. Keeps (cond x (some c.args.at) none) c.args.faults.now.unprotected c.noted-faults-in-Variable.result)
    c.bound_near.ensures c.noted-faults-in-Variable.ensures)

pub closed_position-returns-in-Transition : goal.closed_position-returns-in-Transition
closed_position-returns-in-Transition t c =
    scanned_transition _ _ _ _ _ _ _ _ _ c.if-left-eq0.false
    (kind_byte _ Transition (sym c.of.ensures ∙ c.in-Some.is ∙ ap Some c.in-Transition.is))
    c.open_position.ensures

pub closed_position-returns-in-Conjunction : goal.closed_position-returns-in-Conjunction
closed_position-returns-in-Conjunction t c =
    scanned_conjunction _ _ c.args.depth c.args.near _ _ _ _ _ c.closed_position-second.result _ c.if-left-eq0.false
    (kind_byte _ Conjunction (sym c.of.ensures ∙ c.in-Some.is ∙ ap Some c.in-Conjunction.is))
    c.closed_position-second.ensures c.closed_position.ensures

pub closed_position-returns-in-Greatest : goal.closed_position-returns-in-Greatest
closed_position-returns-in-Greatest t c =
    scanned_greatest _ _ c.args.depth c.args.near _ _ _ _ _ _ c.if-left-eq0.false
    (kind_byte _ Greatest (sym c.of.ensures ∙ c.in-Some.is ∙ ap Some c.in-Greatest.is))
    (keeps_none c.args.faults.now.unbound)
    (subst (λ x. Keeps (cond x (some c.args.at) none) c.args.faults.now.too_deep c.noted-faults-in-Greatest.result)
    c.path_full.ensures c.noted-faults-in-Greatest.ensures)
    (keeps_none c.args.faults.now.unprotected)
    c.closed_position-in-Greatest.ensures

pub closed_position-returns-in-Truth : goal.closed_position-returns-in-Truth
closed_position-returns-in-Truth t c =
    scanned_leaf _ _ _ _ _ _ _ c.if-left-eq0.false (subst IsLeaf (sym c.in-Some.is ∙ c.of.ensures) (leaf_read _ c.in-Truth.is))

pub closed_position-returns-in_default : goal.closed_position-returns-in_default
closed_position-returns-in_default t c =
    scanned_leaf _ _ _ _ _ _ _ c.if-left-eq0.false (subst IsLeaf (sym c.in_default.is ∙ c.of.ensures) tt)

pub open_position-returns-then-left-eq0 : goal.open_position-returns-then-left-eq0
open_position-returns-then-left-eq0 t c = scanned_none _ _ _ _ _ _ _ c.if-left-eq0.true

pub open_position-returns-in-Variable : goal.open_position-returns-in-Variable
open_position-returns-in-Variable t c =
    scanned_variable _ _ _ _ _ _ _ _ c.if-left-eq0.false
    (kind_byte _ Variable (sym c.of.ensures ∙ c.in-Some.is ∙ ap Some c.in-Variable.is))
    (subst (λ x. Keeps (cond x (some c.args.at) none) c.args.faults.now.unbound c.noted-faults.result) c.unbound.ensures c.noted-faults.ensures)
    (keeps_none c.args.faults.now.too_deep)
    (keeps_open _ c.args.at c.args.faults.now.unprotected)

pub open_position-returns-in-Transition : goal.open_position-returns-in-Transition
open_position-returns-in-Transition t c =
    scanned_transition _ _ _ _ _ _ _ _ _ c.if-left-eq0.false
    (kind_byte _ Transition (sym c.of.ensures ∙ c.in-Some.is ∙ ap Some c.in-Transition.is))
    c.open_position.ensures

pub open_position-returns-in-Conjunction : goal.open_position-returns-in-Conjunction
open_position-returns-in-Conjunction t c =
    scanned_conjunction _ _ c.args.depth 0 _ _ _ _ _ c.open_position-second.result _ c.if-left-eq0.false
    (kind_byte _ Conjunction (sym c.of.ensures ∙ c.in-Some.is ∙ ap Some c.in-Conjunction.is))
    c.open_position-second.ensures c.open_position-in-Conjunction.ensures

pub open_position-returns-in-Greatest : goal.open_position-returns-in-Greatest
open_position-returns-in-Greatest t c =
    scanned_greatest _ _ c.args.depth 0 _ _ _ _ _ _ c.if-left-eq0.false
    (kind_byte _ Greatest (sym c.of.ensures ∙ c.in-Some.is ∙ ap Some c.in-Greatest.is))
    (keeps_none c.args.faults.now.unbound)
    (subst (λ x. Keeps (cond x (some c.args.at) none) c.args.faults.now.too_deep c.noted-faults-in-Greatest.result)
    c.path_full.ensures c.noted-faults-in-Greatest.ensures)
    (keeps_none c.args.faults.now.unprotected)
    c.closed_position.ensures

pub open_position-returns-in-Truth : goal.open_position-returns-in-Truth
open_position-returns-in-Truth t c =
    scanned_leaf _ _ _ _ _ _ _ c.if-left-eq0.false (subst IsLeaf (sym c.in-Some.is ∙ c.of.ensures) (leaf_read _ c.in-Truth.is))

pub open_position-returns-in_default : goal.open_position-returns-in_default
open_position-returns-in_default t c =
    scanned_leaf _ _ _ _ _ _ _ c.if-left-eq0.false (subst IsLeaf (sym c.in_default.is ∙ c.of.ensures) tt)
