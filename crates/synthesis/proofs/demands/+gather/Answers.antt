-- `gather` meets its contract. The nodes left fall.
use mathlib.Core.{List.{[]}, Path.{refl, sym, ◌∙◌, ap, subst}}
use Prim.Native.Nat.{◌+◌}
use lib.ListN.{get_or, replicate}
use Rattle.theory.specs.DemandSets.{empty, only}
use native.Mathlib.Omega.{arith}
use Rattle.std.specs.Prelude.{Some}
use Rattle.formulas.specs.declared.NodeKind.TheVariants.{Variable, Transition, Output, Conjunction, Greatest}
use Rattle.synthesis.specs.{NodeWords.{row}, NodeWalks.{EndsFrom}}
use Rattle.synthesis.proofs.NodeKinds.{IsTruth, kind_read, leaf_without, variable_without, output_without, unknown_leaf, leaf_parts}
use Rattle.synthesis.proofs.NodeWords.{no_nodes}
use Rattle.synthesis.proofs.NodeWalks.{end_leaf, transition_end}
use Rattle.synthesis.proofs.DemandRows.{row_stored, gathered_none, gathered_one, gathers_truth, gathers_variable, gathers_transition, gathers_output}
use Rattle.synthesis.proofs.DemandRows.{gathered_greatest, gathered_conjunction}
use mathlib.Core.Logic.{inl}
use borrow.Author.Rules.{rules}
use Rattle.synthesis.proofs.demands.+gather.Goals as goal

pub returns-then-left-eq0 : goal.returns-then-left-eq0
returns-then-left-eq0 t c = gathered_none c.args.nodes.now.kinds c.args.binders.now _ _ c.if-left-eq0.true _

pub returns-in_default : goal.returns-in_default
returns-in_default t c =
    let s = row_stored c.args.at (replicate 4 0) c.args.rows.now empty (omega arith) no_nodes in
    gathered_one c.args.nodes.now.kinds c.args.binders.now _ _ _ _ _ s _ (search rules) (search rules)
    (end_leaf c.args.nodes.now.kinds _ _ (leaf_without _ (unknown_leaf _ c.of.ensures c.in_default.is)))
    (gathers_truth c.args.nodes.now.kinds c.args.binders.now _ _ _ _ _ s refl (subst IsTruth (sym c.in_default.is ∙ c.of.ensures) tt))

pub returns-in-Truth : goal.returns-in-Truth
returns-in-Truth t c =
    let s = row_stored c.args.at (replicate 4 0) c.args.rows.now empty (omega arith) no_nodes in
    gathered_one c.args.nodes.now.kinds c.args.binders.now _ _ _ _ _ s _ (search rules) (search rules)
    (end_leaf c.args.nodes.now.kinds _ _ (leaf_parts _ c.of.ensures c.in-Some.is (inl c.in-Truth.is)))
    (gathers_truth c.args.nodes.now.kinds c.args.binders.now _ _ _ _ _ s refl
    (subst IsTruth (ap Some (sym c.in-Truth.is) ∙ sym c.in-Some.is ∙ c.of.ensures) tt))

pub returns-in-Variable : goal.returns-in-Variable
returns-in-Variable t c =
    let k = kind_read _ Variable c.of.ensures c.in-Some.is c.in-Variable.is in
    let s = row_stored c.args.at (get_or c.args.rows.now c.from-binder.result []) c.args.rows.now (row c.args.rows.now c.from-binder.result)
    (omega arith) refl in
    gathered_one c.args.nodes.now.kinds c.args.binders.now _ _ _ _ _ s _ (search rules) (search rules)
    (end_leaf c.args.nodes.now.kinds _ _ (variable_without _ k))
    (gathers_variable c.args.nodes.now.kinds c.args.binders.now _ _ _ _ _ s (ap (row c.args.rows.now) c.from-binder.ensures) k)

pub returns-in-Transition : goal.returns-in-Transition
returns-in-Transition t c =
    let k = kind_read _ Transition c.of.ensures c.in-Some.is c.in-Transition.is in
    let w = transition_end c.args.nodes.now.kinds c.args.ends.now c.args.at c.args.left (omega arith) c.requires.1 k in
    let s = row_stored c.args.at c.set_single.new.set c.args.rows.now (only c.args.at) (omega arith) c.set_single.ensures in
    gathered_one c.args.nodes.now.kinds c.args.binders.now _ _ _ _ _ s _ w.0 w.1.high w.1.end
    (gathers_transition c.args.nodes.now.kinds c.args.binders.now _ _ _ _ _ s refl k)

pub returns-in-Output : goal.returns-in-Output
returns-in-Output t c =
    let k = kind_read _ Output c.of.ensures c.in-Some.is c.in-Output.is in
    let s = row_stored c.args.at c.set_single-in-Output.new.set c.args.rows.now (only c.args.at) (omega arith) c.set_single-in-Output.ensures in
    gathered_one c.args.nodes.now.kinds c.args.binders.now _ _ _ _ _ s _ (search rules) (search rules)
    (end_leaf c.args.nodes.now.kinds _ _ (output_without _ k))
    (gathers_output c.args.nodes.now.kinds c.args.binders.now _ _ _ _ _ s refl k)

pub gather-second-requires : goal.gather-second-requires
gather-second-requires t c =
    (search rules, (search rules, subst (λ m. EndsFrom c.args.nodes.now.kinds m c.args.ends.now 0) (omega arith) c.requires.1))

pub gather-end-requires : goal.gather-end-requires
gather-end-requires t c =
    (search rules, (search rules, subst (λ m. EndsFrom c.args.nodes.now.kinds m c.args.ends.now 0) (omega arith) c.requires.1))

pub returns-in-Conjunction : goal.returns-in-Conjunction
returns-in-Conjunction t c =
    gathered_conjunction c.args.nodes.now.kinds c.args.binders.now _ _ _ _ _ _ c.gather-second.result _
    c.gather-second.ensures c.gather-end.ensures (row_stored c.args.at c.unite.result _ _ (omega arith) c.unite.ensures) (omega arith)
    (kind_read _ Conjunction c.of.ensures c.in-Some.is c.in-Conjunction.is)

pub gather-end-requires-in-Greatest : goal.gather-end-requires-in-Greatest
gather-end-requires-in-Greatest t c =
    (search rules, (search rules, subst (λ m. EndsFrom c.args.nodes.now.kinds m c.args.ends.now 0) (omega arith) c.requires.1))

pub returns-in-Greatest : goal.returns-in-Greatest
returns-in-Greatest t c =
    gathered_greatest c.args.nodes.now.kinds c.args.binders.now _ _ _ _ _ _ c.gather-end-in-Greatest.ensures
    (row_stored c.args.at (get_or c.gather-end-in-Greatest.new.rows (c.args.at + 1) []) c.gather-end-in-Greatest.new.rows _ (omega arith) refl)
    (omega arith) (kind_read _ Greatest c.of.ensures c.in-Some.is c.in-Greatest.is)
