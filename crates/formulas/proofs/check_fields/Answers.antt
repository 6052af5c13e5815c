-- `check_fields` meets its contract. The loop's invariant: the search from i on, and the walk from `used` on, find what those from 0 on do.
use Prim.Native.Nat.{◌+◌, ◌-◌}
use mathlib.Core.{Path.{subst, ◌≡◌, sym, ◌∙◌, ap}, Option.{some}, Bool.{true, false, not}}
use Rattle.formulas.proofs.{Answers.{tree_misfit, tree_end}, Trees.{TreeTo, tree_start, tree_node, tree_over}}
use Rattle.formulas.proofs.{Ends.{end_over, end_short, end_none}, Search.{lowest_here, lowest_end}}
use Rattle.formulas.specs.{NodeWalks.{field}, RuleRefusal.{misfit_place}, RuleReading.{kind_of, fields_fit, awaited}}
use Rattle.refusal.specs.{RefusalAnswers.{at_found, judgement}, declared.Refusal.TheVariants.{NodeTree}}
use lib.ListN.{get_or}
use native.Mathlib.Omega.{arith}
use Rattle.formulas.proofs.check_fields.Invariants.{misfit}
use Rattle.formulas.proofs.check_fields.Goals as goal
use Rattle.formulas.proofs.check_fields.Goals.{then-parts-ge1, else-parts-ge1}

pub loop-i-init : goal.loop-i-init
loop-i-init c = tree_start _ _ _

pub returns-then-not-fields_fit : goal.returns-then-not-fields_fit
unfolding judgement misfit_place
returns-then-not-fields_fit c =
    let t : misfit c.args.events c.args.kind c.args.nodes.now.kinds c.args.nodes.now.firsts c.args.nodes.now.values c.loop-i.i ≡ true
    = ap not (sym (c.fields_fit.ensures ∙ ap (λ k. fields_fit c.args.events k (get_or c.args.nodes.now.firsts c.loop-i.i 0)
    (get_or c.args.nodes.now.values c.loop-i.i 0) c.value_fits.result) c.of-node.ensures ∙ ap
    (fields_fit c.args.events (kind_of (get_or c.args.nodes.now.kinds c.loop-i.i 0)) (get_or c.args.nodes.now.firsts c.loop-i.i 0)
    (get_or c.args.nodes.now.values c.loop-i.i 0)) c.value_fits.ensures)) ∙ ap not c.if-not-fields_fit.true in
    sym (ap judgement (tree_misfit _ _ _ _ _ _ _ (sym c.loop-i.invariant.search ∙ lowest_here _ c.args.nodes.now.count c.loop-i.i
    c.loop-i-test.true t)))

pub returns-then-parts-gt0 : goal.returns-then-parts-gt0
unfolding judgement misfit_place at_found
returns-then-parts-gt0 c =
    let e : c.loop-i.used ≡ c.args.nodes.now.count = omega (arith, c.loop-i.invariant.together c.if-parts-gt0.true, c.loop-i.invariant.within) in
    sym (ap judgement (tree_end _ _ _ _ _ _ (sym c.loop-i.invariant.search ∙ lowest_end _ (c.args.nodes.now.count - c.loop-i.i) c.loop-i.i (omega arith)) ∙ ap
    (λ o. at_found o NodeTree)
    (sym c.loop-i.invariant.walk ∙ end_short _ c.loop-i.parts (c.args.nodes.now.count - c.loop-i.used) c.loop-i.used c.if-parts-gt0.true (omega (arith, e))
    ∙ ap some e)))

pub returns-then-used-nodes : goal.returns-then-used-nodes
unfolding judgement misfit_place at_found
returns-then-used-nodes c =
    sym (ap judgement (tree_end _ _ _ _ _ _ (sym c.loop-i.invariant.search ∙ lowest_end _ (c.args.nodes.now.count - c.loop-i.i) c.loop-i.i (omega arith)) ∙ ap
    (λ o. at_found o NodeTree)
    (sym c.loop-i.invariant.walk ∙ end_over _ c.loop-i.parts (c.args.nodes.now.count - c.loop-i.used) c.loop-i.used (omega (arith, c.if-parts-gt0.false))
    (omega (arith, c.if-used-nodes.true)))))

pub returns : goal.returns
unfolding judgement misfit_place at_found
returns c =
    sym (ap judgement (tree_end _ _ _ _ _ _ (sym c.loop-i.invariant.search ∙ lowest_end _ (c.args.nodes.now.count - c.loop-i.i) c.loop-i.i (omega arith)) ∙ ap
    (λ o. at_found o NodeTree)
    (sym c.loop-i.invariant.walk ∙ end_none _ c.loop-i.parts (c.args.nodes.now.count - c.loop-i.used) c.loop-i.used (omega (arith, c.if-parts-gt0.false))
    (omega (arith, c.if-used-nodes.false)))))

pub loop-i-preserved : goal.loop-i-preserved
loop-i-preserved c =
    let m = misfit c.args.events c.args.kind c.args.nodes.now.kinds c.args.nodes.now.firsts c.args.nodes.now.values in
    let k = field c.args.nodes.now.kinds in
    let t : m c.loop-i.i ≡ false
    = ap not (sym (c.fields_fit.ensures ∙ ap (λ k. fields_fit c.args.events k (get_or c.args.nodes.now.firsts c.loop-i.i 0)
    (get_or c.args.nodes.now.values c.loop-i.i 0) c.value_fits.result) c.of-node.ensures ∙ ap
    (fields_fit c.args.events (kind_of (get_or c.args.nodes.now.kinds c.loop-i.i 0)) (get_or c.args.nodes.now.firsts c.loop-i.i 0)
    (get_or c.args.nodes.now.values c.loop-i.i 0)) c.value_fits.ensures)) ∙ ap not c.if-not-fields_fit.false in
    elim c.if-parts-ge1.branch [
      | then-parts-ge1 w ↦ subst (λ u. TreeTo m k c.args.nodes.now.count c.if-parts-ge1.parts u (c.loop-i.i + 1)) (sym w.used-is)
          (tree_node m k c.args.nodes.now.count c.loop-i.parts c.loop-i.used c.loop-i.i c.loop-i.invariant c.loop-i-test.true t
          c.if-parts-ge1.parts w.if-parts-ge1.true (w.parts-is ∙ w.awaited-parts.ensures ∙ ap (λ x. awaited x (c.loop-i.parts - 1)) c.of-node.ensures))
      | else-parts-ge1 w ↦ subst (λ u. TreeTo m k c.args.nodes.now.count c.if-parts-ge1.parts u (c.loop-i.i + 1)) (sym w.used-is)
          (subst (λ p. TreeTo m k c.args.nodes.now.count p c.loop-i.used (c.loop-i.i + 1)) (sym w.parts-is)
          (tree_over m k c.args.nodes.now.count c.loop-i.parts c.loop-i.used c.loop-i.i c.loop-i.invariant c.loop-i-test.true t
          (λ h. omega (arith, h, w.if-parts-ge1.false))))
    ]
