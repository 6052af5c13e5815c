-- `bind` meets its contract. The nodes left fall.
use borrow.Author.Rules.{rules}
use Prim.Native.Nat.{◌-◌, ℕ, ◌<◌}
use lib.{Seq.{get_or-set_same, get_or-set_other}, ListN.{get_or, length-set}}
use mathlib.Core.{Path.{◌≡◌, refl, sym, ◌∙◌, ap, subst}}
use native.Mathlib.Omega.{arith}
use Rattle.formulas.specs.declared.NodeKind.TheVariants.{Variable, Transition, Conjunction, Greatest}
use Rattle.formulas.proofs.KindFacts.{IsLeaf, leaf_read}
use Rattle.synthesis.proofs.NodeKinds.{kind_read, leaf_without, variable_without, unknown_leaf}
use Rattle.synthesis.proofs.NodeWalks.{end_none, end_leaf, end_transition, end_greatest, end_conjunction}
use Rattle.synthesis.proofs.Binding.{bound_none, bound_leaf, bound_variable, bound_transition, bound_greatest, bound_conjunction}
use Rattle.synthesis.proofs.demands.+bind.Goals as goal
use Rattle.synthesis.proofs.demands.+bind.Goals.{then-depth-lt-BINDER_LIMIT, else-depth-lt-BINDER_LIMIT}

pub returns-then-left-eq0 : goal.returns-then-left-eq0
returns-then-left-eq0 t c =
    record {
      low = search rules;
      high = search rules;
      end = end_none c.args.nodes.now.kinds _ _ c.if-left-eq0.true _;
      sizes = search rules;
      below = λ k h. refl;
      earlier = λ i h. refl;
      bound = bound_none c.args.nodes.now.kinds c.args.nodes.now.firsts _ _ _ _ c.if-left-eq0.true _;
    }

pub returns-in_default : goal.returns-in_default
returns-in_default t c =
    let l = unknown_leaf _ c.of.ensures c.in_default.is in
    record {
      low = search rules;
      high = search rules;
      end = end_leaf c.args.nodes.now.kinds _ _ (leaf_without _ l);
      sizes = search rules;
      below = λ k h. refl;
      earlier = λ i h. refl;
      bound = bound_leaf c.args.nodes.now.kinds c.args.nodes.now.firsts _ _ _ _ _ l;
    }

pub returns-in-Truth : goal.returns-in-Truth
returns-in-Truth t c =
    let l = subst IsLeaf (sym c.in-Some.is ∙ c.of.ensures) (leaf_read _ c.in-Truth.is) in
    record {
      low = search rules;
      high = search rules;
      end = end_leaf c.args.nodes.now.kinds _ _ (leaf_without _ l);
      sizes = search rules;
      below = λ k h. refl;
      earlier = λ i h. refl;
      bound = bound_leaf c.args.nodes.now.kinds c.args.nodes.now.firsts _ _ _ _ _ l;
    }

pub returns-in-Variable : goal.returns-in-Variable
returns-in-Variable t c =
    let k = kind_read _ Variable c.of.ensures c.in-Some.is c.in-Variable.is in
    record {
      low = search rules;
      high = search rules;
      end = end_leaf c.args.nodes.now.kinds _ _ (variable_without _ k);
      sizes = (search rules, simp length-set (search rules));
      below = λ k h. refl;
      earlier = λ i h. get_or-set_other c.args.binders.now c.args.at i _ 0 (λ e. omega (arith, e));
      bound = bound_variable c.args.nodes.now.kinds c.args.nodes.now.firsts _ _ _ c.args.stack.now _ k (λ h l.
          get_or-set_same c.args.binders.now c.args.at _ 0 (search rules)
          ∙ c.own_binder.ensures (omega (arith, h, c.from.ensures)) l
          ∙ ap (λ x. get_or c.args.stack.now (c.args.depth - 1 - x) 0) c.from.ensures);
    }

pub returns-in-Transition : goal.returns-in-Transition
returns-in-Transition t c =
    let k = kind_read _ Transition c.of.ensures c.in-Some.is c.in-Transition.is in
    record {
      low = search rules;
      high = search rules;
      end = end_transition c.args.nodes.now.kinds _ _ _ c.bind.ensures.end k;
      sizes = c.bind.ensures.sizes;
      below = c.bind.ensures.below;
      earlier = λ i h. c.bind.ensures.earlier i (omega arith);
      bound = bound_transition c.args.nodes.now.kinds c.args.nodes.now.firsts _ _ _ c.args.stack.now _ k c.bind.ensures.bound;
    }

pub returns-in-Conjunction : goal.returns-in-Conjunction
returns-in-Conjunction t c =
    let k = kind_read _ Conjunction c.of.ensures c.in-Some.is c.in-Conjunction.is in
    record {
      low = search rules;
      high = search rules;
      end = end_conjunction c.args.nodes.now.kinds _ _ c.bind-second.result _ c.bind-second.ensures.end c.bind-in-Conjunction.ensures.end k;
      sizes = c.bind-in-Conjunction.ensures.sizes;
      below = λ i h. c.bind-in-Conjunction.ensures.below i h ∙ c.bind-second.ensures.below i h;
      earlier = λ i h. c.bind-in-Conjunction.ensures.earlier i (omega (arith, c.bind-second.ensures.low)) ∙ c.bind-second.ensures.earlier i
          (omega arith);
      bound = bound_conjunction c.args.nodes.now.kinds c.args.nodes.now.firsts _ _ _ c.args.stack.now _ _ _ c.bind-second.result k
          c.bind-second.ensures.end
          c.bind-second.ensures.bound c.bind-second.ensures.below c.bind-in-Conjunction.ensures.earlier c.bind-in-Conjunction.ensures.bound;
    }

pub returns-after-depth-lt-BINDER_LIMIT : goal.returns-after-depth-lt-BINDER_LIMIT
returns-after-depth-lt-BINDER_LIMIT t c =
    let k = kind_read _ Greatest c.of.ensures c.in-Some.is c.in-Greatest.is in
    let rest : (i : ℕ) → i < c.args.depth → get_or c.if-depth-lt-BINDER_LIMIT.stack i 0 ≡ get_or c.args.stack.now i 0 = λ i h. elim
    c.if-depth-lt-BINDER_LIMIT.branch [
      | then-depth-lt-BINDER_LIMIT w ↦ ap (λ l. get_or l i 0) w.stack-is ∙ get_or-set_other c.args.stack.now c.args.depth i _ 0 (λ e. omega (arith, e))
      | else-depth-lt-BINDER_LIMIT w ↦ ap (λ l. get_or l i 0) w.stack-is
    ] in
    record {
      low = search rules;
      high = search rules;
      end = end_greatest c.args.nodes.now.kinds _ _ _ c.bind-in-Greatest.ensures.end k;
      sizes = c.bind-in-Greatest.ensures.sizes;
      below = λ i h. c.bind-in-Greatest.ensures.below i (omega arith) ∙ rest i h;
      earlier = λ i h. c.bind-in-Greatest.ensures.earlier i (omega arith);
      bound = bound_greatest c.args.nodes.now.kinds c.args.nodes.now.firsts _ _ _ c.args.stack.now _ _ k
          (λ l. elim c.if-depth-lt-BINDER_LIMIT.branch [
            | then-depth-lt-BINDER_LIMIT w ↦ ap (λ s. get_or s c.args.depth 0) w.stack-is
                ∙ get_or-set_same c.args.stack.now c.args.depth _ 0 (search rules)
            | else-depth-lt-BINDER_LIMIT w ↦ absurd (omega (arith, l, w.if-depth-lt-BINDER_LIMIT.false))
          ])
          rest c.bind-in-Greatest.ensures.bound;
    }
