-- `fill_rows` meets its contract. The loop's invariant: the rows of the root's formula and of the parts of the transitions passed have
-- their demands.
use borrow.Author.Rules.{rules}
use Prim.Native.Nat.{◌+◌}
use mathlib.Core.{Path.{◌≡◌, sym, ◌∙◌, subst}}
use native.Mathlib.Omega.{arith}
use Rattle.synthesis.specs.{NodeWalks.{EndsFrom}, DemandRows.{RowsTo}}
use Rattle.synthesis.proofs.DemandRows.{rows_root, rows_part, rows_other}
use Rattle.synthesis.proofs.demands.fill_rows.Goals as goal
use Rattle.synthesis.proofs.demands.fill_rows.Goals.{then-nodes-i, else-nodes-i}

pub gather-requires : goal.gather-requires
gather-requires c = (search rules, subst (λ m. EndsFrom c.args.nodes.now.kinds m c.args.ends.now 0) (omega arith) c.requires.1)

pub loop-i-init : goal.loop-i-init
loop-i-init c = rows_root c.args.nodes.now.kinds c.args.binders.now c.args.nodes.now.count _ _ _ c.gather.ensures

pub gather-requires-then-nodes-i : goal.gather-requires-then-nodes-i
gather-requires-then-nodes-i c = (search rules, subst (λ m. EndsFrom c.args.nodes.now.kinds m c.args.ends.now 0) (omega arith) c.requires.1)

pub loop-i-preserved : goal.loop-i-preserved
loop-i-preserved c =
    elim c.if-nodes-i.branch [
      | then-nodes-i w ↦ subst (λ x. RowsTo c.args.nodes.now.kinds c.args.binders.now c.args.nodes.now.count x (c.loop-i.i + 1)) (sym w.rows-is)
          (rows_part c.args.nodes.now.kinds c.args.binders.now c.args.nodes.now.count c.loop-i.rows _ c.loop-i.i _
          (w.if-nodes-i.true ∙ c.number-transition.ensures) w.gather-then-nodes-i.ensures c.loop-i.invariant)
      | else-nodes-i w ↦ subst (λ x. RowsTo c.args.nodes.now.kinds c.args.binders.now c.args.nodes.now.count x (c.loop-i.i + 1)) (sym w.rows-is)
          (rows_other c.args.nodes.now.kinds c.args.binders.now c.args.nodes.now.count c.loop-i.rows c.loop-i.i
          (λ e. w.if-nodes-i.false (e ∙ sym c.number-transition.ensures)) c.loop-i.invariant)
    ]

pub returns : goal.returns
returns c =
    let e : c.loop-i.i ≡ c.args.nodes.now.count = omega arith in
    subst (λ n. RowsTo c.args.nodes.now.kinds c.args.binders.now c.args.nodes.now.count c.loop-i.rows n) e c.loop-i.invariant
