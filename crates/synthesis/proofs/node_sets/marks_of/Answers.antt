-- `marks_of` meets its contract. The loop's invariant: the nodes before i are marked where they are of the kind.
use mathlib.Core.{Path.{◌≡◌, refl, sym, subst}}
use Prim.Native.Nat.{◌+◌}
use native.Mathlib.Omega.{arith}
use lib.ListN.{length, replicate, length-set, get_or-replicate}
use Rattle.synthesis.specs.{NodeWords.{set_words}, MarkedNodes.{Marks}}
use Rattle.synthesis.proofs.MarkedNodes.{marks_none, marks_with, marks_without}
use Rattle.synthesis.proofs.node_sets.marks_of.Goals as goal
use Rattle.synthesis.proofs.node_sets.marks_of.Goals.{then-nodes-i, else-nodes-i}

pub loop-i-init : goal.loop-i-init
loop-i-init c = (
  refl,
  marks_none c.args.nodes.now.kinds c.number-number.result (replicate set_words 0) (λ w h. get_or-replicate set_words w 0 0 h),
)

pub returns : goal.returns
returns c =
    let done : c.loop-i.i ≡ c.args.nodes.now.count = omega arith in
    subst (λ k. Marks c.args.nodes.now.kinds c.args.nodes.now.count k c.loop-i.marks) c.number-number.ensures
    (subst (λ x. Marks c.args.nodes.now.kinds x c.number-number.result c.loop-i.marks) done c.loop-i.invariant.1)

pub loop-i-preserved : goal.loop-i-preserved
loop-i-preserved c = (
  elim c.if-nodes-i.branch [
    | then-nodes-i w ↦ subst (λ m. length m ≡ set_words) (sym w.marks-is) (simp length-set c.loop-i.invariant.0)
    | else-nodes-i w ↦ subst (λ m. length m ≡ set_words) (sym w.marks-is) c.loop-i.invariant.0
  ],
  elim c.if-nodes-i.branch [
    | then-nodes-i w ↦ subst (λ m. Marks c.args.nodes.now.kinds (c.loop-i.i + 1) c.number-number.result m) (sym w.marks-is)
        (marks_with c.args.nodes.now.kinds c.number-number.result c.loop-i.marks c.loop-i.i (omega arith) c.loop-i.invariant.1 _ c.loop-i.invariant.0
        w.power.ensures w.if-nodes-i.true)
    | else-nodes-i w ↦ subst (λ m. Marks c.args.nodes.now.kinds (c.loop-i.i + 1) c.number-number.result m) (sym w.marks-is)
        (marks_without c.args.nodes.now.kinds c.number-number.result c.loop-i.marks c.loop-i.i (omega arith) c.loop-i.invariant.1 w.if-nodes-i.false)
  ],
)
