-- `fill_ends` meets its contract. The loop's invariant: the nodes passed have the nodes after their formulas.
use Prim.Native.Nat.{◌≤◌, ◌-◌, ◌+◌, suc}
use mathlib.Core.Path.{◌≡◌, subst}
use native.Mathlib.Omega.{arith}
use lib.ListN.{get_or}
use Rattle.limits.specs.Limits.{node_limit}
use Rattle.synthesis.specs.NodeWalks.{EndsFrom}
use Rattle.synthesis.proofs.NodeWalks.{ends_last, ends_more}
use borrow.Author.Rules.{rules}
use Rattle.synthesis.proofs.demands.fill_ends.Goals as goal

pub loop-i-init : goal.loop-i-init
loop-i-init c =
    (search rules, search rules, ends_last c.args.nodes.now.kinds c.args.ends.now c.args.nodes.now.count (search rules))

pub end_of-requires : goal.end_of-requires
end_of-requires c =
    let n : c.loop-i.i ≡ c.loop-i.i - 1 + 1 = omega arith in
    let w = c.loop-i.invariant.2 c.loop-i.i (omega arith) (omega arith) in
    (search rules, subst (λ x. get_or c.loop-i.ends x 0 ≤ node_limit) n (omega (arith, w.high)))

pub loop-i-preserved : goal.loop-i-preserved
loop-i-preserved c =
    let n : c.loop-i.i ≡ suc (c.loop-i.i - 1) = omega arith in (
      search rules,
      search rules,
      ends_more c.args.nodes.now.kinds c.loop-i.ends c.args.nodes.now.count (c.loop-i.i - 1) _ (omega arith) (omega (arith, c.loop-i.invariant.1))
          c.end_of.ensures
          (subst (λ x. EndsFrom c.args.nodes.now.kinds c.args.nodes.now.count c.loop-i.ends x) n c.loop-i.invariant.2),
    )

pub returns : goal.returns
returns c =
    let n : c.loop-i.i ≡ 0 = omega arith in
    (subst (λ x. EndsFrom c.args.nodes.now.kinds c.args.nodes.now.count c.loop-i.ends x) n c.loop-i.invariant.2)
