-- `explore` meets its contract. The loop's invariant: the states kept and the entries are those of the sequences explored so far,
-- no two states are the same, and each is linked to from the head of its place.
use borrow.Author.Rules.{rules}
use Prim.Native.Nat.{suc}
use mathlib.Core.{List.{[]}, Path.{◌≡◌, refl, ◌∙◌, ap}}
use lib.{ListN.{get_or, length-set}, Seq.{get_or-set_same}}
use native.Mathlib.Omega.{arith}
use Rattle.synthesis.specs.{NodeWords.{set_bits}, Exploring.{next_bits}}
use Rattle.synthesis.specs.StatePlaces.{place_count}
use Rattle.synthesis.proofs.{Exploring.{kept_start, row_kept, row_over, all_kept}, StatePlaces.{chained_one, getD_zeros}}
use Rattle.synthesis.proofs.exploration.explore.Goals as goal

pub loop-i-init : goal.loop-i-init
loop-i-init c = (
  search rules,
  search rules,
  search rules,
  search rules,
  kept_start (next_bits c.args.nodes.now.kinds c.args.nodes.now.firsts c.args.rows.now c.args.nodes.now.count) c.args.rows.now c.args.events _ c.args.nexts.now
      (ap set_bits (get_or-set_same c.args.states.now 0 (get_or c.args.rows.now 0 []) [] (omega arith))),
  (λ j i h u. absurd (omega (arith, h, u))),
  chained_one _ _ _ (getD_zeros place_count),
)

pub expand-requires : goal.expand-requires
expand-requires c = (
  search rules,
  search rules,
  search rules,
  search rules,
  search rules,
  search rules,
  c.loop-i.invariant.5,
  c.loop-i.invariant.6,
)

pub returns-in_err-n : goal.returns-in_err-n
returns-in_err-n c =
    let nb = next_bits c.args.nodes.now.kinds c.args.nodes.now.firsts c.args.rows.now c.args.nodes.now.count in
    rw c.from_residual.ensures (record {
      sizes = (c.expand.ensures.sizes.0 ∙ c.loop-i.invariant.2 ∙ length-set c.args.states.now 0 _, c.expand.ensures.sizes.1 ∙ c.loop-i.invariant.3);
      few = tt;
      counted = record {
        at_most = omega arith;
        all = λ h. absurd (omega (arith, h));
        more = λ h. row_over nb c.args.rows.now c.args.events c.args.limit c.loop-i.i c.loop-i.n (suc c.args.limit) c.loop-i.states
            c.loop-i.nexts _ _ c.loop-i-test.true c.loop-i.invariant.4
            (c.in_err-n.ensures.expanded c.args.nodes.now.kinds c.args.nodes.now.count c.marks_of-marks.ensures) refl
            (omega (arith, c.loop-i-test.true, c.loop-i.invariant.1));
      };
    })

pub loop-i-preserved : goal.loop-i-preserved
loop-i-preserved c =
    let nb = next_bits c.args.nodes.now.kinds c.args.nodes.now.firsts c.args.rows.now c.args.nodes.now.count in (
      omega (arith, c.loop-i-test.true, c.in_ok-n.ensures.found.0),
      c.in_ok-n.ensures.found.1,
      c.expand.ensures.sizes.0 ∙ c.loop-i.invariant.2,
      c.expand.ensures.sizes.1 ∙ c.loop-i.invariant.3,
      row_kept nb c.args.rows.now c.args.events c.args.limit c.loop-i.i c.loop-i.n c.in_ok-n.n c.loop-i.states c.loop-i.nexts _
          _ c.loop-i-test.true c.loop-i.invariant.4 (c.in_ok-n.ensures.expanded c.args.nodes.now.kinds c.args.nodes.now.count c.marks_of-marks.ensures)
          c.in_ok-n.ensures.found.1,
      c.in_ok-n.ensures.found.2,
      c.in_ok-n.ensures.found.3,
    )

pub returns : goal.returns
returns c =
    let q : c.loop-i.n ≡ c.loop-i.i = omega arith in
    let nb = next_bits c.args.nodes.now.kinds c.args.nodes.now.firsts c.args.rows.now c.args.nodes.now.count in
    record {
      sizes = (c.loop-i.invariant.2 ∙ length-set c.args.states.now 0 _, c.loop-i.invariant.3);
      few = c.loop-i.invariant.1;
      counted = record {
        at_most = omega (arith, c.loop-i.invariant.1);
        all = λ h. all_kept nb c.args.rows.now c.args.events c.args.limit c.loop-i.i c.loop-i.n c.loop-i.states c.loop-i.nexts q (search rules)
            c.loop-i.invariant.4;
        more = λ h. absurd (omega (arith, h, c.loop-i.invariant.1));
      };
    }
