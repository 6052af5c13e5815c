-- `find` meets its contract. The loop's invariant: a state that is the set is linked to from state j on.
use mathlib.Core.{List.{[]}, Path.{sym, ◌∙◌, ap, subst}}
use Prim.Native.Nat.{◌<◌}
use native.Mathlib.Omega.{arith}
use lib.ListN.{get_or}
use Rattle.synthesis.specs.{NodeWords.{set_bits, bits_at}, StatePlaces.{Linked}}
use Rattle.synthesis.proofs.StatePlaces.{place_same, place_below, leave}
use Rattle.synthesis.proofs.exploration.Places.find.Goals as goal

pub bounds-self-place : goal.bounds-self-place
bounds-self-place c =
    omega (arith, place_below _ _ c.requires.2)

pub loop-n-init : goal.loop-n-init
loop-n-init c = (
  subst (λ x. x < c.args.n) (sym c.from-j.ensures) (c.requires.4.heads_are c.args.place),
  λ i h e. subst (λ x. Linked c.args.self.now.links x i)
      (ap (λ p. get_or c.args.self.now.heads p 0) (place_same (get_or c.args.states.now i []) c.args.set.now e ∙ sym c.requires.2) ∙ sym c.from-j.ensures)
      (c.requires.4.linked i h),
)

pub returns-then-same : goal.returns-then-same
returns-then-same c =
    let here = ap set_bits (c.same.ensures.0 c.if-same.true) in
    record {
      few = c.loop-n.invariant.0;
      found = record {
        low = omega (arith, c.loop-n.invariant.0);
        before = λ i h e. c.requires.3 i c.loop-n.j h c.loop-n.invariant.0 (e ∙ sym here);
        here = λ h. here;
      };
    }

pub returns-then-j-next : goal.returns-then-j-next
returns-then-j-next c =
    let other = c.same.ensures.1 c.if-same.false in
    record {
      few = tt;
      found = record {
        low = omega arith;
        before = λ i h e. omega (
          arith,
          c.if-j-next.true,
          c.from-next.ensures,
          (leave (c.loop-n.invariant.1 i h e) (λ q. other (ap (bits_at c.args.states.now) q ∙ e))).0,
        );
        here = λ h. absurd (omega (arith, h));
      };
    }

pub loop-n-preserved : goal.loop-n-preserved
loop-n-preserved c =
    let other = c.same.ensures.1 c.if-same.false in (
      omega (arith, c.if-j-next.false, c.loop-n.invariant.0),
      λ i h e. subst (λ x. Linked c.args.self.now.links x i) (sym c.from-next.ensures)
          (leave (c.loop-n.invariant.1 i h e) (λ q. other (ap (bits_at c.args.states.now) q ∙ e))).1,
    )
