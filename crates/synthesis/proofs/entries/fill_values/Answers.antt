-- `fill_values` meets its contract. The loop's invariant: the entries of the states passed are right.
use borrow.Author.Rules.{rules}
use Prim.Native.Nat.{ℕ, ◌≤◌, ◌<◌, ◌+◌, ◌*◌}
use mathlib.Core.Path.{◌≡◌, ◌∙◌, subst}
use native.Mathlib.{Nat.{zero-mul, add-mul, mul-le-mul_right}, Omega.{arith}}
use Rattle.values.specs.Setup.{meet_of}
use Rattle.synthesis.specs.{NodeWords.{row}, TableEntries.{state_value, EntriesTo}}
use Rattle.synthesis.proofs.TableEntries.{row_again, row_filled, row_of_marked}
use Rattle.synthesis.proofs.entries.fill_values.Goals as goal

-- The row of a state fits.
row_fits : (events n state : ℕ) → state < n → state * events + events ≤ n * events
row_fits events n state h = omega (arith, mul-le-mul_right events h, add-mul state 1 events)

pub loop-state-init : goal.loop-state-init
loop-state-init c =
    (search rules, λ x h. absurd (omega (arith, h, zero-mul c.args.events)))

pub open_row-requires : goal.open_row-requires
open_row-requires c = (
  omega (arith, c.loop-state-test.true, c.requires.1),
  search rules,
  omega
      (arith, c.requires.4, c.loop-state.invariant.0, row_fits c.args.events c.args.n c.loop-state.state c.loop-state-test.true),
)

pub meet_row-requires : goal.meet_row-requires
meet_row-requires c = (
  omega (arith, c.loop-state-test.true, c.requires.1),
  search rules,
  omega (arith, c.requires.4, c.open_row.ensures.sized, c.loop-state.invariant.0, row_fits c.args.events c.args.n c.loop-state.state c.loop-state-test.true),
)

pub loop-state-preserved : goal.loop-state-preserved
loop-state-preserved c =
    let f = state_value (meet_of c.args.value_set.kind c.args.value_set.meet.now) c.args.value_set.top c.args.nodes.now.kinds c.args.nodes.now.firsts
    c.args.nodes.now.values c.args.nodes.now.count c.args.states.now in
    let r = row_again (f c.loop-state.state) _ c.args.events c.loop-state.state c.loop-state.to _ _ c.open_row.ensures
    (row_of_marked (meet_of c.args.value_set.kind c.args.value_set.meet.now) c.args.value_set.top c.args.nodes.now.kinds c.args.nodes.now.firsts
    c.args.nodes.now.values
    (row c.args.states.now c.loop-state.state)
    c.args.nodes.now.count c.args.events c.loop-state.state _ _ _ c.marks_of-marks.ensures c.open_row.ensures.entries c.meet_row.ensures) in
    let z : c.loop-state.state * c.args.events + c.args.events ≡ (c.loop-state.state + 1) * c.args.events = omega
    (arith, add-mul c.loop-state.state 1 c.args.events) in (
      r.sized ∙ c.loop-state.invariant.0,
      λ x h. row_filled f c.args.events c.loop-state.state _ _ r c.loop-state.invariant.1 x (omega (arith, h, z)),
    )

pub returns : goal.returns
returns c =
    let q : c.loop-state.state ≡ c.args.n = omega arith in (
      c.loop-state.invariant.0,
      subst (λ m. EntriesTo (state_value (meet_of c.args.value_set.kind c.args.value_set.meet.now) c.args.value_set.top c.args.nodes.now.kinds
          c.args.nodes.now.firsts c.args.nodes.now.values c.args.nodes.now.count
          c.args.states.now) c.args.events (m * c.args.events) c.loop-state.to) q c.loop-state.invariant.1,
    )
