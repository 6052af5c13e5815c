-- `table_of` meets its contract, by what its parts answer.
use Prim.Native.Nat.{suc, ◌≤◌}
use native.Mathlib.{Nat.{mul-le-mul_right}, Omega.{arith}}
use Rattle.values.specs.Setup.{meet_of}
use Rattle.synthesis.proofs.FormulaTable.{tables}
use borrow.Author.Rules.{rules}
use Rattle.synthesis.proofs.tables.table_of.Goals as goal

pub returns-in_err-n : goal.returns-in_err-n
returns-in_err-n c =
    rw c.from_residual.ensures (record {
      sizes = (search rules, c.explore.ensures.sizes.1);
      few = tt;
      tables = tables c.args.nodes.now c.args.rows.now _ (meet_of c.args.value_set.kind c.args.value_set.meet.now) c.args.value_set.top c.args.events
          c.args.limit (suc c.args.limit) _ _ c.requires.0.kept c.in_err-n.ensures.counted (λ h. absurd (omega (arith, h)));
    })

pub fill_values-requires : goal.fill_values-requires
fill_values-requires c =
    let few : c.in_ok-n.n ≤ c.args.limit = c.in_ok-n.ensures.few in (
      c.requires.0.few_nodes,
      omega (arith, few, c.requires.2),
      c.requires.0.few_events,
      omega (arith, few, c.requires.3, c.explore.ensures.sizes.0),
      omega (arith, mul-le-mul_right c.args.events few, c.requires.4),
    )

pub returns : goal.returns
returns c =
    record {
      sizes = (c.fill_values.ensures.0, c.explore.ensures.sizes.1);
      few = c.in_ok-n.ensures.few;
      tables = tables c.args.nodes.now c.args.rows.now _ (meet_of c.args.value_set.kind c.args.value_set.meet.now) c.args.value_set.top c.args.events
          c.args.limit c.in_ok-n.n _ _ c.requires.0.kept c.in_ok-n.ensures.counted (λ h. c.fill_values.ensures.1);
    }
