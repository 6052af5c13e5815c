-- `attempt` meets its contract: the table is over the limit, or its entries are stored.
use mathlib.Core.{Bool.{true, false}, Path.{refl, sym, ◌∙◌}}
use Prim.Native.Nat.{ℕ, suc}
use native.Mathlib.{Omega.{arith}}
use lib.ListN.{length-replicate}
use Rattle.values.specs.Setup.{meet_of}
use Rattle.synthesis.proofs.Compilation.{attempt_over, attempt_within, tried_over, tried_stored, tried_short}
use Rattle.synthesis.proofs.attempt.Goals as goal

pub returns-in_err-n : goal.returns-in_err-n
returns-in_err-n g c =
    rw c.from_residual.ensures (record {
      states = suc g.row.STATES;
      is_stored = false;
      attempt = attempt_over c.args.value_set.kind c.args.nodes.now (meet_of c.args.value_set.kind c.args.value_set.meet.now) c.args.value_set.top
          c.args.events g.row.STATES (suc g.row.STATES) _ _ c.in_err-n.ensures.tables (
            omega (arith, c.table_of.ensures.sizes.0, length-replicate {A = ℕ}, c.requires.3),
            omega (arith, c.table_of.ensures.sizes.1, length-replicate {A = ℕ}, c.requires.3),
          ) c.args.to.now false (omega arith);
      answer_is = tried_over g.row.STATES (suc g.row.STATES) false (omega arith);
    })

pub returns-then-store_entries : goal.returns-then-store_entries
returns-then-store_entries g c =
    record {
      states = c.in_ok-n.n;
      is_stored = true;
      attempt = attempt_within c.args.value_set.kind c.args.nodes.now (meet_of c.args.value_set.kind c.args.value_set.meet.now) c.args.value_set.top
          c.args.events g.row.STATES c.in_ok-n.n _ _ c.in_ok-n.ensures.tables (
            omega (arith, c.table_of.ensures.sizes.0, length-replicate {A = ℕ}, c.requires.3),
            omega (arith, c.table_of.ensures.sizes.1, length-replicate {A = ℕ}, c.requires.3),
          ) c.args.to.now true _ c.in_ok-n.ensures.few (sym c.if-store_entries.true ∙ c.store_entries.ensures.answer) c.store_entries.ensures.contents;
      answer_is = tried_stored g.row.STATES c.in_ok-n.n true c.in_ok-n.ensures.few refl;
    }

pub returns-else-store_entries : goal.returns-else-store_entries
returns-else-store_entries g c =
    record {
      states = c.in_ok-n.n;
      is_stored = false;
      attempt = attempt_within c.args.value_set.kind c.args.nodes.now (meet_of c.args.value_set.kind c.args.value_set.meet.now) c.args.value_set.top
          c.args.events g.row.STATES c.in_ok-n.n _ _ c.in_ok-n.ensures.tables (
            omega (arith, c.table_of.ensures.sizes.0, length-replicate {A = ℕ}, c.requires.3),
            omega (arith, c.table_of.ensures.sizes.1, length-replicate {A = ℕ}, c.requires.3),
          ) c.args.to.now false _ c.in_ok-n.ensures.few (sym c.if-store_entries.false ∙ c.store_entries.ensures.answer) c.store_entries.ensures.contents;
      answer_is = tried_short g.row.STATES c.in_ok-n.n false c.in_ok-n.ensures.few refl;
    }
