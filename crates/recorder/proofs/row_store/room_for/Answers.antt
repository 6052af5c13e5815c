-- `recorder::row_store::room_for` meets its contract: what is spliced lies within the store.
use mathlib.Core.Path.{refl}
use Prim.Native.Nat.{suc, ◌-◌, ◌≤◌}
use native.Mathlib.{Nat.{mul-le-mul}, Numerals.{add-one}, Omega.{arith}}
use borrow.Author.Rules.{rules}
use Rattle.limits.specs.Limits.{channel_limit}
use Rattle.recorder.proofs.RowTotals.{before_rises, old_fits, new_fits}
use Rattle.recorder.proofs.row_store.room_for.Goals as goal

pub overflow_mul-result : goal.overflow_mul-result
overflow_mul-result c =
    let h : c.from-n.result ≤ 255 = search rules in
    let k : c.from.result ≤ 65535 = search rules in
    omega (arith, mul-le-mul k h)

pub overflow_mul-result-2 : goal.overflow_mul-result-2
overflow_mul-result-2 c =
    let h : c.from-n.result ≤ 255 = search rules in
    let k : c.from-2.result ≤ 65535 = search rules in
    omega (arith, mul-le-mul k h)

pub overflow_sub-result : goal.overflow_sub-result
overflow_sub-result c =
    rw (
      c.rows_before-passed.ensures.0,
      c.rows_before-all.ensures.0,
      add-one
          c.args.channel,
    )
    (before_rises c.args.states.now (suc c.args.channel) channel_limit c.requires.0.channel)

pub overflow_mul-result-3 : goal.overflow_mul-result-3
overflow_mul-result-3 c =
    let h : c.from-n.result ≤ 255 = search rules in
    let l : c.rows_before-all.result - c.rows_before-passed.result ≤ 524280 = omega
    (arith, c.rows_before-all.ensures.1) in
    omega (arith, mul-le-mul l h)

pub returns : goal.returns
returns c =
    rw (
      c.from-2.ensures,
      c.rows_before-passed.ensures.0,
      c.rows_before-all.ensures.0,
      add-one c.args.channel,
      c.from.ensures,
      c.rows_start.ensures,
      c.from-n.ensures,
    ) (
      refl,
      record {
        old_fits = old_fits c.args.events c.args.states.now c.args.channel c.requires.0.few_events c.requires.0.channel c.requires.0.fits;
        new_fits = new_fits c.args.events c.args.states.now c.args.channel c.requires.0.few_events c.requires.0.channel c.args.new
            (omega (arith, c.requires.0.channel)) c.requires.0.new_fits;
      },
    )
