-- `machines::store_entries` meets its contract. The loop's invariant: the buffer has the first i entries put over its front.
use mathlib.Core.Path.{◌≡◌, refl, ◌∙◌, ap}
use native.Mathlib.Omega.{arith}
use borrow.Author.Rules.{rules}
use Prim.Native.Nat.{◌*◌}
use lib.ListN.{length, get_or}
use Rattle.std.proofs.Math.Seq.{length-sets}
use Rattle.machines.specs.{StoredEntries.{kept_bytes}, TableBytes.{entry_width}}
use Rattle.machines.proofs.Stores.{store_none, store_more, not_stored, all_stored, few_values, few_nexts, short_buffer, enough, room_short, room_enough}
use Rattle.machines.proofs.TableRoundTrip.{entry_within, next_entry}
use Rattle.machines.proofs.store_entries.Goals as goal

pub loop-i-init : goal.loop-i-init
loop-i-init c = (search rules, refl, store_none _ _ (kept_bytes c.args.kind) _)

pub loop-i-preserved : goal.loop-i-preserved
loop-i-preserved c =
    let old = c.args.to.now in
    let all = room_enough c.args.kind c.entry_width-width.result (length old) c.args.count c.entry_width-width.ensures.0 (omega arith) in
    let one = entry_within c.args.kind c.args.count c.loop-i.i (search rules) in
    let more = store_more c.args.values.now c.args.nexts.now c.args.kind old c.loop-i.i (omega (arith, all, one, next_entry c.args.kind c.loop-i.i)) in (
      search rules,
      ap length c.put_entry.ensures ∙ length-sets c.loop-i.to (c.loop-i.i * c.entry_width-width.result)
          (kept_bytes c.args.kind (get_or c.args.values.now c.loop-i.i 0) (get_or c.args.nexts.now c.loop-i.i 0)) ∙ c.loop-i.invariant.1,
      cc (c.put_entry.ensures, c.loop-i.invariant.2, c.entry_width-width.ensures.0, more),
    )

pub shape_of-to : goal.shape_of-to
shape_of-to c = c.loop-i.invariant.1

pub returns-then-values-count-clause-answer : goal.returns-then-values-count-clause-answer
returns-then-values-count-clause-answer c = (not_stored (entry_width c.args.kind)
    (kept_bytes c.args.kind) c.args.values.now c.args.nexts.now c.args.count c.args.to.now
    (few_values (entry_width c.args.kind) c.args.values.now c.args.nexts.now c.args.count c.args.to.now c.if-values-count.true)).0

pub returns-then-values-count-clause-contents : goal.returns-then-values-count-clause-contents
returns-then-values-count-clause-contents c = (not_stored (entry_width c.args.kind)
    (kept_bytes c.args.kind) c.args.values.now c.args.nexts.now c.args.count c.args.to.now
    (few_values (entry_width c.args.kind) c.args.values.now c.args.nexts.now c.args.count c.args.to.now c.if-values-count.true)).1

pub returns-then-nexts-count-clause-answer : goal.returns-then-nexts-count-clause-answer
returns-then-nexts-count-clause-answer c = (not_stored (entry_width c.args.kind)
    (kept_bytes c.args.kind) c.args.values.now c.args.nexts.now c.args.count c.args.to.now
    (few_nexts (entry_width c.args.kind) c.args.values.now c.args.nexts.now c.args.count c.args.to.now (search rules) c.if-nexts-count.true)).0

pub returns-then-nexts-count-clause-contents : goal.returns-then-nexts-count-clause-contents
returns-then-nexts-count-clause-contents c = (not_stored (entry_width c.args.kind)
    (kept_bytes c.args.kind) c.args.values.now c.args.nexts.now c.args.count c.args.to.now
    (few_nexts (entry_width c.args.kind) c.args.values.now c.args.nexts.now c.args.count c.args.to.now (search rules) c.if-nexts-count.true)).1

pub returns-then-to-width-clause-answer : goal.returns-then-to-width-clause-answer
returns-then-to-width-clause-answer c = (not_stored (entry_width c.args.kind)
    (kept_bytes c.args.kind) c.args.values.now c.args.nexts.now c.args.count c.args.to.now
    (short_buffer (entry_width c.args.kind) c.args.values.now c.args.nexts.now c.args.count c.args.to.now (search rules) (search rules)
    (room_short c.args.kind _ _ _ c.entry_width-width.ensures.0 c.if-to-width.true))).0

pub returns-then-to-width-clause-contents : goal.returns-then-to-width-clause-contents
returns-then-to-width-clause-contents c = (not_stored (entry_width c.args.kind)
    (kept_bytes c.args.kind) c.args.values.now c.args.nexts.now c.args.count c.args.to.now
    (short_buffer (entry_width c.args.kind) c.args.values.now c.args.nexts.now c.args.count c.args.to.now (search rules) (search rules)
    (room_short c.args.kind _ _ _ c.entry_width-width.ensures.0 c.if-to-width.true))).1

pub returns-clause-answer : goal.returns-clause-answer
returns-clause-answer c =
    let e : c.loop-i.i ≡ c.args.count = omega arith in
    (all_stored (entry_width c.args.kind) (kept_bytes c.args.kind) c.args.values.now c.args.nexts.now c.args.count c.args.to.now
    (enough (entry_width c.args.kind) c.args.values.now c.args.nexts.now c.args.count c.args.to.now (search rules) (search rules)
    (room_enough c.args.kind _ _ _ c.entry_width-width.ensures.0 (omega arith))) c.loop-i.to
    (rw e at c.loop-i.invariant.2)).0

pub returns-clause-contents : goal.returns-clause-contents
returns-clause-contents c =
    let e : c.loop-i.i ≡ c.args.count = omega arith in
    (all_stored (entry_width c.args.kind) (kept_bytes c.args.kind) c.args.values.now c.args.nexts.now c.args.count c.args.to.now
    (enough (entry_width c.args.kind) c.args.values.now c.args.nexts.now c.args.count c.args.to.now (search rules) (search rules)
    (room_enough c.args.kind _ _ _ c.entry_width-width.ensures.0 (omega arith))) c.loop-i.to
    (rw e at c.loop-i.invariant.2)).1
