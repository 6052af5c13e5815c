-- The proof of the cycle of calls {write_rows, write_state}. The measure is how many nodes are left up to the limit. Each return is one
-- step of the walk (`Walks`).
use mathlib.Core.Path.{refl, sym, ◌∙◌, subst}
use Rattle.std.proofs.Common.{rules}
use Prim.Native.Nat.{◌<◌}
use native.Mathlib.Omega.{arith}
use Rattle.machines.specs.Claims.{OfBytes}
use Rattle.characteristic.proofs.Walks.{walk_open, walk_new, walk_new_outgrown, walk_part_outgrown, walk_last}
use Rattle.characteristic.proofs.Walks.{walk_last_outgrown, walk_row_outgrown, walk_more, ready_rows, ready_after}
use Rattle.characteristic.proofs.+write_rows_write_state.Goals as goal

pub write_state-returns-in-Some : goal.write_state-returns-in-Some
write_state-returns-in-Some t c = walk_open c.args.machine.now c.args.state (sym c.place.ensures ∙ c.in-Some.is) c.put.ensures

pub write_state-write_rows-requires : goal.write_state-write_rows-requires
write_state-write_rows-requires t c =
    let x = c.put-2.ensures.appended c.in_ok-part.part c.in_ok-part.was in
    let few = c.put-2.ensures.few c.in_ok-part.part c.in_ok-part.was in (
      omega (arith, c.decreases, x.count_is, few),
      (
        ready_rows c.requires (search rules) x few c.open.ensures.opened c.open.ensures.depth,
        c.args.machine.now.some_events,
      ),
    )

pub write_state-returns-in_err-write_rows : goal.write_state-returns-in_err-write_rows
write_state-returns-in_err-write_rows t c =
    walk_new_outgrown c.args.machine.now c.args.state c.args.path.now _ (search rules) (sym c.place.ensures ∙ c.in_default.is)
    (c.put-2.ensures.appended c.in_ok-part.part c.in_ok-part.was)
    c.open.ensures.opened c.open.ensures.depth c.open.ensures.longest c.write_rows.ensures c.in_err-write_rows.was
    (search rules)

pub write_state-returns : goal.write_state-returns
write_state-returns t c =
    walk_new c.args.machine.now c.args.state c.args.path.now _ (search rules) (sym c.place.ensures ∙ c.in_default.is)
    (c.put-2.ensures.appended c.in_ok-part.part c.in_ok-part.was)
    c.open.ensures.opened c.open.ensures.depth c.open.ensures.longest c.write_rows.ensures c.in_ok-write_rows.was
    c.close.ensures.opened c.close.ensures.depth c.close.ensures.longest

pub write_state-open-requires : goal.write_state-open-requires
write_state-open-requires t c =
    let x = c.put-2.ensures.appended c.in_ok-part.part c.in_ok-part.was in
    (c.requires.small_state, omega (arith, c.requires.shallow, x.count_is, c.put-2.ensures.few c.in_ok-part.part c.in_ok-part.was))

pub write_rows-write_state-requires : goal.write_rows-write_state-requires
write_rows-write_state-requires t c =
    let x = c.put_both.ensures.appended c.in_ok-part.part c.in_ok-part.was in
    let few = c.put_both.ensures.few c.in_ok-part.part c.in_ok-part.was in
    (omega (arith, c.decreases, x.count_is, few), ready_after c.requires.0 c.row-next.ensures.small x.same_kind (omega (arith, x.count_is)) few refl refl)

pub write_rows-returns-in_err-end : goal.write_rows-returns-in_err-end
write_rows-returns-in_err-end t c =
    walk_part_outgrown c.args.machine.now c.args.state c.args.event (c.put_both.ensures.appended c.in_ok-part.part c.in_ok-part.was) c.row-next.ensures.next
    c.write_state.ensures c.in_err-end.was (search rules)

pub write_rows-put-requires : goal.write_rows-put-requires
write_rows-put-requires t c =
    let x = c.put_both.ensures.appended c.in_ok-part.part c.in_ok-part.was in
    let w = c.write_state.ensures.walked c.in_ok-end.end c.in_ok-end.was in
    let kind_is = w.same_kind ∙ x.same_kind ∙ c.requires.0.same_kind in
    let fits = subst (λ k. OfBytes k c.row-next.result.1) (sym kind_is) c.row-next.ensures.fits in
    let small : c.args.event < 256 = omega (arith, c.requires.1, c.args.machine.now.few_events) in
    (c.write_state.ensures.few c.in_ok-end.end c.in_ok-end.was, (small, fits))

pub write_rows-returns-in_err-nodes : goal.write_rows-returns-in_err-nodes
write_rows-returns-in_err-nodes t c =
    walk_last_outgrown c.args.machine.now c.args.state c.args.event (c.put_both.ensures.appended c.in_ok-part.part c.in_ok-part.was) c.row-next.ensures.next
    c.write_state.ensures c.in_ok-end.was c.if-event-machine.true (c.put.ensures.too_many c.in_err-nodes.was) (search rules)

pub write_rows-returns-then-event-machine : goal.write_rows-returns-then-event-machine
write_rows-returns-then-event-machine t c =
    walk_last c.args.machine.now c.args.state c.args.event (c.put_both.ensures.appended c.in_ok-part.part c.in_ok-part.was) c.row-next.ensures.next
    c.write_state.ensures c.in_ok-end.was c.if-event-machine.true c.row-next.ensures.value
    (c.put.ensures.appended _ c.in_ok-nodes.was)

pub write_rows-put_both-requires-2 : goal.write_rows-put_both-requires-2
write_rows-put_both-requires-2 t c =
    let x = c.put_both.ensures.appended c.in_ok-part.part c.in_ok-part.was in
    let w = c.write_state.ensures.walked c.in_ok-end.end c.in_ok-end.was in
    let kind_is = w.same_kind ∙ x.same_kind ∙ c.requires.0.same_kind in
    let fits = subst (λ k. OfBytes k c.row-next.result.1) (sym kind_is) c.row-next.ensures.fits in
    let small : c.args.event < 256 = omega (arith, c.requires.1, c.args.machine.now.few_events) in
    (c.write_state.ensures.few c.in_ok-end.end c.in_ok-end.was, search rules, (small, fits))

pub write_rows-returns-in_err-rest : goal.write_rows-returns-in_err-rest
write_rows-returns-in_err-rest t c =
    walk_row_outgrown c.args.machine.now c.args.state c.args.event (c.put_both.ensures.appended c.in_ok-part.part c.in_ok-part.was) c.row-next.ensures.next
    c.write_state.ensures c.in_ok-end.was c.if-event-machine.false (c.put_both-2.ensures.too_many c.in_err-rest.was) (search rules)

pub write_rows-write_rows-requires : goal.write_rows-write_rows-requires
write_rows-write_rows-requires t c =
    let x = c.put_both.ensures.appended c.in_ok-part.part c.in_ok-part.was in
    let w = c.write_state.ensures.walked c.in_ok-end.end c.in_ok-end.was in
    let z = c.put_both-2.ensures.appended c.in_ok-rest.rest c.in_ok-rest.was in
    let few = c.put_both-2.ensures.few c.in_ok-rest.rest c.in_ok-rest.was in (
      omega (arith, c.decreases, x.count_is, w.rises, z.count_is, few),
      (
        ready_after c.requires.0 c.requires.0.small_state (z.same_kind ∙ w.same_kind ∙ x.same_kind)
            (omega (arith, x.count_is, w.rises, z.count_is)) few w.same_opened w.same_depth,
        omega (arith, c.requires.1, c.if-event-machine.false),
      ),
    )

pub write_rows-returns : goal.write_rows-returns
write_rows-returns t c =
    walk_more c.args.machine.now c.args.state c.args.event (c.put_both.ensures.appended c.in_ok-part.part c.in_ok-part.was) c.row-next.ensures.next
    c.write_state.ensures c.in_ok-end.was c.if-event-machine.false c.row-next.ensures.value
    (c.put_both-2.ensures.appended c.in_ok-rest.rest c.in_ok-rest.was) c.write_rows.ensures
