-- `channel_in_order` of `recorder::faults` meets its contract: each limit is tested in turn, then the values and the next states.
use mathlib.Core.Path.{sym, ◌∙◌}
use Prim.Native.Nat.{◌≤◌}
use native.Mathlib.{Nat.{mul-le-mul}, Omega.{arith}}
use borrow.Author.Rules.{rules}
use lib.ListN.{get_or}
use Rattle.theory.proofs.ValueSets.{and_passed, and_failed}
use Rattle.recorder.specs.Store.{store_of}
use Rattle.recorder.proofs.ChannelTests.{empty_passes, many_states, no_state, many_pulses, entries_tested}
use Rattle.recorder.proofs.RowCounts.{start}
use Rattle.recorder.proofs.faults.Tool+K+K+Column.channel_in_order.Goals as goal

pub returns-then-states-eq0 : goal.returns-then-states-eq0
returns-then-states-eq0 g c =
    let t = store_of g.K.Kind.meaning c.args.self.now in
    let d = c.args.channel in
    empty_passes d (start t d) t.setup.events (get_or t.states d 0) (get_or t.current d 0) (get_or t.total d 0) t.setup.kind t.value t.next
    (omega (arith, c.from-states.ensures))

pub returns-then-states-gt-TABLE_LIMIT : goal.returns-then-states-gt-TABLE_LIMIT
returns-then-states-gt-TABLE_LIMIT g c =
    let t = store_of g.K.Kind.meaning c.args.self.now in
    let d = c.args.channel in
    many_states d (start t d) t.setup.events (get_or t.states d 0) (get_or t.current d 0) (get_or t.total d 0) t.setup.kind t.value t.next
    (omega arith) (omega (arith, c.from-states.ensures)) (omega (arith, c.from-states.ensures))

pub returns-then-states-from : goal.returns-then-states-from
returns-then-states-from g c =
    let t = store_of g.K.Kind.meaning c.args.self.now in
    let d = c.args.channel in
    no_state d (start t d) t.setup.events (get_or t.states d 0) (get_or t.current d 0) (get_or t.total d 0) t.setup.kind t.value t.next
    (omega arith) (omega (arith, c.from-states.ensures)) (omega (arith, c.from-states.ensures, c.from.ensures))

pub returns-then-self-channel-gt-TOTAL_LIMIT : goal.returns-then-self-channel-gt-TOTAL_LIMIT
returns-then-self-channel-gt-TOTAL_LIMIT g c =
    let t = store_of g.K.Kind.meaning c.args.self.now in
    let d = c.args.channel in
    many_pulses d (start t d) t.setup.events (get_or t.states d 0) (get_or t.current d 0) (get_or t.total d 0) t.setup.kind t.value t.next
    (omega arith) (omega (arith, c.from-states.ensures)) (omega arith)

pub overflow_mul-entries : goal.overflow_mul-entries
overflow_mul-entries g c =
    let h : c.from-2.result ≤ 255 = search rules in
    let k : c.from-states.result ≤ 256 = omega arith in
    omega (arith, mul-le-mul k h)

pub returns-then-values_fit : goal.returns-then-values_fit
returns-then-values_fit g c =
    let t = store_of g.K.Kind.meaning c.args.self.now in
    let d = c.args.channel in
    entries_tested d (start t d) t.setup.events (get_or t.states d 0) (get_or t.current d 0) (get_or t.total d 0) t.setup.kind t.value t.next
    (omega arith) (omega (arith, c.from-states.ensures)) (omega (arith, c.from-states.ensures))
    (omega (arith, c.from-states.ensures, c.from.ensures)) (omega arith) c.entries_below.result
    (rw (c.rows_start-at.ensures, c.from-states.ensures, c.from-2.ensures) at c.entries_below.ensures
    ∙ sym (and_passed (sym (rw (c.rows_start-at.ensures, c.from-states.ensures, c.from-2.ensures) at c.values_fit.ensures) ∙ c.if-values_fit.true)))

pub returns-else-values_fit : goal.returns-else-values_fit
returns-else-values_fit g c =
    let t = store_of g.K.Kind.meaning c.args.self.now in
    let d = c.args.channel in
    entries_tested d (start t d) t.setup.events (get_or t.states d 0) (get_or t.current d 0) (get_or t.total d 0) t.setup.kind t.value t.next
    (omega arith) (omega (arith, c.from-states.ensures)) (omega (arith, c.from-states.ensures))
    (omega (arith, c.from-states.ensures, c.from.ensures)) (omega arith) c.values_fit.result
    (c.if-values_fit.false
    ∙ sym (and_failed _ (sym (rw (c.rows_start-at.ensures, c.from-states.ensures, c.from-2.ensures) at c.values_fit.ensures) ∙ c.if-values_fit.false)))
