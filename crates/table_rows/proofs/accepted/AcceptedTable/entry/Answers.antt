-- An entry of a table, from the bytes at its place.
use Prim.Native.Nat.{◌/◌, ◌%◌}
use mathlib.Core.Path.{sym, ap, ◌∙◌}
use native.Mathlib.Nat.{div-add-mod'}
use Rattle.machines.specs.TableRefusal.{entry_value, entry_next}
use Rattle.table_rows.proofs.accepted.AcceptedTable.entry.Goals as goal

pub returns : goal.returns
returns c =
    let t = c.args.self in
    let i = c.args.i in
    let place = sym (div-add-mod' i t.events) in
    let value = c.value_at.ensures ∙ ap (entry_value t.kind t.table.entries.now) place in
    let next = c.next_at.ensures ∙ ap (entry_next t.kind t.table.entries.now) place in
    λ j. record { state = i / t.events; event = i % t.events; value = value j; next = next j }
