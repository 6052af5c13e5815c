-- `store_table` of `recorder` meets its contract: both lists are spliced, then the count, the state and the total are set.
use mathlib.Core.Path.{◌≡◌, ◌∙◌, ap, subst⁻¹}
use Prim.Native.Nat.{◌*◌, ◌≤◌}
use borrow.Author.Rules.{rules}
use lib.ListN.{length}
use Rattle.limits.specs.Limits.{store_limit}
use Rattle.machines.specs.TableBytes.{entry_width}
use Rattle.recorder.specs.{Store.{store_of}, Splicing.{spliced}}
use Rattle.recorder.proofs.Copies.{column_length, kind_nexts, filled_room, stored_is, room_there, enough_entries, spliced_there}
use Rattle.recorder.proofs.Tool+K+K+Column.store_table.Goals as goal

pub returns : goal.returns
returns g c =
    let t = store_of g.K.Kind.meaning c.args.self.now in
    let r = c.room_for-room.result in
    let table = c.args.table.now in
    let sized : length t.next ≡ store_limit = search rules in
    let w = rw c.kind.ensures at c.entry_width-width.ensures.0 in
    let room = room_there r c.room_for-room.ensures.1 in
    let enough =
    enough_entries t.setup.kind (length table) r.new
    (subst⁻¹ (λ x. x.new * entry_width t.setup.kind ≤ length table) c.room_for-room.ensures.0 c.requires.entries) in
    stored_is t c.args.channel c.args.states table r c.room_for-room.ensures.0 _ _
    (c.splice.ensures ∙ spliced_there t.setup.kind r table t.value room enough)
    (rw (w, c.make_room.ensures) at c.copy_column.ensures
    ∙ filled_room t.next _ r.at r.old r.new r.later sized (column_length _ _ table r.new) c.room_for-room.ensures.1.new_fits
    ∙ ap (λ l. spliced t.next r.at r.old l r.later) (kind_nexts t.setup.kind table r.new))
