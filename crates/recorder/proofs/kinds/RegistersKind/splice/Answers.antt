-- `splice` of `recorder::kinds::Registers` meets its contract: where there is room it is made, then the new values are copied into it.
use mathlib.Core.Path.{◌≡◌, sym, ◌∙◌, ap}
use borrow.Author.Rules.{rules}
use lib.ListN.{length}
use Rattle.limits.specs.Limits.{store_limit}
use Rattle.values.specs.declared.ValueKind.TheVariants.{Register}
use Rattle.recorder.specs.Splicing.{spliced}
use Rattle.recorder.proofs.Copies.{masks_length, register_values, filled_room, room_fits, spliced_there, kept_without_room, kept_short}
use Rattle.recorder.proofs.kinds.RegistersKind.splice.Goals.{then-not-fits-via-then-not-fits, then-not-fits-via-else-not-fits+then-table-room}
use Rattle.recorder.proofs.kinds.RegistersKind.splice.Goals as goal

pub returns-then-not-fits : goal.returns-then-not-fits
returns-then-not-fits c =
    let kind = Register c.args.self.now.lines in
    elim c.then-not-fits.branch [
      | then-not-fits-via-then-not-fits w ↦
          sym (kept_without_room kind c.args.room c.args.table.now c.args.column.now (sym c.fits.ensures ∙ w.if-not-fits.true))
      | then-not-fits-via-else-not-fits+then-table-room w ↦ sym (kept_short kind c.args.room c.args.table.now c.args.column.now w.if-table-room.true)
    ]

pub returns : goal.returns
returns c =
    let r = c.args.room in
    let table = c.args.table.now in
    let fits = sym c.fits.ensures ∙ c.if-not-fits.false in
    let sized : length c.args.column.now ≡ store_limit = search rules in
    rw c.make_room.ensures at c.copy_masks.ensures
    ∙ filled_room c.args.column.now _ r.at r.old r.new r.later sized (masks_length table r.new) (room_fits r fits).new_fits
    ∙ ap (λ l. spliced c.args.column.now r.at r.old l r.later) (register_values c.args.self.now.lines table r.new)
    ∙ sym (spliced_there (Register c.args.self.now.lines) r table c.args.column.now fits c.if-table-room.false)
