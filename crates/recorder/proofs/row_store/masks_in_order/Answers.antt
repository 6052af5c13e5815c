-- `recorder::row_store::masks_in_order` meets its contract: all masks fit where all their bits do.
use mathlib.Core.Path.{◌∙◌}
use Prim.Native.Nat.{◌+◌}
use lib.ListN.{get_or}
use Rattle.recorder.proofs.Together.{masks_together}
use Rattle.recorder.proofs.row_store.masks_in_order.Goals as goal

pub returns : goal.returns
returns c =
    rw (c.from.ensures, c.all_bits-bits.ensures) at c.value_fits.ensures
    ∙ masks_together c.args.lines c.args.count (λ i. get_or c.args.values.now (c.args.from + i) 0)
