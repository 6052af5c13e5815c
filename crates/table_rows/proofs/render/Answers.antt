-- `render` meets its contract: the text is put into an empty array, which tells its length, and into the buffer where it has room.
use mathlib.Core.Path.{refl}
use Rattle.table_rows.proofs.Renderings.{renders_short, renders_all}
use Rattle.table_rows.proofs.render.Goals as goal

pub returns-then-to-length : goal.returns-then-to-length
returns-then-to-length g c = renders_short _ _ _ refl c.put-length.ensures c.if-to-length.true

pub returns : goal.returns
returns g c = renders_all _ _ _ refl c.put-length.ensures c.if-to-length.false c.put.ensures
