-- Texts put into a lent buffer at an offset.
use Rattle.std.specs.Prelude.{ℕ, ◌+◌, ◌<◌, min}
use mathlib.Core.{Path.{◌≡◌}, List.{List}}
use lib.{ListN.{length}, Seq.{sets}}

-- Offsets are counted up to the greatest number of 64 bits.
abbrev pub offset_limit : ℕ
offset_limit = 18446744073709551615

-- s was put into l from the offset i on: l' is the buffer afterwards, where what would lie behind the end is left out, and r is the
-- offset behind s, also where that lies behind the end. A buffer's end lies before the greatest offset.
pub record Puts (l s l' : List ℕ) (i r : ℕ) : Type 0 where
  pub same : l' ≡ sets l i s
  pub next : r ≡ min (i + length s) offset_limit
  pub end : length l < offset_limit
