-- `channel_file::word_at` meets its contract: so far the word stands there.
use Rattle.text_format.specs.Combinators.{word}
use Prim.Native.Nat.{◌+◌, ◌≤◌}
use mathlib.Core.Path.{◌≡◌}
use lib.ListN.{length, drop}
use Rattle.channel_file.proofs.word_at.Given as goal

abbrev pub invariant-loop-j : goal.invariant-loop-j
invariant-loop-j l =
    (l.at + l.j ≤ length l.text) × (l.j ≤ length l.key) × ((word l.key).parse (drop l.at l.text) ≡ (word (drop l.j l.key)).parse (drop (l.at + l.j) l.text))
