-- No word passed is large.
use Rattle.std.proofs.Common.{◌≡◌}
use Rattle.command_line.specs.declared.Item.{Item}
use Rattle.command_line.specs.{Words.{words}, Lists.{any_large}}
use Rattle.command_line.proofs.any_large.Given as goal

abbrev pub invariant-loop-word : goal.invariant-loop-word
invariant-loop-word l = any_large l.this l.that (words l.word-iterator.0.now) ≡ any_large l.fn.first Item.Number (words l.text)
