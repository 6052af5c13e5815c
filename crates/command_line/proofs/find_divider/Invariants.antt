-- No divider stands at the offsets passed.
use Rattle.std.proofs.Common.{◌≡◌, ◌+◌, drop}
use Rattle.command_line.specs.Parts.{before_divider}
use Rattle.command_line.proofs.find_divider.Given as goal

abbrev pub invariant-loop-i : goal.invariant-loop-i
invariant-loop-i l = l.i + before_divider (drop l.i l.text) ≡ before_divider l.text
