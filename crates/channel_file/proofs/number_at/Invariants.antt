-- `channel_file::number_at` meets its contract. The loop's invariant: what is left to read of the numeral from here is what the numeral is.
use Rattle.text_format.specs.Decimal.{numeral_parse, more}
use Prim.Native.Nat.{ℕ, ◌-◌, ◌≤◌, ◌<◌}
use mathlib.Core.{Path.{◌≡◌}}
use lib.ListN.{length, drop}
use Rattle.channel_file.proofs.number_at.Given as goal

-- with k digits to come, of five at most
abbrev pub Below : ℕ → ℕ → Type 0
Below k v = (v < 100000) × (1 ≤ k → v < 10000) × (2 ≤ k → v < 1000) × (3 ≤ k → v < 100) × (4 ≤ k → v < 10)

abbrev pub invariant-loop-i : goal.invariant-loop-i
invariant-loop-i l =
    (l.i ≤ length l.text) × (l.i ≤ l.end) × Below (l.end - l.i) l.v × (numeral_parse l.more (drop l.at l.text) ≡ more (l.end - l.i) l.v (drop l.i l.text))
