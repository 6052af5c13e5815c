-- One store of rows for the tool (document 02, F-12): "512 rows among its channels, a row being one state of a loaded table".
use Rattle.std.proofs.Math.Option.{Option, none, some}
use Rattle.std.specs.Prelude.{ℕ, zero, suc, ◌+◌}
use Rattle.limits.specs.Limits.{channel_limit}
use Rattle.channel_log.specs.Calls.{Channels, with_channel}

-- f 0 + .. + f (n - 1).
unfoldable pub sum_below : ℕ → (ℕ → ℕ) → ℕ
sum_below zero f = 0
sum_below (suc n) f = sum_below n f + f n

-- The rows of a channel; an empty one has none.
abbrev pub rows_in : Option ℕ → ℕ
rows_in none = 0
rows_in (some n) = n

-- The rows of all channels, and of those other than c.
unfoldable pub all_rows : Channels ℕ → ℕ
all_rows rows = sum_below channel_limit (λ d. rows_in (rows d))

unfoldable pub other_rows : ℕ → Channels ℕ → ℕ
other_rows c rows = all_rows (with_channel c none rows)
