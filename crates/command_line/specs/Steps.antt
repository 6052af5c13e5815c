-- What the private functions of src/ say.
use Rattle.std.specs.Prelude.{ℕ, List, Option, Some, None}
use Rattle.text_output.specs.Output.{Puts}

-- Bytes put into a buffer from an offset on, with the offset behind them as the answer; or there are none.
pub data PutsAny (old new : List ℕ) (at : ℕ) : Option (List ℕ) → Option ℕ → Type 0 where
  malformed : PutsAny old new at None None
  puts : {bytes : List ℕ} {n : ℕ} → Puts old bytes new at n → PutsAny old new at (Some bytes) (Some n)
