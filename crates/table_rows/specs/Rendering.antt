-- Twin of PrintedTable, pinned by table_rows RenderingClaim.
-- A call that renders a table handed in as a text in a lent buffer.
use Rattle.std.specs.Prelude.{ℕ, Result}
use mathlib.Core.{Path.{◌≡◌}, List.{List}, Option.{Option}}
use lib.{Dec.{leb}, ListN.{length}}
use Rattle.limits.specs.Limits.{table_limit}
use Rattle.refusal.specs.{declared.Refusal.{Refusal}, RefusalAnswers.{or_else, plain_unless, answered, put_unless}}
use Rattle.values.specs.{declared.ValueKind.{ValueKind}, declared.ValueKind.TheVariants.{Numbered, Register}, Setup.{register_setup}}
use Rattle.values.specs.SetupTests.{events_test, values_test, setup_refusal}
use Rattle.machines.specs.TableRefusal.{table_refusal}
use Rattle.refusal.specs.declared.Refusal.TheVariants.{BufferLength, SetupEvents, SetupValues}

-- 1 and 2, or 1 and 20.
unfoldable pub count_refusal : ℕ → ValueKind → ℕ → Option Refusal
count_refusal events (Numbered values) top = or_else (plain_unless (events_test events) SetupEvents) (plain_unless (values_test values top) SetupValues)
count_refusal events (Register lines) top = setup_refusal (register_setup events lines)

-- Then 11.
unfoldable pub handed_refusal : ℕ → ValueKind → ℕ → ℕ → List ℕ → Option Refusal
handed_refusal events kind top states bytes = or_else (count_refusal events kind top) (table_refusal table_limit events kind states 0 bytes)

-- What was refused before, then 13.
unfoldable pub rendering_refusal : Option Refusal → List ℕ → ℕ → Option Refusal
rendering_refusal refused text room = or_else refused (plain_unless (leb (length text) room) BufferLength)

-- Answer and buffer of a call that renders a text: its length, or the refusal.
pub record Renders (refused : Option Refusal) (text old new : List ℕ) (r : Result ℕ Refusal) : Type 0 where
  pub answer : r ≡ answered (rendering_refusal refused text (length old)) (length text)
  pub buffer : new ≡ put_unless (rendering_refusal refused text (length old)) text old
