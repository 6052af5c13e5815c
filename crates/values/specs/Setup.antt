-- Values of either kind, in numbers and in bytes, and a set-up with its refusals (document 01, "Value sets"; document 02, F-7).
use mathlib.Core.{List.{List, [], ◌∷◌, ◌++◌}, Bool.{cond, ◌&&◌}, Path.{◌≡◌}}
use Rattle.std.specs.Prelude.{ℕ, ◌^◌, ◌<◌, ◌+◌, ◌*◌, ◌/◌, ◌%◌, ◌≤◌}
use lib.{Bits.{bit_and}, Dec.{ltb}, ListN.{get_or, length}}
use Rattle.theory.specs.ValueSets.{AtOrBelow, Below, meet_at, OfLines, pack, unpack, top_masks, MeetSemilattice}
use Rattle.values.specs.{declared.ValueKind.{ValueKind}, declared.ValueKind.TheVariants.{Numbered, Register}}
use Rattle.values.specs.{declared.Comparison.{Comparison}, declared.Comparison.TheVariants.{Equal, StrictlyBelow, NotBelow}}
use Rattle.limits.specs.Limits.{event_limit, value_limit, line_limit}
use Rattle.refusal.specs.{Refusal.{Condition, plain}, declared.Refusal.TheVariants.{SetupEvents, SetupLines, SetupMeet, SetupValues}}

-- A value of a register is two 16-bit masks; no bit at or above the line count is set.
pub record RegisterValue (lines v : ℕ) : Type 0 where
  pub two_masks : v < 2 ^ 32
  pub of_lines : OfLines lines (unpack v)

-- Which numbers are values of a kind: those below the count, or the packed masks of so many lines.
abbrev pub ValueIn : ValueKind → ℕ → Type 0
ValueIn (Numbered n) v = Below n v
ValueIn (Register lines) v = RegisterValue lines v

-- The meet of two values: by the table for a numbered set, by bitwise and for packed register values.
unfoldable pub meet_of : ValueKind → List ℕ → ℕ → ℕ → ℕ
meet_of (Numbered n) table a b = meet_at n table a b
meet_of (Register lines) table a b = bit_and a b

-- The top value: the one that is handed in, or all lines' bits in both masks.
abbrev pub top_of : ValueKind → ℕ → ℕ
top_of (Numbered n) top = top
top_of (Register lines) top = pack (top_masks lines)

-- "Comparing two values shall tell equal, strictly below, or not below" (document 02, F-5): what each answer says of b and c.
abbrev pub ComparesAs : Comparison → (ℕ → ℕ → ℕ) → ℕ → ℕ → Type 0
ComparesAs Equal meet b c = b ≡ c
ComparesAs StrictlyBelow meet b c = AtOrBelow meet b c × ¬ (b ≡ c)
ComparesAs NotBelow meet b c = ¬ AtOrBelow meet b c

-- A value in bytes: one for a number; for a register the low mask, then the high mask, each mask's low byte first.
abbrev pub value_width : ValueKind → ℕ
value_width (Numbered n) = 1
value_width (Register lines) = 4

abbrev pub mask_bytes : ℕ → List ℕ
mask_bytes m = m % 256 ∷ m / 256 ∷ []

abbrev pub value_bytes : ValueKind → ℕ → List ℕ
value_bytes (Numbered n) v = v ∷ []
value_bytes (Register lines) v = mask_bytes (unpack v).low ++ mask_bytes (unpack v).high

-- The value in bytes from a place on. Numbers that are no bytes are those of no value: they are read as 2 ^ 32, which no register has.
unfoldable pub masks_value : ℕ → ℕ → ℕ → ℕ → ℕ
masks_value a b c d = cond (ltb a 256 && (ltb b 256 && ltb c 256)) (a + 256 * b + 65536 * (c + 256 * d)) (2 ^ 32)

abbrev pub value_from : ValueKind → List ℕ → ℕ → ℕ
value_from (Numbered n) bytes at = get_or bytes at 0
value_from (Register lines) bytes at = masks_value (get_or bytes at 0) (get_or bytes (at + 1) 0) (get_or bytes (at + 2) 0) (get_or bytes (at + 3) 0)

-- A set-up as it is handed in: any numbers, and the meet table's entries, row by row. A register's top and meet are fixed: what
-- stands there is not looked at.
pub record Setup : Type 0 where
  pub events : ℕ
  pub kind : ValueKind
  pub top : ℕ
  pub meet : List ℕ

abbrev pub setup_of_kind : ℕ → ValueKind → ℕ → List ℕ → Setup
setup_of_kind events kind top meet = record { events = events; kind = kind; top = top; meet = meet }

-- Document 01's set-up.
abbrev pub setup : ℕ → ℕ → ℕ → List ℕ → Setup
setup events values top meet = setup_of_kind events (Numbered values) top meet

-- Document 02's, of registers of so many lines (F-7): "top has all lines' bits set in both".
abbrev pub register_setup : ℕ → ℕ → Setup
register_setup events lines = setup_of_kind events (Register lines) (pack (top_masks lines)) []

-- Which numbers are its values, their meet, and top.
abbrev pub SetupValue : Setup → ℕ → Type 0
SetupValue s = ValueIn s.kind

abbrev pub setup_meet : Setup → ℕ → ℕ → ℕ
setup_meet s = meet_of s.kind s.meet

abbrev pub setup_top : Setup → ℕ
setup_top s = top_of s.kind s.top

-- 1: events not 1 to 16.
abbrev pub EventsFault : ℕ → Type 0
EventsFault events = ¬ ((1 ≤ events) × (events ≤ event_limit))

-- 2: values not 1 to 16, or top not below values.
pub data ValuesFault (values top : ℕ) : Type 0 where
  values_out_of_limits : ¬ ((1 ≤ values) × (values ≤ value_limit)) → ValuesFault values top
  top_not_below : ¬ (top < values) → ValuesFault values top

-- 3: meet length wrong, an entry not below values, or a law broken.
pub data MeetFault (values top : ℕ) (meet : List ℕ) : Type 0 where
  length_wrong : ¬ (length meet ≡ values * values) → MeetFault values top meet
  entry_not_below : (i : ℕ) → i < length meet → ¬ (get_or meet i 0 < values) → MeetFault values top meet
  law_broken : ¬ MeetSemilattice (Below values) (meet_at values meet) top → MeetFault values top meet

-- 20: lines not 1 to 16.
abbrev pub LinesFault : ℕ → Type 0
LinesFault lines = ¬ ((1 ≤ lines) × (lines ≤ line_limit))

-- After 1: 2 and 3 for numbers with a meet table, 20 in their place for a register.
unfoldable pub kind_conditions : ValueKind → ℕ → List ℕ → List Condition
kind_conditions (Numbered values) top meet = plain SetupValues (ValuesFault values top) ∷ plain SetupMeet (MeetFault values top meet) ∷ []
kind_conditions (Register lines) top meet = plain SetupLines (LinesFault lines) ∷ []

-- The conditions that a set-up meets, in document 01's order.
unfoldable pub setup_conditions : Setup → List Condition
setup_conditions s = plain SetupEvents (EventsFault s.events) ∷ kind_conditions s.kind s.top s.meet
