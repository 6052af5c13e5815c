-- What is claimed of the two kinds of values (document 01, "Value sets"; document 02, F-7).
use mathlib.Core.{Path.{◌≡◌}, Logic.{◌↔◌}, Bool.{true}, List.{List}}
use Rattle.std.specs.Prelude.{ℕ, ◌^◌, ◌≤◌, ◌<◌}
use Rattle.std.specs.Int.Bits.{bit_and}
use Rattle.theory.specs.{ValueSets.{MeetSemilattice, Below, meet_at, four_value_meet, Masks, OfLines, top_masks, pack, unpack}, ValueSetTests.{lawful}}

-- Meet is the bitwise and of each mask.
unfoldable pub meet_masks : Masks → Masks → Masks
meet_masks a b = record { low = bit_and a.low b.low; high = bit_and a.high b.high }

-- The packed register values of some lines, with bitwise and as meet.
abbrev pub Packed : ℕ → ℕ → Type 0
Packed lines v = OfLines lines (unpack v)

-- The test passes exactly if the laws hold, at every size.
abbrev pub LawfulClaim : Type 0
LawfulClaim = (n : ℕ) (table : List ℕ) (top : ℕ) → (lawful n table top ≡ true) ↔ MeetSemilattice (Below n) (meet_at n table) top

-- The four-value set is a meet-semilattice with top 3.
abbrev pub FourValueClaim : Type 0
FourValueClaim = MeetSemilattice (Below 4) (meet_at 4 four_value_meet) 3

-- The register values of any number of lines are a meet-semilattice.
abbrev pub MasksClaim : Type 0
MasksClaim = (lines : ℕ) → MeetSemilattice (OfLines lines) meet_masks (top_masks lines)

-- Packing loses nothing and keeps the meet: of at most 16 lines, masks and packed numbers are the same values.
pub record PackingClaim : Type 0 where
  pub unpack_pack : (m : Masks) → OfLines 16 m → unpack (pack m) ≡ m
  pub pack_unpack : (v : ℕ) → pack (unpack v) ≡ v
  pub packed : (lines : ℕ) (m : Masks) → lines ≤ 16 → OfLines lines m → Packed lines (pack m)
  pub fits : (m : Masks) → OfLines 16 m → pack m < 2 ^ 32
  pub meet : (a b : Masks) → OfLines 16 a → OfLines 16 b → bit_and (pack a) (pack b) ≡ pack (meet_masks a b)

-- The packed register values of at most 16 lines are a meet-semilattice with bitwise and as meet.
abbrev pub PackedClaim : Type 0
PackedClaim = (lines : ℕ) → lines ≤ 16 → MeetSemilattice (Packed lines) bit_and (pack (top_masks lines))
