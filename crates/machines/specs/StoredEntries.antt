-- Twin of TableBytes, pinned by machines StoredTableClaim.
-- Entries stored to a lent buffer (document 01, "Table of a rule", and refusal 13: "What lies after an output keeps its
-- contents").
use mathlib.Core.{Bool.{Bool, ◌&&◌, cond}, List.{List, [], ◌∷◌, ◌++◌}}
use Rattle.std.specs.Prelude.{ℕ, zero, suc, ◌*◌, ◌%◌}
use lib.{ListN.{length, get_or}, Dec.{leb}}
use Rattle.refusal.specs.Refusal.{put}
use Rattle.theory.specs.ValueSets.{unpack}
use Rattle.values.specs.{declared.ValueKind.{ValueKind}, declared.ValueKind.TheVariants.{Numbered, Register}, Setup.{mask_bytes}}

-- The bytes of c entries from entry i on, where entries are numbered by state, then event.
module _ {B : Type 0} (encode : B → ℕ → List ℕ) (value_at : ℕ → B) (next_at : ℕ → ℕ) where
  unfoldable pub entries_bytes : ℕ → ℕ → List ℕ
  entries_bytes zero i = []
  entries_bytes (suc c) i = encode (value_at i) (next_at i) ++ entries_bytes c (suc i)

-- The two bytes where values are numbers.
abbrev pub two_bytes : ℕ → ℕ → List ℕ
two_bytes b t = b ∷ t ∷ []

-- What is stored of a value of 32 bits: the low byte of a number, or both masks; and the next state.
abbrev pub low_bytes : ℕ → ℕ → List ℕ
low_bytes v t = two_bytes (v % 256) t

abbrev pub five_bytes : ℕ → ℕ → List ℕ
five_bytes v t = mask_bytes (unpack v).low ++ (mask_bytes (unpack v).high ++ (t ∷ []))

abbrev pub kept_bytes : ValueKind → ℕ → ℕ → List ℕ
kept_bytes (Numbered n) = low_bytes
kept_bytes (Register lines) = five_bytes

-- The bytes of the first `count` entries of two flat arrays.
unfoldable pub stored : (ℕ → ℕ → List ℕ) → List ℕ → List ℕ → ℕ → List ℕ
stored encode values nexts count = entries_bytes encode (λ i. get_or values i 0) (λ i. get_or nexts i 0) count 0

-- Both arrays have `count` entries and the buffer has room for their bytes.
unfoldable pub storable : ℕ → List ℕ → List ℕ → ℕ → List ℕ → Bool
storable width values nexts count old = leb count (length values) && (leb count (length nexts) && leb (count * width) (length old))

-- The buffer after a store; where something is too short, as it was.
unfoldable pub after_store : ℕ → (ℕ → ℕ → List ℕ) → List ℕ → List ℕ → ℕ → List ℕ → List ℕ
after_store width encode values nexts count old =
    cond (storable width values nexts count old) (put (stored encode values nexts count) old) old
