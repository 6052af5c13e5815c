-- Twin of RegisterFile, pinned by channel_writer RegisterNodeClaim.
-- Writing a register's channel file from numbers and node bytes, six a node.
use Rattle.std.specs.Prelude.{ℕ, ◌+◌, ◌*◌, eqb, Result}
use mathlib.Core.{List.{List, [], ◌∷◌}, Bool.{Bool, ◌&&◌}, Option.{Option, some, none}}
use Rattle.theory.specs.ValueSets.{Masks}
use Rattle.channel_file.specs.RegisterFile.{Token, Contents, text}
use Rattle.channel_writer.specs.Writing.{token_with, with_token, WritesBy}
use Rattle.refusal.specs.declared.Refusal.{Refusal}

-- A mask of two bytes, its low byte first.
abbrev pub mask_of : ℕ → ℕ → ℕ
mask_of a b = a + 256 * b

abbrev pub masks_of : ℕ → ℕ → Masks
masks_of low high = record { low = low; high = high }

abbrev pub no_mask : Masks → Bool
no_mask m = eqb m.low 0 && eqb m.high 0

-- The token of a node (Claims, RegisterNodeClaim).
abbrev pub node_token : ℕ → ℕ → Masks → Option Token
node_token k a m = token_with (no_mask m) m k a

-- The tokens of node bytes; none where a node has none, or bytes are left over after the last whole node.
abbrev pub node_tokens : List ℕ → Option (List Token)
node_tokens [] = some []
node_tokens (k ∷ []) = none
node_tokens (k ∷ a ∷ []) = none
node_tokens (k ∷ a ∷ b ∷ []) = none
node_tokens (k ∷ a ∷ b ∷ c ∷ []) = none
node_tokens (k ∷ a ∷ b ∷ c ∷ d ∷ []) = none
node_tokens (k ∷ a ∷ b ∷ c ∷ d ∷ e ∷ s) = with_token (node_token k a (masks_of (mask_of b c) (mask_of d e))) (node_tokens s)

-- The contents to write; none without a node, or where the nodes have no tokens.
abbrev pub contents_of : ℕ → ℕ → Option (List Token) → Option Contents
contents_of e l none = none
contents_of e l (some []) = none
contents_of e l (some (x ∷ xs)) = some (record { events = e; lines = l; rule = x ∷ xs })

abbrev pub WritesContents : Option Contents → List ℕ → List ℕ → Result ℕ Refusal → Type 0
WritesContents = WritesBy text
