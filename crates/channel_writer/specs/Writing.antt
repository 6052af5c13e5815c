-- Twin of ChannelFile, pinned by channel_writer NodeClaim.
-- Writing a channel file from numbers, meet entries and node bytes.
use Rattle.std.specs.Prelude.{ℕ, min, Err, Ok, Result}
use mathlib.Core.{Path.{◌≡◌}, List.{List, [], ◌∷◌}, Bool.{Bool, cond}, Option.{Option, some, none}}
use lib.{Dec.{ltb, eqb}, ListN.{length}}
use Rattle.limits.specs.Limits.{file_limit}
use Rattle.refusal.specs.{Refusal.{put}, declared.Refusal.TheVariants.{BufferLength, NodeCount}}
use Rattle.channel_file.specs.ChannelFile.{RuleItem, token_T, token_A, token_V, token_X, token_G, token_O, Token, Contents, text}
use Rattle.refusal.specs.declared.Refusal.{Refusal}

-- The item of a node: none for an unknown kind, or where an unused field is not 0 (Claims, NodeClaim).
abbrev pub bare_token : {B : Type 0} → ℕ → Option (RuleItem B)
bare_token k = cond (eqb k 0) (some token_T) (cond (eqb k 4) (some token_A) (cond (eqb k 5) (some token_V) none))

abbrev pub token_of_one : {B : Type 0} → ℕ → ℕ → Option (RuleItem B)
token_of_one k a = cond (eqb k 1) (some (token_X a)) (cond (eqb k 2) (some (token_G a)) (cond (eqb a 0) (bare_token k) none))

-- Of a kind and a first field with a value: unused says that the value is 0.
abbrev pub token_with : {B : Type 0} → Bool → B → ℕ → ℕ → Option (RuleItem B)
token_with unused v k a = cond (eqb k 3) (some (token_O a v)) (cond unused (token_of_one k a) none)

abbrev pub node_token : ℕ → ℕ → ℕ → Option Token
node_token k a b = token_with (eqb b 0) b k a

abbrev pub with_token : {X : Type 0} → Option X → Option (List X) → Option (List X)
with_token (some x) (some xs) = some (x ∷ xs)
with_token (some x) none = none
with_token none xs = none

-- The tokens of node bytes; none where a node has none, or bytes are left over after the last whole node.
abbrev pub node_tokens : List ℕ → Option (List Token)
node_tokens [] = some []
node_tokens (k ∷ []) = none
node_tokens (k ∷ a ∷ []) = none
node_tokens (k ∷ a ∷ b ∷ s) = with_token (node_token k a b) (node_tokens s)

-- The contents to write; none without an entry, without a node, or where the nodes have no tokens.
abbrev pub contents_of : ℕ → ℕ → ℕ → List ℕ → Option (List Token) → Option Contents
contents_of e v p [] xs = none
contents_of e v p (m ∷ ms) none = none
contents_of e v p (m ∷ ms) (some []) = none
contents_of e v p (m ∷ ms) (some (x ∷ xs)) = some (record { events = e; values = v; top = p; meet = m ∷ ms; rule = x ∷ xs })

-- ---- the text of contents, written into a buffer that held old
module _ {A : Type 0} (text : A → List ℕ) (old : List ℕ) where
  -- The reply: 5 where there is nothing to write, 13 for a text longer than 4,096 bytes or than the buffer, or the text's length.
  abbrev pub reply_by : Option A → Result ℕ Refusal
  reply_by none = Err NodeCount
  reply_by (some c) = cond (ltb (min file_limit (length old)) (length (text c))) (Err BufferLength) (Ok (length (text c)))

  -- The buffer afterwards; it is as before unless the text was written.
  abbrev pub buffer_by : Option A → List ℕ
  buffer_by none = old
  buffer_by (some c) = cond (ltb (min file_limit (length old)) (length (text c))) old (put (text c) old)

-- Reply and buffer of a call that writes a file.
pub record WritesBy {A : Type 0} (text : A → List ℕ) (c : Option A) (old new : List ℕ) (r : Result ℕ Refusal) : Type 0 where
  pub reply : r ≡ reply_by text old c
  pub buffer : new ≡ buffer_by text old c

abbrev pub written_reply : List ℕ → Option Contents → Result ℕ Refusal
written_reply old o = reply_by text old o

abbrev pub written_buffer : List ℕ → Option Contents → List ℕ
written_buffer old o = buffer_by text old o

abbrev pub WritesContents : Option Contents → List ℕ → List ℕ → Result ℕ Refusal → Type 0
WritesContents = WritesBy text
