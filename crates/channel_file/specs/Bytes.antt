-- Twin of ChannelFile, pinned by channel_io ClampedClaim.
-- The bytes stored from a file: one byte an entry of meet, three bytes a node of the rule (document 01, "Rules"). A number
-- above 255 stands as 255, which every judgement on it takes as it takes the number (Claims, ClampClaim).
use Rattle.std.specs.Prelude.{ℕ, min, ◌*◌, length, take, replicate, Option, Some, None, Result, Ok, Err}
use mathlib.Core.{Path.{◌≡◌}, List.{List, [], ◌∷◌}}
use Rattle.limits.specs.Limits.{meet_limit, node_limit}
use Rattle.refusal.specs.{declared.Refusal.{Refusal}, Refusal.{put}}
use Rattle.text_format.specs.Format.{Outcome, contents, refused}
use Rattle.channel_file.specs.{ChannelFile.{Token, Contents, encoded}, FileFormat.{kind, first, second}}
use Rattle.channel_file.specs.{Reading.{checked}, declared.Form.{Form}, declared.ReadArrays.{ReadArrays}}

abbrev pub clamp : ℕ → ℕ
clamp v = min v 255

-- "A node is three bytes: kind, first, second; an unused field is 0."
abbrev pub node : Token → List ℕ
node x = kind x ∷ clamp (first x) ∷ clamp (second x) ∷ []

abbrev pub entry : ℕ → List ℕ
entry v = clamp v ∷ []

abbrev pub meet_bytes : Contents → List ℕ
meet_bytes c = encoded entry c.meet

abbrev pub rule_bytes : Contents → List ℕ
rule_bytes c = encoded node c.rule

-- ---- storing into buffers

-- The front of an output, as far as a buffer has room for it, over the front of what the buffer held.
abbrev pub put_front : List ℕ → List ℕ → List ℕ
put_front output old = put (take (length old) output) old

-- The buffers afterwards.
abbrev pub stored_meet : Outcome Contents → List ℕ → List ℕ
stored_meet (contents c) meet = put_front (meet_bytes c) meet
stored_meet (refused p) meet = meet

abbrev pub stored_rule : Outcome Contents → List ℕ → List ℕ
stored_rule (contents c) rule = put_front (rule_bytes c) rule
stored_rule (refused p) rule = rule

-- What is read of a text: its form and two arrays that held 0 alone; or 4, and no array.
abbrev pub arrays_with : Result Form Refusal → List ℕ → List ℕ → Result ReadArrays Refusal
arrays_with (Ok form) meet rule = Ok (record { form = form; meet = meet; rule = rule })
arrays_with (Err refusal) meet rule = Err refusal

abbrev pub arrays_of : Outcome Contents → Result ReadArrays Refusal
arrays_of x = arrays_with (checked x) (stored_meet x (replicate meet_limit 0)) (stored_rule x (replicate (node_limit * 3) 0))

-- The same of a text of tokens alone: how many nodes it has, and none where it is no list of tokens.
abbrev pub token_reply : {A : Type 0} → Outcome (List A) → Option ℕ
token_reply (contents xs) = Some (length xs)
token_reply (refused p) = None

abbrev pub stored_nodes : {A : Type 0} → (A → List ℕ) → Outcome (List A) → List ℕ → List ℕ
stored_nodes code (contents xs) old = put_front (encoded code xs) old
stored_nodes code (refused p) old = old

-- Reply and buffer of a call that reads tokens, where code has the bytes of a token's node.
pub record ReadsTokens {A : Type 0} (code : A → List ℕ) (x : Outcome (List A)) (old new : List ℕ) (r : Option ℕ) : Type 0 where
  pub reply : r ≡ token_reply x
  pub buffer : new ≡ stored_nodes code x old
