-- What is claimed of writing; each claim is inhabited in proofs/Claims.
use Rattle.std.specs.Prelude.{ℕ, ◌≤◌, ◌<◌, min, length}
use mathlib.Core.{Path.{◌≡◌}, List.{List, [], ◌∷◌}, Option.{Option, none, some}}
use Rattle.theory.specs.ValueSets.{Masks}
use Rattle.limits.specs.Limits.{file_limit}
use Rattle.refusal.specs.{Refusal.{Condition, plain, JudgedCall, refusal_of}, declared.Refusal.TheVariants.{BufferLength, NodeCount}}
use Rattle.text_format.specs.Format.{contents}
use Rattle.channel_file.specs.ChannelFile.{Token, Contents, text, SmallContents}
use Rattle.channel_file.specs.FileFormat.{first, second, kind}
use Rattle.channel_file.specs.Reading.{read_file}
use Rattle.channel_file.specs.Bytes.{meet_bytes, rule_bytes}
use Rattle.channel_writer.specs.Writing.{node_token, node_tokens, contents_of, reply_by, buffer_by}
use Rattle.channel_file.specs.RegisterFile as register
use Rattle.channel_file.specs.RegisterReading as register_reading
use Rattle.channel_writer.specs.RegisterWriting as register_writing

-- The conditions of writing contents into a buffer, whatever their form: 5 where there are none, which no text can show; 13 for a text
-- over 4,096 bytes or longer than the buffer.
abbrev pub text_written_conditions : {A : Type 0} → (A → List ℕ) → Option A → List ℕ → List Condition
text_written_conditions {A} text o old =
    plain NodeCount (o ≡ none) ∷ plain BufferLength ((c : A) × (o ≡ some c) × (min file_limit (length old) < length (text c))) ∷ []

-- The reply gives the first of them, and beside it the buffer is as before.
abbrev pub WrittenRefusalClaim : Type 1
WrittenRefusalClaim =
    (A : Type 0) (text : A → List ℕ) (o : Option A) (old : List ℕ) →
    JudgedCall (text_written_conditions text o old) (refusal_of (reply_by text old o)) old (buffer_by text old o)

-- All of a list as P says.
pub data All {A : Type 0} (P : A → Type 0) : List A → Type 0 where
  none_left : All P []
  one_more : {a : A} {xs : List A} → P a → All P xs → All P (a ∷ xs)

abbrev pub Byte : ℕ → Type 0
Byte v = v ≤ 255

-- A token whose numbers fit a byte.
pub record ByteToken (x : Token) : Type 0 where
  pub first_fits : Byte (first x)
  pub second_fits : Byte (second x)

pub record ByteContents (c : Contents) : Type 0 where
  pub meet : All Byte c.meet
  pub rule : All ByteToken c.rule

-- A node's token is the one that has its three bytes.
pub record NodeClaim : Type 0 where
  pub its_bytes : (k a b : ℕ) (x : Token) → node_token k a b ≡ some x → (kind x ≡ k) × ((first x ≡ a) × (second x ≡ b))
  pub its_token : (x : Token) → node_token (kind x) (first x) (second x) ≡ some x

-- What is written is of the form, and reads back as the contents written, where it is within the limit.
pub record WrittenTextClaim : Type 0 where
  pub of_the_form : (e v p : ℕ) (meet nodes : List ℕ) (c : Contents) → Byte e → Byte v → Byte p → All Byte meet → All Byte nodes
      → contents_of e v p meet (node_tokens nodes) ≡ some c → SmallContents c
  pub reads_back : (e v p : ℕ) (meet nodes : List ℕ) (c : Contents) → Byte e → Byte v → Byte p → All Byte meet → All Byte nodes
      → contents_of e v p meet (node_tokens nodes) ≡ some c → length (text c) ≤ file_limit → read_file (text c) ≡ contents c

-- What was read from a text, stored as bytes and written again, is the text, where its numbers fit a byte.
pub record AgainClaim : Type 0 where
  pub same_contents : (t : List ℕ) (c : Contents) → read_file t ≡ contents c → ByteContents c
      → contents_of c.events c.values c.top (meet_bytes c) (node_tokens (rule_bytes c)) ≡ some c

-- ---- the same of a register's file

-- A token whose numbers fit: a byte for the first, 16 bits for a mask.
pub record FittingToken (x : register.Token) : Type 0 where
  pub first_fits : Byte (register_reading.first x)
  pub low_fits : (register_reading.masks x).low ≤ 65535
  pub high_fits : (register_reading.masks x).high ≤ 65535

-- A node's token is the one that has its kind, its first field and its masks.
pub record RegisterNodeClaim : Type 0 where
  pub its_fields :
      (k a : ℕ) (m : Masks) (x : register.Token) → register_writing.node_token k a m ≡ some x
      → (register_reading.kind x ≡ k) × ((register_reading.first x ≡ a) × (register_reading.masks x ≡ m))
  pub its_token :
      (x : register.Token) → register_writing.node_token (register_reading.kind x) (register_reading.first x) (register_reading.masks x) ≡ some x

-- What is written is of the form, and reads back as the contents written, where it is within the limit; and what was read from a text, stored
-- as bytes and written again, is the text, where its numbers fit.
pub record RegisterWrittenClaim : Type 0 where
  pub of_the_form : (e l : ℕ) (nodes : List ℕ) (c : register.Contents) → Byte e → Byte l → All Byte nodes
      → register_writing.contents_of e l (register_writing.node_tokens nodes) ≡ some c → register.SmallContents c
  pub reads_back : (e l : ℕ) (nodes : List ℕ) (c : register.Contents) → Byte e → Byte l → All Byte nodes
      → register_writing.contents_of e l (register_writing.node_tokens nodes) ≡ some c → length (register.text c) ≤ file_limit
      → register_reading.read_file (register.text c) ≡ contents c
  pub same_contents : (t : List ℕ) (c : register.Contents) → register_reading.read_file t ≡ contents c → All FittingToken c.rule
      → register_writing.contents_of c.events c.lines (register_writing.node_tokens (register_reading.rule_bytes c)) ≡ some c
