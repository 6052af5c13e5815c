-- What the private functions of src/ say: which nodes have tokens, and their texts, by the kind of values.
use Rattle.std.specs.Prelude.{ℕ, ◌+◌}
use mathlib.Core.{List.{List, [], ◌∷◌, ◌++◌}, Bool.{Bool, true, false, cond}, Option.{Option, some, none}}
use lib.{Dec.{eqb}, ListN.{get_or}}
use Rattle.text_format.specs.Texts.{ascii}
use Rattle.channel_file.specs.{ChannelFile.{RuleItem, number, line}, FileFormat.{entries}, RegisterFile.{masks_text}, Steps.{ValueOf, items_format}}
use Rattle.channel_file.specs.declared.Values.{Values}
use Rattle.channel_writer.specs.Writing.{bare_token, token_of_one, token_with, node_tokens}
use Rattle.channel_writer.specs.RegisterWriting as register

abbrev pub is_some : {A : Type 0} → Option A → Bool
is_some (some a) = true
is_some none = false

abbrev pub IsSome : {A : Type 0} → Option A → Type 0
IsSome (some a) = Unit {0}
IsSome none = ⊥

abbrev pub items_of : {A : Type 0} → Option (List A) → List A
items_of (some xs) = xs
items_of none = []

-- Whether a kind, a first field and a value that is unused or not have a token, whatever the kind of values.
abbrev pub has_bare : ℕ → Bool
has_bare k = is_some (bare_token {B = ℕ} k)

abbrev pub has_one : ℕ → ℕ → Bool
has_one k a = is_some (token_of_one {B = ℕ} k a)

abbrev pub has_with : Bool → ℕ → ℕ → Bool
has_with unused k a = is_some (token_with {B = ℕ} unused 0 k a)

-- ---- by the kind of values

-- The bytes of a node, the value at an offset, its text, and whether it is 0.
abbrev pub width : Values → ℕ
width Values.Numbered = 3
width Values.Register = 6

abbrev pub mask_at : List ℕ → ℕ → ℕ
mask_at t i = register.mask_of (get_or t i 0) (get_or t (i + 1) 0)

abbrev pub value_at : (k : Values) → List ℕ → ℕ → ValueOf k
value_at Values.Numbered t i = get_or t i 0
value_at Values.Register t i = register.masks_of (mask_at t i) (mask_at t (i + 2))

abbrev pub value_text : (k : Values) → ValueOf k → List ℕ
value_text Values.Numbered v = number v
value_text Values.Register m = masks_text m

abbrev pub is_unused : (k : Values) → ValueOf k → Bool
is_unused Values.Numbered v = eqb v 0
is_unused Values.Register m = register.no_mask m

-- The token of the node at an offset, and the tokens of node bytes.
abbrev pub token_at : (k : Values) → List ℕ → ℕ → Option (RuleItem (ValueOf k))
token_at k t i = token_with (is_unused k (value_at k t (i + 2))) (value_at k t (i + 2)) (get_or t i 0) (get_or t (i + 1) 0)

abbrev pub tokens_of : (k : Values) → List ℕ → Option (List (RuleItem (ValueOf k)))
tokens_of Values.Numbered = node_tokens
tokens_of Values.Register = register.node_tokens

-- The text of a node by its kind alone, whatever stands in unused fields; value: the text of its value.
abbrev pub node_text : List ℕ → ℕ → ℕ → List ℕ
node_text value k a =
    cond (eqb k 0) (ascii "T") (cond (eqb k 1) (ascii "X" ++ number a) (cond (eqb k 2) (ascii "G" ++ number a)
    (cond (eqb k 3) (ascii "O" ++ (number a ++ (ascii "." ++ value))) (cond (eqb k 4) (ascii "A") (cond (eqb k 5) (ascii "V") [])))))

abbrev pub node_at : Values → List ℕ → ℕ → List ℕ
node_at k t i = node_text (value_text k (value_at k t (i + 2))) (get_or t i 0) (get_or t (i + 1) 0)

-- The text of nodes: each token with the byte behind it.
abbrev pub nodes_text : Values → List ℕ → List ℕ
nodes_text k nodes = (items_format k).print (items_of (tokens_of k nodes))

-- The byte behind an item, by what follows it.
abbrev pub behind : List ℕ → ℕ
behind [] = 10
behind (b ∷ s) = 32

-- The whole text, line by line: of document 01's file, and of a register's.
abbrev pub lines_text : ℕ → ℕ → ℕ → List ℕ → List ℕ → List ℕ
lines_text e v p meet nodes =
    line (ascii "events=") (number e)
    ++ (line (ascii "values=") (number v)
    ++ (line (ascii "top=") (number p)
    ++ ((ascii "meet=" ++ entries.print meet) ++ (ascii "rule=" ++ nodes_text Values.Numbered nodes))))

abbrev pub register_text : ℕ → ℕ → List ℕ → List ℕ
register_text e l nodes =
    line (ascii "events=") (number e) ++ (line (ascii "lines=") (number l) ++ (ascii "rule=" ++ nodes_text Values.Register nodes))
