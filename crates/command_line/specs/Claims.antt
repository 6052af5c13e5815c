-- What is claimed of lines; each claim is inhabited in proofs/Claims.
use Rattle.std.specs.Prelude.{ℕ, ◌≡◌, drop, Option, Some}
use mathlib.Core.List.{List, [], ◌∷◌, ◌++◌, Memᴰ}
use Rattle.command_line.specs.declared.{Command.{Command}, Item.{Item}}
use Rattle.command_line.specs.Words.{Words, words, rest}
use Rattle.command_line.specs.Parts.{divider, Divided, first_part, second_part}
use Rattle.command_line.specs.Numbers.{IsNumber, number_of}
use Rattle.command_line.specs.Lists.{Items, items_from}
use Rattle.command_line.specs.Names.{names, named}

-- A line has one list of words: the computed one.
pub record WordsClaim : Type 0 where
  pub its_words : (line : List ℕ) → Words line (words line)
  pub only : (line : List ℕ) (ws : List (List ℕ)) → Words line ws → ws ≡ words line

-- The line from its word n on is an end of the line, has the words from word n on, and begins with no space.
pub record EndOf (r line : List ℕ) : Type 0 where
  pub before : List ℕ
  pub whole : before ++ r ≡ line

pub record RestClaim : Type 0 where
  pub an_end : (n : ℕ) (line : List ℕ) → EndOf (rest n line) line
  pub its_words : (n : ℕ) (line : List ℕ) → words (rest n line) ≡ drop n (words line)
  pub no_space : (n : ℕ) (line s : List ℕ) → rest n line ≡ 32 ∷ s → ⊥

-- A text with a divider is divided in one way: by the computed parts. A text without has a first part alone.
pub record PartsClaim : Type 0 where
  pub its_parts : (text before behind : List ℕ) → text ≡ before ++ (divider ++ behind) → Divided text (first_part text) (second_part text)
  pub only : (text first second : List ℕ) → Divided text first second → (first ≡ first_part text) × (second ≡ second_part text)
  pub undivided : (text : List ℕ) → ((before behind : List ℕ) → text ≡ before ++ (divider ++ behind) → ⊥) → (first_part text ≡ text) × (second_part text ≡ [])

-- A word has one answer: the computed one.
pub record NumberClaim : Type 0 where
  pub answered : (w : List ℕ) → IsNumber w (number_of w)
  pub only : (w : List ℕ) (answer : Option ℕ) → IsNumber w answer → answer ≡ number_of w

-- Words stand in bytes exactly where the computed answer is those bytes.
pub record ListsClaim : Type 0 where
  pub found : (this that : Item) (ws : List (List ℕ)) (bytes : List ℕ) → items_from this that [] ws ≡ Some bytes → Items this that ws bytes
  pub only : (this that : Item) (ws : List (List ℕ)) (bytes : List ℕ) → Items this that ws bytes → items_from this that [] ws ≡ Some bytes

-- A word names a command exactly if the two stand beside each other in the list of names.
pub record NamesClaim : Type 0 where
  pub named_so : (p : List ℕ × Command) → Memᴰ p names → named p.0 ≡ Some p.1
  pub listed_so : (w : List ℕ) (c : Command) → named w ≡ Some c → Memᴰ (w, c) names
