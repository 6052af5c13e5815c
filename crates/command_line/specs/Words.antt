-- The words of a line.
use Rattle.std.specs.Prelude.{ℕ, zero, suc, ◌≡◌, List, [], ◌∷◌, ◌++◌, Bool, cond, eqb, get_or}

-- ---- the sentence: the words of a line are its longest runs of bytes other than space (byte 32), in order

pub data NoSpace : List ℕ → Type 0 where
  none : NoSpace []
  one_more : {b : ℕ} {s : List ℕ} → (b ≡ 32 → ⊥) → NoSpace s → NoSpace (b ∷ s)

-- What may stand behind a word: nothing, or a space.
pub data Ends : List ℕ → Type 0 where
  at_end : Ends []
  at_space : {s : List ℕ} → Ends (32 ∷ s)

pub data Words : List ℕ → List (List ℕ) → Type 0 where
  end : Words [] []
  space : {s : List ℕ} {ws : List (List ℕ)} → Words s ws → Words (32 ∷ s) ws
  next_word : {b : ℕ} {w s : List ℕ} {ws : List (List ℕ)} → NoSpace (b ∷ w) → Ends s → Words s ws → Words ((b ∷ w) ++ s) ((b ∷ w) ∷ ws)

-- ---- the computing twin

abbrev pub is_space : ℕ → Bool
is_space b = eqb b 32

-- A byte before a first word, and a byte before a text with these words.
abbrev pub lengthened : ℕ → List (List ℕ) → List (List ℕ)
lengthened b [] = (b ∷ []) ∷ []
lengthened b (w ∷ ws) = (b ∷ w) ∷ ws

abbrev pub led : ℕ → List ℕ → List (List ℕ) → List (List ℕ)
led b [] ws = (b ∷ []) ∷ ws
led b (c ∷ s) ws = cond (is_space c) ((b ∷ []) ∷ ws) (lengthened b ws)

unfoldable pub words : List ℕ → List (List ℕ)
words [] = []
words (b ∷ s) = cond (is_space b) (words s) (led b s (words s))

-- Word n of a line, from 0; empty where there is none.
abbrev pub word : ℕ → List ℕ → List ℕ
word n line = get_or (words line) n []

-- How many bytes stand before the first byte b; all where there is none.
unfoldable pub before : ℕ → List ℕ → ℕ
before b [] = 0
before b (c ∷ s) = cond (eqb c b) 0 (suc (before b s))

-- ---- the line from its word n on

-- What is left behind leading spaces, and behind a word.
unfoldable pub after_spaces : List ℕ → List ℕ
after_spaces [] = []
after_spaces (b ∷ s) = cond (is_space b) (after_spaces s) (b ∷ s)

unfoldable pub after_word : List ℕ → List ℕ
after_word [] = []
after_word (b ∷ s) = cond (is_space b) (b ∷ s) (after_word s)

-- Behind n words and the spaces before each, the spaces before the next.
unfoldable pub rest : ℕ → List ℕ → List ℕ
rest zero line = after_spaces line
rest (suc n) line = rest n (after_word (after_spaces line))
