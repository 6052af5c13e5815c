-- The two parts of a text, on both sides of its first ` / `.
use Rattle.std.specs.Prelude.{ℕ, suc, ◌≤◌, length, take, drop, eqb}
use mathlib.Core.{Path.{◌≡◌}, List.{List, [], ◌∷◌, ◌++◌}, Bool.{Bool, cond}}
use Rattle.std.specs.List.{starts_with}
use Rattle.text_format.specs.Texts.{ascii}

-- ---- the sentence

abbrev pub divider : List ℕ
divider = ascii " / "

pub record Divided (text first second : List ℕ) : Type 0 where
  pub whole : text ≡ first ++ (divider ++ second)
  pub earliest : (before behind : List ℕ) → text ≡ before ++ (divider ++ behind) → length first ≤ length before

-- ---- the computing twin

-- Whether a text begins with a divider.
abbrev pub at_divider : List ℕ → Bool
at_divider s = starts_with eqb s divider

-- How many bytes stand before the first divider; all where there is none.
unfoldable pub before_divider : List ℕ → ℕ
before_divider [] = 0
before_divider (b ∷ s) = cond (at_divider (b ∷ s)) 0 (suc (before_divider s))

abbrev pub first_part : List ℕ → List ℕ
first_part text = take (before_divider text) text

abbrev pub second_part : List ℕ → List ℕ
second_part text = drop 3 (drop (before_divider text) text)
