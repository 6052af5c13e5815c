-- Twin of Texts, pinned by text_format AnswerClaim.
-- Separators, and series: one or more items with one space between and byte 10 behind the last.
use Rattle.std.specs.Prelude.{ℕ, zero, suc, List, [], ◌∷◌, ◌++◌, length}
use Rattle.text_format.specs.{Format.{Parsed, ok, bad, bind, Format}, Combinators.{letter}, Decimal.{numbered}}

-- What stands behind an item: a space where another follows, byte 10 where none does.
pub data Separator : Type 0 where
  space newline : Separator

abbrev pub separator_byte : Separator → ℕ
separator_byte space = 32
separator_byte newline = 10

abbrev pub separator : Format Separator
separator = letter separator_byte newline (space ∷ [])

-- A number and what stands behind it; k as in Decimal.
abbrev pub number_item : ℕ → Format (ℕ × Separator)
number_item k = numbered k separator_byte newline (space ∷ [])

abbrev pub series_print : {A : Type 0} → Format (A × Separator) → List A → List ℕ
series_print F [] = []
series_print F (a ∷ []) = F.print (a, newline)
series_print F (a ∷ a' ∷ xs) = F.print (a, space) ++ series_print F (a' ∷ xs)

-- At least one item, and each has a text.
abbrev pub series_fits : {A : Type 0} → Format (A × Separator) → List A → Type 0
series_fits F [] = ⊥
series_fits F (a ∷ []) = F.Fits (a, newline)
series_fits F (a ∷ a' ∷ xs) = F.Fits (a, space) × series_fits F (a' ∷ xs)

abbrev pub series_go : {A : Type 0} → (List ℕ → Parsed (List A)) → A → Separator → List ℕ → Parsed (List A)
series_go again a space r = bind (again r) (λ xs q. ok (a ∷ xs) q)
series_go again a newline r = ok (a ∷ []) r

-- The number is a bound on the items: the length of the text serves, as an item has at least one byte.
abbrev pub series_within : {A : Type 0} → Format (A × Separator) → ℕ → List ℕ → Parsed (List A)
series_within F zero s = bad s
series_within F (suc n) s = bind (F.parse s) (λ p r. series_go (series_within F n) p.0 p.1 r)

abbrev pub series_parse : {A : Type 0} → Format (A × Separator) → List ℕ → Parsed (List A)
series_parse F s = series_within F (suc (length s)) s

-- A series of items of the format F; one is an item that fits as the last.
abbrev pub series : {A : Type 0} → Format (A × Separator) → A → Format (List A)
series F one = record { Fits = series_fits F; print = series_print F; parse = series_parse F; sample = one ∷ [] }
