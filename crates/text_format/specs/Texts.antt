-- Texts as lists of byte values, and where a text is refused (document 01, "Channel file", refusal 4). Form t: t is a text of the form.
use Prim.Native.{Nat.{ℕ, zero, suc, ◌+◌, ◌/◌, ◌%◌, ◌<◌}, Char.{code}, String.{String}}
use mathlib.Core.{List.{List, [], ◌∷◌, ◌++◌}, Bool.{cond}}
use lib.{Dec.{ltb}, ListN.{length, take}}
use Prim.Native.String as Str

-- The bytes of a text written in a definition.
abbrev pub ascii : String → List ℕ
ascii Str.[] = []
ascii (Str.◌∷◌ c s) = code c ∷ ascii s

-- v in decimal without leading zero, where k + 1 digits are enough (NumeralClaim); twenty are for every number of 64 bits.
abbrev pub decimal : ℕ → ℕ → List ℕ
decimal zero v = (48 + v) ∷ []
decimal (suc k) v = cond (ltb v 10) ((48 + v) ∷ []) (decimal k (v / 10) ++ ((48 + v % 10) ∷ []))

unfoldable pub numeral : ℕ → List ℕ
numeral v = decimal 19 v

-- Texts with one space between.
abbrev pub separated : List (List ℕ) → List ℕ
separated [] = []
separated (x ∷ []) = x
separated (x ∷ y ∷ xs) = x ++ (ascii " " ++ separated (y ∷ xs))

-- At least one item, and each as P says.
abbrev pub OneOrMore : {A : Type 0} → (A → Type 0) → List A → Type 0
OneOrMore P [] = ⊥
OneOrMore P (a ∷ []) = P a
OneOrMore P (a ∷ a' ∷ xs) = P a × OneOrMore P (a' ∷ xs)

-- The texts of c items from item i on, one behind another.
abbrev pub each : (ℕ → List ℕ) → ℕ → ℕ → List ℕ
each text zero i = []
each text (suc c) i = text i ++ each text c (suc i)

module _ (Form : List ℕ → Type 0) where
  -- s begins a text of the form.
  abbrev pub Begins : List ℕ → Type 0
  Begins s = (u : List ℕ) × Form (s ++ u)

  -- The text t is refused at an offset.
  pub data Refused (t : List ℕ) : ℕ → Type 0 where
    -- the least p where the first p + 1 bytes begin no text of the form
    at : (p : ℕ) → p < length t → ((q : ℕ) → q < p → Begins (take (q + 1) t)) → (Begins (take (p + 1) t) → ⊥) → Refused t p
    -- there is none, and t is no text of the form: it ends early
    early : ((q : ℕ) → q < length t → Begins (take (q + 1) t)) → (Form t → ⊥) → Refused t (length t)

-- The form of the texts that show some contents.
abbrev pub FormOf : {A : Type 0} → (A → List ℕ → Type 0) → List ℕ → Type 0
FormOf Shows t = (a : _) × Shows a t
