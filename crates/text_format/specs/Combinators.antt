-- Twin of Texts, pinned by text_format AnswerClaim.
-- Formats put together from formats. Their laws are in proofs/Combinators.
use Rattle.std.specs.Prelude.{ℕ, eqb}
use mathlib.Core.{Path.{◌≡◌}, List.{List, [], ◌∷◌, ◌++◌}, Bool.{cond}, Option.{Option, some, none}}
use Rattle.text_format.specs.Format.{Parsed, ok, bad, bind, Format}

-- One value after another; the second format may depend on the first value.
abbrev pub sequence : {A B : Type 0} → Format A → (A → Format B) → Format (A × B)
sequence F G =
    record {
      Fits = λ p. F.Fits p.0 × (G p.0).Fits p.1;
      print = λ p. F.print p.0 ++ (G p.0).print p.1;
      parse = λ s. bind (F.parse s) (λ a r. bind ((G a).parse r) (λ b r'. ok (a, b) r'));
      sample = (F.sample, (G F.sample).sample);
    }

-- The same texts for values of another type: f to it and g back.
abbrev pub mapped : {A B : Type 0} → Format A → (A → B) → (B → A) → Format B
mapped F f g =
    record {
      Fits = λ b. F.Fits (g b) × (f (g b) ≡ b);
      print = λ b. F.print (g b);
      parse = λ s. bind (F.parse s) (λ a r. ok (f a) r);
      sample = f F.sample;
    }

-- The first letter of an alphabet whose byte is b.
abbrev pub find_in : {K : Type 0} → (K → ℕ) → List K → ℕ → Option K
find_in byte [] b = none
find_in byte (k ∷ ks) b = cond (eqb b (byte k)) (some k) (find_in byte ks b)

abbrev pub letter_of : {K : Type 0} → Option K → ℕ → List ℕ → Parsed K
letter_of (some k) b s = ok k s
letter_of none b s = bad (b ∷ s)

abbrev pub letter_parse : {K : Type 0} → (K → ℕ) → List K → List ℕ → Parsed K
letter_parse byte ks [] = bad []
letter_parse byte ks (b ∷ s) = letter_of (find_in byte ks b) b s

-- One byte out of an alphabet: k₀ and ks are its letters.
abbrev pub letter : {K : Type 0} → (K → ℕ) → K → List K → Format K
letter byte k₀ ks =
    record {
      Fits = λ k. Unit {0};
      print = λ k. byte k ∷ [];
      parse = letter_parse byte (k₀ ∷ ks);
      sample = k₀;
    }

-- An alphabet's list has each of its letters, and no two of them have the same byte.
abbrev pub Alphabet : {K : Type 0} → (K → ℕ) → K → List K → Type 0
Alphabet byte k₀ ks = (k : _) → find_in byte (k₀ ∷ ks) (byte k) ≡ some k

-- A choice by the first byte: each letter has its own format for what follows, and a value tells its letter.
abbrev pub choice : {K B : Type 0} → (K → ℕ) → K → List K → (K → Format B) → (B → K) → Format B
choice byte k₀ ks body kind = mapped (sequence (letter byte k₀ ks) body) (λ p. p.1) (λ q. (kind q, q))

-- No byte at all.
abbrev pub empty : Format (Unit {0})
empty = record { Fits = λ _. Unit {0}; print = λ _. []; parse = λ s. ok tt s; sample = tt }

-- One certain byte: an alphabet of one letter.
abbrev pub the : ℕ → Unit {0} → ℕ
the b _ = b

abbrev pub the_byte : ℕ → Format (Unit {0})
the_byte b = letter (the b) tt []

-- A fixed word, byte by byte.
abbrev pub word : List ℕ → Format (Unit {0})
word [] = empty
word (b ∷ w) = mapped (sequence (the_byte b) (λ _. word w)) (λ _. tt) (λ _. (tt, tt))

-- A fixed word in front of a value, as the key of a line.
abbrev pub keyed : {A : Type 0} → List ℕ → Format A → Format A
keyed key F = mapped (sequence (word key) (λ _. F)) (λ p. p.1) (λ a. (tt, a))
