-- Twin of Texts, pinned by text_format NumeralClaim.
-- Numbers in decimal without leading zero. The parameter k is how many digits may follow the first: 2 for the numbers of a
-- channel file, 4 for masks of five digits. Their laws are in proofs/Decimal.
use Rattle.std.specs.Prelude.{ℕ, zero, suc, ◌+◌, ◌-◌, ◌*◌, ◌≤◌, ◌<◌}
use mathlib.Core.{Path.{◌≡◌}, List.{List, [], ◌∷◌, ◌++◌}, Bool.{Bool, false, cond}}
use lib.{Dec.{ltb, eqb}, ListN.{length}}
use Rattle.text_format.specs.{Format.{Parsed, ok, bad, bind, Format}, Combinators.{letter_parse}, Texts.{decimal}}

-- The first numeral-parse that needs more than k + 1 digits.
abbrev pub limit : ℕ → ℕ
limit zero = 10
limit (suc k) = limit k * 10

abbrev pub is_digit : ℕ → Bool
is_digit b = cond (ltb b 48) false (ltb b 58)

-- ---- what a numeral is, said without the function above

pub data Digits : List ℕ → Type 0 where
  none : Digits []
  one_more : {b : ℕ} {s : List ℕ} → 48 ≤ b → b < 58 → Digits s → Digits (b ∷ s)

-- The numeral-parse that digits stand for, behind the digits of v.
abbrev pub value_from : ℕ → List ℕ → ℕ
value_from v [] = v
value_from v (b ∷ s) = value_from (v * 10 + (b - 48)) s

-- s is v in 1 to k + 1 digits, and does not begin with the digit 0 unless that is all of it.
pub record Numeral (k v : ℕ) (s : List ℕ) : Type 0 where
  pub digits : Digits s
  pub some_digit : 1 ≤ length s
  pub few_digits : length s ≤ k + 1
  pub no_leading_zero : (u : List ℕ) → s ≡ 48 ∷ u → u ≡ []
  pub value : value_from 0 s ≡ v

-- ---- reading

-- At most k further digits behind the value v.
abbrev pub more : ℕ → ℕ → List ℕ → Parsed ℕ
more zero v s = ok v s
more (suc k) v [] = ok v []
more (suc k) v (b ∷ s) = cond (is_digit b) (more k (v * 10 + (b - 48)) s) (ok v (b ∷ s))

abbrev pub numeral_parse : ℕ → List ℕ → Parsed ℕ
numeral_parse k [] = bad []
numeral_parse k (b ∷ s) = cond (is_digit b) (cond (eqb b 48) (ok 0 s) (more k (b - 48) s)) (bad (b ∷ s))

abbrev pub numbered_parse : {K : Type 0} → ℕ → (K → ℕ) → List K → List ℕ → Parsed (ℕ × K)
numbered_parse k byte ks s = bind (numeral_parse k s) (λ v r. bind (letter_parse byte ks r) (λ e r'. ok (v, e) r'))

-- A numeral-parse and the byte that ends it, out of an alphabet without digits.
abbrev pub numbered : {K : Type 0} → ℕ → (K → ℕ) → K → List K → Format (ℕ × K)
numbered k byte k₀ ks =
    record {
      Fits = λ p. p.0 < limit k;
      print = λ p. decimal k p.0 ++ (byte p.1 ∷ []);
      parse = numbered_parse k byte (k₀ ∷ ks);
      sample = (0, k₀);
    }
