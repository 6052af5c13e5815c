-- The number of a word, digit by digit.
use Prim.Native.Nat.{ℕ, ◌+◌, ◌-◌, ◌*◌, ◌≤◌, ◌<◌, min}
use mathlib.Core.{Path.{◌≡◌, refl, sym, ap, ◌∙◌}, List.{List, [], ◌∷◌}, Bool.{true, false}}
use Rattle.std.specs.Prelude.{Option, Some, None, option_map}
use native.Mathlib.Omega.{arith}
use lib.ListN.{length, get_or, drop}
use Rattle.text_format.specs.Decimal.{is_digit}
use Rattle.channel_file.proofs.Offsets.{here, over}
use Rattle.command_line.specs.Numbers.{digits_from, number_of, number_limit, capped}

-- ---- one number: the digits passed stand for `whole`, of which v is kept

pub record Reading (w : List ℕ) (v i : ℕ) : Type 0 where
  pub within : i ≤ length w
  pub whole : ℕ
  pub kept : v ≡ capped whole
  pub same : digits_from whole (drop i w) ≡ number_of w

number_starts : (w : List ℕ) → 0 < length w → digits_from 0 w ≡ number_of w
unfolding number_of
number_starts [] h = absurd (omega arith)
number_starts (b ∷ s) h = refl

pub reading_none : (w : List ℕ) → 0 < length w → Reading w 0 0
reading_none w h = record { within = omega arith; whole = 0; kept = refl; same = number_starts w h }

pub empty_number : (w : List ℕ) → length w ≡ 0 → ◌≡◌ {A = Option ℕ} None (option_map capped (number_of w))
unfolding number_of
empty_number [] h = refl
empty_number (b ∷ s) h = absurd (omega arith)

module _ (w : List ℕ) (v i : ℕ) (r : Reading w v i) where
  pub reading_more : i < length w → is_digit (get_or w i 0) ≡ true → Reading w (capped (v * 10 + (get_or w i 0 - 48))) (i + 1)
  unfolding digits_from
  reading_more l d =
      record {
        within = omega arith;
        whole = r.whole * 10 + (get_or w i 0 - 48);
        kept = let k : v ≡ min r.whole number_limit = r.kept in omega arith;
        same = (simp d at (sym (ap (digits_from r.whole) (here w i l)))) ∙ r.same;
      }

  pub reading_bad : i < length w → is_digit (get_or w i 0) ≡ false → ◌≡◌ {A = Option ℕ} None (option_map capped (number_of w))
  unfolding digits_from
  reading_bad l d = ap (option_map capped) (sym (simp d at (ap (digits_from r.whole) (here w i l))) ∙ r.same)

  pub reading_done : length w ≤ i → Some v ≡ option_map capped (number_of w)
  unfolding digits_from
  reading_done l = ap (λ (n : ℕ). Some n) r.kept ∙ ap (option_map capped) (sym (ap (digits_from r.whole) (over w i l)) ∙ r.same)

-- ---- answers taken apart

pub record IsValue (o : Option ℕ) (x : ℕ) : Type 0 where
  pub value : ℕ
  pub same : o ≡ Some value
  pub kept : x ≡ capped value

pub number_value : (o : Option ℕ) (x : ℕ) → Some x ≡ option_map capped o → IsValue o x
number_value None x e = let z : ◌≡◌ {A = ℕ} 0 1 = cc in absurd (omega arith)
number_value (Some v) x e = record { value = v; same = refl; kept = cc }

pub no_number : (o : Option ℕ) → None ≡ option_map capped o → o ≡ None
no_number None e = refl
no_number (Some v) e = let z : ◌≡◌ {A = ℕ} 0 1 = cc in absurd (omega arith)
