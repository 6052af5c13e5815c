-- What is left of a text at an offset, and how it is read on.
use Prim.Native.Nat.{ℕ, ◌+◌, ◌≤◌, ◌<◌}
use mathlib.Core.{Path.{◌≡◌, refl, sym, ap, ◌∙◌}, List.{List, [], ◌∷◌}}
use native.Mathlib.{Omega.{arith}, Numerals.{add-one}}
use Rattle.std.specs.Char.{is_ascii_digit}
use Rattle.std.proofs.lemmas.Bool.Decides.{nat_tests}
use Rattle.text_format.specs.Decimal.{is_digit}
use mathlib.Core.Bool.{Bool}
use lib.{ListN.{length, drop, get_or, drop_of_length-le, length-drop, length-append}, Seq.{drop-cons}}
use Rattle.text_format.specs.{Format.{Parsed, ok, bad, bind, Format, Laws}, Combinators.{word, keyed}}
use Rattle.text_format.specs.Series.{Separator, newline, number_item}
use Rattle.text_format.proofs.Combinators.{word_hit, word_miss}
use Rattle.text_format.proofs.Series.{shorter, number_item_laws, number_item_solid}
use Rattle.channel_file.specs.FileFormat.{field}
use Rattle.channel_file.specs.Steps.{SawEnded, SawNumber, counted, count_of}
use Rattle.std.specs.Prelude.{Result, Ok, Err}
use Rattle.channel_file.proofs.FileFormat.{zero_fits}

-- a byte and what is behind it
pub here : (t : List ℕ) (i : ℕ) → i < length t → drop i t ≡ get_or t i 0 ∷ drop (i + 1) t
here t i h = drop-cons t i 0 h ∙ ap (λ (n : ℕ). get_or t i 0 ∷ drop n t) (sym (add-one i))

-- the byte is known
pub here_is : (t : List ℕ) (i : ℕ) (b : ℕ) → i < length t → get_or t i 0 ≡ b → drop i t ≡ b ∷ drop (i + 1) t
here_is t i b h e = here t i h ∙ ap (λ (z : ℕ). z ∷ drop (i + 1) t) e

-- the end
pub over : (t : List ℕ) (i : ℕ) → length t ≤ i → drop i t ≡ []
over t i h = drop_of_length-le t h

-- a digit, as std and as the form has it
pub digit_as : (b : ℕ) (f : Bool) → is_ascii_digit b ≡ f → is_digit b ≡ f
digit_as b f e = grind (arith, nat_tests)

-- what a format reads from an offset to another is as long as its text
pub forward_by : {A : Type 0} (F : Format A) → Laws F → (t : List ℕ) (i n : ℕ) (a : A) → i ≤ length t → n ≤ length t
    → F.parse (drop i t) ≡ ok a (drop n t) → n ≡ i + length (F.print a)
forward_by F L t i n a hi hn e =
    let g = ap length (L.sound (drop i t) a (drop n t) e).1 ∙ length-append (F.print a) (drop n t) in
    omega (arith, length-drop i t, length-drop n t)

-- a word is read byte by byte
pub word_on : (w t : List ℕ) (j i : ℕ) → j < length w → i < length t → get_or t i 0 ≡ get_or w j 0 → (word (drop j w)).parse (drop i t)
    ≡ (word (drop (j + 1) w)).parse (drop (i + 1) t)
word_on w t j i hj hi e =
    ap (λ (z : List ℕ). (word z).parse (drop i t)) (here w j hj)
    ∙ ap (word (get_or w j 0 ∷ drop (j + 1) w)).parse (here_is t i (get_or w j 0) hi e)
    ∙ word_hit (get_or w j 0) (drop (j + 1) w) (drop (i + 1) t)

pub word_off : (w t : List ℕ) (j i : ℕ) → j < length w → i < length t → (get_or t i 0 ≡ get_or w j 0 → ⊥) → (word (drop j w)).parse (drop i t) ≡ bad (drop i t)
word_off w t j i hj hi e =
    ap (λ (z : List ℕ). (word z).parse (drop i t)) (here w j hj)
    ∙ ap (word (get_or w j 0 ∷ drop (j + 1) w)).parse (here t i hi)
    ∙ word_miss (get_or w j 0) (get_or t i 0) (drop (j + 1) w) (drop (i + 1) t) e
    ∙ ap (λ (z : List ℕ). bad z) (sym (here t i hi))

-- an item is not empty
pub item_forward : {A : Type 0} (F : Format (A × Separator)) (one : A) (L : Laws F) → ((p : A × Separator) → 0 < length (F.print p))
    → F.Fits (one, newline) → (t : List ℕ) (i m : ℕ) (p : A × Separator) → m ≤ length t → F.parse (drop i t) ≡ ok p (drop m t) → i < m
item_forward F one L solid one_fits t i m p h e =
    let l : length (drop m t) < length (drop i t) = shorter F one L solid one_fits (drop i t) p (drop m t) e in
    omega (arith, length-drop m t, length-drop i t)

pub entry_forward : (t : List ℕ) (i m : ℕ) (p : ℕ × Separator) → m ≤ length t → (number_item 2).parse (drop i t) ≡ ok p (drop m t) → i < m
entry_forward = item_forward (number_item 2) 0 (number_item_laws 2) (number_item_solid 2) zero_fits

-- a key's number
pub fielded : (key t : List ℕ) (at a : ℕ) → (word key).parse (drop at t) ≡ ok tt (drop a t) → (r : Result (ℕ × ℕ) ℕ) → SawEnded 2 10 t a r
    → SawNumber (field key).parse t at r
fielded key t at a e (Ok r) h = record { same = rw e (rw h.same); within = h.within }
fielded key t at a e (Err p) h = record { same = rw e (rw h.same); within = h.within }

-- a key in front of a series
bind_tt : {A : Type 0} (x : Parsed A) → ◌≡◌ {A = Parsed A} (bind {A = Unit {0} × A} {B = A} (bind {A = A} {B = Unit {0} × A} x (λ b r. ok (tt, b) r))
    (λ p r. ok p.1 r)) x
bind_tt (ok a r) = refl
bind_tt (bad r) = refl

pub keyed_bad : {A : Type 0} (key : List ℕ) (F : Format A) (s r : List ℕ) → (word key).parse s ≡ bad r → (keyed key F).parse s ≡ bad r
keyed_bad key F s r e = rw e

pub keyed_on : {A : Type 0} (key : List ℕ) (F : Format A) (s r : List ℕ) → (word key).parse s ≡ ok tt r → (keyed key F).parse s ≡ F.parse r
keyed_on key F s r e = rw e (bind_tt (F.parse r))

-- a key in front of a counted series
pub listed : {A : Type 0} (key : List ℕ) (F : Format (List A)) (t : List ℕ) (at a : ℕ) → (word key).parse (drop at t) ≡ ok tt (drop a t)
    → (r : Result (ℕ × ℕ) ℕ) → SawNumber (count_of F) t a r → SawNumber (count_of (keyed key F)) t at r
listed key F t at a e (Ok r) h = record { same = ap (counted 0) (keyed_on key F (drop at t) (drop a t) e) ∙ h.same; within = h.within }
listed key F t at a e (Err p) h = record { same = ap (counted 0) (keyed_on key F (drop at t) (drop a t) e) ∙ h.same; within = h.within }
