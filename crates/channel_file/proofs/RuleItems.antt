-- Items of a rule line, whatever their values are: the format keeps the laws, and it prints the texts of items.
use Prim.Native.Nat.{ℕ, ◌<◌}
use mathlib.Core.{Path.{◌≡◌, refl, sym, ap, ◌∙◌}, List.{List, [], ◌∷◌, ◌++◌, map, append_assoc}, Option.{none}}
use native.Mathlib.Omega.{arith}
use borrow.Author.Tests.{ne_eqb}
use lib.ListN.{length}
use Rattle.text_format.specs.Format.{bad, Format, Laws}
use Rattle.text_format.specs.Texts.{ascii, separated, OneOrMore}
use Rattle.text_format.specs.Combinators.{sequence, find_in, Alphabet, the}
use Rattle.text_format.specs.Series.{Separator, newline, separator_byte, separator, number_item}
use Rattle.text_format.proofs.Combinators.{sequence_laws, mapped_laws, choice_laws, choice_at, choice_none, keyed_laws}
use Rattle.text_format.proofs.Decimal.{numbered_laws}
use Rattle.text_format.proofs.Series.{separator_laws, number_item_laws, series_laws, series_text, series_fitting, series_of_fitting}
use Rattle.channel_file.specs.ChannelFile.{RuleItem, token_T, token_A, token_V, token_X, token_G, token_O, number, item_text, SmallItem}
use Rattle.channel_file.specs.FileFormat.{Letter, letter_T, letter_A, letter_V, letter_X, letter_G, letter_O, letter_byte, letters, letter_of}
use Rattle.channel_file.specs.FileFormat.{number_dot, item_first, item_value, plain, body, rule_item, rule_items, keyed_items}

pub letters_all : Alphabet letter_byte letter_T letters
letters_all letter_T = refl
letters_all letter_A = refl
letters_all letter_V = refl
letters_all letter_X = refl
letters_all letter_G = refl
letters_all letter_O = refl

pub dot_all : Alphabet (the 46) tt []
dot_all e = refl

number_dot_laws : Laws number_dot
number_dot_laws = numbered_laws 2 (the 46) tt [] dot_all (λ _. refl)

pub no_letter : (b : ℕ) → (b ≡ 84 → ⊥) → (b ≡ 65 → ⊥) → (b ≡ 86 → ⊥) → (b ≡ 88 → ⊥) → (b ≡ 71 → ⊥) → (b ≡ 79 → ⊥)
    → find_in letter_byte (letter_T ∷ letters) b ≡ none
no_letter b t a v x g o = rw (ne_eqb b 84 t, ne_eqb b 65 a, ne_eqb b 86 v, ne_eqb b 88 x, ne_eqb b 71 g, ne_eqb b 79 o)

module _ {B : Type 0} (value : Format (B × Separator)) (unused : B) where
  plain_laws : (x : RuleItem B) → Laws (plain value unused x)
  plain_laws x = mapped_laws separator (λ e. (x, e)) (λ q. q.1) separator_laws (λ a h. refl)

  body_letter : (l : Letter) (q : RuleItem B × Separator) → (body value unused l).Fits q → letter_of q.0 ≡ l
  body_letter letter_T q h = ap (λ (z : RuleItem B × Separator). letter_of z.0) (sym h.1)
  body_letter letter_A q h = ap (λ (z : RuleItem B × Separator). letter_of z.0) (sym h.1)
  body_letter letter_V q h = ap (λ (z : RuleItem B × Separator). letter_of z.0) (sym h.1)
  body_letter letter_X q h = ap (λ (z : RuleItem B × Separator). letter_of z.0) (sym h.1)
  body_letter letter_G q h = ap (λ (z : RuleItem B × Separator). letter_of z.0) (sym h.1)
  body_letter letter_O q h = ap (λ (z : RuleItem B × Separator). letter_of z.0) (sym h.1)

  -- how an item is read, by its letter
  pub item_at : (l : Letter) (s : List ℕ) → (rule_item value unused).parse (letter_byte l ∷ s) ≡ (body value unused l).parse s
  item_at l s = choice_at letter_byte letter_T letters (body value unused) (λ q. letter_of q.0) (letter_byte l) l s (letters_all l)

  pub item_none : (b : ℕ) (s : List ℕ) → find_in letter_byte (letter_T ∷ letters) b ≡ none → (rule_item value unused).parse (b ∷ s) ≡ bad (b ∷ s)
  item_none b s h = choice_none letter_byte letter_T letters (body value unused) (λ q. letter_of q.0) b s h

  pub item_solid : (p : RuleItem B × Separator) → 0 < length ((rule_item value unused).print p)
  item_solid p = omega arith

  pub T_fits : (rule_item value unused).Fits (token_T, newline)
  T_fits = ((tt, (tt, refl)), refl)

  module _ (L : Laws value) where
    body_laws : (l : Letter) → Laws (body value unused l)
    body_laws letter_T = plain_laws token_T
    body_laws letter_A = plain_laws token_A
    body_laws letter_V = plain_laws token_V
    body_laws letter_X =
        mapped_laws (number_item 2) (λ p. (token_X p.0, p.1)) (λ q. (item_first value unused q.0, q.1)) (number_item_laws 2) (λ a h. refl)
    body_laws letter_G =
        mapped_laws (number_item 2) (λ p. (token_G p.0, p.1)) (λ q. (item_first value unused q.0, q.1)) (number_item_laws 2) (λ a h. refl)
    body_laws letter_O =
        mapped_laws (sequence number_dot (λ _. value)) (λ p. (token_O p.0.0 p.1.0, p.1.1))
        (λ q. ((item_first value unused q.0, tt), (item_value value unused q.0, q.1)))
        (sequence_laws number_dot (λ _. value) number_dot_laws (λ _. L)) (λ a h. refl)

    pub item_laws : Laws (rule_item value unused)
    item_laws = choice_laws letter_byte letter_T letters (body value unused) (λ q. letter_of q.0) letters_all body_laws body_letter

    pub items_laws : Laws (rule_items value unused)
    items_laws = series_laws (rule_item value unused) token_T item_laws item_solid T_fits

    pub keyed_items_laws : Laws (keyed_items value unused)
    keyed_items_laws = keyed_laws (ascii "rule=") (rule_items value unused) items_laws

  -- what is printed, where a value prints its text
  module _ (text : B → List ℕ) (prints : (v : B) (e : Separator) → value.print (v, e) ≡ text v ++ (separator_byte e ∷ [])) where
    pub item_print : (x : RuleItem B) (e : Separator) → (rule_item value unused).print (x, e) ≡ item_text text x ++ (separator_byte e ∷ [])
    item_print token_T e = refl
    item_print token_A e = refl
    item_print token_V e = refl
    item_print (token_X n) e = refl
    item_print (token_G n) e = refl
    item_print (token_O n v) e =
        ap (λ (z : List ℕ). 79 ∷ z)
        (append_assoc (number n) (46 ∷ []) (value.print (v, e)) ∙ ap (λ (z : List ℕ). number n ++ (46 ∷ z)) (prints v e)
        ∙ sym (append_assoc (number n) (46 ∷ text v) (separator_byte e ∷ [])))

    pub items_text : (P : RuleItem B → Type 0) (xs : List (RuleItem B)) → OneOrMore P xs
        → (rule_items value unused).print xs ≡ separated (map (item_text text) xs) ++ ascii "\n"
    items_text P xs h = series_text (rule_item value unused) P (item_text text) item_print xs h

  -- which items have a text, by which values have
  module _ (P : B → Type 0) where
    pub item_fits : ((v : B) (e : Separator) → P v → value.Fits (v, e)) → (x : RuleItem B) (e : Separator) → SmallItem P x
        → (rule_item value unused).Fits (x, e)
    item_fits fits token_T e h = ((tt, (tt, refl)), refl)
    item_fits fits token_A e h = ((tt, (tt, refl)), refl)
    item_fits fits token_V e h = ((tt, (tt, refl)), refl)
    item_fits fits (token_X n) e h = ((tt, (h, refl)), refl)
    item_fits fits (token_G n) e h = ((tt, (h, refl)), refl)
    item_fits fits (token_O n v) e h = ((tt, ((h.0, fits v e h.1), refl)), refl)

    item_of_fits : ((v : B) (e : Separator) → value.Fits (v, e) → P v) → (x : RuleItem B) (e : Separator) → (rule_item value unused).Fits (x, e)
        → SmallItem P x
    item_of_fits small token_T e h = tt
    item_of_fits small token_A e h = tt
    item_of_fits small token_V e h = tt
    item_of_fits small (token_X n) e h = h.0.1.0
    item_of_fits small (token_G n) e h = h.0.1.0
    item_of_fits small (token_O n v) e h = (h.0.1.0.0, small v e h.0.1.0.1)

    pub items_fit : ((v : B) (e : Separator) → P v → value.Fits (v, e)) → (xs : List (RuleItem B)) → OneOrMore (SmallItem P) xs
        → (rule_items value unused).Fits xs
    items_fit fits xs h = series_fitting (rule_item value unused) (SmallItem P) (item_fits fits) xs h

    pub items_of_fit : ((v : B) (e : Separator) → value.Fits (v, e) → P v) → (xs : List (RuleItem B)) → (rule_items value unused).Fits xs
        → OneOrMore (SmallItem P) xs
    items_of_fit small xs h = series_of_fitting (rule_item value unused) (SmallItem P) (item_of_fits small) xs h
