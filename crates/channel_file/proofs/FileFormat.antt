-- The channel file's format keeps the laws, and it prints exactly the texts of the form.
use Prim.Native.Nat.{ℕ, ◌<◌}
use mathlib.Core.{Path.{◌≡◌, refl, sym, ap, ap₂, ◌∙◌}, List.{List, [], ◌++◌, map, append_assoc}}
use native.Mathlib.Omega.{arith}
use Rattle.text_format.specs.Format.{Laws}
use Rattle.text_format.specs.Texts.{ascii, separated, OneOrMore}
use Rattle.text_format.specs.Combinators.{sequence, mapped, Alphabet, the}
use Rattle.text_format.specs.Series.{number_item}
use Rattle.text_format.specs.Claims.{FormatRenders}
use Rattle.text_format.proofs.Combinators.{sequence_laws, mapped_laws, keyed_laws, keyed_fits, keyed_of_fits}
use Rattle.text_format.proofs.Decimal.{numbered_laws}
use Rattle.text_format.proofs.Series.{number_item_laws, number_item_solid, series_laws, series_text, series_fitting, series_of_fitting}
use Rattle.channel_file.specs.ChannelFile.{Token, Contents, number, Small, token_text, SmallToken, line, text, SmallContents, Shows}
use Rattle.channel_file.specs.FileFormat.{number_line, tokens, entries, field, head, meet_line, rule_line, file}
use Rattle.channel_file.proofs.RuleItems.{items_laws, keyed_items_laws, items_text, items_fit, items_of_fit}

newline_all : Alphabet (the 10) tt []
newline_all e = refl

number_line_laws : Laws number_line
number_line_laws = numbered_laws 2 (the 10) tt [] newline_all (λ _. refl)

-- ---- tokens

pub tokens_laws : Laws tokens
tokens_laws = items_laws (number_item 2) 0 (number_item_laws 2)

pub tokens_text : (xs : List Token) → OneOrMore SmallToken xs → tokens.print xs ≡ separated (map token_text xs) ++ ascii "\n"
tokens_text xs h = items_text (number_item 2) 0 number (λ v e. refl) SmallToken xs h

pub tokens_fit : (xs : List Token) → OneOrMore SmallToken xs → tokens.Fits xs
tokens_fit xs h = items_fit (number_item 2) 0 Small (λ v e g. g) xs h

pub tokens_of_fit : (xs : List Token) → tokens.Fits xs → OneOrMore SmallToken xs
tokens_of_fit xs h = items_of_fit (number_item 2) 0 Small (λ v e g. g) xs h

-- ---- numbers and lines

pub zero_fits : 0 < 1000
zero_fits = omega arith

pub entries_laws : Laws entries
entries_laws = series_laws (number_item 2) 0 (number_item_laws 2) (number_item_solid 2) zero_fits

pub field_laws : (key : List ℕ) → Laws (field key)
field_laws key = keyed_laws key (mapped number_line (λ p. p.0) (λ v. (v, tt))) (mapped_laws number_line (λ p. p.0) (λ v. (v, tt)) number_line_laws
    (λ a h. refl))

pub head_laws : Laws head
head_laws =
    sequence_laws (field (ascii "events=")) (λ _. sequence (field (ascii "values=")) (λ _. field (ascii "top="))) (field_laws (ascii "events="))
    (λ _. sequence_laws (field (ascii "values=")) (λ _. field (ascii "top=")) (field_laws (ascii "values=")) (λ _. field_laws (ascii "top=")))

pub meet_line_laws : Laws meet_line
meet_line_laws = keyed_laws (ascii "meet=") entries entries_laws

pub rule_line_laws : Laws rule_line
rule_line_laws = keyed_items_laws (number_item 2) 0 (number_item_laws 2)

pub file_laws : Laws file
file_laws =
    mapped_laws (sequence head (λ _. sequence meet_line (λ _. rule_line)))
    (λ p. record { events = p.0.0; values = p.0.1.0; top = p.0.1.1; meet = p.1.0; rule = p.1.1 })
    (λ c. ((c.events, (c.values, c.top)), (c.meet, c.rule)))
    (sequence_laws head (λ _. sequence meet_line (λ _. rule_line)) head_laws (λ _. sequence_laws meet_line (λ _. rule_line) meet_line_laws
    (λ _. rule_line_laws)))
    (λ a h. refl)

-- ---- what is printed is the text

pub entries_text : (xs : List ℕ) → OneOrMore Small xs → entries.print xs ≡ separated (map number xs) ++ ascii "\n"
entries_text xs h = series_text (number_item 2) Small number (λ a e. refl) xs h

pub head_print : (c : Contents) → head.print (c.events, (c.values, c.top))
    ≡ line (ascii "events=") (number c.events) ++ (line (ascii "values=") (number c.values) ++ line (ascii "top=") (number c.top))
head_print c = refl

pub file_print : (c : Contents) → SmallContents c → file.print c ≡ text c
file_print c h =
    let e = line (ascii "events=") (number c.events) in
    let v = line (ascii "values=") (number c.values) in
    let p = line (ascii "top=") (number c.top) in
    ap₂ (λ (x y : List ℕ). (e ++ (v ++ p)) ++ ((ascii "meet=" ++ x) ++ (ascii "rule=" ++ y))) (entries_text c.meet h.meet)
    (tokens_text c.rule h.rule)
    ∙ append_assoc e (v ++ p) (line (ascii "meet=") (separated (map number c.meet)) ++ line (ascii "rule=") (separated (map token_text c.rule)))
    ∙ ap (λ (z : List ℕ). e ++ z) (append_assoc v p (line (ascii "meet=") (separated (map number c.meet))
    ++ line (ascii "rule=") (separated (map token_text c.rule))))

pub field_fits : (key : List ℕ) (v : ℕ) → Small v → (field key).Fits v
field_fits key v h = keyed_fits key (mapped number_line (λ p. p.0) (λ v. (v, tt))) v (h, refl)

pub field_of_fits : (key : List ℕ) (v : ℕ) → (field key).Fits v → Small v
field_of_fits key v h = (keyed_of_fits key (mapped number_line (λ p. p.0) (λ v. (v, tt))) v h).0

pub file_fits : (c : Contents) → SmallContents c → file.Fits c
file_fits c h = (
  (
    (field_fits (ascii "events=") c.events h.events, (field_fits (ascii "values=") c.values h.values, field_fits (ascii "top=") c.top h.top)),
    (
      keyed_fits (ascii "meet=") entries c.meet (series_fitting (number_item 2) Small (λ a e g. g) c.meet h.meet),
      keyed_fits (ascii "rule=") tokens c.rule (tokens_fit c.rule h.rule),
    ),
  ),
  refl,
)

pub file_of_fits : (c : Contents) → file.Fits c → SmallContents c
file_of_fits c h =
    record {
      events = field_of_fits (ascii "events=") c.events h.0.0.0;
      values = field_of_fits (ascii "values=") c.values h.0.0.1.0;
      top = field_of_fits (ascii "top=") c.top h.0.0.1.1;
      meet = series_of_fitting (number_item 2) Small (λ a e g. g) c.meet (keyed_of_fits (ascii "meet=") entries c.meet h.0.1.0);
      rule = tokens_of_fit c.rule (keyed_of_fits (ascii "rule=") tokens c.rule h.0.1.1);
    }

pub file_renders : FormatRenders file Shows
file_renders =
    record {
      to = λ c t s. (file_fits c s.small, sym s.printed ∙ sym (file_print c s.small));
      from = λ c h. record { small = file_of_fits c h; printed = sym (file_print c (file_of_fits c h)) };
    }
