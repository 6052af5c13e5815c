-- The format of a register's channel file keeps the laws, and it prints exactly the texts of the form.
use Prim.Native.Nat.{ℕ}
use mathlib.Core.{Path.{◌≡◌, refl, sym, ap, ◌∙◌}, List.{List, [], ◌∷◌, ◌++◌, map, append_assoc}}
use Rattle.text_format.specs.Format.{Laws}
use Rattle.text_format.specs.Texts.{ascii, separated, OneOrMore}
use Rattle.text_format.specs.Combinators.{sequence, the}
use Rattle.text_format.specs.Series.{Separator, separator_byte, number_item}
use Rattle.text_format.specs.Claims.{FormatRenders}
use Rattle.text_format.proofs.Combinators.{sequence_laws, mapped_laws, keyed_fits, keyed_of_fits}
use Rattle.text_format.proofs.{Decimal.{numbered_laws}, Series.{number_item_laws}}
use Rattle.channel_file.specs.{ChannelFile.{number, line}, FileFormat.{field}}
use Rattle.theory.specs.ValueSets.{Masks}
use Rattle.channel_file.specs.RegisterFile.{no_masks, Token, Contents, mask, SmallMasks, masks_text, token_text, SmallToken, rule_text, text}
use Rattle.channel_file.specs.RegisterFile.{SmallContents, Shows}
use Rattle.channel_file.specs.RegisterFormat.{mask_dot, masks_item, tokens, rule_line, head, file}
use Rattle.channel_file.proofs.RuleItems.{dot_all, items_laws, keyed_items_laws, items_text, items_fit, items_of_fit}
use Rattle.channel_file.proofs.FileFormat.{field_laws, field_fits, field_of_fits}

-- ---- masks

mask_dot_laws : Laws mask_dot
mask_dot_laws = numbered_laws 4 (the 46) tt [] dot_all (λ _. refl)

pub masks_laws : Laws masks_item
masks_laws =
    mapped_laws (sequence mask_dot (λ _. number_item 4)) (λ p. (record { low = p.0.0; high = p.1.0 }, p.1.1))
    (λ q. ((q.0.low, tt), (q.0.high, q.1)))
    (sequence_laws mask_dot (λ _. number_item 4) mask_dot_laws (λ _. number_item_laws 4)) (λ a h. refl)

pub masks_print : (m : Masks) (e : Separator) → masks_item.print (m, e) ≡ masks_text m ++ (separator_byte e ∷ [])
masks_print m e =
    append_assoc (mask m.low) (46 ∷ []) (mask m.high ++ (separator_byte e ∷ []))
    ∙ sym (append_assoc (mask m.low) (46 ∷ mask m.high) (separator_byte e ∷ []))

masks_fit : (m : Masks) (e : Separator) → SmallMasks m → masks_item.Fits (m, e)
masks_fit m e h = ((h.low, h.high), refl)

masks_of_fit : (m : Masks) (e : Separator) → masks_item.Fits (m, e) → SmallMasks m
masks_of_fit m e h = record { low = h.0.0; high = h.0.1 }

-- ---- tokens

pub tokens_laws : Laws tokens
tokens_laws = items_laws masks_item no_masks masks_laws

pub tokens_text : (xs : List Token) → OneOrMore SmallToken xs → tokens.print xs ≡ separated (map token_text xs) ++ ascii "\n"
tokens_text xs h = items_text masks_item no_masks masks_text masks_print SmallToken xs h

pub tokens_fit : (xs : List Token) → OneOrMore SmallToken xs → tokens.Fits xs
tokens_fit xs h = items_fit masks_item no_masks SmallMasks masks_fit xs h

pub tokens_of_fit : (xs : List Token) → tokens.Fits xs → OneOrMore SmallToken xs
tokens_of_fit xs h = items_of_fit masks_item no_masks SmallMasks masks_of_fit xs h

-- ---- the file

pub head_laws : Laws head
head_laws = sequence_laws (field (ascii "events=")) (λ _. field (ascii "lines=")) (field_laws (ascii "events=")) (λ _. field_laws (ascii "lines="))

pub rule_line_laws : Laws rule_line
rule_line_laws = keyed_items_laws masks_item no_masks masks_laws

pub file_laws : Laws file
file_laws =
    mapped_laws (sequence head (λ _. rule_line)) (λ p. record { events = p.0.0; lines = p.0.1; rule = p.1 }) (λ c. ((c.events, c.lines), c.rule))
    (sequence_laws head (λ _. rule_line) head_laws (λ _. rule_line_laws)) (λ a h. refl)

pub file_print : (c : Contents) → SmallContents c → file.print c ≡ text c
file_print c h =
    let e = line (ascii "events=") (number c.events) in
    let l = line (ascii "lines=") (number c.lines) in
    ap (λ (z : List ℕ). (e ++ l) ++ (ascii "rule=" ++ z)) (tokens_text c.rule h.rule)
    ∙ append_assoc e l (line (ascii "rule=") (rule_text c))

file_fits : (c : Contents) → SmallContents c → file.Fits c
file_fits c h = (
  (
    (field_fits (ascii "events=") c.events h.events, field_fits (ascii "lines=") c.lines h.lines),
    keyed_fits (ascii "rule=") tokens c.rule (tokens_fit c.rule h.rule),
  ),
  refl,
)

file_of_fits : (c : Contents) → file.Fits c → SmallContents c
file_of_fits c h =
    record {
      events = field_of_fits (ascii "events=") c.events h.0.0.0;
      lines = field_of_fits (ascii "lines=") c.lines h.0.0.1;
      rule = tokens_of_fit c.rule (keyed_of_fits (ascii "rule=") tokens c.rule h.0.1);
    }

pub file_renders : FormatRenders file Shows
file_renders =
    record {
      to = λ c t s. (file_fits c s.small, sym s.printed ∙ sym (file_print c s.small));
      from = λ c h. record { small = file_of_fits c h; printed = sym (file_print c (file_of_fits c h)) };
    }
