-- Twin of RegisterFile, pinned by channel_file RegisterClaim.
-- The computing twin of the form: a register's channel file as a two-way format. proofs/RegisterFormat shows that it keeps the laws and
-- prints exactly the texts of the form.
use Rattle.std.specs.Prelude.{ℕ, List, []}
use Rattle.text_format.specs.{Format.{Format}, Texts.{ascii}, Combinators.{sequence, mapped, the}, Decimal.{numbered}}
use Rattle.text_format.specs.Series.{Separator, number_item}
use Rattle.channel_file.specs.FileFormat.{rule_item, rule_items, keyed_items, field}
use Rattle.theory.specs.ValueSets.{Masks}
use Rattle.channel_file.specs.RegisterFile.{no_masks, Token, Contents}

abbrev pub mask_dot : Format (ℕ × Unit {0})
mask_dot = numbered 4 (the 46) tt []

-- Two masks and what stands behind them.
abbrev pub masks_item : Format (Masks × Separator)
masks_item =
    mapped (sequence mask_dot (λ _. number_item 4)) (λ p. (record { low = p.0.0; high = p.1.0 }, p.1.1))
    (λ q. ((q.0.low, tt), (q.0.high, q.1)))

abbrev pub token_item : Format (Token × Separator)
token_item = rule_item masks_item no_masks

abbrev pub tokens : Format (List Token)
tokens = rule_items masks_item no_masks

abbrev pub rule_line : Format (List Token)
rule_line = keyed_items masks_item no_masks

abbrev pub head : Format (ℕ × ℕ)
head = sequence (field (ascii "events=")) (λ _. field (ascii "lines="))

abbrev pub file : Format Contents
file =
    mapped (sequence head (λ _. rule_line)) (λ p. record { events = p.0.0; lines = p.0.1; rule = p.1 }) (λ c. ((c.events, c.lines), c.rule))
