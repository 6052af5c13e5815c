-- The line of a refusal is put as the contract says, with and without a place.
use mathlib.Core.Path.{sym, ◌∙◌}
use Rattle.text_output.proofs.Outputs.{puts_as, puts_then}
use Rattle.table_report.proofs.Texts.{number_parts, place_parts}
use Rattle.table_report.proofs.RefusalLineText.put.Goals as goal

pub returns-in-None : goal.returns-in-None
returns-in-None c =
    puts_as (number_parts (c.from-number.ensures ∙ c.number.ensures) (sym c.place.ensures ∙ c.in-None.is)) c.put_line.ensures

pub returns-in-Some : goal.returns-in-Some
returns-in-Some c =
    puts_as (place_parts (c.from-number.ensures ∙ c.number.ensures) (sym c.place.ensures ∙ c.in-Some.is))
    (puts_then c.put_field-behind.ensures c.put_line-in-Some.ensures)
