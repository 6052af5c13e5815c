-- `put_value` meets its contract, kind by kind.
use Rattle.text_output.proofs.Outputs.{puts_as, puts_then}
use Rattle.table_rows.proofs.Texts.{masks_parts}
use Rattle.table_rows.proofs.put_value.Goals as goal

pub returns-in-Numbered : goal.returns-in-Numbered
returns-in-Numbered c = rw c.in-Numbered.is c.put_field.ensures

pub returns-in-Register : goal.returns-in-Register
returns-in-Register c =
    rw c.in-Register.is (puts_as (masks_parts c.in-Register.field-0 c.args.before.now c.args.between.now c.args.value)
    (puts_then c.put_field-behind.ensures c.put_field-in-Register.ensures))
