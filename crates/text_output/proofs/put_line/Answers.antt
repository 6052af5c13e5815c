use mathlib.Core.List.{[], ◌∷◌, append_assoc}
use Rattle.text_format.specs.Texts.{numeral}
use Rattle.text_output.proofs.Outputs.{puts_as, puts_then}
use Rattle.text_output.proofs.put_line.Goals as goal

pub returns : goal.returns
returns c =
    let args = c.args in
    let put_field = c.put_field-n in
    puts_as (append_assoc args.key.now (numeral args.v) (10 ∷ [])) (puts_then put_field.ensures c.put.ensures)
