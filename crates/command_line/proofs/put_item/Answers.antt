use Rattle.std.proofs.Common.{ℕ, [], ◌∷◌, ap}
use Rattle.text_output.proofs.Outputs.{puts_as}
use Rattle.command_line.proofs.Lists.{puts_some, puts_malformed, number_item, no_number_item}
use Rattle.command_line.proofs.put_item.Goals as goal

pub returns-in_err-v-in-Number : goal.returns-in_err-v-in-Number
returns-in_err-v-in-Number c =
    rw (c.from_residual.ensures, c.in-Number.is) (puts_malformed (no_number_item c.args.word.now c.in_err-v-in-Number.ensures))

pub returns-in_ok-v-in-Number : goal.returns-in_ok-v-in-Number
returns-in_ok-v-in-Number c =
    rw c.in-Number.is
    (puts_some (number_item c.args.word.now _ c.in_ok-v-in-Number.ensures) (puts_as (ap (λ (b : ℕ). b ∷ []) c.min.ensures) c.put.ensures))
