-- `values::registers` meets its contract: at most 16 lines fit, and are not cut.
use mathlib.Core.Path.{◌≡◌, refl, ◌∙◌, ap}
use native.Mathlib.Omega.{arith}
use Rattle.std.specs.Prelude.{min}
use Rattle.limits.specs.Limits.{line_limit}
use Rattle.theory.specs.ValueSets.{pack, top_masks}
use Rattle.values.proofs.Setups.{lines_few}
use Rattle.values.proofs.registers.Goals as goal

pub overflow_cast-count : goal.overflow_cast-count
overflow_cast-count c = omega (arith, (lines_few _ c.requires).1)

pub returns : goal.returns
returns c =
    let whole : min c.args.lines line_limit ≡ c.args.lines = omega (arith, (lines_few _ c.requires).1) in
    record { kind_is = refl; top_is = c.register_top.ensures ∙ ap (λ n. pack (top_masks n)) whole; meet_is = refl }
