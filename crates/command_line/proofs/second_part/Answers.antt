use Rattle.std.proofs.Common.{ℕ, ◌≡◌, ◌+◌, List, drop, arith, sym, ap, ◌∙◌}
use Rattle.std.specs.Prelude.{Option, Some, None, MatchOption, unwrap_or}
use Rattle.std.proofs.lemmas.List.{take_rest, drop_all}
use Rattle.std.proofs.Math.Seq.{drop-drop}
use Rattle.command_line.specs.Parts.{before_divider, second_part}
use Rattle.command_line.proofs.Parts.{not_over}
use Rattle.command_line.proofs.second_part.Goals as goal

pub overflow_add-find_divider : goal.overflow_add-find_divider
overflow_add-find_divider c = omega (arith, c.find_divider.ensures, not_over c.args.text.now)

either : {A : Type 0} {P : Type 0} {Q R : A → Type 0} (r : Option A) (d : A) → MatchOption r P Q → (P → R d) → ((x : A) → Q x → R x) → R (unwrap_or r d)
either None d m f g = f m
either (Some x) d m f g = g x m

from_part : (text : List ℕ) (n : ℕ) → n ≡ before_divider text → drop (n + 3) text ≡ second_part text
from_part text n e = sym (drop-drop 3 n text) ∙ ap (λ (k : ℕ). drop 3 (drop k text)) e

pub returns : goal.returns
returns c =
    let text = c.args.text.now in
    let part = from_part text c.find_divider.result c.find_divider.ensures in
    rw c.unwrap_or.ensures
    (either {R = λ x. x.now ≡ second_part text} c.get.result _ c.get.ensures.lookup.0
    (λ h. sym (drop_all _ text (omega arith)) ∙ part)
    (λ x h. h.2 ∙ take_rest text _ ∙ part))
