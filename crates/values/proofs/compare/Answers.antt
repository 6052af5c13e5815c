-- `values::compare` meets its contract: the test of the meet, then that of equality.
use mathlib.Core.Path.{sym, ◌∙◌}
use Rattle.values.proofs.Comparisons.{compared_not_below, compared_equal, compared_strictly_below}
use Rattle.values.proofs.compare.Goals as goal

pub returns-then-meet_of-b : goal.returns-then-meet_of-b
returns-then-meet_of-b c = sym (compared_not_below _ _ _ _ (λ e. c.if-meet_of-b.true (c.meet_of.ensures ∙ e)))

pub returns-then-b-c : goal.returns-then-b-c
returns-then-b-c c = sym (compared_equal _ _ _ _ (sym c.meet_of.ensures ∙ c.if-meet_of-b.false) c.if-b-c.true)

pub returns : goal.returns
returns c = sym (compared_strictly_below _ _ _ _ (sym c.meet_of.ensures ∙ c.if-meet_of-b.false) c.if-b-c.false)
