-- `MeetTable::is_lawful_pair` meets its contract: each answer is how far the test of two values gets.
use mathlib.Core.Path.{sym, ◌∙◌}
use borrow.Author.{Tests.{eq-eqb, ne_eqb, lt-ltb, le-ltb}}
use Rattle.theory.proofs.ValueSets.{and_passed, and_failed}
use Rattle.values.specs.DownSets.{pair_test}
use Rattle.values.proofs.DownSets.{lower_stored}
use Rattle.values.proofs.MeetTable.is_lawful_pair.Goals as goal

pub returns-then-m-meet : goal.returns-then-m-meet
unfolding pair_test
returns-then-m-meet c = sym (and_failed _ (ne_eqb _ _ (λ e. c.if-m-meet.true (c.meet-m.ensures ∙ e ∙ sym c.meet.ensures))))

pub returns-then-self-m : goal.returns-then-self-m
unfolding pair_test
returns-then-self-m c =
    sym
    (and_passed (eq-eqb _ _ (sym c.meet-m.ensures ∙ c.if-m-meet.false ∙ c.meet.ensures))
    ∙ and_failed _ (le-ltb _ _ (rw c.meet-m.ensures at c.if-self-m.true)))

pub returns : goal.returns
unfolding pair_test
returns c =
    lower_stored c.args.a c.args.b c.requires.0 c.meet-m.ensures c.requires.1 c.requires.2 c.if-self-m.false
    ∙ sym
    (and_passed (eq-eqb _ _ (sym c.meet-m.ensures ∙ c.if-m-meet.false ∙ c.meet.ensures))
    ∙ and_passed (lt-ltb _ _ (rw c.meet-m.ensures at c.if-self-m.false)))
