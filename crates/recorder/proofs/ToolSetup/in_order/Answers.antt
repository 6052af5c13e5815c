-- `recorder::ToolSetup::in_order` meets its contract: the values' test, then the wheel's.
use mathlib.Core.Path.{sym, ◌∙◌, ap}
use Rattle.values.specs.SetupTests.{setup_refusal}
use Rattle.recorder.specs.ToolTests.{passed}
use Rattle.theory.proofs.ValueSets.{and_passed, and_failed}
use Rattle.values.specs.declared.ValueSet.{ValueSet}
use Rattle.recorder.proofs.Held.{setup_parts, ok_passed}
use Rattle.recorder.proofs.ToolSetup.in_order.Goals as goal

pub returns-then-is_ok : goal.returns-then-is_ok
returns-then-is_ok g c =
    let told = ok_passed {A = ValueSet} c.check.result ∙ ap passed (c.check.ensures.judged ∙ ap setup_refusal c.handed_in.ensures) in
    let checked = sym told ∙ sym c.is_ok.ensures.value in
    c.wheel_in_order.ensures ∙ sym (and_passed (checked ∙ c.if-is_ok.true)) ∙ setup_parts _

pub returns-else-is_ok : goal.returns-else-is_ok
returns-else-is_ok g c =
    let told = ok_passed {A = ValueSet} c.check.result ∙ ap passed (c.check.ensures.judged ∙ ap setup_refusal c.handed_in.ensures) in
    let checked = sym told ∙ sym c.is_ok.ensures.value in
    c.if-is_ok.false ∙ sym (and_failed _ (checked ∙ c.if-is_ok.false)) ∙ setup_parts _
