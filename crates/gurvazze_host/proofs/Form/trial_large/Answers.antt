-- `Form::trial_large` meets its contract: a refused file, or a trial against its rule's table.
use mathlib.Core.Path.{◌∙◌}
use Prim.Native.Nat.{ℕ}
use native.Mathlib.Omega.{arith}
use lib.ListN.{length-replicate}
use Rattle.theory.proofs.Pairs.{one_of, other_of}
use Rattle.refusal.proofs.Answers.{passed_on}
use Rattle.gurvazze_host.proofs.Calls.{form_room, unmade, made, holds, roomy_stopped, trial_stopped, trial_made}
use Rattle.gurvazze_host.proofs.Form.trial_large.Goals as goal

pub returns-in_err-made : goal.returns-in_err-made
returns-in_err-made g c =
    let u = unmade c.compile.ensures c.in_err-made.was in
    let r = trial_stopped (roomy_stopped (form_room c.args.self) (λ d. omega (arith, length-replicate {A = ℕ} g.row.LARGE 0, c.requires.room d)) u.0) _ _ _ _ in
    record {
      answer = passed_on c.from_residual.result c.in_err-made.field-0.0 c.from_residual.ensures.1 ∙ r.0;
      contents = r.1;
    }

pub trial-requires : goal.trial-requires
trial-requires g c =
    let f = made c.compile.ensures c.in_ok-made.was in
    record { entries = f.entries_in; held = holds f }

pub returns : goal.returns
returns g c =
    let f = made c.compile.ensures c.in_ok-made.was in
    let r = trial_made f.of f.setup_is _ _ _ _ _ _ c.trial.ensures.answer c.trial.ensures.contents in
    record { answer = one_of r; contents = other_of r }
