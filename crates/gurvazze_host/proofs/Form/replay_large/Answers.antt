-- `Form::replay_large` meets its contract: a refused file, or a replay by its rule's table.
use mathlib.Core.Path.{◌∙◌}
use Prim.Native.Nat.{ℕ}
use native.Mathlib.Omega.{arith}
use lib.ListN.{length-replicate}
use Rattle.theory.proofs.Pairs.{one_of, other_of}
use Rattle.refusal.proofs.Answers.{passed_on}
use Rattle.gurvazze_host.proofs.Calls.{form_room, unmade, made, holds, playable, roomy_stopped, replay_stopped, replay_made}
use Rattle.gurvazze_host.proofs.Form.replay_large.Goals as goal

pub returns-in_err-made : goal.returns-in_err-made
returns-in_err-made g c =
    let u = unmade c.compile.ensures c.in_err-made.was in
    let r = replay_stopped (roomy_stopped (form_room c.args.self) (λ d. omega (arith, length-replicate {A = ℕ} g.row.LARGE 0, c.requires.room d)) u.0) _ _ in
    record {
      answer = passed_on c.from_residual.result c.in_err-made.field-0.0 c.from_residual.ensures.1 ∙ r.0;
      contents = r.1;
    }

pub replay-requires : goal.replay-requires
replay-requires g c =
    let f = made c.compile.ensures c.in_ok-made.was in
    record { held = holds f; playable = playable f.of f.setup_is }

pub returns : goal.returns
returns g c =
    let f = made c.compile.ensures c.in_ok-made.was in
    let r = replay_made f.of f.setup_is c.replay.ensures in
    record { answer = one_of r; contents = other_of r }
