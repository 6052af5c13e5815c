-- `Form::trial` meets its contract: a trial against a small table, or a large one, or a refused file.
use Rattle.theory.proofs.Pairs.{one_of, other_of}
use Rattle.gurvazze_host.proofs.Calls.{form_room, unmade, made, holds, other_stopped, trial_stopped, trial_made}
use Rattle.gurvazze_host.proofs.Form.trial.Goals as goal

pub trial-requires : goal.trial-requires
trial-requires g c =
    let f = made c.compile.ensures c.in-Ok.is in
    record { entries = f.entries_in; held = holds f }

pub returns-in-Ok : goal.returns-in-Ok
returns-in-Ok g c =
    let f = made c.compile.ensures c.in-Ok.is in
    let r = trial_made f.of f.setup_is _ _ _ _ _ _ c.trial.ensures.answer c.trial.ensures.contents in
    record { answer = one_of r; contents = other_of r }

pub returns-in_default : goal.returns-in_default
returns-in_default g c =
    let u = unmade c.compile.ensures c.in-Err.is in
    let r = trial_stopped (other_stopped (form_room c.args.self) c.in_default.not-BufferLength u.0) _ _ _ _ in
    record { answer = r.0; contents = r.1 }
