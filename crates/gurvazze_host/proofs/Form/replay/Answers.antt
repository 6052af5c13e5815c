-- `Form::replay` meets its contract: a replay by a small table, or by a large one, or a refused file.
use Rattle.theory.proofs.Pairs.{one_of, other_of}
use Rattle.gurvazze_host.proofs.Calls.{form_room, unmade, made, holds, playable, other_stopped, replay_stopped, replay_made}
use Rattle.gurvazze_host.proofs.Form.replay.Goals as goal

pub replay-requires : goal.replay-requires
replay-requires g c =
    let f = made c.compile.ensures c.in-Ok.is in
    record { held = holds f; playable = playable f.of f.setup_is }

pub returns-in-Ok : goal.returns-in-Ok
returns-in-Ok g c =
    let f = made c.compile.ensures c.in-Ok.is in
    let r = replay_made f.of f.setup_is c.replay.ensures in
    record { answer = one_of r; contents = other_of r }

pub returns-in_default : goal.returns-in_default
returns-in_default g c =
    let u = unmade c.compile.ensures c.in-Err.is in
    let r = replay_stopped (other_stopped (form_room c.args.self) c.in_default.not-BufferLength u.0) _ _ in
    record { answer = r.0; contents = r.1 }
