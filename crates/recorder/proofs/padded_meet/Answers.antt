-- `recorder::padded_meet` meets its contract: the first entries are copied over zeros.
use mathlib.Core.{Path.{◌≡◌, ◌∙◌, ap}, List.{◌++◌}}
use lib.ListN.{drop, replicate, take}
use Rattle.limits.specs.Limits.{meet_limit}
use Rattle.recorder.specs.Called.{filled}
use Rattle.recorder.proofs.Rows.{front_filled}
use Rattle.recorder.proofs.padded_meet.Goals as goal

pub returns : goal.returns
returns c =
    let k = c.min-count.result in
    let e : take k c.args.meet.now ++ drop k (replicate meet_limit 0) ≡ filled meet_limit c.args.meet.now =
    rw c.min-count.ensures (front_filled meet_limit c.args.meet.now) in
    ap (λ x. x ++ drop k (replicate meet_limit 0)) c.copy_from_slice.ensures.after ∙ e
