-- `after` of `recorder` meets its contract: what it comes to is written, or what was there.
use Rattle.recorder.specs.Store.{store_of}
use Rattle.recorder.proofs.Decided.{settled_is}
use Rattle.recorder.proofs.Tool+K+K+Column.after.Goals as goal

pub returns : goal.returns
returns g c =
    settled_is (store_of g.K.Kind.meaning c.args.self) c.args.channel c.args.step c.settle-settled.result c.settle-settled.ensures c.requires
