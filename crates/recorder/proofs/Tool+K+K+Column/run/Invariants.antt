-- `run` of `recorder` meets its contract: the loop's invariant is `Ran`.
use lib.ListN.{get_or}
use Rattle.recorder.specs.Store.{store_of}
use Rattle.recorder.proofs.Runs.{Ran}
use Rattle.recorder.proofs.Tool+K+K+Column.run.Given as goal

abbrev pub invariant-loop-i : goal.invariant-loop-i
invariant-loop-i g l =
    let t = store_of g.K.Kind.meaning l.self in
    Ran l.start t.setup.events (get_or t.states l.channel 0) (get_or t.current l.channel 0) t.value t.next l.word
    (g.K.Kind.meaning.numbers l.initial.values) l.state (g.K.Kind.meaning.numbers l.values) l.i
