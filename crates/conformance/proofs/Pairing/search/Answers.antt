-- `search` meets its contract: the queue starts with the start's pair, and the word of the place that failed is written.
use mathlib.Core.Path.{sym, ap, subst⁻¹}
use mathlib.Core.{Path.{◌∙◌}, List.{[], ◌∷◌}}
use native.Mathlib.Omega.{arith}
use lib.ListN.{length-set}
use Rattle.conformance.specs.PairQueue.{Found, FailsAt, HoldsPairs, input_of}
use Rattle.conformance.specs.TrialAnswer.{grade_of}
use Rattle.conformance.specs.declared.Verdict.TheVariants.{Pass}
use Rattle.conformance.proofs.Starts.{start_held, none_answer, none_shown, word_fits, some_answer, some_shown}
use Rattle.conformance.proofs.Pairing.search.Goals as goal

pub find_failure-requires : goal.find_failure-requires
find_failure-requires g c = (
  omega (arith, c.requires.ready.few_places),
  (c.requires.ready, subst⁻¹ (HoldsPairs (input_of c.args.self.now) ([] ∷ [])) c.push.ensures (start_held c.requires.ready)),
)

pub returns-in-Ok-true-clause-answer : goal.returns-in-Ok-true-clause-answer
unfolding Found grade_of
returns-in-Ok-true-clause-answer g c =
    ap (λ b. Pass (grade_of b)) (sym c.in-Ok-true.field-0-test) ∙ none_answer (input_of c.args.self.now) c.in-Ok-true.field-0 c.in-Ok-true.ensures

pub returns-in-Ok-true-clause-contents : goal.returns-in-Ok-true-clause-contents
unfolding Found
returns-in-Ok-true-clause-contents g c = none_shown (input_of c.args.self.now) c.args.word.now c.in-Ok-true.ensures.0

pub returns-in-Ok-false-clause-answer : goal.returns-in-Ok-false-clause-answer
unfolding Found grade_of
returns-in-Ok-false-clause-answer g c =
    ap (λ b. Pass (grade_of b)) (sym c.in-Ok-false.field-0-test) ∙ none_answer (input_of c.args.self.now) c.in-Ok-false.field-0 c.in-Ok-false.ensures

pub returns-in-Ok-false-clause-contents : goal.returns-in-Ok-false-clause-contents
unfolding Found
returns-in-Ok-false-clause-contents g c = none_shown (input_of c.args.self.now) c.args.word.now c.in-Ok-false.ensures.0

pub depth-n-requires : goal.depth-n-requires
unfolding Found
depth-n-requires g c =
    let y : FailsAt (input_of c.args.self.now) c.in-Err.failure c.find_failure.new.self = c.in-Err.ensures in
    (omega (arith, c.requires.ready.few_places), y.reaches)

pub overflow_cast-word : goal.overflow_cast-word
unfolding Found
overflow_cast-word g c =
    let y : FailsAt (input_of c.args.self.now) c.in-Err.failure c.find_failure.new.self = c.in-Err.ensures in
    omega (arith, y.event_in, c.requires.ready.few_events)

pub bounds-word-n : goal.bounds-word-n
unfolding Found
bounds-word-n g c =
    let y : FailsAt (input_of c.args.self.now) c.in-Err.failure c.find_failure.new.self = c.in-Err.ensures in
    omega (arith, word_fits y _ (c.depth-n.ensures y.reaches), c.requires.room)

pub write_path-requires : goal.write_path-requires
unfolding Found
write_path-requires g c =
    let y : FailsAt (input_of c.args.self.now) c.in-Err.failure c.find_failure.new.self = c.in-Err.ensures in
    let n = c.depth-n.ensures y.reaches in (
      omega (arith, c.requires.ready.few_places),
      record { reaches = y.reaches; long = n; room = simp length-set (omega (arith, word_fits y _ n, c.requires.room)) },
    )

pub overflow_add-result : goal.overflow_add-result
unfolding Found
overflow_add-result g c =
    let y : FailsAt (input_of c.args.self.now) c.in-Err.failure c.find_failure.new.self = c.in-Err.ensures in
    omega (arith, word_fits y _ (c.depth-n.ensures y.reaches), c.requires.ready.few_places)

pub returns-in-Err-clause-answer : goal.returns-in-Err-clause-answer
unfolding Found
returns-in-Err-clause-answer g c =
    let y : FailsAt (input_of c.args.self.now) c.in-Err.failure c.find_failure.new.self = c.in-Err.ensures in
    some_answer y _ (c.depth-n.ensures y.reaches)

pub returns-in-Err-clause-contents : goal.returns-in-Err-clause-contents
unfolding Found
returns-in-Err-clause-contents g c =
    let y : FailsAt (input_of c.args.self.now) c.in-Err.failure c.find_failure.new.self = c.in-Err.ensures in
    let n = c.depth-n.ensures y.reaches in
    some_shown y _ n _ _ c.requires.room (c.write_path.ensures record {
      reaches = y.reaches;
      long = n;
      room = simp length-set (omega (arith, word_fits y _ n, c.requires.room));
    })
