-- `judge` meets its contract: tables or a buffer that are refused, or what the search over the tables answers.
use mathlib.Core.Path.{sym, ◌∙◌}
use native.Mathlib.Omega.{arith}
use Rattle.limits.specs.Limits.{device_limit, table_limit}
use Rattle.refusal.proofs.Answers.{passed_on}
use Rattle.conformance.specs.PairQueue.{input_of}
use Rattle.conformance.proofs.Trials.{handed_refused, handed_accepted, refused_answer, refused_buffer, searched_answer, searched_buffer, pairs_few, ready, room}
use Rattle.conformance.proofs.Pairing.judge.Goals as goal

pub returns-in_err-check : goal.returns-in_err-check
returns-in_err-check c =
    let x = input_of c.args.self.now in
    let z = handed_refused device_limit table_limit x c.args.word.now c.requires c.in_err-check.field-0.0 (sym c.check.ensures ∙ c.in_err-check.was) in
    record {
      answer =
          passed_on c.from_residual.result c.in_err-check.field-0.0 c.from_residual.ensures.1
          ∙ refused_answer device_limit table_limit x c.args.word.now c.in_err-check.field-0.0 z;
      contents = refused_buffer device_limit table_limit x c.args.word.now c.in_err-check.field-0.0 z;
    }

pub overflow_mul-self : goal.overflow_mul-self
overflow_mul-self c =
    let x = input_of c.args.self.now in
    omega (
      arith,
      pairs_few x c.args.word.now (handed_accepted device_limit table_limit x c.args.word.now c.requires (sym c.check.ensures ∙ c.in_ok-check.was)),
    )

pub search-requires : goal.search-requires
search-requires c =
    let x = input_of c.args.self.now in
    let z = handed_accepted device_limit table_limit x c.args.word.now c.requires (sym c.check.ensures ∙ c.in_ok-check.was) in
    record { ready = ready x c.args.word.now z _ (omega arith) c.if-self-le-SMALL_QUEUE.true; room = room x c.args.word.now z _ (omega arith) }

pub returns-then-self-le-SMALL_QUEUE : goal.returns-then-self-le-SMALL_QUEUE
returns-then-self-le-SMALL_QUEUE c =
    let x = input_of c.args.self.now in
    let z = handed_accepted device_limit table_limit x c.args.word.now c.requires (sym c.check.ensures ∙ c.in_ok-check.was) in
    record {
      answer = searched_answer device_limit table_limit x c.args.word.now z _ c.search.ensures.answer;
      contents = searched_buffer device_limit table_limit x c.args.word.now z _ c.search.ensures.contents;
    }

pub search_large-requires : goal.search_large-requires
search_large-requires c =
    handed_accepted device_limit table_limit (input_of c.args.self.now) c.args.word.now c.requires (sym c.check.ensures ∙ c.in_ok-check.was)

pub returns : goal.returns
returns c =
    let x = input_of c.args.self.now in
    let z = handed_accepted device_limit table_limit x c.args.word.now c.requires (sym c.check.ensures ∙ c.in_ok-check.was) in
    record {
      answer = searched_answer device_limit table_limit x c.args.word.now z _ c.search_large.ensures.answer;
      contents = searched_buffer device_limit table_limit x c.args.word.now z _ c.search_large.ensures.contents;
    }
