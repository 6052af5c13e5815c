-- `check` meets its contract: each answer is the judgement of the first check that refuses.
use mathlib.Core.Path.{sym, ◌∙◌}
use Rattle.limits.specs.Limits.{device_limit, table_limit}
use Rattle.refusal.proofs.Answers.{passed_on}
use Rattle.conformance.specs.PairQueue.{input_of}
use Rattle.conformance.proofs.Trials.{device_refused, table_refused, buffer_refused, all_accepted}
use Rattle.conformance.proofs.Pairing.check.Goals as goal

pub returns-in_err-check_table : goal.returns-in_err-check_table
returns-in_err-check_table c =
    passed_on c.from_residual.result c.in_err-check_table.field-0.0 c.from_residual.ensures.1
    ∙ device_refused device_limit table_limit (input_of c.args.self.now) c.args.word.now _ (sym c.check_table.ensures ∙ c.in_err-check_table.was)

pub returns-in_err-check_table-2 : goal.returns-in_err-check_table-2
returns-in_err-check_table-2 c =
    passed_on c.from_residual-in_err-check_table-2.result c.in_err-check_table-2.field-0.0 c.from_residual-in_err-check_table-2.ensures.1
    ∙ table_refused device_limit table_limit (input_of c.args.self.now) c.args.word.now (sym c.check_table.ensures ∙ c.in_ok-check_table.was) _
    (sym c.check_table-2.ensures ∙ c.in_err-check_table-2.was)

pub returns-then-word-lt-WORD_LIMIT : goal.returns-then-word-lt-WORD_LIMIT
returns-then-word-lt-WORD_LIMIT c =
    buffer_refused device_limit table_limit (input_of c.args.self.now) c.args.word.now (sym c.check_table.ensures ∙ c.in_ok-check_table.was)
    (sym c.check_table-2.ensures ∙ c.in_ok-check_table-2.was) c.if-word-lt-WORD_LIMIT.true

pub returns : goal.returns
returns c =
    all_accepted device_limit table_limit (input_of c.args.self.now) c.args.word.now (sym c.check_table.ensures ∙ c.in_ok-check_table.was)
    (sym c.check_table-2.ensures ∙ c.in_ok-check_table-2.was) c.if-word-lt-WORD_LIMIT.false
