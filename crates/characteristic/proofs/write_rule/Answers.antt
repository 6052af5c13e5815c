-- `write_rule` meets its contract: a refused set-up, a refused table, or what is written over accepted ones.
use mathlib.Core.Path.{sym, ◌∙◌, ap}
use Rattle.limits.specs.Limits.{table_limit, node_limit}
use Rattle.refusal.specs.Refusal.{refusal_of}
use Rattle.values.specs.HandedIn.{setup_of}
use Rattle.refusal.proofs.Answers.{passed_on}
use Rattle.characteristic.proofs.Answers.{setup_refused, refused_table, written_table, small_start, in_limits}
use Rattle.characteristic.proofs.write_rule.Goals as goal

pub returns-in_err-values : goal.returns-in_err-values
returns-in_err-values c =
    let r = setup_refused table_limit node_limit (setup_of c.args.set_up) c.args.device.table.states c.args.device.start c.args.device.table.entries.now
    c.args.to.now c.in_err-values.field-0.0 (sym c.check.ensures.judged ∙ ap refusal_of c.in_err-values.was)
    (passed_on c.from_residual.result c.in_err-values.field-0.0 c.from_residual.ensures.1) in
    record { answer = r.0; contents = r.1 }

pub returns-in_err-check_table : goal.returns-in_err-check_table
returns-in_err-check_table c =
    let r = refused_table (setup_of c.args.set_up) c.args.set_up.events c.in_ok-values.values (sym c.check.ensures.judged ∙ ap refusal_of c.in_ok-values.was)
    c.in_ok-values.ensures.yields c.args.device.table.states c.args.device.start c.args.device.table.entries.now c.args.to.now
    c.in_err-check_table.field-0.0 (sym c.check_table.ensures ∙ c.in_err-check_table.was)
    (passed_on c.from_residual-in_err-check_table.result c.in_err-check_table.field-0.0 c.from_residual-in_err-check_table.ensures.1) in
    record { answer = r.0; contents = r.1 }

pub new-machine-requires : goal.new-machine-requires
new-machine-requires c =
    in_limits (setup_of c.args.set_up) c.args.set_up.events c.in_ok-values.values (sym c.check.ensures.judged ∙ ap refusal_of c.in_ok-values.was)
    c.in_ok-values.ensures.yields c.args.device.table.states c.args.device.start c.args.device.table.entries.now c.args.to.now

pub write_nodes-requires : goal.write_nodes-requires
write_nodes-requires c =
    small_start (setup_of c.args.set_up) c.args.set_up.events c.in_ok-values.values (sym c.check.ensures.judged ∙ ap refusal_of c.in_ok-values.was)
    c.in_ok-values.ensures.yields c.args.device.table.states c.args.device.start c.args.device.table.entries.now c.args.to.now
    (sym c.check_table.ensures ∙ c.in_ok-check_table.was)

pub returns : goal.returns
returns c =
    let r = written_table (setup_of c.args.set_up) c.args.set_up.events c.in_ok-values.values
    (sym c.check.ensures.judged ∙ ap refusal_of c.in_ok-values.was) c.in_ok-values.ensures.yields c.args.device.table.states c.args.device.start
    c.args.device.table.entries.now c.args.to.now (sym c.check_table.ensures ∙ c.in_ok-check_table.was)
    (rw (c.new-machine.ensures.kind, c.new-machine.ensures.events, c.new-machine.ensures.entries) at c.write_nodes.ensures) in
    record { answer = r.0; contents = r.1 }
