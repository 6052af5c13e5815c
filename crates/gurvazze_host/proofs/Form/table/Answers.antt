-- `Form::table` meets its contract: for a file that is refused and one whose table is made.
use mathlib.Core.Path.{◌∙◌, sym, ap}
use Rattle.std.specs.Prelude.{Ok}
use Rattle.refusal.proofs.Answers.{passed_on}
use Rattle.gurvazze_host.proofs.Calls.{form_room, unmade, made, small, numbers_same, table_stopped, table_made}
use Rattle.gurvazze_host.proofs.Form.table.Goals as goal

pub returns-in_err-made : goal.returns-in_err-made
returns-in_err-made c =
    let u = unmade c.compile.ensures c.in_err-made.was in
    let r = table_stopped (form_room c.args.self) u.0 in
    record {
      answer = passed_on c.from_residual.result c.in_err-made.field-0.0 c.from_residual.ensures.1 ∙ r.0;
      contents = u.1 ∙ r.1;
    }

pub numbers-requires : goal.numbers-requires
numbers-requires c = small (made c.compile.ensures c.in_ok-made.was)

pub returns : goal.returns
returns c =
    let f = made c.compile.ensures c.in_ok-made.was in
    let r = table_made f.of f.setup_is (form_room c.args.self) in
    record {
      answer = ap Ok (c.numbers.ensures ∙ sym (numbers_same c.in_ok-made.made c.compile.new.meet)) ∙ r.0;
      contents = r.1;
    }
