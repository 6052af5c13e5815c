-- `Form::compile` meets its contract: what the form's own call answers, as one struct.
use mathlib.Core.Path.{refl, subst}
use native.Mathlib.Omega.{arith}
use Rattle.refusal.proofs.Answers.{passed_on}
use Rattle.channel_io.specs.FileCompilation.{CompilesFile, CompilesRegisterFile}
use Rattle.channel_io.proofs.Callers.{made_of, limits, register_made_of, register_limits}
use Rattle.gurvazze_host.proofs.Calls.{compiled_numbers, compiled_register}
use Rattle.gurvazze_host.proofs.Form.compile.Goals as goal

pub returns-in_err-file-in-Numbers : goal.returns-in_err-file-in-Numbers
returns-in_err-file-in-Numbers c =
    compiled_numbers c.in-Numbers.is (subst (CompilesFile _ _ _ _ _) c.in_err-file-in-Numbers.was c.compile_file.ensures)
    (passed_on c.from_residual.result c.in_err-file-in-Numbers.field-0.0 c.from_residual.ensures.1)

pub overflow_cast-result : goal.overflow_cast-result
overflow_cast-result c =
    let w = made_of c.compile_file.ensures c.in_ok-file-in-Numbers.was in
    omega (arith, (limits w).few_values)

pub returns-in_err-file-in-Register : goal.returns-in_err-file-in-Register
returns-in_err-file-in-Register c =
    compiled_register c.in-Register.is (subst (CompilesRegisterFile _ _ _ _ _) c.in_err-file-in-Register.was c.compile_file-in-Register.ensures)
    (passed_on c.from_residual-in_err-file-in-Register.result c.in_err-file-in-Register.field-0.0 c.from_residual-in_err-file-in-Register.ensures.1)

pub overflow_cast-result-in-Register : goal.overflow_cast-result-in-Register
overflow_cast-result-in-Register c =
    let w = register_made_of c.compile_file-in-Register.ensures c.in_ok-file-in-Register.was in
    omega (arith, (register_limits w).few_lines)

pub returns-in_ok-file-in-Numbers : goal.returns-in_ok-file-in-Numbers
returns-in_ok-file-in-Numbers c =
    compiled_numbers c.in-Numbers.is (subst (CompilesFile _ _ _ _ _) c.in_ok-file-in-Numbers.was c.compile_file.ensures) refl

pub returns-in_ok-file-in-Register : goal.returns-in_ok-file-in-Register
returns-in_ok-file-in-Register c =
    compiled_register c.in-Register.is (subst (CompilesRegisterFile _ _ _ _ _) c.in_ok-file-in-Register.was c.compile_file-in-Register.ensures) refl
