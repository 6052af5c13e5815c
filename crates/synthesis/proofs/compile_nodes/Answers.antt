-- `compile_nodes` meets its contract: it answers what the first attempt does, or the last.
use mathlib.Core.{Path.{refl, sym, ◌∙◌, ap}, Logic.{inl, inr}}
use native.Mathlib.Omega.{arith}
use Rattle.std.specs.Prelude.{Err, unwrap_or}
use Rattle.limits.specs.Limits.{state_limit}
use Rattle.refusal.specs.declared.Refusal.TheVariants.{StateCount}
use Rattle.synthesis.proofs.Compilation.{attempt_anew, few_answer, more_states, last_answer}
use Rattle.synthesis.proofs.compile_nodes.Goals as goal

pub returns-in-Some : goal.returns-in-Some
returns-in-Some c =
    let t = c.attempt.ensures in
    let w = few_answer 64 t.states t.is_stored c.in-Some.few (omega arith) (sym c.in-Some.is ∙ t.answer_is) in
    record {
      limit = 64;
      states = t.states;
      is_stored = t.is_stored;
      attempt = t.attempt;
      few = omega arith;
      last = inl w.0;
      answer_is = w.1;
    }

pub returns : goal.returns
returns c =
    let u = c.attempt.ensures in
    let t = c.attempt-many.ensures in
    let same = u.attempt.more (more_states 64 u.states u.is_stored (sym c.in_default.is ∙ u.answer_is)) in
    record {
      limit = state_limit;
      states = t.states;
      is_stored = t.is_stored;
      attempt = attempt_anew same t.attempt;
      few = omega arith;
      last = inr refl;
      answer_is = c.unwrap_or.ensures ∙ ap (λ x. unwrap_or x (Err StateCount)) t.answer_is ∙ last_answer t.states t.is_stored;
    }
