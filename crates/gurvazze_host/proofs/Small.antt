-- Every answer has room in a code.
use mathlib.Core.{Path.{◌≡◌, refl, ◌∙◌, ap}, Bool.{Bool, true, false}, Option.{Option, none, some}, List.{List}}
use Prim.Native.Nat.{ℕ, ◌^◌, ◌≤◌, ◌<◌}
use native.Mathlib.Omega.{arith}
use borrow.Author.Tests.{leb-true}
use lib.{Dec.{leb}, ListN.{length}}
use Rattle.limits.specs.Limits.{node_limit, binder_limit, state_limit, device_limit, table_limit, word_limit}
use Rattle.theory.specs.{Formula.{size}, BinderDepth.{binder_depth}}
use Rattle.refusal.specs.{declared.Refusal.{Refusal}, declared.Refusal.TheVariants.{BinderDepth, BufferLength, TableLimits, WrittenSize}}
use Rattle.refusal.specs.RefusalAnswers.{plain_unless, answered, judgement}
use Rattle.refusal.proofs.Refusals.{or_else_none, plain_none}
use Rattle.values.specs.{Setup.{Setup}, SetupTests.{setup_refusal}}
use Rattle.values.specs.declared.ValueKind.{ValueKind}
use Rattle.machines.specs.{TableBytes.{entry_width}, TableRefusal.{table_refusal, table_test, entry_test}}
use Rattle.formulas.specs.RuleRefusal.{depth_refusal}
use Rattle.synthesis.specs.Compilation.{setup_states, compile_refusal, compile_answer}
use Rattle.synthesis.proofs.CompileClaims.{compile_claim}
use Rattle.characteristic.specs.RuleWriting.{output_refusal, rule_of, write_refusal, write_answer}
use Rattle.conformance.specs.declared.Verdict.{Verdict}
use Rattle.conformance.specs.declared.Verdict.TheVariants.{Pass, Fail}
use Rattle.conformance.specs.Trial.{TrialInput, word_length}
use Rattle.conformance.specs.TrialAnswer.{tables_refusal, handed_refusal, trial_refusal, trial_answer, first_failure, ends_same}
use Rattle.conformance.specs.TrialAnswer.{found_answer, outcome, grade_of}
use Rattle.conformance.proofs.TrialClaims.{trial_fails}
use Rattle.gurvazze_host.specs.Codes.{SmallAnswer, SmallVerdict, SmallReplay, verdict_yield, grade_yield}
use Rattle.gurvazze_host.proofs.Places.{SmallRefusal, no_place, or_small, plain_small, setup_small, rule_table_small}
use Rattle.std.specs.Prelude.{Ok}

table_small :
    (limit events : ℕ) (kind : ValueKind) (states start : ℕ) (bytes : List ℕ) → SmallRefusal (table_refusal limit events kind states start bytes)
unfolding table_refusal
table_small limit events kind states start bytes =
    plain_small (table_test (entry_width kind) limit events (entry_test kind states bytes) states start bytes) TableLimits no_place

-- ---- an answer has room in a code if its refusal has and what it yields has
pub answered_small : (o : Option Refusal) (n : ℕ) → SmallRefusal o → (o ≡ none → n < 2 ^ 48) → SmallAnswer (answered o n)
unfolding answered
answered_small none n small few = few refl
answered_small (some r) n small few = small

pub verdict_answered : (o : Option Refusal) (v : Verdict) → SmallRefusal o → (o ≡ none → verdict_yield v < 2 ^ 48) → SmallVerdict (answered o v)
unfolding answered
verdict_answered none v small few = few refl
verdict_answered (some r) v small few = small

pub judged_small : (o : Option Refusal) → SmallRefusal o → SmallReplay (judgement o)
unfolding judgement
judged_small none small = tt
judged_small (some r) small = small

-- ---- a trial
pass_small : (same : Bool) → verdict_yield (Pass (grade_of same)) < 2 ^ 48
unfolding verdict_yield grade_yield grade_of
pass_small true = omega arith
pass_small false = omega arith

word_small : (n : ℕ) → n ≤ word_limit → verdict_yield (Fail n) < 2 ^ 48
unfolding verdict_yield
word_small n h = omega arith

module _ (x : TrialInput) (old : List ℕ) where
  pub file_trial_small : SmallRefusal (trial_refusal device_limit table_limit x old)
  unfolding trial_refusal handed_refusal tables_refusal
  file_trial_small =
      or_small _ _ (setup_small x.set_up)
      (or_small _ _
      (or_small _ _ (table_small device_limit x.set_up.events x.set_up.kind x.device_states x.device_start x.device)
      (table_small table_limit x.set_up.events x.set_up.kind x.states 0 x.table))
      (plain_small (leb word_limit (length old)) BufferLength no_place))

  pub found_small : trial_refusal device_limit table_limit x old ≡ none → verdict_yield (found_answer x) < 2 ^ 48
  unfolding trial_answer answered found_answer outcome
  found_small e = go (first_failure x) refl
    where
      go : (f : Option (List ℕ)) → first_failure x ≡ f → verdict_yield (outcome f (ends_same x)) < 2 ^ 48
      go none i = pass_small (ends_same x)
      go (some w) i =
          let is : trial_answer device_limit table_limit x old ≡ Ok (Fail (length w)) =
          ap (λ (q : Option Refusal). answered q (found_answer x)) e ∙ ap (λ (o : Option (List ℕ)). Ok (outcome o (ends_same x))) i in
          word_small (length w) (trial_fails device_limit table_limit x old (length w) (ap word_length is)).few_events

  pub verdict_small : SmallVerdict (trial_answer device_limit table_limit x old)
  unfolding trial_answer
  verdict_small = verdict_answered (trial_refusal device_limit table_limit x old) (found_answer x) file_trial_small found_small

-- ---- the table of a rule
module _ (s : Setup) (rule old : List ℕ) where
  compile_small : SmallRefusal (compile_refusal state_limit s rule old)
  unfolding compile_refusal
  compile_small = or_small _ _ (setup_small s) (or_small _ _ (rule_table_small s rule) (plain_small _ BufferLength no_place))

  pub states_small : SmallAnswer (compile_answer state_limit s rule old)
  states_small =
      answered_small (compile_refusal state_limit s rule old) (setup_states state_limit s rule) compile_small
      (λ e. let w = (compile_claim.accepted state_limit s rule old e).few in omega arith)

-- ---- the rule of a table
module _ (s : Setup) (states start : ℕ) (table old : List ℕ) where
  write_small : SmallRefusal (write_refusal table_limit node_limit s states start table (length old))
  unfolding write_refusal output_refusal depth_refusal
  write_small =
      or_small _ _ (setup_small s)
      (or_small _ _ (table_small table_limit s.events s.kind states start table)
      (or_small _ _ (plain_small (leb (size (rule_of s states start table)) node_limit) WrittenSize no_place)
      (or_small _ _ (plain_small (leb (binder_depth (rule_of s states start table)) binder_limit) BinderDepth no_place)
      (plain_small _ BufferLength no_place))))

  size_small : write_refusal table_limit node_limit s states start table (length old) ≡ none → size (rule_of s states start table) ≤ node_limit
  unfolding write_refusal output_refusal
  size_small e =
      let a = (or_else_none (setup_refusal s) _ e).1 in
      let b = (or_else_none (table_refusal table_limit s.events s.kind states start table) _ a).1 in
      let d = (or_else_none (plain_unless (leb (size (rule_of s states start table)) node_limit) WrittenSize) _ b).0 in
      leb-true (size (rule_of s states start table)) node_limit (plain_none (leb (size (rule_of s states start table)) node_limit) WrittenSize d)

  pub count_small : SmallAnswer (write_answer table_limit node_limit s states start table old)
  unfolding write_answer
  count_small =
      answered_small (write_refusal table_limit node_limit s states start table (length old)) (size (rule_of s states start table)) write_small
      (λ e. let w = size_small e in omega arith)
