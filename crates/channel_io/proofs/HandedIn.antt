-- What the function that writes a file answers of a set-up as it is handed in, numbers or a register's.
use Prim.Native.Nat.{ℕ, ◌≤◌}
use mathlib.Core.{Path.{◌≡◌, sym, ap, ◌∙◌}, List.{List}}
use Rattle.limits.specs.Limits.{event_limit}
use Rattle.refusal.specs.{declared.Refusal.{Refusal}, RefusalAnswers.{judgement}}
use Rattle.values.specs.{HandedIn.{setup_of}, declared.SetUp.{SetUp}, declared.Values.{Values}}
use Rattle.values.specs.declared.Values.TheVariants.{Numbered, Register}
use Rattle.channel_io.specs.{FileRefusals.{pair_refusal}, FileWriting.{WritesRule}}
use Rattle.channel_io.proofs.WriteAnswers.{writes_refused, small_numbers}
use Rattle.channel_io.proofs.RegisterWrites.{small_numbers as small_register}
use Rattle.std.specs.Prelude.{Result, Ok, Err}

abbrev handed : ℕ → Values → SetUp
handed events v = record { events = events; values = v }

module _ (events : ℕ) (rule : List ℕ) where
  few_of : (v : Values) → judgement (pair_refusal (setup_of (handed events v)) rule) ≡ Ok tt → events ≤ event_limit
  few_of (Numbered values top meet) e = (small_numbers events values top meet.now rule e).0
  few_of (Register lines) e = (small_register events lines rule e).0

  refused_of : (old : List ℕ) {q : Refusal} {answer : Result ℕ Refusal} → answer ≡ Err q → (v : Values)
      → judgement (pair_refusal (setup_of (handed events v)) rule) ≡ Err q → WritesRule (handed events v) rule old old answer
  refused_of old passed (Numbered values top meet) e = writes_refused _ rule _ old passed e
  refused_of old passed (Register lines) e = writes_refused _ rule _ old passed e

module _ (s : SetUp) (rule : List ℕ) where
  pub few_events : judgement (pair_refusal (setup_of s) rule) ≡ Ok tt → s.events ≤ event_limit
  few_events e = few_of s.events rule s.values e

  pub rule_refused : (old : List ℕ) {q : Refusal} {answer : Result ℕ Refusal} → answer ≡ Err q → judgement (pair_refusal (setup_of s) rule) ≡ Err q
      → WritesRule s rule old old answer
  rule_refused old passed e = refused_of s.events rule old passed s.values e

  -- where the values are these
  pub passed_as : {v : Values} → s.values ≡ v → judgement (pair_refusal (setup_of s) rule) ≡ Ok tt
      → judgement (pair_refusal (setup_of (handed s.events v)) rule) ≡ Ok tt
  passed_as is e = ap (λ (w : Values). judgement (pair_refusal (setup_of (handed s.events w)) rule)) (sym is) ∙ e
