-- What `compile` stores, as input of a trial; and the rule of a table as input of `compile`.
use mathlib.Core.Logic.Iff
use mathlib.Core.{Path.{◌≡◌, refl, sym, ◌∙◌, ap, subst, subst⁻¹}, Bool.{Bool, true, false}, Logic.{◌↔◌}, List.{List, ◌++◌}}
use mathlib.Core.Option.{Option, none, some}
use Prim.Native.Nat.{ℕ, zero, ◌*◌, ◌≤◌, ◌<◌}
use borrow.Author.Tests.{le-leb}
use lib.{Dec.{T, leb}, ListN.{length, take, drop}, Seq.{take-append_seam}}
use Rattle.theory.specs.{ValueSets.{MeetSemilattice, AtOrBelow}, Formula.{Formula, size, Answers}, FormulaClasses.{WellFormed}}
use Rattle.theory.specs.MealyMachine.{Machine, Word, States, Runs, Satisfies}
use Rattle.theory.specs.TableSatisfaction.{TableSatisfies}
use Rattle.theory.specs.ReachableStates.{IsTableOf}
use Rattle.theory.proofs.Claims.{answers, table_values, table_satisfaction}
use Rattle.refusal.specs.{declared.Refusal.{Refusal}, RefusalAnswers.{or_else, plain_unless}, declared.Refusal.TheVariants.{BufferLength, StateCount}}
use Rattle.refusal.specs.Refusal.{put, First, JudgedCall, refusal_of, yield_of}
use Rattle.refusal.specs.RefusalAnswers.{put_unless}
use Rattle.refusal.proofs.{Refusals.{or_else_none, plain_some}, Answers.{answered_refusal_is, yield_of_answered, answered_judged, answered_put}}
use Rattle.limits.specs.Limits.{node_limit, state_limit, device_limit, table_limit, word_limit}
use Rattle.values.specs.{Setup.{Setup, SetupValue, setup_meet, setup_top}, ValueTests.{at_or_below}, SetupTests.{setup_refusal}}
use Rattle.values.proofs.ValueKinds.{value_kinds}
use Rattle.machines.specs.{TableBytes.{table_bytes, entry_width, entry_bytes, machine_of}, TableRefusal.{table_refusal}}
use Rattle.machines.proofs.{EntryBytes.{table_length}, TableRoundTrip.{read_back, entry_length}}
use Rattle.machines.proofs.TableRefusals.{table_accepted, accepted_table, in_order_none}
use Rattle.formulas.specs.{RuleConditions.{encode_formula, node_bytes}, RuleRefusal.{rule_refusal, formula_of}, Claims.{AcceptedFormula}}
use Rattle.formulas.proofs.RuleClaims.{accepted_formula_of, formula_of_only, rule_judged as bytes_judged}
use Rattle.synthesis.specs.Compilation.{rule_table_refusal, setup_states, setup_table, compile_refusal, compile_answer, compile_contents}
use Rattle.synthesis.specs.{Claims.{CompiledBytes}, TableOfRule.{compile_conditions, IsRuleTable}}
use Rattle.synthesis.proofs.{CompiledTable.{few_states, is_table, table_runs}, LentTable.{contents_at, laws, few}}
use Rattle.synthesis.proofs.CompileClaims.{table_agrees, compile_refusal_claim, compile_claim, made_table, printed_table}
use Rattle.characteristic.specs.{RuleOfTable.{write_conditions, IsWritten}, RuleWriting.{write_refusal, write_answer, write_contents}, Claims.{Written}}
use Rattle.characteristic.proofs.Claims.{write_refusal_claim, written_claim}
use Rattle.conformance.specs.{Trial.{input, DeviceInOrder, EndsSame, Passed, grade}, TrialAnswer.{tables_refusal, handed_refusal, trial_refusal, trial_answer}}
use Rattle.conformance.specs.declared.Grade.TheVariants.{Same}
use Rattle.conformance.proofs.TrialClaims.{trial_satisfies, trial_grades}
use Rattle.product_claims.specs.{Demands.{rule_trial_input, Recompiled}, Requests.{MatchesRule, stored_value}}

-- Where no earlier condition refuses, the next decides.
passed : (a b : Option Refusal) → a ≡ none → b ≡ none → or_else a b ≡ none
unfolding or_else
passed a b p q = ap (λ o. or_else o b) p ∙ q

unless_true : (b : Bool) (given : Refusal) → b ≡ true → plain_unless b given ≡ none
unfolding plain_unless
unless_true b given e = ap (λ c. plain_unless c given) e

true_iff : (b : Bool) → T b ↔ (b ≡ true)
true_iff true = ((λ h. refl), λ e. tt)
true_iff false = ((λ h. absurd h), λ e. absurd (mathlib.Core.Bool.false≢true e))

-- The table that an accepted `compile` stores.
module _ (s : Setup) (rule old : List ℕ) (accepted : compile_refusal state_limit s rule old ≡ none) where
  abbrev meet : ℕ → ℕ → ℕ
  meet = setup_meet s

  abbrev top : ℕ
  top = setup_top s

  abbrev n : ℕ
  n = setup_states state_limit s rule

  abbrev t : Machine ℕ ℕ
  t = setup_table state_limit s rule

  abbrev output : List ℕ
  output = table_bytes (entry_bytes s.kind) s.events t n

  abbrev from_rule : Option Refusal
  from_rule = rule_table_refusal s.kind s.events (setup_top s) s.meet rule state_limit

  abbrev room : Option Refusal
  room = plain_unless (leb (n * s.events * entry_width s.kind) (length old)) BufferLength

  none_of : (setup_refusal s ≡ none) × (from_rule ≡ none)
  unfolding compile_refusal
  none_of =
      let a = or_else_none (setup_refusal s) (or_else from_rule room) accepted in
      (a.0, (or_else_none from_rule room a.1).0)

  rule_fine : rule_refusal s.events s.kind rule ≡ none
  unfolding rule_table_refusal
  rule_fine = (or_else_none (rule_refusal s.events s.kind rule) (plain_unless (leb n state_limit) StateCount) none_of.1).0

  abbrev φ₀ : Formula ℕ
  φ₀ = formula_of s.kind rule

  pub there : AcceptedFormula s.events s.kind rule φ₀
  there = accepted_formula_of s.events s.kind rule rule_fine

  pub well : WellFormed s.events (SetupValue s) φ₀
  well = there.accepted.well_formed

  pub obeys : MeetSemilattice (SetupValue s) meet (setup_top s)
  obeys = laws s none_of.0

  little : n ≤ state_limit
  little = few s none_of.0 state_limit rule none_of.1

  abbrev compiled_bytes : List ℕ
  compiled_bytes = take (n * s.events * entry_width s.kind) (compile_contents state_limit s rule old)

  front : compiled_bytes ≡ output
  unfolding put_unless put
  front =
      ap (take (n * s.events * entry_width s.kind)) (contents_at state_limit s rule old _ accepted)
      ∙ ap (λ k. take k (output ++ drop (length output) old)) (sym (table_length ℕ (entry_bytes s.kind) (entry_width s.kind) (entry_length s.kind)
      s.events t n))
      ∙ take-append_seam output (drop (length output) old)

  runs : (0 < n) × Runs s.events (SetupValue s) (States n) t
  runs = let r = table_runs (SetupValue s) meet (setup_top s) obeys s.events state_limit φ₀ well there.accepted.within little in (r.0, r.1)

  -- In order, at every limit that it does not exceed.
  pub in_order : (limit : ℕ) → n ≤ limit → table_refusal limit s.events s.kind n zero (compiled_bytes) ≡ none
  in_order limit within =
      ap (table_refusal limit s.events s.kind n zero) front
      ∙ table_accepted limit s.events s.kind n zero t runs.1 within runs.0

  pub its_table : IsTableOf meet (setup_top s) s.events φ₀ n (machine_of s.kind s.events (compiled_bytes))
  its_table =
      subst (λ l. IsTableOf meet (setup_top s) s.events φ₀ n (machine_of s.kind s.events l)) (sym front)
      (table_agrees meet (setup_top s) s.events φ₀ n t (machine_of s.kind s.events output) (read_back s.kind s.events n t)
      (is_table (SetupValue s) meet (setup_top s) obeys s.events state_limit φ₀ well there.accepted.within little))

  module _ (states start : ℕ) (device : List ℕ) (whole : table_refusal device_limit s.events s.kind states start device ≡ none)
      (buffer : List ℕ) (long : word_limit ≤ length buffer) where
    pub none_met : trial_refusal device_limit table_limit (rule_trial_input s rule old n states start device) buffer ≡ none
    unfolding trial_refusal handed_refusal tables_refusal input
    none_met =
        passed (setup_refusal s) _ none_of.0
        (passed _ _
        (passed (table_refusal device_limit s.events s.kind states start device) _ whole (in_order table_limit little))
        (unless_true (leb word_limit (length buffer)) BufferLength (le-leb word_limit (length buffer) long)))

    abbrev device_runs : Runs s.events (SetupValue s) (States states) (machine_of s.kind s.events device)
    device_runs = (accepted_table device_limit s.events s.kind states start device whole).runs

    decides : (b c : ℕ) → T (at_or_below s.kind s.meet b c) ↔ AtOrBelow meet b c
    decides b c = Iff.trans (true_iff (at_or_below s.kind s.meet b c)) (value_kinds.order s.kind s.meet b c)

    by_sets :
        Passed (trial_answer device_limit table_limit (rule_trial_input s rule old n states start device) buffer)
        ↔ TableSatisfies meet states (machine_of s.kind s.events device) φ₀ start
    unfolding input
    by_sets = trial_satisfies device_limit table_limit (rule_trial_input s rule old n states start device) buffer none_met φ₀ well its_table

    pub by_definition :
        Passed (trial_answer device_limit table_limit (rule_trial_input s rule old n states start device) buffer)
        ↔ Satisfies meet (States states) (machine_of s.kind s.events device) φ₀ start
    by_definition =
        let exact = table_satisfaction (SetupValue s) meet (setup_top s) s.events obeys (at_or_below s.kind s.meet) decides
        states (machine_of s.kind s.events device) device_runs φ₀ well start
        (accepted_table device_limit s.events s.kind states start device whole).start_in in
        ((λ p. exact.0 (by_sets.0 p)), λ q. by_sets.1 (exact.1 q))

    -- The device has the table's values exactly if it has the formula's, since the table has them and the formula no others.
    ends_same_iff :
        EndsSame (rule_trial_input s rule old n states start device) ↔ MatchesRule s φ₀ (machine_of s.kind s.events device) start
    unfolding input
    ends_same_iff =
        let says = (table_values (SetupValue s) meet top s.events obeys φ₀ well n (machine_of s.kind s.events (compiled_bytes)) its_table).2 in (
          (λ same w v e l. subst⁻¹ (Answers meet top φ₀ w e) (same w v e l) (says w v e l)),
          λ h w v e l.
              let only = answers (SetupValue s) meet top s.events φ₀ well w e in
              (only _).0 (h w v e l) ∙ sym ((only _).0 (says w v e l)),
        )

    by_values :
        (grade (trial_answer device_limit table_limit (rule_trial_input s rule old n states start device) buffer) ≡ some Same)
        ↔ MatchesRule s φ₀ (machine_of s.kind s.events device) start
    by_values = Iff.trans ((trial_grades device_limit table_limit).same (rule_trial_input s rule old n states start device) buffer none_met) ends_same_iff

-- The table that `compile` stores has the formula's values.
pub stored_answers :
    (s : Setup) (rule to : List ℕ) → compile_refusal state_limit s rule to ≡ none → (φ : Formula ℕ) → rule ≡ encode_formula (node_bytes s.kind) φ →
    (w : List ℕ) → Word s.events w → (e : ℕ) → e < s.events → Answers (setup_meet s) (setup_top s) φ w e (stored_value s rule to w e)
stored_answers s rule to accepted φ code w hw e he =
    let stored : CompiledBytes state_limit s rule to (setup_states state_limit s rule) (compile_contents state_limit s rule to)
    = compile_claim.accepted state_limit s rule to accepted in
    subst (λ χ. Answers (setup_meet s) (setup_top s) χ w e (stored_value s rule to w e)) (sym (stored.table.only φ code)) (stored.table.answers w hw e he)

-- What holds of the state count and the formula that are computed holds of those that are handed in.
pub for_rule {κ} :
    (s : Setup) (rule to : List ℕ) (n : ℕ) → yield_of (compile_answer state_limit s rule to) ≡ some n →
    (φ : Formula ℕ) → rule ≡ encode_formula (node_bytes s.kind) φ → (P : ℕ → Formula ℕ → Type κ) →
    (compile_refusal state_limit s rule to ≡ none → P (setup_states state_limit s rule) (formula_of s.kind rule)) → P n φ
for_rule s rule to n h φ code P f =
    let p = yield_of_answered (compile_refusal state_limit s rule to) (setup_states state_limit s rule) n h in
    subst (λ k. P k φ) p.1 (subst (P (setup_states state_limit s rule)) (sym (formula_of_only s.kind rule φ code)) (f p.0))

pub rule_trial :
    (s : Setup) (rule to : List ℕ) (n : ℕ) → yield_of (compile_answer state_limit s rule to) ≡ some n →
    (states start : ℕ) (device word : List ℕ) →
    DeviceInOrder device_limit table_limit (rule_trial_input s rule to n states start device) word → word_limit ≤ length word →
    (φ : Formula ℕ) → rule ≡ encode_formula (node_bytes s.kind) φ →
    Passed (trial_answer device_limit table_limit (rule_trial_input s rule to n states start device) word)
    ↔ Satisfies (setup_meet s) (States states) (machine_of s.kind s.events device) φ start
unfolding input
rule_trial s rule to n h states start device word whole long φ code =
    for_rule s rule to n h φ code
    (λ k χ. Passed (trial_answer device_limit table_limit (rule_trial_input s rule to k states start device) word)
    ↔ Satisfies (setup_meet s) (States states) (machine_of s.kind s.events device) χ start)
    (λ p. by_definition s rule to p states start device (in_order_none device_limit s.events s.kind states start device whole) word long)

pub rule_grade :
    (s : Setup) (rule to : List ℕ) (n : ℕ) → yield_of (compile_answer state_limit s rule to) ≡ some n →
    (states start : ℕ) (device word : List ℕ) →
    DeviceInOrder device_limit table_limit (rule_trial_input s rule to n states start device) word → word_limit ≤ length word →
    (φ : Formula ℕ) → rule ≡ encode_formula (node_bytes s.kind) φ →
    (grade (trial_answer device_limit table_limit (rule_trial_input s rule to n states start device) word) ≡ some Same)
    ↔ MatchesRule s φ (machine_of s.kind s.events device) start
unfolding input
rule_grade s rule to n h states start device word whole long φ code =
    for_rule s rule to n h φ code
    (λ k χ. (grade (trial_answer device_limit table_limit (rule_trial_input s rule to k states start device) word) ≡ some Same)
    ↔ MatchesRule s χ (machine_of s.kind s.events device) start)
    (λ p. by_values s rule to p states start device (in_order_none device_limit s.events s.kind states start device whole) word long)

-- The rule of an accepted table, compiled.
module _ (s : Setup) (states start : ℕ) (table buffer : List ℕ)
    (fine : write_refusal table_limit node_limit s states start table (length buffer) ≡ none) where
  abbrev made : Written s states start table buffer
  made = written_claim s states start table buffer fine

  abbrev ψ : Formula ℕ
  ψ = made.rule

  abbrev bytes : List ℕ
  bytes = encode_formula (node_bytes s.kind) ψ

  setup_fine : setup_refusal s ≡ none
  unfolding write_refusal
  setup_fine = (or_else_none (setup_refusal s) _ fine).0

  abbrev obeyed : MeetSemilattice (SetupValue s) (setup_meet s) (setup_top s)
  obeyed = laws s setup_fine

  sound : WellFormed s.events (SetupValue s) ψ
  sound = made.rule_written.accepted.well_formed

  read : formula_of s.kind bytes ≡ ψ
  read = sym (formula_of_only s.kind bytes ψ refl)

  abbrev count : ℕ
  count = setup_states state_limit s bytes

  bounded : count ≤ state_limit
  bounded =
      subst (λ χ. Rattle.synthesis.specs.FormulaTable.formula_states (setup_meet s) (setup_top s) χ s.events state_limit ≤ state_limit)
      (sym read)
      ((few_states (SetupValue s) (setup_meet s) (setup_top s) obeyed s.events state_limit ψ sound
      made.rule_written.accepted.within).1 made.rule_written.few_states)

  module _ (to : List ℕ) where
    abbrev for_13 : Option Refusal
    for_13 = plain_unless (leb (count * s.events * entry_width s.kind) (length to)) BufferLength

    -- 13 alone is left.
    for_room : compile_refusal state_limit s bytes to ≡ for_13
    unfolding compile_refusal rule_table_refusal or_else
    for_room =
        ap (λ o. or_else o (or_else (rule_table_refusal s.kind s.events (setup_top s) s.meet bytes state_limit) for_13)) setup_fine
        ∙ ap (λ o. or_else o for_13)
        (passed (rule_refusal s.events s.kind bytes) _ made.rule_written.accepted_bytes
        (unless_true (leb count state_limit) StateCount (le-leb count state_limit bounded)))

    recompiled : Recompiled s start table bytes to
    recompiled =
        let read_back = answered_refusal_is (compile_refusal state_limit s bytes to) count in
        record {
          only_13 = λ r h. (plain_some (leb (count * s.events * entry_width s.kind) (length to)) BufferLength r (sym for_room ∙ sym read_back ∙ h)).1;
          same_values = λ h w hw e he.
              let one = answers (SetupValue s) (setup_meet s) (setup_top s) s.events ψ sound w e in
              (one _).0 (stored_answers s bytes to (sym read_back ∙ h) ψ refl w hw e he) ∙ sym ((one _).0 (made.rule_written.same_values w hw e he));
        }

-- What an accepted `write_rule` writes.
module _ (s : Setup) (states start : ℕ) (table old : List ℕ) where
  abbrev refusal : Option Refusal
  refusal = write_refusal table_limit node_limit s states start table (length old)

  pub rule_judged :
      JudgedCall (write_conditions table_limit node_limit s states start table (length old))
      (refusal_of (write_answer table_limit node_limit s states start table old)) old
      (write_contents table_limit node_limit s states start table old)
  unfolding write_answer write_contents
  rule_judged = answered_judged refusal _ _ old refl refl (write_refusal_claim table_limit node_limit s states start table (length old))

  pub accepted_write : (n : ℕ) → yield_of (write_answer table_limit node_limit s states start table old) ≡ some n → refusal ≡ none
  unfolding write_answer
  accepted_write n h = (yield_of_answered refusal _ n h).0

  is_written : (fine : refusal ≡ none) → IsWritten s start table (written_claim s states start table old fine).rule
  is_written fine =
      let w = (written_claim s states start table old fine).rule_written in
      record {
        is_rule = w.is_rule;
        only = w.only_rule;
        accepted = subst (First _) w.accepted_bytes (bytes_judged s.events s.kind _).first;
        same_values = w.same_values;
      }

  pub table_to_rule :
      (n : ℕ) → yield_of (write_answer table_limit node_limit s states start table old) ≡ some n →
      (φ : Formula ℕ) × IsWritten s start table φ × (n ≡ size φ)
      × (write_contents table_limit node_limit s states start table old ≡ put (encode_formula (node_bytes s.kind) φ) old)
  table_to_rule n h =
      let fine = accepted_write n h in
      let w = written_claim s states start table old fine in
      (w.rule, is_written fine, same_count n (size w.rule) (sym h ∙ ap yield_of w.count_is_size), w.bytes_put)
    where
      same_count : (n m : ℕ) → some n ≡ some m → n ≡ m
      same_count n m e = cc

  pub table_to_rule_to_table :
      (n : ℕ) → yield_of (write_answer table_limit node_limit s states start table old) ≡ some n →
      (φ : Formula ℕ) → IsWritten s start table φ → (to : List ℕ) → Recompiled s start table (encode_formula (node_bytes s.kind) φ) to
  table_to_rule_to_table n h φ w to =
      let fine = accepted_write n h in
      subst (λ χ. Recompiled s start table (encode_formula (node_bytes s.kind) χ) to)
      (w.only (written_claim s states start table old fine).rule (written_claim s states start table old fine).rule_written.is_rule)
      (recompiled s states start table old fine to)

-- `compile`.
module _ (s : Setup) (rule old : List ℕ) where
  pub compile_judged :
      JudgedCall (compile_conditions state_limit s rule old) (refusal_of (compile_answer state_limit s rule old)) old
      (compile_contents state_limit s rule old)
  compile_judged =
      answered_judged (compile_refusal state_limit s rule old) (setup_states state_limit s rule) _ old refl (contents_at state_limit s rule old _ refl)
      (compile_refusal_claim state_limit s rule old)

  pub rule_to_table :
      (k : ℕ) → yield_of (compile_answer state_limit s rule old) ≡ some k →
      (u : Machine ℕ ℕ) × IsRuleTable s rule k u
      × (compile_contents state_limit s rule old ≡ put (table_bytes (entry_bytes s.kind) s.events u k) old)
  rule_to_table k h =
      let p =
      answered_put (compile_refusal state_limit s rule old) (setup_states state_limit s rule) _ old refl (contents_at state_limit s rule old _ refl) k h in
      subst⁻¹
      (λ k. (u : Machine ℕ ℕ) × IsRuleTable s rule k u
      × (compile_contents state_limit s rule old ≡ put (table_bytes (entry_bytes s.kind) s.events u k) old))
      p.1 (setup_table state_limit s rule, printed_table s rule _ _ (made_table state_limit s rule old p.0), p.2)
