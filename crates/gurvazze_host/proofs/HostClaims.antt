-- What each exported function's contract gives.
use mathlib.Core.{Path.{◌≡◌, refl, sym, ◌∙◌, ap, subst, subst₂}, Logic.{◌↔◌}, Bool.{true}, Option.{Option, none, some, some-ne-none}, List.{List}}
use Prim.Native.Nat.{ℕ, ◌/◌, ◌≤◌}
use lib.ListN.{length}
use Rattle.limits.specs.Limits.{state_limit, node_limit, device_limit, table_limit, word_limit}
use Rattle.theory.specs.{Formula.{Formula, size}, MachineRuns.{word_values}, TableSatisfaction.{TableSatisfies}}
use Rattle.refusal.specs.{declared.{Refusal.{Refusal}}, declared.Refusal.TheVariants.{TextForm}}
use Rattle.refusal.specs.Refusal.{Condition, First, has_place, part_of, condition_numbers, right_places, Judged, JudgedCall, refusal_of, put, yield_of}
use Rattle.refusal.specs.RefusalAnswers.{answered, judgement, put_unless}
use Rattle.refusal.proofs.{Refusals.{listed_refusal, or_else_none, first_unique}, Answers.{answered_refusal_is, answered_judged}}
use Rattle.values.specs.Setup.{Setup, setup_meet}
use Rattle.formulas.specs.RuleConditions.{encode_formula, node_bytes}
use Rattle.machines.specs.TableBytes.{machine_of, table_bytes, entry_bytes}
use Rattle.text_format.specs.Format.{Outcome, contents, refused}
use Rattle.channel_file.proofs.{Forms.{FormLaws, answer_to, shown}, Claims.{channel_form}, RegisterClaims.{register_form}}
use Rattle.synthesis.specs.TableOfRule.{compile_conditions}
use Rattle.synthesis.specs.Compilation.{setup_states, setup_table, compile_refusal, compile_answer, compile_contents}
use Rattle.synthesis.proofs.{CompileClaims.{compile_refusal_claim, made_table, printed_table}, LentTable.{contents_at}}
use Rattle.characteristic.specs.RuleWriting.{write_refusal, rule_of, write_answer, write_contents}
use Rattle.characteristic.proofs.Claims.{write_refusal_claim, written_claim}
use Rattle.conformance.specs.Trial.{TrialInput, Answer, Passed, word_length}
use Rattle.conformance.specs.TrialAnswer.{trial_refusal, first_failure, ends_same, found_answer, buffer_unless, trial_answer, trial_buffer}
use Rattle.conformance.proofs.TrialClaims.{failed_some, trial_refusals, trial_refused, trial_passes, trial_fails, trial_simulated, trial_grades}
use Rattle.channel_io.specs.{FileConditions.{FileForm, number_file, of_contents, no_contents, JudgedText}, RegisterFiles.{register_file}}
use Rattle.channel_io.specs.FileRefusals.{pair_states, pair_table, pair_table_refusal, text_refusal}
use Rattle.channel_io.proofs.{Claims.{file_table_made, table_as}, TablePairs.{compile_as, setup_passed}}
use Rattle.channel_io.proofs.TextCalls.{listed_by as text_listed, call_first_by, call_by}
use Rattle.gurvazze_host.specs.Codes.{yield_code, code, verdict_code, answer_code, replay_code, told_values, told_top, setup_numbers}
use Rattle.gurvazze_host.specs.FileCalls.{played, pair_machine, table_call_refusal, file_replay_refusal, file_trial, file_trial_refusal}
use Rattle.gurvazze_host.specs.FileCalls.{table_answer, table_after, replay_answer, replay_after, file_trial_answer, file_trial_buffer}
use Rattle.gurvazze_host.specs.Claims.{TellsRefusal, TellsCount, TellsVerdict, TellsTable, ListedAnswer, file_replay_conditions, replay_order}
use Rattle.gurvazze_host.specs.Claims.{file_trial_conditions, JudgedReplay, TrialMade, TextConditions, TableMade, TableCall, ReplayMade, ReplayCall}
use Rattle.gurvazze_host.specs.Claims.{FileTrialMade, FileTrialCall, FileCallClaim, TrialCall, CompileMade, CompileCall, RuleCall, HostClaim}
use Rattle.gurvazze_host.proofs.Calls.{told_small}
use Rattle.gurvazze_host.proofs.Claims.{code_claim, compile_ordered, replay_ordered, trial_ordered, replay_claim, replay_first, file_trial_first}
use Rattle.gurvazze_host.proofs.Claims.{file_trial_claim}

-- A call's answer as a code, by its refusal and what it yields.
coded : (a : Option Refusal) (n : ℕ) → answer_code (answered a n) ≡ code a n
unfolding answer_code answered code
coded none n = refl
coded (some r) n = refl

judged_coded : (a : Option Refusal) → replay_code (judgement a) ≡ code a 0
unfolding replay_code judgement code
judged_coded none = refl
judged_coded (some r) = refl

-- Every refusal is of the list.
listed : (answer : Option Refusal) → ListedAnswer answer
listed answer r e = listed_refusal r

-- ---- an accepted trial

trial_made :
    (x : TrialInput) (old : List ℕ) → trial_refusal device_limit table_limit x old ≡ none →
    TrialMade x old (trial_buffer device_limit table_limit x old) (trial_answer device_limit table_limit x old)
trial_made x old z =
    record {
      passes = trial_simulated device_limit table_limit x old z;
      same = (trial_grades device_limit table_limit).same x old z;
      stricter = (trial_grades device_limit table_limit).stricter x old z;
      kept = (trial_passes device_limit table_limit).kept x old;
      fails = trial_fails device_limit table_limit x old;
    }

-- ---- gurvazze_trial_table, gurvazze_register_trial_table
module _ (x : TrialInput) (old new : List ℕ) (r : ℕ) (is_code : r ≡ verdict_code (trial_answer device_limit table_limit x old))
    (is_new : new ≡ trial_buffer device_limit table_limit x old) where
  abbrev verdict : Answer
  verdict = trial_answer device_limit table_limit x old

  same_refusal : refusal_of verdict ≡ trial_refusal device_limit table_limit x old
  same_refusal = (trial_refused device_limit table_limit).answer x old

  trial_call : TrialCall x old new r
  trial_call =
      let j = subst (Judged _) (sym same_refusal) (trial_refusals device_limit table_limit x old) in
      record {
        answer = verdict;
        judged = record { judged = j; kept = λ q e. is_new ∙ (trial_refused device_limit table_limit).kept x old q e };
        of_list = listed _;
        told =
            subst (TellsVerdict verdict) (sym is_code)
            (code_claim.verdicts verdict
            (λ n e. let f = trial_fails device_limit table_limit x old n e in (f.some_events, f.few_events)));
        made = λ z. subst (λ (l : List ℕ). TrialMade x old l verdict) (sym is_new) (trial_made x old (sym same_refusal ∙ z));
      }

-- ---- the calls on a text of any form, by the laws of its reader
module _ (F₀ : FileForm) (K : FormLaws F₀.Inside) where
  -- the form whose texts are those that the reader accepts
  abbrev F : FileForm
  F =
      record {
        Inside = F₀.Inside;
        Shown = K.Shows;
        text_of = F₀.text_of;
        tokens_of = F₀.tokens_of;
        setup_of = F₀.setup_of;
        nodes_of = F₀.nodes_of;
        Numbers = F₀.Numbers;
        numbers_of = F₀.numbers_of;
      }

  abbrev read : List ℕ → Outcome F.Inside
  read t = answer_to K t

  -- a refusal by the set-up and the nodes of contents
  abbrev by_pair : (Setup → List ℕ → Option Refusal) → F.Inside → Option Refusal
  by_pair refusal c = refusal (F.setup_of c) (F.nodes_of c)

  -- ---- the table
  module _ (t old new : List ℕ) (r : ℕ) (is_code : r ≡ answer_code (table_answer F (read t) old)) (is_new : new ≡ table_after F (read t) old) where
    abbrev table_refused : F.Inside → Option Refusal
    table_refused = by_pair (λ s nodes. table_call_refusal s nodes old)

    abbrev table_told : Option Refusal
    table_told = text_refusal table_refused (read t)

    table_first : (s : Setup) (nodes : List ℕ) → First (compile_conditions state_limit s nodes old) (table_call_refusal s nodes old)
    unfolding table_call_refusal
    table_first s nodes = subst (First _) (compile_as s nodes old) (compile_refusal_claim state_limit s nodes old).first

    table_kept : (x : Outcome F.Inside) (q : Refusal) → text_refusal table_refused x ≡ some q → table_after F x old ≡ old
    unfolding text_refusal table_after put_unless
    table_kept (refused p) q e = refl
    table_kept (contents c) q e = ap (λ (o : Option Refusal). put_unless o (pair_table (F.setup_of c) (F.nodes_of c)) old) e

    table_judged : JudgedText F t (λ s nodes. compile_conditions state_limit s nodes old) table_told old new
    table_judged =
        call_by K (λ c. compile_conditions state_limit (F.setup_of c) (F.nodes_of c) old) t table_refused (λ c. table_first (F.setup_of c) (F.nodes_of c))
        old new (λ c. (compile_ordered (F.setup_of c) (F.nodes_of c) old).behind_4) (λ c. (compile_ordered (F.setup_of c) (F.nodes_of c) old).placed)
        (λ q e. is_new ∙ table_kept (read t) q e)

    -- What is yielded, by what the reader says.
    table_yield : Outcome F.Inside → ℕ
    table_yield (refused p) = 0
    table_yield (contents c) = setup_numbers (F.setup_of c) (pair_states (F.setup_of c) (F.nodes_of c))

    table_coded : (x : Outcome F.Inside) → answer_code (table_answer F x old) ≡ code (text_refusal table_refused x) (table_yield x)
    unfolding table_answer text_refusal table_yield answer_code code
    table_coded (refused p) = refl
    table_coded (contents c) = coded _ _

    table_made : (x : Outcome F.Inside) → read t ≡ x → text_refusal table_refused x ≡ none → TableMade F t old new r
    unfolding text_refusal table_answer table_after put_unless table_call_refusal
    table_made (refused p) e z = absurd (some-ne-none (TextForm p) z)
    table_made (contents c) e z =
        let s = F.setup_of c in
        let nodes = F.nodes_of c in
        let ok = (or_else_none (pair_table_refusal s nodes) _ z).0 in
        let made = table_as s nodes ok (pair_states s nodes) refl in
        let coded : r ≡ code (table_call_refusal s nodes old) (setup_numbers s (pair_states s nodes)) =
        is_code ∙ ap (λ (o : Outcome F.Inside). answer_code (table_answer F o old)) e ∙ coded _ _ in
        record {
          inside = c;
          shown = (shown K t c e).1;
          states = pair_states s nodes;
          table = pair_machine s nodes;
          is_table = made.0;
          table_put =
              is_new ∙ ap (λ (o : Outcome F.Inside). table_after F o old) e ∙ ap (λ (o : Option Refusal). put_unless o (pair_table s nodes) old) z
              ∙ ap (λ (b : List ℕ). put b old) (sym made.1);
          numbers =
              subst (TellsTable s (pair_states s nodes))
              (sym (ap (λ (x : ℕ). x / 256) coded ∙ code_claim.yields _ _ z))
              (code_claim.numbers (pair_states s nodes) s.events (told_values s.kind) (told_top s.kind s.top)
              (told_small s (pair_states s nodes) (setup_passed s nodes ok) (file_table_made s nodes ok).few_states));
        }

    table_call : TableCall F t old new r
    table_call =
        record {
          answer = table_told;
          judged = table_judged;
          of_list = listed _;
          told =
              subst (TellsRefusal table_told) (sym (is_code ∙ table_coded (read t)))
              (code_claim.refusals table_told (table_yield (read t)));
          made = table_made (read t) refl;
        }

  -- ---- the replay
  module _ (t word old new : List ℕ) (r : ℕ) (is_code : r ≡ replay_code (replay_answer F (read t) word old))
      (is_new : new ≡ replay_after F (read t) word old) where
    abbrev replay_refused : F.Inside → Option Refusal
    replay_refused = by_pair (λ s nodes. file_replay_refusal s nodes word old)

    abbrev replay_told : Option Refusal
    replay_told = text_refusal replay_refused (read t)

    abbrev replay_conditions : F.Inside → List Condition
    replay_conditions c = file_replay_conditions word old (F.setup_of c) (F.nodes_of c)

    abbrev values_bytes : F.Inside → List ℕ
    values_bytes c = played (F.setup_of c).kind (F.setup_of c).events (pair_table (F.setup_of c) (F.nodes_of c)) word

    replay_kept : (x : Outcome F.Inside) (q : Refusal) → text_refusal replay_refused x ≡ some q → replay_after F x word old ≡ old
    unfolding text_refusal replay_after put_unless
    replay_kept (refused p) q e = refl
    replay_kept (contents c) q e = ap (λ (o : Option Refusal). put_unless o (values_bytes c) old) e

    replay_judged : (cs : List Condition) → TextConditions F t (file_replay_conditions word old) cs → JudgedReplay cs replay_told
    unfolding condition_numbers right_places has_place part_of replay_order
    replay_judged cs x =
        let first = call_first_by K replay_conditions t replay_refused (λ c. replay_first (F.setup_of c) (F.nodes_of c) word old) cs x in
        record { first = first; only = λ other y. first_unique cs other replay_told y first; ordered = in_order cs x; placed = in_place cs x }
      where
        in_order : (cs : List Condition) → TextConditions F t (file_replay_conditions word old) cs → part_of (condition_numbers cs) replay_order ≡ true
        in_order cs (of_contents c s) = (replay_ordered (F.setup_of c) (F.nodes_of c) word old).behind_4
        in_order cs (no_contents none_shown) = refl

        in_place : (cs : List Condition) → TextConditions F t (file_replay_conditions word old) cs → right_places cs ≡ true
        in_place cs (of_contents c s) = (replay_ordered (F.setup_of c) (F.nodes_of c) word old).placed
        in_place cs (no_contents none_shown) = refl

    replay_coded : (x : Outcome F.Inside) → replay_code (replay_answer F x word old) ≡ code (text_refusal replay_refused x) 0
    unfolding replay_answer text_refusal replay_code code
    replay_coded (refused p) = refl
    replay_coded (contents c) = judged_coded _

    replay_made : (x : Outcome F.Inside) → read t ≡ x → text_refusal replay_refused x ≡ none → ReplayMade F t word old new
    unfolding text_refusal replay_after put_unless
    replay_made (refused p) e z = absurd (some-ne-none (TextForm p) z)
    replay_made (contents c) e z =
        record {
          inside = c;
          shown = (shown K t c e).1;
          values = word_values (pair_machine (F.setup_of c) (F.nodes_of c)) 0 word;
          replayed = replay_claim (F.setup_of c) (F.nodes_of c) word old z;
          values_put =
              is_new ∙ ap (λ (o : Outcome F.Inside). replay_after F o word old) e ∙ ap (λ (o : Option Refusal). put_unless o (values_bytes c) old) z;
        }

    replay_call : ReplayCall F t word old new r
    unfolding code yield_code
    replay_call =
        record {
          answer = replay_told;
          listed = text_listed K replay_conditions t;
          judged = replay_judged;
          kept = λ q e. is_new ∙ replay_kept (read t) q e;
          of_list = listed _;
          told = subst (TellsRefusal replay_told) (sym (is_code ∙ replay_coded (read t))) (code_claim.refusals replay_told 0);
          yields_zero = λ z. is_code ∙ replay_coded (read t) ∙ ap (λ (o : Option Refusal). code o 0) z;
          made = replay_made (read t) refl;
        }

  -- ---- the trial
  module _ (t : List ℕ) (states start : ℕ) (device old new : List ℕ) (r : ℕ)
      (is_code : r ≡ verdict_code (file_trial_answer F (read t) states start device old))
      (is_new : new ≡ file_trial_buffer F (read t) states start device old) where
    abbrev file_refusal : F.Inside → Option Refusal
    file_refusal = by_pair (λ s nodes. file_trial_refusal s nodes states start device old)

    abbrev tried : F.Inside → TrialInput
    tried c = file_trial (F.setup_of c) (F.nodes_of c) states start device

    file_same : (x : Outcome F.Inside) → text_refusal file_refusal x ≡ refusal_of (file_trial_answer F x states start device old)
    unfolding text_refusal file_trial_answer
    file_same (refused p) = refl
    file_same (contents c) = sym (answered_refusal_is (file_refusal c) (found_answer (tried c)))

    file_kept : (x : Outcome F.Inside) (q : Refusal) → text_refusal file_refusal x ≡ some q → file_trial_buffer F x states start device old ≡ old
    unfolding text_refusal file_trial_buffer buffer_unless
    file_kept (refused p) q e = refl
    file_kept (contents c) q e = ap (λ (o : Option Refusal). buffer_unless o (first_failure (tried c)) old) e

    abbrev file_verdict : Answer
    file_verdict = file_trial_answer F (read t) states start device old

    file_judged : JudgedText F t (file_trial_conditions states start device old) (refusal_of file_verdict) old new
    file_judged =
        subst (λ (o : Option Refusal). JudgedText F t (file_trial_conditions states start device old) o old new) (file_same (read t))
        (call_by K (λ c. file_trial_conditions states start device old (F.setup_of c) (F.nodes_of c)) t file_refusal
        (λ c. file_trial_first (F.setup_of c) (F.nodes_of c) states start device old) old new
        (λ c. (trial_ordered (F.setup_of c) (F.nodes_of c) states start device old).behind_4)
        (λ c. (trial_ordered (F.setup_of c) (F.nodes_of c) states start device old).placed) (λ q e. is_new ∙ file_kept (read t) q e))

    -- Where nothing is refused, it is the trial of the device against the table of the file's rule.
    module _ (c : F.Inside) (z : file_refusal c ≡ none) where
      inner : trial_refusal device_limit table_limit (tried c) old ≡ none
      unfolding file_trial_refusal
      inner = (or_else_none (pair_table_refusal (F.setup_of c) (F.nodes_of c)) _ z).1

      same_verdict : file_trial_answer F (contents c) states start device old ≡ trial_answer device_limit table_limit (tried c) old
      unfolding file_trial_answer trial_answer
      same_verdict = ap (λ (o : Option Refusal). answered o (found_answer (tried c))) (z ∙ sym inner)

      same_buffer : file_trial_buffer F (contents c) states start device old ≡ trial_buffer device_limit table_limit (tried c) old
      unfolding file_trial_buffer trial_buffer
      same_buffer = ap (λ (o : Option Refusal). buffer_unless o (first_failure (tried c)) old) (z ∙ sym inner)

    file_fails :
        (y : Outcome F.Inside) (n : ℕ) → word_length (file_trial_answer F y states start device old) ≡ some n → (1 ≤ n) × (n ≤ word_limit)
    unfolding file_trial_answer found_answer
    file_fails (refused p) n e = absurd (some-ne-none n (sym e))
    file_fails (contents c) n e =
        let z = (failed_some (file_refusal c) (first_failure (tried c)) (ends_same (tried c)) n e).0 in
        let f = trial_fails device_limit table_limit (tried c) old n (sym (ap word_length (same_verdict c z)) ∙ e) in
        (f.some_events, f.few_events)

    file_made : (y : Outcome F.Inside) → read t ≡ y → text_refusal file_refusal y ≡ none → FileTrialMade F t states start device old new file_verdict
    unfolding text_refusal file_trial_refusal
    file_made (refused p) e z = absurd (some-ne-none (TextForm p) z)
    file_made (contents c) e z =
        let s = F.setup_of c in
        let nodes = F.nodes_of c in
        let ok = (or_else_none (pair_table_refusal s nodes) _ z).0 in
        let v : file_verdict ≡ trial_answer device_limit table_limit (tried c) old =
        ap (λ (o : Outcome F.Inside). file_trial_answer F o states start device old) e ∙ same_verdict c z in
        let b : new ≡ trial_buffer device_limit table_limit (tried c) old =
        is_new ∙ ap (λ (o : Outcome F.Inside). file_trial_buffer F o states start device old) e ∙ same_buffer c z in
        let table = (table_as s nodes ok (pair_states s nodes) refl).0 in
        let claim = file_trial_claim s nodes states start device old z in
        let rule_is : claim.rule ≡ table.formula = table.only claim.rule claim.rule_is.written in
        record {
          inside = c;
          shown = (shown K t c e).1;
          rule_states = pair_states s nodes;
          table = pair_table s nodes;
          is_table = table;
          made = subst₂ (λ (l : List ℕ) (w : Answer). TrialMade (tried c) old l w) (sym b) (sym v) (trial_made (tried c) old (inner c z));
          satisfies =
              subst₂ (λ (w : Answer) (φ : Formula ℕ). Passed w ↔ TableSatisfies (setup_meet s) states (machine_of s.kind s.events device) φ start)
              (sym v) rule_is claim.passes;
        }

    file_trial_call : FileTrialCall F t states start device old new r
    file_trial_call =
        record {
          answer = file_verdict;
          judged = file_judged;
          of_list = listed _;
          told =
              subst (TellsVerdict file_verdict) (sym is_code)
              (code_claim.verdicts file_verdict (file_fails (read t)));
          made = λ z. file_made (read t) refl (file_same (read t) ∙ z);
        }

  file_call_claim : FileCallClaim F read
  file_call_claim = record { table = table_call; replay = replay_call; trial = file_trial_call }

-- ---- calls that count what they make
module _ (cs : List Condition) (a : Option Refusal) (n : ℕ) (output old new : List ℕ) (r : ℕ) (is_code : r ≡ answer_code (answered a n))
    (is_new : new ≡ put_unless a output old) (j : Judged cs a) where
  count_judged : JudgedCall cs (refusal_of (answered a n)) old new
  count_judged = answered_judged a n output old refl is_new j

  count_told : TellsCount (answered a n) r
  count_told = subst (TellsCount (answered a n)) (sym is_code) (code_claim.counts (answered a n))

-- ---- gurvazze_compile, gurvazze_register_compile
module _ (s : Setup) (rule old new : List ℕ) (r : ℕ) (is_code : r ≡ answer_code (compile_answer state_limit s rule old))
    (is_new : new ≡ compile_contents state_limit s rule old) where
  abbrev compile_refused : Option Refusal
  compile_refused = compile_refusal state_limit s rule old

  abbrev compile_states : ℕ
  compile_states = setup_states state_limit s rule

  abbrev compile_bytes : List ℕ
  compile_bytes = table_bytes (entry_bytes s.kind) s.events (setup_table state_limit s rule) compile_states

  compile_put : new ≡ put_unless compile_refused compile_bytes old
  compile_put = is_new ∙ contents_at state_limit s rule old _ refl

  compile_made : compile_refused ≡ none → CompileMade s rule old new (compile_answer state_limit s rule old)
  unfolding answered put_unless
  compile_made z =
      record {
        states = compile_states;
        table = setup_table state_limit s rule;
        is_table = printed_table s rule compile_states _ (made_table state_limit s rule old z);
        count_is = ap (λ (o : Option Refusal). yield_of (answered o compile_states)) z;
        table_put = compile_put ∙ ap (λ (o : Option Refusal). put_unless o compile_bytes old) z;
      }

  compile_call : CompileCall s rule old new r
  compile_call =
      let j = compile_refusal_claim state_limit s rule old in
      record {
        answer = compile_answer state_limit s rule old;
        judged = count_judged _ compile_refused compile_states compile_bytes old new r is_code compile_put j;
        of_list = listed _;
        told = count_told _ compile_refused compile_states compile_bytes old new r is_code compile_put j;
        made = λ z. compile_made (sym (answered_refusal_is compile_refused compile_states) ∙ z);
      }

-- ---- gurvazze_rule, gurvazze_register_rule
module _ (s : Setup) (states start : ℕ) (table old new : List ℕ) (r : ℕ)
    (is_code : r ≡ answer_code (write_answer table_limit node_limit s states start table old))
    (is_new : new ≡ write_contents table_limit node_limit s states start table old) where
  abbrev rule_refused : Option Refusal
  rule_refused = write_refusal table_limit node_limit s states start table (length old)

  abbrev nodes : ℕ
  nodes = size (rule_of s states start table)

  abbrev rule_bytes : List ℕ
  rule_bytes = encode_formula (node_bytes s.kind) (rule_of s states start table)

  rule_call : RuleCall s states start table old new r
  unfolding write_answer write_contents
  rule_call =
      let j = write_refusal_claim table_limit node_limit s states start table (length old) in
      record {
        answer = answered rule_refused nodes;
        judged = count_judged _ rule_refused nodes rule_bytes old new r is_code is_new j;
        of_list = listed _;
        told = count_told _ rule_refused nodes rule_bytes old new r is_code is_new j;
        made = λ z.
            let w = written_claim s states start table old (sym (answered_refusal_is rule_refused nodes) ∙ z) in
            record {
              rule = w.rule;
              rule_written = w.rule_written;
              count_is = ap yield_of w.count_is_size;
              nodes_put = is_new ∙ w.bytes_put;
            };
      }

pub host_claim : HostClaim
host_claim =
    record {
      codes = code_claim;
      gurvazze_file = file_call_claim number_file channel_form;
      gurvazze_register_file = file_call_claim register_file register_form;
      gurvazze_compile = compile_call;
      gurvazze_trial_table = trial_call;
      gurvazze_rule = rule_call;
    }
