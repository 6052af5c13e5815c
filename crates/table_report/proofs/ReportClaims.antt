-- What is printed for a text is what document 01 asks for, whatever the form of files.
use Prim.Native.Nat.{ℕ, ◌*◌, ◌/◌, ◌%◌, ◌≤◌, ◌<◌}
use mathlib.Core.{Path.{◌≡◌, refl, sym, ap, ap₂, ◌∙◌, subst}, List.{List, ◌++◌}, Option.{Option, none, some}}
use native.Mathlib.{Omega.{arith}, Nat.{mod-lt, div-lt_iff_lt-mul}}
use Rattle.theory.specs.{Formula.{Formula}, MealyMachine.{Machine}, DemandSets.{set_machine, first_set}, ReachableStates.{IsTableOf}}
use Rattle.theory.proofs.{Claims.{numbering}, SetMachine.{table_of_iff}}
use Rattle.refusal.specs.declared.Refusal.{Refusal}
use Rattle.refusal.specs.Refusal.{First}
use Rattle.values.specs.declared.ValueKind.{ValueKind}
use Rattle.values.specs.Setup.{Setup, ValueIn, setup_meet, setup_top}
use Rattle.text_format.specs.Format.{Outcome, contents, refused}
use Rattle.text_format.specs.Texts.{ascii, numeral}
use Rattle.text_output.proofs.Outputs.{each_same}
use Rattle.channel_file.specs.{ChannelFile.{line}, Reading.{AnswersBy, read_file}, Claims.{AnswerOf, OneAnswerOf}}
use Rattle.channel_file.specs.RegisterReading.{read_file as read_register_file}
use Rattle.channel_file.proofs.{Claims.{answer_claim, one_answer_claim}, RegisterClaims.{register_claim}}
use Rattle.machines.specs.TableBytes.{machine_of}
use Rattle.synthesis.specs.TableOfRule.{pair_table_conditions, IsRuleTable}
use Rattle.synthesis.proofs.CompileClaims.{printed_table}
use Rattle.channel_io.specs.{FileConditions.{FileForm, number_file}, RegisterFiles.{register_file}}
use Rattle.channel_io.specs.FileRefusals.{pair_states, pair_table, pair_table_refusal}
use Rattle.channel_io.proofs.{Claims.{contents_table_claim, file_table_made}, TablePairs.{setup_passed}}
use Rattle.table_rows.specs.{TableText.{row_line, entry_line, table_text}, Rows.{rows_text, rows_room}}
use Rattle.table_report.specs.PrintedTable.{Prints, off_form, refused as was_refused, table}
use Rattle.table_report.specs.Report.{answer_text, outcome_text, report_limit, register_report_limit}
use Rattle.table_report.specs.Claims.{ReportsAs, OneReportClaim}
use Rattle.table_report.proofs.Tables.{outcome_length}

-- ---- a set-up and the nodes of a rule
module _ (s : Setup) (nodes : List ℕ) where
  first_is : (x : Option Refusal) → pair_table_refusal s nodes ≡ x → First (pair_table_conditions s nodes) x
  first_is x e = subst (First (pair_table_conditions s nodes)) e (contents_table_claim s nodes).first

  refusal_is : (x : Option Refusal) → First (pair_table_conditions s nodes) x → pair_table_refusal s nodes ≡ x
  refusal_is x f = sym ((contents_table_claim s nodes).only x f)

  abbrev meet : ℕ → ℕ → ℕ
  meet = setup_meet s

  abbrev top : ℕ
  top = setup_top s

  abbrev events : ℕ
  events = s.events

  abbrev kind : ValueKind
  kind = s.kind

  -- they have one table, and so one text of it
  one_table : (k : ℕ) (u : Machine ℕ ℕ) → pair_table_refusal s nodes ≡ none → IsRuleTable s nodes k u
      → rows_text events kind (pair_states s nodes) (pair_table s nodes) ≡ table_text kind events k u
  unfolding table_text
  one_table k u passed y =
      let n = pair_states s nodes in
      let t = machine_of kind events (pair_table s nodes) in
      let x = (file_table_made s nodes passed).table in
      let some_events = (setup_passed s nodes passed).some_events in
      let φ = x.formula in
      let well = x.code.accepted.well_formed in
      let same = (numbering (ValueIn kind) meet top events _ (set_machine meet top φ) (first_set φ)).1 n k t u
      ((table_of_iff meet top φ well.guarded events n t).0 x.is_table)
      ((table_of_iff meet top φ well.guarded events k u).0
      (subst (λ (χ : Formula ℕ). IsTableOf meet top events χ k u) (x.only y.formula y.code) y.is_table)) in
      ap (λ (rows : List ℕ). line (ascii "events=") (numeral events) ++ (line (ascii "states=") (numeral n) ++ rows))
      (each_same (entry_line kind events t) (entry_line kind events u) (n * events) 0 (λ i low high.
      let l : i / events < n = (div-lt_iff_lt-mul some_events).1 (omega arith) in
      let e : i % events < events = mod-lt i some_events in
      ap₂ (row_line kind (i / events) (i % events)) (same.1 (i / events) (i % events) l e).0 (same.1 (i / events) (i % events) l e).1))
      ∙ ap (λ (m : ℕ). table_text kind events m u) same.0

-- ---- a form of files, with the answer to a text
module _ (F : FileForm) (read : List ℕ → Outcome F.Inside) (answer : AnswerOf F.Shown read) (one_answer : OneAnswerOf F.Shown read) where
  module _ (t : List ℕ) where
    printed : (x : Outcome F.Inside) → AnswersBy F.Shown t x → Prints F t (outcome_text F x)
    unfolding outcome_text answer_text
    printed (refused p) a = off_form p a
    printed (contents c) a = go (pair_table_refusal (F.setup_of c) (F.nodes_of c)) refl
      where
        go : (o : Option Refusal) → pair_table_refusal (F.setup_of c) (F.nodes_of c) ≡ o → Prints F t (answer_text o (F.setup_of c) (F.nodes_of c))
        go (some r) e = was_refused c r a.0 a.1 (first_is (F.setup_of c) (F.nodes_of c) (some r) e)
        go none e =
            table c _ _ a.0 a.1 (first_is (F.setup_of c) (F.nodes_of c) none e)
            (printed_table (F.setup_of c) (F.nodes_of c) _ _ (file_table_made (F.setup_of c) (F.nodes_of c) e).table)

    -- nothing else is printed
    printed_as : (c : F.Inside) (x : Option Refusal) → AnswersBy F.Shown t (contents c) → pair_table_refusal (F.setup_of c) (F.nodes_of c) ≡ x
        → answer_text x (F.setup_of c) (F.nodes_of c) ≡ outcome_text F (read t)
    unfolding outcome_text
    printed_as c x a e =
        sym (ap (outcome_text F) (one_answer t (read t) (contents c) (answer t) a)
        ∙ ap (λ (z : Option Refusal). answer_text z (F.setup_of c) (F.nodes_of c)) e)

    only : (s : List ℕ) → Prints F t s → s ≡ outcome_text F (read t)
    unfolding outcome_text answer_text
    only s (off_form p h) = sym (ap (outcome_text F) (one_answer t (read t) (refused p) (answer t) h))
    only s (was_refused c r l a x) = printed_as c (some r) (l, a) (refusal_is (F.setup_of c) (F.nodes_of c) (some r) x)
    only s (table c n m l a x y) =
        let e = refusal_is (F.setup_of c) (F.nodes_of c) none x in
        sym (one_table (F.setup_of c) (F.nodes_of c) n m e y) ∙ printed_as c none (l, a) e

  reports_as : (limit : ℕ) → 50 ≤ limit → ((c : F.Inside) → rows_room (F.setup_of c).kind ≤ limit) → ReportsAs F (λ t. outcome_text F (read t)) limit
  reports_as limit some_room room =
      record { prints = λ t. printed t (read t) (answer t); only = only; within = λ t. outcome_length F limit some_room room (read t) }

-- ---- document 01's file, and a register's
pub one_report_claim : OneReportClaim
one_report_claim =
    record {
      numbers = reports_as number_file read_file answer_claim one_answer_claim report_limit (omega arith) (λ c. omega arith);
      registers =
          reports_as register_file read_register_file register_claim.answer register_claim.one_answer register_report_limit (omega arith)
          (λ c. omega arith);
    }
