-- What is printed, from the answers of the compiler of a file, of any form; and what a caller knows.
use Prim.Native.Nat.{ℕ, ◌≤◌}
use mathlib.Core.{Path.{◌≡◌, refl, sym, ap, ap₂, ◌∙◌}, List.{List}, Option.{Option, none}}
use native.Mathlib.Omega.{arith}
use lib.ListN.{length}
use Rattle.refusal.specs.declared.{Refusal.{Refusal}}
use Rattle.refusal.proofs.Refusals.{answered_accepted}
use Rattle.values.specs.declared.ValueKind.{ValueKind}
use Rattle.values.specs.Setup.{Setup}
use Rattle.text_format.specs.Format.{Outcome}
use Rattle.channel_io.specs.{FileConditions.{FileForm}, Claims.{table_room}, FileRefusals.{pair_states, pair_table, pair_table_refusal}}
use Rattle.channel_io.proofs.Callers.{table_fits, Unmade, off_form, turned_away, MadeOf}
use Rattle.table_rows.specs.{Rendering.{handed_refusal, Renders}, Rows.{rows_text}}
use Rattle.table_rows.proofs.Renderings.{renders_as}
use Rattle.table_report.specs.{PrintedTable.{refusal_text}, Report.{answer_text, outcome_text, ReportsText}, Claims.{ReportsAs}}
use Rattle.table_report.proofs.Tables.{handed_passed}
use Rattle.std.specs.Prelude.{Ok, Result}

module _ {F : FileForm} {read : List ℕ → Outcome F.Inside} {limit : ℕ} (k : ReportsAs F (λ t. outcome_text F (read t)) limit) where
  -- a file that was refused, where the meet entries and the table had room
  module _ {t meet to : List ℕ}
      (wide : (c : F.Inside) → pair_table_refusal (F.setup_of c) (F.nodes_of c) ≡ none → length (F.setup_of c).meet ≤ length meet)
      (room : (c : F.Inside) → table_room (F.setup_of c).kind ≤ length to) where
    refused_text : {r : Refusal} → Unmade F read t meet to r → refusal_text r ≡ outcome_text F (read t)
    unfolding outcome_text answer_text
    refused_text (off_form p e) = sym (ap (outcome_text F) e)
    refused_text (turned_away c r e f) =
        sym (ap (outcome_text F) e
        ∙ ap (λ (o : Option Refusal). answer_text o (F.setup_of c) (F.nodes_of c))
        (sym (table_fits (F.setup_of c) (F.nodes_of c) meet to (wide c) (room c)) ∙ f))

    pub refused_reports : {old new : List ℕ} {r : Refusal} {answer : Result ℕ Refusal} → Unmade F read t meet to r
        → Renders none (refusal_text r) old new answer → ReportsText (outcome_text F (read t)) limit old new answer
    refused_reports w h = record { rendered = renders_as refl (refused_text w) h; within = k.within t }

  -- a file whose table was made, by its numbers and the table
  module _ {t meet to meet' to' : List ℕ} {n : F.Numbers} {states : ℕ} (w : MadeOf F read t meet to meet' to' n states) where
    abbrev s : Setup
    s = F.setup_of w.inside

    abbrev nodes : List ℕ
    nodes = F.nodes_of w.inside

    pub made_reports : {events : ℕ} {kind : ValueKind} {bytes old new : List ℕ} {answer : Result ℕ Refusal}
        → events ≡ s.events → kind ≡ s.kind → bytes ≡ pair_table s nodes
        → Renders (handed_refusal events kind 0 states bytes) (rows_text events kind states bytes) old new answer
        → ReportsText (outcome_text F (read t)) limit old new answer
    unfolding outcome_text answer_text
    made_reports {events} {kind} {bytes} events_are kind_is table_is h =
        record {
          rendered =
              renders_as (same (λ e v j b. handed_refusal e v 0 j b) ∙ handed_passed s nodes w.passed)
              (same rows_text
              ∙ sym (ap (outcome_text F) w.reads ∙ ap (λ (o : Option Refusal). answer_text o s nodes) w.passed))
              h;
          within = k.within t;
        }
      where
        same : {A : Type 0} (f : ℕ → ValueKind → ℕ → List ℕ → A)
            → f events kind states bytes ≡ f s.events s.kind (pair_states s nodes) (pair_table s nodes)
        same f = ap₂ (λ (e : ℕ) (v : ValueKind). f e v states bytes) events_are kind_is ∙ ap₂ (f s.events s.kind) w.states_are table_is

-- what a caller with a buffer of the limit's length knows
pub count_within : {s old new : List ℕ} {limit : ℕ} {r : Result ℕ Refusal} {n : ℕ} → ReportsText s limit old new r → limit ≤ length old → r ≡ Ok n
    → n ≤ length old
count_within {s} {n = n} k h e =
    let d = (answered_accepted _ (length s) n (sym k.rendered.answer ∙ e)).1 in
    omega (arith, k.within)
