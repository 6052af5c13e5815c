-- The table of a file's rule passes as a table handed in, and what is printed has room; for any form of files.
use Prim.Native.Nat.{ℕ, ◌≤◌}
use mathlib.Core.{Path.{◌≡◌, refl}, Bool.{true}, List.{List}, Option.{Option, none, some}}
use native.Mathlib.Omega.{arith}
use lib.{Dec.{leb}, ListN.{length}}
use borrow.Author.Tests.{lt-ltb}
use Rattle.limits.specs.Limits.{value_limit}
use Rattle.theory.proofs.ValueSets.{and_both, and_left, and_right}
use Rattle.refusal.specs.{declared.Refusal.{Refusal}, declared.Refusal.TheVariants.{SetupValues, TextForm}}
use Rattle.refusal.specs.RefusalAnswers.{plain_unless}
use Rattle.refusal.proofs.Refusals.{or_else_none, plain_none}
use Rattle.values.specs.declared.ValueKind.{ValueKind}
use Rattle.values.specs.declared.ValueKind.TheVariants.{Numbered, Register}
use Rattle.values.specs.{Setup.{Setup, setup_of_kind}, SetupTests.{values_test, kind_refusal, setup_refusal}}
use Rattle.values.proofs.Setups.{accepted_events, kind_passed, top_below}
use Rattle.text_format.specs.Format.{Outcome, contents, refused}
use Rattle.channel_io.specs.{FileConditions.{FileForm}, FileRefusals.{pair_states, pair_table, pair_table_refusal}}
use Rattle.channel_io.proofs.Claims.{file_table_accepted}
use Rattle.table_rows.specs.{Rendering.{count_refusal, handed_refusal}, Rows.{rows_room}}
use Rattle.table_rows.proofs.Renderings.{counts_none, handed_none, rows_length}
use Rattle.table_report.specs.Report.{answer_text, outcome_text}
use Rattle.table_report.proofs.Texts.{refusal_length}

-- 0 is a top wherever there is one
zero_top : (values top : ℕ) → values_test values top ≡ true → values_test values 0 ≡ true
unfolding values_test
zero_top values top e =
    and_both (and_left (leb 1 values) _ e)
    (and_both (and_left (leb values value_limit) _ (and_right (leb 1 values) _ e))
    (lt-ltb 0 values (let h = top_below values top e in omega arith)))

-- the numbers of an accepted set-up pass, with 0 for a top
counts_passed : (events : ℕ) (kind : ValueKind) (top : ℕ) (meet : List ℕ) → setup_refusal (setup_of_kind events kind top meet) ≡ none
    → count_refusal events kind 0 ≡ none
unfolding count_refusal kind_refusal setup_refusal
counts_passed events (Numbered values) top meet e =
    let s = setup_of_kind events (Numbered values) top meet in
    counts_none events values 0 (accepted_events s e)
    (zero_top values top (plain_none _ SetupValues (or_else_none (plain_unless (values_test values top) SetupValues) _ (kind_passed s e)).0))
counts_passed events (Register lines) top meet e = e

module _ (s : Setup) (nodes : List ℕ) where
  pub handed_passed : pair_table_refusal s nodes ≡ none → handed_refusal s.events s.kind 0 (pair_states s nodes) (pair_table s nodes) ≡ none
  unfolding pair_table_refusal
  handed_passed passed =
      handed_none s.events s.kind 0 (pair_states s nodes) (pair_table s nodes)
      (counts_passed s.events s.kind s.top s.meet (or_else_none (setup_refusal s) _ passed).0) (file_table_accepted s nodes passed)

  answer_length : length (answer_text (pair_table_refusal s nodes) s nodes) ≤ rows_room s.kind
  unfolding answer_text
  answer_length = go (pair_table_refusal s nodes) refl
    where
      -- the line of a refusal has room wherever rows have
      short : (kind : ValueKind) → 50 ≤ rows_room kind
      short (Numbered values) = omega arith
      short (Register lines) = omega arith

      go : (o : Option Refusal) → pair_table_refusal s nodes ≡ o → length (answer_text o s nodes) ≤ rows_room s.kind
      go none e = rows_length s.events s.kind (pair_states s nodes) (pair_table s nodes) (handed_passed e)
      go (some r) e = omega (arith, refusal_length r, short s.kind)

pub outcome_length : (F : FileForm) (limit : ℕ) → 50 ≤ limit → ((c : F.Inside) → rows_room (F.setup_of c).kind ≤ limit)
    → (x : Outcome F.Inside) → length (outcome_text F x) ≤ limit
unfolding outcome_text
outcome_length F limit some_room room (refused p) = omega (arith, refusal_length (TextForm p))
outcome_length F limit some_room room (contents c) = omega (arith, answer_length (F.setup_of c) (F.nodes_of c), room c)
