-- What is printed for a text, put into a lent buffer: by the documents' definitions alone, for any form of files.
use Prim.Native.Nat.{ℕ, ◌<◌}
use mathlib.Core.{Path.{◌≡◌, refl, ap}, List.{List}, Bool.{Bool, true, false}, Option.{Option, none, some}}
use native.Mathlib.Omega.{arith}
use lib.{Dec.{leb}, ListN.{length}}
use borrow.Author.Tests.{leb-true, leb-false}
use Rattle.refusal.specs.{declared.Refusal.{Refusal}, declared.Refusal.TheVariants.{BufferLength}}
use Rattle.refusal.specs.RefusalAnswers.{or_else}
use Rattle.refusal.specs.Refusal.{put, First, has_place, part_of, order, condition_numbers, right_places, JudgedCall, refusal_of, yield_of}
use Rattle.refusal.proofs.{Refusals.{plain_first, judged}, Answers.{answered_judged, answered_put}}
use Rattle.channel_io.specs.FileConditions.{FileForm}
use Rattle.table_rows.specs.Rendering.{rendering_refusal}
use Rattle.table_report.specs.{PrintedTable.{Prints, report_conditions}, Report.{ReportsText}, Claims.{ReportsAs}}
use Rattle.std.specs.Prelude.{Result}

module _ {F : FileForm} {printed_for : List ℕ → List ℕ} {limit : ℕ} (k : ReportsAs F printed_for limit) where
  module _ (t old : List ℕ) where
    abbrev Short : Type 0
    Short = (s : List ℕ) × Prints F t s × (length old < length s)

    abbrev room : Bool
    room = leb (length (printed_for t)) (length old)

    text_short : room ≡ false → Short
    text_short e = (printed_for t, k.prints t, leb-false (length (printed_for t)) (length old) e)

    text_room : room ≡ true → ¬ Short
    text_room e (s, x, h) = let l = leb-true (length (printed_for t)) (length old) e in omega (arith, ap length (k.only t s x))

    -- 13, and nothing before it
    abbrev answer : Option Refusal
    answer = rendering_refusal none (printed_for t) (length old)

    report_first : First (report_conditions F t old) answer
    unfolding rendering_refusal or_else
    report_first = plain_first BufferLength Short room text_short text_room

  pub reporting : (t old new : List ℕ) (r : Result ℕ Refusal) → ReportsText (printed_for t) limit old new r
      → JudgedCall (report_conditions F t old) (refusal_of r) old new
  unfolding has_place part_of order condition_numbers right_places
  reporting t old new r w =
      answered_judged (answer t old) (length (printed_for t)) (printed_for t) old w.rendered.answer w.rendered.buffer
      (judged (report_conditions F t old) (answer t old) (report_first t old) refl refl)

  pub file_to_report :
      (t old new : List ℕ) (r : Result ℕ Refusal) → ReportsText (printed_for t) limit old new r → (n : ℕ) → yield_of r ≡ some n →
      (s : List ℕ) × Prints F t s × ((other : List ℕ) → Prints F t other → other ≡ s) × (n ≡ length s) × (new ≡ put s old)
  file_to_report t old new r w n is =
      let a = answered_put (answer t old) (length (printed_for t)) (printed_for t) old w.rendered.answer w.rendered.buffer n is in
      (printed_for t, k.prints t, k.only t, a.1, a.2)
