-- The line of a refusal, piece by piece, and how long it is.
use Prim.Native.Nat.{ℕ, ◌≤◌}
use mathlib.Core.{Path.{◌≡◌, sym, ap, ap₂, ◌∙◌}, List.{List, [], ◌∷◌, ◌++◌, append_assoc}}
use native.Mathlib.Omega.{arith}
use lib.ListN.{length, length-append}
use Rattle.refusal.specs.{declared.Refusal.{Refusal}, Refusal.{refusal_number, refusal_place}}
use Rattle.text_format.specs.Texts.{ascii, numeral}
use Rattle.text_output.proofs.Outputs.{numeral_length}
use Rattle.channel_file.specs.ChannelFile.{line}
use Rattle.table_rows.proofs.Texts.{line_length}
use Rattle.table_report.specs.PrintedTable.{refusal_line, refusal_text}
use Rattle.std.specs.Prelude.{Option, Some, None}

-- the line by its number and its place
pub number_parts : {n number : ℕ} {place : Option ℕ} → n ≡ number → place ≡ None → line (ascii "refused=") (numeral n) ≡ refusal_line number place
unfolding refusal_line
number_parts d e = ap₂ refusal_line d (sym e)

pub place_parts : {n p number : ℕ} {place : Option ℕ} → n ≡ number → place ≡ Some p
    → (ascii "refused=" ++ numeral n) ++ line (ascii " ") (numeral p) ≡ refusal_line number place
unfolding refusal_line
place_parts {n} {p} d e =
    ap (λ (s : List ℕ). ascii "refused=" ++ s) (sym (append_assoc (numeral n) (32 ∷ numeral p) (10 ∷ []))) ∙ ap₂ refusal_line d (sym e)

pub refusal_length : (r : Refusal) → length (refusal_text r) ≤ 50
unfolding refusal_line
refusal_length r = go (refusal_number r) (refusal_place r)
  where
    go : (number : ℕ) (place : Option ℕ) → length (refusal_line number place) ≤ 50
    go number None = omega (arith, line_length (ascii "refused=") (numeral number), numeral_length number)
    go number (Some p) =
        omega (
          arith,
          line_length (ascii "refused=") (numeral number ++ (32 ∷ numeral p)),
          length-append (numeral number) (32 ∷ numeral p),
          numeral_length number,
          numeral_length p,
        )
