-- What the program prints for a text (document 01, "Channel file"; document 02, F-7). For any form of files.
use Rattle.std.specs.Prelude.{ℕ, ◌≤◌, ◌<◌, Option, Some, None, length}
use mathlib.Core.{List.{List, [], ◌∷◌}, Option.{none, some}}
use Rattle.limits.specs.Limits.{file_limit}
use Rattle.theory.specs.MealyMachine.{Machine}
use Rattle.refusal.specs.{declared.Refusal.{Refusal, TheVariants.{BufferLength, TextForm}}, Refusal.{Condition, plain, First, refusal_number, refusal_place}}
use Rattle.text_format.specs.Texts.{ascii, numeral, separated}
use Rattle.synthesis.specs.TableOfRule.{pair_table_conditions, IsRuleTable}
use Rattle.channel_file.specs.ChannelFile.{line, RefusedBy}
use Rattle.channel_io.specs.FileConditions.{FileForm}
use Rattle.table_rows.specs.TableText.{table_text}

-- "The single line `refused=` with the number and, if there is a place, a space and the place."
unfoldable pub refusal_line : ℕ → Option ℕ → List ℕ
refusal_line number None = line (ascii "refused=") (numeral number)
refusal_line number (Some place) = line (ascii "refused=") (separated (numeral number ∷ numeral place ∷ []))

abbrev pub refusal_text : Refusal → List ℕ
refusal_text refusal = refusal_line (refusal_number refusal) (refusal_place refusal)

module _ (F : FileForm) where
  -- The refusal, by 4, those of a set-up and 5 to 10 in this order, or the table of the text's rule.
  pub data Prints (t : List ℕ) : List ℕ → Type 0 where
    off_form : (p : ℕ) → RefusedBy F.Shown t p → Prints t (refusal_text (TextForm p))
    refused : (c : F.Inside) (r : Refusal) → length t ≤ file_limit → F.Shown c t → First (pair_table_conditions (F.setup_of c) (F.nodes_of c)) (some r) →
        Prints t (refusal_text r)
    table : (c : F.Inside) (n : ℕ) (m : Machine ℕ ℕ) → length t ≤ file_limit → F.Shown c t →
        First (pair_table_conditions (F.setup_of c) (F.nodes_of c)) none → IsRuleTable (F.setup_of c) (F.nodes_of c) n m →
        Prints t (table_text (F.setup_of c).kind (F.setup_of c).events n m)

  -- 13, where the lent buffer is shorter than what is printed.
  abbrev pub report_conditions : List ℕ → List ℕ → List Condition
  report_conditions t old = plain BufferLength ((s : List ℕ) × Prints t s × (length old < length s)) ∷ []
