-- The table of a channel file's rule by one call: its conditions, and what an accepted call yields. For any form of files.
use Rattle.std.specs.Prelude.{ℕ, ◌<◌, length}
use mathlib.Core.{List.{List, [], ◌∷◌, ◌++◌}, Path.{◌≡◌}}
use Rattle.refusal.specs.{Refusal.{Condition, plain, put}, declared.Refusal.TheVariants.{BufferLength}}
use Rattle.values.specs.Setup.{Setup, setup_meet, setup_top}
use Rattle.formulas.specs.RuleConditions.{node_bytes, OfFormula}
use Rattle.synthesis.specs.TableOfRule.{pair_table_conditions, TableShort, IsRuleTable}
use Rattle.theory.specs.MealyMachine.{Machine}
use Rattle.machines.specs.TableBytes.{table_bytes, entry_bytes}
use Rattle.channel_io.specs.FileConditions.{FileForm}

-- 13: a lent buffer shorter than the output, that for the meet entries, of which a register has none, or that for the table.
pub data CompileShort (s : Setup) (nodes meet to : List ℕ) : Type 0 where
  short_entries : length meet < length s.meet → CompileShort s nodes meet to
  short_table :
      OfFormula (node_bytes s.kind) nodes (λ φ. TableShort (setup_meet s) (setup_top s) s.events s.kind φ to) → CompileShort s nodes meet to

-- The conditions of making the table of a text with this set-up and these nodes.
abbrev pub file_conditions : List ℕ → List ℕ → Setup → List ℕ → List Condition
file_conditions meet to s nodes = pair_table_conditions s nodes ++ (plain BufferLength (CompileShort s nodes meet to) ∷ [])

-- An accepted call yields the numbers of the file, its meet entries, and the table of its rule.
pub record MakesTableOf (F : FileForm) (t meet to meet' to' : List ℕ) (found : F.Numbers) (states : ℕ) : Type 0 where
  pub contents : F.Inside
  pub shown : F.Shown contents t
  pub numbers_are : found ≡ F.numbers_of contents
  pub meet_put : meet' ≡ put (F.setup_of contents).meet meet
  pub table : Machine ℕ ℕ
  pub is_table : IsRuleTable (F.setup_of contents) (F.nodes_of contents) states table
  pub table_put : to' ≡ put (table_bytes (entry_bytes (F.setup_of contents).kind) (F.setup_of contents).events table states) to
