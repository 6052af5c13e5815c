-- The answers to reading and writing a file and to making its table are those that document 01 asks for, and the only ones.
use Prim.Native.Nat.{ℕ, ◌≤◌}
use mathlib.Core.{Path.{◌≡◌, refl, sym, ap, ◌∙◌, subst}, Logic.{⊎_elim}, List.{List, [], ◌∷◌, ◌++◌}, Bool.{true, false}, Option.{none}}
use native.Mathlib.{Omega.{arith}, Nat.{mul-le-mul}}
use lib.{Dec.{leb}, ListN.{length}}
use borrow.Author.Tests.{leb-true, leb-false}
use Rattle.limits.specs.Limits.{state_limit, table_limit}
use Rattle.theory.proofs.{Claims.{table_values}, ValueSets.{and_left, and_right, and_cases}}
use Rattle.refusal.specs.Refusal.{Condition, plain, First, has_place, part_of, order, condition_numbers, right_places}
use Rattle.refusal.specs.{RefusalClaims.{NoneMet}, declared.Refusal.TheVariants.{BufferLength}}
use Rattle.refusal.proofs.{Refusals.{plain_first, accepted_exactly, first_then, first_append}}
use Rattle.values.specs.Setup.{Setup, SetupValue, setup_meet, setup_top, setup_conditions}
use Rattle.values.proofs.Setups.{setup_first, judged_after_setup}
use Rattle.formulas.specs.RuleConditions.{byte_conditions}
use Rattle.formulas.proofs.RuleClaims.{rule_judged}
use Rattle.machines.specs.{TableBytes.{entry_width, entry_bytes, table_bytes, machine_of}, TableRefusal.{table_refusal}}
use Rattle.machines.proofs.TableRefusals.{in_order_none, accepted_table}
use Rattle.synthesis.specs.TableOfRule.{states_condition, buffer_condition, pair_conditions, pair_table_conditions, IsRuleTable}
use Rattle.synthesis.proofs.CompileClaims.{setup_rule_first, compile_refusal_claim, printed_table}
use Rattle.channel_io.specs.FileConditions.{ReadShort, short_meet, short_rule, read_conditions}
use Rattle.channel_io.specs.FileTables.{CompileShort, short_entries, short_table, file_conditions}
use Rattle.channel_io.specs.FileRefusals.{pair_refusal, has_room, stored_refusal, pair_states, pair_table, pair_table_refusal}
use Rattle.channel_io.specs.FileRefusals.{has_table_room, pair_compile_refusal}
use Rattle.channel_io.specs.Claims.{ContentsTableClaim, FileTableMadeClaim}
use Rattle.channel_io.proofs.TablePairs.{rows_length, compile_passed, few_states, table_made, setup_passed}

-- ---- 1 to 3, then 5 to 9, and 10
module _ (s : Setup) (rule : List ℕ) where
  pub pair_first : First (pair_conditions s rule) (pair_refusal s rule)
  unfolding pair_refusal
  pair_first = first_append (setup_conditions s) (byte_conditions s.events s.kind rule) _ _ (setup_first s)
      (rule_judged s.events s.kind rule).first

  pub table_first : First (pair_table_conditions s rule) (pair_table_refusal s rule)
  unfolding pair_table_refusal
  table_first = setup_rule_first s rule

-- ---- a file is read into two buffers
module _ (s : Setup) (nodes meet rule : List ℕ) where
  read_short : has_room s nodes meet rule ≡ false → ReadShort s nodes meet rule
  unfolding has_room
  read_short e =
      ⊎_elim (λ h. short_meet (leb-false (length s.meet) (length meet) h)) (λ h. short_rule (leb-false (length nodes) (length rule) h))
      (and_cases (leb (length s.meet) (length meet)) (leb (length nodes) (length rule)) e)

  read_room : has_room s nodes meet rule ≡ true → ¬ ReadShort s nodes meet rule
  unfolding has_room
  read_room e (short_meet h) =
      let l = leb-true (length s.meet) (length meet) (and_left (leb (length s.meet) (length meet)) _ e) in omega arith
  read_room e (short_rule h) =
      let l = leb-true (length nodes) (length rule) (and_right (leb (length s.meet) (length meet)) _ e) in omega arith

  pub read_first : First (read_conditions meet rule s nodes) (stored_refusal s nodes meet rule)
  unfolding stored_refusal
  read_first =
      first_append (pair_conditions s nodes) (plain BufferLength (ReadShort s nodes meet rule) ∷ []) _ _ (pair_first s nodes)
      (plain_first BufferLength (ReadShort s nodes meet rule) (has_room s nodes meet rule) read_short read_room)

-- ---- a file's table is made

pub contents_table_claim : ContentsTableClaim
unfolding condition_numbers right_places has_place part_of order
contents_table_claim s nodes = judged_after_setup s _ (pair_table_refusal s nodes) (table_first s nodes) refl refl refl

pub file_table_made : FileTableMadeClaim
file_table_made s nodes ok =
    let w = setup_passed s nodes ok in
    let few = few_states s nodes ok in
    let same_width : entry_width s.kind ≤ entry_width s.kind = omega arith in
    record {
      few_states = few;
      few_bytes = omega (arith, rows_length s nodes, mul-le-mul (mul-le-mul few w.few_events) same_width);
      table = table_made s nodes ok;
    }

-- what follows conditions that are not met
none_later : (cs ds : List Condition) → NoneMet (cs ++ ds) → NoneMet ds
unfolding NoneMet
none_later [] ds x = x
none_later (C ∷ cs) ds x = none_later cs ds x.1

module _ (s : Setup) (nodes meet to : List ℕ) where
  abbrev rows : List ℕ
  rows = pair_table s nodes

  abbrev ten : Condition
  ten = states_condition (setup_meet s) (setup_top s) s.events s.kind nodes state_limit

  -- of the table's buffer alone
  abbrev thirteen : Condition
  thirteen = buffer_condition (setup_meet s) (setup_top s) s.events s.kind nodes to

  module _ (ok : pair_table_refusal s nodes ≡ none) where
    table_room : has_table_room s nodes meet to ≡ true → ¬ CompileShort s nodes meet to
    unfolding has_table_room NoneMet
    table_room e (short_entries h) =
        let l = leb-true (length s.meet) (length meet) (and_left (leb (length s.meet) (length meet)) _ e) in omega arith
    table_room e (short_table h) =
        let l = leb-true (length rows) (length to) (and_right (leb (length s.meet) (length meet)) _ e) in
        let none_met = (accepted_exactly _ _ (compile_refusal_claim state_limit s nodes to).first).0 (compile_passed s nodes ok to l) in
        let last : NoneMet (ten ∷ thirteen ∷ []) =
        none_later (byte_conditions s.events s.kind nodes) (ten ∷ thirteen ∷ []) (none_later (setup_conditions s) _ none_met) in
        last.1.0 BufferLength (h, refl)

    table_short : has_table_room s nodes meet to ≡ false → CompileShort s nodes meet to
    unfolding has_table_room
    table_short e =
        let made = table_made s nodes ok in
        ⊎_elim
        (λ h. short_entries (leb-false (length s.meet) (length meet) h))
        (λ h. short_table (
          made.formula,
          made.code.written,
          record {
            states = pair_states s nodes;
            table = machine_of s.kind s.events rows;
            is_table = made.is_table;
            shorter = (let l = leb-false (length rows) (length to) h in omega (arith, rows_length s nodes));
          },
        ))
        (and_cases (leb (length s.meet) (length meet)) (leb (length rows) (length to)) e)

  pub file_first : First (file_conditions meet to s nodes) (pair_compile_refusal s nodes meet to)
  unfolding pair_compile_refusal
  file_first =
      first_then (pair_table_conditions s nodes) (plain BufferLength (CompileShort s nodes meet to) ∷ []) (pair_table_refusal s nodes) _ (table_first s nodes)
      (λ ok. plain_first BufferLength (CompileShort s nodes meet to) (has_table_room s nodes meet to) (table_short ok) (table_room ok))

-- It passes as a table handed in.
pub file_table_accepted : (s : Setup) (nodes : List ℕ) → pair_table_refusal s nodes ≡ none →
    table_refusal table_limit s.events s.kind (pair_states s nodes) 0 (pair_table s nodes) ≡ none
file_table_accepted s nodes passed =
    let made = file_table_made s nodes passed in
    let t = made.table in
    let w = setup_passed s nodes passed in
    let runs =
    table_values (SetupValue s) (setup_meet s) (setup_top s) s.events w.laws t.formula
    t.code.accepted.well_formed _ _ t.is_table in
    in_order_none table_limit s.events s.kind (pair_states s nodes) 0 (pair_table s nodes)
    record {
      some_states = runs.0;
      few_states = made.few_states;
      entry_count = rows_length s nodes;
      start_in = runs.0;
      values_in = λ l e hl he. runs.1.value_in l hl e he;
      nexts_in = λ l e hl he. runs.1.next_in l hl e he;
    }

-- The rows as the bytes of the rule's table.
pub table_as : (s : Setup) (nodes : List ℕ) → pair_table_refusal s nodes ≡ none → (n : ℕ) → n ≡ pair_states s nodes →
    IsRuleTable s nodes n (machine_of s.kind s.events (pair_table s nodes))
    × (table_bytes (entry_bytes s.kind) s.events (machine_of s.kind s.events (pair_table s nodes)) n ≡ pair_table s nodes)
table_as s nodes passed n is =
    let m = machine_of s.kind s.events (pair_table s nodes) in (
      subst (λ (j : ℕ). IsRuleTable s nodes j m) (sym is) (printed_table s nodes (pair_states s nodes) m (file_table_made s nodes passed).table),
      ap (table_bytes (entry_bytes s.kind) s.events m) is
          ∙ (accepted_table table_limit s.events s.kind (pair_states s nodes) 0 (pair_table s nodes) (file_table_accepted s nodes passed)).bytes_of,
    )
