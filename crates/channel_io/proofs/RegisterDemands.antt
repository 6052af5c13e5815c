-- Reading, compiling and writing a register's file: FormDemands at that form.
use Prim.Native.Nat.{ℕ, ◌*◌, ◌≤◌}
use mathlib.Core.{Path.{◌≡◌, refl, sym, ap, ap₂, ◌∙◌, subst}, List.{List}, Option.{none, some}}
use lib.ListN.{length, take}
use Rattle.refusal.specs.Refusal.{has_place, part_of, order, condition_numbers, right_places, JudgedCall, refusal_of, yield_of, put}
use Rattle.values.specs.{declared.ValueKind.TheVariants.{Register}, Setup.{Setup, register_setup, setup_conditions, kind_conditions}}
use Rattle.text_format.specs.Format.{contents}
use Rattle.channel_file.specs.{RegisterFile.{Contents, rule_numbers, text}, RegisterReading.{read_file}}
use Rattle.channel_file.proofs.RegisterClaims.{register_form, register_claim, shown}
use Rattle.channel_writer.specs.RegisterWriting.{node_tokens}
use Rattle.channel_io.specs.{RegisterFiles.{file_setup, register_file}, Claims.{StoredRegisterClaim}}
use Rattle.channel_io.specs.FileConditions.{JudgedText, read_conditions, ReadsAs, IsFileOf, write_file_conditions, WritesAs}
use Rattle.channel_io.specs.FileTables.{file_conditions, MakesTableOf}
use Rattle.channel_io.specs.{FileRefusals.{pair_refusal}, FileReading.{ReadsRegisterFile}, FileCompilation.{CompilesRegisterFile}}
use Rattle.channel_io.specs.FileWriting.{text_or_empty, register_file_text, WritesRegisterFile}
use Rattle.channel_io.specs.declared.{FileTable.{FileTable}, registers.FileNumbers.{FileNumbers}}
use Rattle.channel_io.proofs.{RegisterBytes.{numbers_length, stored_same, nothing_changed}, RegisterWrites.{textual, all_back}}
use Rattle.channel_io.proofs.{Callers.{front_taken}, FormDemands.{WrittenAs}}
use Rattle.channel_io.proofs.FormDemands as form
use Rattle.refusal.specs.declared.Refusal.{Refusal}
use Rattle.std.specs.Prelude.{Result}

shows : (t : List ℕ) (c : Contents) → read_file t ≡ contents c → register_file.Shown c t
shows t c e = (shown t c e).1

-- ---- a file is read, and its table is made

pub reading_a_file : (t meet rule meet' rule' : List ℕ) (r : Result FileNumbers Refusal) → ReadsRegisterFile t meet rule meet' rule' r
    → JudgedText {M = List ℕ × List ℕ} register_file t (read_conditions meet rule) (refusal_of r) (meet, rule) (meet', rule')
unfolding setup_conditions kind_conditions condition_numbers right_places has_place part_of order
reading_a_file = form.reading_a_file register_file register_form shows (λ meet rule c. refl) (λ meet rule c. refl)

pub file_to_rule : (t meet rule meet' rule' : List ℕ) (r : Result FileNumbers Refusal) → ReadsRegisterFile t meet rule meet' rule' r
    → (found : FileNumbers) → yield_of r ≡ some found → ReadsAs register_file t meet rule meet' rule' found
file_to_rule = form.file_to_rule register_file register_form shows

pub compiling_a_file : (t meet to meet' to' : List ℕ) (r : Result (FileTable FileNumbers) Refusal) → CompilesRegisterFile t meet to meet' to' r
    → JudgedText {M = List ℕ × List ℕ} register_file t (file_conditions meet to) (refusal_of r) (meet, to) (meet', to')
unfolding setup_conditions kind_conditions condition_numbers right_places has_place part_of order
compiling_a_file = form.compiling_a_file register_file register_form shows (λ meet to c. refl) (λ meet to c. refl)

pub file_to_table : (t meet to meet' to' : List ℕ) (r : Result (FileTable FileNumbers) Refusal) → CompilesRegisterFile t meet to meet' to' r
    → (found : FileTable FileNumbers) → yield_of r ≡ some found → MakesTableOf register_file t meet to meet' to' found.numbers found.states
file_to_table = form.file_to_table register_file register_form shows

-- ---- a file is written

-- a set-up and a rule have no two contents
one_file : (s : Setup) (rule : List ℕ) (c d : Contents) → IsFileOf register_file s rule c → IsFileOf register_file s rule d → c ≡ d
one_file s rule c d x y =
    let e : file_setup c ≡ file_setup d = x.0 ∙ sym y.0 in
    let kinds : Register c.lines ≡ Register d.lines = ap (λ (z : Setup). z.kind) e in
    let lines : c.lines ≡ d.lines = cc in
    let tokens : some c.rule ≡ some d.rule = sym (all_back c.rule) ∙ ap node_tokens (x.1 ∙ sym y.1) ∙ all_back d.rule in
    let rules : c.rule ≡ d.rule = cc in
    λ i. record { events = (e i).events; lines = lines i; rule = rules i }

module _ (events lines : ℕ) (rule : List ℕ) where
  abbrev s : Setup
  s = register_setup events lines

  abbrev T : List ℕ
  T = register_file_text events lines rule

  -- where 1, 20 and 5 to 9 are not met, there are such contents, and their text is the one that is written
  written : pair_refusal s rule ≡ none → WrittenAs register_file s rule T
  unfolding register_file_text
  written ok =
      let w = textual events lines rule ok in
      let these : IsFileOf register_file s rule w.inside = (ap₂ (λ (a b : ℕ). register_setup a b) w.events_is w.lines_is, w.rule_is) in
      record {
        inside = w.inside;
        of_these = these;
        only = λ c x. one_file s rule w.inside c these x;
        is_text = ap (text_or_empty text) w.is;
        shown = record { small = w.small; printed = refl };
        within = w.short;
      }

  pub writing_a_file : (old new : List ℕ) (r : Result ℕ Refusal) → WritesRegisterFile events lines rule old new r
      → JudgedCall (write_file_conditions register_file s rule old) (refusal_of r) old new
  unfolding setup_conditions kind_conditions condition_numbers right_places has_place part_of order
  writing_a_file old new r = form.writing_a_file register_file s rule T written old new r refl refl

  pub rule_to_file : (old new : List ℕ) (r : Result ℕ Refusal) → WritesRegisterFile events lines rule old new r
      → (n : ℕ) → yield_of r ≡ some n → WritesAs register_file s rule old new n
  rule_to_file = form.rule_to_file register_file s rule T written

-- ---- what was read is written again

pub file_to_rule_to_file :
    (t meet rule meet' rule' : List ℕ) (r : Result FileNumbers Refusal) → ReadsRegisterFile t meet rule meet' rule' r →
    (found : FileNumbers) → yield_of r ≡ some found → (old new : List ℕ) (w : Result ℕ Refusal) →
    WritesRegisterFile found.events found.lines (take (6 * found.nodes) rule') old new w →
    length t ≤ length old → (yield_of w ≡ some (length t)) × (new ≡ put t old)
file_to_rule_to_file t meet rule meet' rule' r k found is old new w x room =
    let a = form.read_of register_file register_form shows k is in
    let c = a.inside in
    let nodes = front_taken (rule_numbers c) rule rule' (6 * found.nodes)
    (ap (λ (z : FileNumbers). 6 * z.nodes) a.numbers_are ∙ sym (numbers_length c.events c.lines c.rule)) a.rule_put in
    let x₁ = subst (λ (z : FileNumbers). WritesRegisterFile z.events z.lines (take (6 * found.nodes) rule') old new w) a.numbers_are x in
    let y = subst (λ (z : List ℕ). WritesRegisterFile c.events c.lines z old new w) nodes x₁ in
    let same = register_claim.rewrite t c a.reads in
    let room' = subst (λ (z : List ℕ). length z ≤ length old) (sym same) room in
    subst (λ (z : List ℕ). (yield_of w ≡ some (length z)) × (new ≡ put z old)) same
    (form.again register_file (file_setup c) (rule_numbers c) _ (written c.events c.lines (rule_numbers c)) c (refl, refl)
    a.accepted old new w y room')

pub stored_register_claim : StoredRegisterClaim
stored_register_claim = record { stored_same = stored_same; nothing_changed = nothing_changed }
