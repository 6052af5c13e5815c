-- Reading, compiling and writing document 01's file: FormDemands at that form.
use Prim.Native.Nat.{ℕ, ◌*◌, ◌≤◌}
use mathlib.Core.{Path.{◌≡◌, refl, sym, ap, ap₂, ◌∙◌, subst}, List.{List, [], ◌∷◌}, Option.{none, some}}
use lib.ListN.{length, take}
use Rattle.refusal.specs.Refusal.{has_place, part_of, order, condition_numbers, right_places, JudgedCall, refusal_of, yield_of, put}
use Rattle.values.specs.{declared.ValueKind.TheVariants.{Numbered}, Setup.{Setup, setup, setup_conditions, kind_conditions}}
use Rattle.text_format.specs.Format.{contents}
use Rattle.channel_file.specs.{ChannelFile.{Token, Contents, text, encoded, node_numbers, rule_numbers}, Reading.{read_file}}
use Rattle.channel_file.proofs.Claims.{channel_form, shown, rewrite_claim}
use Rattle.channel_writer.specs.Writing.{with_token, node_tokens}
use Rattle.channel_writer.proofs.Claims.{node_claim}
use Rattle.channel_io.specs.FileConditions.{file_setup, number_file, JudgedText, read_conditions, ReadsAs, IsFileOf, write_file_conditions, WritesAs}
use Rattle.channel_io.specs.{FileTables.{file_conditions, MakesTableOf}, FileRefusals.{pair_refusal}}
use Rattle.channel_io.specs.{FileReading.{ReadsFile}, FileCompilation.{CompilesFile}, FileWriting.{text_or_empty, file_text, WritesFile}}
use Rattle.channel_io.specs.declared.{FileNumbers.{FileNumbers}, FileTable.{FileTable}}
use Rattle.channel_io.proofs.{ShownBytes.{numbers_length}, Callers.{front_taken}, WriteAnswers.{textual}}
use Rattle.channel_io.proofs.FormDemands as form
use Rattle.channel_io.proofs.FormDemands.{WrittenAs}
use Rattle.refusal.specs.declared.Refusal.{Refusal}
use Rattle.std.specs.Prelude.{Result}

shows : (t : List ℕ) (c : Contents) → read_file t ≡ contents c → number_file.Shown c t
shows t c e = (shown t c e).1

-- ---- a file is read, and its table is made

pub reading_a_file :
    (t meet rule meet' rule' : List ℕ) (r : Result FileNumbers Refusal) → ReadsFile t meet rule meet' rule' r →
    JudgedText {M = List ℕ × List ℕ} number_file t (read_conditions meet rule) (refusal_of r) (meet, rule) (meet', rule')
unfolding setup_conditions kind_conditions condition_numbers right_places has_place part_of order
reading_a_file = form.reading_a_file number_file channel_form shows (λ meet rule c. refl) (λ meet rule c. refl)

pub file_to_rule :
    (t meet rule meet' rule' : List ℕ) (r : Result FileNumbers Refusal) → ReadsFile t meet rule meet' rule' r →
    (found : FileNumbers) → yield_of r ≡ some found → ReadsAs number_file t meet rule meet' rule' found
file_to_rule = form.file_to_rule number_file channel_form shows

pub compiling_a_file :
    (t meet to meet' to' : List ℕ) (r : Result (FileTable FileNumbers) Refusal) → CompilesFile t meet to meet' to' r →
    JudgedText {M = List ℕ × List ℕ} number_file t (file_conditions meet to) (refusal_of r) (meet, to) (meet', to')
unfolding setup_conditions kind_conditions condition_numbers right_places has_place part_of order
compiling_a_file = form.compiling_a_file number_file channel_form shows (λ meet to c. refl) (λ meet to c. refl)

pub file_to_table :
    (t meet to meet' to' : List ℕ) (r : Result (FileTable FileNumbers) Refusal) → CompilesFile t meet to meet' to' r →
    (found : FileTable FileNumbers) → yield_of r ≡ some found → MakesTableOf number_file t meet to meet' to' found.numbers found.states
file_to_table = form.file_to_table number_file channel_form shows

-- ---- a file is written

-- the nodes of a rule have one list of tokens
numbered : (xs : List Token) → node_tokens (encoded node_numbers xs) ≡ some xs
numbered [] = refl
numbered (x ∷ xs) = ap₂ with_token (node_claim.its_token x) (numbered xs)

-- so a set-up and a rule have no two contents
one_file : (s : Setup) (rule : List ℕ) (c d : Contents) → IsFileOf number_file s rule c → IsFileOf number_file s rule d → c ≡ d
one_file s rule c d x y =
    let e : file_setup c ≡ file_setup d = x.0 ∙ sym y.0 in
    let kinds : Numbered c.values ≡ Numbered d.values = ap (λ (z : Setup). z.kind) e in
    let values : c.values ≡ d.values = cc in
    let tokens : some c.rule ≡ some d.rule = sym (numbered c.rule) ∙ ap node_tokens (x.1 ∙ sym y.1) ∙ numbered d.rule in
    let rules : c.rule ≡ d.rule = cc in
    λ i. record { events = (e i).events; values = values i; top = (e i).top; meet = (e i).meet; rule = rules i }

module _ (events values top : ℕ) (meet rule : List ℕ) where
  abbrev s : Setup
  s = setup events values top meet

  abbrev T : List ℕ
  T = file_text events values top meet rule

  -- where 1 to 3 and 5 to 9 are not met, there are such contents, and their text is the one that is written
  written : pair_refusal s rule ≡ none → WrittenAs number_file s rule T
  unfolding file_text
  written ok =
      let w = textual events values top meet rule ok in
      let these : IsFileOf number_file s rule w.inside = (λ i. setup (w.events_is i) (w.values_is i) (w.top_is i) (w.meet_is i), w.rule_is) in
      record {
        inside = w.inside;
        of_these = these;
        only = λ c x. one_file s rule w.inside c these x;
        is_text = ap (text_or_empty text) w.is;
        shown = record { small = w.small; printed = refl };
        within = w.short;
      }

  pub writing_a_file : (old new : List ℕ) (r : Result ℕ Refusal) → WritesFile events values top meet rule old new r
      → JudgedCall (write_file_conditions number_file s rule old) (refusal_of r) old new
  unfolding setup_conditions kind_conditions condition_numbers right_places has_place part_of order
  writing_a_file old new r = form.writing_a_file number_file s rule T written old new r refl refl

  pub rule_to_file : (old new : List ℕ) (r : Result ℕ Refusal) → WritesFile events values top meet rule old new r
      → (n : ℕ) → yield_of r ≡ some n → WritesAs number_file s rule old new n
  rule_to_file = form.rule_to_file number_file s rule T written

-- ---- what was read is written again

pub file_to_rule_to_file :
    (t meet rule meet' rule' : List ℕ) (r : Result FileNumbers Refusal) → ReadsFile t meet rule meet' rule' r →
    (found : FileNumbers) → yield_of r ≡ some found → (old new : List ℕ) (w : Result ℕ Refusal) →
    WritesFile found.events found.values found.top (take found.entries meet') (take (3 * found.nodes) rule') old new w →
    length t ≤ length old → (yield_of w ≡ some (length t)) × (new ≡ put t old)
file_to_rule_to_file t meet rule meet' rule' r k found is old new w x room =
    let a = form.read_of number_file channel_form shows k is in
    let c = a.inside in
    let numbers = a.numbers_are in
    let entries = front_taken c.meet meet meet' found.entries (ap (λ (z : FileNumbers). z.entries) numbers) a.meet_put in
    let nodes = front_taken (rule_numbers c) rule rule' (3 * found.nodes) (ap (λ (z : FileNumbers). 3 * z.nodes) numbers ∙ sym (numbers_length c))
    a.rule_put in
    let x₁ = subst (λ (z : FileNumbers). WritesFile z.events z.values z.top (take found.entries meet') (take (3 * found.nodes) rule') old new w)
    numbers x in
    let x₂ = subst (λ (z : List ℕ). WritesFile c.events c.values c.top z (take (3 * found.nodes) rule') old new w) entries x₁ in
    let y = subst (λ (z : List ℕ). WritesFile c.events c.values c.top c.meet z old new w) nodes x₂ in
    let same = rewrite_claim t c a.reads in
    let room' = subst (λ (z : List ℕ). length z ≤ length old) (sym same) room in
    subst (λ (z : List ℕ). (yield_of w ≡ some (length z)) × (new ≡ put z old)) same
    (form.again number_file (file_setup c) (rule_numbers c) _ (written c.events c.values c.top c.meet (rule_numbers c)) c (refl, refl)
    a.accepted old new w y room')
