-- Reading, compiling and writing files of any form answer and leave what the documents' definitions say, with no word on how a text is read.
use Prim.Native.Nat.{ℕ, ◌≤◌, ◌<◌}
use mathlib.Core.{Path.{◌≡◌, refl, sym, ap, ap₂, ◌∙◌}, List.{List, [], ◌∷◌}, Bool.{Bool, true, false}}
use mathlib.Core.Option.{Option, none, some, some-ne-none}
use native.Mathlib.Omega.{arith}
use lib.{Dec.{leb}, ListN.{length}}
use borrow.Author.Tests.{le-leb, leb-true, leb-false}
use Rattle.limits.specs.Limits.{file_limit}
use Rattle.refusal.specs.{declared.Refusal.{Refusal}, declared.Refusal.TheVariants.{BufferLength}}
use Rattle.refusal.specs.RefusalAnswers.{or_else, plain_unless, answered, put_unless}
use Rattle.refusal.specs.Refusal.{plain, First, part_of, order, condition_numbers, right_places, JudgedCall, refusal_of, yield_of, put}
use Rattle.refusal.proofs.Refusals.{plain_first, judged, first_then, or_else_none}
use Rattle.refusal.proofs.Answers.{answered_refusal_is, yield_of_answered, answered_judged, answered_put}
use Rattle.values.specs.Setup.{Setup}
use Rattle.machines.specs.TableBytes.{machine_of}
use Rattle.synthesis.specs.TableOfRule.{pair_conditions}
use Rattle.text_format.specs.Format.{Outcome, contents, refused}
use Rattle.channel_file.proofs.Forms.{FormLaws, answer_to}
use Rattle.channel_io.specs.FileConditions.{FileForm, JudgedBy, read_conditions, ReadsAs, IsFileOf, write_file_conditions, WritesAs}
use Rattle.channel_io.specs.{FileTables.{file_conditions, MakesTableOf}, FileReading.{meet_after, rule_after, read_answer, ReadsBy}}
use Rattle.channel_io.specs.FileRefusals.{pair_refusal, stored_refusal, text_refusal, pair_states, pair_table, pair_compile_refusal}
use Rattle.channel_io.specs.{FileCompilation.{with_states, entries_after, table_after, file_table_answer, CompilesBy}, FileWriting.{write_refusal, WritesText}}
use Rattle.channel_io.specs.declared.FileTable.{FileTable}
use Rattle.channel_io.proofs.{TextCalls.{judged_by}, Claims.{pair_first, read_first, file_first, table_as}}
use Rattle.channel_io.proofs.Callers.{made_of_by}
use Rattle.std.specs.Prelude.{Result, Ok, Err}

-- what an accepted call yields
yielded : {A : Type 0} (r : Result A Refusal) (k : A) → yield_of r ≡ some k → r ≡ Ok k
yielded (Ok n) k e = cc
yielded (Err q) k e = absurd (some-ne-none k (sym e))

-- ---- a text is read, and its table is made
module _ (F : FileForm) (K : FormLaws F.Inside) (shows : (t : List ℕ) (c : F.Inside) → answer_to K t ≡ contents c → F.Shown c t) where
  module _ (meet rule : List ℕ) where
    abbrev reading : F.Inside → Option Refusal
    reading c = stored_refusal (F.setup_of c) (F.nodes_of c) meet rule

    read_refused : (x : Outcome F.Inside) → refusal_of (read_answer F x meet rule) ≡ text_refusal reading x
    unfolding read_answer text_refusal
    read_refused (refused p) = refl
    read_refused (contents c) = answered_refusal_is (reading c) (F.numbers_of c)

    read_kept : (x : Outcome F.Inside) (q : Refusal) → text_refusal reading x ≡ some q
        → ◌≡◌ {A = List ℕ × List ℕ} (meet_after F x meet rule, rule_after F x meet rule) (meet, rule)
    unfolding meet_after rule_after text_refusal put_unless
    read_kept (refused p) q e = refl
    read_kept (contents c) q e = ap (λ (o : Option Refusal). (put_unless o (F.setup_of c).meet meet, put_unless o (F.nodes_of c) rule)) e

  pub reading_a_file :
      ((meet rule : List ℕ) (c : F.Inside) → part_of (4 ∷ condition_numbers (read_conditions meet rule (F.setup_of c) (F.nodes_of c))) order ≡ true)
      → ((meet rule : List ℕ) (c : F.Inside) → right_places (read_conditions meet rule (F.setup_of c) (F.nodes_of c)) ≡ true)
      → (t meet rule meet' rule' : List ℕ) (r : Result F.Numbers Refusal) → ReadsBy F (answer_to K) t meet rule meet' rule' r
      → JudgedBy {M = List ℕ × List ℕ} K.Shows t (λ c. read_conditions meet rule (F.setup_of c) (F.nodes_of c)) (refusal_of r)
      (meet, rule) (meet', rule')
  reading_a_file ordered placed t meet rule meet' rule' r k =
      judged_by K (λ c. read_conditions meet rule (F.setup_of c) (F.nodes_of c)) t (reading meet rule)
      (λ c. read_first (F.setup_of c) (F.nodes_of c) meet rule) (ordered meet rule) (placed meet rule)
      (ap refusal_of k.answer ∙ read_refused meet rule (answer_to K t))
      (λ q e. ap₂ (λ (m n : List ℕ). (m, n)) k.meet_is k.rule_is ∙ read_kept meet rule (answer_to K t) q e)

  -- An accepted reading: the contents that were read, and what stands in the buffers.
  pub record ReadOf (t meet rule meet' rule' : List ℕ) (found : F.Numbers) : Type 0 where
    pub inside : F.Inside
    pub reads : answer_to K t ≡ contents inside
    pub accepted : pair_refusal (F.setup_of inside) (F.nodes_of inside) ≡ none
    pub numbers_are : found ≡ F.numbers_of inside
    pub meet_put : meet' ≡ put (F.setup_of inside).meet meet
    pub rule_put : rule' ≡ put (F.nodes_of inside) rule

  pub read_of : {t meet rule meet' rule' : List ℕ} {r : Result F.Numbers Refusal} {found : F.Numbers}
      → ReadsBy F (answer_to K) t meet rule meet' rule' r → yield_of r ≡ some found → ReadOf t meet rule meet' rule' found
  unfolding read_answer meet_after rule_after put_unless stored_refusal
  read_of {t} {meet} {rule} {meet'} {rule'} {found = found} k is =
      go (answer_to K t) refl (sym (ap yield_of k.answer) ∙ is) k.meet_is k.rule_is
    where
      go : (x : Outcome F.Inside) → answer_to K t ≡ x → yield_of (read_answer F x meet rule) ≡ some found
          → meet' ≡ meet_after F x meet rule → rule' ≡ rule_after F x meet rule → ReadOf t meet rule meet' rule' found
      go (refused p) e f g h = absurd (some-ne-none found (sym f))
      go (contents c) e f g h =
          let a = yield_of_answered (stored_refusal (F.setup_of c) (F.nodes_of c) meet rule) (F.numbers_of c) found f in
          record {
            inside = c;
            reads = e;
            accepted = (or_else_none (pair_refusal (F.setup_of c) (F.nodes_of c)) _ a.0).0;
            numbers_are = sym a.1;
            meet_put = g ∙ ap (λ (o : Option Refusal). put_unless o (F.setup_of c).meet meet) a.0;
            rule_put = h ∙ ap (λ (o : Option Refusal). put_unless o (F.nodes_of c) rule) a.0;
          }

  pub file_to_rule : (t meet rule meet' rule' : List ℕ) (r : Result F.Numbers Refusal) → ReadsBy F (answer_to K) t meet rule meet' rule' r
      → (found : F.Numbers) → yield_of r ≡ some found → ReadsAs F t meet rule meet' rule' found
  file_to_rule t meet rule meet' rule' r k found is =
      let w = read_of k is in
      record {
        contents = w.inside;
        shown = shows t w.inside w.reads;
        numbers_are = w.numbers_are;
        meet_put = w.meet_put;
        rule_put = w.rule_put;
      }

  module _ (meet to : List ℕ) where
    abbrev making : F.Inside → Option Refusal
    making c = pair_compile_refusal (F.setup_of c) (F.nodes_of c) meet to

    made_refused : (x : Outcome F.Inside) → refusal_of (file_table_answer F x meet to) ≡ text_refusal making x
    unfolding file_table_answer text_refusal
    made_refused (refused p) = refl
    made_refused (contents c) = answered_refusal_is (making c) (with_states (F.numbers_of c) (pair_states (F.setup_of c) (F.nodes_of c)))

    made_kept : (x : Outcome F.Inside) (q : Refusal) → text_refusal making x ≡ some q
        → ◌≡◌ {A = List ℕ × List ℕ} (entries_after F x meet to, table_after F x meet to) (meet, to)
    unfolding entries_after table_after text_refusal put_unless
    made_kept (refused p) q e = refl
    made_kept (contents c) q e =
        ap (λ (o : Option Refusal). (put_unless o (F.setup_of c).meet meet, put_unless o (pair_table (F.setup_of c) (F.nodes_of c)) to)) e

  pub compiling_a_file :
      ((meet to : List ℕ) (c : F.Inside) → part_of (4 ∷ condition_numbers (file_conditions meet to (F.setup_of c) (F.nodes_of c))) order ≡ true)
      → ((meet to : List ℕ) (c : F.Inside) → right_places (file_conditions meet to (F.setup_of c) (F.nodes_of c)) ≡ true)
      → (t meet to meet' to' : List ℕ) (r : Result (FileTable F.Numbers) Refusal) → CompilesBy F (answer_to K) t meet to meet' to' r
      → JudgedBy {M = List ℕ × List ℕ} K.Shows t (λ c. file_conditions meet to (F.setup_of c) (F.nodes_of c)) (refusal_of r) (meet, to) (meet', to')
  compiling_a_file ordered placed t meet to meet' to' r k =
      judged_by K (λ c. file_conditions meet to (F.setup_of c) (F.nodes_of c)) t (making meet to)
      (λ c. file_first (F.setup_of c) (F.nodes_of c) meet to) (ordered meet to) (placed meet to)
      (ap refusal_of k.answer ∙ made_refused meet to (answer_to K t))
      (λ q e. ap₂ (λ (m n : List ℕ). (m, n)) k.meet_is k.table_is ∙ made_kept meet to (answer_to K t) q e)

  pub file_to_table : (t meet to meet' to' : List ℕ) (r : Result (FileTable F.Numbers) Refusal) → CompilesBy F (answer_to K) t meet to meet' to' r
      → (found : FileTable F.Numbers) → yield_of r ≡ some found → MakesTableOf F t meet to meet' to' found.numbers found.states
  file_to_table t meet to meet' to' r k found is =
      let w = made_of_by F (answer_to K) k (yielded r found is) in
      let c = w.inside in
      let a = table_as (F.setup_of c) (F.nodes_of c) w.passed found.states w.states_are in
      record {
        contents = c;
        shown = shows t c w.reads;
        numbers_are = w.numbers_are;
        meet_put = w.entries_put;
        table = machine_of (F.setup_of c).kind (F.setup_of c).events (pair_table (F.setup_of c) (F.nodes_of c));
        is_table = a.0;
        table_put = w.table_put ∙ ap (λ (b : List ℕ). put b to) (sym a.1);
      }

-- ---- a text is written

-- The contents that are written for a set-up and a rule: the only ones, with this text, which is of the form and within the limit.
pub record WrittenAs (F : FileForm) (s : Setup) (rule text : List ℕ) : Type 0 where
  pub inside : F.Inside
  pub of_these : IsFileOf F s rule inside
  pub only : (c : F.Inside) → IsFileOf F s rule c → inside ≡ c
  pub is_text : text ≡ F.text_of inside
  pub shown : F.Shown inside (F.text_of inside)
  pub within : length (F.text_of inside) ≤ file_limit

module _ (F : FileForm) (s : Setup) (rule T : List ℕ) (written : pair_refusal s rule ≡ none → WrittenAs F s rule T) where
  text_of : (ok : pair_refusal s rule ≡ none) (c : F.Inside) → IsFileOf F s rule c → T ≡ F.text_of c
  text_of ok c x = (written ok).is_text ∙ ap F.text_of ((written ok).only c x)

  module _ (old : List ℕ) where
    abbrev Short : Type 0
    Short = (c : F.Inside) × IsFileOf F s rule c × (length old < length (F.text_of c))

    abbrev room : Bool
    room = leb (length T) (length old)

    text_short : pair_refusal s rule ≡ none → room ≡ false → Short
    text_short ok e =
        ((written ok).inside, (written ok).of_these, let h = leb-false (length T) (length old) e in omega (arith, ap length (written ok).is_text))

    text_room : pair_refusal s rule ≡ none → room ≡ true → ¬ Short
    text_room ok e (c, x, h) = let l = leb-true (length T) (length old) e in omega (arith, ap length (text_of ok c x))

    write_first : First (write_file_conditions F s rule old) (write_refusal s rule T old)
    unfolding write_refusal
    write_first =
        first_then (pair_conditions s rule) (plain BufferLength Short ∷ []) (pair_refusal s rule) _ (pair_first s rule)
        (λ ok. plain_first BufferLength Short room (text_short ok) (text_room ok))

  pub writing_a_file : (old new : List ℕ) (r : Result ℕ Refusal) → part_of (condition_numbers (write_file_conditions F s rule old)) order ≡ true
      → right_places (write_file_conditions F s rule old) ≡ true → WritesText s rule T old new r
      → JudgedCall (write_file_conditions F s rule old) (refusal_of r) old new
  writing_a_file old new r ordered placed k =
      answered_judged (write_refusal s rule T old) (length T) T old k.answer k.buffer
      (judged (write_file_conditions F s rule old) (write_refusal s rule T old) (write_first old) ordered placed)

  pub rule_to_file : (old new : List ℕ) (r : Result ℕ Refusal) → WritesText s rule T old new r → (n : ℕ) → yield_of r ≡ some n → WritesAs F s rule old new n
  unfolding write_refusal
  rule_to_file old new r k n is =
      let a = answered_put (write_refusal s rule T old) (length T) T old k.answer k.buffer n is in
      let w = written (or_else_none (pair_refusal s rule) _ a.0).0 in
      record {
        contents = w.inside;
        of_these = w.of_these;
        shown = w.shown;
        within = w.within;
        count_is = a.1 ∙ ap length w.is_text;
        text_put = a.2 ∙ ap (λ (l : List ℕ). put l old) w.is_text;
      }

  -- what was read is written again: the text of the contents that say these
  pub again : (c : F.Inside) → IsFileOf F s rule c → pair_refusal s rule ≡ none → (old new : List ℕ) (w : Result ℕ Refusal) → WritesText s rule T old new w
      → length (F.text_of c) ≤ length old → (yield_of w ≡ some (length (F.text_of c))) × (new ≡ put (F.text_of c) old)
  unfolding write_refusal or_else plain_unless answered put_unless
  again c x ok old new w k room =
      let same = text_of ok c x in
      let fits = le-leb (length T) (length old) (omega (arith, ap length same)) in
      let passed : write_refusal s rule T old ≡ none = rw (ok, fits) in (
        ap yield_of k.answer ∙ ap₂ (λ (o : Option Refusal) (l : List ℕ). yield_of (answered o (length l))) passed same,
        k.buffer ∙ ap₂ (λ (o : Option Refusal) (l : List ℕ). put_unless o l old) passed same,
      )
