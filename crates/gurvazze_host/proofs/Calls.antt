-- The calls on a file of either form, from what was made of it.
use mathlib.Core.{Path.{◌≡◌, refl, sym, ◌∙◌, ap, ap₂, subst}, Bool.{Bool, true, false}, Option.{Option, none, some}, List.{List, []}}
use Prim.Native.Nat.{ℕ, ◌*◌, ◌/◌, ◌^◌, ◌≤◌, ◌<◌}
use native.Mathlib.{Nat.{div-lt_iff_lt-mul}, Omega.{arith}}
use borrow.Author.Tests.{le-leb, lt-leb, ltb-true}
use lib.{Dec.{leb, ltb}, ListN.{length, get_or, take, replicate, length-replicate}, Seq.{length-take-le}}
use Rattle.std.specs.Prelude.{Err, Ok, Result}
use Rattle.limits.specs.Limits.{device_limit, table_limit, meet_limit, state_limit, value_limit}
use Rattle.theory.specs.ValueSetTests.{every}
use Rattle.theory.proofs.ValueSets.{every_at}
use Rattle.refusal.specs.{declared.Refusal.{Refusal}, declared.Refusal.TheVariants.{BufferLength, EventNumber, TextForm}}
use Rattle.refusal.specs.Refusal.{put}
use Rattle.refusal.specs.RefusalAnswers.{or_else, plain_unless, answered, judgement, put_unless}
use Rattle.refusal.proofs.Refusals.{or_else_none}
use Rattle.values.specs.{declared.ValueKind.{ValueKind}, declared.ValueKind.TheVariants.{Numbered, Register}}
use Rattle.values.specs.Setup.{Setup, ValueIn, top_of, register_setup, setup_of_kind, value_width}
use Rattle.values.specs.SetupInOrder.{KindInLimits, AcceptedSetup}
use Rattle.machines.specs.TableBytes.{entry_width, machine_of}
use Rattle.text_format.specs.Format.{Outcome, contents, refused}
use Rattle.channel_file.specs.Reading.{read_file}
use Rattle.channel_file.specs.RegisterReading.{read_file as read_register_file}
use Rattle.channel_file.proofs.Forms.{FormLaws, answer_to}
use Rattle.conformance.specs.Trial.{TrialInput, Answer, input}
use Rattle.conformance.specs.TrialAnswer.{trial_refusal, trial_answer, trial_buffer, first_failure, found_answer, buffer_unless}
use Rattle.channel_io.specs.declared.{FileNumbers.{FileNumbers}, FileTable.{FileTable}, registers.FileNumbers.{FileNumbers as RegisterNumbers}}
use Rattle.channel_io.specs.{FileConditions.{FileForm, number_file}, RegisterFiles.{register_file}, Claims.{table_room}}
use Rattle.channel_io.specs.FileCompilation.{CompilesBy, CompilesFile, CompilesRegisterFile}
use Rattle.channel_io.specs.FileRefusals.{pair_states, pair_table, pair_table_refusal}
use Rattle.channel_io.proofs.{Claims.{file_table_made}, TablePairs.{setup_passed}}
use Rattle.channel_io.proofs.Callers.{meet_fits, table_fits, few_entries, Unmade, off_form, turned_away, MadeOf, unmade_by, made_of_by, limits}
use Rattle.gurvazze_host.specs.declared.{Made.{Made}, Form.{Form}, Form.TheVariants.{Numbers as NumberForm, Register as RegisterForm}}
use Rattle.gurvazze_host.specs.Codes.{table_numbers, told_values, told_top, setup_numbers, made_numbers, SmallAnswer, SmallVerdict, SmallReplay, SmallNumbers}
use Rattle.gurvazze_host.specs.FileCalls.{played, word_refusal, table_call_refusal, file_replay_refusal, file_trial, file_trial_refusal}
use Rattle.gurvazze_host.specs.FileCalls.{table_answer, table_after, replay_answer, replay_after, file_trial_answer, file_trial_buffer}
use Rattle.gurvazze_host.specs.FileCalls.{front, Playable, Runnable, Replays, Holds, held_setup, held_trial}
use Rattle.gurvazze_host.specs.FileCalls.{file_form, reader, meet_buffer, made_of, made_answer, Compiles}
use Rattle.gurvazze_host.proofs.Places.{no_place, text_place, or_small, plain_small, pair_table_small}
use Rattle.gurvazze_host.proofs.Small.{answered_small, verdict_answered, judged_small, found_small, file_trial_small}

or_some : (b : Option Refusal) (a : Option Refusal) (r : Refusal) → a ≡ some r → or_else a b ≡ some r
unfolding or_else
or_some b a r e = ap (λ (o : Option Refusal). or_else o b) e

or_none : (b : Option Refusal) (a : Option Refusal) → a ≡ none → or_else a b ≡ b
unfolding or_else
or_none b a e = ap (λ (o : Option Refusal). or_else o b) e

-- Every accepted file's meet entries have room. A register has none.
abbrev Roomy : FileForm → List ℕ → Type 0
Roomy F meet = (c : F.Inside) → pair_table_refusal (F.setup_of c) (F.nodes_of c) ≡ none → length (F.setup_of c).meet ≤ length meet

number_room : Roomy number_file (replicate meet_limit 0)
number_room c ok = let k = few_entries c ok in omega (arith, length-replicate {A = ℕ} meet_limit 0)

register_room : Roomy register_file []
register_room c ok = omega arith

-- ---- a file that was refused: 4, or what its set-up and rule meet

-- A refusal that is not 13 comes before 13.
before_13 : (o : Option Refusal) (b : Bool) (r : Refusal) → ¬ (r ≡ BufferLength) → or_else o (plain_unless b BufferLength) ≡ some r → o ≡ some r
unfolding or_else plain_unless
before_13 none true r l e = let z : ◌≡◌ {A = ℕ} 0 1 = cc in absurd (omega arith)
before_13 none false r l e = let z : r ≡ BufferLength = cc in absurd (l z)
before_13 (some q) b r l e = e

-- Refused by the text alone: the buffer that the table was to stand in has no part in it.
pub data Stopped (F : FileForm) (read : List ℕ → Outcome F.Inside) (t : List ℕ) : Refusal → Type 0 where
  not_read : (p : ℕ) → read t ≡ refused p → Stopped F read t (TextForm p)
  no_table : (c : F.Inside) (r : Refusal) → read t ≡ contents c → pair_table_refusal (F.setup_of c) (F.nodes_of c) ≡ some r → Stopped F read t r

module _ {F : FileForm} {read : List ℕ → Outcome F.Inside} where
  module _ {t meet old : List ℕ} (wide : Roomy F meet) where
    pub table_stopped :
        {r : Refusal} → Unmade F read t meet old r → (Err r ≡ table_answer F (read t) old) × (old ≡ table_after F (read t) old)
    unfolding table_answer table_after answered put_unless table_call_refusal
    table_stopped (off_form p e) =
        (sym (ap (λ (o : Outcome F.Inside). table_answer F o old) e), sym (ap (λ (o : Outcome F.Inside). table_after F o old) e))
    table_stopped (turned_away c r e f) =
        let s = F.setup_of c in
        let a : table_call_refusal s (F.nodes_of c) old ≡ some r = sym (meet_fits s (F.nodes_of c) meet old (wide c)) ∙ f in (
          sym (ap (λ (o : Outcome F.Inside). table_answer F o old) e
              ∙ ap (λ (o : Option Refusal). answered o (setup_numbers s (pair_states s (F.nodes_of c)))) a),
          sym (ap (λ (o : Outcome F.Inside). table_after F o old) e
              ∙ ap (λ (o : Option Refusal). put_unless o (pair_table s (F.nodes_of c)) old) a),
        )

    -- so it is where that buffer has room for every table
    pub roomy_stopped : {r : Refusal} → ((c : F.Inside) → table_room (F.setup_of c).kind ≤ length old) → Unmade F read t meet old r → Stopped F read t r
    roomy_stopped room (off_form p e) = not_read p e
    roomy_stopped room (turned_away c r e f) =
        no_table c r e (sym (table_fits (F.setup_of c) (F.nodes_of c) meet old (wide c) (room c)) ∙ f)

    -- and where the refusal is not 13
    pub other_stopped : {r : Refusal} → ¬ (r ≡ BufferLength) → Unmade F read t meet old r → Stopped F read t r
    other_stopped l (off_form p e) = not_read p e
    other_stopped l (turned_away c r e f) =
        let s = F.setup_of c in
        no_table c r e (before_13 (pair_table_refusal s (F.nodes_of c)) _ r l (sym (meet_fits s (F.nodes_of c) meet old (wide c)) ∙ f))

  module _ {t : List ℕ} where
    pub replay_stopped :
        {r : Refusal} → Stopped F read t r → (word to : List ℕ)
        → (Err r ≡ replay_answer F (read t) word to) × (to ≡ replay_after F (read t) word to)
    unfolding replay_answer replay_after judgement file_replay_refusal put_unless
    replay_stopped (not_read p e) word to = (
      sym (ap (λ (o : Outcome F.Inside). replay_answer F o word to) e),
      sym (ap (λ (o : Outcome F.Inside). replay_after F o word to) e),
    )
    replay_stopped (no_table c r e f) word to =
        let s = F.setup_of c in
        let a : file_replay_refusal s (F.nodes_of c) word to ≡ some r =
        or_some (word_refusal s.kind s.events word to) (pair_table_refusal s (F.nodes_of c)) r f in (
          sym (ap (λ (o : Outcome F.Inside). replay_answer F o word to) e ∙ ap judgement a),
          sym (ap (λ (o : Outcome F.Inside). replay_after F o word to) e
              ∙ ap (λ (o : Option Refusal). put_unless o (played s.kind s.events (pair_table s (F.nodes_of c)) word) to) a),
        )

    pub trial_stopped :
        {r : Refusal} → Stopped F read t r → (states start : ℕ) (device word : List ℕ)
        → (Err r ≡ file_trial_answer F (read t) states start device word)
        × (word ≡ file_trial_buffer F (read t) states start device word)
    unfolding file_trial_answer file_trial_buffer file_trial_refusal answered buffer_unless
    trial_stopped (not_read p e) states start device word = (
      sym (ap (λ (o : Outcome F.Inside). file_trial_answer F o states start device word) e),
      sym (ap (λ (o : Outcome F.Inside). file_trial_buffer F o states start device word) e),
    )
    trial_stopped (no_table c r e f) states start device word =
        let s = F.setup_of c in
        let x = file_trial s (F.nodes_of c) states start device in
        let a : file_trial_refusal s (F.nodes_of c) states start device word ≡ some r =
        or_some (trial_refusal device_limit table_limit x word) (pair_table_refusal s (F.nodes_of c)) r f in (
          sym (ap (λ (o : Outcome F.Inside). file_trial_answer F o states start device word) e
              ∙ ap (λ (o : Option Refusal). answered o (found_answer x)) a),
          sym (ap (λ (o : Outcome F.Inside). file_trial_buffer F o states start device word) e
              ∙ ap (λ (o : Option Refusal). buffer_unless o (first_failure x) word) a),
        )

-- ---- a file whose table was made

-- What is told of an accepted set-up has room in a code.
kind_small :
    (kind : ValueKind) (top : ℕ) (meet : List ℕ) → KindInLimits kind meet → ValueIn kind (top_of kind top)
    → (told_values kind ≤ value_limit) × (told_top kind top < told_values kind)
kind_small (Numbered values) top meet w h = (w.few_values, h)
kind_small (Register lines) top meet w h = (w.few_lines, w.some_lines)

pub told_small : (s : Setup) (k : ℕ) → AcceptedSetup s → k ≤ state_limit → SmallNumbers k s.events (told_values s.kind) (told_top s.kind s.top)
told_small s k w h =
    let z = kind_small s.kind s.top s.meet w.of_kind w.laws.top_in in
    record { few_states = h; few_events = w.few_events; few_values = z.0; top_in = z.1 }

-- So have the numbers of a table.
numbers_fit : {k events values top : ℕ} → SmallNumbers k events values top → table_numbers k events values top < 2 ^ 48
unfolding table_numbers
numbers_fit z = omega (arith, z.few_states, z.few_events, z.few_values, z.top_in)

-- By the set-up of the numbers that were answered.
module _ {F : FileForm} {read : List ℕ → Outcome F.Inside} {t meet old meet' new : List ℕ} {n : F.Numbers} {k : ℕ}
    (w : MadeOf F read t meet old meet' new n k) {s : Setup} (is : s ≡ F.setup_of w.inside) where
  abbrev S : Setup
  S = F.setup_of w.inside

  abbrev nodes : List ℕ
  nodes = F.nodes_of w.inside

  pub numbers_small : SmallNumbers k s.events (told_values s.kind) (told_top s.kind s.top)
  numbers_small =
      subst (λ (x : Setup). SmallNumbers k x.events (told_values x.kind) (told_top x.kind x.top)) (sym is)
      (told_small S k (setup_passed S nodes w.passed) w.few_states)

  pub table_made : Roomy F meet → (Ok (setup_numbers s k) ≡ table_answer F (read t) old) × (new ≡ table_after F (read t) old)
  unfolding table_answer table_after answered put_unless table_call_refusal
  table_made wide =
      let a : table_call_refusal S nodes old ≡ none = sym (meet_fits S nodes meet old (wide w.inside)) ∙ w.accepted in (
        ap₂ (λ (z : Setup) (j : ℕ). Ok (setup_numbers z j)) is w.states_are
            ∙ sym (ap (λ (o : Outcome F.Inside). table_answer F o old) w.reads
            ∙ ap (λ (o : Option Refusal). answered o (setup_numbers S (pair_states S nodes))) a),
        w.table_put
            ∙ sym (ap (λ (o : Outcome F.Inside). table_after F o old) w.reads
            ∙ ap (λ (o : Option Refusal). put_unless o (pair_table S nodes) old) a),
      )

  pub playable : Playable s.kind s.events k (front s.kind s.events k new)
  playable =
      let rows = (file_table_made S nodes w.passed).table.is_table.3 in
      let first = rows.numbering.complete [] tt in
      let size = k * S.events * entry_width S.kind in
      subst (λ (x : Setup). Playable x.kind x.events k (front x.kind x.events k new)) (sym is)
      record {
        few_events = w.few_events;
        few_states = w.few_states;
        some_states = omega (arith, first.1, rows.count, w.states_are);
        whole = omega (arith, length-take-le size new w.table_in);
        nexts = λ q e hq he.
            let r = (rows.nexts q e (omega (arith, w.states_are)) he).0 in
            let z : (machine_of S.kind S.events (take size new)).next q e ≡ (machine_of S.kind S.events (pair_table S nodes)).next q e =
            ap (λ (l : List ℕ). (machine_of S.kind S.events l).next q e) w.table_taken in
            omega (arith, w.states_are, r, z);
      }

  pub replay_made :
      {word to to' : List ℕ} {r : Result (Unit {0}) Refusal} → Replays s.kind s.events (front s.kind s.events k new) word to to' r
      → (r ≡ replay_answer F (read t) word to) × (to' ≡ replay_after F (read t) word to)
  unfolding replay_answer replay_after file_replay_refusal
  replay_made {word} {to} {to'} {r} g =
      let h = subst (λ (x : Setup). Replays x.kind x.events (front x.kind x.events k new) word to to' r) is g in
      let a : file_replay_refusal S nodes word to ≡ word_refusal S.kind S.events word to =
      or_none (word_refusal S.kind S.events word to) (pair_table_refusal S nodes) w.passed in (
        h.answer ∙ sym (ap (λ (o : Outcome F.Inside). replay_answer F o word to) w.reads ∙ ap judgement a),
        h.buffer
            ∙ ap (λ (l : List ℕ). put_unless (word_refusal S.kind S.events word to) (played S.kind S.events l word) to) w.table_taken
            ∙ sym (ap (λ (o : Outcome F.Inside). replay_after F o word to) w.reads
            ∙ ap (λ (o : Option Refusal). put_unless o (played S.kind S.events (pair_table S nodes) word) to) a),
      )

  pub whole : k * s.events * entry_width s.kind ≤ length new
  whole = subst (λ (x : Setup). k * x.events * entry_width x.kind ≤ length new) (sym is) w.table_in

  same_trial : (states start : ℕ) (device : List ℕ) → held_trial s k new states start device ≡ file_trial S nodes states start device
  same_trial states start device =
      ap (λ (x : Setup). held_trial x k new states start device) is
      ∙ ap₂ (λ (j : ℕ) (l : List ℕ). input S j l states start device) w.states_are w.table_taken

  pub trial_made :
      (states start : ℕ) (device word word' : List ℕ) (r : Answer)
      → r ≡ trial_answer device_limit table_limit (held_trial s k new states start device) word
      → word' ≡ trial_buffer device_limit table_limit (held_trial s k new states start device) word
      → (r ≡ file_trial_answer F (read t) states start device word)
      × (word' ≡ file_trial_buffer F (read t) states start device word)
  unfolding file_trial_answer file_trial_buffer file_trial_refusal trial_answer trial_buffer
  trial_made states start device word word' r e f =
      let x = same_trial states start device in
      let y = file_trial S nodes states start device in
      let a : file_trial_refusal S nodes states start device word ≡ trial_refusal device_limit table_limit y word =
      or_none (trial_refusal device_limit table_limit y word) (pair_table_refusal S nodes) w.passed in (
        e ∙ ap (λ (z : TrialInput). trial_answer device_limit table_limit z word) x
            ∙ sym (ap (λ (o : Outcome F.Inside). file_trial_answer F o states start device word) w.reads
            ∙ ap (λ (o : Option Refusal). answered o (found_answer y)) a),
        f ∙ ap (λ (z : TrialInput). trial_buffer device_limit table_limit z word) x
            ∙ sym (ap (λ (o : Outcome F.Inside). file_trial_buffer F o states start device word) w.reads
            ∙ ap (λ (o : Option Refusal). buffer_unless o (first_failure y) word) a),
      )

-- ---- what was made of a file of either form, by the numbers that were answered
pub record MadeFile (form : Form) (t meet old meet' new : List ℕ) (m : Made) : Type 0 where
  pub numbers : (file_form form).Numbers
  pub of : MadeOf (file_form form) (reader form) t (meet_buffer form meet) old (meet_buffer form meet') new numbers m.states
  pub setup_is : held_setup m meet' ≡ (file_form form).setup_of of.inside
  pub entries_in : m.entries ≤ length meet'

made_file :
    (form : Form) {t meet old meet' new : List ℕ} (file : FileTable (file_form form).Numbers)
    → CompilesBy (file_form form) (reader form) t (meet_buffer form meet) old (meet_buffer form meet') new (Ok file)
    → MadeFile form t meet old meet' new (made_of form file)
made_file NumberForm file k =
    let w = made_of_by number_file read_file k refl in
    record {
      numbers = file.numbers;
      of = w;
      setup_is =
          ap₂ (λ (z : FileNumbers) (m : List ℕ). setup_of_kind z.events (Numbered z.values) z.top m) w.numbers_are (limits w).entries_taken;
      entries_in = (limits w).entries_in;
    }
made_file RegisterForm file k =
    let w = made_of_by register_file read_register_file k refl in
    record {
      numbers = file.numbers;
      of = w;
      setup_is = ap (λ (z : RegisterNumbers). register_setup z.events z.lines) w.numbers_are;
      entries_in = omega arith;
    }

module _ {form : Form} {t meet old meet' new : List ℕ} {r : Result Made Refusal} (k : Compiles form t meet old meet' new r) where
  pub unmade : {q : Refusal} → r ≡ Err q → Unmade (file_form form) (reader form) t (meet_buffer form meet) old q × (new ≡ old)
  unmade {q} is = go k.file refl (sym k.made ∙ is)
    where
      go : (file : Result (FileTable (file_form form).Numbers) Refusal) → k.file ≡ file → made_answer form file ≡ Err q
          → Unmade (file_form form) (reader form) t (meet_buffer form meet) old q × (new ≡ old)
      go (Ok file) e f = let z : ◌≡◌ {A = ℕ} 0 1 = cc in absurd (omega arith)
      go (Err p) e f = let z : p ≡ q = cc in unmade_by (file_form form) (reader form) k.by_form (e ∙ ap Err z)

  pub made : {m : Made} → r ≡ Ok m → MadeFile form t meet old meet' new m
  made {m} is = go k.file refl (sym k.made ∙ is)
    where
      go : (file : Result (FileTable (file_form form).Numbers) Refusal) → k.file ≡ file → made_answer form file ≡ Ok m → MadeFile form t meet old meet' new m
      go (Err p) e f = let z : ◌≡◌ {A = ℕ} 0 1 = cc in absurd (omega arith)
      go (Ok file) e f =
          let z : made_of form file ≡ m = cc in
          subst (MadeFile form t meet old meet' new) z
          (made_file form file
          (subst (CompilesBy (file_form form) (reader form) t (meet_buffer form meet) old (meet_buffer form meet') new) e k.by_form))

-- What each form's own call answers.
module _ {form : Form} {t meet to meet' to' : List ℕ} {r : Result Made Refusal} where
  pub compiled_numbers :
      {x : Result (FileTable FileNumbers) Refusal} → form ≡ NumberForm → CompilesFile t meet to meet' to' x → r ≡ made_answer NumberForm x
      → Compiles form t meet to meet' to' r
  compiled_numbers {x} is k e =
      subst (λ (f : Form). Compiles f t meet to meet' to' r) (sym is) record { file = x; by_form = k; made = e }

  pub compiled_register :
      {x : Result (FileTable RegisterNumbers) Refusal} → form ≡ RegisterForm → CompilesRegisterFile t [] to [] to' x
      → r ≡ made_answer RegisterForm x → Compiles form t meet to meet' to' r
  compiled_register {x} is k e =
      subst (λ (f : Form). Compiles f t meet to meet' to' r) (sym is) record { file = x; by_form = k; made = e }

told_same : (kind : ValueKind) (top : ℕ) → told_top kind (top_of kind top) ≡ told_top kind top
told_same (Numbered values) top = refl
told_same (Register lines) top = refl

pub numbers_same : (m : Made) (meet : List ℕ) → setup_numbers (held_setup m meet) m.states ≡ made_numbers m
numbers_same m meet = ap (λ (top : ℕ). table_numbers m.states m.events (told_values m.kind) top) (told_same m.kind m.top)

module _ {form : Form} {t meet old meet' new : List ℕ} {m : Made} (f : MadeFile form t meet old meet' new m) where
  pub small : SmallNumbers m.states m.events (told_values m.kind) (told_top m.kind m.top)
  small =
      subst (SmallNumbers m.states m.events (told_values m.kind)) (told_same m.kind m.top) (numbers_small f.of f.setup_is)

  pub holds : Holds m new
  holds = record { few_events = small.few_events; few_states = small.few_states; whole = whole f.of f.setup_is }

pub form_room : (form : Form) → Roomy (file_form form) (meet_buffer form (replicate meet_limit 0))
form_room NumberForm = number_room
form_room RegisterForm = register_room

-- ---- replay by a table

-- A value has at least one byte.
pub some_width : (kind : ValueKind) → 0 < value_width kind
some_width (Numbered n) = omega arith
some_width (Register lines) = omega arith

module _ (kind : ValueKind) (events : ℕ) (table word old : List ℕ) where
  pub replays_16 : every (length word) (λ i. ltb (get_or word i 0) events) ≡ false → Replays kind events table word old old (Err EventNumber)
  unfolding word_refusal plain_unless or_else judgement put_unless
  replays_16 e =
      let a : word_refusal kind events word old ≡ some EventNumber =
      ap (λ (b : Bool). or_else (plain_unless b EventNumber) (plain_unless (leb (length word * value_width kind) (length old)) BufferLength)) e in
      record {
        answer = sym (ap judgement a);
        buffer = sym (ap (λ (o : Option Refusal). put_unless o (played kind events table word) old) a);
      }

  pub replays_13 :
      every (length word) (λ i. ltb (get_or word i 0) events) ≡ true → length old / value_width kind < length word
      → Replays kind events table word old old (Err BufferLength)
  unfolding word_refusal plain_unless or_else judgement put_unless
  replays_13 e h =
      let a : word_refusal kind events word old ≡ some BufferLength =
      ap₂ (λ (b d : Bool). or_else (plain_unless b EventNumber) (plain_unless d BufferLength)) e
      (lt-leb (length word * value_width kind) (length old) ((div-lt_iff_lt-mul (some_width kind)).0 h)) in
      record {
        answer = sym (ap judgement a);
        buffer = sym (ap (λ (o : Option Refusal). put_unless o (played kind events table word) old) a);
      }

  -- room for the values
  pub word_fits : length word ≤ length old / value_width kind → length word * value_width kind ≤ length old
  word_fits h =
      let no : ¬ (length old < length word * value_width kind) = λ l. let z = (div-lt_iff_lt-mul (some_width kind)).1 l in omega arith in
      omega arith

  pub replays_all :
      (new : List ℕ) → every (length word) (λ i. ltb (get_or word i 0) events) ≡ true → length word * value_width kind ≤ length old
      → new ≡ put (played kind events table word) old → Replays kind events table word old new (Ok tt)
  unfolding word_refusal plain_unless or_else judgement put_unless put
  replays_all new e h i =
      let a : word_refusal kind events word old ≡ none =
      ap₂ (λ (b d : Bool). or_else (plain_unless b EventNumber) (plain_unless d BufferLength)) e (le-leb (length word * value_width kind) (length old) h) in
      record {
        answer = sym (ap judgement a);
        buffer = i ∙ sym (ap (λ (o : Option Refusal). put_unless o (played kind events table word) old) a);
      }

  pub runnable :
      (n : ℕ) → Playable kind events n table → every (length word) (λ i. ltb (get_or word i 0) events) ≡ true
      → length word * value_width kind ≤ length old → Runnable kind events n table word old
  runnable n p e h =
      record {
        playable = p;
        word_in = λ i l. ltb-true (get_or word i 0) events (every_at (length word) (λ j. ltb (get_or word j 0) events) e i l);
        fits = h;
      }

-- How many values or lines there are plays no part in a run.
module _ {events n : ℕ} {table word old : List ℕ} where
  pub any_numbers : {values : ℕ} → Runnable (Numbered values) events n table word old → Runnable (Numbered 0) events n table word old
  any_numbers g =
      let p = g.playable in
      record {
        playable =
            record { few_events = p.few_events; few_states = p.few_states; some_states = p.some_states; whole = p.whole; nexts = p.nexts };
        word_in = g.word_in;
        fits = g.fits;
      }

  pub any_lines : {lines : ℕ} → Runnable (Register lines) events n table word old → Runnable (Register 0) events n table word old
  any_lines g =
      let p = g.playable in
      record {
        playable =
            record { few_events = p.few_events; few_states = p.few_states; some_states = p.some_states; whole = p.whole; nexts = p.nexts };
        word_in = g.word_in;
        fits = g.fits;
      }

-- A table that the run of its kind of values is handed.
module _ {kind : ValueKind} {events n : ℕ} (table word old : List ℕ) (p : Playable kind events n table)
    (e : every (length word) (λ i. ltb (get_or word i 0) events) ≡ true) (h : length word ≤ length old / value_width kind) where
  fits : length word * value_width kind ≤ length old
  fits = word_fits kind events table word old h

  by_kind : {x : ValueKind} → kind ≡ x → Runnable x events n table word old
  by_kind is = subst (λ (x : ValueKind). Runnable x events n table word old) is (runnable kind events table word old n p e fits)

  ran : {x : ValueKind} → kind ≡ x → {new : List ℕ} → new ≡ put (played x events table word) old → Replays kind events table word old new (Ok tt)
  ran is i = replays_all kind events table word old _ e fits (i ∙ ap (λ (x : ValueKind). put (played x events table word) old) (sym is))

  pub number_run : {values : ℕ} → kind ≡ Numbered values → Runnable (Numbered 0) events n table word old
  number_run is = any_numbers (by_kind is)

  pub masks_run : {lines : ℕ} → kind ≡ Register lines → Runnable (Register 0) events n table word old
  masks_run is = any_lines (by_kind is)

  pub number_ran : {values : ℕ} → kind ≡ Numbered values → {new : List ℕ}
      → new ≡ put (played (Numbered 0) events table word) old → Replays kind events table word old new (Ok tt)
  number_ran is i = ran is i

  pub masks_ran : {lines : ℕ} → kind ≡ Register lines → {new : List ℕ}
      → new ≡ put (played (Register 0) events table word) old → Replays kind events table word old new (Ok tt)
  masks_ran is i = ran is i

-- ---- every answer has room in a code
module _ (F : FileForm) (K : FormLaws F.Inside) (t : List ℕ) where
  pub table_small : (old : List ℕ) → SmallAnswer (table_answer F (answer_to K t) old)
  unfolding table_answer table_call_refusal
  table_small old = go (answer_to K t) refl
    where
      go : (x : Outcome F.Inside) → answer_to K t ≡ x → SmallAnswer (table_answer F x old)
      go (refused p) e = text_place K t p e
      go (contents c) e =
          let s = F.setup_of c in
          let nodes = F.nodes_of c in
          answered_small (table_call_refusal s nodes old) (setup_numbers s (pair_states s nodes))
          (or_small _ _ (pair_table_small s nodes) (plain_small _ BufferLength no_place))
          (λ z.
          let ok = (or_else_none (pair_table_refusal s nodes) _ z).0 in
          numbers_fit (told_small s (pair_states s nodes) (setup_passed s nodes ok) (file_table_made s nodes ok).few_states))

  pub replay_small : (word old : List ℕ) → SmallReplay (replay_answer F (answer_to K t) word old)
  unfolding replay_answer file_replay_refusal word_refusal
  replay_small word old = go (answer_to K t) refl
    where
      go : (x : Outcome F.Inside) → answer_to K t ≡ x → SmallReplay (replay_answer F x word old)
      go (refused p) e = text_place K t p e
      go (contents c) e =
          judged_small _
          (or_small _ _ (pair_table_small (F.setup_of c) (F.nodes_of c))
          (or_small _ _ (plain_small _ EventNumber no_place) (plain_small _ BufferLength no_place)))

  pub trial_small : (states start : ℕ) (device old : List ℕ) → SmallVerdict (file_trial_answer F (answer_to K t) states start device old)
  unfolding file_trial_answer file_trial_refusal
  trial_small states start device old = go (answer_to K t) refl
    where
      go : (x : Outcome F.Inside) → answer_to K t ≡ x → SmallVerdict (file_trial_answer F x states start device old)
      go (refused p) e = text_place K t p e
      go (contents c) e =
          let s = F.setup_of c in
          let nodes = F.nodes_of c in
          let x = file_trial s nodes states start device in
          verdict_answered (file_trial_refusal s nodes states start device old) (found_answer x)
          (or_small _ _ (pair_table_small s nodes) (file_trial_small x old))
          (λ z. found_small x old (or_else_none (pair_table_refusal s nodes) _ z).1)
