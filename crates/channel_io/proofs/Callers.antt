-- What a caller of `compile_file` knows, of any form of files, and of both.
use Prim.Native.Nat.{ℕ, ◌*◌, ◌≤◌, ◌<◌}
use mathlib.Core.{Path.{◌≡◌, refl, sym, ap, ◌∙◌, subst}, List.{List, []}, Bool.{Bool, true, ◌&&◌}}
use mathlib.Core.Option.{Option, none, some}
use native.Mathlib.Omega.{arith}
use lib.{Dec.{leb}, ListN.{length, take, drop, length-append}, Seq.{take_at}}
use borrow.Author.Tests.{le-leb}
use Rattle.limits.specs.Limits.{event_limit, value_limit, line_limit, meet_limit, state_limit}
use Rattle.refusal.specs.{declared.Refusal.{Refusal}, Refusal.{put}, RefusalAnswers.{or_else, plain_unless, put_unless}}
use Rattle.refusal.proofs.Refusals.{or_else_none, answered_accepted, answered_refused}
use Rattle.values.specs.Setup.{Setup}
use Rattle.values.proofs.Setups.{square_small}
use Rattle.machines.specs.TableBytes.{entry_width}
use Rattle.text_format.specs.Format.{Outcome, contents, refused}
use Rattle.channel_file.specs.{ChannelFile.{Contents, rule_numbers}, Reading.{read_file}}
use Rattle.channel_file.specs.RegisterReading.{read_file as read_register_file}
use Rattle.channel_io.specs.{FileConditions.{FileForm, file_setup, number_file}, RegisterFiles.{register_file}, Claims.{table_room}}
use Rattle.channel_io.specs.FileRefusals.{pair_states, pair_table, pair_table_refusal, has_table_room, pair_compile_refusal, file_table, contents_table_refusal}
use Rattle.channel_io.specs.FileCompilation.{with_states, file_table_answer, entries_after, table_after, CompilesBy, CompilesFile, CompilesRegisterFile}
use Rattle.channel_io.specs.declared.{FileNumbers.{FileNumbers}, FileTable.{FileTable}, registers.FileNumbers.{FileNumbers as RegisterNumbers}}
use Rattle.channel_io.proofs.{TablePairs.{rows_length, setup_passed}, Claims.{file_table_made}}
use Rattle.refusal.specs.declared.Refusal.TheVariants.{BufferLength, TextForm}
use Rattle.std.specs.Prelude.{Err, Ok, Result}

-- ---- where the meet entries have room
module _ (s : Setup) (nodes meet to : List ℕ) (wide : pair_table_refusal s nodes ≡ none → length s.meet ≤ length meet) where
  abbrev P : Option Refusal
  P = pair_table_refusal s nodes

  abbrev fits : Bool
  fits = leb (length (pair_table s nodes)) (length to)

  abbrev later : Bool → Option Refusal
  later b = plain_unless (b && fits) BufferLength

  -- 13 is decided by the table's buffer
  pub meet_fits : pair_compile_refusal s nodes meet to ≡ or_else P (plain_unless fits BufferLength)
  unfolding pair_compile_refusal has_table_room or_else
  meet_fits = go P refl
    where
      go : (o : Option Refusal) → P ≡ o → or_else P (later (leb (length s.meet) (length meet))) ≡ or_else P (later true)
      go none e = ap (λ (b : Bool). or_else P (later b)) (le-leb (length s.meet) (length meet) (wide e))
      go (some r) e =
          ap (λ (o : Option Refusal). or_else o (later (leb (length s.meet) (length meet)))) e ∙ sym (ap (λ (o : Option Refusal). or_else o (later true)) e)

  -- and is never met where that has room for every table
  pub table_fits : table_room s.kind ≤ length to → pair_compile_refusal s nodes meet to ≡ P
  unfolding or_else plain_unless
  table_fits h = meet_fits ∙ go P refl
    where
      go : (o : Option Refusal) → P ≡ o → or_else P (plain_unless fits BufferLength) ≡ P
      go none e =
          ap (λ (o : Option Refusal). or_else o (plain_unless fits BufferLength)) e
          ∙ ap (λ (b : Bool). plain_unless b BufferLength)
          (le-leb (length (pair_table s nodes)) (length to) (let k = (file_table_made s nodes e).few_bytes in omega arith))
          ∙ sym e
      go (some r) e = ap (λ (o : Option Refusal). or_else o (plain_unless fits BufferLength)) e ∙ sym e

-- an output at the front of a buffer
pub front_in : (output old new : List ℕ) (n : ℕ) → n ≡ length output → new ≡ put output old → n ≤ length new
unfolding put
front_in output old new n e h = omega (arith, ap length h, length-append output (drop (length output) old))

pub front_taken : (output old new : List ℕ) (n : ℕ) → n ≡ length output → new ≡ put output old → take n new ≡ output
unfolding put
front_taken output old new n e h = ap (take n) h ∙ take_at output (drop (length output) old) n (sym e)

-- ---- what was made, and what was not
module _ (F : FileForm) (read : List ℕ → Outcome F.Inside) where
  -- The table was not made: 4, or what the file's set-up and rule meet.
  pub data Unmade (t meet to : List ℕ) : Refusal → Type 0 where
    off_form : (p : ℕ) → read t ≡ refused p → Unmade t meet to (TextForm p)
    turned_away : (c : F.Inside) (r : Refusal) → read t ≡ contents c → pair_compile_refusal (F.setup_of c) (F.nodes_of c) meet to ≡ some r
        → Unmade t meet to r

  -- It was made: what stands in the buffers.
  pub record MadeOf (t meet to meet' to' : List ℕ) (n : F.Numbers) (k : ℕ) : Type 0 where
    pub inside : F.Inside
    pub reads : read t ≡ contents inside
    pub accepted : pair_compile_refusal (F.setup_of inside) (F.nodes_of inside) meet to ≡ none
    pub passed : pair_table_refusal (F.setup_of inside) (F.nodes_of inside) ≡ none
    pub numbers_are : n ≡ F.numbers_of inside
    pub states_are : k ≡ pair_states (F.setup_of inside) (F.nodes_of inside)
    pub entries_put : meet' ≡ put (F.setup_of inside).meet meet
    pub table_put : to' ≡ put (pair_table (F.setup_of inside) (F.nodes_of inside)) to
    pub some_events : 1 ≤ (F.setup_of inside).events
    pub few_events : (F.setup_of inside).events ≤ event_limit
    pub few_states : k ≤ state_limit
    pub few_bytes : k * (F.setup_of inside).events * entry_width (F.setup_of inside).kind ≤ table_room (F.setup_of inside).kind
    pub table_in : k * (F.setup_of inside).events * entry_width (F.setup_of inside).kind ≤ length to'
    pub table_taken :
        take (k * (F.setup_of inside).events * entry_width (F.setup_of inside).kind) to' ≡ pair_table (F.setup_of inside) (F.nodes_of inside)

  made_by : {t meet to meet' to' : List ℕ} {n : F.Numbers} {k : ℕ} (c : F.Inside) → read t ≡ contents c
      → pair_compile_refusal (F.setup_of c) (F.nodes_of c) meet to ≡ none → n ≡ F.numbers_of c → k ≡ pair_states (F.setup_of c) (F.nodes_of c)
      → meet' ≡ put (F.setup_of c).meet meet → to' ≡ put (pair_table (F.setup_of c) (F.nodes_of c)) to → MadeOf t meet to meet' to' n k
  unfolding pair_compile_refusal
  made_by {to = to} {to' = to'} {k = k} c e ok n j m b =
      let s = F.setup_of c in
      let nodes = F.nodes_of c in
      let passed = (or_else_none (pair_table_refusal s nodes) _ ok).0 in
      let w = setup_passed s nodes passed in
      let made = file_table_made s nodes passed in
      let size : k * s.events * entry_width s.kind ≡ length (pair_table s nodes) =
      ap (λ (i : ℕ). i * s.events * entry_width s.kind) j ∙ sym (rows_length s nodes) in
      record {
        inside = c;
        reads = e;
        accepted = ok;
        passed = passed;
        numbers_are = n;
        states_are = j;
        entries_put = m;
        table_put = b;
        some_events = w.some_events;
        few_events = w.few_events;
        few_states = omega (arith, made.few_states);
        few_bytes = omega (arith, made.few_bytes, size);
        table_in = front_in (pair_table s nodes) to to' (k * s.events * entry_width s.kind) size b;
        table_taken = front_taken (pair_table s nodes) to to' (k * s.events * entry_width s.kind) size b;
      }

  -- from the answer of a call that makes the table
  module _ {t meet to meet' to' : List ℕ} {x : Result (FileTable F.Numbers) Refusal} (k : CompilesBy F read t meet to meet' to' x) where
    pub unmade_by : {r : Refusal} → x ≡ Err r → Unmade t meet to r × (to' ≡ to)
    unfolding file_table_answer table_after put_unless
    unmade_by {r} is = go (read t) refl (sym is ∙ k.answer) k.table_is
      where
        go : (y : Outcome F.Inside) → read t ≡ y → Err r ≡ file_table_answer F y meet to → to' ≡ table_after F y meet to → Unmade t meet to r × (to' ≡ to)
        go (refused p) e f g =
            let z : TextForm p ≡ r = cc in
            (subst (Unmade t meet to) z (off_form p e), g)
        go (contents c) e f g =
            let a = answered_refused (pair_compile_refusal (F.setup_of c) (F.nodes_of c) meet to) _ r (sym f) in
            (turned_away c r e a, g ∙ ap (λ (o : Option Refusal). put_unless o (pair_table (F.setup_of c) (F.nodes_of c)) to) a)

    pub made_of_by : {made : FileTable F.Numbers} → x ≡ Ok made → MadeOf t meet to meet' to' made.numbers made.states
    unfolding file_table_answer entries_after table_after put_unless
    made_of_by {made} is = go (read t) refl (sym k.answer ∙ is) k.meet_is k.table_is
      where
        go : (y : Outcome F.Inside) → read t ≡ y → file_table_answer F y meet to ≡ Ok made → meet' ≡ entries_after F y meet to
            → to' ≡ table_after F y meet to → MadeOf t meet to meet' to' made.numbers made.states
        go (refused p) e f g h = let z : ◌≡◌ {A = ℕ} 0 1 = cc in absurd (omega arith)
        go (contents c) e f g h =
            let s = F.setup_of c in
            let nodes = F.nodes_of c in
            let a = answered_accepted (pair_compile_refusal s nodes meet to) (with_states (F.numbers_of c) (pair_states s nodes)) made f in
            made_by c e a.0 (ap (λ (z : FileTable F.Numbers). z.numbers) (sym a.1)) (ap (λ (z : FileTable F.Numbers). z.states) (sym a.1))
            (g ∙ ap (λ (o : Option Refusal). put_unless o s.meet meet) a.0)
            (h ∙ ap (λ (o : Option Refusal). put_unless o (pair_table s nodes) to) a.0)

-- ---- document 01's file

-- an accepted set-up has no more meet entries than the limit
pub few_entries : (c : Contents) → contents_table_refusal c ≡ none → length c.meet ≤ meet_limit
few_entries c ok =
    let w = setup_passed (file_setup c) (rule_numbers c) ok in
    omega (arith, w.of_kind.whole, square_small w.of_kind.few_values)

module _ {t meet to meet' to' : List ℕ} {x : Result (FileTable FileNumbers) Refusal} (k : CompilesFile t meet to meet' to' x) where
  pub unmade : {r : Refusal} → x ≡ Err r → Unmade number_file read_file t meet to r × (to' ≡ to)
  unmade = unmade_by number_file read_file k

  pub made_of : {made : FileTable FileNumbers} → x ≡ Ok made → MadeOf number_file read_file t meet to meet' to' made.numbers made.states
  made_of = made_of_by number_file read_file k

-- by the numbers that were answered
module _ {t meet to meet' to' : List ℕ} {n : FileNumbers} {k : ℕ} (w : MadeOf number_file read_file t meet to meet' to' n k) where
  pub record Limits : Type 0 where
    pub some_events : 1 ≤ n.events
    pub few_events : n.events ≤ event_limit
    pub few_values : n.values ≤ value_limit
    pub top_in : n.top < n.values
    pub few_states : k ≤ state_limit
    pub few_bytes : k * n.events * 2 ≤ table_room (file_setup w.inside).kind
    pub table_in : k * n.events * 2 ≤ length to'
    pub table_taken : take (k * n.events * 2) to' ≡ file_table w.inside
    pub entries_in : n.entries ≤ length meet'
    pub entries_taken : take n.entries meet' ≡ w.inside.meet

  pub events_are : n.events ≡ w.inside.events
  events_are = ap (λ (z : FileNumbers). z.events) w.numbers_are

  pub limits : Limits
  limits =
      let s = setup_passed (file_setup w.inside) (rule_numbers w.inside) w.passed in
      let values_are : n.values ≡ w.inside.values = ap (λ (z : FileNumbers). z.values) w.numbers_are in
      let top_is : n.top ≡ w.inside.top = ap (λ (z : FileNumbers). z.top) w.numbers_are in
      let size : k * n.events * 2 ≡ k * w.inside.events * 2 = ap (λ (e : ℕ). k * e * 2) events_are in
      let entries_are : n.entries ≡ length w.inside.meet = ap (λ (z : FileNumbers). z.entries) w.numbers_are in
      record {
        some_events = omega (arith, w.some_events, events_are);
        few_events = omega (arith, w.few_events, events_are);
        few_values = omega (arith, s.of_kind.few_values);
        top_in = omega (arith, s.laws.top_in);
        few_states = w.few_states;
        few_bytes = omega (arith, w.few_bytes, size);
        table_in = omega (arith, w.table_in, size);
        table_taken = ap (λ (i : ℕ). take i to') size ∙ w.table_taken;
        entries_in = front_in w.inside.meet meet meet' n.entries entries_are w.entries_put;
        entries_taken = front_taken w.inside.meet meet meet' n.entries entries_are w.entries_put;
      }

-- ---- a register's file

module _ {t to to' : List ℕ} {x : Result (FileTable RegisterNumbers) Refusal} (k : CompilesRegisterFile t [] to [] to' x) where
  pub register_unmade : {r : Refusal} → x ≡ Err r → Unmade register_file read_register_file t [] to r × (to' ≡ to)
  register_unmade = unmade_by register_file read_register_file k

  pub register_made_of : {made : FileTable RegisterNumbers} → x ≡ Ok made
      → MadeOf register_file read_register_file t [] to [] to' made.numbers made.states
  register_made_of = made_of_by register_file read_register_file k

-- by the numbers that were answered
module _ {t to to' : List ℕ} {n : RegisterNumbers} {k : ℕ} (w : MadeOf register_file read_register_file t [] to [] to' n k) where
  pub record RegisterLimits : Type 0 where
    pub some_events : 1 ≤ n.events
    pub few_events : n.events ≤ event_limit
    pub some_lines : 1 ≤ n.lines
    pub few_lines : n.lines ≤ line_limit
    pub few_states : k ≤ state_limit
    pub few_bytes : k * n.events * 5 ≤ table_room (register_file.setup_of w.inside).kind
    pub table_in : k * n.events * 5 ≤ length to'
    pub table_taken : take (k * n.events * 5) to' ≡ pair_table (register_file.setup_of w.inside) (register_file.nodes_of w.inside)

  pub register_events : n.events ≡ w.inside.events
  register_events = ap (λ (z : RegisterNumbers). z.events) w.numbers_are

  pub register_lines : n.lines ≡ w.inside.lines
  register_lines = ap (λ (z : RegisterNumbers). z.lines) w.numbers_are

  pub register_limits : RegisterLimits
  register_limits =
      let s = setup_passed (register_file.setup_of w.inside) (register_file.nodes_of w.inside) w.passed in
      let size : k * n.events * 5 ≡ k * w.inside.events * 5 = ap (λ (e : ℕ). k * e * 5) register_events in
      record {
        some_events = omega (arith, w.some_events, register_events);
        few_events = omega (arith, w.few_events, register_events);
        some_lines = omega (arith, s.of_kind.some_lines, register_lines);
        few_lines = omega (arith, s.of_kind.few_lines, register_lines);
        few_states = w.few_states;
        few_bytes = omega (arith, w.few_bytes, size);
        table_in = omega (arith, w.table_in, size);
        table_taken = ap (λ (i : ℕ). take i to') size ∙ w.table_taken;
      }
