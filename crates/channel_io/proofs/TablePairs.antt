-- The table of a set-up and a rule: what is made where 1 to 3 and 5 to 10 are not met, and the answers of the functions that make it.
use Prim.Native.Nat.{ℕ, ◌*◌, ◌≤◌, ◌<◌}
use mathlib.Core.{Path.{◌≡◌, refl, sym, ap, ◌∙◌, subst}, List.{List, [], ◌++◌, append-nil}, Bool.{Bool, true, false, cond, ◌&&◌}}
use mathlib.Core.Option.{Option, none, some}
use native.Mathlib.{Omega.{arith}, Nat.{mul-le-mul}}
use lib.{Dec.{leb, ltb}, ListN.{length, take, drop, replicate, length-replicate, drop_of_length-le}, Seq.{take-length, drop-length}}
use borrow.Author.Tests.{le-leb, lt-leb, leb-true, ltb-true, ltb-false}
use Rattle.limits.specs.Limits.{state_limit}
use Rattle.theory.proofs.{ReachableStates.{table_nonempty}, ValueSets.{and_left, and_failed}}
use Rattle.refusal.specs.{declared.Refusal.{Refusal}, declared.Refusal.TheVariants.{BufferLength}}
use Rattle.refusal.specs.RefusalAnswers.{or_else, plain_unless, answered, put_unless}
use Rattle.refusal.specs.Refusal.{put}
use Rattle.refusal.proofs.Refusals.{answered_accepted, answered_refused, or_else_assoc, or_else_none, plain_none}
use Rattle.values.specs.{declared.ValueKind.{ValueKind}, declared.ValueKind.TheVariants.{Numbered, Register}, Setup.{Setup, setup_meet, setup_top}}
use Rattle.values.specs.SetupInOrder.{AcceptedSetup}
use Rattle.values.specs.SetupTests.{setup_refusal}
use Rattle.values.proofs.Setups.{setup_accepted}
use Rattle.machines.specs.TableBytes.{entry_width, entry_bytes, machine_of}
use Rattle.machines.proofs.{EntryBytes.{table_length}, TableRoundTrip.{entry_length}}
use Rattle.synthesis.specs.{Compilation.{rule_table, rule_table_refusal, setup_states, compile_refusal, compile_contents}, Claims.{RuleTable}}
use Rattle.synthesis.proofs.CompileClaims.{compile_claim}
use Rattle.channel_io.specs.FileRefusals.{pair_states, pair_table, pair_table_refusal, has_table_room, pair_compile_refusal}
use Rattle.channel_io.specs.Steps.{Makes}
use Rattle.std.specs.Prelude.{Err, Ok, Result}

-- ---- a set-up of either kind and a rule that are compiled
module _ (s : Setup) (rule : List ℕ) where
  abbrev P : Option Refusal
  P = pair_table_refusal s rule

  abbrev rows : List ℕ
  rows = pair_table s rule

  pub rows_length : length rows ≡ pair_states s rule * s.events * entry_width s.kind
  rows_length =
      table_length ℕ (entry_bytes s.kind) (entry_width s.kind) (entry_length s.kind) s.events
      (rule_table s.kind s.events (setup_top s) s.meet rule state_limit) (pair_states s rule)

  pub compile_as : (old : List ℕ) → compile_refusal state_limit s rule old ≡ or_else P (plain_unless (leb (length rows) (length old)) BufferLength)
  unfolding compile_refusal pair_table_refusal
  compile_as old =
      or_else_assoc (setup_refusal s) (rule_table_refusal s.kind s.events (setup_top s) s.meet rule state_limit) _
      ∙ ap (λ (n : ℕ). or_else P (plain_unless (leb n (length old)) BufferLength)) (sym rows_length)

  pub contents_as : (old : List ℕ) (o : Option Refusal) → compile_refusal state_limit s rule old ≡ o → compile_contents state_limit s rule old
      ≡ put_unless o rows old
  unfolding compile_contents
  contents_as old o e = ap (λ (x : Option Refusal). put_unless x rows old) e

  -- where 1 to 3 and 5 to 10 are not met
  module _ (ok : P ≡ none) where
    pub compile_passed : (old : List ℕ) → length rows ≤ length old → compile_refusal state_limit s rule old ≡ none
    unfolding or_else plain_unless
    compile_passed old h =
        compile_as old ∙ ap (λ (o : Option Refusal). or_else o (plain_unless (leb (length rows) (length old)) BufferLength)) ok
        ∙ ap (λ (b : Bool). plain_unless b BufferLength) (le-leb (length rows) (length old) h)

    -- a buffer that has just room for the table
    abbrev room : List ℕ
    room = replicate (length rows) 0

    room_passed : compile_refusal state_limit s rule room ≡ none
    room_passed = compile_passed room (omega (arith, length-replicate {A = ℕ} (length rows) 0))

    room_contents : compile_contents state_limit s rule room ≡ rows
    unfolding put_unless put
    room_contents =
        contents_as room none room_passed
        ∙ ap (λ (l : List ℕ). rows ++ l) (drop_of_length-le room {i = length rows} (omega (arith, length-replicate {A = ℕ} (length rows) 0)))
        ∙ append-nil rows

    pub few_states : pair_states s rule ≤ state_limit
    few_states = (compile_claim.accepted state_limit s rule room room_passed).few

    pub table_made : RuleTable (setup_meet s) (setup_top s) s.events s.kind rule (pair_states s rule) (machine_of s.kind s.events rows)
    table_made =
        subst (λ (l : List ℕ). RuleTable (setup_meet s) (setup_top s) s.events s.kind rule (pair_states s rule) (machine_of s.kind s.events l))
        room_contents (compile_claim.accepted state_limit s rule room room_passed).table

    pub setup_passed : AcceptedSetup s
    unfolding pair_table_refusal
    setup_passed = (setup_accepted s).0 (or_else_none (setup_refusal s) _ ok).0

    some_states : 1 ≤ pair_states s rule
    some_states =
        let t = table_made.is_table in
        table_nonempty s.events t.0 t.1 (pair_states s rule) (machine_of s.kind s.events rows) t.3

some_width : (kind : ValueKind) → 1 ≤ entry_width kind
some_width (Numbered values) = omega arith
some_width (Register lines) = omega arith

-- ---- the table and the meet entries, into two buffers
module _ (s : Setup) (rule meet to : List ℕ) where
  some_rows : pair_table_refusal s rule ≡ none → 0 < length (pair_table s rule)
  some_rows ok =
      omega (
        arith,
        rows_length s rule,
        mul-le-mul (mul-le-mul (some_states s rule ok) (setup_passed s rule ok).some_events) (some_width s.kind),
      )

  abbrev Q : Option Refusal
  Q = pair_table_refusal s rule

  abbrev R : Option Refusal
  R = pair_compile_refusal s rule meet to

  makes : (o : Option Refusal) {meet' to' : List ℕ} {r : Result ℕ Refusal} → R ≡ o → r ≡ answered o (pair_states s rule)
      → meet' ≡ put_unless o s.meet meet → to' ≡ put_unless o (pair_table s rule) to → Makes s rule meet to meet' to' r
  makes o e a m k = record { answer = rw e a; meet_is = rw e m; table_is = rw e k }

  abbrev later : Bool → Option Refusal
  later b = or_else Q (plain_unless b BufferLength)

  -- no table has room in no bytes
  none_fits : later (leb (length (pair_table s rule)) 0) ≡ later false
  unfolding or_else
  none_fits = go Q refl
    where
      go : (o : Option Refusal) → Q ≡ o
          → or_else o (plain_unless (leb (length (pair_table s rule)) 0) BufferLength) ≡ or_else o (plain_unless false BufferLength)
      go none e = ap (λ (b : Bool). plain_unless b BufferLength) (lt-leb (length (pair_table s rule)) 0 (some_rows e))
      go (some r) e = refl

  entries_short : length meet < length s.meet → R ≡ later false
  unfolding pair_compile_refusal has_table_room
  entries_short h = ap later (and_failed (leb (length (pair_table s rule)) (length to)) (lt-leb (length s.meet) (length meet) h))

  entries_fit : length s.meet ≤ length meet → R ≡ later (leb (length (pair_table s rule)) (length to))
  unfolding pair_compile_refusal has_table_room
  entries_fit h = ap (λ (b : Bool). later (b && leb (length (pair_table s rule)) (length to))) (le-leb (length s.meet) (length meet) h)

  pub room_found : R ≡ none → length s.meet ≤ length meet
  unfolding pair_compile_refusal has_table_room
  room_found e =
      let h = plain_none (has_table_room s rule meet to) BufferLength (or_else_none Q _ e).1 in
      leb-true (length s.meet) (length meet) (and_left (leb (length s.meet) (length meet)) _ h)

  -- What the compiler answers for the front of j bytes, of which there are none where the entries have no room, is the call's answer; and
  -- the buffer is then as the call leaves it.
  record Compiled (j : ℕ) : Type 0 where
    same : compile_refusal state_limit s rule (take j to) ≡ R
    after : (o : Option Refusal) → R ≡ o → compile_contents state_limit s rule (take j to) ++ drop j to ≡ put_unless o (pair_table s rule) to

  nothing_put : length meet < length s.meet → (o : Option Refusal) → R ≡ o
      → compile_contents state_limit s rule [] ++ to ≡ put_unless o (pair_table s rule) to
  unfolding put_unless
  nothing_put h none q = let l = room_found q in absurd (omega arith)
  nothing_put h (some r) q =
      ap (λ (l : List ℕ). l ++ to) (contents_as s rule [] (some r) (compile_as s rule [] ∙ none_fits ∙ sym (entries_short h) ∙ q))

  compiled : (j : ℕ) → j ≡ cond (ltb (length meet) (length s.meet)) 0 (length to) → Compiled j
  compiled j is = go (ltb (length meet) (length s.meet)) refl
    where
      go : (b : Bool) → ltb (length meet) (length s.meet) ≡ b → Compiled j
      go true e =
          let h = ltb-true (length meet) (length s.meet) e in
          let z : j ≡ 0 = is ∙ ap (λ (b : Bool). cond b 0 (length to)) e in
          subst Compiled (sym z) (record {
            same = compile_as s rule [] ∙ none_fits ∙ sym (entries_short h);
            after = nothing_put h;
          })
      go false e =
          let h = ltb-false (length meet) (length s.meet) e in
          let z : j ≡ length to = is ∙ ap (λ (b : Bool). cond b 0 (length to)) e in
          let same : compile_refusal state_limit s rule to ≡ R = compile_as s rule to ∙ sym (entries_fit h) in
          let all : take j to ≡ to = ap (λ (i : ℕ). take i to) z ∙ take-length to in
          let none_left : drop j to ≡ [] = ap (λ (i : ℕ). drop i to) z ∙ drop-length to in
          record {
            same = ap (compile_refusal state_limit s rule) all ∙ same;
            after = λ o q.
                ap (λ (l : List ℕ). compile_contents state_limit s rule (take j to) ++ l) none_left ∙ append-nil _
                ∙ ap (compile_contents state_limit s rule) all ∙ contents_as s rule to o (same ∙ q);
          }

  -- the room in the table's buffer, found by the meet entries
  module _ {entries : List ℕ} {j : ℕ} (entries_are : entries ≡ s.meet) (room_is : j ≡ cond (ltb (length meet) (length entries)) 0 (length to)) where
    is : j ≡ cond (ltb (length meet) (length s.meet)) 0 (length to)
    is = room_is ∙ ap (λ (l : List ℕ). cond (ltb (length meet) (length l)) 0 (length to)) entries_are

    pub room_within : j ≤ length to
    room_within = go (ltb (length meet) (length s.meet)) is
      where
        go : (b : Bool) → j ≡ cond b 0 (length to) → j ≤ length to
        go true e = omega arith
        go false e = omega arith

    -- what the compiler answered
    module _ {x : Result ℕ Refusal} (compiles : x ≡ answered (compile_refusal state_limit s rule (take j to)) (setup_states state_limit s rule)) where
      pub entries_in : {i : ℕ} → x ≡ Ok i → length entries ≤ length meet
      entries_in {i} e =
          let h = room_found (sym (compiled j is).same ∙ (answered_accepted _ (setup_states state_limit s rule) i (sym compiles ∙ e)).0) in
          omega (arith, ap length entries_are)

      -- and left in front, with what lies behind
      module _ {front : List ℕ} (is_front : front ≡ compile_contents state_limit s rule (take j to)) where
        left_as : (o : Option Refusal) → R ≡ o → front ++ drop j to ≡ put_unless o (pair_table s rule) to
        left_as o e = ap (λ (l : List ℕ). l ++ drop j to) is_front ∙ (compiled j is).after o e

        pub makes_refused : {q : Refusal} {r : Result ℕ Refusal} → r ≡ Err q → x ≡ Err q → Makes s rule meet to meet (front ++ drop j to) r
        unfolding answered put_unless
        makes_refused {q} passed e =
            let a : R ≡ some q = sym (compiled j is).same ∙ answered_refused _ (setup_states state_limit s rule) q (sym compiles ∙ e) in
            makes (some q) a passed refl (left_as (some q) a)

        pub makes_all : {i : ℕ} {meet' : List ℕ} → x ≡ Ok i → meet' ≡ put entries meet → Makes s rule meet to meet' (front ++ drop j to) (Ok i)
        unfolding answered put_unless
        makes_all {i} e m =
            let d = answered_accepted _ (setup_states state_limit s rule) i (sym compiles ∙ e) in
            let a : R ≡ none = sym (compiled j is).same ∙ d.0 in
            makes none a (ap Ok (sym d.1)) (m ∙ ap (λ (l : List ℕ). put l meet) entries_are) (left_as none a)
