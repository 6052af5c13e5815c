-- The answers of the functions that judge and keep a set-up and a rule, and of the calls on a text that they serve, case by case. For either form.
use Prim.Native.Nat.{ℕ, ◌≤◌, ◌<◌}
use mathlib.Core.{Path.{◌≡◌, refl, sym, ap, ap₂, ◌∙◌, subst}, Logic.{◌⊎◌, inl, inr}, List.{List, [], ◌∷◌}, Bool.{Bool, true, false}}
use mathlib.Core.Option.{Option, none, some}
use native.Mathlib.Omega.{arith}
use lib.{Dec.{leb}, ListN.{length}}
use borrow.Author.Tests.{le-leb, lt-leb}
use Rattle.theory.proofs.ValueSets.{and_both, and_failed, and_false_right}
use Rattle.refusal.specs.{declared.{Refusal.{Refusal}}, declared.Refusal.TheVariants.{BufferLength, TextForm}}
use Rattle.refusal.specs.{RefusalAnswers.{or_else, plain_unless, judgement, answered, put_unless}, Refusal.{put}}
use Rattle.refusal.proofs.Refusals.{judgement_accepted, judgement_refused, answered_accepted, answered_refused}
use Rattle.values.specs.{Setup.{Setup}, SetupTests.{setup_refusal}}
use Rattle.formulas.specs.RuleRefusal.{rule_refusal}
use Rattle.synthesis.specs.Compilation.{rule_table_refusal}
use Rattle.text_format.specs.Format.{Outcome, contents, refused}
use Rattle.channel_io.specs.FileRefusals.{pair_refusal, has_room, stored_refusal, pair_states, pair_table, pair_table_refusal, pair_compile_refusal}
use Rattle.channel_io.specs.{FileConditions.{FileForm}, FileReading.{meet_after, rule_after, read_answer, ReadsBy}}
use Rattle.channel_io.specs.{FileCompilation.{entries_after, table_after, with_states, file_table_answer, CompilesBy}, Steps.{Keeps, Makes}}
use Rattle.channel_io.specs.declared.FileTable.{FileTable}
use Rattle.std.specs.Prelude.{Err, Ok, Result}

-- a buffer of no bytes
no_bytes : (l : List ℕ) → length l ≡ 0 → l ≡ []
no_bytes [] e = refl
no_bytes (b ∷ l) e = absurd (omega arith)

-- ---- 1 to 3, then 5 to 9
module _ (s : Setup) (rule : List ℕ) where
  pub pair_setup : {r : Refusal} → setup_refusal s ≡ some r → pair_refusal s rule ≡ some r
  unfolding pair_refusal or_else
  pair_setup e = rw e

  pub pair_rule : setup_refusal s ≡ none → pair_refusal s rule ≡ rule_refusal s.events s.kind rule
  unfolding pair_refusal or_else
  pair_rule e = rw e

-- ---- entries and nodes put into two buffers
module _ (s : Setup) (nodes meet rule : List ℕ) where
  keeps : (o : Option Refusal) {meet' rule' : List ℕ} {r : Result (Unit {0}) Refusal} → stored_refusal s nodes meet rule ≡ o → r ≡ judgement o
      → meet' ≡ put_unless o s.meet meet → rule' ≡ put_unless o nodes rule → Keeps s nodes meet rule meet' rule' r
  keeps o e a m k = record { answer = rw e a; meet_is = rw e m; rule_is = rw e k }

  pub keeps_refused : {r : Refusal} {answer : Result (Unit {0}) Refusal} → answer ≡ Err r → judgement (pair_refusal s nodes) ≡ Err r
      → Keeps s nodes meet rule meet rule answer
  unfolding stored_refusal or_else judgement put_unless
  keeps_refused {r} passed e = let f = judgement_refused (pair_refusal s nodes) r e in keeps (some r) (rw f) passed refl refl

  room_answer : judgement (pair_refusal s nodes) ≡ (Ok tt) → (b : Bool) → has_room s nodes meet rule ≡ b
      → stored_refusal s nodes meet rule ≡ plain_unless b BufferLength
  unfolding stored_refusal or_else
  room_answer e b h = let f = judgement_accepted (pair_refusal s nodes) e in rw (f, h)

  no_room : (length meet < length s.meet) ⊎ (length rule < length nodes) → has_room s nodes meet rule ≡ false
  unfolding has_room
  no_room (inl h) = and_failed (leb (length nodes) (length rule)) (lt-leb (length s.meet) (length meet) h)
  no_room (inr h) = and_false_right (leb (length s.meet) (length meet)) (lt-leb (length nodes) (length rule) h)

  pub keeps_short : judgement (pair_refusal s nodes) ≡ (Ok tt) → (length meet < length s.meet) ⊎ (length rule < length nodes)
      → Keeps s nodes meet rule meet rule (Err BufferLength)
  unfolding plain_unless judgement put_unless
  keeps_short e h = keeps (some BufferLength) (room_answer e false (no_room h)) refl refl refl

  pub keeps_all : {meet' rule' : List ℕ} → judgement (pair_refusal s nodes) ≡ (Ok tt) → length s.meet ≤ length meet → length nodes ≤ length rule
      → meet' ≡ put s.meet meet → rule' ≡ put nodes rule → Keeps s nodes meet rule meet' rule' (Ok tt)
  unfolding plain_unless judgement put_unless has_room
  keeps_all e h g m k =
      keeps none
      (room_answer e true (and_both (le-leb (length s.meet) (length meet) h) (le-leb (length nodes) (length rule) g))) refl m k

-- ---- what is judged in bytes is judged of the file's numbers

-- Bytes are refused as the numbers are; and where these are accepted, nothing was changed.
pub record SameJudged (s₁ s : Setup) (nodes₁ nodes : List ℕ) : Type 0 where
  pub same : pair_refusal s₁ nodes₁ ≡ pair_refusal s nodes
  pub setups : pair_refusal s nodes ≡ none → s₁ ≡ s
  pub rules : pair_refusal s nodes ≡ none → nodes₁ ≡ nodes

-- these come before 10 and 13
sooner : (a b x y : Option Refusal) (r : Refusal) → or_else a b ≡ some r → or_else (or_else a (or_else b x)) y ≡ some r
unfolding or_else
sooner none none x y r e = let z : ◌≡◌ {A = ℕ} 0 1 = cc in absurd (omega arith)
sooner none (some q) x y r e = e
sooner (some q) b x y r e = e

module _ (s : Setup) (nodes : List ℕ) (q : Refusal) (e : pair_refusal s nodes ≡ some q) where
  stored_sooner : (meet rule : List ℕ) → stored_refusal s nodes meet rule ≡ some q
  unfolding stored_refusal or_else
  stored_sooner meet rule = rw e

  compile_sooner : (meet to : List ℕ) → pair_compile_refusal s nodes meet to ≡ some q
  unfolding pair_refusal pair_compile_refusal pair_table_refusal rule_table_refusal
  compile_sooner meet to = sooner (setup_refusal s) (rule_refusal s.events s.kind nodes) _ _ q e

-- beside a refusal a buffer is as before, whatever the output would be
kept_before : (output other old : List ℕ) (q : Refusal) → put_unless (some q) output old ≡ put_unless (some q) other old
unfolding put_unless
kept_before output other old q = refl

module _ {s₁ s : Setup} {nodes₁ nodes : List ℕ} (w : SameJudged s₁ s nodes₁ nodes) where
  kept_same : {meet rule meet' rule' : List ℕ} {r : Result (Unit {0}) Refusal} → Keeps s₁ nodes₁ meet rule meet' rule' r
      → Keeps s nodes meet rule meet' rule' r
  kept_same {meet} {rule} {meet'} {rule'} {r} k = go (pair_refusal s nodes) refl
    where
      go : (o : Option Refusal) → pair_refusal s nodes ≡ o → Keeps s nodes meet rule meet' rule' r
      go none e =
          subst (λ (x : Setup). Keeps x nodes meet rule meet' rule' r) (w.setups e)
          (subst (λ (y : List ℕ). Keeps s₁ y meet rule meet' rule' r) (w.rules e) k)
      go (some q) e =
          let a = stored_sooner s₁ nodes₁ q (w.same ∙ e) meet rule in
          let b = stored_sooner s nodes q e meet rule in
          record {
            answer = k.answer ∙ ap judgement (a ∙ sym b);
            meet_is =
                k.meet_is ∙ ap (λ (o : Option Refusal). put_unless o s₁.meet meet) a ∙ kept_before s₁.meet s.meet meet q
                ∙ sym (ap (λ (o : Option Refusal). put_unless o s.meet meet) b);
            rule_is =
                k.rule_is ∙ ap (λ (o : Option Refusal). put_unless o nodes₁ rule) a ∙ kept_before nodes₁ nodes rule q
                ∙ sym (ap (λ (o : Option Refusal). put_unless o nodes rule) b);
          }

  made_same : {meet to meet' to' : List ℕ} {r : Result ℕ Refusal} → Makes s₁ nodes₁ meet to meet' to' r → Makes s nodes meet to meet' to' r
  unfolding answered
  made_same {meet} {to} {meet'} {to'} {r} k = go (pair_refusal s nodes) refl
    where
      go : (o : Option Refusal) → pair_refusal s nodes ≡ o → Makes s nodes meet to meet' to' r
      go none e =
          subst (λ (x : Setup). Makes x nodes meet to meet' to' r) (w.setups e)
          (subst (λ (y : List ℕ). Makes s₁ y meet to meet' to' r) (w.rules e) k)
      go (some q) e =
          let a = compile_sooner s₁ nodes₁ q (w.same ∙ e) meet to in
          let b = compile_sooner s nodes q e meet to in
          record {
            answer =
                k.answer ∙ ap (λ (o : Option Refusal). answered o (pair_states s₁ nodes₁)) a
                ∙ sym (ap (λ (o : Option Refusal). answered o (pair_states s nodes)) b);
            meet_is =
                k.meet_is ∙ ap (λ (o : Option Refusal). put_unless o s₁.meet meet) a ∙ kept_before s₁.meet s.meet meet q
                ∙ sym (ap (λ (o : Option Refusal). put_unless o s.meet meet) b);
            table_is =
                k.table_is ∙ ap (λ (o : Option Refusal). put_unless o (pair_table s₁ nodes₁) to) a
                ∙ kept_before (pair_table s₁ nodes₁) (pair_table s nodes) to q
                ∙ sym (ap (λ (o : Option Refusal). put_unless o (pair_table s nodes) to) b);
          }

-- ---- a text

-- It is refused, with 4 at a place.
pub record OffForm {A : Type 0} (x : Outcome A) (r : Refusal) : Type 0 where
  pub place : ℕ
  pub answer : x ≡ refused place
  pub is : r ≡ TextForm place

-- It is of the form, and this set-up and these nodes are judged of it.
pub record Judging (F : FileForm) (x : Outcome F.Inside) (n : F.Numbers) (s₁ : Setup) (nodes₁ : List ℕ) : Type 0 where
  pub inside : F.Inside
  pub answer : x ≡ contents inside
  pub numbers_are : n ≡ F.numbers_of inside
  pub judged : SameJudged s₁ (F.setup_of inside) nodes₁ (F.nodes_of inside)

-- what is held as these is judged as they are
pub judging_as : {F : FileForm} {x : Outcome F.Inside} {n m : F.Numbers} {s s₁ : Setup} {nodes nodes₁ : List ℕ} → n ≡ m → s ≡ s₁ → nodes ≡ nodes₁
    → Judging F x m s₁ nodes₁ → Judging F x n s nodes
judging_as p q r h =
    record {
      inside = h.inside;
      answer = h.answer;
      numbers_are = p ∙ h.numbers_are;
      judged =
          record {
            same = ap₂ pair_refusal q r ∙ h.judged.same;
            setups = λ ok. q ∙ h.judged.setups ok;
            rules = λ ok. r ∙ h.judged.rules ok;
          };
    }

module _ {F : FileForm} {read : List ℕ → Outcome F.Inside} {t : List ℕ} (meet rule : List ℕ) where
  pub reads_off_form : {q : Refusal} {r : Result F.Numbers Refusal} → r ≡ Err q → OffForm (read t) q → ReadsBy F read t meet rule meet rule r
  unfolding read_answer meet_after rule_after
  reads_off_form passed f =
      let e = f.answer in
      record { answer = passed ∙ ap Err f.is ∙ rw e; meet_is = rw e; rule_is = rw e }

  module _ {n : F.Numbers} {s₁ : Setup} {nodes₁ meet' rule' : List ℕ} {j : Result (Unit {0}) Refusal} (h : Judging F (read t) n s₁ nodes₁)
      (k : Keeps s₁ nodes₁ meet rule meet' rule' j) where
    reads : (o : Option Refusal) {r : Result F.Numbers Refusal} → stored_refusal (F.setup_of h.inside) (F.nodes_of h.inside) meet rule ≡ o
        → r ≡ answered o (F.numbers_of h.inside) → ReadsBy F read t meet rule meet' rule' r
    unfolding read_answer meet_after rule_after
    reads o is a =
        let e = h.answer in
        let w = kept_same h.judged k in
        record {
          answer = rw e (a ∙ sym (ap (λ (x : Option Refusal). answered x (F.numbers_of h.inside)) is));
          meet_is = rw e w.meet_is;
          rule_is = rw e w.rule_is;
        }

    pub reads_refused : {q : Refusal} {r : Result F.Numbers Refusal} → r ≡ Err q → j ≡ Err q → ReadsBy F read t meet rule meet' rule' r
    unfolding answered
    reads_refused {q} passed is = reads (some q) (judgement_refused _ q (sym (kept_same h.judged k).answer ∙ is)) passed

    pub reads_held : j ≡ Ok tt → ReadsBy F read t meet rule meet' rule' (Ok n)
    unfolding answered
    reads_held is = reads none (judgement_accepted _ (sym (kept_same h.judged k).answer ∙ is)) (ap Ok h.numbers_are)

-- a file without meet entries, for which a buffer of no bytes is lent
pub reads_bare : {F : FileForm} {read : List ℕ → Outcome F.Inside} {t rule meet' rule' : List ℕ} {r : Result F.Numbers Refusal}
    → ReadsBy F read t [] rule meet' rule' r → length meet' ≡ 0 → ReadsBy F read t [] rule [] rule' r
reads_bare {F} {read} {t} {rule} {meet'} {rule'} {r} k e = subst (λ (m : List ℕ). ReadsBy F read t [] rule m rule' r) (no_bytes meet' e) k

module _ {F : FileForm} {read : List ℕ → Outcome F.Inside} {t : List ℕ} (meet to : List ℕ) where
  pub compiles_off_form : {q : Refusal} {r : Result (FileTable F.Numbers) Refusal} → r ≡ Err q → OffForm (read t) q
      → CompilesBy F read t meet to meet to r
  unfolding file_table_answer entries_after table_after
  compiles_off_form passed f =
      let e = f.answer in
      record { answer = passed ∙ ap Err f.is ∙ rw e; meet_is = rw e; table_is = rw e }

  module _ {n : F.Numbers} {s₁ : Setup} {nodes₁ meet' to' : List ℕ} {j : Result ℕ Refusal} (h : Judging F (read t) n s₁ nodes₁)
      (k : Makes s₁ nodes₁ meet to meet' to' j) where
    compiles : (o : Option Refusal) {r : Result (FileTable F.Numbers) Refusal}
        → pair_compile_refusal (F.setup_of h.inside) (F.nodes_of h.inside) meet to ≡ o
        → r ≡ answered o (with_states (F.numbers_of h.inside) (pair_states (F.setup_of h.inside) (F.nodes_of h.inside)))
        → CompilesBy F read t meet to meet' to' r
    unfolding file_table_answer entries_after table_after
    compiles o is a =
        let e = h.answer in
        let w = made_same h.judged k in
        record {
          answer = rw e
              (a ∙ sym (ap (λ (x : Option Refusal). answered x
              (with_states (F.numbers_of h.inside) (pair_states (F.setup_of h.inside) (F.nodes_of h.inside)))) is));
          meet_is = rw e w.meet_is;
          table_is = rw e w.table_is;
        }

    pub compiles_refused : {q : Refusal} {r : Result (FileTable F.Numbers) Refusal} → r ≡ Err q → j ≡ Err q → CompilesBy F read t meet to meet' to' r
    unfolding answered
    compiles_refused {q} passed is = compiles (some q) (answered_refused _ _ q (sym (made_same h.judged k).answer ∙ is)) passed

    pub compiles_held : {i : ℕ} → j ≡ Ok i → CompilesBy F read t meet to meet' to' (Ok (with_states n i))
    unfolding answered
    compiles_held {i} is =
        let d = answered_accepted _ _ i (sym (made_same h.judged k).answer ∙ is) in
        compiles none d.0 (ap₂ (λ (m : F.Numbers) (l : ℕ). Ok (with_states m l)) h.numbers_are (sym d.1))

pub compiles_bare : {F : FileForm} {read : List ℕ → Outcome F.Inside} {t to meet' to' : List ℕ} {r : Result (FileTable F.Numbers) Refusal}
    → CompilesBy F read t [] to meet' to' r → length meet' ≡ 0 → CompilesBy F read t [] to [] to' r
compiles_bare {F} {read} {t} {to} {meet'} {to'} {r} k e = subst (λ (m : List ℕ). CompilesBy F read t [] to m to' r) (no_bytes meet' e) k
