-- The bytes of a file that are judged: entries and nodes above the limits are not, and yet the refusal is that of the file's numbers.
use Prim.Native.Nat.{ℕ, ◌*◌, ◌/◌, ◌≤◌, ◌<◌}
use mathlib.Core.{Path.{◌≡◌, refl, sym, ap, ◌∙◌, subst⁻¹}, List.{List, []}, Bool.{Bool, true, false, cond}, Option.{Option, none, some}}
use native.Mathlib.{Omega.{arith}, Nat.{mul-le-mul}}
use borrow.Author.Tests.{le-leb, leb-true, leb-false}
use lib.{Dec.{leb}, ListN.{length, take, drop, replicate, length-replicate}, Seq.{take_at}}
use Rattle.theory.proofs.ValueSets.{and_left}
use Rattle.limits.specs.Limits.{meet_limit, node_limit}
use Rattle.refusal.specs.{declared.Refusal.{Refusal}, declared.Refusal.TheVariants.{NodeCount, SetupEvents}}
use Rattle.refusal.specs.RefusalAnswers.{or_else, plain_unless}
use Rattle.refusal.specs.Refusal.{put}
use Rattle.refusal.proofs.Refusals.{or_else_none, plain_none}
use Rattle.values.specs.declared.{ValueKind.{ValueKind}, ValueKind.TheVariants.{Numbered}}
use Rattle.values.specs.Setup.{setup}
use Rattle.values.specs.SetupInOrder.{AcceptedSetup}
use Rattle.values.specs.SetupTests.{events_test, values_test, meet_test, kind_refusal, setup_refusal}
use Rattle.values.proofs.Setups.{values_small, square_small, meet_test_length, setup_accepted}
use Rattle.formulas.specs.{RuleConditions.{node_width}, RuleRefusal.{count_fits, rule_refusal}}
use Rattle.formulas.proofs.Decoding.{CountFits, count_facts}
use Rattle.text_format.specs.Format.{Outcome, contents, refused}
use Rattle.channel_file.specs.{ChannelFile.{Contents}, Reading.{read_file}}
use Rattle.channel_file.specs.{Bytes.{entry, node, meet_bytes, rule_bytes, put_front, stored_meet, stored_rule, arrays_of}, Reading.{form_of}}
use Rattle.channel_file.specs.declared.ReadArrays.{ReadArrays}
use Rattle.channel_file.proofs.Buffers.{encoded_length, front_whole}
use Rattle.channel_io.specs.FileConditions.{file_setup, file_numbers, number_file}
use Rattle.channel_file.specs.ChannelFile.{node_numbers, rule_numbers}
use Rattle.channel_io.specs.FileRefusals.{pair_refusal, contents_refusal}
use Rattle.channel_io.specs.Steps.{shown_entries, shown_nodes, numbers_in, held_setup, held_nodes}
use Rattle.channel_io.proofs.Pairs.{OffForm, Judging, judging_as}
use Rattle.channel_io.proofs.Clamping.{meet_clamped, rule_clamped, setup_same, rule_same, limits, nothing_clamped}
use Rattle.std.specs.Prelude.{Err, Ok}

-- ---- lengths

entries_length : (c : Contents) → length (meet_bytes c) ≡ length c.meet
entries_length c = omega (arith, encoded_length entry 1 (λ a. refl) c.meet)

nodes_length : (c : Contents) → length (rule_bytes c) ≡ 3 * length c.rule
nodes_length c = omega (arith, encoded_length node 3 (λ a. refl) c.rule)

pub numbers_length : (c : Contents) → length (rule_numbers c) ≡ 3 * length c.rule
numbers_length c = omega (arith, encoded_length node_numbers 3 (λ a. refl) c.rule)

-- ---- 1 to 3

-- a table that is not whole is one whatever its entries are
length_at_fault :
    (events values top : ℕ) (meet other : List ℕ) → (values_test values top ≡ true → meet_test values top meet ≡ false)
    → (values_test values top ≡ true → meet_test values top other ≡ false) → setup_refusal (setup events values top meet)
    ≡ setup_refusal (setup events values top other)
unfolding setup_refusal kind_refusal or_else plain_unless
length_at_fault events values top meet other h g = ap (or_else (plain_unless (events_test events) SetupEvents)) (go (values_test values top) refl)
  where
    go : (b : Bool) → values_test values top ≡ b → kind_refusal (Numbered values) top meet ≡ kind_refusal (Numbered values) top other
    go true e = rw (h e, g e)
    go false e = rw e

some_values : (values top : ℕ) → values_test values top ≡ true → 1 ≤ values
unfolding values_test
some_values values top e = leb-true 1 values (and_left (leb 1 values) _ e)

shown_setup : (c : Contents) → setup_refusal (setup c.events c.values c.top (shown_entries c)) ≡ setup_refusal (file_setup c)
shown_setup c = go (leb (length c.meet) meet_limit) refl
  where
    go : (b : Bool) → leb (length c.meet) meet_limit ≡ b
        → setup_refusal (setup c.events c.values c.top (cond b (meet_bytes c) [])) ≡ setup_refusal (file_setup c)
    go true e =
        ap (λ (m : List ℕ). setup_refusal (setup c.events c.values c.top m)) (meet_clamped c.meet)
        ∙ setup_same c.events c.values c.top c.meet
    go false e =
        let long = leb-false (length c.meet) meet_limit e in
        length_at_fault c.events c.values c.top [] c.meet
        (λ v. meet_test_length c.values c.top [] (λ z.
        let some = some_values c.values c.top v in omega (arith, mul-le-mul some some)))
        (λ v. meet_test_length c.values c.top c.meet (λ z. omega (arith, square_small (values_small c.values c.top v))))

-- ---- 5 to 9

-- over the limit, or no nodes
pub count_at_fault : (events : ℕ) (kind : ValueKind) (rule other : List ℕ) → count_fits (node_width kind) node_limit (length rule) ≡ false
    → count_fits (node_width kind) node_limit (length other) ≡ false → rule_refusal events kind rule ≡ rule_refusal events kind other
unfolding rule_refusal or_else plain_unless
count_at_fault events kind rule other h g = rw (h, g)

pub many_nodes : (width n : ℕ) → node_limit < n / width → count_fits width node_limit n ≡ false
many_nodes width n h = go (count_fits width node_limit n) refl
  where
    go : (b : Bool) → count_fits width node_limit n ≡ b → b ≡ false
    go true e = let w : CountFits width node_limit n = count_facts width node_limit n e in absurd (omega (arith, w.within))
    go false e = refl

no_nodes : count_fits 3 node_limit 0 ≡ false
unfolding count_fits
no_nodes = refl

shown_rule : (c : Contents) → c.events ≤ 255 → c.values ≤ 255
    → rule_refusal c.events (Numbered c.values) (shown_nodes c) ≡ rule_refusal c.events (Numbered c.values) (rule_numbers c)
shown_rule c he hv = go (leb (length c.rule) node_limit) refl
  where
    go : (b : Bool) → leb (length c.rule) node_limit ≡ b
        → rule_refusal c.events (Numbered c.values) (cond b (rule_bytes c) []) ≡ rule_refusal c.events (Numbered c.values) (rule_numbers c)
    go true e =
        ap (rule_refusal c.events (Numbered c.values)) (rule_clamped c.rule) ∙ rule_same c.values (rule_numbers c) c.events he hv
    go false e =
        let long = leb-false (length c.rule) node_limit e in
        count_at_fault c.events (Numbered c.values) [] (rule_numbers c) no_nodes (many_nodes 3 (length (rule_numbers c)) (omega
        (arith, numbers_length c)))

-- ---- a file

pub file_shown : (c : Contents) → pair_refusal (setup c.events c.values c.top (shown_entries c)) (shown_nodes c) ≡ contents_refusal c
unfolding pair_refusal or_else
file_shown c =
    ap (λ (o : Option Refusal). or_else o (rule_refusal c.events (Numbered c.values) (shown_nodes c))) (shown_setup c)
    ∙ go (setup_refusal (file_setup c)) refl
  where
    go : (o : Option Refusal) → setup_refusal (file_setup c) ≡ o
        → or_else (setup_refusal (file_setup c)) (rule_refusal c.events (Numbered c.values) (shown_nodes c))
        ≡ or_else (setup_refusal (file_setup c)) (rule_refusal c.events (Numbered c.values) (rule_numbers c))
    go none e =
        let h = limits c.events c.values c.top c.meet e in
        ap (or_else (setup_refusal (file_setup c))) (shown_rule c (omega (arith, h.0)) (omega (arith, h.1)))
    go (some r) e = rw e

-- of an accepted one all is judged, and nothing is clamped
pub all_shown : (c : Contents) → contents_refusal c ≡ none → (shown_entries c ≡ c.meet) × (shown_nodes c ≡ rule_numbers c)
unfolding pair_refusal rule_refusal
all_shown c e =
    let p = or_else_none (setup_refusal (file_setup c)) (rule_refusal c.events (Numbered c.values) (rule_numbers c)) e in
    let w : AcceptedSetup (file_setup c) = (setup_accepted (file_setup c)).0 p.0 in
    let whole : length c.meet ≡ c.values * c.values = w.of_kind.whole in
    let few = square_small w.of_kind.few_values in
    let fits : CountFits 3 node_limit (length (rule_numbers c)) =
    count_facts 3 node_limit (length (rule_numbers c))
    (plain_none (count_fits 3 node_limit (length (rule_numbers c))) NodeCount
    (or_else_none (plain_unless (count_fits 3 node_limit (length (rule_numbers c))) NodeCount) _ p.1).0) in
    let n = nothing_clamped c e in (
      ap (λ (b : Bool). cond b (meet_bytes c) []) (le-leb (length c.meet) meet_limit (omega arith)) ∙ n.0,
      ap (λ (b : Bool). cond b (rule_bytes c) []) (le-leb (length c.rule) node_limit (omega (arith, fits.within, numbers_length c))) ∙ n.1,
    )

-- ---- what is held of a text

-- the set-up and the nodes that are judged of contents
contents_judging : (t : List ℕ) (c : Contents) → read_file t ≡ contents c
    → Judging number_file (read_file t) (file_numbers c) (setup c.events c.values c.top (shown_entries c)) (shown_nodes c)
contents_judging t c e =
    record {
      inside = c;
      answer = e;
      numbers_are = refl;
      judged =
          record {
            same = file_shown c;
            setups = λ ok. ap (λ (l : List ℕ). setup c.events c.values c.top l) (all_shown c ok).0;
            rules = λ ok. (all_shown c ok).1;
          };
    }

-- the bytes that were stored stand at the front
pub front : (s old : List ℕ) (n : ℕ) → length s ≤ length old → n ≡ length s → take n (put_front s old) ≡ s
unfolding put
front s old n h l = ap (take n) (front_whole s old h) ∙ take_at s (drop (length s) old) n (sym l)

module _ (c : Contents) where
  entries_held : take (cond (leb (length c.meet) meet_limit) (length c.meet) 0) (put_front (meet_bytes c) (replicate meet_limit 0)) ≡ shown_entries c
  entries_held = go (leb (length c.meet) meet_limit) refl
    where
      go : (b : Bool) → leb (length c.meet) meet_limit ≡ b
          → take (cond b (length c.meet) 0) (put_front (meet_bytes c) (replicate meet_limit 0)) ≡ cond b (meet_bytes c) []
      go true f =
          let h = leb-true (length c.meet) meet_limit f in
          front (meet_bytes c) (replicate meet_limit 0) (length c.meet) (omega (arith, entries_length c, length-replicate {A = ℕ} meet_limit 0))
          (sym (entries_length c))
      go false f = refl

  nodes_held : take (3 * cond (leb (length c.rule) node_limit) (length c.rule) 0) (put_front (rule_bytes c) (replicate (node_limit * 3) 0))
      ≡ shown_nodes c
  nodes_held = go (leb (length c.rule) node_limit) refl
    where
      go : (b : Bool) → leb (length c.rule) node_limit ≡ b
          → take (3 * cond b (length c.rule) 0) (put_front (rule_bytes c) (replicate (node_limit * 3) 0)) ≡ cond b (rule_bytes c) []
      go true f =
          let h = leb-true (length c.rule) node_limit f in
          front (rule_bytes c) (replicate (node_limit * 3) 0) (3 * length c.rule)
          (omega (arith, nodes_length c, length-replicate {A = ℕ} (node_limit * 3) 0)) (sym (nodes_length c))
      go false f = refl

-- a text that was read into arrays is refused with 4,
pub off_form : (t : List ℕ) {q : Refusal} → Err q ≡ arrays_of (read_file t) → OffForm (read_file t) q
off_form t {q} e = go (read_file t) refl e
  where
    go : (x : Outcome Contents) → read_file t ≡ x → Err q ≡ arrays_of x → OffForm (read_file t) q
    go (contents c) r g = let z : ◌≡◌ {A = ℕ} 0 1 = cc in absurd (omega arith)
    go (refused p) r g = record { place = p; answer = r; is = cc }

-- or judged by what the arrays hold
abbrev stored : Contents → ReadArrays
stored c =
    record {
      form = form_of c;
      meet = stored_meet (contents c) (replicate meet_limit 0);
      rule = stored_rule (contents c) (replicate (node_limit * 3) 0);
    }

pub holds : (t : List ℕ) {a : ReadArrays} → Ok a ≡ arrays_of (read_file t)
    → Judging number_file (read_file t) (numbers_in a.form) (held_setup a) (held_nodes a)
holds t {a} e = go (read_file t) refl e
  where
    go : (x : Outcome Contents) → read_file t ≡ x → Ok a ≡ arrays_of x
        → Judging number_file (read_file t) (numbers_in a.form) (held_setup a) (held_nodes a)
    go (contents c) r g =
        let is : a ≡ stored c = cc in
        subst⁻¹ (λ (z : ReadArrays). Judging number_file (read_file t) (numbers_in z.form) (held_setup z) (held_nodes z)) is
        (judging_as refl (ap (λ (l : List ℕ). setup c.events c.values c.top l) (entries_held c)) (nodes_held c) (contents_judging t c r))
    go (refused p) r g = let z : ◌≡◌ {A = ℕ} 0 1 = cc in absurd (omega arith)
