-- The tests of a set-up decide refusals 1, 2 and 3; a set-up is accepted exactly if it is a meet-semilattice within the limits.
use mathlib.Core.{Path.{◌≡◌, refl, sym, subst}, Logic.{◌↔◌, ⊎_elim}, Bool.{Bool, true, false, ◌&&◌}, Option.{Option, none}}
use mathlib.Core.List.{List, [], ◌∷◌, ◌++◌, append-nil}
use Prim.Native.Nat.{ℕ, ◌+◌, ◌*◌, ◌/◌, ◌%◌, ◌^◌, ◌≤◌, ◌<◌}
use native.Mathlib.{Nat.{div-add-mod', mod-lt, div-lt_iff_lt-mul, mul-le-mul, lt_of_lt_of_le}, Omega.{arith}}
use borrow.Author.Tests.{ltb-true, leb-true, eqb-true, lt-ltb, le-leb, eq-eqb, ne_eqb}
use lib.{Arith.{digits_lt}, Dec.{leb, eqb, lit≤}, ListN.{length, get_or}}
use Rattle.refusal.specs.{declared.Refusal.{Refusal}, declared.Refusal.TheVariants.{SetupEvents, SetupLines, SetupMeet, SetupValues}}
use Rattle.refusal.specs.Refusal.{Condition, plain, First, has_place, order, part_of, condition_numbers, right_places, Judged}
use Rattle.refusal.specs.RefusalAnswers.{plain_unless, or_else, judgement}
use Rattle.refusal.proofs.Refusals.{plain_first, first_append, judged, or_else_none, plain_none}
use Rattle.theory.specs.ValueSets.{MeetSemilattice, Below, meet_at, four_value_meet}
use Rattle.theory.specs.ValueSetTests.{closed_test, idempotent_test, commutative_test, associative_test, neutral_test, lawful}
use Rattle.theory.proofs.ValueSets.{and_left, and_right, and_both, and_cases, every_at, every_of, every_some, laws_of_test, test_of_laws}
use Rattle.theory.proofs.ValueSets.{four_value_semilattice}
use Rattle.limits.specs.Limits.{event_limit, value_limit, meet_limit, line_limit}
use Rattle.values.specs.declared.ValueKind.{ValueKind}
use Rattle.values.specs.declared.ValueKind.TheVariants.{Numbered, Register}
use Rattle.values.specs.Setup.{ValueIn, meet_of, top_of, register_setup}
use Rattle.values.specs.Setup.{Setup, setup, EventsFault, ValuesFault, values_out_of_limits, top_not_below, MeetFault, length_wrong, entry_not_below}
use Rattle.values.specs.Setup.{law_broken, LinesFault, kind_conditions, setup_conditions}
use Rattle.values.specs.SetupInOrder.{KindInLimits, AcceptedSetup}
use Rattle.values.specs.SetupTests.{events_test, values_test, entries_test, meet_test, lines_test, kind_refusal, setup_refusal, Square}
use Rattle.values.specs.Claims.{SetupClaim, SetupAcceptedClaim, LawsClaim, FourValueSetupClaim}
use Rattle.values.proofs.ValueKinds.{register_semilattice}
use Rattle.std.specs.Prelude.{Err, Ok}

differ : {b : Bool} → b ≡ true → b ≡ false → ⊥
differ p q = let z : ◌≡◌ {A = ℕ} 0 1 = cc in omega arith

-- What the test of values and top says.
pub values_small : (values top : ℕ) → values_test values top ≡ true → values ≤ value_limit
unfolding values_test
values_small values top e = leb-true _ _ (and_left (leb values value_limit) _ (and_right (leb 1 values) _ e))

pub top_below : (values top : ℕ) → values_test values top ≡ true → top < values
unfolding values_test
top_below values top e = ltb-true _ _ (and_right (leb values value_limit) _ (and_right (leb 1 values) _ e))

-- The place of two values' meet lies within a whole table, which is small.
pub place_in : {values : ℕ} {meet : List ℕ} (a b : ℕ) → Square values meet → a < values → b < values → a * values + b < length meet
place_in a b square ha hb = rw square.whole (digits_lt ha hb)

pub square_small : {values : ℕ} → values ≤ value_limit → values * values ≤ meet_limit
square_small h = mul-le-mul h h

pub place_small : {values : ℕ} {meet : List ℕ} (a b : ℕ) → Square values meet → a < values → b < values → a * values + b < meet_limit
place_small a b square ha hb = lt_of_lt_of_le (digits_lt ha hb) (square_small square.small)

-- The place of any two values of 32 bits fits 64 bits.
pub place_fits : (a n b : ℕ) → a < 2 ^ 32 → n < 2 ^ 32 → b < 2 ^ 32 → a * n + b < 2 ^ 64
place_fits a n b ha hn hb =
    let a_small : a ≤ 4294967295 = omega arith in
    let n_small : n ≤ 4294967295 = omega arith in
    omega (arith, mul-le-mul a_small n_small)

-- Both groupings of three values, as the nested calls compute them.
pub grouped :
    (values : ℕ) (meet : List ℕ) (a b c : ℕ) {ab left bc right : ℕ} → ab ≡ meet_at values meet a b → left ≡ meet_at values meet ab c
    → bc ≡ meet_at values meet b c → right ≡ meet_at values meet a bc
    → (left ≡ right) ↔ (meet_at values meet (meet_at values meet a b) c ≡ meet_at values meet a (meet_at values meet b c))
grouped values meet a b c p q r s = (λ e. cc, λ e. cc)

-- What a table gives is a value, if its entries are.
pub meet_below :
    {values : ℕ} {meet : List ℕ} (a b : ℕ) → Square values meet → entries_test values meet ≡ true → a < values → b < values
    → meet_at values meet a b < values
unfolding entries_test meet_at
meet_below {values} {meet} a b square entries ha hb =
    ltb-true _ _ (every_at (length meet) _ entries (a * values + b) (place_in a b square ha hb))

closed : {values : ℕ} {meet : List ℕ} → Square values meet → entries_test values meet ≡ true → closed_test values meet ≡ true
unfolding closed_test
closed {values} square entries =
    every_of values _ (λ a ha. every_of values _ (λ b hb. lt-ltb _ _ (meet_below a b square entries ha hb)))

-- The laws that are left to test, once top and the entries are values.
pub lawful_left :
    {values : ℕ} {meet : List ℕ} (top : ℕ) → Square values meet → entries_test values meet ≡ true → top < values
    → lawful values meet top ≡ (idempotent_test values meet && (commutative_test values meet && (associative_test values meet && neutral_test values meet top)))
unfolding lawful
lawful_left top square entries below = rw (lt-ltb _ _ below, closed square entries)

-- How far the test of the table gets: the length, then the entries, then the laws that are left.
pub meet_test_length : (values top : ℕ) (meet : List ℕ) → (length meet ≡ values * values → ⊥) → meet_test values top meet ≡ false
unfolding meet_test
meet_test_length values top meet other = rw (ne_eqb _ _ other)

pub meet_test_entries :
    (values top : ℕ) (meet : List ℕ) → length meet ≡ values * values → entries_test values meet ≡ false → meet_test values top meet ≡ false
unfolding meet_test
meet_test_entries values top meet whole large = rw (eq-eqb _ _ whole, large)

pub meet_test_laws :
    (values top : ℕ) (meet : List ℕ) → values_test values top ≡ true → length meet ≡ values * values → entries_test values meet ≡ true
    → meet_test values top meet
    ≡ (idempotent_test values meet && (commutative_test values meet && (associative_test values meet && neutral_test values meet top)))
unfolding meet_test
meet_test_laws values top meet limits whole entries =
    rw (eq-eqb _ _ whole, entries)
    (lawful_left top (record { small = values_small values top limits; whole = whole }) entries (top_below values top limits))

-- The judgement of a set-up, by the tests in order.
module _ (events values top : ℕ) (meet : List ℕ) where
  pub judged_events : events_test events ≡ false → judgement (setup_refusal (setup events values top meet)) ≡ Err SetupEvents
  unfolding judgement setup_refusal or_else plain_unless
  judged_events e = rw e

  pub judged_values :
      events_test events ≡ true → values_test values top ≡ false → judgement (setup_refusal (setup events values top meet)) ≡ Err SetupValues
  unfolding judgement setup_refusal kind_refusal or_else plain_unless
  judged_values e v = rw (e, v)

  pub judged_meet :
      events_test events ≡ true → values_test values top ≡ true → meet_test values top meet ≡ false
      → judgement (setup_refusal (setup events values top meet)) ≡ Err SetupMeet
  unfolding judgement setup_refusal kind_refusal or_else plain_unless
  judged_meet e v m = rw (e, v, m)

  pub judged_accepted :
      events_test events ≡ true → values_test values top ≡ true → meet_test values top meet ≡ true
      → judgement (setup_refusal (setup events values top meet)) ≡ (Ok tt)
  unfolding judgement setup_refusal kind_refusal or_else plain_unless
  judged_accepted e v m = rw (e, v, m)

-- The same for a register.
module _ (events lines : ℕ) where
  pub judged_register_events : events_test events ≡ false → judgement (setup_refusal (register_setup events lines)) ≡ Err SetupEvents
  unfolding judgement setup_refusal or_else plain_unless
  judged_register_events e = rw e

  pub judged_lines :
      events_test events ≡ true → lines_test lines ≡ false → judgement (setup_refusal (register_setup events lines)) ≡ Err SetupLines
  unfolding judgement setup_refusal kind_refusal or_else plain_unless
  judged_lines e l = rw (e, l)

  pub judged_register :
      events_test events ≡ true → lines_test lines ≡ true → judgement (setup_refusal (register_setup events lines)) ≡ (Ok tt)
  unfolding judgement setup_refusal kind_refusal or_else plain_unless
  judged_register e l = rw (e, l)

-- An entry of a whole table is the meet of two values.
entry_below :
    (values : ℕ) (meet : List ℕ) (i : ℕ) → 1 ≤ values → i < values * values
    → ((a b : ℕ) → a < values → b < values → meet_at values meet a b < values) → get_or meet i 0 < values
unfolding meet_at
entry_below values meet i positive h below =
    subst (λ p. get_or meet p 0 < values) (div-add-mod' i values)
    (below (i / values) (i % values) ((div-lt_iff_lt-mul positive).1 h) (mod-lt i positive))

-- The entries of a whole table that has the laws are values.
pub entries_of_laws :
    (values top : ℕ) (meet : List ℕ) → length meet ≡ values * values → MeetSemilattice (Below values) (meet_at values meet) top →
    entries_test values meet ≡ true
unfolding entries_test
entries_of_laws values top meet whole laws =
    every_of (length meet) _ (λ i h. lt-ltb _ _ (entry_below values meet i (omega (arith, laws.top_in)) (rw whole at h) laws.meet_in))

-- Each test decides its condition.
events_few : (events : ℕ) → events_test events ≡ true → (1 ≤ events) × (events ≤ event_limit)
unfolding events_test
events_few events e = (leb-true _ _ (and_left (leb 1 events) _ e), leb-true _ _ (and_right (leb 1 events) _ e))

events_tested : (events : ℕ) → (1 ≤ events) × (events ≤ event_limit) → events_test events ≡ true
unfolding events_test
events_tested events ok = and_both (le-leb _ _ ok.0) (le-leb _ _ ok.1)

pub events_first : (events : ℕ) → First (plain SetupEvents (EventsFault events) ∷ []) (plain_unless (events_test events) SetupEvents)
events_first events =
    plain_first SetupEvents (EventsFault events) (events_test events) (λ failed ok. differ (events_tested events ok) failed)
    (λ passed fault. fault (events_few events passed))

pub lines_few : (lines : ℕ) → lines_test lines ≡ true → (1 ≤ lines) × (lines ≤ line_limit)
unfolding lines_test
lines_few lines e = (leb-true _ _ (and_left (leb 1 lines) _ e), leb-true _ _ (and_right (leb 1 lines) _ e))

lines_tested : (lines : ℕ) → (1 ≤ lines) × (lines ≤ line_limit) → lines_test lines ≡ true
unfolding lines_test
lines_tested lines ok = and_both (le-leb _ _ ok.0) (le-leb _ _ ok.1)

lines_first : (lines : ℕ) → First (plain SetupLines (LinesFault lines) ∷ []) (plain_unless (lines_test lines) SetupLines)
lines_first lines =
    plain_first SetupLines (LinesFault lines) (lines_test lines) (λ failed ok. differ (lines_tested lines ok) failed)
    (λ passed fault. fault (lines_few lines passed))

module _ (values top : ℕ) where
  values_failed : values_test values top ≡ false → ValuesFault values top
  unfolding values_test
  values_failed failed =
      ⊎_elim (λ few. values_out_of_limits λ ok. differ (le-leb _ _ ok.0) few)
      (λ rest.
      ⊎_elim (λ many. values_out_of_limits λ ok. differ (le-leb _ _ ok.1) many) (λ above. top_not_below λ ok. differ (lt-ltb _ _ ok) above)
      (and_cases (leb values value_limit) _ rest))
      (and_cases (leb 1 values) _ failed)

  values_passed : values_test values top ≡ true → ValuesFault values top → ⊥
  unfolding values_test
  values_passed passed (values_out_of_limits fault) = fault (leb-true _ _ (and_left (leb 1 values) _ passed), values_small values top passed)
  values_passed passed (top_not_below fault) = fault (top_below values top passed)

  pub values_first : First (plain SetupValues (ValuesFault values top) ∷ []) (plain_unless (values_test values top) SetupValues)
  values_first = plain_first SetupValues (ValuesFault values top) (values_test values top) values_failed values_passed

  module _ (meet : List ℕ) where
    meet_failed : meet_test values top meet ≡ false → MeetFault values top meet
    unfolding meet_test entries_test
    meet_failed failed =
        ⊎_elim (λ other. length_wrong λ ok. differ (eq-eqb _ _ ok) other)
        (λ rest.
        ⊎_elim
        (λ large.
        let found = every_some (length meet) _ large in
        entry_not_below found.0 found.1 λ ok. differ (lt-ltb _ _ ok) found.2)
        (λ broken. law_broken λ laws. differ (test_of_laws values meet top laws) broken)
        (and_cases (entries_test values meet) _ rest))
        (and_cases (eqb (length meet) (values * values)) _ failed)

    meet_passed : meet_test values top meet ≡ true → MeetFault values top meet → ⊥
    unfolding meet_test entries_test
    meet_passed passed (length_wrong fault) = fault (eqb-true _ _ (and_left (eqb (length meet) (values * values)) _ passed))
    meet_passed passed (entry_not_below i h fault) =
        fault
        (ltb-true _ _
        (every_at (length meet) _ (and_left (entries_test values meet) _ (and_right (eqb (length meet) (values * values)) _ passed)) i h))
    meet_passed passed (law_broken fault) =
        fault
        (laws_of_test values meet top (and_right (entries_test values meet) _ (and_right (eqb (length meet) (values * values)) _ passed)))

    meet_first : First (plain SetupMeet (MeetFault values top meet) ∷ []) (plain_unless (meet_test values top meet) SetupMeet)
    meet_first = plain_first SetupMeet (MeetFault values top meet) (meet_test values top meet) meet_failed meet_passed

kind_first : (kind : ValueKind) (top : ℕ) (meet : List ℕ) → First (kind_conditions kind top meet) (kind_refusal kind top meet)
unfolding kind_conditions kind_refusal
kind_first (Numbered values) top meet = first_append _ _ _ _ (values_first values top) (meet_first values top meet)
kind_first (Register lines) top meet = lines_first lines

pub setup_first : (s : Setup) → First (setup_conditions s) (setup_refusal s)
unfolding setup_conditions setup_refusal
setup_first s = first_append _ _ _ _ (events_first s.events) (kind_first s.kind s.top s.meet)

-- The conditions of a set-up before those of a call: their numbers go by the kind of values.
module _ (s : Setup) (cs : List Condition) (answer : Option Refusal) where
  numbers_after :
      (kind : ValueKind) → part_of (1 ∷ 2 ∷ 3 ∷ condition_numbers cs) order ≡ true → part_of (1 ∷ 20 ∷ condition_numbers cs) order ≡ true →
      part_of (1 ∷ condition_numbers (kind_conditions kind s.top s.meet ++ cs)) order ≡ true
  unfolding kind_conditions condition_numbers
  numbers_after (Numbered values) x y = x
  numbers_after (Register lines) x y = y

  places_after : (kind : ValueKind) → right_places cs ≡ true → right_places (kind_conditions kind s.top s.meet ++ cs) ≡ true
  unfolding kind_conditions right_places has_place
  places_after (Numbered values) x = x
  places_after (Register lines) x = x

  pub judged_after_setup :
      First (setup_conditions s ++ cs) answer → part_of (1 ∷ 2 ∷ 3 ∷ condition_numbers cs) order ≡ true →
      part_of (1 ∷ 20 ∷ condition_numbers cs) order ≡ true → right_places cs ≡ true → Judged (setup_conditions s ++ cs) answer
  unfolding setup_conditions condition_numbers right_places has_place
  judged_after_setup first x y z = judged _ _ first (numbers_after s.kind x y) (places_after s.kind z)

pub setup_judged : SetupClaim
unfolding condition_numbers right_places part_of order
setup_judged s =
    subst (λ cs. Judged cs (setup_refusal s)) (append-nil (setup_conditions s))
    (judged_after_setup s [] (setup_refusal s) (subst (λ cs. First cs (setup_refusal s)) (sym (append-nil (setup_conditions s))) (setup_first s)) refl refl
    refl)

-- A set-up that passes the tests is a meet-semilattice within the limits.
accepted_kind :
    (kind : ValueKind) (top : ℕ) (meet : List ℕ) → kind_refusal kind top meet ≡ none →
    KindInLimits kind meet × MeetSemilattice (ValueIn kind) (meet_of kind meet) (top_of kind top)
unfolding kind_refusal meet_of values_test meet_test
accepted_kind (Numbered values) top meet e =
    let parts = or_else_none _ _ e in
    let v = plain_none _ SetupValues parts.0 in
    let m = plain_none _ SetupMeet parts.1 in (
      record {
        some_values = leb-true _ _ (and_left (leb 1 values) _ v);
        few_values = values_small values top v;
        whole = eqb-true _ _ (and_left (eqb (length meet) (values * values)) _ m);
      },
      laws_of_test values meet top (and_right (entries_test values meet) _ (and_right (eqb (length meet) (values * values)) _ m)),
    )
accepted_kind (Register lines) top meet e =
    let few = lines_few lines (plain_none _ SetupLines e) in
    (record { some_lines = few.0; few_lines = few.1 }, register_semilattice lines few.1)

accepted_well_formed : (s : Setup) → setup_refusal s ≡ none → AcceptedSetup s
unfolding setup_refusal
accepted_well_formed s e =
    let parts = or_else_none _ _ e in
    let events = events_few s.events (plain_none _ SetupEvents parts.0) in
    let k = accepted_kind s.kind s.top s.meet parts.1 in
    record { some_events = events.0; few_events = events.1; of_kind = k.0; laws = k.1 }

-- A meet-semilattice within the limits passes the tests.
kind_accepted :
    (kind : ValueKind) (top : ℕ) (meet : List ℕ) → KindInLimits kind meet → MeetSemilattice (ValueIn kind) (meet_of kind meet) (top_of kind top) →
    kind_refusal kind top meet ≡ none
unfolding kind_refusal meet_of or_else plain_unless values_test meet_test lines_test
kind_accepted (Numbered values) top meet k laws =
    let v : values_test values top ≡ true = and_both (le-leb _ _ k.some_values) (and_both (le-leb _ _ k.few_values) (lt-ltb _ _ laws.top_in)) in
    let m : meet_test values top meet ≡ true =
    and_both (eq-eqb _ _ k.whole) (and_both (entries_of_laws values top meet k.whole laws) (test_of_laws values meet top laws)) in
    rw (v, m)
kind_accepted (Register lines) top meet k laws = let l = lines_tested lines (k.some_lines, k.few_lines) in rw l

well_formed_accepted : (s : Setup) → AcceptedSetup s → setup_refusal s ≡ none
unfolding setup_refusal or_else plain_unless
well_formed_accepted s w =
    let e = events_tested s.events (w.some_events, w.few_events) in
    let k = kind_accepted s.kind s.top s.meet w.of_kind w.laws in
    rw (e, k)

pub setup_accepted : SetupAcceptedClaim
setup_accepted s = (accepted_well_formed s, well_formed_accepted s)

pub laws_hold : LawsClaim
laws_hold s e = (accepted_well_formed s e).laws

-- What an accepted set-up has: 1 to 16 events; and at most 16 values, where they are numbers.
pub accepted_events : (s : Setup) → setup_refusal s ≡ none → events_test s.events ≡ true
unfolding setup_refusal
accepted_events s e = plain_none _ SetupEvents (or_else_none _ _ e).0

pub accepted_count : (n top : ℕ) (meet : List ℕ) → kind_refusal (Numbered n) top meet ≡ none → n ≤ value_limit
accepted_count n top meet e = (accepted_kind (Numbered n) top meet e).0.few_values

pub kind_passed : (s : Setup) → setup_refusal s ≡ none → kind_refusal s.kind s.top s.meet ≡ none
unfolding setup_refusal
kind_passed s e = (or_else_none _ _ e).1

pub four_value_setup : FourValueSetupClaim
unfolding four_value_meet meet_of
four_value_setup events some few =
    (setup_accepted (setup events 4 3 four_value_meet)).1
    (record {
      some_events = some;
      few_events = few;
      of_kind = record { some_values = lit≤ tt; few_values = lit≤ tt; whole = refl };
      laws = four_value_semilattice;
    })
