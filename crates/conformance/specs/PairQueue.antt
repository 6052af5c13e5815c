-- The queue of the breadth-first search, and what the private parts ask of each other. `counterexample` of theory says what the search
-- finds.
use mathlib.Core.{Path.{◌≡◌}, Bool.{Bool, true, false, cond}, List.{List, [], ◌∷◌, reverse}, Option.{none, some}}
use Rattle.std.specs.Prelude.{ℕ, zero, ◌+◌, ◌*◌, ◌≤◌, ◌<◌, Result, Ok, Err}
use lib.{Dec.{eqb}, ListN.{length, get_or, set}}
use Rattle.limits.specs.Limits.{event_limit, word_limit}
use Rattle.theory.specs.{Exploration.{reached, has_state, add_events}, ConformanceCheck.{same_pair, next_pair}}
use Rattle.refusal.specs.Refusal.{put}
use Rattle.values.specs.{declared.Comparison.{Comparison}, ValueTests.{comparison}, HandedIn.{setup_of_set}}
use Rattle.conformance.specs.declared.{Pairing.{Pairing}, Failure.{Failure}, Queue.{Queue}, Pair.{Pair}}
use Rattle.conformance.specs.Trial.{TrialInput, device_machine, table_machine}
use Rattle.conformance.specs.TrialAnswer.{below, first_failure, ends_same}

-- A device beside a rule's table, as an input.
abbrev pub input_of : Pairing → TrialInput
input_of p =
    record {
      set_up = setup_of_set p.events p.values;
      states = p.table.states;
      table = p.table.entries.now;
      device_states = p.device.table.states;
      device_start = p.device.start;
      device = p.device.table.entries.now;
    }

-- On an event in a pair of states: how the device's value compares with the table's, and the two tests of that.
module _ (x : TrialInput) (s t : ℕ) where
  unfoldable pub comparison_on : ℕ → Comparison
  comparison_on e = comparison x.set_up.kind x.set_up.meet ((device_machine x).value s e) ((table_machine x).value t e)

  unfoldable pub below_on : ℕ → Bool
  below_on e = below x ((device_machine x).value s e) ((table_machine x).value t e)

  unfoldable pub equal_on : ℕ → Bool
  equal_on e = eqb ((device_machine x).value s e) ((table_machine x).value t e)

-- What a pair of states shows on the events: which is the first that is not allowed; or all are, and whether all values are equal.
module _ (events : ℕ) (good equal : ℕ → Bool) where
  pub record BadOn (r : ℕ) : Type 0 where
    pub event_in : r < events
    pub before : (e : ℕ) → e < r → good e ≡ true
    pub bad : good r ≡ false

  pub record GoodOn (all_equal : Bool) : Type 0 where
    pub allowed : (e : ℕ) → e < events → good e ≡ true
    pub all_same : all_equal ≡ true → (e : ℕ) → e < events → equal e ≡ true
    pub some_differ : all_equal ≡ false → (e : ℕ) × (e < events) × (equal e ≡ false)

  unfoldable pub JudgedPair : Result Bool ℕ → Type 0
  JudgedPair (Err r) = BadOn r
  JudgedPair (Ok all_equal) = GoodOn all_equal

-- Each array has `size` cells.
module _ {size : ℕ} where
  pub record Sized (a : Queue size) : Type 0 where
    pub pairs_size : length a.pairs ≡ size
    pub flags_size : length a.flags ≡ size

  -- Whether a flag says that its pair of states is in the queue.
  abbrev pub has_pair : Queue size → ℕ → Bool
  has_pair a flag = get_or a.flags flag false

  -- The queue with a pair at its end, where it is not in it yet.
  abbrev pub push : Queue size → ℕ → Pair → Queue size
  push a flag pair = record { count = a.count + 1; pairs = set a.pairs a.count pair; flags = set a.flags flag true }

  unfoldable pub pushed : Queue size → ℕ → Pair → Queue size
  pushed a flag pair = cond (has_pair a flag) a (push a flag pair)

-- The pair at a place of the queue.
abbrev pub pair_at : List Pair → ℕ → Pair
pair_at pairs l = get_or pairs l (record { device = 0; table = 0; event = 0; parent = 0 })

-- Its two states.
abbrev pub states : Pair → ℕ × ℕ
states pair = (pair.device, pair.table)

-- The words in the queue, last event first: each is its parent's with one event more.
pub record Linked (P : List (List ℕ)) (pairs : List Pair) : Type 0 where
  pub some_word : 0 < length P
  pub empty_first : get_or P 0 [] ≡ []
  pub earlier : (l : ℕ) → 0 < l → l < length P → (pair_at pairs l).parent < l
  pub longer : (l : ℕ) → 0 < l → l < length P → get_or P l [] ≡ (pair_at pairs l).event ∷ get_or P ((pair_at pairs l).parent) []

-- Some list of words is linked by the arrays and has word i.
pub record Reaches (i : ℕ) (pairs : List Pair) : Type 0 where
  pub words : List (List ℕ)
  pub linked : Linked words pairs
  pub room : length words ≤ length pairs
  pub has : i < length words

-- n is the length of word i.
abbrev pub Deep : ℕ → List Pair → ℕ → Type 0
Deep i pairs n = (x : Reaches i pairs) → n ≡ length (get_or x.words i [])

-- Word i of n events, in order of play, is put over the front of the buffer.
pub record Writable (i n : ℕ) (pairs : List Pair) (old : List ℕ) : Type 0 where
  pub reaches : Reaches i pairs
  pub long : n ≡ length (get_or reaches.words i [])
  pub room : n ≤ length old

abbrev pub WrittenWord : ℕ → ℕ → List Pair → List ℕ → List ℕ → Type 0
WrittenWord i n pairs old later =
    (x : Writable i n pairs old) → later ≡ put (reverse (get_or x.reaches.words i [])) old

-- What the search is given: the device and the table run over their states, which are few enough for the arrays.
pub record Ready (size : ℕ) (x : TrialInput) : Type 0 where
  pub few_places : size ≤ word_limit
  pub few_events : x.set_up.events ≤ event_limit
  pub few_device_states : x.device_states ≤ 256
  pub few_table_states : x.states ≤ 256
  pub few_pairs : x.device_states * x.states ≤ size
  pub device_nexts : (s e : ℕ) → s < x.device_states → e < x.set_up.events → (device_machine x).next s e < x.device_states
  pub table_nexts : (t e : ℕ) → t < x.states → e < x.set_up.events → (table_machine x).next t e < x.states
  pub start_in : x.device_start < x.device_states
  pub some_states : 0 < x.states

module _ (x : TrialInput) where
  -- The pair of states that a word reaches; a word has its last event first.
  abbrev pub pair_after : List ℕ → ℕ × ℕ
  pair_after w = reached (next_pair (device_machine x) (table_machine x)) (x.device_start, zero) w

  -- The list of words with the successors of word i.
  abbrev pub successors : List (List ℕ) → ℕ → List (List ℕ)
  successors P i =
      add_events same_pair (next_pair (device_machine x) (table_machine x)) (x.device_start, zero) x.set_up.events zero P (get_or P i [])

module _ {size : ℕ} (x : TrialInput) where
  -- The queue holds the words P and the pairs that they reach.
  pub record HoldsPairs (P : List (List ℕ)) (a : Queue size) : Type 0 where
    pub sized : Sized a
    pub counted : a.count ≡ length P
    pub linked : Linked P a.pairs
    pub reached : (l : ℕ) → l < length P → states (pair_at a.pairs l) ≡ pair_after x (get_or P l [])
    pub device_in : (l : ℕ) → l < length P → (pair_at a.pairs l).device < x.device_states
    pub table_in : (l : ℕ) → l < length P → (pair_at a.pairs l).table < x.states
    pub flagged :
        (s t : ℕ) → s < x.device_states → t < x.states →
        get_or a.flags (s * x.states + t) false
        ≡ has_state same_pair (next_pair (device_machine x) (table_machine x)) (x.device_start, zero) P (s, t)

  -- The queue holds some words, one at place i, whose successors fit in.
  pub record Expandable (a : Queue size) (i : ℕ) : Type 0 where
    pub words : List (List ℕ)
    pub held : HoldsPairs words a
    pub taken : i < length words
    pub room : length (successors x words i) ≤ x.device_states * x.states

  -- Whatever words it holds, it holds them afterwards with those of word i's successors.
  abbrev pub Expanded : Queue size → ℕ → Queue size → Type 0
  Expanded a i b = (e : Expandable a i) → HoldsPairs (successors x e.words i) b

  -- The device fails at a place of the queue on an event: the word of that place, then the event, is the first on which it fails.
  pub record FailsAt (failure : Failure) (a : Queue size) : Type 0 where
    pub reaches : Reaches failure.place a.pairs
    pub few : length reaches.words ≤ size
    pub event_in : failure.event < x.set_up.events
    pub is_first : first_failure x ≡ some (reverse (failure.event ∷ get_or reaches.words failure.place []))

  -- What the search finds is the first word on which the device fails; where there is none, whether all values are equal.
  unfoldable pub Found : Result Bool Failure → Queue size → Type 0
  Found (Ok all_equal) a = (first_failure x ≡ none) × (all_equal ≡ ends_same x)
  Found (Err failure) a = FailsAt failure a
