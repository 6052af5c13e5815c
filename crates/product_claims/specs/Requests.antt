-- Document 02's requests, each as one record over the definitions of both documents and the functions that contracts state; proved in
-- proofs/Requests. F-1 stands in DemandThree (`fails`).
use mathlib.Core.{Path.{◌≡◌}, Logic.{◌↔◌, ◌⊎◌}, List.{List, [], ◌∷◌, ◌++◌}, Option.{none, some}}
use Rattle.std.specs.Prelude.{ℕ, zero, suc, ◌+◌, ◌-◌, ◌*◌, ◌/◌, ◌%◌, ◌^◌, ◌≤◌, ◌<◌}
use lib.{Bits.{bit_and}, Dec.{T}, ListN.{length, take}}
use Rattle.limits.specs.Limits.{event_limit, line_limit, node_limit, binder_limit, state_limit, device_limit, table_limit, word_limit, row_limit}
use Rattle.theory.specs.ValueSets.{MeetSemilattice, Masks, OfLines, pack}
use Rattle.theory.specs.Formula.{Formula, transition, conjunction, size, output_node, conjunction_node, Stands, Answers}
use Rattle.theory.specs.{MealyMachine.{Machine, Word, after, Implies}, ReachableStates.{NodeSet, Demands, IsSetMachine}}
use Rattle.refusal.specs.{declared.Refusal.{Refusal, TheVariants.{BinderDepth, BufferLength, NodeCount, StateCount}}, Refusal.{First, refusal_of, yield_of}}
use Rattle.values.specs.declared.{ValueKind.{ValueKind}, ValueKind.TheVariants.{Register}, Comparison.{Comparison}}
use Rattle.values.specs.Setup.{register_setup}
use Rattle.values.specs.{Setup.{Setup, SetupValue, ValueIn, setup_meet, setup_top, meet_of, ComparesAs}, SetupTests.{setup_refusal}, ValueTests.{comparison}}
use Rattle.conformance.specs.declared.{Grade.TheVariants.{Same, Stricter}}
use Rattle.conformance.specs.{Trial.{TrialInput, DeviceInOrder, Passes, EndsSame, Answer, Passed, grade}, TrialAnswer.{trial_answer}}
use Rattle.machines.specs.TableBytes.{entry_width, entry_bytes, machine_of}
use Rattle.formulas.specs.RuleConditions.{encode_formula, node_width, node_bytes, Unbound, TooDeep, Unprotected, NodeAtFault, byte_conditions}
use Rattle.synthesis.specs.{Compilation.{compile_answer, compile_contents}, KeptSets.{kept_set}}
use Rattle.characteristic.specs.{RuleOfTable.{IsRuleOf}, RuleWriting.{write_answer}}
use Rattle.channel_log.specs.Calls.{Call, event, clear, accepted, returned, reply_refusal, final, with_channel}
use Rattle.channel_log.specs.{Distance.{Wheel, WheelFault, Occurrence, Reading, distance}, Rows.{all_rows}}
use Rattle.recorder.specs.{Store.{Store, AllCells, ToolSetup, channels, rows, totals}, Called.{called, set_up_called}}
use Rattle.product_claims.specs.Demands.{rule_trial_input}

-- A rule's bytes; 5 to 9 let bytes through.
abbrev pub rule_bytes : Setup → Formula ℕ → List ℕ
rule_bytes s φ = encode_formula (node_bytes s.kind) φ

abbrev pub LetThrough : Setup → List ℕ → Type 0
LetThrough s rule = First (byte_conditions s.events s.kind rule) none

-- F-2: a variable under an inner binder. 9's condition, with its place, is that of RuleConditions.
pub record InnerBinders : Type 0 where
  -- "A variable is in order when a G lies between it and its own binder. Refusal 9 is given only where none does": where 5, 6, 8 and 23
  -- are not met, a rule is let through exactly if each variable is in order
  pub in_order : (s : Setup) (φ : Formula ℕ) → size φ ≤ node_limit →
      ((i : ℕ) → ¬ NodeAtFault (node_width s.kind) (node_bytes s.kind) (rule_bytes s φ) s.events (ValueIn s.kind) i) →
      ((i : ℕ) → ¬ Unbound φ i) → ¬ TooDeep φ binder_limit → LetThrough s (rule_bytes s φ) ↔ ((i : ℕ) → ¬ Unprotected φ i)
  -- "everything promised about rules covers the wider class": of what is let through, `compile` refuses by 10 and 13 alone
  pub covered : (s : Setup) (rule to : List ℕ) → setup_refusal s ≡ none → LetThrough s rule →
      (r : Refusal) → refusal_of (compile_answer state_limit s rule to) ≡ some r → (r ≡ StateCount) ⊎ (r ≡ BufferLength)

-- F-9: binders twelve deep. 23's conditions are those of RuleConditions and of RuleOfTable; "A written rule is still always a rule that
-- compiles" stands in DemandTwo (`table_to_rule_to_table`).
pub record TwelveBinders : Type 0 where
  -- "23, a path with more than twelve V nodes, after 8 and before 9 for a rule": where 5, 6 and 8 are not met, whatever 9 says
  pub refused : (s : Setup) (φ : Formula ℕ) → size φ ≤ node_limit →
      ((i : ℕ) → ¬ NodeAtFault (node_width s.kind) (node_bytes s.kind) (rule_bytes s φ) s.events (ValueIn s.kind) i) →
      ((i : ℕ) → ¬ Unbound φ i) → First (byte_conditions s.events s.kind (rule_bytes s φ)) (some BinderDepth) ↔ TooDeep φ binder_limit
  -- "A written rule obeys it too"
  pub obeyed : (s : Setup) (states start : ℕ) (table old : List ℕ) (n : ℕ) →
      yield_of (write_answer table_limit node_limit s states start table old) ≡ some n →
      (φ : Formula ℕ) → IsRuleOf s.events s.kind start table φ → ¬ TooDeep φ binder_limit

-- F-3: demands gathered before the walk. `kept_set φ i` is what the row of node i is, by the contract of synthesis `keep_demands`; the walk
-- over states looks up these rows. Both hold of rules that 10 refuses too.
pub record GatheredDemands : Type 0 where
  -- "The set kept for each node is proved to be its demands by document 01, for every rule that 5 to 9 let through"
  pub kept : (s : Setup) (φ : Formula ℕ) → LetThrough s (rule_bytes s φ) → (i : ℕ) (bs : List ℕ) (ψ : Formula ℕ) → Stands φ i bs ψ →
      (d : ℕ) → T (kept_set φ i d) ↔ Demands φ i d
  -- "and every next state to be a union of kept sets": of those of the parts of the state's G nodes for the event
  pub united : (s : Setup) (φ : Formula ℕ) → LetThrough s (rule_bytes s φ) →
      (m : Machine NodeSet ℕ) (first : NodeSet) → IsSetMachine (setup_meet s) (setup_top s) φ m first → (D : NodeSet) (e d : ℕ) →
      T (m.next D e d) ↔ ((i : ℕ) × (bs : List ℕ) × (ψ : Formula ℕ) × T (D i) × Stands φ i bs (transition e ψ) × T (kept_set φ (suc i) d))

-- From a state the machine gives the rule's value (source 000, section 3) on every event sequence.
abbrev pub MatchesRule : Setup → Formula ℕ → Machine ℕ ℕ → ℕ → Type 0
MatchesRule s φ m start = (w : List ℕ) → Word s.events w → (e : ℕ) → e < s.events →
    Answers (setup_meet s) (setup_top s) φ w e (m.value (after m start w) e)

-- F-6: distance with every event. Refusals 18 and 19 stand in DemandOne (`setting_up`, `calling`, `replaying`); that each accepted event's
-- distance is that of the log's total, and that channels are independent, in DemandThree (`record_of_calls`, `independence`): an event there
-- carries an occurrence and returns a reading.
pub record DistanceWithEveryEvent : Type 0 where
  -- "whole millimetres, total × C divided by P, with the exact remainder in P-ths of a millimetre": these two numbers, and no others
  pub exact : (wheel : Wheel) → ¬ WheelFault wheel → (total mm rest : ℕ) →
      ((mm * wheel.pulses + rest ≡ total * wheel.millimetres) × (rest < wheel.pulses)) ↔ (distance wheel total ≡ (mm, rest))
  -- an accepted event on any tool: its distance is that of its channel's total, "this event's pulses counted in", which the channel then
  -- holds; no other channel changes
  pub counted : (t : Store) → AllCells t → (c : ℕ) (i : Occurrence) (r : Reading ℕ) → (called (event c i) t).0 ≡ returned r →
      (total : ℕ) × (totals t c ≡ some total) × (distance t.wheel (total + i.pulses) ≡ (r.millimetres, r.remainder))
      × (totals (called (event c i) t).1 c ≡ some (total + i.pulses))
      × ((d : ℕ) → ¬ (d ≡ c) → channels (called (event c i) t).1 d ≡ channels t d)

-- F-5: "A trial passes as same, passes as stricter, or fails with its word."
pub record SameOrStricter : Type 1 where
  -- values `compare`, of any two numbers; of a value of an accepted set-up and a number no other answer is true
  pub comparing : (kind : ValueKind) (table : List ℕ) (b c : ℕ) → ComparesAs (comparison kind table b c) (meet_of kind table) b c
  pub one_comparison : (s : Setup) → setup_refusal s ≡ none → (b c : ℕ) → SetupValue s b → (answer : Comparison) → ComparesAs answer (setup_meet s) b c →
      answer ≡ comparison s.kind s.meet b c
  -- conformance `trial`: "Same is given exactly if every event sequence ends in equal values"; stricter is every other pass
  pub same : (x : TrialInput) (old : List ℕ) → refusal_of (trial_answer device_limit table_limit x old) ≡ none →
      (grade (trial_answer device_limit table_limit x old) ≡ some Same) ↔ EndsSame x
  pub stricter : (x : TrialInput) (old : List ℕ) → refusal_of (trial_answer device_limit table_limit x old) ≡ none →
      (grade (trial_answer device_limit table_limit x old) ≡ some Stricter) ↔ (Passes x × ¬ EndsSame x)
  -- "if it matches the rule everywhere": against what `compile` stored, by the rule's meaning, which builds no table
  pub same_as_the_rule : (s : Setup) (rule to : List ℕ) (n : ℕ) → yield_of (compile_answer state_limit s rule to) ≡ some n →
      (states start : ℕ) (device word : List ℕ) →
      DeviceInOrder device_limit table_limit (rule_trial_input s rule to n states start device) word → word_limit ≤ length word →
      (φ : Formula ℕ) → rule ≡ encode_formula (node_bytes s.kind) φ →
      (grade (trial_answer device_limit table_limit (rule_trial_input s rule to n states start device) word) ≡ some Same)
      ↔ MatchesRule s φ (machine_of s.kind s.events device) start
  -- "The two passes together are the old pass", which DemandThree (`passes`) says in the words it had
  pub together : (answer : Answer) → Passed answer ↔ ((grade answer ≡ some Same) ⊎ (grade answer ≡ some Stricter))

-- The trial of the first rule's table, of n states, as a device from state 0 against the second's, of k states; `compile` stored both.
abbrev pub cover_trial_input : Setup → List ℕ → List ℕ → ℕ → List ℕ → List ℕ → ℕ → TrialInput
cover_trial_input s first to n second to' k =
    rule_trial_input s second to' k n zero (take (n * s.events * entry_width s.kind) (compile_contents state_limit s first to))

-- Two rules joined by A: its node, then theirs.
abbrev pub joined : Setup → List ℕ → List ℕ → List ℕ
joined s first second = node_bytes s.kind conjunction_node ++ (first ++ second)

-- After w, on e, the rule has this value (source 000, section 3) and no other; and the value of the table that `compile` stored for a rule.
abbrev pub HasValue : Setup → Formula ℕ → List ℕ → ℕ → ℕ → Type 0
HasValue s φ w e b = (v : ℕ) → Answers (setup_meet s) (setup_top s) φ w e v ↔ (v ≡ b)

abbrev pub stored_value : Setup → List ℕ → List ℕ → List ℕ → ℕ → ℕ
stored_value s rule to w e =
    let m = machine_of s.kind s.events (compile_contents state_limit s rule to) in m.value (after m zero w) e

-- F-14: when one rule covers another, and rules joined by A.
pub record Covering : Type 1 where
  -- "a rule whose table has at most 64 states implies a second, itself within 10's limit, exactly when its table, taken as a device from
  -- state 0, passes against the second"; such a trial is not refused
  pub covers : (s : Setup) (first to second to' : List ℕ) (n k : ℕ) → yield_of (compile_answer state_limit s first to) ≡ some n → n ≤ device_limit →
      yield_of (compile_answer state_limit s second to') ≡ some k → (word : List ℕ) → word_limit ≤ length word →
      (φ χ : Formula ℕ) → first ≡ rule_bytes s φ → second ≡ rule_bytes s χ →
      (refusal_of (trial_answer device_limit table_limit (cover_trial_input s first to n second to' k) word) ≡ none)
      × (Passed (trial_answer device_limit table_limit (cover_trial_input s first to n second to' k) word)
      ↔ Implies s.events (SetupValue s) (setup_meet s) φ χ)
  -- "joining two rules by A gives, on each event sequence, the meet of their two values": also where 5 or 10 refuses the joined rule
  pub joined_values : (s : Setup) (φ χ : Formula ℕ) → LetThrough s (rule_bytes s φ) → LetThrough s (rule_bytes s χ) → (w : List ℕ) (e : ℕ) →
      (b : ℕ) × (c : ℕ) × HasValue s φ w e b × HasValue s χ w e c × HasValue s (conjunction φ χ) w e (setup_meet s b c)
  -- the same in bytes, where `compile` accepts all three; of the joined bytes 5, 10 and 13 alone are to be met
  pub joined_bytes : (s : Setup) (φ χ : Formula ℕ) → joined s (rule_bytes s φ) (rule_bytes s χ) ≡ rule_bytes s (conjunction φ χ)
  pub joined_tables : (s : Setup) (first to second to' to'' : List ℕ) (n k l : ℕ) → yield_of (compile_answer state_limit s first to) ≡ some n →
      yield_of (compile_answer state_limit s second to') ≡ some k → yield_of (compile_answer state_limit s (joined s first second) to'') ≡ some l →
      (w : List ℕ) → Word s.events w → (e : ℕ) → e < s.events →
      stored_value s (joined s first second) to'' w e ≡ setup_meet s (stored_value s first to w e) (stored_value s second to' w e)
  pub joined_refused : (s : Setup) (first second to : List ℕ) → setup_refusal s ≡ none → LetThrough s first → LetThrough s second →
      (r : Refusal) → refusal_of (compile_answer state_limit s (joined s first second) to) ≡ some r →
      (r ≡ NodeCount) ⊎ ((r ≡ StateCount) ⊎ (r ≡ BufferLength))

-- F-12: one store of rows for the tool. 10's and 11's limits are those of Limits, 25's conditions those of Store; what is said of the independence
-- of channels, and of what a load leaves, stands in DemandThree (`independence`, `load_independence`, `loading`).
pub record OneStore : Type 0 where
  -- "The tool now has 512 rows among its channels": no list of calls leaves more
  pub within : (s : ToolSetup) → reply_refusal (set_up_called s).0 ≡ none → (calls : List (Call Occurrence)) →
      all_rows (rows (final called calls (set_up_called s).1)) ≤ row_limit
  -- a clear on any tool moves rows too: its channel is empty, and no other changes
  pub cleared : (t : Store) → AllCells t → (c : ℕ) → (called (clear c) t).0 ≡ accepted →
      (d : ℕ) → channels (called (clear c) t).1 d ≡ with_channel c none (channels t) d

-- F-7: registers of 1 to 16 lines. What is claimed in Demands and above of a set-up is claimed of both kinds, and what is claimed of files of both forms
-- (`register_files`); this is what a register's values are.
pub record SixteenLines : Type 0 where
  -- "20, lines outside 1 to 16, in the place of 2 and 3"
  pub accepted : (events lines : ℕ) →
      (setup_refusal (register_setup events lines) ≡ none) ↔ ((1 ≤ events) × (events ≤ event_limit) × (1 ≤ lines) × (lines ≤ line_limit))
  -- "A value is two 16-bit masks, may-be-low and may-be-high"; "meet is the bitwise and of each; top has all lines' bits set in both"
  pub values : (lines v : ℕ) → lines ≤ line_limit → ValueIn (Register lines) v ↔ ((m : Masks) × OfLines lines m × (v ≡ pack m))
  pub meet : (events lines : ℕ) (a b : Masks) → OfLines line_limit a → OfLines line_limit b →
      setup_meet (register_setup events lines) (pack a) (pack b) ≡ pack (record { low = bit_and a.low b.low; high = bit_and a.high b.high })
  pub top : (events lines : ℕ) → setup_top (register_setup events lines) ≡ pack (record { low = 2 ^ lines - 1; high = 2 ^ lines - 1 })
  -- "A node is six bytes: kind, first, low mask, high mask, each mask's low byte first"; "A lent table entry is five: the masks likewise, then
  -- the next state"
  pub node : (lines e : ℕ) (m : Masks) → OfLines line_limit m →
      node_bytes (Register lines) (output_node e (pack m)) ≡ 3 ∷ e ∷ m.low % 256 ∷ m.low / 256 ∷ m.high % 256 ∷ m.high / 256 ∷ []
  pub entry : (lines t : ℕ) (m : Masks) → OfLines line_limit m →
      entry_bytes (Register lines) (pack m) t ≡ m.low % 256 ∷ m.low / 256 ∷ m.high % 256 ∷ m.high / 256 ∷ t ∷ []
  -- "shown correct for any values with the four laws, so both kinds rest on the same argument"
  pub laws : (s : Setup) → setup_refusal s ≡ none → MeetSemilattice (SetupValue s) (setup_meet s) (setup_top s)

pub record Requests : Type 1 where
  pub inner_binders : InnerBinders
  pub twelve_binders : TwelveBinders
  pub gathered_demands : GatheredDemands
  pub distance_with_every_event : DistanceWithEveryEvent
  pub sixteen_lines : SixteenLines
  pub one_store : OneStore
  pub same_or_stricter : SameOrStricter
  pub covering : Covering
