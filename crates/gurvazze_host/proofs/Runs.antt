-- The run over a sequence of events, turn by turn, with values of either kind.
use Rattle.std.proofs.Math.Bool.{and_comm}
use mathlib.Core.{Path.{◌≡◌, refl, sym, ◌∙◌, ap, ap₂, subst, subst₂}, Bool.{Bool, ◌&&◌}, List.{List, [], ◌∷◌, ◌++◌, append_assoc, append-nil, flat_map}}
use Prim.Native.Nat.{ℕ, suc, ◌+◌, ◌-◌, ◌*◌, ◌^◌, ◌≤◌, ◌<◌}
use native.Mathlib.{Nat.{mul-le-mul_right}, Numerals.{add-one}, Omega.{arith}}
use lib.{ListN.{length, get_or, take, drop, take-append-drop, length-append, length-drop}}
use lib.Seq.{take_all, take-suc, length-take-le, sets, sets-eq, drop-cons, drop-drop}
use borrow.Rule.Slice.PartMut.{put_mid}
use Rattle.limits.specs.Limits.{entry_limit}
use Rattle.theory.proofs.Words.{length_word_values, word_values_at, after_take}
use Rattle.theory.specs.MealyMachine.{Machine, after}
use Rattle.theory.specs.MachineRuns.{word_values}
use Rattle.theory.specs.ValueSetTests.{every}
use Rattle.refusal.specs.Refusal.{put}
use Rattle.values.specs.declared.ValueKind.{ValueKind}
use Rattle.values.specs.declared.ValueKind.TheVariants.{Numbered, Register}
use Rattle.values.specs.Setup.{value_width, value_bytes, value_from, masks_value}
use Rattle.values.proofs.ValueBytes.{value_bytes_correct, masks_byte, masks_back}
use Rattle.machines.specs.TableBytes.{entry_width, machine_of}
use Rattle.machines.proofs.{EntryIndex.{index_below}, Stores.{put_append}}
use Rattle.gurvazze_host.specs.FileCalls.{played, front, Playable, Runnable}

-- One number more of a test of all.
pub every_step : (n : ℕ) (test : ℕ → Bool) (b all : Bool) → b ≡ test n → all ≡ every n test → (all && b) ≡ every (n + 1) test
unfolding every
every_step n test b all e f = ap₂ ◌&&◌ f e ∙ and_comm (every n test) (test n) ∙ sym (ap (λ (k : ℕ). every k test) (add-one n))

pub few_entries : {kind : ValueKind} {events n : ℕ} {table : List ℕ} → Playable kind events n table → n * events ≤ entry_limit
few_entries {events = events} p = omega (arith, mul-le-mul_right events p.few_states, p.few_events)

-- A table at the front of a buffer is within it.
pub whole_front :
    (kind : ValueKind) (events n : ℕ) (buffer : List ℕ) → Playable kind events n (front kind events n buffer) → n * events * entry_width kind ≤ length buffer
whole_front kind events n buffer p =
    let k = n * events * entry_width kind in
    omega (arith, p.whole, length-append (take k buffer) (drop k buffer), ap length (take-append-drop k buffer))

-- ---- values in bytes, one behind another
flat_more : (encode : ℕ → List ℕ) (l : List ℕ) (v : ℕ) → flat_map encode (l ++ (v ∷ [])) ≡ flat_map encode l ++ encode v
unfolding flat_map
flat_more encode [] v = append-nil (encode v)
flat_more encode (x ∷ l) v = ap (λ (r : List ℕ). encode x ++ r) (flat_more encode l v) ∙ sym (append_assoc (encode x) (flat_map encode l) (encode v))

pub flat_length : (kind : ValueKind) (l : List ℕ) → length (flat_map (value_bytes kind) l) ≡ length l * value_width kind
unfolding flat_map
flat_length kind [] = omega arith
flat_length kind (v ∷ l) =
    length-append (value_bytes kind v) (flat_map (value_bytes kind) l)
    ∙ omega (arith, value_bytes_correct.sized kind v, flat_length kind l)

-- ---- after i events: the state q and the buffer b
pub record Ran (kind : ValueKind) (events n : ℕ) (table w out : List ℕ) (q : ℕ) (b : List ℕ) (i : ℕ) : Type 0 where
  pub within : i ≤ length w
  pub state : q ≡ after (machine_of kind events table) 0 (take i w)
  pub below : q < n
  pub buffer : b ≡ put (flat_map (value_bytes kind) (take i (word_values (machine_of kind events table) 0 w))) out

module _ {kind : ValueKind} {events n : ℕ} {table w out : List ℕ} (g : Runnable kind events n table w out) where
  abbrev m : Machine ℕ ℕ
  m = machine_of kind events table

  abbrev values : List ℕ
  values = word_values m 0 w

  -- the output after i events
  abbrev bytes : ℕ → List ℕ
  bytes i = flat_map (value_bytes kind) (take i values)

  bytes_length : (i : ℕ) → i ≤ length w → length (bytes i) ≡ i * value_width kind
  bytes_length i h =
      flat_length kind (take i values)
      ∙ ap (λ (k : ℕ). k * value_width kind) (length-take-le i values (omega (arith, length_word_values m 0 w)))

  bytes_fit : (i : ℕ) → i ≤ length w → length (bytes i) ≤ length out
  bytes_fit i h = omega (arith, bytes_length i h, mul-le-mul_right (value_width kind) h, g.fits)

  pub begins : Ran kind events n table w out 0 out 0
  unfolding put flat_map
  begins = record { within = omega arith; state = refl; below = g.playable.some_states; buffer = refl }

  pub same_size : {q : ℕ} {b : List ℕ} {i : ℕ} → Ran kind events n table w out q b i → length b ≡ length out
  unfolding put
  same_size {i = i} h =
      ap length h.buffer ∙ length-append (bytes i) (drop (length (bytes i)) out)
      ∙ omega (arith, length-drop (length (bytes i)) out, bytes_fit i h.within)

  pub ends : {q : ℕ} {b : List ℕ} {i : ℕ} → Ran kind events n table w out q b i → length w ≤ i → b ≡ put (played kind events table w) out
  ends {i = i} h l =
      h.buffer ∙ ap (λ (x : List ℕ). put (flat_map (value_bytes kind) x) out) (take_all i values (omega (arith, length_word_values m 0 w)))

  module _ {q : ℕ} {b : List ℕ} {i : ℕ} (h : Ran kind events n table w out q b i) (l : i < length w) where
    abbrev e : ℕ
    e = get_or w i 0

    entry : q * events + e < n * events
    entry = index_below events n q e h.below (g.word_in i l)

    place : q * events + e < entry_limit
    place = omega (arith, entry, few_entries g.playable)

    inside : (q * events + e + 1) * entry_width kind ≤ length table
    inside = let r : q * events + e + 1 ≤ n * events = omega (arith, entry) in omega (arith, mul-le-mul_right (entry_width kind) r, g.playable.whole)

    slot : (i + 1) * value_width kind ≤ length b
    slot =
        let r : i + 1 ≤ length w = omega arith in
        omega (arith, mul-le-mul_right (value_width kind) r, g.fits, same_size h)

    stored : sets b (i * value_width kind) (value_bytes kind (m.value q e)) ≡ put (bytes (i + 1)) out
    stored =
        let room : i < length values = omega (arith, length_word_values m 0 w) in
        let size = bytes_length i h.within in
        let is : m.value q e ≡ get_or values i 0 = ap (λ (x : ℕ). m.value x e) h.state ∙ sym (word_values_at m 0 w i l) in
        let more : bytes i ++ value_bytes kind (get_or values i 0) ≡ bytes (i + 1) =
        sym (flat_more (value_bytes kind) (take i values) (get_or values i 0))
        ∙ ap (flat_map (value_bytes kind)) (sym (take-suc values i 0 room) ∙ ap (λ (x : ℕ). take x values) (sym (add-one i))) in
        let fit : length (bytes i) + length (value_bytes kind (get_or values i 0)) ≤ length out =
        omega (arith, ap length more, length-append (bytes i) (value_bytes kind (get_or values i 0)), bytes_fit (i + 1) (omega arith)) in
        ap₂ (λ (x : List ℕ) (y : ℕ). sets x (i * value_width kind) (value_bytes kind y)) h.buffer is
        ∙ ap (λ (x : ℕ). sets (put (bytes i) out) x (value_bytes kind (get_or values i 0))) (sym size)
        ∙ put_append (bytes i) (value_bytes kind (get_or values i 0)) out fit
        ∙ ap (λ (x : List ℕ). put x out) more

    -- the next state, and the buffer with the value's bytes
    again : {b' : List ℕ} → sets b (i * value_width kind) (value_bytes kind (m.value q e)) ≡ b'
        → Ran kind events n table w out (m.next q e) b' (i + 1)
    again is =
        record {
          within = omega (arith, l);
          state = ap (λ (x : ℕ). m.next x e) h.state ∙ sym (after_take m 0 w i l) ∙ ap (λ (x : ℕ). after m 0 (take x w)) (sym (add-one i));
          below = g.playable.nexts q e h.below (g.word_in i l);
          buffer = sym is ∙ stored;
        }

-- ---- how a value's bytes stand in a table
four_at :
    (bytes : List ℕ) (at : ℕ) → at + 4 ≤ length bytes
    → take 4 (drop at bytes) ≡ get_or bytes at 0 ∷ get_or bytes (at + 1) 0 ∷ get_or bytes (at + 2) 0 ∷ get_or bytes (at + 3) 0 ∷ []
four_at bytes at h =
    let p : suc at ≡ at + 1 = omega arith in
    let q : suc (at + 1) ≡ at + 2 = omega arith in
    let r : suc (at + 2) ≡ at + 3 = omega arith in
    cc (
      drop-cons bytes at 0 (omega arith),
      drop-cons bytes (at + 1) 0 (omega arith),
      drop-cons bytes (at + 2) 0 (omega arith),
      drop-cons bytes (at + 3) 0 (omega arith),
      p,
      q,
      r,
    )

value_part :
    (kind : ValueKind) (table : List ℕ) (at : ℕ) → ((j : ℕ) → get_or table j 0 < 256) → at + value_width kind ≤ length table
    → take (value_width kind) (drop at table) ≡ value_bytes kind (value_from kind table at)
value_part (Numbered n) table at bytes h = ap (take 1) (drop-cons table at 0 (omega arith))
value_part (Register lines) table at bytes h =
    let x = get_or table at 0 in
    let y = get_or table (at + 1) 0 in
    let z = get_or table (at + 2) 0 in
    let u = get_or table (at + 3) 0 in
    let small : masks_value x y z u < 2 ^ 32 =
    omega (arith, masks_byte x y z u (bytes at) (bytes (at + 1)) (bytes (at + 2)), bytes at, bytes (at + 1), bytes (at + 2), bytes (at + 3)) in
    four_at table at h ∙ masks_back lines x y z u small

-- Bytes written to a part of a buffer.
middle : (l bs : List ℕ) (at size : ℕ) → length bs ≡ size → at + size ≤ length l → put_mid at (at + size - at) l bs ≡ sets l at bs
middle l bs at size long room =
    let behind : at + (at + size - at) ≡ at + length bs = omega (arith, long) in
    ap (λ t. take at l ++ (bs ++ t)) (drop-drop (at + size - at) at l ∙ ap (λ n. drop n l) behind)
    ∙ sym (append_assoc (take at l) bs (drop (at + length bs) l))
    ∙ sym (sets-eq bs l at (omega (arith, long, room)))

-- The next state stands behind the value.
width_is : (kind : ValueKind) → value_width kind + 1 ≡ entry_width kind
width_is (Numbered n) = refl
width_is (Register lines) = refl

-- A turn of the run, in the bytes of the table and of the buffer.
module _ {kind : ValueKind} {events n : ℕ} {table w out : List ℕ} (g : Runnable kind events n table w out) {q : ℕ} {b : List ℕ} {i : ℕ}
    (h : Ran kind events n table w out q b i) (l : i < length w) where
  -- where the value stands, and where it goes
  entry_in : (q * events + get_or w i 0) * (value_width kind + 1) + value_width kind < length table
  entry_in =
      let p = inside g h l in
      let is = width_is kind in
      omega (arith, subst (λ (k : ℕ). (q * events + get_or w i 0 + 1) * k ≤ length table) (sym is) p)

  slot_in : i * value_width kind + value_width kind ≤ length b
  slot_in = omega (arith, slot g h l)

  turn : ((j : ℕ) → get_or table j 0 < 256) → {part : List ℕ}
      → part ≡ take (value_width kind) (drop ((q * events + get_or w i 0) * (value_width kind + 1)) table)
      → Ran kind events n table w out (get_or table ((q * events + get_or w i 0) * (value_width kind + 1) + value_width kind) 0)
      (put_mid (i * value_width kind) (i * value_width kind + value_width kind - i * value_width kind) b part) (i + 1)
  turn bytes {part} is =
      let x = q * events + get_or w i 0 in
      let at = x * (value_width kind + 1) in
      let place : at ≡ x * entry_width kind = ap (λ (k : ℕ). x * k) (width_is kind) in
      let same : part ≡ value_bytes kind (value_from kind table at) = is ∙ value_part kind table at bytes (omega (arith, entry_in)) in
      let value : value_from kind table at ≡ value_from kind table (x * entry_width kind) = ap (value_from kind table) place in
      let stores : sets b (i * value_width kind) (value_bytes kind (value_from kind table (x * entry_width kind)))
      ≡ put_mid (i * value_width kind) (i * value_width kind + value_width kind - i * value_width kind) b part =
      sym (middle b part (i * value_width kind) (value_width kind) (ap length same ∙ value_bytes_correct.sized kind _) slot_in
      ∙ ap (sets b (i * value_width kind)) (same ∙ ap (value_bytes kind) value)) in
      subst (λ (j : ℕ). Ran kind events n table w out (get_or table (j + value_width kind) 0)
      (put_mid (i * value_width kind) (i * value_width kind + value_width kind - i * value_width kind) b part) (i + 1)) (sym place)
      (again g h l stores)

-- The same, as the loop computes places: by the bytes of a value and by the event that it has at hand.
module _ {kind : ValueKind} {events n : ℕ} {table w out : List ℕ} (g : Runnable kind events n table w out) {q : ℕ} {b : List ℕ} {i : ℕ}
    (h : Ran kind events n table w out q b i) (l : i < length w) {width e : ℕ} (size : value_width kind ≡ width) (event : e ≡ get_or w i 0) where
  pub entry_below : q * events + e < entry_limit
  entry_below = subst (λ (x : ℕ). q * events + x < entry_limit) (sym event) (place g h l)

  pub entry_within : (q * events + e) * (width + 1) + width < length table
  entry_within = subst₂ (λ (x k : ℕ). (q * events + x) * (k + 1) + k < length table) (sym event) size (entry_in g h l)

  pub slot_within : i * width + width ≤ length b
  slot_within = subst (λ (k : ℕ). i * k + k ≤ length b) size (slot_in g h l)

  pub turned : ((j : ℕ) → get_or table j 0 < 256) → {part : List ℕ} {next : ℕ} → part ≡ take width (drop ((q * events + e) * (width + 1)) table)
      → next ≡ get_or table ((q * events + e) * (width + 1) + width) 0
      → Ran kind events n table w out next (put_mid (i * width) (i * width + width - i * width) b part) (i + 1)
  turned bytes {part} {next} is after =
      subst (λ (x : ℕ). Ran kind events n table w out x (put_mid (i * width) (i * width + width - i * width) b part) (i + 1)) (sym after)
      (subst₂ (λ (x k : ℕ). part ≡ take k (drop ((q * events + x) * (k + 1)) table)
      → Ran kind events n table w out (get_or table ((q * events + x) * (k + 1) + k) 0) (put_mid (i * k) (i * k + k - i * k) b part) (i + 1))
      (sym event) size (λ z. turn g h l bytes z) is)
