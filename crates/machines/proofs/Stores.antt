-- Outputs put over the front of a buffer, the steps of a store, and flat arrays that are stored as a machine's table.
use mathlib.Core.{Path.{◌≡◌, refl, sym, ◌∙◌, ap, ap₂}, Bool.{true, false, cond}, List.{List, [], ◌∷◌, ◌++◌, append_assoc, append-nil}}
use Prim.Native.Nat.{ℕ, suc, ◌+◌, ◌*◌, ◌/◌, ◌%◌, ◌≤◌, ◌<◌}
use native.Mathlib.{Nat.{mod-eq_of_lt}, Numerals.{add-one}, Omega.{arith}}
use borrow.Author.Tests.{le-leb, lt-leb}
use lib.{ListN.{length, get_or, drop, set, length-append}, Dec.{leb}, Seq.{drop-cons, set-append_seam, sets}}
use Rattle.refusal.specs.Refusal.{put}
use Rattle.values.specs.declared.ValueKind.{ValueKind}
use Rattle.values.specs.declared.ValueKind.TheVariants.{Numbered, Register}
use Rattle.machines.specs.StoredEntries.{two_bytes, entries_bytes, kept_bytes, stored, storable, after_store}
use Rattle.machines.specs.TableBytes.{entry_bytes, entry_width}
use Rattle.machines.specs.Claims.{OfBytes, StoredTableClaim}
use Rattle.machines.proofs.EntryBytes.{entries_same, entries_snoc, entries_length, table_flat}

-- One byte more of an output.
pub put_snoc : (output old : List ℕ) (b : ℕ) → length output < length old
    → set (put output old) (length output) b ≡ put (output ++ (b ∷ [])) old
unfolding put
put_snoc output old b room =
    let rest = drop-cons old (length output) 0 room in
    let stored = set-append_seam output (get_or old (length output) 0) (drop (suc (length output)) old) b in
    let joined = append_assoc output (b ∷ []) (drop (suc (length output)) old) in
    let long : length (output ++ (b ∷ [])) ≡ suc (length output) = length-append output (b ∷ []) ∙ add-one (length output) in
    cc (rest, stored, joined, long)

-- More bytes of an output, stored one after the other.
pub put_append : (output more old : List ℕ) → length output + length more ≤ length old
    → sets (put output old) (length output) more ≡ put (output ++ more) old
put_append output [] old room = ap (λ l. put l old) (sym (append-nil output))
put_append output (b ∷ more) old room =
    let longer : length (output ++ (b ∷ [])) ≡ suc (length output) = length-append output (b ∷ []) ∙ add-one (length output) in
    let rest = put_append (output ++ (b ∷ [])) more old (omega arith) in
    cc (put_snoc output old b (omega arith), longer, rest, append_assoc output (b ∷ []) more)

-- One entry more, for entries of one width.
pub put_entry : {B : Type 0} (encode : B → ℕ → List ℕ) (width : ℕ) → ((b : B) (t : ℕ) → length (encode b t) ≡ width)
    → (value_at : ℕ → B) (next_at : ℕ → ℕ) (old : List ℕ) (i : ℕ) → (i + 1) * width ≤ length old
    → sets (put (entries_bytes encode value_at next_at i 0) old) (i * width) (encode (value_at i) (next_at i))
    ≡ put (entries_bytes encode value_at next_at (i + 1) 0) old
put_entry encode width sized value_at next_at old i room =
    let long = entries_length encode width sized value_at next_at i 0 in
    let more = put_append (entries_bytes encode value_at next_at i 0) (encode (value_at i) (next_at i)) old
    (omega (arith, long, sized (value_at i) (next_at i))) in
    cc (long, more, entries_snoc encode value_at next_at i)

-- The bytes of an entry are as many as its kind says.
kept_width : (kind : ValueKind) (v t : ℕ) → length (kept_bytes kind v t) ≡ entry_width kind
kept_width (Numbered n) v t = refl
kept_width (Register lines) v t = refl

-- So many entries have room exactly if the whole entries of the buffer are as many.
pub room_short : (kind : ValueKind) (w n count : ℕ) → w ≡ entry_width kind → n / w < count → n < count * entry_width kind
room_short (Numbered k) w n count e h = let g : n / 2 < count = rw e at h in omega (arith, g)
room_short (Register k) w n count e h = let g : n / 5 < count = rw e at h in omega (arith, g)

pub room_enough : (kind : ValueKind) (w n count : ℕ) → w ≡ entry_width kind → count ≤ n / w → count * entry_width kind ≤ n
room_enough (Numbered k) w n count e h = let g : count ≤ n / 2 = rw e at h in omega (arith, g)
room_enough (Register k) w n count e h = let g : count ≤ n / 5 = rw e at h in omega (arith, g)

-- The steps of a loop that stores entries of flat arrays.
module _ (values nexts : List ℕ) where
  pub store_none : (encode : ℕ → ℕ → List ℕ) (old : List ℕ) → old ≡ put (stored encode values nexts 0) old
  unfolding stored entries_bytes put
  store_none encode old = refl

  pub store_more : (kind : ValueKind) (old : List ℕ) (i : ℕ) → (i + 1) * entry_width kind ≤ length old
      → sets (put (stored (kept_bytes kind) values nexts i) old) (i * entry_width kind) (kept_bytes kind (get_or values i 0) (get_or nexts i 0))
      ≡ put (stored (kept_bytes kind) values nexts (i + 1)) old
  unfolding stored
  store_more kind old i room =
      put_entry (kept_bytes kind) (entry_width kind) (kept_width kind) (λ k. get_or values k 0) (λ k. get_or nexts k 0) old i room

-- What a store answers and leaves.
module _ (width : ℕ) (encode : ℕ → ℕ → List ℕ) (values nexts : List ℕ) (count : ℕ) (old : List ℕ) where
  pub after_none : storable width values nexts count old ≡ false → after_store width encode values nexts count old ≡ old
  unfolding after_store
  after_none short = ap (λ b. cond b (put (stored encode values nexts count) old) old) short

  pub after_all :
      storable width values nexts count old ≡ true
      → after_store width encode values nexts count old ≡ put (stored encode values nexts count) old
  unfolding after_store
  after_all fits = ap (λ b. cond b (put (stored encode values nexts count) old) old) fits

  pub not_stored : storable width values nexts count old ≡ false
      → (false ≡ storable width values nexts count old) × (old ≡ after_store width encode values nexts count old)
  not_stored short = (sym short, sym (after_none short))

  pub all_stored : storable width values nexts count old ≡ true → (now : List ℕ) → now ≡ put (stored encode values nexts count) old
      → (true ≡ storable width values nexts count old) × (now ≡ after_store width encode values nexts count old)
  all_stored fits now e = (sym fits, e ∙ sym (after_all fits))

module _ (width : ℕ) (values nexts : List ℕ) (count : ℕ) (old : List ℕ) where
  pub few_values : length values < count → storable width values nexts count old ≡ false
  unfolding storable
  few_values h = rw (lt-leb count (length values) h)

  pub few_nexts : count ≤ length values → length nexts < count → storable width values nexts count old ≡ false
  unfolding storable
  few_nexts hv h = rw (le-leb count (length values) hv, lt-leb count (length nexts) h)

  -- Where the arrays are long enough, the room decides.
  pub storable_room : count ≤ length values → count ≤ length nexts → storable width values nexts count old ≡ leb (count * width) (length old)
  unfolding storable
  storable_room hv hn = rw (le-leb count (length values) hv, le-leb count (length nexts) hn)

  pub short_buffer : count ≤ length values → count ≤ length nexts → length old < count * width → storable width values nexts count old ≡ false
  short_buffer hv hn h = storable_room hv hn ∙ lt-leb (count * width) (length old) h

  pub enough : count ≤ length values → count ≤ length nexts → count * width ≤ length old → storable width values nexts count old ≡ true
  enough hv hn h = storable_room hv hn ∙ le-leb (count * width) (length old) h

-- What is kept of a value of bytes is its bytes.
kept : (kind : ValueKind) (v t : ℕ) → OfBytes kind v → kept_bytes kind v t ≡ entry_bytes kind v t
kept (Numbered n) v t h = ap (λ x. two_bytes x t) (mod-eq_of_lt h)
kept (Register lines) v t h = refl

pub stored_table : StoredTableClaim
unfolding stored
stored_table kind events n m values nexts same_value same_next small =
    entries_same (kept_bytes kind) (entry_bytes kind)
    (λ i. get_or values i 0) (λ i. m.value (i / events) (i % events)) (λ i. get_or nexts i 0) (λ i. m.next (i / events) (i % events))
    (n * events) 0
    (λ i from below.
    kept kind (get_or values i 0) (get_or nexts i 0) (small i (omega arith))
    ∙ ap₂ (entry_bytes kind) (same_value i (omega arith)) (same_next i (omega arith)))
    ∙ sym (table_flat (entry_bytes kind) events n m)
