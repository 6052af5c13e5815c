-- Laws of entries in bytes, for every encoding: joining, comparing, reading back.
use mathlib.Core.{Path.{◌≡◌, refl, sym, ◌∙◌, ap}, List.{List, ◌++◌, append_assoc, append-nil}}
use Prim.Native.Nat.{ℕ, zero, suc, ◌+◌, ◌*◌, ◌-◌, ◌/◌, ◌%◌, ◌≤◌, ◌<◌}
use native.Mathlib.{Nat.{add-zero, add-suc, suc-add, zero-add}, Omega.{arith}}
use lib.{ListN.{length, get_or, take, drop, length-append, take-append-drop, drop_of_length-le, get_or-append}, Seq.{drop-drop, get_or-append-add}}
use Rattle.theory.specs.MealyMachine.{Machine}
use Rattle.machines.specs.{TableBytes.{row_bytes, rows_bytes, table_bytes, entries}, StoredEntries.{entries_bytes}}
use Rattle.machines.specs.Claims.{Agree, TableLengthClaim, SameBytesClaim}
use Rattle.machines.proofs.EntryIndex.{index_state, index_event}

-- Two machines with the same entries.
module _ {B : Type 0} (encode : B → ℕ → List ℕ) (events : ℕ) (m k : Machine ℕ B) where
  row_same : (c l e : ℕ)
      → ((f : ℕ) → e ≤ f → f < e + c → m.value l f ≡ k.value l f)
      → ((f : ℕ) → e ≤ f → f < e + c → m.next l f ≡ k.next l f)
      → row_bytes encode events m c l e ≡ row_bytes encode events k c l e
  row_same zero l e same_value same_next = refl
  row_same (suc c) l e same_value same_next =
      let rest =
      row_same c l (suc e)
      (λ f h g. same_value f (omega arith) (omega arith)) (λ f h g. same_next f (omega arith) (omega arith)) in
      cc (rest, same_value e (omega arith) (omega arith), same_next e (omega arith) (omega arith))

  rows_same : (n l : ℕ) → Agree events (l + n) m k → rows_bytes encode events m n l ≡ rows_bytes encode events k n l
  rows_same zero l agree = refl
  rows_same (suc n) l agree =
      let row =
      row_same events l zero
      (λ f h g. agree.values_agree l f (omega arith) (omega arith)) (λ f h g. agree.nexts_agree l f (omega arith) (omega arith)) in
      let rest =
      rows_same n (suc l)
      record {
        values_agree = λ i e h g. agree.values_agree i e (omega arith) g;
        nexts_agree = λ i e h g. agree.nexts_agree i e (omega arith) g;
      } in
      cc (row, rest)

pub same_bytes : SameBytesClaim
same_bytes B encode events n m k agree =
    rows_same encode events m k n zero
    record {
      values_agree = λ l e h g. agree.values_agree l e (omega arith) g;
      nexts_agree = λ l e h g. agree.nexts_agree l e (omega arith) g;
    }

-- Entries with the same bytes, by two encodings.
pub entries_same : {B C : Type 0} (encode : B → ℕ → List ℕ) (code : C → ℕ → List ℕ)
    (v : ℕ → B) (w : ℕ → C) (t u : ℕ → ℕ) (c i : ℕ)
    → ((k : ℕ) → i ≤ k → k < i + c → encode (v k) (t k) ≡ code (w k) (u k))
    → entries_bytes encode v t c i ≡ entries_bytes code w u c i
unfolding entries_bytes
entries_same encode code v w t u zero i same = refl
entries_same encode code v w t u (suc c) i same =
    let rest = entries_same encode code v w t u c (suc i) (λ k h g. same k (omega arith) (omega arith)) in
    cc (same i (omega arith) (omega arith), rest)

-- Entries read by number.
module _ {B : Type 0} (encode : B → ℕ → List ℕ) (value_at : ℕ → B) (next_at : ℕ → ℕ) where
  pub entries_append : (a b i : ℕ)
      → entries_bytes encode value_at next_at (a + b) i
      ≡ entries_bytes encode value_at next_at a i ++ entries_bytes encode value_at next_at b (i + a)
  unfolding entries_bytes
  entries_append zero b i = rw (zero-add b, add-zero i)
  entries_append (suc a) b i =
      rw (suc-add a b, add-suc i a, ← suc-add i a, entries_append a b (suc i)) (sym (append_assoc (encode (value_at i) (next_at i)) _ _))

  entries_one : (i : ℕ) → entries_bytes encode value_at next_at 1 i ≡ encode (value_at i) (next_at i)
  unfolding entries_bytes
  entries_one i = append-nil (encode (value_at i) (next_at i))

  pub entries_snoc : (c : ℕ)
      → entries_bytes encode value_at next_at (c + 1) 0 ≡ entries_bytes encode value_at next_at c 0 ++ encode (value_at c) (next_at c)
  entries_snoc c = cc (entries_append c 1 0, entries_one (0 + c), zero-add c)

  -- A table's rows are its entries in the order of their numbers.
  row_entries : (events c l e : ℕ)
      → row_bytes encode events (entries events value_at next_at) c l e ≡ entries_bytes encode value_at next_at c (l * events + e)
  unfolding entries_bytes
  row_entries events zero l e = refl
  row_entries events (suc c) l e =
      ap (λ r. encode (value_at (l * events + e)) (next_at (l * events + e)) ++ r)
      (row_entries events c l (suc e) ∙ ap (entries_bytes encode value_at next_at c) (add-suc (l * events) e))

  rows_entries : (events n l : ℕ)
      → rows_bytes encode events (entries events value_at next_at) n l ≡ entries_bytes encode value_at next_at (n * events) (l * events)
  unfolding entries_bytes
  rows_entries events zero l = let z : 0 * events ≡ 0 = omega arith in rw z
  rows_entries events (suc n) l =
      let first = row_entries events events l zero in
      let rest = rows_entries events n (suc l) in
      let joined = entries_append events (n * events) (l * events) in
      let start : l * events + 0 ≡ l * events = omega arith in
      let next : suc l * events ≡ l * events + events = omega arith in
      let count : suc n * events ≡ events + n * events = omega arith in
      cc (first, rest, joined, start, next, count)

  pub table_entries : (events n : ℕ)
      → table_bytes encode events (entries events value_at next_at) n ≡ entries_bytes encode value_at next_at (n * events) 0
  table_entries events n =
      let z : 0 * events ≡ 0 = omega arith in
      rows_entries events n 0 ∙ ap (entries_bytes encode value_at next_at (n * events)) z

-- The table of any machine, by entry numbers.
pub table_flat : {B : Type 0} (encode : B → ℕ → List ℕ) (events n : ℕ) (m : Machine ℕ B)
    → table_bytes encode events m n
    ≡ entries_bytes encode (λ i. m.value (i / events) (i % events)) (λ i. m.next (i / events) (i % events)) (n * events) 0
table_flat encode events n m =
    same_bytes _ encode events n m
    (entries events (λ i. m.value (i / events) (i % events)) (λ i. m.next (i / events) (i % events)))
    record {
      values_agree = λ l e h g. cc (index_state events l e g, index_event events l e g);
      nexts_agree = λ l e h g. cc (index_state events l e g, index_event events l e g);
    }
    ∙ table_entries encode (λ i. m.value (i / events) (i % events)) (λ i. m.next (i / events) (i % events)) events n

-- Entries of one width.
module _ {B : Type 0} (encode : B → ℕ → List ℕ) (width : ℕ) (sized : (b : B) (t : ℕ) → length (encode b t) ≡ width)
    (value_at : ℕ → B) (next_at : ℕ → ℕ) where
  pub entries_length : (c i : ℕ) → length (entries_bytes encode value_at next_at c i) ≡ c * width
  unfolding entries_bytes
  entries_length zero i = omega arith
  entries_length (suc c) i =
      length-append (encode (value_at i) (next_at i)) (entries_bytes encode value_at next_at c (suc i))
      ∙ omega (arith, sized (value_at i) (next_at i), entries_length c (suc i))

  -- Entry i between the entries before it and those after it.
  entries_split : (i d : ℕ)
      → entries_bytes encode value_at next_at (i + 1 + d) 0
      ≡ entries_bytes encode value_at next_at i 0 ++ (encode (value_at i) (next_at i) ++ entries_bytes encode value_at next_at d (i + 1))
  entries_split i d =
      cc (
        entries_append encode value_at next_at (i + 1) d 0,
        entries_snoc encode value_at next_at i,
        zero-add (i + 1),
        append_assoc (entries_bytes encode value_at next_at i 0) (encode (value_at i) (next_at i)) (entries_bytes encode value_at next_at d (i + 1)),
      )

  -- Byte j of entry i.
  pub entries_at : (c i j : ℕ) → i < c → j < width
      → get_or (entries_bytes encode value_at next_at c 0) (i * width + j) 0 ≡ get_or (encode (value_at i) (next_at i)) j 0
  entries_at c i j hi hj =
      let count : c ≡ i + 1 + (c - (i + 1)) = omega arith in
      rw (count, entries_split i (c - (i + 1)), ← entries_length i 0)
      (get_or-append-add (entries_bytes encode value_at next_at i 0) _ j 0
      ∙ get_or-append (encode (value_at i) (next_at i)) _ 0 j (omega (arith, sized (value_at i) (next_at i))))

  -- Bytes whose parts are the entries' bytes.
  entries_from : (bytes : List ℕ) (c i : ℕ) → length bytes ≡ (i + c) * width
      → ((k : ℕ) → k < i + c → encode (value_at k) (next_at k) ≡ take width (drop (k * width) bytes))
      → entries_bytes encode value_at next_at c i ≡ drop (i * width) bytes
  unfolding entries_bytes
  entries_from bytes zero i long each = sym (drop_of_length-le bytes {i = i * width} (omega arith))
  entries_from bytes (suc c) i long each =
      let rest = entries_from bytes c (suc i) (omega arith) (λ k h. each k (omega arith)) in
      let split = take-append-drop width (drop (i * width) bytes) in
      let dropped = drop-drop width (i * width) bytes in
      let next : suc i * width ≡ i * width + width = omega arith in
      cc (each i (omega arith), rest, split, dropped, next)

  pub entries_of : (bytes : List ℕ) (c : ℕ) → length bytes ≡ c * width
      → ((k : ℕ) → k < c → encode (value_at k) (next_at k) ≡ take width (drop (k * width) bytes))
      → entries_bytes encode value_at next_at c 0 ≡ bytes
  entries_of bytes c long each =
      let z : 0 * width ≡ 0 = omega arith in
      entries_from bytes c 0 (omega arith) (λ k h. each k (omega arith)) ∙ ap (λ n. drop n bytes) z

pub table_length : TableLengthClaim
table_length B encode width sized events m n =
    ap length (table_flat encode events n m)
    ∙ entries_length encode width sized (λ i. m.value (i / events) (i % events)) (λ i. m.next (i / events) (i % events)) (n * events) 0
