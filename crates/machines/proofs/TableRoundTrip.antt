-- A machine's bytes are read as that machine, and bytes of a table's length are those of the machine that they are read as.
use mathlib.Core.{Path.{◌≡◌, refl, sym, ◌∙◌, ap, ap₂}, Logic.{inl}, List.{List, [], ◌∷◌, ◌++◌}}
use Prim.Native.Nat.{ℕ, suc, ◌+◌, ◌*◌, ◌/◌, ◌%◌, ◌≤◌, ◌<◌}
use native.Mathlib.{Nat.{add-zero, mul-le-mul_right}, Omega.{arith}}
use lib.{ListN.{length, get_or, take, drop}, Seq.{drop-cons}}
use Rattle.theory.specs.{MealyMachine.{Machine}, ValueSets.{unpack}}
use Rattle.values.specs.declared.ValueKind.{ValueKind}
use Rattle.values.specs.declared.ValueKind.TheVariants.{Numbered, Register}
use Rattle.values.specs.Setup.{value_width, masks_value}
use Rattle.values.proofs.ValueBytes.{masks_read, value_bytes_correct}
use Rattle.machines.specs.TableBytes.{table_bytes, entry_width, entry_bytes}
use Rattle.machines.specs.TableRefusal.{entry_value, entry_next}
use Rattle.machines.specs.StoredEntries.{two_bytes}
use Rattle.machines.specs.Claims.{TableReadBackClaim, WriteBackClaim}
use Rattle.machines.proofs.{EntryIndex.{index_below, index_state, index_event}, EntryBytes.{table_flat, table_entries, entries_at, entries_of}}

-- Byte j of the entry of state l and event e, for entries of one width.
pub table_at :
    {B : Type 0} (encode : B → ℕ → List ℕ) (width : ℕ) → ((b : B) (t : ℕ) → length (encode b t) ≡ width)
    → (events n : ℕ) (m : Machine ℕ B) (l e j : ℕ) → l < n → e < events → j < width
    → get_or (table_bytes encode events m n) ((l * events + e) * width + j) 0 ≡ get_or (encode (m.value l e) (m.next l e)) j 0
table_at encode width sized events n m l e j hl he hj =
    ap (λ bytes. get_or bytes ((l * events + e) * width + j) 0) (table_flat encode events n m)
    ∙ entries_at encode width sized (λ i. m.value (i / events) (i % events)) (λ i. m.next (i / events) (i % events))
    (n * events) (l * events + e) j (index_below events n l e hl he) hj
    ∙ cc (index_state events l e he, index_event events l e he)

pub entry_length : (kind : ValueKind) (b t : ℕ) → length (entry_bytes kind b t) ≡ entry_width kind
entry_length (Numbered n) b t = refl
entry_length (Register lines) b t = refl

pub entry_width_is : (kind : ValueKind) → entry_width kind ≡ value_width kind + 1
entry_width_is (Numbered n) = refl
entry_width_is (Register lines) = refl

pub read_back : TableReadBackClaim
unfolding unpack
read_back (Numbered k) events n m =
    record {
      values_agree = λ l e hl he. ap (λ x. get_or bytes x 0) (sym (add-zero ((l * events + e) * 2))) ∙ at l e 0 hl he (omega arith);
      nexts_agree = λ l e hl he. at l e 1 hl he (omega arith);
    }
  where
    bytes : List ℕ
    bytes = table_bytes two_bytes events m n

    at : (l e j : ℕ) → l < n → e < events → j < 2
        → get_or bytes ((l * events + e) * 2 + j) 0 ≡ get_or (two_bytes (m.value l e) (m.next l e)) j 0
    at = table_at two_bytes 2 (λ b t. refl) events n m
read_back (Register lines) events n m =
    record {
      values_agree = λ l e hl he.
          ap₂ (λ x y. masks_value x y (byte l e 2) (byte l e 3))
          (ap (λ x. get_or bytes x 0) (sym (add-zero ((l * events + e) * 5))) ∙ at l e 0 hl he (omega arith)) (at l e 1 hl he (omega arith))
          ∙ ap₂ (λ x y. masks_value (m.value l e % 65536 % 256) (m.value l e % 65536 / 256) x y) (at l e 2 hl he (omega arith)) (at l e 3 hl he (omega arith))
          ∙ masks_read (m.value l e);
      nexts_agree = λ l e hl he. at l e 4 hl he (omega arith);
    }
  where
    bytes : List ℕ
    bytes = table_bytes (entry_bytes (Register lines)) events m n

    byte : ℕ → ℕ → ℕ → ℕ
    byte l e j = get_or bytes ((l * events + e) * 5 + j) 0

    at : (l e j : ℕ) → l < n → e < events → j < 5
        → get_or bytes ((l * events + e) * 5 + j) 0 ≡ get_or (entry_bytes (Register lines) (m.value l e) (m.next l e)) j 0
    at = table_at (entry_bytes (Register lines)) 5 (λ b t. refl) events n m

-- The bytes of one entry: its value's, and the next state.
entry_split :
    (kind : ValueKind) (bytes : List ℕ) (at : ℕ) → at + entry_width kind ≤ length bytes
    → take (entry_width kind) (drop at bytes) ≡ take (value_width kind) (drop at bytes) ++ (get_or bytes (at + value_width kind) 0 ∷ [])
entry_split (Numbered n) bytes at h =
    let z : suc at ≡ at + 1 = omega arith in
    cc (drop-cons bytes at 0 (omega arith), drop-cons bytes (at + 1) 0 (omega arith), z)
entry_split (Register lines) bytes at h =
    let p : suc at ≡ at + 1 = omega arith in
    let q : suc (at + 1) ≡ at + 2 = omega arith in
    let r : suc (at + 2) ≡ at + 3 = omega arith in
    let s : suc (at + 3) ≡ at + 4 = omega arith in
    cc (
      drop-cons bytes at 0 (omega arith),
      drop-cons bytes (at + 1) 0 (omega arith),
      drop-cons bytes (at + 2) 0 (omega arith),
      drop-cons bytes (at + 3) 0 (omega arith),
      drop-cons bytes (at + 4) 0 (omega arith),
      p,
      q,
      r,
      s,
    )

-- Entry i lies within the bytes of a table.
pub entry_within : (kind : ValueKind) (c i : ℕ) → i < c → i * entry_width kind + entry_width kind ≤ c * entry_width kind
entry_within (Numbered n) c i h = omega (arith, mul-le-mul_right 2 h)
entry_within (Register lines) c i h = omega (arith, mul-le-mul_right 5 h)

pub next_entry : (kind : ValueKind) (i : ℕ) → (i + 1) * entry_width kind ≡ i * entry_width kind + entry_width kind
next_entry (Numbered n) i = omega arith
next_entry (Register lines) i = omega arith

pub write_back : WriteBackClaim
write_back kind events n bytes long in_kind =
    table_entries (entry_bytes kind) (entry_value kind bytes) (entry_next kind bytes) events n
    ∙ entries_of (entry_bytes kind) (entry_width kind) (entry_length kind) (entry_value kind bytes) (entry_next kind bytes) bytes (n * events) long
    (λ i h.
    let inside = entry_within kind (n * events) i h in
    let w = entry_width_is kind in
    ap (λ l. l ++ (entry_next kind bytes i ∷ []))
    (sym (value_bytes_correct.written kind bytes (i * entry_width kind) (omega (arith, inside, w, long)) (inl (in_kind i h))))
    ∙ sym (entry_split kind bytes (i * entry_width kind) (omega (arith, inside, long))))
