-- Values in bytes are read as what was written.
use mathlib.Core.{Path.{◌≡◌, refl, sym, ◌∙◌, ap, ap₂}, Logic.{◌⊎◌, ⊎_elim}, Bool.{Bool, true, false, cond, ◌&&◌}, List.{List, [], ◌∷◌}}
use Prim.Native.Nat.{ℕ, suc, ◌+◌, ◌*◌, ◌/◌, ◌%◌, ◌^◌, ◌≤◌, ◌<◌}
use native.Mathlib.{Nat.{add-zero}, Omega.{arith}}
use borrow.Author.Tests.{ltb-true, lt-ltb}
use lib.{Dec.{ltb}, ListN.{length, get_or, take, drop, length-drop, get_or-eq_default}, Seq.{take_all, get_or-drop, get_or-take, drop-cons}}
use Rattle.theory.specs.ValueSets.{unpack}
use Rattle.theory.proofs.ValueSets.{and_left, and_right, and_both}
use Rattle.values.specs.declared.ValueKind.{ValueKind}
use Rattle.values.specs.declared.ValueKind.TheVariants.{Numbered, Register}
use Rattle.values.specs.Setup.{ValueIn, value_width, value_bytes, masks_value, value_from}
use Rattle.values.specs.ValueTests.{masks_from}
use Rattle.values.specs.Claims.{ValueBytesClaim}

-- Bytes of two masks.
pub masks_byte : (a b c d : ℕ) → a < 256 → b < 256 → c < 256 → masks_value a b c d ≡ a + 256 * b + 65536 * (c + 256 * d)
unfolding masks_value
masks_byte a b c d ha hb hc =
    ap (λ t. cond t (a + 256 * b + 65536 * (c + 256 * d)) (2 ^ 32)) (and_both (lt-ltb a 256 ha) (and_both (lt-ltb b 256 hb) (lt-ltb c 256 hc)))

-- A number that is read from bytes, and one that is not.
masks_small : (a b c d : ℕ) → masks_value a b c d < 2 ^ 32 → (a < 256) × (b < 256) × (c < 256)
unfolding masks_value
masks_small a b c d = go (ltb a 256 && (ltb b 256 && ltb c 256)) refl
  where
    go : (t : Bool) → (ltb a 256 && (ltb b 256 && ltb c 256)) ≡ t
        → cond t (a + 256 * b + 65536 * (c + 256 * d)) (2 ^ 32) < 2 ^ 32 → (a < 256) × (b < 256) × (c < 256)
    go true e h =
        let rest = and_right (ltb a 256) _ e in
        (ltb-true a 256 (and_left (ltb a 256) _ e), ltb-true b 256 (and_left (ltb b 256) _ rest), ltb-true c 256 (and_right (ltb b 256) _ rest))
    go false e h = absurd (omega (arith, h))

four : {a b c d a' b' c' d' : ℕ} → a ≡ a' → b ≡ b' → c ≡ c' → d ≡ d' → ◌≡◌ {A = List ℕ} (a ∷ b ∷ c ∷ d ∷ []) (a' ∷ b' ∷ c' ∷ d' ∷ [])
four p q r s = cc

pub masks_back : (lines a b c d : ℕ) → masks_value a b c d < 2 ^ 32 → ◌≡◌ {A = List ℕ} (a ∷ b ∷ c ∷ d ∷ []) (value_bytes (Register lines) (masks_value a b c d))
unfolding unpack
masks_back lines a b c d h =
    let s = masks_small a b c d h in
    let e = masks_byte a b c d s.0 s.1 s.2 in
    four (omega (arith, e, s.0, s.1)) (omega (arith, e, s.0, s.1)) (omega (arith, e, s.0, s.1, s.2)) (omega (arith, e, s.0, s.1, s.2))

pub masks_read : (v : ℕ) → masks_value (v % 65536 % 256) (v % 65536 / 256) (v / 65536 % 256) (v / 65536 / 256) ≡ v
masks_read v =
    masks_byte (v % 65536 % 256) (v % 65536 / 256) (v / 65536 % 256) (v / 65536 / 256) (omega arith) (omega arith) (omega arith)
    ∙ omega arith

-- Past the end all bytes are 0; the bytes from a place on are those of the rest.
pub masks_past : (bytes : List ℕ) (at : ℕ) → length bytes ≤ at → masks_from bytes at ≡ 0
unfolding masks_value
masks_past bytes at h =
    rw (
      get_or-eq_default bytes 0 {n = at} (omega arith),
      get_or-eq_default bytes 0 {n = at + 1} (omega arith),
      get_or-eq_default bytes 0 {n = at + 2} (omega arith),
      get_or-eq_default bytes 0 {n = at + 3} (omega arith),
    )

pub masks_part :
    (bytes : List ℕ) (at n a b c d : ℕ) → length bytes ≤ at + n → a ≡ get_or (take n (drop at bytes)) 0 0 →
    b ≡ get_or (take n (drop at bytes)) 1 0 → c ≡ get_or (take n (drop at bytes)) 2 0 → d ≡ get_or (take n (drop at bytes)) 3 0 →
    masks_value a b c d ≡ masks_from bytes at
masks_part bytes at n a b c d h p q r s =
    let z = add-zero at in
    let all = take_all n (drop at bytes) (rw length-drop (omega arith)) in
    cc (get_or-drop at bytes 0 0, get_or-drop at bytes 1 0, get_or-drop at bytes 2 0, get_or-drop at bytes 3 0, z, all)

-- The bytes from a place on.
byte_of : (bytes l : List ℕ) (at k j : ℕ) → j < k → take k (drop at bytes) ≡ l → get_or bytes (at + j) 0 ≡ get_or l j 0
byte_of bytes l at k j h e = sym (get_or-drop at bytes j 0) ∙ sym (get_or-take k (drop at bytes) j 0 h) ∙ ap (λ x. get_or x j 0) e

read_value : (kind : ValueKind) (bytes : List ℕ) (at v : ℕ) → take (value_width kind) (drop at bytes) ≡ value_bytes kind v → value_from kind bytes at ≡ v
unfolding unpack
read_value (Numbered n) bytes at v e = ap (λ x. get_or bytes x 0) (sym (add-zero at)) ∙ byte_of bytes _ at 1 0 (omega arith) e
read_value (Register lines) bytes at v e =
    ap₂ (λ x y. masks_value x y (get_or bytes (at + 2) 0) (get_or bytes (at + 3) 0))
    (ap (λ x. get_or bytes x 0) (sym (add-zero at)) ∙ byte_of bytes _ at 4 0 (omega arith) e) (byte_of bytes _ at 4 1 (omega arith) e)
    ∙ ap₂ (λ x y. masks_value (v % 65536 % 256) (v % 65536 / 256) x y) (byte_of bytes _ at 4 2 (omega arith) e) (byte_of bytes _ at 4 3 (omega arith) e)
    ∙ masks_read v

one_at : (bytes : List ℕ) (at : ℕ) → at + 1 ≤ length bytes → take 1 (drop at bytes) ≡ get_or bytes at 0 ∷ []
one_at bytes at h = ap (take 1) (drop-cons bytes at 0 (omega arith))

four_at :
    (bytes : List ℕ) (at : ℕ) → at + 4 ≤ length bytes
    → take 4 (drop at bytes) ≡ get_or bytes at 0 ∷ get_or bytes (at + 1) 0 ∷ get_or bytes (at + 2) 0 ∷ get_or bytes (at + 3) 0 ∷ []
four_at bytes at h =
    let p : suc at ≡ at + 1 = omega arith in
    let q : suc (at + 1) ≡ at + 2 = omega arith in
    let r : suc (at + 2) ≡ at + 3 = omega arith in
    cc (
      drop-cons bytes at 0 (omega arith),
      drop-cons bytes (at + 1) 0 (omega arith),
      drop-cons bytes (at + 2) 0 (omega arith),
      drop-cons bytes (at + 3) 0 (omega arith),
      p,
      q,
      r,
    )

written_value :
    (kind : ValueKind) (bytes : List ℕ) (at : ℕ) → at + value_width kind ≤ length bytes
    → ValueIn kind (value_from kind bytes at) ⊎ (value_from kind bytes at ≡ 0)
    → take (value_width kind) (drop at bytes) ≡ value_bytes kind (value_from kind bytes at)
written_value (Numbered n) bytes at h w = one_at bytes at h
written_value (Register lines) bytes at h w =
    four_at bytes at h ∙ masks_back lines _ _ _ _ (⊎_elim (λ i. i.two_masks) (λ z. omega (arith, z)) w)

sized_value : (kind : ValueKind) (v : ℕ) → length (value_bytes kind v) ≡ value_width kind
sized_value (Numbered n) v = refl
sized_value (Register lines) v = refl

one : (kind : ValueKind) (v w : ℕ) → value_bytes kind v ≡ value_bytes kind w → v ≡ w
unfolding unpack
one (Numbered n) v w e = ap (λ l. get_or l 0 0) e
one (Register lines) v w e =
    sym (masks_read v)
    ∙ ap (λ l. masks_value (get_or l 0 0) (get_or l 1 0) (get_or l 2 0) (get_or l 3 0)) e
    ∙ masks_read w

pub value_bytes_correct : ValueBytesClaim
value_bytes_correct = record { sized = sized_value; read = read_value; written = written_value; one_value = one }
