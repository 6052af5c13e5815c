-- Nodes appended to a list one after the other.
use mathlib.Core.{Path.{◌≡◌, refl, sym, ◌∙◌, ap}, List.{List, [], ◌∷◌, ◌++◌, append_assoc, append-nil}}
use Prim.Native.Nat.{ℕ, ◌+◌, ◌*◌, ◌/◌, ◌%◌, ◌≤◌, ◌<◌}
use native.Mathlib.{Omega.{arith}}
use lib.{ListN.{length, get_or, take, drop, length-append, length-take}, Seq.{take_at, sets, sets-eq}}
use Rattle.limits.specs.Limits.{node_limit}
use Rattle.theory.specs.Formula.{Node}
use Rattle.values.specs.declared.ValueKind.{ValueKind}
use Rattle.values.specs.declared.ValueKind.TheVariants.{Numbered, Register}
use Rattle.values.specs.Setup.{mask_bytes, value_bytes}
use Rattle.theory.specs.ValueSets.{unpack}
use Rattle.formulas.specs.RuleConditions.{encode_all, node_width, node_bytes}
use Rattle.formulas.proofs.{Encoding.{encode_append}, NodeCodes.{fields_same, node_code}}
use Rattle.machines.specs.TableRefusal.{entry_value}
use Rattle.machines.specs.Claims.{OfBytes}
use Rattle.characteristic.specs.NodeOutput.{Listing, Appended, listed}
use Rattle.formulas.specs.NodeCode.{kind_number, first_field, value_field}

-- What is read from bytes fits them.
pub read_fits : (kind : ValueKind) (bytes : List ℕ) (i : ℕ) → ((j : ℕ) → get_or bytes j 0 < 256) → OfBytes kind (entry_value kind bytes i)
read_fits (Numbered n) bytes i small = small (i * 2)
read_fits (Register lines) bytes i small = tt

-- The bytes that are stored for one node more lie within those of all nodes that a rule may have.
pub node_room : (kind : ValueKind) {at : ℕ} → at < node_limit → at * node_width kind + 6 ≤ node_limit * 6
node_room (Numbered n) below = omega arith
node_room (Register lines) below = omega arith

-- The bytes of a node, from its fields.
pub node_fields_are :
    (kind : ValueKind) (n : Node ℕ) {number first value : ℕ} → number ≡ kind_number n → first ≡ first_field n → value ≡ value_field n
    → number ∷ first ∷ value_bytes kind value ≡ node_bytes kind n
node_fields_are kind n number_is first_is value_is = cc (number_is, first_is, value_is) ∙ sym (fields_same kind n)

-- The four bytes of a value, the low one first, and of these the ones that a number does not have.
pub four_bytes :
    (v : ℕ) → v < 4294967296
    → v % 256 ∷ v / 256 % 256 ∷ v / 65536 % 256 ∷ v / 16777216 % 256 ∷ [] ≡ mask_bytes (unpack v).low ++ mask_bytes (unpack v).high
unfolding unpack
four_bytes v small =
    let a : v % 256 ≡ v % 65536 % 256 = omega arith in
    let b : v / 256 % 256 ≡ v % 65536 / 256 = omega arith in
    let d : v / 16777216 % 256 ≡ v / 65536 / 256 = omega (arith, small) in
    cc (a, b, d)

abbrev pub behind : ValueKind → ℕ → List ℕ
behind (Numbered n) v = v / 256 % 256 ∷ v / 65536 % 256 ∷ v / 16777216 % 256 ∷ []
behind (Register lines) v = []

pub value_first : (kind : ValueKind) (v : ℕ) → OfBytes kind v → mask_bytes (unpack v).low ++ mask_bytes (unpack v).high ≡ value_bytes kind v ++ behind kind v
value_first (Numbered n) v small =
    let a : v % 256 ≡ v = omega (arith, small) in sym (four_bytes v (omega (arith, small))) ∙ ap (λ b. b ∷ behind (Numbered n) v) a
value_first (Register lines) v small = sym (append-nil (value_bytes (Register lines) v))

-- With the two bytes before it they are six.
pub six_bytes : (kind : ValueKind) (v : ℕ) → length (value_bytes kind v ++ behind kind v) ≡ 4
six_bytes (Numbered n) v = refl
six_bytes (Register lines) v = refl

pub node_long : (kind : ValueKind) (number first v : ℕ) → node_width kind ≡ length (number ∷ first ∷ value_bytes kind v)
node_long (Numbered n) number first v = refl
node_long (Register lines) number first v = refl

-- The first bytes after more are stored behind those.
pub take_stored :
    (l bs more : List ℕ) (at after : ℕ) → at + length (bs ++ more) ≤ length l → after ≡ at + length bs
    → take after (sets l at (bs ++ more)) ≡ take at l ++ bs
take_stored l bs more at after fits after_is =
    ap (take after)
    (sets-eq (bs ++ more) l at fits
    ∙ ap (λ b. b ++ drop (at + length (bs ++ more)) l) (sym (append_assoc (take at l) bs more))
    ∙ append_assoc (take at l ++ bs) more (drop (at + length (bs ++ more)) l))
    ∙ take_at (take at l ++ bs) _ after (length-append (take at l) bs ∙ omega (arith, length-take at l, fits, after_is, length-append bs more))

-- One node.
pub one_node :
    {before after : Listing} (n : Node ℕ) → after.kind ≡ before.kind → after.count ≡ before.count + 1
    → listed after ≡ listed before ++ node_bytes before.kind n → Appended (n ∷ []) before after
one_node {before} n kind_is count_is stored =
    record {
      same_kind = kind_is;
      count_is = omega (arith, count_is);
      bytes_are = stored ∙ ap (λ b. listed before ++ b) (sym (append-nil (node_bytes before.kind n)));
    }

-- Some nodes and then more.
pub both :
    {xs ys : List (Node ℕ)} {before between after : Listing} → Appended xs before between → Appended ys between after
    → Appended (xs ++ ys) before after
both {xs} {ys} {before} {between} {after} x y =
    record {
      same_kind = y.same_kind ∙ x.same_kind;
      count_is = omega (arith, x.count_is, y.count_is, length-append xs ys);
      bytes_are =
          y.bytes_are
          ∙ ap (λ k. listed between ++ encode_all (node_bytes k) ys) x.same_kind
          ∙ ap (λ l. l ++ encode_all (node_bytes before.kind) ys) x.bytes_are
          ∙ append_assoc (listed before) (encode_all (node_bytes before.kind) xs) (encode_all (node_bytes before.kind) ys)
          ∙ ap (λ l. listed before ++ l) (sym (encode_append (node_width before.kind) (node_bytes before.kind) (node_code before.kind) xs ys));
    }
