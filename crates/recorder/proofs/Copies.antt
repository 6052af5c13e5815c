-- Columns of a table's bytes; three copies into zeros make a splice.
use mathlib.Core.{Path.{◌≡◌, refl, sym, ◌∙◌, ap, ap₂}, Bool.{Bool, true, false, ◌&&◌, cond}, List.{List, ◌++◌, append_assoc}}
use Prim.Native.Nat.{ℕ, ◌+◌, ◌*◌, ◌/◌, ◌-◌, ◌≤◌, ◌<◌}
use lib.Dec.{leb}
use borrow.Author.Tests.{le-leb, lt-leb, leb-true}
use Rattle.theory.proofs.ValueSets.{and_left, and_right}
use native.Mathlib.{Nat.{add-zero, add-mul, one-mul, mul-le-mul_right, le-div_iff_mul-le}, Omega.{arith}}
use lib.ListN.{length, get_or, take, drop, replicate, length-append, length-drop, length-replicate}
use lib.Seq.{paste, length-paste, length-take-le, take_all, take-take, take-append_seam, take-append-le, drop-append-le, drop_at}
use Rattle.limits.specs.Limits.{store_limit}
use Rattle.formulas.proofs.Padding.{padded_length, padded_field}
use Rattle.values.specs.{declared.ValueKind.{ValueKind}, declared.ValueKind.TheVariants.{Numbered, Register}}
use Rattle.machines.specs.TableBytes.{entry_width}
use Rattle.values.specs.ValueTests.{masks_from}
use Rattle.recorder.specs.Splicing.{spliced, column, mask_column, entry_values, entry_nexts}
use Rattle.recorder.specs.{declared.row_store.Room.{Room}, Store.{Store}, Called.{with_rows, with_entries}}
use Rattle.recorder.specs.Decisions.{room_of, roomed, RoomFits, room_test, spliced_column}
use Rattle.recorder.proofs.Rows.{same_padded}

module _ (width which : ℕ) (table : List ℕ) (n : ℕ) where
  pub column_length : length (column width which table n) ≡ n
  unfolding column
  column_length = padded_length (λ i. get_or table (i * width + which) 0) n n 0

  pub column_at : (i : ℕ) → i < n → get_or (column width which table n) i 0 ≡ get_or table (i * width + which) 0
  unfolding column
  column_at i h = padded_field (λ i. get_or table (i * width + which) 0) n n i h (omega arith)

module _ (table : List ℕ) (n : ℕ) where
  pub masks_length : length (mask_column table n) ≡ n
  unfolding mask_column
  masks_length = padded_length (λ i. masks_from table (i * 5)) n n 0

  pub masks_at : (i : ℕ) → i < n → get_or (mask_column table n) i 0 ≡ masks_from table (i * 5)
  unfolding mask_column
  masks_at i h = padded_field (λ i. masks_from table (i * 5)) n n i h (omega arith)

-- A byte of an entry lies within the table.
pub entry_inside :
    (width which count i len : ℕ) → i < count → which < width → count * width ≤ len → i * width + which < len
entry_inside width which count i len h g k =
    let e : (i + 1) * width ≤ count * width = mul-le-mul_right width (omega arith) in
    omega (arith, add-mul i 1 width, one-mul width)

-- The values of numbers are one column of bytes, those of registers one of masks; the next states are one for either kind.
pub number_values : (v : ℕ) (table : List ℕ) (n : ℕ) → column 2 0 table n ≡ entry_values (Numbered v) table n
unfolding column entry_values
number_values v table n =
    same_padded (λ i. get_or table (i * 2 + 0) 0) (λ i. get_or table (i * 2) 0) n (λ i h. ap (λ x. get_or table x 0) (add-zero (i * 2))) n 0

pub register_values : (lines : ℕ) (table : List ℕ) (n : ℕ) → mask_column table n ≡ entry_values (Register lines) table n
unfolding mask_column entry_values
register_values lines table n = refl

pub kind_nexts : (kind : ValueKind) (table : List ℕ) (n : ℕ) → column (entry_width kind) (entry_width kind - 1) table n ≡ entry_nexts kind table n
unfolding column entry_nexts
kind_nexts (Numbered v) table n = refl
kind_nexts (Register lines) table n = refl

-- A copy of the later rows and zeros behind them make room; the new entries pasted into it make a splice.
module _ {A : Type 0} (blank : A) (rows : List A) (at old new later : ℕ) (sized : length rows ≡ store_limit)
    (old_fits : at + old + later ≤ store_limit) (new_fits : at + new + later ≤ store_limit) where
  abbrev moved : List A
  moved = paste rows (at + new) (drop (at + old) rows) (at + old + later - (at + old))

  pub moved_length : length moved ≡ store_limit
  moved_length =
      length-paste rows (at + new) (drop (at + old) rows) (at + old + later - (at + old)) (omega (arith, sized))
      (simp length-drop (omega (arith, sized))) ∙ sized

  head_length : length (take (at + new) rows) ≡ at + new
  head_length = length-take-le (at + new) rows (omega (arith, sized))

  later_length : length (take later (drop (at + old) rows)) ≡ later
  later_length = length-take-le later (drop (at + old) rows) (simp length-drop (omega (arith, sized)))

  -- What is pasted lies in front of the zeros.
  pub front_is : take (at + new + later) moved ≡ take (at + new) rows ++ take later (drop (at + old) rows)
  front_is =
      let e : at + old + later - (at + old) ≡ later = omega arith in
      let l : length (take (at + new) rows ++ take later (drop (at + old) rows)) ≡ at + new + later =
      omega (arith, length-append (take (at + new) rows) (take later (drop (at + old) rows)), head_length, later_length) in
      ap (λ n. take (at + new + later) (take (at + new) rows ++ take n (drop (at + old) rows) ++ drop (at + new + n) rows)) e
      ∙ ap (λ n. take n (take (at + new) rows ++ take later (drop (at + old) rows) ++ drop (at + new + later) rows)) (sym l)
      ∙ take-append_seam (take (at + new) rows ++ take later (drop (at + old) rows)) (drop (at + new + later) rows)

module _ (rows new : List ℕ) (at old n later : ℕ) (sized : length rows ≡ store_limit) (counted : length new ≡ n)
    (new_fits : at + n + later ≤ store_limit) where
  abbrev behind : List ℕ
  behind = take later (drop (at + old) rows) ++ replicate (store_limit - (at + n + later)) 0

  pub roomed_length : at + old + later ≤ store_limit → length (roomed 0 rows at old n later) ≡ store_limit
  roomed_length old_fits =
      let a : length (take (at + n) rows) ≡ at + n = length-take-le (at + n) rows (omega (arith, sized)) in
      let b : length (take later (drop (at + old) rows)) ≡ later =
      length-take-le later (drop (at + old) rows) (simp length-drop (omega (arith, sized))) in
      omega (
        arith,
        length-append (take (at + n) rows ++ take later (drop (at + old) rows)) (replicate (store_limit - (at + n + later)) 0),
        length-append (take (at + n) rows) (take later (drop (at + old) rows)),
        a,
        b,
        length-replicate {A = ℕ} (store_limit - (at + n + later)) 0,
      )

  pub filled_room : paste (roomed 0 rows at old n later) at new n ≡ spliced rows at old new later
  unfolding spliced
  filled_room =
      let a : length (take (at + n) rows) ≡ at + n = length-take-le (at + n) rows (omega (arith, sized)) in
      let l : length (take at rows) ≡ at = length-take-le at rows (omega (arith, sized)) in
      let z : List ℕ = replicate (store_limit - (at + n + later)) 0 in
      let b : List ℕ = take later (drop (at + old) rows) in
      ap₂ (λ x y. x ++ take n new ++ y)
      (take-append-le at (take (at + n) rows ++ b) z (omega (arith, length-append (take (at + n) rows) b, a))
      ∙ take-append-le at (take (at + n) rows) b (omega (arith, a))
      ∙ take-take at (at + n) rows (omega arith))
      (drop-append-le (at + n) (take (at + n) rows ++ b) z (omega (arith, length-append (take (at + n) rows) b, a))
      ∙ ap (λ x. x ++ z) (drop_at (take (at + n) rows) b (at + n) a))
      ∙ ap (λ x. take at rows ++ x ++ (b ++ z)) (take_all n new (omega (arith, counted)))
      ∙ ap (λ k. take at rows ++ new ++ (b ++ replicate (store_limit - (at + k + later)) 0)) (sym counted)
      ∙ sym (append_assoc (take at rows ++ new) b (replicate (store_limit - (at + length new + later)) 0))

-- A store has room exactly if the test of a room says so.
pub room_fits : (room : Room) → room_test room ≡ true → RoomFits room
room_fits room e =
    let old : Bool = leb (room.at + room.later + room.old) store_limit in
    let new : Bool = leb (room.at + room.later + room.new) store_limit in
    record {
      old_fits = omega (arith, leb-true (room.at + room.later + room.old) store_limit (and_left old new e));
      new_fits = omega (arith, leb-true (room.at + room.later + room.new) store_limit (and_right old new e));
    }

pub room_there : (room : Room) → RoomFits room → room_test room ≡ true
room_there room f =
    ap₂ (λ a b. a && b) (le-leb (room.at + room.later + room.old) store_limit (omega (arith, f.old_fits)))
    (le-leb (room.at + room.later + room.new) store_limit (omega (arith, f.new_fits)))

-- A table that has the bytes of so many entries has so many entries.
pub enough_entries : (kind : ValueKind) (n k : ℕ) → k * entry_width kind ≤ n → k ≤ n / entry_width kind
enough_entries (Numbered v) n k h = (le-div_iff_mul-le {k = 2} {x = k} {y = n} (omega arith)).1 h
enough_entries (Register l) n k h = (le-div_iff_mul-le {k = 5} {x = k} {y = n} (omega arith)).1 h

-- A column is spliced where there is room and the table has enough, and kept where not.
module _ (kind : ValueKind) (room : Room) (table rows : List ℕ) where
  abbrev in_place : List ℕ
  in_place = spliced rows room.at room.old (entry_values kind table room.new) room.later

  abbrev enough : Bool
  enough = leb room.new (length table / entry_width kind)

  pub spliced_there : room_test room ≡ true → room.new ≤ length table / entry_width kind → spliced_column kind room table rows ≡ in_place
  unfolding spliced_column
  spliced_there e f = ap₂ (λ a b. cond (a && b) in_place rows) e (le-leb room.new (length table / entry_width kind) f)

  pub kept_without_room : room_test room ≡ false → spliced_column kind room table rows ≡ rows
  unfolding spliced_column
  kept_without_room e = ap (λ a. cond (a && enough) in_place rows) e

  pub kept_short : length table / entry_width kind < room.new → spliced_column kind room table rows ≡ rows
  unfolding spliced_column
  kept_short h = ap (λ b. cond (room_test room && b) in_place rows) (lt-leb room.new (length table / entry_width kind) h) ∙ go (room_test room)
    where
      go : (a : Bool) → cond (a && false) in_place rows ≡ rows
      go true = refl
      go false = refl

-- What is stored: both lists spliced with what is read from a table's bytes.
pub stored_is :
    (t : Store) (c k : ℕ) (table : List ℕ) (room : Room) → room ≡ room_of t.setup.events t.states c k → (v n : List ℕ) →
    v ≡ spliced t.value room.at room.old (entry_values t.setup.kind table room.new) room.later →
    n ≡ spliced t.next room.at room.old (entry_nexts t.setup.kind table room.new) room.later → with_rows t c k v n ≡ with_entries t c k table
stored_is t c k table room e v n e_value e_next =
    ap₂ (with_rows t c k)
    (e_value ∙ ap (λ r. spliced t.value r.at r.old (entry_values t.setup.kind table r.new) r.later) e)
    (e_next ∙ ap (λ r. spliced t.next r.at r.old (entry_nexts t.setup.kind table r.new) r.later) e)
