-- Lists of a line, stored in a lent buffer. A word is a number, in one byte; or a value of a register, LOW.HIGH, in four (document 02, F-7). A list has
-- numbers alone, or the entries of a register's table: by turns a value and a next state.
use Rattle.std.specs.Prelude.{ℕ, min, Option, Some, None, Result, Ok, Err}
use mathlib.Core.{Path.{◌≡◌}, List.{List, [], ◌∷◌, ◌++◌}, Bool.{Bool, true, false, cond, ◌||◌}}
use lib.{Dec.{ltb}, ListN.{length, take, drop}}
use Rattle.values.specs.Setup.{mask_bytes}
use Rattle.refusal.specs.Refusal.{put}
use Rattle.text_format.specs.Texts.{ascii}
use Rattle.channel_file.specs.Bytes.{clamp}
use Rattle.command_line.specs.{Words.{words, before}, Numbers.{IsNumber, number_of}, declared.{Item.{Item}, ListError.{ListError}}}

-- ---- the sentence

-- A mask above 65,535 stands as 65,535, as a number above 255 stands as 255.
abbrev pub clamp_mask : ℕ → ℕ
clamp_mask v = min v 65535

-- A word in bytes, where it is a number, or a value: two numbers with a dot between, "each mask's low byte first".
pub data IsItem (w : List ℕ) : Item → List ℕ → Type 0 where
  number : {v : ℕ} → IsNumber w (Some v) → IsItem w Item.Number (clamp v ∷ [])
  value : {low high : List ℕ} {l h : ℕ} → w ≡ low ++ (ascii "." ++ high) → IsNumber low (Some l) → IsNumber high (Some h) →
      IsItem w Item.Value (mask_bytes (clamp_mask l) ++ mask_bytes (clamp_mask h))

-- Words in bytes: this is what the next word is, that what the one behind it is, and so by turns.
pub data Items : Item → Item → List (List ℕ) → List ℕ → Type 0 where
  end : {this that : Item} → Items this that [] []
  one_more : {this that : Item} {w : List ℕ} {ws : List (List ℕ)} {u us : List ℕ} → IsItem w this u → Items that this ws us →
      Items this that (w ∷ ws) (u ++ us)

-- ---- the computing twin

-- In the order of the steps; std's `option_and_then` takes the function first.
abbrev pub and_then : {A : Type 0} → Option A → (A → Option (List ℕ)) → Option (List ℕ)
and_then None f = None
and_then (Some v) f = f v

-- What stands before the first dot of a word, and behind it.
abbrev pub low_part : List ℕ → List ℕ
low_part w = take (before 46 w) w

abbrev pub high_part : List ℕ → List ℕ
high_part w = drop 1 (drop (before 46 w) w)

unfoldable pub item_of : Item → List ℕ → Option (List ℕ)
item_of Item.Number w = and_then (number_of w) (λ v. Some (clamp v ∷ []))
item_of Item.Value w =
    and_then (number_of (low_part w)) (λ l.
    and_then (number_of (high_part w)) (λ h. Some (mask_bytes (clamp_mask l) ++ mask_bytes (clamp_mask h))))

-- The bytes bs and behind them those of words.
unfoldable pub items_from : Item → Item → List ℕ → List (List ℕ) → Option (List ℕ)
items_from this that bs [] = Some bs
items_from this that bs (w ∷ ws) = and_then (item_of this w) (λ u. items_from that this (bs ++ u) ws)

-- A list of numbers, or one that begins with a value.
unfoldable pub list_of : Item → List ℕ → Option (List ℕ)
list_of first text = items_from first Item.Number [] (words text)

-- ---- answer and buffer

abbrev pub listed : Option (List ℕ) → List ℕ → Result ℕ ListError
listed None old = Err ListError.Malformed
listed (Some bytes) old = cond (ltb (length old) (length bytes)) (Err ListError.Short) (Ok (length bytes))

abbrev pub buffer_after : Option (List ℕ) → List ℕ → List ℕ
buffer_after None old = old
buffer_after (Some bytes) old = cond (ltb (length old) (length bytes)) old (put bytes old)

pub record Lists (first : Item) (text old new : List ℕ) (r : Result ℕ ListError) : Type 0 where
  pub answer : r ≡ listed (list_of first text) old
  pub buffer : new ≡ buffer_after (list_of first text) old

-- ---- numbers that their bytes do not hold

abbrev pub large : ℕ → Option ℕ → Bool
large limit None = false
large limit (Some v) = ltb limit v

-- A number above 255, a mask above 65,535.
abbrev pub large_item : Item → List ℕ → Bool
large_item Item.Number w = large 255 (number_of w)
large_item Item.Value w = large 65535 (number_of (low_part w)) || large 65535 (number_of (high_part w))

-- Whether one of some words has such a number; this and that are as in `Items`.
unfoldable pub any_large : Item → Item → List (List ℕ) → Bool
any_large this that [] = false
any_large this that (w ∷ ws) = cond (large_item this w) true (any_large that this ws)
