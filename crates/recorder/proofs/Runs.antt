-- The run over a sequence of events, turn by turn.
use mathlib.Core.{Path.{◌≡◌, refl, sym, ◌∙◌, ap, ap₂}, List.{List}}
use Prim.Native.Nat.{ℕ, ◌+◌, ◌*◌, ◌≤◌, ◌<◌}
use native.Mathlib.{Numerals.{add-one}, Omega.{arith}}
use lib.{ListN.{length, get_or, set, take}, Seq.{paste, paste-zero, length-paste, take_all}}
use Rattle.theory.proofs.Words.{length_word_values, word_values_at, after_take}
use Rattle.theory.specs.MealyMachine.{Machine, after}
use Rattle.theory.specs.MachineRuns.{word_values}
use Rattle.machines.proofs.EntryIndex.{index_below}
use Rattle.recorder.specs.{Store.{table_at}, Decisions.{Bounds, Runnable}}
use Rattle.recorder.proofs.Rows.{get_d_part, paste_next, entries_fit}

-- After i events: the state p and the buffer b.
pub record Ran (from n k q : ℕ) (L N w out : List ℕ) (p : ℕ) (b : List ℕ) (i : ℕ) : Type 0 where
  pub within : i ≤ length w
  pub state : p ≡ after (table_at from n k L N) q (take i w)
  pub below : p < k
  pub buffer : b ≡ paste out 0 (word_values (table_at from n k L N) q w) i

module _ {from n k q : ℕ} {L N w out : List ℕ} (g : Runnable from n k q L N w out) where
  abbrev m : Machine ℕ ℕ
  m = table_at from n k L N

  pub begins : Ran from n k q L N w out q out 0
  begins = record { within = omega arith; state = refl; below = g.state; buffer = paste-zero out 0 (word_values m q w) }

  pub same_size : {p : ℕ} {b : List ℕ} {i : ℕ} → Ran from n k q L N w out p b i → length b ≡ length out
  same_size {p} {b} {i} h =
      ap length h.buffer
      ∙ length-paste out 0 (word_values m q w) i (omega (arith, h.within, g.fits)) (omega (arith, h.within, length_word_values m q w))

  pub ends_state : {p : ℕ} {b : List ℕ} {i : ℕ} → Ran from n k q L N w out p b i → length w ≤ i → p ≡ after m q w
  ends_state {p} {b} {i} h l = h.state ∙ ap (after m q) (take_all i w l)

  pub ends_buffer :
      {p : ℕ} {b : List ℕ} {i : ℕ} → Ran from n k q L N w out p b i → length w ≤ i → b ≡ paste out 0 (word_values m q w) (length w)
  ends_buffer {p} {b} {i} h l = let e : i ≡ length w = omega (arith, h.within) in h.buffer ∙ ap (paste out 0 (word_values m q w)) e

  module _ {p : ℕ} {b : List ℕ} {i : ℕ} (h : Ran from n k q L N w out p b i) (l : i < length w) where
    abbrev e : ℕ
    e = get_or w i 0

    entry : p * n + e < k * n
    entry = index_below n k p e h.below (g.word_in i l)

    pub bounds : Bounds from n p e
    bounds =
        record { row = entries_fit p n (omega (arith, h.below, g.few_states)) g.few_events; place = omega (arith, g.room, entry) }

    pub slot : i < length b
    slot = omega (arith, g.fits, l, same_size h)

    next_state : get_or N (from + (p * n + e)) 0 ≡ after m q (take (i + 1) w)
    next_state =
        sym (get_d_part N from (k * n) (p * n + e) entry) ∙ ap (λ x. m.next x e) h.state ∙ sym (after_take m q w i l)
        ∙ ap (λ x. after m q (take x w)) (sym (add-one i))

    stored : set b i (get_or L (from + (p * n + e)) 0) ≡ paste out 0 (word_values m q w) (i + 1)
    stored =
        ap₂ (λ x y. set x i y) h.buffer
        (sym (get_d_part L from (k * n) (p * n + e) entry) ∙ ap (λ x. m.value x e) h.state ∙ sym (word_values_at m q w i l))
        ∙ paste_next out (word_values m q w) i (omega (arith, g.fits, l)) (omega (arith, l, length_word_values m q w))

    pub again : Ran from n k q L N w out (get_or N (from + (p * n + e)) 0) (set b i (get_or L (from + (p * n + e)) 0)) (i + 1)
    again = record { within = omega (arith, l); state = next_state; below = g.nexts (p * n + e) entry; buffer = stored }
