-- Sets of nodes in words: what a store, an inserted node and a union make of them, and that equal sets have equal words.
use mathlib.Core.{Path.{◌≡◌, sym, ◌∙◌, ap, ap₂, fun_ext}, Bool.{false, ◌||◌, ◌&&◌, or-false}, List.{List, []}}
use Prim.Native.Nat.{ℕ, ◌+◌, ◌*◌, ◌/◌, ◌%◌, ◌^◌, ◌≤◌, ◌<◌}
use native.Mathlib.{Nat.{div-add-mod'}, Decide.{dec_lt, ℕ_discrete}, Omega.{arith}}
use borrow.Author.{Tests.{lt-ltb, le-ltb, eq-eqb, ne_eqb}}
use lib.{Arith.{digits_div, digits_mod}, Bits.{bit_or}}
use lib.{Dec.{eqb}, ListN.{length, get_or, set, replicate, get_or-replicate}, Seq.{get_or-set_same, get_or-set_other}}
use Rattle.limits.specs.Limits.{node_limit}
use Rattle.theory.specs.{DemandSets.{empty, union, only}, Exploration.{member}}
use Rattle.theory.proofs.BitSets.{member_bits}
use Rattle.synthesis.specs.NodeWords.{bit_at, set_of, set_bits, Stored}
use Rattle.synthesis.proofs.Bits.{or_bit, power_bit, zero_bit, same_number}

pub in_words : (l : List ℕ) (j : ℕ) → j < node_limit → set_of l j ≡ eqb (bit_at (get_or l (j / 64) 0) (j % 64)) 1
unfolding set_of
in_words l j h = ap (λ t. t && eqb (bit_at (get_or l (j / 64) 0) (j % 64)) 1) (lt-ltb j node_limit h)

pub past_words : (l : List ℕ) (j : ℕ) → node_limit ≤ j → set_of l j ≡ false
unfolding set_of
past_words l j h = ap (λ t. t && eqb (bit_at (get_or l (j / 64) 0) (j % 64)) 1) (le-ltb j node_limit h)

-- A node's bit is set in its word.
pub set_insert :
    (l : List ℕ) (k : ℕ) → k < node_limit → 4 ≤ length l →
    set_of (set l (k / 64) (bit_or (get_or l (k / 64) 0) (2 ^ (k % 64)))) ≡ union (set_of l) (only k)
unfolding union only
set_insert l k h n = fun_ext λ j. go j (dec_lt j node_limit)
  where
    l' : List ℕ
    l' = set l (k / 64) (bit_or (get_or l (k / 64) 0) (2 ^ (k % 64)))

    inside : (j : ℕ) → j < node_limit → Dec (j / 64 ≡ k / 64) → set_of l' j ≡ set_of l j || eqb k j
    inside j u (yes e) =
        let z : j / 64 ≡ k / 64 = omega (arith, e) in
        in_words l' j u
        ∙ ap (λ x. eqb (bit_at x (j % 64)) 1)
        (ap (λ x. get_or l' x 0) z ∙ get_or-set_same l (k / 64) (bit_or (get_or l (k / 64) 0) (2 ^ (k % 64))) 0 (omega arith))
        ∙ or_bit (get_or l (k / 64) 0) (2 ^ (k % 64)) (j % 64)
        ∙ ap₂ (λ a b. a || b)
        (ap (λ x. eqb (bit_at (get_or l x 0) (j % 64)) 1) (sym z) ∙ sym (in_words l j u))
        (power_bit (k % 64) (j % 64) ∙ digit (ℕ_discrete k j))
      where
        digit : Dec (k ≡ j) → eqb (k % 64) (j % 64) ≡ eqb k j
        digit (yes q) = eq-eqb (k % 64) (j % 64) (ap (λ x. x % 64) q) ∙ sym (eq-eqb k j q)
        digit (no q) =
            ne_eqb (k % 64) (j % 64)
            (λ t. q (sym (div-add-mod' k 64) ∙ ap₂ (λ a b. a * 64 + b) (sym e) t ∙ div-add-mod' j 64))
            ∙ sym (ne_eqb k j q)
    inside j u (no e) =
        in_words l' j u
        ∙ ap (λ x. eqb (bit_at x (j % 64)) 1)
        (get_or-set_other l (k / 64) (j / 64) (bit_or (get_or l (k / 64) 0) (2 ^ (k % 64))) 0 (λ q. e (omega (arith, q))))
        ∙ sym (in_words l j u)
        ∙ sym (or-false (set_of l j))
        ∙ ap (λ t. set_of l j || t) (sym (ne_eqb k j (λ q. e (ap (λ x. x / 64) (sym q)))))

    go : (j : ℕ) → Dec (j < node_limit) → set_of l' j ≡ set_of l j || eqb k j
    go j (yes u) = inside j u (ℕ_discrete (j / 64) (k / 64))
    go j (no u) =
        past_words l' j (omega arith)
        ∙ sym (ap₂ (λ a b. a || b) (past_words l j (omega arith)) (ne_eqb k j (λ e. omega (arith, e))))

-- The bitwise or of the words is the union.
pub set_unite :
    (after a b : List ℕ) → ((w : ℕ) → w < 4 → get_or after w 0 ≡ bit_or (get_or a w 0) (get_or b w 0)) → set_of after ≡ union (set_of a) (set_of b)
unfolding union
set_unite after a b f = fun_ext λ j. go j (dec_lt j node_limit)
  where
    go : (j : ℕ) → Dec (j < node_limit) → set_of after j ≡ set_of a j || set_of b j
    go j (yes u) =
        in_words after j u
        ∙ ap (λ x. eqb (bit_at x (j % 64)) 1) (f (j / 64) (omega arith))
        ∙ or_bit (get_or a (j / 64) 0) (get_or b (j / 64) 0) (j % 64)
        ∙ sym (ap₂ (λ x y. x || y) (in_words a j u) (in_words b j u))
    go j (no u) =
        past_words after j (omega arith)
        ∙ sym (ap₂ (λ x y. x || y) (past_words a j (omega arith)) (past_words b j (omega arith)))

-- Words of zeros are the empty set.
pub no_words : (l : List ℕ) → ((w : ℕ) → w < 4 → get_or l w 0 ≡ 0) → set_of l ≡ empty
unfolding empty
no_words l f = fun_ext λ j. go j (dec_lt j node_limit)
  where
    go : (j : ℕ) → Dec (j < node_limit) → set_of l j ≡ false
    go j (yes u) =
        in_words l j u ∙ ap (λ x. eqb (bit_at x (j % 64)) 1) (f (j / 64) (omega arith)) ∙ zero_bit (j % 64)
    go j (no u) = past_words l j (omega arith)

pub no_nodes : set_of (replicate 4 0) ≡ empty
no_nodes = no_words (replicate 4 0) (λ w h. get_or-replicate 4 w 0 0 h)

-- What is stored is read there, and elsewhere what was.
pub stored_there : (before after : List (List ℕ)) (words : List ℕ) (i : ℕ) → Stored before after i words → get_or after i [] ≡ words
stored_there before after words i h = ap (λ l. get_or l i []) h.1 ∙ get_or-set_same before i words [] h.0

pub stored_else :
    (before after : List (List ℕ)) (words : List ℕ) (i j : ℕ) → Stored before after i words → ¬ (j ≡ i) → get_or after j [] ≡ get_or before j []
stored_else before after words i j h d = ap (λ l. get_or l j []) h.1 ∙ get_or-set_other before i j words [] d

-- The members of the bits are the set's.
pub member_set_bits : (words : List ℕ) → member (set_bits words) ≡ set_of words
unfolding set_bits
member_set_bits words = member_bits node_limit (set_of words) (λ j h. past_words words j h)

-- Equal sets have equal bits in their words, and so equal words.
module _ (l m : List ℕ) (e : set_bits l ≡ set_bits m) (w : ℕ) (h : w < 4) where
  pub word_bits : (k : ℕ) → k < 64 → eqb (bit_at (get_or l w 0) k) 1 ≡ eqb (bit_at (get_or m w 0) k) 1
  word_bits k q =
      sym (at l) ∙ ap (λ D. D (w * 64 + k)) (sym (member_set_bits l) ∙ ap member e ∙ member_set_bits m) ∙ at m
    where
      at : (l : List ℕ) → set_of l (w * 64 + k) ≡ eqb (bit_at (get_or l w 0) k) 1
      at l =
          in_words l (w * 64 + k) (omega arith)
          ∙ ap₂ (λ x y. eqb (bit_at (get_or l x 0) y) 1) (digits_div w q) (digits_mod w q)

  pub bits_words : get_or l w 0 < 2 ^ 64 → get_or m w 0 < 2 ^ 64 → get_or l w 0 ≡ get_or m w 0
  bits_words u v = same_number 64 (get_or l w 0) (get_or m w 0) u v word_bits
