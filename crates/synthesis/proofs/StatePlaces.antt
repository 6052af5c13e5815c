-- States found by their sets: equal sets have equal places, and what one more state does to places and links.
use mathlib.Core.{Path.{◌≡◌, refl, sym, ◌∙◌, ap, ap₂, subst}, List.{List, []}}
use Prim.Native.Nat.{ℕ, zero, suc, ◌+◌, ◌/◌, ◌%◌, ◌^◌, ◌<◌}
use native.Mathlib.{Nat.{mod-lt, mod-eq_of_lt}, Decide.{ℕ_discrete}, Omega.{arith}}
use lib.{Bits.{bit_xor}, Dec.{eqb}, ListN.{length, get_or, set, replicate}, Pow.{pow_pos}, Seq.{get_or-set_same, get_or-set_other}}
use Rattle.synthesis.specs.{NodeWords.{set_bits, bits_at, Stored}, Exploring.{Found}}
use Rattle.synthesis.specs.StatePlaces.{place_count, set_word, set_place, Different, Linked, there, further, Chained}
use Rattle.synthesis.proofs.{Bits.{low_bits, same_number}, NodeWords.{word_bits, stored_there, stored_else}}

-- Equal sets have equal places.
words_same : (l m : List ℕ) → set_bits l ≡ set_bits m → (w : ℕ) → w < 4 → set_word l w ≡ set_word m w
words_same l m e w h =
    same_number 64 (set_word l w) (set_word m w) (mod-lt (get_or l w 0) (pow_pos 64)) (mod-lt (get_or m w 0) (pow_pos 64))
    (λ k q. ap (λ x. eqb x 1) (low_bits (get_or l w 0) 64 k q) ∙ word_bits l m e w h k q
    ∙ sym (ap (λ x. eqb x 1) (low_bits (get_or m w 0) 64 k q)))

place_from : (l m : List ℕ) → ((w : ℕ) → w < 4 → set_word l w ≡ set_word m w) → set_place l ≡ set_place m
unfolding set_place
place_from l m f =
    ap (λ x. x % place_count)
    (ap₂ bit_xor (ap₂ bit_xor (ap₂ bit_xor (f 0 (omega arith)) (ap (λ x. x / 2 ^ 1) (f 1 (omega arith)))) (ap (λ x. x / 2 ^ 2) (f 2 (omega arith))))
    (ap (λ x. x / 2 ^ 3) (f 3 (omega arith))))

pub place_same : (l m : List ℕ) → set_bits l ≡ set_bits m → set_place l ≡ set_place m
place_same l m e = place_from l m (words_same l m e)

pub whole_word : (l : List ℕ) (k : ℕ) → get_or l k 0 < 2 ^ 64 → get_or l k 0 ≡ set_word l k
whole_word l k h = sym (mod-eq_of_lt h)

pub place_below : (l : List ℕ) (x : ℕ) → x ≡ set_place l → x < place_count
unfolding set_place
place_below l x e = subst (λ y. y < place_count) (sym e) (mod-lt _ (omega arith))

-- Further on than the state itself.
pub leave : {links : List ℕ} {j i : ℕ} → Linked links j i → ¬ (j ≡ i) → (get_or links j 0 < j) × Linked links (get_or links j 0) i
leave there d = absurd (d refl)
leave (further l c) d = (l, c)

-- One state at first.
pub getD_zeros : (m p : ℕ) → ◌≡◌ {A = ℕ} (get_or (replicate m 0) p 0) 0
getD_zeros zero p = refl
getD_zeros (suc m) zero = refl
getD_zeros (suc m) (suc p) = getD_zeros m p

pub chained_one :
    (states : List (List ℕ)) (heads links : List ℕ) → ((p : ℕ) → get_or heads p 0 ≡ 0) → Chained 1 states heads links
chained_one states heads links none =
    record { heads_are = λ p. omega (arith, none p); linked = λ i h. subst (λ x. Linked links x i) (z i h) there }
  where
    z : (i : ℕ) → i < 1 → i ≡ get_or heads (set_place (get_or states i [])) 0
    z i h = omega (arith, h, none (set_place (get_or states i [])))

-- A set that is none of the states is stored behind them: state k.
module _ (k : ℕ) (states : List (List ℕ)) (from : List ℕ) (after : List (List ℕ)) (stored : Stored states after k from) where
  stays : (l : ℕ) → ¬ (l ≡ k) → bits_at after l ≡ bits_at states l
  stays l d = ap set_bits (stored_else states after from k l stored d)

  new_bits : bits_at after k ≡ set_bits from
  new_bits = ap set_bits (stored_there states after from k stored)

  pub different_more : Different k states → Found states k from k → Different (k + 1) after
  different_more old found j i h u e = go (ℕ_discrete i k)
    where
      go : Dec (i ≡ k) → ⊥
      go (yes q) = found.before j (omega arith) (sym (stays j (λ d. omega (arith, d))) ∙ e ∙ ap (bits_at after) q ∙ new_bits)
      go (no d) = old j i h (omega arith) (sym (stays j (λ q. omega (arith, q))) ∙ e ∙ stays i d)

  -- It becomes the head of its place, linked to the head before it.
  module _ (heads links : List ℕ) (place : ℕ) (its : place ≡ set_place from) (inside : place < length heads) (room : k < length links)
      (old : Chained k states heads links) where
    abbrev heads' : List ℕ
    heads' = set heads place k

    abbrev links' : List ℕ
    links' = set links k (get_or heads place 0)

    keeps_links : {j i : ℕ} → j < k → Linked links j i → Linked links' j i
    keeps_links h there = there
    keeps_links {j} {i} h (further l c) =
        let e : get_or links j 0 ≡ get_or links' j 0 = sym (get_or-set_other links k j (get_or heads place 0) 0 (λ q. omega (arith, q))) in
        further (subst (λ x. x < j) e l) (subst (λ x. Linked links' x i) e (keeps_links (omega (arith, l, h)) c))

    from_head : (p i : ℕ) → Linked links (get_or heads p 0) i → Linked links' (get_or heads' p 0) i
    from_head p i c = go (ℕ_discrete p place)
      where
        before : Linked links' (get_or heads p 0) i
        before = keeps_links (old.heads_are p) c

        go : Dec (p ≡ place) → Linked links' (get_or heads' p 0) i
        go (yes q) =
            let h : k ≡ get_or heads' p 0 = sym (ap (λ x. get_or heads' x 0) q ∙ get_or-set_same heads place k 0 inside) in
            let e : get_or heads p 0 ≡ get_or links' k 0 = ap (λ x. get_or heads x 0) q ∙ sym (get_or-set_same links k (get_or heads place 0) 0 room) in
            subst (λ x. Linked links' x i) h
            (further (subst (λ x. x < k) e (old.heads_are p)) (subst (λ x. Linked links' x i) e before))
        go (no d) = subst (λ x. Linked links' x i) (sym (get_or-set_other heads place p k 0 d)) before

    pub chained_more : Chained (k + 1) after heads' links'
    chained_more =
        record { heads_are = λ p. head p (ℕ_discrete p place); linked = λ i h. state i h (ℕ_discrete i k) }
      where
        head : (p : ℕ) → Dec (p ≡ place) → get_or heads' p 0 < k + 1
        head p (yes q) = omega (arith, ap (λ x. get_or heads' x 0) q ∙ get_or-set_same heads place k 0 inside)
        head p (no d) = omega (arith, get_or-set_other heads place p k 0 d, old.heads_are p)

        state : (i : ℕ) → i < k + 1 → Dec (i ≡ k) → Linked links' (get_or heads' (set_place (get_or after i [])) 0) i
        state i h (yes q) =
            let at : set_place (get_or after i []) ≡ place
            = ap (λ x. set_place (get_or after x [])) q ∙ ap set_place (stored_there states after from k stored) ∙ sym its in
            subst (λ x. Linked links' x i)
            (q ∙ sym (ap (λ x. get_or heads' x 0) at ∙ get_or-set_same heads place k 0 inside)) there
        state i h (no d) =
            subst (λ x. Linked links' (get_or heads' x 0) i) (sym (ap set_place (stored_else states after from k i stored d)))
            (from_head (set_place (get_or states i [])) i (old.linked i (omega arith)))
