-- The words that the arrays link: their length, and how they are written to a buffer.
use mathlib.Core.{Path.{◌≡◌, sym, ◌∙◌, ap, ap₂, subst⁻¹}, List.{List, [], ◌∷◌, ◌++◌, reverse, reverse-cons, append_assoc}}
use Prim.Native.Nat.{ℕ, zero, suc, ◌-◌, ◌≤◌, ◌<◌}
use native.Mathlib.{Numerals.{add-one}, Omega.{arith}}
use lib.ListN.{length, get_or, set, drop, length-reverse}
use Rattle.std.proofs.lemmas.List.{drop-set}
use Rattle.refusal.specs.Refusal.{put}
use Rattle.conformance.specs.PairQueue.{Linked, pair_at}
use Rattle.conformance.specs.declared.Pair.{Pair}

module _ (P : List (List ℕ)) (pairs : List Pair) (v : Linked P pairs) where
  abbrev word : ℕ → List ℕ
  word l = get_or P l []

  abbrev parent : ℕ → ℕ
  parent l = (pair_at pairs l).parent

  -- A word is no longer than its place.
  pub short_word : (l : ℕ) → l < length P → length (word l) ≤ l
  short_word l u = within l l (omega arith) u
    where
      step : (l : ℕ) → l < length P → ((j : ℕ) → j < l → j < length P → length (word j) ≤ j) → length (word l) ≤ l
      step zero u f = omega (arith, ap length v.empty_first)
      step (suc l) u f =
          let below : parent (suc l) < suc l = v.earlier (suc l) (omega arith) u in
          let r : length (word (parent (suc l))) ≤ parent (suc l) = f (parent (suc l)) below (omega arith) in
          omega (arith, ap length (v.longer (suc l) (omega arith) u))

      within : (f l : ℕ) → l ≤ f → l < length P → length (word l) ≤ l
      within zero l h u = step l u (λ j k x. absurd (omega arith))
      within (suc f) l h u = step l u (λ j k x. within f j (omega arith) x)

  module _ (j : ℕ) (j_in : j < length P) where
    pub parent_less : ¬ (j ≡ 0) → parent j < j
    parent_less f = v.earlier j (omega arith) j_in

    pub one_longer : ¬ (j ≡ 0) → length (word j) ≡ suc (length (word (parent j)))
    one_longer f = ap length (v.longer j (omega arith) j_in)

    pub at_root : j ≡ 0 → word j ≡ []
    at_root z = ap word z ∙ v.empty_first

    -- A word with an event has a parent.
    pub not_root : ¬ (length (word j) ≡ 0) → ¬ (j ≡ 0)
    not_root f z = f (ap length (at_root z))

    -- One byte more from the end.
    pub write_one :
        ¬ (j ≡ 0) → (buffer : List ℕ) (p : ℕ) → suc p ≡ length (word j) → p < length buffer →
        reverse (word (parent j)) ++ drop p (set buffer p (pair_at pairs j).event) ≡ reverse (word j) ++ drop (suc p) buffer
    write_one f buffer p h room =
        ap (λ l. reverse (word (parent j)) ++ l)
        (drop-set buffer p (pair_at pairs j).event room ∙ ap (λ i. (pair_at pairs j).event ∷ drop i buffer) (add-one p))
        ∙ sym (append_assoc (reverse (word (parent j))) ((pair_at pairs j).event ∷ []) (drop (suc p) buffer))
        ∙ ap (λ l. l ++ drop (suc p) buffer) (sym (ap reverse (v.longer j (omega arith) j_in) ∙ reverse-cons (pair_at pairs j).event (word (parent j))))

-- A word with its last event, which was stored first.
pub put_last :
    (w old : List ℕ) (e : ℕ) → length w < length old → put (reverse w) (set old (length w) e) ≡ put (reverse (e ∷ w)) old
unfolding put
put_last w old e h =
    ap (λ i. reverse w ++ drop i (set old (length w) e)) (length-reverse w)
    ∙ ap (λ l. reverse w ++ l) (drop-set old (length w) e h ∙ ap (λ i. e ∷ drop i old) (add-one (length w)))
    ∙ sym (append_assoc (reverse w) (e ∷ []) (drop (suc (length w)) old))
    ∙ ap₂ ◌++◌ (sym (reverse-cons e w)) (ap (λ i. drop i old) (sym (length-reverse (e ∷ w))))

-- What is left to write: the word of place l in order of play, and what the buffer holds from there is done.
pub record Rest (P : List (List ℕ)) (l p : ℕ) (buffer target : List ℕ) : Type 0 where
  pub has : l < length P
  pub long : p ≡ length (get_or P l [])
  pub whole : reverse (get_or P l []) ++ drop p buffer ≡ target

-- The turn of the loop that writes it.
module _ (P : List (List ℕ)) (pairs : List Pair) (v : Linked P pairs) (j r : ℕ) (j_in : j < length P)
    (r_is : r ≡ (pair_at pairs j).parent) where
  pub depth_less : ¬ (j ≡ 0) → r < j
  depth_less f = subst⁻¹ (λ x. x < j) r_is (parent_less P pairs v j j_in f)

  pub write_step :
      (buffer target : List ℕ) (p : ℕ) → ¬ (p ≡ 0) → p ≤ length buffer → Rest P j p buffer target →
      Rest P r (p - 1) (set buffer (p - 1) (pair_at pairs j).event) target
  write_step buffer target p f room h =
      let g : ¬ (j ≡ 0) = not_root P pairs v j j_in (λ z. f (h.long ∙ z)) in
      let s : suc (p - 1) ≡ p = omega arith in
      record {
        has = omega (arith, depth_less g);
        long = omega (arith, h.long, one_longer P pairs v j j_in g, ap (λ x. length (get_or P x [])) r_is);
        whole =
            ap (λ x. reverse (get_or P x []) ++ drop (p - 1) (set buffer (p - 1) (pair_at pairs j).event)) r_is
            ∙ write_one P pairs v j j_in g buffer (p - 1) (s ∙ h.long) (omega arith)
            ∙ ap (λ x. reverse (get_or P j []) ++ drop x buffer) s ∙ h.whole;
      }

-- Before the first turn all of the word is to be written.
pub write_start :
    (P : List (List ℕ)) (i n : ℕ) (old : List ℕ) → i < length P → n ≡ length (get_or P i []) → Rest P i n old (put (reverse (get_or P i [])) old)
unfolding put
write_start P i n old h e =
    record { has = h; long = e; whole = ap (λ x. reverse (get_or P i []) ++ drop x old) (e ∙ sym (length-reverse (get_or P i []))) }
