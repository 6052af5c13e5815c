-- The two parts of a text: from an offset on, as the loop goes, and the claim.
use Prim.Native.Nat.{ℕ, suc, ◌+◌, ◌-◌, ◌≤◌, ◌<◌}
use mathlib.Core.{Path.{◌≡◌, refl, sym, ap, ◌∙◌, subst⁻¹}, List.{List, [], ◌∷◌, ◌++◌}, Bool.{Bool, true, false, cond}}
use native.Mathlib.Omega.{arith}
use lib.{Dec.{ltb}, ListN.{length, take, drop, length-append, take-append-drop}}
use lib.Seq.{take_all, length-take-le, take-append_seam, drop-append_seam}
use borrow.Author.Tests.{ltb-true, ltb-false}
use Rattle.std.proofs.lemmas.List.{take_rest}
use Rattle.channel_file.proofs.Offsets.{here, over}
use Rattle.command_line.specs.{Parts.{divider, Divided, at_divider, before_divider, first_part, second_part}, Claims.{PartsClaim}}
use Rattle.std.proofs.lemmas.Slice.Eq.{bytes_eq-Decides}

-- ---- the loop

module _ (text : List ℕ) (i : ℕ) (t : Bool) (e : t ≡ at_divider (take (length text - i) (drop i text))) where
  ahead : i < length text → before_divider (drop i text) ≡ cond t 0 (suc (before_divider (drop (i + 1) text)))
  unfolding before_divider
  ahead h =
      ap before_divider (here text i h)
      ∙ ap (λ (b : Bool). cond b 0 (suc (before_divider (drop (i + 1) text))))
      (ap at_divider (sym (here text i h)) ∙ sym (ap at_divider (take_rest text i)) ∙ sym e)

  pub divider_here : i < length text → t ≡ true → before_divider (drop i text) ≡ 0
  divider_here h d = ahead h ∙ ap (λ (b : Bool). cond b 0 (suc (before_divider (drop (i + 1) text)))) d

  pub divider_on : i < length text → t ≡ false → i + 1 + before_divider (drop (i + 1) text) ≡ i + before_divider (drop i text)
  divider_on h d = omega (arith, ahead h ∙ ap (λ (b : Bool). cond b 0 (suc (before_divider (drop (i + 1) text)))) d)

pub divider_over : (text : List ℕ) (i : ℕ) → length text ≤ i → before_divider (drop i text) ≡ 0
unfolding before_divider
divider_over text i h = ap before_divider (over text i h)

-- ---- the claim

one_more : (t : Bool) (n k : ℕ) → n ≤ k → cond t 0 (suc n) ≤ suc k
one_more true n k h = omega arith
one_more false n k h = omega arith

-- Where a divider stands, the first stands no later.
no_later : (before behind : List ℕ) → before_divider (before ++ (divider ++ behind)) ≤ length before
unfolding before_divider
no_later [] behind = omega arith
no_later (b ∷ before) behind =
    one_more (at_divider (b ∷ (before ++ (divider ++ behind)))) (before_divider (before ++ (divider ++ behind))) (length before) (no_later before behind)

-- Before the end, a divider stands there.
there₁ :
    (t : Bool) (b : ℕ) (s : List ℕ) → at_divider (b ∷ s) ≡ t →
    (before_divider s < length s → s ≡ first_part s ++ (divider ++ second_part s)) → cond t 0 (suc (before_divider s)) < suc (length s) →
    b ∷ s ≡ take (cond t 0 (suc (before_divider s))) (b ∷ s) ++ (divider ++ drop 3 (drop (cond t 0 (suc (before_divider s))) (b ∷ s)))
there₁ true b s e f h = sym (take-append-drop 3 (b ∷ s)) ∙ ap (λ (z : List ℕ). z ++ drop 3 (b ∷ s)) (sym ((bytes_eq-Decides divider (take 3 (b ∷ s))).0 e))
there₁ false b s e f h = ap (λ (z : List ℕ). b ∷ z) (f (omega arith))

there : (text : List ℕ) → before_divider text < length text → text ≡ first_part text ++ (divider ++ second_part text)
unfolding before_divider
there [] h = absurd (omega arith)
there (b ∷ s) h = there₁ (at_divider (b ∷ s)) b s refl (there s) h

pub not_over : (text : List ℕ) → before_divider text ≤ length text
unfolding before_divider
not_over [] = omega arith
not_over (b ∷ s) = one_more (at_divider (b ∷ s)) (before_divider s) (length s) (not_over s)

-- A text is as long as its parts.
longer : (before behind : List ℕ) → length before + 3 ≤ length (before ++ (divider ++ behind))
longer before behind = omega (arith, length-append before (divider ++ behind))

module _ (text : List ℕ) where
  abbrev Marked : List ℕ → List ℕ → Type 0
  Marked before behind = text ≡ before ++ (divider ++ behind)

  first_length : length (first_part text) ≡ before_divider text
  first_length = length-take-le _ _ (not_over text)

  first_no_later : (before behind : List ℕ) → Marked before behind → before_divider text ≤ length before
  first_no_later before behind e = subst⁻¹ (λ (t : List ℕ). before_divider t ≤ length before) e (no_later before behind)

  its_parts : (before behind : List ℕ) → Marked before behind → Divided text (first_part text) (second_part text)
  its_parts before behind e =
      record {
        whole = there text (omega (arith, first_no_later before behind e, longer before behind, ap length e));
        earliest = λ other rest d. omega (arith, first_length, first_no_later other rest d);
      }

  only : (first second : List ℕ) → Divided text first second → (first ≡ first_part text) × (second ≡ second_part text)
  only first second d =
      let mine = its_parts first second d.whole in
      let n : length first ≡ before_divider text
      = omega (arith, first_length, first_no_later first second d.whole, d.earliest (first_part text) (second_part text) mine.whole) in
      let cut : drop (length first) text ≡ divider ++ second = ap (drop (length first)) d.whole ∙ drop-append_seam first (divider ++ second) in (
        sym (ap (take (length first)) d.whole ∙ take-append_seam first (divider ++ second)) ∙ ap (λ (k : ℕ). take k text) n,
        sym (ap (drop 3) cut) ∙ ap (λ (k : ℕ). drop 3 (drop k text)) n,
      )

  undivided : ((before behind : List ℕ) → Marked before behind → ⊥) → (first_part text ≡ text) × (second_part text ≡ [])
  undivided none =
      let n : length text ≤ before_divider text = at_end (ltb (before_divider text) (length text)) refl in
      (take_all (before_divider text) text n, ap (drop 3) (over text (before_divider text) n))
    where
      at_end : (t : Bool) → ltb (before_divider text) (length text) ≡ t → length text ≤ before_divider text
      at_end true e = absurd (none (first_part text) (second_part text) (there text (ltb-true (before_divider text) (length text) e)))
      at_end false e = ltb-false (before_divider text) (length text) e

pub parts_claim : PartsClaim
parts_claim = record { its_parts = its_parts; only = only; undivided = undivided }
