-- Numbers of words, and words of a list in bytes: the computed answers are those of the sentences.
use Prim.Native.Nat.{ℕ, suc, ◌+◌, ◌-◌, ◌*◌, ◌≤◌}
use mathlib.Core.Path.{◌≡◌, refl, sym, ap, ◌∙◌, subst}
use mathlib.Core.List.{List, [], ◌∷◌, ◌++◌, append_assoc, append-nil}
use mathlib.Core.{Bool.{Bool, true, false}, Logic.{◌⊎◌, inl, inr, ⊎_elim}}
use native.Mathlib.Omega.{arith}
use lib.{Dec.{eqb}, ListN.{length, drop}, Seq.{take_at, drop_at}}
use borrow.Author.Tests.{eqb-true, ne_eqb}
use Rattle.text_format.specs.Decimal.{is_digit, Digits, value_from}
use Rattle.text_format.specs.Decimal as D
use Rattle.text_format.proofs.Decimal.{digit_range, digit_in_range}
use Rattle.values.specs.Setup.{mask_bytes}
use Rattle.channel_file.specs.Bytes.{clamp}
use Rattle.std.specs.Prelude.{Option, Some, None}
use Rattle.command_line.specs.declared.Item.{Item}
use Rattle.command_line.specs.{Words.{before}, Numbers.{IsNumber, number, other, digits_from, number_of}}
use Rattle.command_line.specs.Lists.{IsItem, value, Items, end, one_more, clamp_mask, and_then, low_part, high_part, item_of, items_from}
use Rattle.command_line.specs.Lists as L

-- ---- numbers

digits_said : (v : ℕ) (s : List ℕ) → Digits s → digits_from v s ≡ Some (value_from v s)
unfolding digits_from
digits_said v [] D.none = refl
digits_said v (b ∷ s) (D.one_more l h d) = rw (digit_in_range b l h) (digits_said (v * 10 + (b - 48)) s d)

digits_none₁ : (t : Bool) (v b : ℕ) (s : List ℕ) → is_digit b ≡ t → (Digits (b ∷ s) → ⊥)
    → ((Digits s → ⊥) → digits_from (v * 10 + (b - 48)) s ≡ None) → digits_from v (b ∷ s) ≡ None
unfolding digits_from
digits_none₁ true v b s e n f = rw e (f (λ d. n (D.one_more (digit_range b e).0 (digit_range b e).1 d)))
digits_none₁ false v b s e n f = rw e

digits_none : (v : ℕ) (s : List ℕ) → (Digits s → ⊥) → digits_from v s ≡ None
digits_none v [] n = absurd (n D.none)
digits_none v (b ∷ s) n = digits_none₁ (is_digit b) v b s refl n (λ m. digits_none (v * 10 + (b - 48)) s m)

pub number_only : (w : List ℕ) (answer : Option ℕ) → IsNumber w answer → answer ≡ number_of w
unfolding number_of
number_only [] answer (number d l) = absurd (omega arith)
number_only (b ∷ s) answer (number d l) = sym (digits_said 0 (b ∷ s) d)
number_only [] answer (other n) = refl
number_only (b ∷ s) answer (other n) = sym (digits_none 0 (b ∷ s) (λ d. n d (omega arith)))

head_digit : (b : ℕ) (s : List ℕ) → Digits (b ∷ s) → is_digit b ≡ true
head_digit b s (D.one_more l h d) = digit_in_range b l h

tail_digits : (b : ℕ) (s : List ℕ) → Digits (b ∷ s) → Digits s
tail_digits b s (D.one_more l h d) = d

digits_or_not₁ : (t : Bool) (b : ℕ) (s : List ℕ) → is_digit b ≡ t → Digits s ⊎ (Digits s → ⊥) → Digits (b ∷ s) ⊎ (Digits (b ∷ s) → ⊥)
digits_or_not₁ true b s e (inl d) = inl (D.one_more (digit_range b e).0 (digit_range b e).1 d)
digits_or_not₁ true b s e (inr n) = inr (λ d. n (tail_digits b s d))
digits_or_not₁ false b s e o = inr (λ d. let g = head_digit b s d in let z : ◌≡◌ {A = ℕ} 0 1 = cc in omega arith)

digits_or_not : (s : List ℕ) → Digits s ⊎ (Digits s → ⊥)
digits_or_not [] = inl D.none
digits_or_not (b ∷ s) = digits_or_not₁ (is_digit b) b s refl (digits_or_not s)

pub number_answered : (w : List ℕ) → IsNumber w (number_of w)
number_answered [] = subst (λ (o : Option ℕ). IsNumber [] o) (number_only [] None (other (λ d l. omega arith))) (other (λ d l. omega arith))
number_answered (b ∷ s) =
    ⊎_elim
    (λ d. subst (λ (o : Option ℕ). IsNumber (b ∷ s) o) (number_only (b ∷ s) _ (number d (omega arith))) (number d (omega arith)))
    (λ n. subst (λ (o : Option ℕ). IsNumber (b ∷ s) o) (number_only (b ∷ s) None (other (λ d l. n d))) (other (λ d l. n d)))
    (digits_or_not (b ∷ s))

-- ---- the dot of a value

-- the first dot stands behind digits
dot_behind : (low high : List ℕ) → Digits low → before 46 (low ++ (46 ∷ high)) ≡ length low
unfolding before
dot_behind [] high D.none = refl
dot_behind (b ∷ low) high (D.one_more l h d) = rw (ne_eqb b 46 (λ e. omega arith)) (ap suc (dot_behind low high d))

parts_of : (low high : List ℕ) → Digits low → (low_part (low ++ (46 ∷ high)) ≡ low) × (high_part (low ++ (46 ∷ high)) ≡ high)
parts_of low high d = (
  take_at low (46 ∷ high) (before 46 (low ++ (46 ∷ high))) (sym (dot_behind low high d)),
  ap (drop 1) (drop_at low (46 ∷ high) (before 46 (low ++ (46 ∷ high))) (sym (dot_behind low high d))),
)

-- a word is divided there, or nothing stands behind
dot_split₁ : (t : Bool) (b : ℕ) (s : List ℕ) → eqb b 46 ≡ t → (high_part s ≡ []) ⊎ (s ≡ low_part s ++ (46 ∷ high_part s))
    → (high_part (b ∷ s) ≡ []) ⊎ (b ∷ s ≡ low_part (b ∷ s) ++ (46 ∷ high_part (b ∷ s)))
unfolding before
dot_split₁ true b s e h = inr (rw e (ap (λ (x : ℕ). x ∷ s) (eqb-true b 46 e)))
dot_split₁ false b s e (inl h) = inl (rw e h)
dot_split₁ false b s e (inr h) = inr (rw e (ap (λ (z : List ℕ). b ∷ z) h))

dot_split : (w : List ℕ) → (high_part w ≡ []) ⊎ (w ≡ low_part w ++ (46 ∷ high_part w))
unfolding before
dot_split [] = inl refl
dot_split (b ∷ s) = dot_split₁ (eqb b 46) b s refl (dot_split s)

-- ---- a word in bytes

is_digits : {w : List ℕ} {v : ℕ} → IsNumber w (Some v) → Digits w × (1 ≤ length w)
is_digits (number d l) = (d, l)

item_only : (this : Item) (w u : List ℕ) → IsItem w this u → item_of this w ≡ Some u
unfolding item_of
item_only this w u (L.number {v = v} n) = rw (sym (number_only w (Some v) n))
item_only this w u (value {low = low} {high = high} {l = l} {h = h} e a b) =
    let p = parts_of low high (is_digits a).0 in
    let le : number_of (low_part w) ≡ Some l = ap (λ (z : List ℕ). number_of (low_part z)) e ∙ ap number_of p.0 ∙ sym (number_only low (Some l) a) in
    let he : number_of (high_part w) ≡ Some h = ap (λ (z : List ℕ). number_of (high_part z)) e ∙ ap number_of p.1 ∙ sym (number_only high (Some h) b) in
    rw (le, he)

number_found : (o : Option ℕ) (w u : List ℕ) → IsNumber w o → and_then o (λ v. Some (clamp v ∷ [])) ≡ Some u → IsItem w Item.Number u
number_found None w u n e = let z : ◌≡◌ {A = ℕ} 0 1 = cc in absurd (omega arith)
number_found (Some v) w u n e = let d : ◌≡◌ {A = List ℕ} (clamp v ∷ []) u = cc in subst (IsItem w Item.Number) d (L.number n)

value_found : (o p : Option ℕ) (w u : List ℕ) → IsNumber (low_part w) o → IsNumber (high_part w) p
    → (high_part w ≡ []) ⊎ (w ≡ low_part w ++ (46 ∷ high_part w))
    → and_then o (λ l. and_then p (λ h. Some (mask_bytes (clamp_mask l) ++ mask_bytes (clamp_mask h)))) ≡ Some u → IsItem w Item.Value u
value_found None p w u a b s e = let z : ◌≡◌ {A = ℕ} 0 1 = cc in absurd (omega arith)
value_found (Some l) None w u a b s e = let z : ◌≡◌ {A = ℕ} 0 1 = cc in absurd (omega arith)
value_found (Some l) (Some h) w u a b (inl s) e = absurd (omega (arith, (is_digits b).1, ap length s))
value_found (Some l) (Some h) w u a b (inr s) e =
    let d : mask_bytes (clamp_mask l) ++ mask_bytes (clamp_mask h) ≡ u = cc in subst (IsItem w Item.Value) d (value s a b)

item_found : (this : Item) (w u : List ℕ) → item_of this w ≡ Some u → IsItem w this u
unfolding item_of
item_found Item.Number w u e = number_found (number_of w) w u (number_answered w) e
item_found Item.Value w u e =
    value_found (number_of (low_part w)) (number_of (high_part w)) w u (number_answered (low_part w)) (number_answered (high_part w)) (dot_split w) e

-- ---- words in bytes

pub items_only : (this that : Item) (bs : List ℕ) (ws : List (List ℕ)) (us : List ℕ) → Items this that ws us
    → items_from this that bs ws ≡ Some (bs ++ us)
unfolding items_from
items_only this that bs ws us end = ap (λ (z : List ℕ). Some z) (sym (append-nil bs))
items_only this that bs ws us (one_more {w = w} {ws = ws'} {u = u} {us = us'} i r) =
    rw (item_only this w u i) (items_only that this (bs ++ u) ws' us' r ∙ ap (λ (z : List ℕ). Some z) (append_assoc bs u us'))

pub record Behind (this that : Item) (bs all : List ℕ) (ws : List (List ℕ)) : Type 0 where
  pub list : List ℕ
  pub whole : all ≡ bs ++ list
  pub each : Items this that ws list

items_found₁ : (o : Option (List ℕ)) (this that : Item) (w : List ℕ) (ws : List (List ℕ)) (bs all : List ℕ) → item_of this w ≡ o
    → ((u : List ℕ) → items_from that this u ws ≡ Some all → Behind that this u all ws)
    → and_then o (λ u. items_from that this (bs ++ u) ws) ≡ Some all → Behind this that bs all (w ∷ ws)
items_found₁ None this that w ws bs all i f e = let z : ◌≡◌ {A = ℕ} 0 1 = cc in absurd (omega arith)
items_found₁ (Some u) this that w ws bs all i f e =
    let b = f (bs ++ u) e in
    record { list = u ++ b.list; whole = b.whole ∙ append_assoc bs u b.list; each = one_more (item_found this w u i) b.each }

pub items_found : (this that : Item) (bs : List ℕ) (ws : List (List ℕ)) (all : List ℕ) → items_from this that bs ws ≡ Some all → Behind this that bs all ws
unfolding items_from
items_found this that bs [] all e = record { list = []; whole = (let g : bs ≡ all = cc in sym g) ∙ sym (append-nil bs); each = end }
items_found this that bs (w ∷ ws) all e =
    items_found₁ (item_of this w) this that w ws bs all refl (λ u d. items_found that this u ws all d) e
