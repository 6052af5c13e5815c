-- Texts put one after another, numerals digit by digit, and the texts of items.
use Prim.Native.Nat.{ℕ, zero, suc, ◌+◌, ◌*◌, ◌/◌, ◌%◌, ◌≤◌, ◌<◌, min}
use mathlib.Core.{Path.{◌≡◌, refl, sym, ap, ap₂, ◌∙◌, subst}, List.{List, [], ◌∷◌, ◌++◌, append_assoc, append-nil}, Bool.{Bool, true, false, cond}}
use native.Mathlib.{Omega.{arith}, Numerals.{add-one}, Nat.{suc-mul}}
use lib.{Dec.{ltb, leb}, ListN.{length, get_or, take, drop, set, length-append}, Seq.{take-suc, set_out, sets, sets-eq, length-sets}}
use borrow.Author.Tests.{leb-true, leb-false}
use Rattle.text_format.specs.Decimal.{limit}
use Rattle.text_format.specs.Texts.{decimal, numeral, each}
use Rattle.text_format.proofs.Decimal.{decimal_small, decimal_large, decimal_more}
use Rattle.text_output.specs.Output.{offset_limit, Puts}

-- ---- buffers

sets_behind : (l : List ℕ) (i : ℕ) (s : List ℕ) → length l ≤ i → sets l i s ≡ l
sets_behind l i [] h = refl
sets_behind l i (b ∷ s) h =
    ap (λ (z : List ℕ). sets z (suc i) s) (set_out l i b h) ∙ sets_behind l (suc i) s (omega arith)

sets_then : (l : List ℕ) (i : ℕ) (s u : List ℕ) → sets l i (s ++ u) ≡ sets (sets l i s) (i + length s) u
sets_then l i [] u = let e : i ≡ i + 0 = omega arith in ap (λ (n : ℕ). sets l n u) e
sets_then l i (b ∷ s) u =
    let e : suc i + length s ≡ i + suc (length s) = omega arith in
    sets_then (set l i b) (suc i) s u ∙ ap (λ (n : ℕ). sets (sets (set l i b) (suc i) s) n u) e

-- the offset may be clipped
sets_from : (l : List ℕ) (i : ℕ) (s : List ℕ) → length l < offset_limit → sets l (min i offset_limit) s ≡ sets l i s
sets_from l i s n = go (leb i offset_limit) refl
  where
    go : (b : Bool) → leb i offset_limit ≡ b → sets l (min i offset_limit) s ≡ sets l i s
    go true e =
        let h = leb-true i offset_limit e in
        let d : min i offset_limit ≡ i = omega arith in
        ap (λ (k : ℕ). sets l k s) d
    go false e =
        let h = leb-false i offset_limit e in
        sets_behind l (min i offset_limit) s (omega arith) ∙ sym (sets_behind l i s (omega arith))

-- ---- texts put one after another

pub puts_length : {l s l' : List ℕ} {i r : ℕ} → Puts l s l' i r → length l' ≡ length l
puts_length {l} {s} {l'} {i} h = ap length h.same ∙ length-sets l i s

pub puts_within : {l s l' : List ℕ} {i r : ℕ} → Puts l s l' i r → r ≤ offset_limit
puts_within {l} {s} {l'} {i} {r} h = let e : r ≡ min (i + length s) offset_limit = h.next in omega arith

pub puts_none : (l : List ℕ) (i : ℕ) → length l < offset_limit → i ≤ offset_limit → Puts l [] l i i
puts_none l i n h = record { same = refl; next = omega arith; end = n }

-- nothing is put yet behind what was put
pub puts_start : {l s l' : List ℕ} {i r : ℕ} → Puts l s l' i r → Puts l' [] l' r r
puts_start {l' = l'} {r = r} h = puts_none l' r (let n = h.end in omega (arith, puts_length h)) (puts_within h)

pub puts_then : {l s l' u l'' : List ℕ} {i r q : ℕ} → Puts l s l' i r → Puts l' u l'' r q → Puts l (s ++ u) l'' i q
puts_then {l} {s} {l'} {u} {l''} {i} {r} {q} h g =
    let n : length (sets l i s) ≡ length l = length-sets l i s in
    let d : q ≡ min (r + length u) offset_limit = g.next in
    let f : r ≡ min (i + length s) offset_limit = h.next in
    let b : length l < offset_limit = h.end in
    record {
      same =
          g.same ∙ ap (λ (z : List ℕ). sets z r u) h.same ∙ ap (λ (k : ℕ). sets (sets l i s) k u) f
          ∙ sets_from (sets l i s) (i + length s) u (omega arith) ∙ sym (sets_then l i s u);
      next = omega (arith, length-append s u);
      end = b;
    }

-- the same text
pub puts_as : {l s u l' : List ℕ} {i r : ℕ} → s ≡ u → Puts l s l' i r → Puts l u l' i r
puts_as {l} {s} {u} {l'} {i} {r} e h = subst (λ (z : List ℕ). Puts l z l' i r) e h

-- one byte more of a word
pub puts_on : {l l' l'' : List ℕ} {i r q : ℕ} (w : List ℕ) (j : ℕ) → j < length w → Puts l (take j w) l' i r
    → Puts l' (get_or w j 0 ∷ []) l'' r q → Puts l (take (j + 1) w) l'' i q
puts_on w j h g k =
    let e : take j w ++ (get_or w j 0 ∷ []) ≡ take (j + 1) w = sym (ap (λ (n : ℕ). take n w) (add-one j) ∙ take-suc w j 0 h) in
    puts_as e (puts_then g k)

-- ---- what is still to be put

-- a part of a text is put: the rest gives what the whole text gives
pub puts_rest : {l T l' : List ℕ} {i z r : ℕ} (s u : List ℕ) → Puts l (s ++ u) T i z → Puts l s l' i r → Puts l' u T r z
puts_rest {l} {T} {l'} {i} {z} {r} s u g h =
    let n : length l' < offset_limit = let m = h.end in omega (arith, puts_length h) in
    let k : Puts l (s ++ u) (sets l' r u) i (min (r + length u) offset_limit) = puts_then h (record { same = refl; next = refl; end = n }) in
    record { same = g.same ∙ sym k.same; next = g.next ∙ sym k.next; end = n }

-- nothing of a text is put yet, behind what was put
pub puts_open : {l s l' : List ℕ} {i r : ℕ} → Puts l s l' i r → (u : List ℕ) → Puts l' u (sets l' r u) r (min (r + length u) offset_limit)
puts_open h u = record { same = refl; next = refl; end = let n = h.end in omega (arith, puts_length h) }

-- the rest is empty
pub puts_done : {l s l' : List ℕ} {i r : ℕ} → Puts l' [] (sets l i s) r (min (i + length s) offset_limit) → r ≤ offset_limit → Puts l s l' i r
puts_done {l} {s} {l'} {i} {r} g h =
    let e : min (i + length s) offset_limit ≡ min (r + 0) offset_limit = g.next in
    let n : length l' < offset_limit = g.end in
    record { same = sym g.same; next = omega arith; end = omega (arith, ap length g.same, length-sets l i s) }

-- ---- a text that has room

-- It stands at the front, and what lies behind it is as it was.
pub record Front (l s l' : List ℕ) (r : ℕ) : Type 0 where
  pub whole : l' ≡ s ++ drop (length s) l
  pub behind : r ≡ length s

pub puts_front : {l s l' : List ℕ} {r : ℕ} → Puts l s l' 0 r → length s ≤ length l → Front l s l' r
puts_front {l} {s} {l'} {r} h fits =
    let n : r ≡ min (0 + length s) offset_limit = h.next in
    let b : length l < offset_limit = h.end in
    let e : 0 + length s ≡ length s = omega arith in
    record {
      whole = h.same ∙ sets-eq s l 0 (omega arith) ∙ ap (λ (k : ℕ). s ++ drop k l) e;
      behind = omega arith;
    }

-- ---- a text put into any buffer, as an empty one, to learn its length n, and then into one that is compared with n
module _ {l s l' : List ℕ} {n : ℕ} (w : Puts l s l' 0 n) where
  pub puts_long : (old : List ℕ) → length old < n → length old < length s
  puts_long old h = let e : n ≡ min (0 + length s) offset_limit = w.next in omega arith

  pub puts_again : {old new : List ℕ} {r : ℕ} → n ≤ length old → Puts old s new 0 r → Front old s new n × (length s ≤ length old)
  puts_again {old} {new} {r} h g =
      let e : n ≡ min (0 + length s) offset_limit = w.next in
      let b : length old < offset_limit = g.end in
      let m : n ≡ length s = omega arith in
      let f : length s ≤ length old = omega arith in
      (record { whole = (puts_front g f).whole; behind = m }, f)

-- ---- numerals

-- enough digits are enough
decimal_rise : (j k v : ℕ) → v < limit k → decimal (j + k) v ≡ decimal k v
decimal_rise zero k v h = let e : 0 + k ≡ k = omega arith in ap (λ (n : ℕ). decimal n v) e
decimal_rise (suc j) k v h =
    let e : suc j + k ≡ suc (j + k) = omega arith in
    ap (λ (n : ℕ). decimal n v) e ∙ decimal_more (j + k) v (limit_rise j) ∙ decimal_rise j k v h
  where
    limit_rise : (j : ℕ) → v < limit (j + k)
    limit_rise zero = let e : 0 + k ≡ k = omega arith in subst (λ (n : ℕ). v < limit n) (sym e) h
    limit_rise (suc j) =
        let g = limit_rise j in
        let e : suc j + k ≡ suc (j + k) = omega arith in
        subst (λ (n : ℕ). v < limit n) (sym e) (omega arith)

pub numeral_digit : (v : ℕ) → v < 10 → numeral v ≡ (48 + v) ∷ []
unfolding numeral
numeral_digit v h = decimal_small 19 v h

pub numeral_more : (v : ℕ) → 10 ≤ v → v < 18446744073709551616 → numeral v ≡ numeral (v / 10) ++ ((48 + v % 10) ∷ [])
unfolding numeral
numeral_more v h g =
    decimal_large 18 v h ∙ ap (λ (s : List ℕ). s ++ ((48 + v % 10) ∷ [])) (sym (decimal_more 18 (v / 10) (omega arith)))

-- with fewer digits allowed
pub numeral_within : (j k v : ℕ) → j + k ≡ 19 → v < limit k → numeral v ≡ decimal k v
unfolding numeral
numeral_within j k v e h = ap (λ (n : ℕ). decimal n v) (sym e) ∙ decimal_rise j k v h

decimal_length : (k v : ℕ) → length (decimal k v) ≤ k + 1
decimal_length zero v = omega arith
decimal_length (suc k) v = go (ltb v 10) (decimal_length k (v / 10))
  where
    go : (b : Bool) → length (decimal k (v / 10)) ≤ k + 1 → length (cond b ((48 + v) ∷ []) (decimal k (v / 10) ++ ((48 + v % 10) ∷ []))) ≤ suc k + 1
    go true ih = omega arith
    go false ih = omega (arith, length-append (decimal k (v / 10)) ((48 + v % 10) ∷ []))

pub numeral_length : (v : ℕ) → length (numeral v) ≤ 20
unfolding numeral
numeral_length v = decimal_length 19 v

-- the digits of a number within a limit
pub numeral_digits : (j k v : ℕ) → j + k ≡ 19 → v < limit k → length (numeral v) ≤ k + 1
numeral_digits j k v e h = omega (arith, ap length (numeral_within j k v e h), decimal_length k v)

pub numeral_short : (v : ℕ) → v < 1000 → length (numeral v) ≤ 3
numeral_short v h = numeral_digits 17 2 v refl h

-- ---- items

-- one more item
each_more : (text : ℕ → List ℕ) (c i : ℕ) → each text c i ++ text (i + c) ≡ each text (suc c) i
each_more text zero i = (let e : i + 0 ≡ i = omega arith in ap text e) ∙ sym (append-nil (text i))
each_more text (suc c) i =
    append_assoc (text i) (each text c (suc i)) (text (i + suc c))
    ∙ (let e : i + suc c ≡ suc i + c = omega arith in ap (λ (j : ℕ). text i ++ (each text c (suc i) ++ text j)) e)
    ∙ ap (λ (s : List ℕ). text i ++ s) (each_more text c (suc i))

-- the text of one more item is put
pub puts_each : {l l' l'' s : List ℕ} {i r q : ℕ} (text : ℕ → List ℕ) (c : ℕ) → s ≡ text c → Puts l (each text c 0) l' i r
    → Puts l' s l'' r q → Puts l (each text (c + 1) 0) l'' i q
puts_each text c e h g =
    puts_as (each_more text c 0 ∙ ap (λ (n : ℕ). each text n 0) (sym (add-one c)))
    (puts_then h (puts_as (e ∙ (let d : c ≡ 0 + c = omega arith in ap text d)) g))

-- equal items
pub each_same : (f g : ℕ → List ℕ) (c i : ℕ) → ((j : ℕ) → i ≤ j → j < i + c → f j ≡ g j) → each f c i ≡ each g c i
each_same f g zero i h = refl
each_same f g (suc c) i h =
    ap₂ (λ (x y : List ℕ). x ++ y) (h i (omega arith) (omega arith))
    (each_same f g c (suc i) (λ j l u. h j (omega arith) (omega arith)))

-- items of at most b bytes
pub each_length : (f : ℕ → List ℕ) (b c i : ℕ) → ((j : ℕ) → i ≤ j → j < i + c → length (f j) ≤ b) → length (each f c i) ≤ c * b
each_length f b zero i h = omega arith
each_length f b (suc c) i h =
    omega (
      arith,
      h i (omega arith) (omega arith),
      each_length f b c (suc i) (λ j l u. h j (omega arith) (omega arith)),
      length-append (f i) (each f c (suc i)),
      suc-mul c b,
    )
