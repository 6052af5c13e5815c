-- The laws of numbers in decimal: what a numeral is, and that numbers are read as they are printed.
use Prim.Native.Nat.{ℕ, zero, suc, ◌+◌, ◌-◌, ◌*◌, ◌/◌, ◌%◌, ◌≤◌, ◌<◌}
use mathlib.Core.{Path.{◌≡◌, refl, sym, ap, ◌∙◌, subst}, List.{List, [], ◌∷◌, ◌++◌, append_assoc, append-nil}, Bool.{Bool, true, false, cond}}
use mathlib.Core.Option.{Option, some, none}
use native.Mathlib.Omega.{arith}
use lib.{Dec.{ltb, eqb}, ListN.{length, length-append}}
use borrow.Author.Tests.{eqb-true, eqb-false, ne_eqb, ltb-true, ltb-false, lt-ltb, le-ltb}
use Rattle.text_format.specs.{Format.{Parsed, ok, bad, bind, Format, Stuck, Laws}, Combinators.{find_in, letter_of, letter_parse, Alphabet}}
use Rattle.text_format.specs.Decimal.{limit, is_digit, Digits, one_more, value_from, Numeral, more, numeral_parse, numbered}
use Rattle.text_format.specs.Texts.{decimal}
use Rattle.text_format.specs.Claims.{NumeralClaim}
use Rattle.text_format.specs.Decimal as D
use Rattle.text_format.proofs.Combinators.{letter_sound, letter_full}

digit_cases : (t : Bool) (b : ℕ) → ltb b 48 ≡ t → cond t false (ltb b 58) ≡ true → (48 ≤ b) × (b < 58)
digit_cases true b e h = let z : ◌≡◌ {A = ℕ} 0 1 = cc in absurd (omega arith)
digit_cases false b e h = (ltb-false b 48 e, ltb-true b 58 h)

pub digit_range : (b : ℕ) → is_digit b ≡ true → (48 ≤ b) × (b < 58)
digit_range b h = digit_cases (ltb b 48) b refl h

pub digit_in_range : (b : ℕ) → 48 ≤ b → b < 58 → is_digit b ≡ true
digit_in_range b l h = rw (le-ltb b 48 l, lt-ltb b 58 h)

-- ---- laws of decimal

pub decimal_small : (k v : ℕ) → v < 10 → decimal k v ≡ (48 + v) ∷ []
decimal_small zero v h = refl
decimal_small (suc k) v h = rw (lt-ltb v 10 h)

pub decimal_large : (k v : ℕ) → 10 ≤ v → decimal (suc k) v ≡ decimal k (v / 10) ++ ((48 + v % 10) ∷ [])
decimal_large k v h = rw (le-ltb v 10 h)

decimal_more₁ : (t : Bool) (k v : ℕ) → ltb v 10 ≡ t → v < limit k → (10 ≤ v → decimal (suc k) v ≡ decimal k v) → decimal (suc k) v ≡ decimal k v
decimal_more₁ true k v e h f = decimal_small (suc k) v (ltb-true v 10 e) ∙ sym (decimal_small k v (ltb-true v 10 e))
decimal_more₁ false k v e h f = f (ltb-false v 10 e)

-- more room changes nothing where there is enough
pub decimal_more : (k v : ℕ) → v < limit k → decimal (suc k) v ≡ decimal k v
decimal_more zero v h = decimal_small (suc zero) v h ∙ sym (decimal_small zero v h)
decimal_more (suc k) v h =
    decimal_more₁ (ltb v 10) (suc k) v refl h
    (λ l. decimal_large (suc k) v l ∙ ap (λ (z : List ℕ). z ++ ((48 + v % 10) ∷ [])) (decimal_more k (v / 10) (omega arith)) ∙ sym (decimal_large k v l))

decimal_step : (k v d : ℕ) → 0 < v → d < 10 → v * 10 + d < limit k → decimal k (v * 10 + d) ≡ decimal k v ++ ((48 + d) ∷ [])
decimal_step zero v d p q h = absurd (omega arith)
decimal_step (suc k) v d p q h =
    let e1 : (v * 10 + d) / 10 ≡ v = omega arith in
    let e2 : (v * 10 + d) % 10 ≡ d = omega arith in
    decimal_large k (v * 10 + d) (omega arith) ∙ ap (λ (z : ℕ). decimal k z ++ ((48 + (v * 10 + d) % 10) ∷ [])) e1
    ∙ ap (λ (z : ℕ). decimal k v ++ ((48 + z) ∷ [])) e2 ∙ ap (λ (z : List ℕ). z ++ ((48 + d) ∷ [])) (sym (decimal_more k v (omega arith)))

limit_mono : (m j k : ℕ) → m + j ≡ k → limit m ≤ limit k
limit_mono m zero k h = let e : m ≡ k = omega arith in rw e (omega arith)
limit_mono m (suc j) zero h = absurd (omega arith)
limit_mono m (suc j) (suc k) h = let i : limit m ≤ limit k = limit_mono m j k (omega arith) in omega arith

pub limit_pos : (k : ℕ) → 0 < limit k
limit_pos k = let i : limit zero ≤ limit k = limit_mono zero k k (omega arith) in omega arith

-- ---- what a numeral-parse read is

-- w stands before r, and is read there too if anything follows the next byte
record Took (k : ℕ) (shown : List ℕ) (parse : List ℕ → Parsed ℕ) (s : List ℕ) (w : ℕ) (r : List ℕ) : Type 0 where
  pub before : List ℕ
  pub splits : s ≡ before ++ r
  pub small : w < limit k
  pub printed : shown ++ before ≡ decimal k w
  pub local : (b : ℕ) (r' : List ℕ) → r ≡ b ∷ r' → (u : List ℕ) → parse (before ++ (b ∷ u)) ≡ ok w (b ∷ u)

pub more_stop : (j v b : ℕ) (u : List ℕ) → is_digit b ≡ false → more j v (b ∷ u) ≡ ok v (b ∷ u)
more_stop zero v b u h = refl
more_stop (suc j) v b u h = rw h

pub more_go : (j v b : ℕ) (u : List ℕ) → is_digit b ≡ true → more (suc j) v (b ∷ u) ≡ more j (v * 10 + (b - 48)) u
more_go j v b u h = rw h

pub more_done : (k v : ℕ) (s : List ℕ) → k ≤ 0 → more k v s ≡ ok v s
more_done zero v s h = refl
more_done (suc k) v s h = absurd (omega arith)

pub more_over : (k v : ℕ) → more k v [] ≡ ok v []
more_over zero v = refl
more_over (suc k) v = refl

pub more_on : (k v b : ℕ) (u : List ℕ) → 0 < k → is_digit b ≡ true → more k v (b ∷ u) ≡ more (k - 1) (v * 10 + (b - 48)) u
more_on zero v b u p h = absurd (omega arith)
more_on (suc k) v b u p h = let e : k ≡ suc k - 1 = omega arith in more_go k v b u h ∙ ap (λ (z : ℕ). more z (v * 10 + (b - 48)) u) e

more_law₁ : (t : Bool) (j m k v b : ℕ) (s : List ℕ) (w : ℕ) (r : List ℕ) → is_digit b ≡ t → m + suc j ≡ k → 0 < v → v < limit m
    → cond t (more j (v * 10 + (b - 48)) s) (ok v (b ∷ s)) ≡ ok w r
    → ((v' : ℕ) → suc m + j ≡ k → 0 < v' → v' < limit (suc m) → more j v' s ≡ ok w r → Took k (decimal k v') (more j v') s w r)
    → Took k (decimal k v) (more (suc j) v) (b ∷ s) w r
more_law₁ true j m k v b s w r d e p l h ih =
    let hb = digit_range b d in
    let hb0 : 48 ≤ b = hb.0 in
    let hb1 : b < 58 = hb.1 in
    let i : limit (suc m) ≤ limit k = limit_mono (suc m) j k (omega arith) in
    let q : Took k (decimal k (v * 10 + (b - 48))) (more j (v * 10 + (b - 48))) s w r = ih (v * 10 + (b - 48)) (omega arith) (omega arith) (omega arith) h in
    let eb : 48 + (b - 48) ≡ b = omega arith in
    record {
      before = b ∷ q.before;
      splits = ap (λ (z : List ℕ). b ∷ z) q.splits;
      small = q.small;
      printed =
          sym (append_assoc (decimal k v) (b ∷ []) q.before)
          ∙ ap (λ (z : ℕ). (decimal k v ++ (z ∷ [])) ++ q.before) (sym eb)
          ∙ ap (λ (z : List ℕ). z ++ q.before) (sym (decimal_step k v (b - 48) p (omega arith) (omega arith)))
          ∙ q.printed;
      local = λ c r' e' u. more_go j v b (q.before ++ (c ∷ u)) d ∙ q.local c r' e' u;
    }
more_law₁ false j m k v b s w r d e p l h ih =
    let hv : v ≡ w = cc in
    let i : limit m ≤ limit k = limit_mono m (suc j) k e in
    record {
      before = [];
      splits = cc;
      small = omega arith;
      printed = append-nil (decimal k v) ∙ ap (decimal k) hv;
      local = λ c r' e' u.
          let hc : b ≡ c = cc in
          more_stop (suc j) v c u (ap is_digit (sym hc) ∙ d) ∙ ap (λ (z : ℕ). ok z (c ∷ u)) hv;
    }

more_law : (j m k v : ℕ) (s : List ℕ) (w : ℕ) (r : List ℕ) → m + j ≡ k → 0 < v → v < limit m → more j v s ≡ ok w r → Took k (decimal k v) (more j v) s w r
more_law zero m k v s w r e p l h =
    let hv : v ≡ w = cc in
    let i : limit m ≤ limit k = limit_mono m zero k e in
    record {
      before = [];
      splits = cc;
      small = omega arith;
      printed = append-nil (decimal k v) ∙ ap (decimal k) hv;
      local = λ b r' e' u. ap (λ (z : ℕ). ok z (b ∷ u)) hv;
    }
more_law (suc j) m k v [] w r e p l h =
    let hv : v ≡ w = cc in
    let i : limit m ≤ limit k = limit_mono m (suc j) k e in
    record {
      before = [];
      splits = cc;
      small = omega arith;
      printed = append-nil (decimal k v) ∙ ap (decimal k) hv;
      local = λ b r' e' u. let z : ◌≡◌ {A = ℕ} 0 1 = cc in absurd (omega arith);
    }
more_law (suc j) m k v (b ∷ s) w r e p l h =
    more_law₁ (is_digit b) j m k v b s w r refl e p l h (λ v'. more_law j (suc m) k v' s w r)

more_never₁ : (t : Bool) (j v b : ℕ) (s r : List ℕ) → cond t (more j (v * 10 + (b - 48)) s) (ok v (b ∷ s)) ≡ bad r
    → (more j (v * 10 + (b - 48)) s ≡ bad r → ⊥) → ⊥
more_never₁ true j v b s r g ih = ih g
more_never₁ false j v b s r g ih = let z : ◌≡◌ {A = ℕ} 0 1 = cc in omega arith

more_never : (j v : ℕ) (s r : List ℕ) → more j v s ≡ bad r → ⊥
more_never zero v s r h = let z : ◌≡◌ {A = ℕ} 0 1 = cc in omega arith
more_never (suc j) v [] r h = let z : ◌≡◌ {A = ℕ} 0 1 = cc in omega arith
more_never (suc j) v (b ∷ s) r h = more_never₁ (is_digit b) j v b s r h (more_never j (v * 10 + (b - 48)) s r)

-- ---- a numeral-parse at the front of a text

pub number_zero : (k b : ℕ) (u : List ℕ) → b ≡ 48 → numeral_parse k (b ∷ u) ≡ ok 0 u
number_zero k b u h = rw h

pub number_go : (k b : ℕ) (u : List ℕ) → is_digit b ≡ true → eqb b 48 ≡ false → numeral_parse k (b ∷ u) ≡ more k (b - 48) u
number_go k b u h n = rw (h, n)

pub number_not : (k b : ℕ) (u : List ℕ) → is_digit b ≡ false → numeral_parse k (b ∷ u) ≡ bad (b ∷ u)
number_not k b u h = rw h

number_law₂ : (t : Bool) (k b : ℕ) (s : List ℕ) (w : ℕ) (r : List ℕ) → is_digit b ≡ true → eqb b 48 ≡ t
    → cond t (ok 0 s) (more k (b - 48) s) ≡ ok w r → Took k [] (numeral_parse k) (b ∷ s) w r
number_law₂ true k b s w r d e h =
    let hb : b ≡ 48 = eqb-true b 48 e in
    let hw : 0 ≡ w = cc in
    let i : limit zero ≤ limit k = limit_mono zero k k (omega arith) in
    record {
      before = b ∷ [];
      splits = cc;
      small = omega arith;
      printed = ap (λ (z : ℕ). z ∷ []) hb ∙ sym (decimal_small k 0 (omega arith)) ∙ ap (decimal k) hw;
      local = λ c r' e' u. number_zero k b (c ∷ u) hb ∙ ap (λ (z : ℕ). ok z (c ∷ u)) hw;
    }
number_law₂ false k b s w r d e h =
    let hb0 : 48 ≤ b = (digit_range b d).0 in
    let hb1 : b < 58 = (digit_range b d).1 in
    let hn : b ≡ 48 → ⊥ = eqb-false b 48 e in
    let q : Took k (decimal k (b - 48)) (more k (b - 48)) s w r = more_law k zero k (b - 48) s w r (omega arith) (omega arith) (omega arith) h in
    let eb : 48 + (b - 48) ≡ b = omega arith in
    record {
      before = b ∷ q.before;
      splits = ap (λ (z : List ℕ). b ∷ z) q.splits;
      small = q.small;
      printed =
          ap (λ (z : ℕ). z ∷ q.before) (sym eb)
          ∙ ap (λ (z : List ℕ). z ++ q.before) (sym (decimal_small k (b - 48) (omega arith)))
          ∙ q.printed;
      local = λ c r' e' u. number_go k b (q.before ++ (c ∷ u)) d e ∙ q.local c r' e' u;
    }

number_law₁ : (t : Bool) (k b : ℕ) (s : List ℕ) (w : ℕ) (r : List ℕ) → is_digit b ≡ t
    → cond t (cond (eqb b 48) (ok 0 s) (more k (b - 48) s)) (bad (b ∷ s)) ≡ ok w r → Took k [] (numeral_parse k) (b ∷ s) w r
number_law₁ true k b s w r d h = number_law₂ (eqb b 48) k b s w r d refl h
number_law₁ false k b s w r d h = let z : ◌≡◌ {A = ℕ} 0 1 = cc in absurd (omega arith)

number_law : (k : ℕ) (s : List ℕ) (w : ℕ) (r : List ℕ) → numeral_parse k s ≡ ok w r → Took k [] (numeral_parse k) s w r
number_law k [] w r h = let z : ◌≡◌ {A = ℕ} 0 1 = cc in absurd (omega arith)
number_law k (b ∷ s) w r h = number_law₁ (is_digit b) k b s w r refl h

-- a text with no numeral-parse in front stops there
number_bad₁ : (t : Bool) (k b : ℕ) (s r : List ℕ) → is_digit b ≡ t
    → cond t (cond (eqb b 48) (ok 0 s) (more k (b - 48) s)) (bad (b ∷ s)) ≡ bad r → (b ∷ s ≡ r) × (is_digit b ≡ false)
number_bad₁ true k b s r d h = absurd (go (eqb b 48) h)
  where
    go : (t : Bool) → cond t (ok 0 s) (more k (b - 48) s) ≡ bad r → ⊥
    go true g = let z : ◌≡◌ {A = ℕ} 0 1 = cc in omega arith
    go false g = more_never k (b - 48) s r g
number_bad₁ false k b s r d h = (cc, d)

pub number_bad : (k : ℕ) (s r : List ℕ) → numeral_parse k s ≡ bad r → (s ≡ r) × ((b : ℕ) (r' : List ℕ) → r ≡ b ∷ r' → is_digit b ≡ false)
number_bad k [] r h = (cc, λ b r' e. let z : ◌≡◌ {A = ℕ} 0 1 = cc in absurd (omega arith))
number_bad k (b ∷ s) r h =
    let g = number_bad₁ (is_digit b) k b s r refl h in
    (g.0, λ c r' e. let hc : b ≡ c = cc g.0 in ap is_digit (sym hc) ∙ g.1)

-- what is printed is read: with m + 1 digits printed, j more could follow
record Room (k m v : ℕ) : Type 0 where
  left : ℕ
  enough : k ≤ left + m
  reads : (s : List ℕ) → numeral_parse k (decimal m v ++ s) ≡ more left v s

room_small : (k m v : ℕ) → 0 < v → v < 10 → Room k m v
room_small k m v p h =
    let e : eqb (48 + v) 48 ≡ false = ne_eqb (48 + v) 48 (λ z. omega arith) in
    let d : is_digit (48 + v) ≡ true = digit_in_range (48 + v) (omega arith) (omega arith) in
    let ev : 48 + v - 48 ≡ v = omega arith in
    record {
      left = k;
      enough = omega arith;
      reads = λ s. ap (λ (z : List ℕ). numeral_parse k (z ++ s)) (decimal_small m v h) ∙ number_go k (48 + v) s d e ∙ ap (λ (z : ℕ). more k z s) ev;
    }

room_large :
    (k m v : ℕ) → 10 ≤ v → suc m ≤ k → (j : ℕ) → k ≤ j + m →
    ((s : List ℕ) → numeral_parse k (decimal m (v / 10) ++ s) ≡ more j (v / 10) s) → Room k (suc m) v
room_large k m v h l zero e f = absurd (omega arith)
room_large k m v h l (suc j) e f =
    let d : is_digit (48 + v % 10) ≡ true = digit_in_range (48 + v % 10) (omega arith) (omega arith) in
    let ev : v / 10 * 10 + (48 + v % 10 - 48) ≡ v = omega arith in
    record {
      left = j;
      enough = omega arith;
      reads = λ s.
          ap (λ (z : List ℕ). numeral_parse k (z ++ s)) (decimal_large m v h)
          ∙ ap (numeral_parse k) (append_assoc (decimal m (v / 10)) ((48 + v % 10) ∷ []) s)
          ∙ f ((48 + v % 10) ∷ s) ∙ more_go j (v / 10) (48 + v % 10) s d ∙ ap (λ (z : ℕ). more j z s) ev;
    }

room₁ : (t : Bool) (k m v : ℕ) → ltb v 10 ≡ t → 0 < v → suc m ≤ k → (10 ≤ v → Room k m (v / 10)) → Room k (suc m) v
room₁ true k m v e p l ih = room_small k (suc m) v p (ltb-true v 10 e)
room₁ false k m v e p l ih =
    let h = ltb-false v 10 e in
    let q : Room k m (v / 10) = ih h in
    room_large k m v h l q.left q.enough q.reads

room : (k m v : ℕ) → 0 < v → v < limit m → m ≤ k → Room k m v
room k zero v p h l = room_small k zero v p h
room k (suc m) v p h l = room₁ (ltb v 10) k m v refl p l (λ g. room k m (v / 10) (omega arith) (omega arith) (omega arith))

pub number_full : (k v e : ℕ) (w : List ℕ) → v < limit k → is_digit e ≡ false → numeral_parse k (decimal k v ++ (e ∷ w)) ≡ ok v (e ∷ w)
number_full k zero e w h n = ap (λ (z : List ℕ). numeral_parse k (z ++ (e ∷ w))) (decimal_small k 0 (omega arith))
number_full k (suc v) e w h n =
    let q : Room k k (suc v) = room k k (suc v) (omega arith) h (omega arith) in
    q.reads (e ∷ w) ∙ more_stop q.left (suc v) e w n

-- ---- a numeral-parse and the byte that ends it

module _ {K : Type 0} (k : ℕ) (byte : K → ℕ) (k₀ : K) (ks : List K) (all : Alphabet byte k₀ ks)
    (apart : (e : K) → is_digit (byte e) ≡ false) where
  abbrev N : Format (ℕ × K)
  N = numbered k byte k₀ ks

  abbrev end_of : List ℕ → Parsed K
  end_of = letter_parse byte (k₀ ∷ ks)

  numbered_sound₂ : (s : List ℕ) (v : ℕ) (r : List ℕ) → numeral_parse k s ≡ ok v r → (x : Parsed K) → end_of r ≡ x → (p : ℕ × K) (q : List ℕ)
      → ◌≡◌ {A = Parsed (ℕ × K)} (bind x (λ e r'. ok (v, e) r')) (ok p q) → N.Fits p × (s ≡ N.print p ++ q)
  numbered_sound₂ s v r e (ok c r') f p q h =
      let hp : ◌≡◌ {A = ℕ × K} (v, c) p = cc in
      let hr : r' ≡ q = cc in
      let t : Took k [] (numeral_parse k) s v r = number_law k s v r e in
      let g = letter_sound byte k₀ ks all r c r' f in
      subst (λ (z : ℕ × K). N.Fits z × (s ≡ N.print z ++ q)) hp (
        t.small,
        t.splits ∙ ap (λ (z : List ℕ). z ++ r) t.printed ∙ ap (λ (z : List ℕ). decimal k v ++ z) (g.1 ∙ ap (λ (z : List ℕ). byte c ∷ z) hr)
            ∙ sym (append_assoc (decimal k v) (byte c ∷ []) q),
      )
  numbered_sound₂ s v r e (bad r') f p q h = let z : ◌≡◌ {A = ℕ} 0 1 = cc in absurd (omega arith)

  numbered_sound₁ : (s : List ℕ) (x : Parsed ℕ) → numeral_parse k s ≡ x → (p : ℕ × K) (q : List ℕ)
      → ◌≡◌ {A = Parsed (ℕ × K)} (bind x (λ v r. bind (letter_parse byte (k₀ ∷ ks) r) (λ e r'. ok (v, e) r'))) (ok p q) → N.Fits p × (s ≡ N.print p ++ q)
  numbered_sound₁ s (ok v r) e p q h = numbered_sound₂ s v r e (end_of r) refl p q h
  numbered_sound₁ s (bad r) e p q h = let z : ◌≡◌ {A = ℕ} 0 1 = cc in absurd (omega arith)

  numbered_full : (p : ℕ × K) → N.Fits p → (w : List ℕ) → N.parse (N.print p ++ w) ≡ ok p w
  numbered_full p h w =
      rw (append_assoc (decimal k p.0) (byte p.1 ∷ []) w, number_full k p.0 (byte p.1) w h (apart p.1))
      (rw (letter_full byte k₀ ks all p.1 tt w))

  numbered_local₁ : (s r : List ℕ) → numeral_parse k s ≡ bad r → N.parse s ≡ bad r
  numbered_local₁ s r e = rw e

  numbered_local₂ : (s : List ℕ) (v : ℕ) (q r : List ℕ) → numeral_parse k s ≡ ok v q → end_of q ≡ bad r → N.parse s ≡ bad r
  numbered_local₂ s v q r e f = rw e (rw f)

  -- the byte where no end stands is the next byte
  end_here : (q r : List ℕ) → end_of q ≡ bad r → q ≡ r
  end_here [] r h = cc
  end_here (b ∷ q) r h = go (find_in byte (k₀ ∷ ks) b) h
    where
      go : (x : Option K) → letter_of x b q ≡ bad r → b ∷ q ≡ r
      go (some c) g = let z : ◌≡◌ {A = ℕ} 0 1 = cc in absurd (omega arith)
      go none g = cc

  end_again : (b : ℕ) (r u q : List ℕ) → end_of (b ∷ r) ≡ bad q → end_of (b ∷ u) ≡ bad (b ∷ u)
  end_again b r u q h = go (find_in byte (k₀ ∷ ks) b) h
    where
      go : (x : Option K) → letter_of x b r ≡ bad q → letter_of x b u ≡ bad (b ∷ u)
      go (some c) g = let z : ◌≡◌ {A = ℕ} 0 1 = cc in absurd (omega arith)
      go none g = refl

  numbered_stuck₂ : (s : List ℕ) (v : ℕ) (q : List ℕ) → numeral_parse k s ≡ ok v q → (x : Parsed K) → end_of q ≡ x → (r : List ℕ)
      → ◌≡◌ {A = Parsed (ℕ × K)} (bind x (λ e r'. ok (v, e) r')) (bad r) → Stuck N s r
  numbered_stuck₂ s v q e (ok c r') f r h = let z : ◌≡◌ {A = ℕ} 0 1 = cc in absurd (omega arith)
  numbered_stuck₂ s v q e (bad r') f r h =
      let hr : r' ≡ r = cc in
      let fr : end_of q ≡ bad r = f ∙ ap (λ (z : List ℕ). bad z) hr in
      let hq : q ≡ r = end_here q r fr in
      let t : Took k [] (numeral_parse k) s v q = number_law k s v q e in
      record {
        before = t.before;
        splits = t.splits ∙ ap (λ (z : List ℕ). t.before ++ z) hq;
        value = (v, k₀);
        fits = t.small;
        ending = byte k₀ ∷ [];
        viable = ap (λ (z : List ℕ). z ++ (byte k₀ ∷ [])) t.printed;
        local = λ b r'' e' u.
            numbered_local₂ (t.before ++ (b ∷ u)) v (b ∷ u) (b ∷ u) (t.local b r'' (hq ∙ e') u)
            (end_again b r'' u r (ap end_of (sym (hq ∙ e')) ∙ fr));
      }

  numbered_stuck₁ : (s : List ℕ) (x : Parsed ℕ) → numeral_parse k s ≡ x → (r : List ℕ)
      → ◌≡◌ {A = Parsed (ℕ × K)} (bind x (λ v r. bind (letter_parse byte (k₀ ∷ ks) r) (λ e r'. ok (v, e) r'))) (bad r) → Stuck N s r
  numbered_stuck₁ s (ok v q) e r h = numbered_stuck₂ s v q e (end_of q) refl r h
  numbered_stuck₁ s (bad q) e r h =
      let hr : q ≡ r = cc in
      let g = number_bad k s r (e ∙ ap (λ (z : List ℕ). bad z) hr) in
      let i : limit zero ≤ limit k = limit_mono zero k k (omega arith) in
      record {
        before = [];
        splits = g.0;
        value = (0, k₀);
        fits = omega arith;
        ending = N.print (0, k₀);
        viable = refl;
        local = λ b r' e' u. numbered_local₁ (b ∷ u) (b ∷ u) (number_not k b u (g.1 b r' e'));
      }

  pub numbered_laws : Laws N
  numbered_laws =
      record {
        sample_fits = limit_pos k;
        sound = λ s p r h. numbered_sound₁ s (numeral_parse k s) refl p r h;
        full = numbered_full;
        stuck = λ s r h. numbered_stuck₁ s (numeral_parse k s) refl r h;
      }

-- three digits at most, written out
pub decimal_one : (v : ℕ) → v < 10 → decimal 2 v ≡ (48 + v) ∷ []
decimal_one v h = decimal_small 2 v h

pub decimal_two : (v : ℕ) → 10 ≤ v → v < 100 → decimal 2 v ≡ (48 + v / 10) ∷ (48 + v % 10) ∷ []
decimal_two v l h = decimal_large 1 v l ∙ ap (λ (z : List ℕ). z ++ ((48 + v % 10) ∷ [])) (decimal_small 1 (v / 10) (omega arith))

pub decimal_three : (v : ℕ) → 100 ≤ v → decimal 2 v ≡ (48 + v / 10 / 10) ∷ (48 + v / 10 % 10) ∷ (48 + v % 10) ∷ []
decimal_three v l = decimal_large 1 v (omega arith) ∙ ap (λ (z : List ℕ). z ++ ((48 + v % 10) ∷ [])) (decimal_large 0 (v / 10) (omega arith))

-- ---- what is printed is the numeral, and the only one

digits_append : {s t : List ℕ} → Digits s → Digits t → Digits (s ++ t)
digits_append D.none g = g
digits_append (one_more l h d) g = one_more l h (digits_append d g)

value_append : (v : ℕ) (s t : List ℕ) → value_from v (s ++ t) ≡ value_from (value_from v s) t
value_append v [] t = refl
value_append v (b ∷ s) t = value_append (v * 10 + (b - 48)) s t

numeral_small : (k v : ℕ) → v < 10 → Numeral k v ((48 + v) ∷ [])
numeral_small k v h =
    record {
      digits = one_more {b = 48 + v} (omega arith) (omega arith) D.none;
      some_digit = omega arith;
      few_digits = omega arith;
      no_leading_zero = λ u e. cc;
      value = omega arith;
    }

-- a numeral-parse of one digit or more, and one digit more
numeral_large : (k v : ℕ) (s : List ℕ) → 10 ≤ v → Numeral k (v / 10) s → Numeral (suc k) v (s ++ ((48 + v % 10) ∷ []))
numeral_large k v [] h n = let l : 1 ≤ 0 = n.some_digit in absurd (omega arith)
numeral_large k v (c ∷ s) h n =
    let l : length (s ++ ((48 + v % 10) ∷ [])) ≡ length s + 1 = length-append s ((48 + v % 10) ∷ []) in
    let f : suc (length s) ≤ k + 1 = n.few_digits in
    record {
      digits = digits_append n.digits (one_more {b = 48 + v % 10} (omega arith) (omega arith) D.none);
      some_digit = omega arith;
      few_digits = omega arith;
      no_leading_zero = λ u e.
          let hc : c ≡ 48 = cc in
          let hs : s ≡ [] = n.no_leading_zero s (ap (λ (z : ℕ). z ∷ s) hc) in
          let hv : value_from 0 (48 ∷ []) ≡ v / 10 = sym (ap (λ (z : List ℕ). value_from 0 z) (ap (λ (z : ℕ). z ∷ s) hc ∙ ap (λ (z : List ℕ). 48 ∷ z) hs))
          ∙ n.value in
          absurd (omega arith);
      value =
          value_append 0 (c ∷ s) ((48 + v % 10) ∷ []) ∙ ap (λ (z : ℕ). z * 10 + (48 + v % 10 - 48)) n.value
          ∙ (let e : v / 10 * 10 + (48 + v % 10 - 48) ≡ v = omega arith in e);
    }

decimal_numeral₁ : (t : Bool) (k v : ℕ) → ltb v 10 ≡ t → (10 ≤ v → Numeral k (v / 10) (decimal k (v / 10))) → Numeral (suc k) v
    (cond t ((48 + v) ∷ []) (decimal k (v / 10) ++ ((48 + v % 10) ∷ [])))
decimal_numeral₁ true k v e ih = numeral_small (suc k) v (ltb-true v 10 e)
decimal_numeral₁ false k v e ih = numeral_large k v (decimal k (v / 10)) (ltb-false v 10 e) (ih (ltb-false v 10 e))

pub decimal_numeral : (k v : ℕ) → v < limit k → Numeral k v (decimal k v)
decimal_numeral zero v h = numeral_small zero v h
decimal_numeral (suc k) v h = decimal_numeral₁ (ltb v 10) k v refl (λ l. decimal_numeral k (v / 10) (omega arith))

digits_more : (j v : ℕ) (s : List ℕ) → Digits s → length s ≤ j → more j v s ≡ ok (value_from v s) []
digits_more zero v [] d h = refl
digits_more (suc j) v [] d h = refl
digits_more zero v (b ∷ s) d h = absurd (omega arith)
digits_more (suc j) v (b ∷ s) (one_more l u d) h = more_go j v b s (digit_in_range b l u) ∙ digits_more j (v * 10 + (b - 48)) s d (omega arith)

numeral_number₁ : (t : Bool) (k v b : ℕ) (s : List ℕ) → eqb b 48 ≡ t → is_digit b ≡ true → Digits s → Numeral k v (b ∷ s) → numeral_parse k (b ∷ s) ≡ ok v []
numeral_number₁ true k v b s e i d n =
    let hb : b ≡ 48 = eqb-true b 48 e in
    let hs : s ≡ [] = n.no_leading_zero s (ap (λ (z : ℕ). z ∷ s) hb) in
    let hv : value_from 0 (48 ∷ []) ≡ v = sym (ap (λ (z : List ℕ). value_from 0 z) (ap (λ (z : ℕ). z ∷ s) hb ∙ ap (λ (z : List ℕ). 48 ∷ z) hs)) ∙ n.value in
    number_zero k b s hb ∙ ap (λ (z : List ℕ). ok 0 z) hs ∙ ap (λ (z : ℕ). ok z []) (let e : 0 ≡ v = omega arith in e)
numeral_number₁ false k v b s e i d n =
    let f : suc (length s) ≤ k + 1 = n.few_digits in
    let z : b - 48 ≡ 0 * 10 + (b - 48) = omega arith in
    number_go k b s i e ∙ digits_more k (b - 48) s d (omega arith) ∙ ap (λ (x : ℕ). ok (value_from x s) []) z ∙ ap (λ (x : ℕ). ok x []) n.value

numeral_number : (k v : ℕ) (s : List ℕ) → Digits s → Numeral k v s → numeral_parse k s ≡ ok v []
numeral_number k v [] d n = let l : 1 ≤ 0 = n.some_digit in absurd (omega arith)
numeral_number k v (b ∷ s) (one_more l u d) n = numeral_number₁ (eqb b 48) k v b s refl (digit_in_range b l u) d n

pub numeral_decimal : (k v : ℕ) (s : List ℕ) → Numeral k v s → (v < limit k) × (s ≡ decimal k v)
numeral_decimal k v s n =
    let t : Took k [] (numeral_parse k) s v [] = number_law k s v [] (numeral_number k v s n.digits n) in
    (t.small, t.splits ∙ append-nil t.before ∙ t.printed)

pub numeral_claim : NumeralClaim
numeral_claim = record { printed = decimal_numeral; only = numeral_decimal }
