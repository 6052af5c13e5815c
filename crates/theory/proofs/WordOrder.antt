-- `Before` orders event sequences: irreflexive, transitive and total. Over the events of a count it is the order of numbers
-- that the sequences, their last event first, are the digits of.
use mathlib.Core.{Path.{◌≡◌, refl, sym, ◌∙◌, ap, ap₂, subst⁻¹}, Logic.{◌↔◌, ◌⊎◌, inl, inr}}
use mathlib.Core.List.{List, [], ◌∷◌, ◌++◌, append_assoc, reverse, reverse-cons, reverse-append}
use Prim.Native.Nat.{ℕ, zero, suc, ◌+◌, ◌*◌, ◌≤◌, ◌<◌, zero-le, suc-le-suc}
use native.Mathlib.{Nat.{suc_inj, not-suc-le-zero, eq-or-lt_of_le}, Omega.{arith}}
use lib.ListN.{length, length-reverse}
use Rattle.theory.specs.MealyMachine.{Word, Before, shorter, smaller, NoLater}
use Rattle.theory.proofs.Numbers.{Trichotomy, less, equal, greater, trichotomy, digits_less}

-- Words of the events of a count.
pub word_append : (events : ℕ) (v w : List ℕ) → Word events v → Word events w → Word events (v ++ w)
word_append events [] w h k = k
word_append events (e ∷ v) w h k = (h.0, word_append events v w h.1 k)

pub word_left : (events : ℕ) (v w : List ℕ) → Word events (v ++ w) → Word events v
word_left events [] w h = tt
word_left events (e ∷ v) w h = (h.0, word_left events v w h.1)

pub word_right : (events : ℕ) (v w : List ℕ) → Word events (v ++ w) → Word events w
word_right events [] w h = h
word_right events (e ∷ v) w h = word_right events v w h.1

pub word_reverse : (events : ℕ) (w : List ℕ) → Word events w → Word events (reverse w)
word_reverse events [] h = tt
word_reverse events (e ∷ w) h =
    rw reverse-cons (word_append events (reverse w) (e ∷ []) (word_reverse events w h.1) (h.0, tt))

word_more : (n m : ℕ) (w : List ℕ) → n ≤ m → Word n w → Word m w
word_more n m [] l h = tt
word_more n m (e ∷ w) l h = (omega (arith, h.0), word_more n m w l h.1)

-- Every list is a word of some event count.
event_bound : List ℕ → ℕ
event_bound [] = zero
event_bound (e ∷ w) = suc e + event_bound w

word_bound : (w : List ℕ) → Word (event_bound w) w
unfolding event_bound
word_bound [] = tt
word_bound (e ∷ w) = (omega arith, word_more (event_bound w) (suc e + event_bound w) w (omega arith) (word_bound w))

-- The number of a word, its last event first: numerals of base `events`, with the shorter before the longer.
abbrev pub code : ℕ → List ℕ → ℕ
code events [] = zero
code events (e ∷ w) = suc (code events w * events + e)

pub code_shorter :
    (events : ℕ) (v w : List ℕ) → Word events v → length v < length w → code events v < code events w
code_shorter events [] [] h u = absurd (not-suc-le-zero u)
code_shorter events [] (b ∷ w) h u = suc-le-suc zero-le
code_shorter events (a ∷ v) [] h u = absurd (not-suc-le-zero u)
code_shorter events (a ∷ v) (b ∷ w) h u =
    suc-le-suc (digits_less events (code events v) (code events w) a b (code_shorter events v w h.1 (omega arith)) h.0)

-- The words begin with u, first differ at a and b, and end with v and w of one length.
pub code_smaller :
    (events : ℕ) (v w u : List ℕ) (a b : ℕ) → Word events v → length v ≡ length w → a < b →
    code events (v ++ (a ∷ u)) < code events (w ++ (b ∷ u))
code_smaller events [] [] u a b h e l = omega arith
code_smaller events [] (y ∷ w) u a b h e l = absurd (omega arith)
code_smaller events (x ∷ v) [] u a b h e l = absurd (omega arith)
code_smaller events (x ∷ v) (y ∷ w) u a b h e l =
    suc-le-suc (digits_less events (code events (v ++ (a ∷ u))) (code events (w ++ (b ∷ u))) x y
    (code_smaller events v w u a b h.1 (suc_inj e) l) h.0)

-- The number of a word in order of play.
abbrev pub number : ℕ → List ℕ → ℕ
number events w = code events (reverse w)

reverse_middle : (u v : List ℕ) (a : ℕ) → reverse (u ++ (a ∷ v)) ≡ reverse v ++ (a ∷ reverse u)
reverse_middle u v a =
    reverse-append u (a ∷ v) ∙ ap (λ x. x ++ reverse u) (reverse-cons a v) ∙ append_assoc (reverse v) (a ∷ []) (reverse u)

pub before_number : (events : ℕ) {v w : List ℕ} → Word events v → Before v w → number events v < number events w
before_number events h (shorter v w l) =
    code_shorter events (reverse v) (reverse w) (word_reverse events v h) (omega (arith, length-reverse v, length-reverse w))
before_number events h (smaller u v w {a = a} {b = b} e l) =
    rw (reverse_middle u v a, reverse_middle u w b)
    (code_smaller events (reverse v) (reverse w) (reverse u) a b
    (word_reverse events v (word_right events (u ++ (a ∷ [])) v (subst⁻¹ (Word events) (append_assoc u (a ∷ []) v) h)))
    (length-reverse v ∙ e ∙ sym (length-reverse w)) l)

before_cons : (a : ℕ) {v w : List ℕ} → Before v w → Before (a ∷ v) (a ∷ w)
before_cons a (shorter v w l) = shorter (a ∷ v) (a ∷ w) (suc-le-suc l)
before_cons a (smaller u v w e l) = smaller (a ∷ u) v w e l

-- How two words compare.
pub data Placement (v w : List ℕ) : Type 0 where
  first : Before v w → Placement v w
  same : v ≡ w → Placement v w
  second : Before w v → Placement v w

same_length : (v w : List ℕ) → length v ≡ length w → Placement v w
same_length [] [] e = same refl
same_length [] (b ∷ w) e = absurd (omega arith)
same_length (a ∷ v) [] e = absurd (omega arith)
same_length (a ∷ v) (b ∷ w) e = go (trichotomy a b) (same_length v w (suc_inj e))
  where
    go : Trichotomy a b → Placement v w → Placement (a ∷ v) (b ∷ w)
    go (less l) p = first (smaller [] v w (suc_inj e) l)
    go (greater l) p = second (smaller [] w v (sym (suc_inj e)) l)
    go (equal q) (first h) = first (rw q (before_cons b h))
    go (equal q) (same h) = same (ap₂ ◌∷◌ q h)
    go (equal q) (second h) = second (rw q (before_cons b h))

pub placement : (v w : List ℕ) → Placement v w
placement v w = go (trichotomy (length v) (length w))
  where
    go : Trichotomy (length v) (length w) → Placement v w
    go (less l) = first (shorter v w l)
    go (equal e) = same_length v w e
    go (greater l) = second (shorter w v l)

pub number_before :
    (events : ℕ) (v w : List ℕ) → Word events v → Word events w → number events v < number events w → Before v w
number_before events v w hv hw l = go (placement v w)
  where
    go : Placement v w → Before v w
    go (first b) = b
    go (same e) = absurd (omega (arith, ap (number events) e))
    go (second b) = absurd (omega (arith, before_number events hw b))

pub number_injective :
    (events : ℕ) (v w : List ℕ) → Word events v → Word events w → number events v ≡ number events w → v ≡ w
number_injective events v w hv hw e = go (placement v w)
  where
    go : Placement v w → v ≡ w
    go (first b) = absurd (omega (arith, before_number events hv b))
    go (same q) = q
    go (second b) = absurd (omega (arith, before_number events hw b))

-- The order of words is the order of their numbers.
pub no_later_iff_number :
    (events : ℕ) (v w : List ℕ) → Word events v → Word events w →
    NoLater v w ↔ (number events v ≤ number events w)
no_later_iff_number events v w hv hw = (to, λ l. from (eq-or-lt_of_le l))
  where
    to : NoLater v w → number events v ≤ number events w
    to (inl e) = omega (arith, ap (number events) e)
    to (inr b) = omega (arith, before_number events hv b)

    from : (number events v ≡ number events w) ⊎ (number events v < number events w) → NoLater v w
    from (inl e) = inl (number_injective events v w hv hw e)
    from (inr l) = inr (number_before events v w hv hw l)

pub not_before_empty : (w : List ℕ) → Before w [] → ⊥
not_before_empty w b = omega (arith, before_number (event_bound w) (word_bound w) b)

pub before_irreflexive : (w : List ℕ) → Before w w → ⊥
before_irreflexive w b = omega (arith, before_number (event_bound w) (word_bound w) b)

pub before_transitive : (u v w : List ℕ) → Before u v → Before v w → Before u w
before_transitive u v w b c =
    go (event_bound u + event_bound v + event_bound w) (omega arith) (omega arith) (omega arith)
  where
    go : (events : ℕ) → event_bound u ≤ events → event_bound v ≤ events → event_bound w ≤ events → Before u w
    go events hu hv hw =
        let in_u : Word events u = word_more (event_bound u) events u hu (word_bound u) in
        let in_v : Word events v = word_more (event_bound v) events v hv (word_bound v) in
        let in_w : Word events w = word_more (event_bound w) events w hw (word_bound w) in
        number_before events u w in_u in_w (omega (arith, before_number events in_u b, before_number events in_v c))

pub before_asymmetric : (v w : List ℕ) → Before v w → Before w v → ⊥
before_asymmetric v w b c = before_irreflexive v (before_transitive v w v b c)

pub no_later_antisymmetric : (v w : List ℕ) → NoLater v w → NoLater w v → v ≡ w
no_later_antisymmetric v w (inl e) k = e
no_later_antisymmetric v w (inr b) (inl e) = sym e
no_later_antisymmetric v w (inr b) (inr c) = absurd (before_asymmetric v w b c)
