-- The combinators keep the laws of formats.
use Prim.Native.Nat.{ℕ}
use mathlib.Core.{Path.{◌≡◌, refl, sym, ap, ◌∙◌, subst}, List.{List, [], ◌∷◌, ◌++◌, append_assoc}, Bool.{Bool, true, false, cond}}
use mathlib.Core.Option.{Option, some, none}
use native.Mathlib.Omega.{arith}
use lib.Dec.{eqb}
use borrow.Author.Tests.{eqb-true, eq-eqb, ne_eqb}
use Rattle.text_format.specs.Format.{Parsed, ok, bad, bind, Format, Stuck, Laws}
use Rattle.text_format.specs.Combinators.{sequence, mapped, find_in, letter_of, letter_parse, letter, Alphabet, choice, empty, the, the_byte, word, keyed}

-- An answer is not both.
pub not_both : {A : Type 0} {C : Type 0} {a : A} {r q : List ℕ} {x : Parsed A} → x ≡ ok a r → x ≡ bad q → C
not_both e f = let z : ◌≡◌ {A = ℕ} 0 1 = cc in absurd (omega arith)

-- ---- one value after another

module _ {A B : Type 0} (F : Format A) (G : A → Format B) (LF : Laws F) (LG : (a : A) → Laws (G a)) where
  abbrev FG : Format (A × B)
  FG = sequence F G

  sequence_sound₂ : (s : List ℕ) (a : A) (r : List ℕ) → F.parse s ≡ ok a r → (x : Parsed B) → (G a).parse r ≡ x → (p : A × B) (r' : List ℕ)
      → ◌≡◌ {A = Parsed (A × B)} (bind x (λ b q. ok (a, b) q)) (ok p r') → FG.Fits p × (s ≡ FG.print p ++ r')
  sequence_sound₂ s a r e (ok b q) f p r' h =
      let hp : (a, b) ≡ p = cc in
      let hr : q ≡ r' = cc in
      let f1 = LF.sound s a r e in
      let g1 = (LG a).sound r b q f in
      subst (λ (z : A × B). FG.Fits z × (s ≡ FG.print z ++ r')) hp (
        (f1.0, g1.0),
        f1.1 ∙ ap (λ (z : List ℕ). F.print a ++ z) (g1.1 ∙ ap (λ (z : List ℕ). (G a).print b ++ z) hr) ∙ sym
            (append_assoc (F.print a) ((G a).print b) r'),
      )
  sequence_sound₂ s a r e (bad q) f p r' h = not_both h refl

  sequence_sound₁ : (s : List ℕ) (x : Parsed A) → F.parse s ≡ x → (p : A × B) (r : List ℕ)
      → ◌≡◌ {A = Parsed (A × B)} (bind x (λ a q. bind ((G a).parse q) (λ b q'. ok (a, b) q'))) (ok p r) → FG.Fits p × (s ≡ FG.print p ++ r)
  sequence_sound₁ s (ok a q) e p r h = sequence_sound₂ s a q e ((G a).parse q) refl p r h
  sequence_sound₁ s (bad q) e p r h = not_both h refl

  sequence_full : (p : A × B) → FG.Fits p → (w : List ℕ) → FG.parse (FG.print p ++ w) ≡ ok p w
  sequence_full p h w =
      rw (append_assoc (F.print p.0) ((G p.0).print p.1) w, LF.full p.0 h.0 ((G p.0).print p.1 ++ w))
      (rw ((LG p.0).full p.1 h.1 w) refl)

  sequence_local₁ : (s : List ℕ) (r : List ℕ) → F.parse s ≡ bad r → FG.parse s ≡ bad r
  sequence_local₁ s r e = rw e

  sequence_local₂ : (a : A) → F.Fits a → (s r : List ℕ) → (G a).parse s ≡ bad r → FG.parse (F.print a ++ s) ≡ bad r
  sequence_local₂ a h s r e = rw (LF.full a h s) (rw e)

  sequence_stuck₂ : (s : List ℕ) (a : A) (q : List ℕ) → F.parse s ≡ ok a q → (x : Parsed B) → (G a).parse q ≡ x → (r : List ℕ)
      → ◌≡◌ {A = Parsed (A × B)} (bind x (λ b q. ok (a, b) q)) (bad r) → Stuck FG s r
  sequence_stuck₂ s a q e (ok b q') f r h = not_both refl h
  sequence_stuck₂ s a q e (bad q') f r h =
      let hr : q' ≡ r = cc in
      let f1 = LF.sound s a q e in
      let k : Stuck (G a) q r = (LG a).stuck q r (f ∙ ap (λ (z : List ℕ). bad z) hr) in
      record {
        before = F.print a ++ k.before;
        splits = f1.1 ∙ ap (λ (z : List ℕ). F.print a ++ z) k.splits ∙ sym (append_assoc (F.print a) k.before r);
        value = (a, k.value);
        fits = (f1.0, k.fits);
        ending = k.ending;
        viable = append_assoc (F.print a) k.before k.ending ∙ ap (λ (z : List ℕ). F.print a ++ z) k.viable;
        local = λ b r' e' u. rw (append_assoc (F.print a) k.before (b ∷ u)) (sequence_local₂ a f1.0 (k.before ++ (b ∷ u)) (b ∷ u) (k.local b r' e' u));
      }

  sequence_stuck₁ : (s : List ℕ) (x : Parsed A) → F.parse s ≡ x → (r : List ℕ)
      → ◌≡◌ {A = Parsed (A × B)} (bind x (λ a q. bind ((G a).parse q) (λ b q'. ok (a, b) q'))) (bad r) → Stuck FG s r
  sequence_stuck₁ s (ok a q) e r h = sequence_stuck₂ s a q e ((G a).parse q) refl r h
  sequence_stuck₁ s (bad q) e r h =
      let hr : q ≡ r = cc in
      let k : Stuck F s r = LF.stuck s r (e ∙ ap (λ (z : List ℕ). bad z) hr) in
      let g = G k.value in
      record {
        before = k.before;
        splits = k.splits;
        value = (k.value, g.sample);
        fits = (k.fits, (LG k.value).sample_fits);
        ending = k.ending ++ g.print g.sample;
        viable = sym (append_assoc k.before k.ending (g.print g.sample)) ∙ ap (λ (z : List ℕ). z ++ g.print g.sample) k.viable;
        local = λ b r' e' u. sequence_local₁ (k.before ++ (b ∷ u)) (b ∷ u) (k.local b r' e' u);
      }

  pub sequence_laws : Laws FG
  sequence_laws =
      record {
        sample_fits = (LF.sample_fits, (LG F.sample).sample_fits);
        sound = λ s p r h. sequence_sound₁ s (F.parse s) refl p r h;
        full = sequence_full;
        stuck = λ s r h. sequence_stuck₁ s (F.parse s) refl r h;
      }

-- ---- the same texts at another type; g is f's way back on what fits

module _ {A B : Type 0} (F : Format A) (f : A → B) (g : B → A) (LF : Laws F) (back : (a : A) → F.Fits a → g (f a) ≡ a) where
  abbrev M : Format B
  M = mapped F f g

  mapped_fits : (a : A) → F.Fits a → M.Fits (f a)
  mapped_fits a h = (subst F.Fits (sym (back a h)) h, ap f (back a h))

  mapped_sound₁ : (s : List ℕ) (x : Parsed A) → F.parse s ≡ x → (b : B) (r : List ℕ)
      → ◌≡◌ {A = Parsed B} (bind x (λ a q. ok (f a) q)) (ok b r) → M.Fits b × (s ≡ M.print b ++ r)
  mapped_sound₁ s (ok a q) e b r h =
      let hb : f a ≡ b = cc in
      let hr : q ≡ r = cc in
      let f1 = LF.sound s a q e in
      subst (λ (z : B). M.Fits z × (s ≡ M.print z ++ r)) hb
      (mapped_fits a f1.0, f1.1 ∙ ap (λ (z : List ℕ). F.print a ++ z) hr ∙ ap (λ (z : A). F.print z ++ r) (sym (back a f1.0)))
  mapped_sound₁ s (bad q) e b r h = not_both h refl

  mapped_full : (b : B) → M.Fits b → (w : List ℕ) → M.parse (M.print b ++ w) ≡ ok b w
  mapped_full b h w = rw (LF.full (g b) h.0 w) (ap (λ (z : B). ok z w) h.1)

  mapped_stuck₁ : (s : List ℕ) (x : Parsed A) → F.parse s ≡ x → (r : List ℕ) → ◌≡◌ {A = Parsed B} (bind x (λ a q. ok (f a) q)) (bad r) → Stuck M s r
  mapped_stuck₁ s (ok a q) e r h = not_both refl h
  mapped_stuck₁ s (bad q) e r h =
      let hr : q ≡ r = cc in
      let k : Stuck F s r = LF.stuck s r (e ∙ ap (λ (z : List ℕ). bad z) hr) in
      record {
        before = k.before;
        splits = k.splits;
        value = f k.value;
        fits = mapped_fits k.value k.fits;
        ending = k.ending;
        viable = k.viable ∙ ap F.print (sym (back k.value k.fits));
        local = λ b r' e' u. rw (k.local b r' e' u);
      }

  pub mapped_laws : Laws M
  mapped_laws =
      record {
        sample_fits = mapped_fits F.sample LF.sample_fits;
        sound = λ s b r h. mapped_sound₁ s (F.parse s) refl b r h;
        full = mapped_full;
        stuck = λ s r h. mapped_stuck₁ s (F.parse s) refl r h;
      }

-- ---- one byte out of an alphabet

module _ {K : Type 0} (byte : K → ℕ) where
  found_in : (t : Bool) (b : ℕ) (k' : K) (rest : Option K) → eqb b (byte k') ≡ t → (k : K) → ((rest ≡ some k) → b ≡ byte k)
      → cond t (some k') rest ≡ some k → b ≡ byte k
  found_in true b k' rest e k ih h = let hk : k' ≡ k = cc in eqb-true b (byte k') e ∙ ap byte hk
  found_in false b k' rest e k ih h = ih h

  pub found : (ks : List K) (b : ℕ) (k : K) → find_in byte ks b ≡ some k → b ≡ byte k
  found [] b k h = let z : ◌≡◌ {A = ℕ} 0 1 = cc in absurd (omega arith)
  found (k' ∷ ks) b k h = found_in (eqb b (byte k')) b k' (find_in byte ks b) refl k (found ks b k) h

  module _ (k₀ : K) (ks : List K) (all : Alphabet byte k₀ ks) where
    abbrev L : Format K
    L = letter byte k₀ ks

    letter_sound₁ : (b : ℕ) (s : List ℕ) (x : Option K) → find_in byte (k₀ ∷ ks) b ≡ x → (k : K) (r : List ℕ) → letter_of x b s ≡ ok k r
        → L.Fits k × (b ∷ s ≡ L.print k ++ r)
    letter_sound₁ b s (some k') e k r h =
        let hk : k' ≡ k = cc in
        let hr : s ≡ r = cc in
        let hb : b ≡ byte k = found (k₀ ∷ ks) b k' e ∙ ap byte hk in
        (tt, cc)
    letter_sound₁ b s none e k r h = not_both h refl

    pub letter_sound : (s : List ℕ) (k : K) (r : List ℕ) → letter_parse byte (k₀ ∷ ks) s ≡ ok k r → L.Fits k × (s ≡ L.print k ++ r)
    letter_sound [] k r h = not_both h refl
    letter_sound (b ∷ s) k r h = letter_sound₁ b s (find_in byte (k₀ ∷ ks) b) refl k r h

    pub letter_full : (k : K) → L.Fits k → (w : List ℕ) → letter_parse byte (k₀ ∷ ks) (L.print k ++ w) ≡ ok k w
    letter_full k h w = ap (λ (o : Option K). letter_of o (byte k) w) (all k)

    letter_stuck₁ : (b : ℕ) (s : List ℕ) (x : Option K) → find_in byte (k₀ ∷ ks) b ≡ x → (r : List ℕ) → letter_of x b s ≡ bad r → Stuck L (b ∷ s) r
    letter_stuck₁ b s (some k') e r h = not_both refl h
    letter_stuck₁ b s none e r h =
        record {
          before = [];
          splits = cc;
          value = k₀;
          fits = tt;
          ending = byte k₀ ∷ [];
          viable = refl;
          local = λ b' r' e' u.
              let hb : b ≡ b' = cc in
              ap (λ (o : Option K). letter_of o b' u) (ap (λ (z : ℕ). find_in byte (k₀ ∷ ks) z) (sym hb) ∙ e);
        }

    letter_stuck : (s r : List ℕ) → letter_parse byte (k₀ ∷ ks) s ≡ bad r → Stuck L s r
    letter_stuck [] r h =
        record {
          before = [];
          splits = cc;
          value = k₀;
          fits = tt;
          ending = byte k₀ ∷ [];
          viable = refl;
          local = λ b' r' e' u. let z : ◌≡◌ {A = ℕ} 0 1 = cc in absurd (omega arith);
        }
    letter_stuck (b ∷ s) r h = letter_stuck₁ b s (find_in byte (k₀ ∷ ks) b) refl r h

    pub letter_laws : Laws L
    letter_laws = record { sample_fits = tt; sound = letter_sound; full = letter_full; stuck = letter_stuck }

-- ---- a choice by the first byte

module _ {K B : Type 0} (byte : K → ℕ) (k₀ : K) (ks : List K) (body : K → Format B) (kind : B → K)
    (all : Alphabet byte k₀ ks) (LB : (k : K) → Laws (body k)) (of_kind : (k : K) (b : B) → (body k).Fits b → kind b ≡ k) where
  pub choice_laws : Laws (choice byte k₀ ks body kind)
  choice_laws =
      mapped_laws (sequence (letter byte k₀ ks) body) (λ p. p.1) (λ q. (kind q, q)) (sequence_laws (letter byte k₀ ks) body (letter_laws byte k₀ ks all) LB)
      (λ a h. ap (λ (k : K). (k, a.1)) (of_kind a.0 a.1 h.1))

collapse : {A B : Type 0} (k : A) (x : Parsed B) → ◌≡◌ {A = Parsed B} (bind {A = A × B} {B = B} (bind {A = B} {B = A × B} x (λ b r. ok (k, b) r))
    (λ p r. ok p.1 r)) x
collapse k (ok b r) = refl
collapse k (bad r) = refl

-- How a choice is read: by its letter, or not at all.
module _ {K B : Type 0} (byte : K → ℕ) (k₀ : K) (ks : List K) (body : K → Format B) (kind : B → K) where
  pub choice_at : (b : ℕ) (k : K) (s : List ℕ) → find_in byte (k₀ ∷ ks) b ≡ some k → (choice byte k₀ ks body kind).parse (b ∷ s) ≡ (body k).parse s
  choice_at b k s h = rw h (collapse k ((body k).parse s))

  pub choice_none : (b : ℕ) (s : List ℕ) → find_in byte (k₀ ∷ ks) b ≡ none → (choice byte k₀ ks body kind).parse (b ∷ s) ≡ bad (b ∷ s)
  choice_none b s h = rw h

-- ---- a fixed word

empty_sound : (s : List ℕ) (a : Unit {0}) (r : List ℕ) → ◌≡◌ {A = Parsed (Unit {0})} (ok tt s) (ok a r) → Unit {0} × (s ≡ r)
empty_sound s a r h = (tt, cc)

pub empty_laws : Laws empty
empty_laws = record { sample_fits = tt; sound = empty_sound; full = λ a h w. refl; stuck = λ s r h. not_both refl h }

self_test : (b : ℕ) → Alphabet (the b) tt []
self_test b k = rw (eq-eqb b b refl)

pub the_byte_laws : (b : ℕ) → Laws (the_byte b)
the_byte_laws b = letter_laws (the b) tt [] (self_test b)

pub word_laws : (w : List ℕ) → Laws (word w)
word_laws [] = empty_laws
word_laws (b ∷ w) =
    mapped_laws (sequence (the_byte b) (λ _. word w)) (λ _. tt) (λ _. (tt, tt))
    (sequence_laws (the_byte b) (λ _. word w) (the_byte_laws b) (λ _. word_laws w)) (λ a h. refl)

word_collapse : (x : Parsed (Unit {0})) → ◌≡◌ {A = Parsed (Unit {0})} (bind {A = Unit {0} × Unit {0}} {B = Unit {0}}
    (bind {A = Unit {0}} {B = Unit {0} × Unit {0}} x (λ b r. ok (tt, b) r)) (λ p r. ok tt r)) x
word_collapse (ok b r) = refl
word_collapse (bad r) = refl

-- How a word is read, byte by byte.
pub word_hit : (b : ℕ) (w s : List ℕ) → (word (b ∷ w)).parse (b ∷ s) ≡ (word w).parse s
word_hit b w s = rw (eq-eqb b b refl) (word_collapse ((word w).parse s))

pub word_miss : (b c : ℕ) (w s : List ℕ) → (c ≡ b → ⊥) → (word (b ∷ w)).parse (c ∷ s) ≡ bad (c ∷ s)
word_miss b c w s h = rw (ne_eqb c b h)

-- ---- a key in front of a value

module _ {A : Type 0} (key : List ℕ) (F : Format A) where
  pub keyed_laws : Laws F → Laws (keyed key F)
  keyed_laws LF = mapped_laws (sequence (word key) (λ _. F)) (λ p. p.1) (λ a. (tt, a)) (sequence_laws (word key) (λ _. F) (word_laws key) (λ _. LF))
      (λ a h. refl)

  pub keyed_fits : (a : A) → F.Fits a → (keyed key F).Fits a
  keyed_fits a h = (((word_laws key).sample_fits, h), refl)

  pub keyed_of_fits : (a : A) → (keyed key F).Fits a → F.Fits a
  keyed_of_fits a h = h.0.1

pub word_print : (w : List ℕ) → (word w).print tt ≡ w
word_print [] = refl
word_print (b ∷ w) = ap (λ (z : List ℕ). b ∷ z) (word_print w)
