-- The order of a meet-semilattice: at or below is reflexive, transitive and antisymmetric, and meet is the greatest lower bound.
use mathlib.Core.{Path.{◌≡◌, sym, ◌∙◌, ap}, Logic.{◌↔◌}}
use Rattle.theory.specs.ValueSets.{MeetSemilattice, AtOrBelow}

module _ {B : Type 0} (In : B → Type 0) (meet : B → B → B) (top : B) (L : MeetSemilattice In meet top) where
  pub below_top : (a : B) → In a → AtOrBelow meet a top
  below_top a ha = L.neutral a ha

  pub below_trans :
      (a b c : B) → In a → In b → In c → AtOrBelow meet a b → AtOrBelow meet b c → AtOrBelow meet a c
  below_trans a b c ha hb hc p q =
      ap (λ x. meet x c) (sym p) ∙ L.associative a b c ha hb hc ∙ ap (meet a) q ∙ p

  pub top_meet : (a : B) → In a → meet top a ≡ a
  top_meet a h = L.commutative top a L.top_in h ∙ L.neutral a h

  pub top_top : meet top top ≡ top
  top_top = L.idempotent top L.top_in

  pub meet_left : (a b : B) → In a → In b → AtOrBelow meet (meet a b) a
  meet_left a b ha hb =
      ap (λ x. meet x a) (L.commutative a b ha hb) ∙ L.associative b a a hb ha ha
      ∙ ap (meet b) (L.idempotent a ha) ∙ L.commutative b a hb ha

  pub meet_right : (a b : B) → In a → In b → AtOrBelow meet (meet a b) b
  meet_right a b ha hb = L.associative a b b ha hb hb ∙ ap (meet a) (L.idempotent b hb)

  pub below_meet :
      (x a b : B) → In x → In a → In b → AtOrBelow meet x a → AtOrBelow meet x b → AtOrBelow meet x (meet a b)
  below_meet x a b hx ha hb p q = sym (L.associative x a b hx ha hb) ∙ ap (λ y. meet y b) p ∙ q

  pub below_meet_iff :
      (x a b : B) → In x → In a → In b →
      AtOrBelow meet x (meet a b) ↔ (AtOrBelow meet x a × AtOrBelow meet x b)
  below_meet_iff x a b hx ha hb = (
    (λ p. (
      below_trans x (meet a b) a hx (L.meet_in a b ha hb) ha p (meet_left a b ha hb),
      below_trans x (meet a b) b hx (L.meet_in a b ha hb) hb p (meet_right a b ha hb),
    )),
    λ p. below_meet x a b hx ha hb p.0 p.1,
  )

  pub meet_swap :
      (a b c d : B) → In a → In b → In c → In d → meet (meet a b) (meet c d) ≡ meet (meet a c) (meet b d)
  meet_swap a b c d ha hb hc hd =
      L.associative a b (meet c d) ha hb (L.meet_in c d hc hd)
      ∙ ap (meet a)
      (sym (L.associative b c d hb hc hd) ∙ ap (λ x. meet x d) (L.commutative b c hb hc) ∙ L.associative c b d hc hb hd)
      ∙ sym (L.associative a c (meet b d) ha hc (L.meet_in b d hb hd))
