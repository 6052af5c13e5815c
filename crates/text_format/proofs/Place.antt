-- The answer of a format's parser is the place that document 01 defines, or the contents; and there is no other answer.
use Prim.Native.Nat.{ℕ, suc, ◌+◌, ◌-◌, ◌≤◌, ◌<◌}
use mathlib.Core.{Path.{◌≡◌, refl, sym, ap, ◌∙◌, subst}, List.{List, [], ◌∷◌, ◌++◌, append_assoc, append-nil}}
use native.Mathlib.Omega.{arith}
use lib.{ListN.{length, take, drop, length-append, take-append-drop}, Seq.{take_at, take-append-le}}
use Rattle.text_format.specs.Format.{Parsed, ok, bad, bind, Format, Stuck, Laws, Outcome, contents, refused, at_end, whole, outcome, read}
use Rattle.text_format.specs.Texts.{Begins, Refused, at, early, FormOf}
use Rattle.text_format.specs.Claims.{AnswersText, FormatRenders, AnswerClaim, OneAnswerClaim, PlaceClaim, FormatReadBackClaim}
use Rattle.text_format.proofs.Combinators.{not_both}

-- ---- any form

module _ (Form : List ℕ → Type 0) where
  begins_front : (s v : List ℕ) → Begins Form (s ++ v) → Begins Form s
  begins_front s v g = (v ++ g.0, subst Form (append_assoc s v g.0) g.1)

  begins_take : (m : ℕ) (s : List ℕ) → Begins Form s → Begins Form (take m s)
  begins_take m s g = begins_front (take m s) (drop m s) (subst (Begins Form) (sym (take-append-drop m s)) g)

  form_begins : (s : List ℕ) → Form s → Begins Form s
  form_begins s f = ([], subst Form (sym (append-nil s)) f)

  -- A text is refused at the seam of two parts, where the first begins a text of the form and no byte of the second can follow it.
  at_seam : (t p r : List ℕ) → t ≡ p ++ r → Begins Form p
      → ((b : ℕ) (r' u : List ℕ) → r ≡ b ∷ r' → Form ((p ++ (b ∷ [])) ++ u) → ⊥) → (Form t → ⊥) → Refused Form t (length t - length r)
  at_seam t p [] e g f n =
      let et : t ≡ p = e ∙ append-nil p in
      let l : length t ≡ length t - 0 = omega arith in
      subst (Refused Form t) l (early (λ q h. begins_take (q + 1) t (subst (Begins Form) (sym et) g)) n)
  at_seam t p (b ∷ r) e g f n =
      let k = length t - suc (length r) in
      let l : length t ≡ length p + suc (length r) = ap length e ∙ length-append p (b ∷ r) in
      let e2 : t ≡ (p ++ (b ∷ [])) ++ r = e ∙ sym (append_assoc p (b ∷ []) r) in
      let l2 : length (p ++ (b ∷ [])) ≡ k + 1 = length-append p (b ∷ []) ∙ (omega arith) in
      let et : take (k + 1) t ≡ p ++ (b ∷ []) = ap (take (k + 1)) e2 ∙ take_at (p ++ (b ∷ [])) r (k + 1) l2 in
      at k (omega arith)
      (λ q h.
      let m : q + 1 ≤ length p = omega arith in
      let eq : take (q + 1) t ≡ take (q + 1) p = ap (take (q + 1)) e ∙ take-append-le (q + 1) p (b ∷ r) m in
      subst (Begins Form) (sym eq) (begins_take (q + 1) p g))
      (λ q. f b r q.0 refl (subst (λ (z : List ℕ). Form (z ++ q.0)) et q.1))

  one_place : (t : List ℕ) (p q : ℕ) → Refused Form t p → Refused Form t q → p ≡ q
  one_place t p q (at p' h f n) (at q' h' f' n') =
      let a : ¬ (p < q) = λ l. n (f' p l) in
      let b : ¬ (q < p) = λ l. n' (f q l) in
      omega arith
  one_place t p q (at p' h f n) (early f' n') = absurd (n (f' p h))
  one_place t p q (early f n) (at q' h f' n') = absurd (n' (f q h))
  one_place t p q (early f n) (early f' n') = refl

  not_of_the_form : (t : List ℕ) (p : ℕ) → Refused Form t p → Form t → ⊥
  not_of_the_form t p (at p' h f n) w = n (begins_take (p + 1) t (form_begins t w))
  not_of_the_form t p (early f n) w = n w

pub place_claim : PlaceClaim
place_claim = record { one_place = one_place; not_of_the_form = not_of_the_form }

-- ---- a format's form

module _ {A : Type 0} (F : Format A) (LF : Laws F) where
  -- What is printed is read whole.
  pub parse_print : (a : A) → F.Fits a → F.parse (F.print a) ≡ ok a []
  parse_print a h = ap F.parse (sym (append-nil (F.print a))) ∙ LF.full a h []

  pub whole_print : (a : A) → F.Fits a → whole F (F.print a) ≡ ok a []
  whole_print a h = ap (λ (x : Parsed A). bind x (λ a r. at_end a r)) (parse_print a h)

  whole_sound₂ : (t : List ℕ) (a : A) (q : List ℕ) → F.parse t ≡ ok a q → (a' : A) (r : List ℕ) → at_end a q ≡ ok a' r → F.Fits a' × (t ≡ F.print a')
  whole_sound₂ t a [] e a' r h =
      let ha : a ≡ a' = cc in
      let s = LF.sound t a [] e in
      subst (λ (z : A). F.Fits z × (t ≡ F.print z)) ha (s.0, s.1 ∙ append-nil (F.print a))
  whole_sound₂ t a (b ∷ q) e a' r h = not_both h refl

  whole_sound₁ : (t : List ℕ) (x : Parsed A) → F.parse t ≡ x → (a : A) (r : List ℕ) → ◌≡◌ {A = Parsed A} (bind x (λ a r. at_end a r)) (ok a r) → F.Fits a
      × (t ≡ F.print a)
  whole_sound₁ t (ok a q) e a' r h = whole_sound₂ t a q e a' r h
  whole_sound₁ t (bad q) e a r h = not_both h refl

  -- What is read whole is the print of what is read.
  pub whole_sound : (t : List ℕ) (a : A) (r : List ℕ) → whole F t ≡ ok a r → F.Fits a × (t ≡ F.print a)
  whole_sound t a r h = whole_sound₁ t (F.parse t) refl a r h

read_back : FormatReadBackClaim
read_back A F LF a h = ap (outcome (F.print a)) (whole_print F LF a h)

pub read_back_claim : FormatReadBackClaim
read_back_claim = read_back

module _ {A : Type 0} (F : Format A) (Shows : A → List ℕ → Type 0) (LF : Laws F) (R : FormatRenders F Shows) where
  abbrev Form : List ℕ → Type 0
  Form = FormOf Shows

  reads_form : (t : List ℕ) (h : Form t) → F.parse t ≡ ok h.0 []
  reads_form t h =
      let g = R.to h.0 t h.1 in
      ap F.parse g.1 ∙ parse_print F LF h.0 g.0

  -- the parser stopped inside
  refused_inside : (t r : List ℕ) → F.parse t ≡ bad r → Refused Form t (length t - length r)
  refused_inside t r e =
      let k : Stuck F t r = LF.stuck t r e in
      at_seam Form t k.before r k.splits (k.ending, (k.value, subst (Shows k.value) (sym k.viable) (R.from k.value k.fits)))
      (λ b r' u e' h.
      let l : F.parse ((k.before ++ (b ∷ [])) ++ u) ≡ bad (b ∷ u) = ap F.parse (append_assoc k.before (b ∷ []) u) ∙ k.local b r' e' u in
      not_both (reads_form ((k.before ++ (b ∷ [])) ++ u) h) l)
      (λ h. not_both (reads_form t h) e)

  -- the parser read a value, and something follows
  refused_behind : (t : List ℕ) (a : A) (b : ℕ) (r : List ℕ) → F.parse t ≡ ok a (b ∷ r) → Refused Form t (length t - suc (length r))
  refused_behind t a b r e =
      let s = LF.sound t a (b ∷ r) e in
      at_seam Form t (F.print a) (b ∷ r) s.1 ([], (a, subst (Shows a) (sym (append-nil (F.print a))) (R.from a s.0)))
      (λ b' r' u e' h.
      let l : F.parse ((F.print a ++ (b' ∷ [])) ++ u) ≡ ok a (b' ∷ u) = ap F.parse (append_assoc (F.print a) (b' ∷ []) u) ∙ LF.full a s.0 (b' ∷ u) in
      let e2 = reads_form ((F.print a ++ (b' ∷ [])) ++ u) h in
      let z : ◌≡◌ {A = ℕ} 0 1 = cc in omega arith)
      (λ h. let e2 = reads_form t h in let z : ◌≡◌ {A = ℕ} 0 1 = cc in omega arith)

  answers₂ : (t : List ℕ) (a : A) (q : List ℕ) → F.parse t ≡ ok a q → AnswersText Shows t (outcome t (at_end a q))
  answers₂ t a [] e =
      let s = LF.sound t a [] e in
      subst (Shows a) (sym (s.1 ∙ append-nil (F.print a))) (R.from a s.0)
  answers₂ t a (b ∷ q) e = refused_behind t a b q e

  answers₁ : (t : List ℕ) (x : Parsed A) → F.parse t ≡ x → AnswersText Shows t (outcome t (bind x (λ a r. at_end a r)))
  answers₁ t (ok a q) e = answers₂ t a q e
  answers₁ t (bad q) e = refused_inside t q e

  pub answers : (t : List ℕ) → AnswersText Shows t (read F t)
  answers t = answers₁ t (F.parse t) refl

  pub one_contents : (t : List ℕ) (a b : A) → Shows a t → Shows b t → a ≡ b
  one_contents t a b ha hb =
      let ea : F.parse t ≡ ok a [] = reads_form t (a, ha) in
      let eb : F.parse t ≡ ok b [] = reads_form t (b, hb) in
      cc

  pub one_answer : (t : List ℕ) (x y : Outcome A) → AnswersText Shows t x → AnswersText Shows t y → x ≡ y
  one_answer t (contents a) (contents b) h g = ap (λ (z : A). contents z) (one_contents t a b h g)
  one_answer t (contents a) (refused q) h g = absurd (not_of_the_form Form t q g (a, h))
  one_answer t (refused p) (contents b) h g = absurd (not_of_the_form Form t p h (b, g))
  one_answer t (refused p) (refused q) h g = ap (λ (z : ℕ). refused z) (one_place Form t p q h g)

pub one_answer_claim : OneAnswerClaim
one_answer_claim A F Shows LF R t x y h g = one_answer F Shows LF R t x y h g

pub answer_claim : AnswerClaim
answer_claim A F Shows LF R t = answers F Shows LF R t
