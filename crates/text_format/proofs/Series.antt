-- A series keeps the laws of formats if its items do, and each item has at least one byte.
use Prim.Native.Nat.{ℕ, zero, suc, ◌+◌, ◌<◌}
use mathlib.Core.{Path.{◌≡◌, refl, sym, ap, ◌∙◌, subst}, List.{List, [], ◌∷◌, ◌++◌, map, append_assoc, append-nil}, Bool.{false}}
use native.Mathlib.Omega.{arith}
use lib.ListN.{length, length-append}
use Rattle.text_format.specs.Format.{Parsed, ok, bad, bind, Format, Stuck, Laws}
use Rattle.text_format.specs.Texts.{ascii, decimal, separated, OneOrMore}
use Rattle.text_format.specs.Combinators.{Alphabet}
use Rattle.text_format.specs.Decimal.{is_digit}
use Rattle.text_format.specs.Series.{Separator, space, newline, separator_byte, separator, number_item, series_print, series_fits, series_go}
use Rattle.text_format.specs.Series.{series_within, series_parse, series}
use Rattle.text_format.proofs.{Combinators.{letter_laws, not_both}, Decimal.{numbered_laws}}

-- ---- separators

pub separator_all : Alphabet separator_byte newline (space ∷ [])
separator_all space = refl
separator_all newline = refl

pub separator_apart : (e : Separator) → is_digit (separator_byte e) ≡ false
separator_apart space = refl
separator_apart newline = refl

pub separator_laws : Laws separator
separator_laws = letter_laws separator_byte newline (space ∷ []) separator_all

pub number_item_laws : (k : ℕ) → Laws (number_item k)
number_item_laws k = numbered_laws k separator_byte newline (space ∷ []) separator_all separator_apart

pub number_item_solid : (k : ℕ) (p : ℕ × Separator) → 0 < length ((number_item k).print p)
number_item_solid k p = omega (arith, length-append (decimal k p.0) (separator_byte p.1 ∷ []))

-- ---- series

module _ {A : Type 0} (F : Format (A × Separator)) (one : A) (LF : Laws F) (solid : (p : A × Separator) → 0 < length (F.print p))
    (one_fits : F.Fits (one, newline)) where
  -- what is left behind a value is shorter
  pub shorter : (s : List ℕ) (p : A × Separator) (r : List ℕ) → F.parse s ≡ ok p r → length r < length s
  shorter s p r e =
      let g = LF.sound s p r e in
      let h : 0 < length (F.print p) = solid p in
      omega (arith, ap length g.1, length-append (F.print p) r)

  go_eq : (n m : ℕ) (a : A) (e : Separator) (r : List ℕ) → series_within F n r ≡ series_within F m r → series_go (series_within F n) a e r ≡ series_go
      (series_within F m) a e r
  go_eq n m a space r h = ap (λ (z : Parsed (List A)). bind z (λ xs q. ok (a ∷ xs) q)) h
  go_eq n m a newline r h = refl

  enough₁ : (n m : ℕ) (s : List ℕ) (x : Parsed (A × Separator)) → F.parse s ≡ x
      → ((r : List ℕ) → length r < length s → series_within F n r ≡ series_within F m r)
      → bind x (λ p r. series_go (series_within F n) p.0 p.1 r) ≡ bind x (λ p r. series_go (series_within F m) p.0 p.1 r)
  enough₁ n m s (ok p r) e ih = go_eq n m p.0 p.1 r (ih r (shorter s p r e))
  enough₁ n m s (bad r) e ih = refl

  enough : (n m : ℕ) (s : List ℕ) → length s < n → length s < m → series_within F n s ≡ series_within F m s
  enough zero m s h l = absurd (omega arith)
  enough (suc n) zero s h l = absurd (omega arith)
  enough (suc n) (suc m) s h l = enough₁ n m s (F.parse s) refl (λ r g. enough n m r (omega arith) (omega arith))

  pub series_bad : (s r : List ℕ) → F.parse s ≡ bad r → series_parse F s ≡ bad r
  series_bad s r e = rw e

  series_last : (a : A) → F.Fits (a, newline) → (w : List ℕ) → series_parse F (F.print (a, newline) ++ w) ≡ ok (a ∷ []) w
  series_last a h w = rw (LF.full (a, newline) h w)

  pub series_next : (a : A) → F.Fits (a, space) → (w : List ℕ) → series_parse F (F.print (a, space) ++ w) ≡ bind (series_parse F w) (λ xs q. ok (a ∷ xs) q)
  series_next a h w =
      let g : 0 < length (F.print (a, space)) = solid (a, space) in
      let l : length (F.print (a, space) ++ w) ≡ length (F.print (a, space)) + length w = length-append (F.print (a, space)) w in
      rw (LF.full (a, space) h w)
      (ap (λ (z : Parsed (List A)). bind z (λ xs q. ok (a ∷ xs) q)) (enough (length (F.print (a, space) ++ w)) (suc (length w)) w (omega arith) (omega arith)))

  -- the same, by what the parser of one value answered
  pub series_ends : (s : List ℕ) (a : A) (r : List ℕ) → F.parse s ≡ ok (a, newline) r → series_parse F s ≡ ok (a ∷ []) r
  series_ends s a r e = rw e

  pub series_goes : (s : List ℕ) (a : A) (r : List ℕ) → F.parse s ≡ ok (a, space) r → series_parse F s ≡ bind (series_parse F r) (λ xs q. ok (a ∷ xs) q)
  series_goes s a r e =
      let l : length r < length s = shorter s (a, space) r e in
      rw e (ap (λ (z : Parsed (List A)). bind z (λ xs q. ok (a ∷ xs) q)) (enough (length s) (suc (length r)) r (omega arith) (omega arith)))

  pub series_full : (xs : List A) → series_fits F xs → (w : List ℕ) → series_parse F (series_print F xs ++ w) ≡ ok xs w
  series_full [] h w = absurd h
  series_full (a ∷ []) h w = series_last a h w
  series_full (a ∷ a' ∷ xs) h w =
      ap (series_parse F) (append_assoc (F.print (a, space)) (series_print F (a' ∷ xs)) w)
      ∙ series_next a h.0 (series_print F (a' ∷ xs) ++ w)
      ∙ ap (λ (z : Parsed (List A)). bind z (λ xs q. ok (a ∷ xs) q)) (series_full (a' ∷ xs) h.1 w)

  -- ---- sound
  abbrev Sound : List ℕ → List A → List ℕ → Type 0
  Sound s xs r = series_fits F xs × (s ≡ series_print F xs ++ r)

  series_cons : (s : List ℕ) (a : A) (q : List ℕ) → F.Fits (a, space) × (s ≡ F.print (a, space) ++ q) → (xs : List A) (r : List ℕ) → Sound q xs r → Sound
      s (a ∷ xs) r
  series_cons s a q f [] r g = absurd g.0
  series_cons s a q f (a' ∷ xs) r g =
      ((f.0, g.0), f.1 ∙ ap (λ (z : List ℕ). F.print (a, space) ++ z) g.1 ∙ sym (append_assoc (F.print (a, space)) (series_print F (a' ∷ xs)) r))

  series_sound₂ : (s : List ℕ) (a : A) (q : List ℕ) → F.Fits (a, space) × (s ≡ F.print (a, space) ++ q) → (y : Parsed (List A)) → (xs : List A) (r : List ℕ)
      → ((bs : List A) (r' : List ℕ) → y ≡ ok bs r' → Sound q bs r') → ◌≡◌ {A = Parsed (List A)} (bind y (λ xs q. ok (a ∷ xs) q)) (ok xs r) → Sound s xs r
  series_sound₂ s a q f (ok bs r') xs r ih h =
      let ha : ◌≡◌ {A = List A} (a ∷ bs) xs = cc in
      let hr : r' ≡ r = cc in
      subst (λ (z : List A). Sound s z r) ha (subst (λ (z : List ℕ). Sound s (a ∷ bs) z) hr (series_cons s a q f bs r' (ih bs r' refl)))
  series_sound₂ s a q f (bad r') xs r ih h = not_both h refl

  series_sound₃ : (n : ℕ) (s : List ℕ) (a : A) (e : Separator) (q : List ℕ) → F.Fits (a, e) × (s ≡ F.print (a, e) ++ q)
      → ((q : List ℕ) (bs : List A) (r : List ℕ) → series_within F n q ≡ ok bs r → Sound q bs r)
      → (xs : List A) (r : List ℕ) → series_go (series_within F n) a e q ≡ ok xs r → Sound s xs r
  series_sound₃ n s a space q f ih xs r h = series_sound₂ s a q f (series_within F n q) xs r (ih q) h
  series_sound₃ n s a newline q f ih xs r h =
      let ha : ◌≡◌ {A = List A} (a ∷ []) xs = cc in
      let hr : q ≡ r = cc in
      subst (λ (z : List A). Sound s z r) ha (subst (λ (z : List ℕ). Sound s (a ∷ []) z) hr f)

  series_sound₁ : (n : ℕ) (s : List ℕ) (x : Parsed (A × Separator)) → F.parse s ≡ x
      → ((q : List ℕ) (bs : List A) (r : List ℕ) → series_within F n q ≡ ok bs r → Sound q bs r)
      → (xs : List A) (r : List ℕ) → bind x (λ p r. series_go (series_within F n) p.0 p.1 r) ≡ ok xs r → Sound s xs r
  series_sound₁ n s (ok p q) e ih xs r h = series_sound₃ n s p.0 p.1 q (LF.sound s p q e) ih xs r h
  series_sound₁ n s (bad q) e ih xs r h = not_both h refl

  series_sound : (n : ℕ) (s : List ℕ) (xs : List A) (r : List ℕ) → series_within F n s ≡ ok xs r → Sound s xs r
  series_sound zero s xs r h = not_both h refl
  series_sound (suc n) s xs r h = series_sound₁ n s (F.parse s) refl (series_sound n) xs r h

  -- ---- stuck
  abbrev Stops : List ℕ → List ℕ → Type 0
  Stops s r = Stuck (series F one) s r

  -- a value can be the last one, or another can follow it
  ended : (e : Separator) (a : A) → F.Fits (a, e) → (p u : List ℕ) → p ++ u ≡ F.print (a, e)
      → (xs : List A) × series_fits F xs × ((w : List ℕ) × (p ++ w ≡ series_print F xs))
  ended space a h p u g = (
    a ∷ one ∷ [],
    (h, one_fits),
    (
      u ++ F.print (one, newline),
      sym (append_assoc p u (F.print (one, newline))) ∙ ap
          (λ (z : List ℕ). z ++ F.print (one, newline)) g,
    ),
  )
  ended newline a h p u g = (a ∷ [], h, (u, g))

  series_stop : (s r : List ℕ) → F.parse s ≡ bad r → Stops s r
  series_stop s r e =
      let k : Stuck F s r = LF.stuck s r e in
      let g = ended k.value.1 k.value.0 k.fits k.before k.ending k.viable in
      record {
        before = k.before;
        splits = k.splits;
        value = g.0;
        fits = g.1;
        ending = g.2.0;
        viable = g.2.1;
        local = λ b r' e' u. series_bad (k.before ++ (b ∷ u)) (b ∷ u) (k.local b r' e' u);
      }

  series_on : (s : List ℕ) (a : A) (q r : List ℕ) → F.Fits (a, space) × (s ≡ F.print (a, space) ++ q) → Stops q r → Stops s r
  series_on s a q r f k =
      let g = series_cons (F.print (a, space) ++ k.before ++ k.ending) a (k.before ++ k.ending)
      (f.0, append_assoc (F.print (a, space)) k.before k.ending) k.value [] (k.fits, k.viable ∙ sym (append-nil (series_print F k.value))) in
      record {
        before = F.print (a, space) ++ k.before;
        splits = f.1 ∙ ap (λ (z : List ℕ). F.print (a, space) ++ z) k.splits ∙ sym (append_assoc (F.print (a, space)) k.before r);
        value = a ∷ k.value;
        fits = g.0;
        ending = k.ending;
        viable = g.1 ∙ append-nil (series_print F (a ∷ k.value));
        local = λ b r' e' u.
            ap (series_parse F) (append_assoc (F.print (a, space)) k.before (b ∷ u))
            ∙ series_next a f.0 (k.before ++ (b ∷ u))
            ∙ ap (λ (z : Parsed (List A)). bind z (λ xs q. ok (a ∷ xs) q)) (k.local b r' e' u);
      }

  series_stuck₂ : (s : List ℕ) (a : A) (q : List ℕ) → F.Fits (a, space) × (s ≡ F.print (a, space) ++ q) → (y : Parsed (List A)) (r : List ℕ)
      → ((r' : List ℕ) → y ≡ bad r' → Stops q r') → ◌≡◌ {A = Parsed (List A)} (bind y (λ xs q. ok (a ∷ xs) q)) (bad r) → Stops s r
  series_stuck₂ s a q f (ok bs r') r ih h = not_both refl h
  series_stuck₂ s a q f (bad r') r ih h = let hr : r' ≡ r = cc in series_on s a q r f (subst (λ (z : List ℕ). Stops q z) hr (ih r' refl))

  series_stuck₃ : (n : ℕ) (s : List ℕ) (a : A) (e : Separator) (q r : List ℕ) → F.Fits (a, e) × (s ≡ F.print (a, e) ++ q)
      → ((r : List ℕ) → series_within F n q ≡ bad r → Stops q r) → series_go (series_within F n) a e q ≡ bad r → Stops s r
  series_stuck₃ n s a space q r f ih h = series_stuck₂ s a q f (series_within F n q) r ih h
  series_stuck₃ n s a newline q r f ih h = not_both refl h

  series_stuck₁ : (n : ℕ) (s : List ℕ) (x : Parsed (A × Separator)) → F.parse s ≡ x
      → ((q : List ℕ) → length q < length s → (r : List ℕ) → series_within F n q ≡ bad r → Stops q r)
      → (r : List ℕ) → bind x (λ p r. series_go (series_within F n) p.0 p.1 r) ≡ bad r → Stops s r
  series_stuck₁ n s (ok p q) e ih r h = series_stuck₃ n s p.0 p.1 q r (LF.sound s p q e) (ih q (shorter s p q e)) h
  series_stuck₁ n s (bad q) e ih r h = let hr : q ≡ r = cc in series_stop s r (e ∙ ap (λ (z : List ℕ). bad z) hr)

  series_stuck : (n : ℕ) (s : List ℕ) → length s < n → (r : List ℕ) → series_within F n s ≡ bad r → Stops s r
  series_stuck zero s l r h = absurd (omega arith)
  series_stuck (suc n) s l r h = series_stuck₁ n s (F.parse s) refl (λ q g. series_stuck n q (omega arith)) r h

  pub series_laws : Laws (series F one)
  series_laws =
      record {
        sample_fits = one_fits;
        sound = λ s xs r h. series_sound (suc (length s)) s xs r h;
        full = series_full;
        stuck = λ s r h. series_stuck (suc (length s)) s (omega arith) r h;
      }

-- ---- a series is its items' texts with one space between and byte 10 behind

module _ {A : Type 0} (F : Format (A × Separator)) (P : A → Type 0) where
  pub series_text : (f : A → List ℕ) → ((a : A) (e : Separator) → F.print (a, e) ≡ f a ++ (separator_byte e ∷ []))
      → (xs : List A) → OneOrMore P xs → series_print F xs ≡ separated (map f xs) ++ ascii "\n"
  series_text f shown [] h = absurd h
  series_text f shown (a ∷ []) h = shown a newline
  series_text f shown (a ∷ b ∷ xs) h =
      ap (λ (z : List ℕ). z ++ series_print F (b ∷ xs)) (shown a space)
      ∙ ap (λ (z : List ℕ). (f a ++ ascii " ") ++ z) (series_text f shown (b ∷ xs) h.1)
      ∙ append_assoc (f a) (ascii " ") (separated (map f (b ∷ xs)) ++ ascii "\n")
      ∙ sym (append_assoc (f a) (ascii " " ++ separated (map f (b ∷ xs))) (ascii "\n"))

  pub series_fitting : ((a : A) (e : Separator) → P a → F.Fits (a, e)) → (xs : List A) → OneOrMore P xs → series_fits F xs
  series_fitting to [] h = h
  series_fitting to (a ∷ []) h = to a newline h
  series_fitting to (a ∷ b ∷ xs) h = (to a space h.0, series_fitting to (b ∷ xs) h.1)

  pub series_of_fitting : ((a : A) (e : Separator) → F.Fits (a, e) → P a) → (xs : List A) → series_fits F xs → OneOrMore P xs
  series_of_fitting of [] h = h
  series_of_fitting of (a ∷ []) h = of a newline h
  series_of_fitting of (a ∷ b ∷ xs) h = (of a space h.0, series_of_fitting of (b ∷ xs) h.1)
