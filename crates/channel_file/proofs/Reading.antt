-- How the answer to a whole text comes from the answers to its parts.
use Prim.Native.Nat.{ℕ, ◌+◌, ◌-◌, ◌≤◌}
use mathlib.Core.{Path.{◌≡◌, refl, sym, ap, ◌∙◌, subst}, List.{List, [], ◌∷◌, ◌++◌, map}}
use native.Mathlib.Omega.{arith}
use lib.ListN.{length, drop, length-drop}
use Rattle.text_format.specs.Format.{Parsed, ok, bad, Format, Outcome, contents, refused, whole, outcome, read}
use Rattle.text_format.specs.Texts.{ascii, separated}
use Rattle.text_format.specs.Series.{number_item}
use Rattle.text_format.proofs.{Combinators.{not_both, keyed_of_fits}, Series.{series_of_fitting}}
use Rattle.channel_file.specs.{ChannelFile.{Token, Contents, number, Small, line, encoded}, FileFormat.{entries, field, head, meet_line, rule_line, file}}
use Rattle.channel_file.specs.{Reading.{head_text, meet_text, meet_start, rule_start, form_of, answer_by, checked_by}, Steps.{counted, ReadsForm}}
use Rattle.channel_file.specs.Bytes.{entry, node, meet_bytes, rule_bytes, put_front}
use Rattle.channel_file.specs.declared.Form.{Form}
use Rattle.std.specs.Prelude.{Result, Ok, Err}
use Rattle.std.specs.Result.{MatchResult, IsErrAnd}
use Rattle.std.proofs.lemmas.Result.{err_from_is_err_and}
use Rattle.refusal.specs.declared.{Refusal.{Refusal, TheVariants.{TextForm}}}
use Rattle.channel_file.proofs.{FileFormat.{head_laws, meet_line_laws, entries_text}, Offsets.{forward_by}}

pub not_both_ways : {A C : Type 0} (x : Outcome A) (p : ℕ) (a : A) → x ≡ refused p → x ≡ contents a → C
not_both_ways x p a e f = let z : ◌≡◌ {A = ℕ} 0 1 = cc in absurd (omega arith)

pub one_way : {A : Type 0} (x : Outcome A) (a b : A) → x ≡ contents a → x ≡ contents b → a ≡ b
one_way x a b e f = cc

-- what is left at an offset as the place of refusal
pub refused_at : {A : Type 0} (F : Format A) (t : List ℕ) (p : ℕ) → p ≤ length t → whole F t ≡ bad (drop p t) → read F t ≡ refused p
refused_at F t p h e =
    let q : length t - length (drop p t) ≡ p = omega (arith, length-drop p t) in
    ap (outcome t) e ∙ ap (λ (z : ℕ). refused z) q

-- a place of refusal, as itself
abbrev pub place : ℕ → ℕ
place p = p

module _ {E : Type 0} (refuses : ℕ → E) where
  pub form_as : {x y : Outcome Contents} {meet rule meet' rule' : List ℕ} {r : Result Form E} → x ≡ y → ReadsForm refuses x meet rule meet' rule' r
      → ReadsForm refuses y meet rule meet' rule' r
  form_as {meet = meet} {rule = rule} {meet' = meet'} {rule' = rule'} {r = r} e h =
      subst (λ (z : Outcome Contents). ReadsForm refuses z meet rule meet' rule' r) e h

  -- nothing is known of what was stored of a refused text
  pub form_refused : (x : Outcome Contents) (p : ℕ) (meet rule meet' rule' : List ℕ) → x ≡ refused p
      → ReadsForm refuses x meet rule meet' rule' (Err (refuses p))
  form_refused x p meet rule meet' rule' e =
      record { reply = sym (ap (answer_by refuses form_of) e); bytes = λ c f. not_both_ways x p c e f }

-- a place of refusal as 4, by what map_err says
pub placed : {A F : Type 0} (form_of : A → F) (x : Outcome A) (r : Result F ℕ) (r' : Result F Refusal)
    → MatchResult r (λ f. r' ≡ Ok f) (λ p. IsErrAnd r' (λ q. q ≡ TextForm p)) → r ≡ answer_by place form_of x → r' ≡ checked_by form_of x
placed form_of (contents c) (Ok f) r' m e = let is : f ≡ form_of c = cc in m ∙ ap (λ z. Ok z) is
placed form_of (contents c) (Err p) r' m e = cc
placed form_of (refused p) (Ok f) r' m e = cc
placed form_of (refused p) (Err d) r' m e =
    let is : d ≡ p = cc in
    let w = err_from_is_err_and r' m in
    w.1 ∙ ap (λ (z : Refusal). Err z) (w.2 ∙ ap (λ (z : ℕ). TextForm z) is)

pub refuse : (t : List ℕ) (p : ℕ) (meet rule meet' rule' : List ℕ) → p ≤ length t → whole file t ≡ bad (drop p t)
    → ReadsForm place (read file t) meet rule meet' rule' (Err p)
refuse t p meet rule meet' rule' h e = form_refused place (read file t) p meet rule meet' rule' (refused_at file t p h e)

pub count_bad : {A : Type 0} (x : Parsed (List A)) (r : List ℕ) → counted 0 x ≡ bad r → x ≡ bad r
count_bad (ok xs q) r h = not_both refl h
count_bad (bad q) r h = cc

pub count_ok : {A : Type 0} (x : Parsed (List A)) (m : ℕ) (r : List ℕ) → counted 0 x ≡ ok m r → (xs : List A) × (x ≡ ok xs r) × (length xs ≡ m)
count_ok (ok xs q) m r h =
    let hm : 0 + length xs ≡ m = cc in
    let hr : q ≡ r = cc in
    (xs, ap (λ (z : List ℕ). ok xs z) hr, omega arith)
count_ok (bad q) m r h = not_both h refl

-- the meet line as read is the meet line as shown
meet_line_text : (s : List ℕ) (xs r : List ℕ) → meet_line.parse s ≡ ok xs r → meet_line.print xs ≡ line (ascii "meet=") (separated (map number xs))
meet_line_text s xs r e =
    let f = keyed_of_fits (ascii "meet=") entries xs (meet_line_laws.sound s xs r e).0 in
    ap (λ (z : List ℕ). ascii "meet=" ++ z) (entries_text xs (series_of_fitting (number_item 2) Small (λ a e g. g) xs f))

-- a form, by its three numbers, its counts and its offsets
abbrev pub found : ℕ × (ℕ × ℕ) → (entries meet_at items rule_at : ℕ) → Form
found h m s n q =
    record { events = h.0; values = h.1.0; top = h.1.1; entries = m; meet_at = s; items = n; rule_at = q }

module _ (t : List ℕ) where
  -- the first three lines
  module _ (events a : ℕ) (e₁ : (field (ascii "events=")).parse t ≡ ok events (drop a t))
      (values b : ℕ) (e₂ : (field (ascii "values=")).parse (drop a t) ≡ ok values (drop b t)) where
    pub bad₁ : (r : List ℕ) → (field (ascii "top=")).parse (drop b t) ≡ bad r → whole file t ≡ bad r
    bad₁ r e = rw e₁ (rw e₂ (rw e))

    pub head_read : (top d : ℕ) → (field (ascii "top=")).parse (drop b t) ≡ ok top (drop d t) → head.parse t ≡ ok (events, (values, top)) (drop d t)
    head_read top d e = rw e₁ (rw e₂ (rw e))

  module _ (h : ℕ × (ℕ × ℕ)) (a : ℕ) (within₁ : a ≤ length t) (e₁ : head.parse t ≡ ok h (drop a t)) where
    pub bad₂ : (r : List ℕ) → counted 0 (meet_line.parse (drop a t)) ≡ bad r → whole file t ≡ bad r
    bad₂ r e = let f : meet_line.parse (drop a t) ≡ bad r = count_bad (meet_line.parse (drop a t)) r e in rw e₁ (rw f)

    module _ (m b : ℕ) (within₂ : b ≤ length t) (e₂ : counted 0 (meet_line.parse (drop a t)) ≡ ok m (drop b t)) where
      abbrev met : (xs : List ℕ) × (meet_line.parse (drop a t) ≡ ok xs (drop b t)) × (length xs ≡ m)
      met = count_ok (meet_line.parse (drop a t)) m (drop b t) e₂

      pub bad₃ : (r : List ℕ) → counted 0 (rule_line.parse (drop b t)) ≡ bad r → whole file t ≡ bad r
      bad₃ r e =
          let f = met.1 in
          let g : rule_line.parse (drop b t) ≡ bad r = count_bad (rule_line.parse (drop b t)) r e in
          rw e₁ (rw f (rw g))

      pub bad₄ : (n c : ℕ) (r : List ℕ) → counted 0 (rule_line.parse (drop b t)) ≡ ok n (c ∷ r) → whole file t ≡ bad (c ∷ r)
      bad₄ n c r e =
          let f = met.1 in
          let g = (count_ok (rule_line.parse (drop b t)) n (c ∷ r) e).1 in
          rw e₁ (rw f (rw g))

      all₄ : (xs : List ℕ) (ys : List Token) → meet_line.parse (drop a t) ≡ ok xs (drop b t) → rule_line.parse (drop b t) ≡ ok ys []
          → whole file t ≡ ok (record { events = h.0; values = h.1.0; top = h.1.1; meet = xs; rule = ys }) []
      all₄ xs ys f g = rw e₁ (rw f (rw g))

      pub good : (meet rule meet' rule' : List ℕ)
          → ((xs rest : List ℕ) → meet_line.parse (drop a t) ≡ ok xs rest → meet' ≡ put_front (encoded entry xs) meet)
          → ((ys : List Token) (rest : List ℕ) → rule_line.parse (drop b t) ≡ ok ys rest → rule' ≡ put_front (encoded node ys) rule)
          → (s n q : ℕ) → s ≡ a + 5 → q ≡ b + 5 → counted 0 (rule_line.parse (drop b t)) ≡ ok n []
          → ReadsForm place (read file t) meet rule meet' rule' (Ok (found h m s n q))
      good meet rule meet' rule' stores_meet stores_rule s n q hs hq e =
          let g = count_ok (rule_line.parse (drop b t)) n [] e in
          let c : Contents = record { events = h.0; values = h.1.0; top = h.1.1; meet = met.0; rule = g.0 } in
          let fa : a ≡ 0 + length (head_text c) = forward_by head head_laws t 0 a h (omega arith) within₁ e₁ in
          let fb : b ≡ a + length (meet_line.print met.0) = forward_by meet_line meet_line_laws t a b met.0 within₁ within₂ met.1 in
          let fm : length (meet_line.print met.0) ≡ length (meet_text c) = ap length (meet_line_text (drop a t) met.0 (drop b t) met.1) in
          let em : m ≡ length met.0 = sym met.2 in
          let en : n ≡ length g.0 = sym g.2 in
          let es : s ≡ meet_start c = omega arith in
          let eq : q ≡ rule_start c = omega arith in
          let same : ◌≡◌ {A = Result Form ℕ} (Ok (found h m s n q)) (answer_by place form_of (contents c)) = cc in
          let is : read file t ≡ contents c = ap (outcome t) (all₄ met.0 g.0 met.1 g.1) in
          record {
            reply = same ∙ sym (ap (answer_by place form_of) is);
            bytes = λ d f.
                let here : c ≡ d = one_way (read file t) c d is f in (
                  stores_meet met.0 (drop b t) met.1 ∙ ap (λ (z : Contents). put_front (meet_bytes z) meet) here,
                  stores_rule g.0 [] g.1 ∙ ap (λ (z : Contents). put_front (rule_bytes z) rule) here,
                );
          }
