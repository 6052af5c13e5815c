-- What holds of either form of channel file: the answer to a text, 4, and the stretch of tokens; and of tokens alone.
use Prim.Native.Nat.{ℕ, ◌+◌, ◌-◌, ◌≤◌, ◌<◌}
use mathlib.Core.{Path.{◌≡◌, refl, sym, ap, ap₂, ◌∙◌, subst}, Bool.{Bool, true, false, cond}, Option.{Option, none, some}}
use mathlib.Core.{Logic.{◌⊎◌, inl, inr}, List.{List, [], ◌∷◌, ◌++◌, map, append-nil, append_assoc}}
use native.Mathlib.Omega.{arith}
use borrow.Author.Tests.{ltb-true, ltb-false}
use lib.{Dec.{ltb}, ListN.{length, take, drop, length-append}, Seq.{take_at, drop_at}}
use Rattle.limits.specs.Limits.{file_limit}
use Rattle.refusal.specs.{declared.{Refusal.{Refusal}}, declared.Refusal.TheVariants.{TextForm}}
use Rattle.refusal.specs.Refusal.{Condition, at_lowest, form_place, First, has_place, part_of, order, condition_numbers, right_places, Judged}
use Rattle.refusal.proofs.Refusals.{only_place, judged}
use Rattle.text_format.specs.Format.{Parsed, ok, bad, bind, Format, Laws, Outcome, contents, refused, at_end, outcome, read}
use Rattle.text_format.specs.{Texts.{ascii, separated, OneOrMore, FormOf}, Claims.{AnswersText, FormatRenders}}
use Rattle.text_format.proofs.Place.{place_claim, answers, one_answer as one_answer_of, one_contents as one_contents_of}
use Rattle.channel_file.specs.ChannelFile.{RefusedBy, over_long, off_form, TokensBy, of_contents, of_refused}
use Rattle.channel_file.specs.Reading.{AnswersBy, read_limited, read_closed, stretch, stretch_by}
use Rattle.channel_file.specs.Claims.{ShowsItems, AnswerOf, OneAnswerOf, conditions_by}

-- A form of files: its format and the texts that it shows; and of a text the lines in front of the rule's, the rule's, and where that starts.
pub record FormLaws (A : Type 0) : Type 1 where
  pub format : Format A
  pub Shows : A → List ℕ → Type 0
  pub laws : Laws format
  pub renders : FormatRenders format Shows
  pub text : A → List ℕ
  pub printed : (c : A) (t : List ℕ) → Shows c t → text c ≡ t
  pub front : A → List ℕ
  pub rule_text : A → List ℕ
  pub split : (c : A) → text c ≡ front c ++ (ascii "rule=" ++ (rule_text c ++ ascii "\n"))
  pub start : A → ℕ
  pub starts : (c : A) → length (front c) + 5 ≡ start c

module _ {A : Type 0} (K : FormLaws A) where
  abbrev F : Format A
  F = K.format

  abbrev Shown : A → List ℕ → Type 0
  Shown = K.Shows

  abbrev pub answer_to : List ℕ → Outcome A
  answer_to t = read_limited F t

  -- ---- the answer

  within : (t : List ℕ) → length t ≤ file_limit → (x : Outcome A) → AnswersText Shown t x → AnswersBy Shown t x
  within t h (contents c) a = (h, a)
  within t h (refused p) a = off_form p h a

  answer₁ : (b : Bool) (t : List ℕ) → ltb file_limit (length t) ≡ b → AnswersBy Shown t (cond b (refused file_limit) (read F t))
  answer₁ true t e = over_long (ltb-true file_limit (length t) e)
  answer₁ false t e = within t (ltb-false file_limit (length t) e) (read F t) (answers F Shown K.laws K.renders t)

  pub answer : AnswerOf Shown answer_to
  answer t = answer₁ (ltb file_limit (length t)) t refl

  -- an answer is of one of the two kinds
  too_long : (t : List ℕ) → file_limit < length t → (x : Outcome A) → AnswersBy Shown t x → x ≡ refused file_limit
  too_long t h (contents c) a = let l : length t ≤ file_limit = a.0 in absurd (omega arith)
  too_long t h (refused p) (over_long l) = refl
  too_long t h (refused p) (off_form q l a) = absurd (omega arith)

  not_long : (t : List ℕ) → length t ≤ file_limit → (x : Outcome A) → AnswersBy Shown t x → AnswersText Shown t x
  not_long t h (contents c) a = a.1
  not_long t h (refused p) (over_long l) = absurd (omega arith)
  not_long t h (refused p) (off_form q l a) = a

  one₁ : (b : Bool) (t : List ℕ) → ltb file_limit (length t) ≡ b → (x y : Outcome A) → AnswersBy Shown t x → AnswersBy Shown t y → x ≡ y
  one₁ true t e x y hx hy = too_long t (ltb-true file_limit (length t) e) x hx ∙ sym (too_long t (ltb-true file_limit (length t) e) y hy)
  one₁ false t e x y hx hy =
      one_answer_of F Shown K.laws K.renders t x y (not_long t (ltb-false file_limit (length t) e) x hx)
      (not_long t (ltb-false file_limit (length t) e) y hy)

  pub one_answer : OneAnswerOf Shown answer_to
  one_answer t x y hx hy = one₁ (ltb file_limit (length t)) t refl x y hx hy

  pub read_as : (t : List ℕ) (x : Outcome A) → AnswersBy Shown t x → answer_to t ≡ x
  read_as t x a = one_answer t (answer_to t) x (answer t) a

  -- what a text shows where it is accepted
  pub shown : (t : List ℕ) (c : A) → answer_to t ≡ contents c → (length t ≤ file_limit) × Shown c t
  shown t c e = subst (AnswersBy Shown t) e (answer t)

  -- ---- what a text shows, whatever its length

  pub one_contents : (t : List ℕ) (c d : A) → Shown c t → Shown d t → c ≡ d
  one_contents = one_contents_of F Shown K.laws K.renders

  pub shows_or_not : (t : List ℕ) → ((c : A) × Shown c t) ⊎ ((c : A) → ¬ Shown c t)
  shows_or_not t = go (read F t) (answers F Shown K.laws K.renders t)
    where
      go : (x : Outcome A) → AnswersText Shown t x → ((c : A) × Shown c t) ⊎ ((c : A) → ¬ Shown c t)
      go (contents c) a = inl (c, a)
      go (refused p) a = inr (λ c s. place_claim.not_of_the_form (FormOf Shown) t p a (c, s))

  -- ---- 4

  -- It is met, or it is not; further conditions may follow.
  pub form_met : (t : List ℕ) (p : ℕ) → RefusedBy Shown t p → (ds : List Condition) → First (at_lowest form_place (RefusedBy Shown t) ∷ ds) (some (TextForm p))
  unfolding First
  form_met t p a ds =
      inl (
        TextForm p,
        (p, only_place (RefusedBy Shown t) p a (λ q h. let e = one_answer t (refused q) (refused p) h a in cc), refl),
        refl,
      )

  pub form_unmet :
      (t : List ℕ) (c : A) → AnswersBy Shown t (contents c) → (ds : List Condition) (given : Option Refusal) → First ds given →
      First (at_lowest form_place (RefusedBy Shown t) ∷ ds) given
  unfolding First
  form_unmet t c a ds given later =
      inr (
        (λ r g.
            let e = one_answer t (contents c) (refused g.0) a g.1.holds in
            let z : ◌≡◌ {A = ℕ} 0 1 = cc in
            omega arith),
        later,
      )

  -- a reply to a text that has no refusal beside contents, and 4 at the place else
  module _ (reply : Outcome A → Option Refusal) (accepts : (c : A) → reply (contents c) ≡ none) (refuses : (p : ℕ) → reply (refused p)
      ≡ some (TextForm p)) where
    form_first : (t : List ℕ) (x : Outcome A) → AnswersBy Shown t x → First (conditions_by Shown t) (reply x)
    unfolding First
    form_first t (contents c) a = form_unmet t c a [] (reply (contents c)) (accepts c)
    form_first t (refused p) a = subst (First (conditions_by Shown t)) (sym (refuses p)) (form_met t p a [])

    pub form_judged : (t : List ℕ) → Judged (conditions_by Shown t) (reply (answer_to t))
    unfolding condition_numbers right_places has_place part_of order
    form_judged t = judged (conditions_by Shown t) _ (form_first t (answer_to t) (answer t)) refl refl

  -- ---- the stretch of tokens

  split_rule : (c : A) → K.text c ≡ (K.front c ++ ascii "rule=") ++ (K.rule_text c ++ ascii "\n")
  split_rule c = K.split c ∙ sym (append_assoc (K.front c) (ascii "rule=") (K.rule_text c ++ ascii "\n"))

  front_length : (c : A) → length (K.front c ++ ascii "rule=") ≡ K.start c
  front_length c = length-append (K.front c) (ascii "rule=") ∙ K.starts c

  -- what is left behind `rule=`
  drop_rule : (c : A) → drop (K.start c) (K.text c) ≡ K.rule_text c ++ ascii "\n"
  drop_rule c = ap (drop (K.start c)) (split_rule c) ∙ drop_at (K.front c ++ ascii "rule=") _ (K.start c) (front_length c)

  text_length : (c : A) → length (K.text c) ≡ K.start c + (length (K.rule_text c) + 1)
  text_length c =
      ap length (split_rule c) ∙ length-append (K.front c ++ ascii "rule=") _
      ∙ ap₂ (λ (x y : ℕ). x + y) (front_length c) (length-append (K.rule_text c) (ascii "\n"))

  tokens_between : (c : A) → stretch (K.start c) (length (K.text c) - 1) (K.text c) ≡ K.rule_text c
  tokens_between c =
      let e : length (K.rule_text c) ≡ length (K.text c) - 1 - K.start c = omega (arith, text_length c) in
      ap (take (length (K.text c) - 1 - K.start c)) (drop_rule c) ∙ take_at (K.rule_text c) (ascii "\n") (length (K.text c) - 1 - K.start c) e

  pub stretch_is : (t : List ℕ) (c : A) → answer_to t ≡ contents c → stretch_by K.start t (answer_to t) ≡ K.rule_text c
  stretch_is t c e =
      ap (stretch_by K.start t) e
      ∙ subst (λ (z : List ℕ). stretch_by K.start z (contents c) ≡ K.rule_text c) (K.printed c t (shown t c e).1) (tokens_between c)

  -- its offsets are in order
  pub starts_within : (t : List ℕ) (c : A) (b : ℕ) → answer_to t ≡ contents c → b ≡ K.start c → b ≤ length t - 1
  starts_within t c b e o = omega (arith, text_length c, ap length (K.printed c t (shown t c e).1))

  -- and document 01's sentence on it
  tokens_there : (t : List ℕ) (x : Outcome A) → AnswersBy Shown t x → TokensBy Shown K.rule_text t (stretch_by K.start t (answer_to t))
  tokens_there t (contents c) a =
      subst (TokensBy Shown K.rule_text t) (sym (stretch_is t c (read_as t (contents c) a)))
      (of_contents c (K.front c) _ a.0 a.1 (sym (K.printed c t a.1) ∙ K.split c) refl)
  tokens_there t (refused p) a = subst (TokensBy Shown K.rule_text t) (sym (ap (stretch_by K.start t) (read_as t (refused p) a))) (of_refused p a)

  tokens_only : (t other : List ℕ) → TokensBy Shown K.rule_text t other → other ≡ stretch_by K.start t (answer_to t)
  tokens_only t other (of_contents c before tokens short s halves is) = is ∙ sym (stretch_is t c (read_as t (contents c) (short, s)))
  tokens_only t other (of_refused p a) = sym (ap (stretch_by K.start t) (read_as t (refused p) a))

  pub to_tokens :
      (t : List ℕ) →
      TokensBy Shown K.rule_text t (stretch_by K.start t (answer_to t))
      × ((other : List ℕ) → TokensBy Shown K.rule_text t other → other ≡ stretch_by K.start t (answer_to t))
  to_tokens t = (tokens_there t (answer_to t) (answer t), tokens_only t)

-- ---- items alone

-- what is read of a whole text, and what is read leaves nothing
whole_read : {A : Type 0} (t : List ℕ) (y : Parsed A) (a : A) → outcome t (bind y (λ b r. at_end b r)) ≡ contents a → y ≡ ok a []
whole_read t (ok b []) a e = cc
whole_read t (ok b (d ∷ r)) a e = let z : ◌≡◌ {A = ℕ} 0 1 = cc in absurd (omega arith)
whole_read t (bad r) a e = let z : ◌≡◌ {A = ℕ} 0 1 = cc in absurd (omega arith)

same_front : {u w : List ℕ} → u ++ ascii "\n" ≡ w ++ ascii "\n" → u ≡ w
same_front {u} {w} e =
    let n : length u ≡ length w = omega (arith, ap length e, length-append u (ascii "\n"), length-append w (ascii "\n")) in
    sym (take_at u (ascii "\n") (length u) refl) ∙ ap (take (length u)) e ∙ take_at w (ascii "\n") (length u) (sym n)

module _ {X : Type 0} (T : Format (List X)) (L : Laws T) (Small : X → Type 0) (item_text : X → List ℕ)
    (prints : (xs : List X) → OneOrMore Small xs → T.print xs ≡ separated (map item_text xs) ++ ascii "\n") where
  pub items_read : ((xs : List X) → OneOrMore Small xs → T.Fits xs) → (t : List ℕ) (xs : List X) → ShowsItems Small item_text xs t
      → read_closed T t ≡ contents xs
  items_read fit t xs h =
      let f : T.print xs ++ [] ≡ t ++ ascii "\n" =
      append-nil (T.print xs) ∙ prints xs h.small ∙ ap (λ (s : List ℕ). s ++ ascii "\n") h.printed in
      let e : T.parse (t ++ ascii "\n") ≡ ok xs [] = ap T.parse (sym f) ∙ L.full xs (fit xs h.small) [] in
      ap (λ (y : Parsed (List X)). outcome (t ++ ascii "\n") (bind y (λ a r. at_end a r))) e

  pub items_shown : ((xs : List X) → T.Fits xs → OneOrMore Small xs) → (t : List ℕ) (xs : List X) → read_closed T t ≡ contents xs
      → ShowsItems Small item_text xs t
  items_shown small t xs e =
      let f = L.sound (t ++ ascii "\n") xs [] (whole_read (t ++ ascii "\n") (T.parse (t ++ ascii "\n")) xs e) in
      let s : OneOrMore Small xs = small xs f.0 in
      record { small = s; printed = same_front (sym (prints xs s) ∙ sym (append-nil (T.print xs)) ∙ sym f.1) }

-- an item has at least one byte
some_bytes : {X : Type 0} (Small : X → Type 0) (item_text : X → List ℕ) → ((x : X) → 1 ≤ length (item_text x)) → (xs : List X) → OneOrMore Small xs
    → 1 ≤ length (separated (map item_text xs))
some_bytes Small item_text one [] h = absurd h
some_bytes Small item_text one (x ∷ []) h = one x
some_bytes Small item_text one (x ∷ y ∷ xs) h =
    omega (arith, one x, length-append (item_text x) (32 ∷ separated (map item_text (y ∷ xs))))

pub not_empty : {X : Type 0} (Small : X → Type 0) (item_text : X → List ℕ) → ((x : X) → 1 ≤ length (item_text x)) → (xs : List X) → OneOrMore Small xs
    → (s : List ℕ) → s ≡ separated (map item_text xs) → s ≡ [] → ⊥
not_empty Small item_text one xs h s e f =
    let l = some_bytes Small item_text one xs h in
    omega (arith, ap length (sym e ∙ f))
