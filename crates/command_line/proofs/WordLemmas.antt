-- The words of a line, and the line from a word on.
use Prim.Native.Nat.{ℕ, zero, suc, ◌+◌, ◌≤◌, ◌<◌}
use mathlib.Core.{Path.{◌≡◌, refl, sym, ap, ◌∙◌}, List.{List, [], ◌∷◌}, Bool.{Bool, true, false, cond, not}}
use native.Mathlib.Omega.{arith}
use lib.{Dec.{eqb}, ListN.{length, get_or, take, drop, length-drop, length-take}, Seq.{drop-nil, get_or-drop}}
use borrow.Author.Tests.{eqb-true}
use Rattle.std.specs.List.{position_or_len}
use Rattle.std.proofs.lemmas.List.Recursion.{is_position_or_len}
use Rattle.command_line.specs.Words.{words, before, led, is_space, after_spaces, after_word, rest, word}

-- ---- what a search through a text finds

-- How many bytes of a text stand before its first space.
abbrev pub letters : List ℕ → ℕ
letters = before 32

pub before_is : (stop : ℕ) (s : List ℕ) → before stop s ≡ position_or_len (λ b. eqb b stop) s
unfolding before
before_is stop = is_position_or_len (before stop) (λ b. eqb b stop) refl (λ b s. let n : suc (before stop s)
    ≡ 1 + before stop s = omega arith in ap (cond (eqb b stop) 0) n)

-- How many spaces lead a text.
abbrev pub gap : List ℕ → ℕ
gap = position_or_len (λ b. not (is_space b))

drop_gap₁ : (t : Bool) (b : ℕ) (s : List ℕ) → drop (gap s) s ≡ after_spaces s
    → drop (cond (not (not t)) (1 + gap s) 0) (b ∷ s) ≡ cond t (after_spaces s) (b ∷ s)
drop_gap₁ true b s e = let n : 1 + gap s ≡ suc (gap s) = omega arith in ap (λ (k : ℕ). drop k (b ∷ s)) n ∙ e
drop_gap₁ false b s e = refl

pub drop_gap : (s : List ℕ) → drop (gap s) s ≡ after_spaces s
unfolding after_spaces
drop_gap [] = refl
drop_gap (b ∷ s) = drop_gap₁ (is_space b) b s (drop_gap s)

drop_letters₁ : (t : Bool) (b : ℕ) (s : List ℕ) → drop (letters s) s ≡ after_word s → drop (cond t 0 (suc (letters s))) (b ∷ s) ≡ cond t (b ∷ s) (after_word s)
drop_letters₁ true b s e = refl
drop_letters₁ false b s e = e

pub drop_letters : (s : List ℕ) → drop (letters s) s ≡ after_word s
unfolding before after_word
drop_letters [] = refl
drop_letters (b ∷ s) = drop_letters₁ (is_space b) b s (drop_letters s)

-- the space behind a word says nothing
past₁ : {A : Type 0} (f : List ℕ → A) → ((s : List ℕ) → f (32 ∷ s) ≡ f s) → (t : Bool) (b : ℕ) (s : List ℕ) → is_space b ≡ t
    → f (drop 1 (after_word s)) ≡ f (after_word s) → f (drop 1 (cond t (b ∷ s) (after_word s))) ≡ f (cond t (b ∷ s) (after_word s))
past₁ f same true b s e h = sym (same s) ∙ ap (λ (z : ℕ). f (z ∷ s)) (sym (eqb-true b 32 e))
past₁ f same false b s e h = h

past : {A : Type 0} (f : List ℕ → A) → ((s : List ℕ) → f (32 ∷ s) ≡ f s) → (s : List ℕ) → f (drop 1 (after_word s)) ≡ f (after_word s)
unfolding after_word
past f same [] = refl
past f same (b ∷ s) = past₁ f same (is_space b) b s refl (past f same s)

past_spaces : (s : List ℕ) → after_spaces (drop 1 (drop (letters s) s)) ≡ after_spaces (after_word s)
unfolding after_spaces
past_spaces s = rw drop_letters (past after_spaces (λ s. refl) s)

past_words : (s : List ℕ) → words (drop 1 (drop (letters s) s)) ≡ words (after_word s)
unfolding words
past_words s = rw drop_letters (past words (λ s. refl) s)

-- ---- leading spaces say nothing

-- A text that begins with no space.
abbrev pub Led : List ℕ → Type 0
Led s = after_spaces s ≡ s

led₁ : (t : Bool) (b : ℕ) (s : List ℕ) → is_space b ≡ t → Led (after_spaces s)
    → after_spaces (cond t (after_spaces s) (b ∷ s)) ≡ cond t (after_spaces s) (b ∷ s)
unfolding after_spaces
led₁ true b s e h = h
led₁ false b s e h = rw e

pub after_spaces_led : (s : List ℕ) → Led (after_spaces s)
unfolding after_spaces
after_spaces_led [] = refl
after_spaces_led (b ∷ s) = led₁ (is_space b) b s refl (after_spaces_led s)

words_after₁ : (t : Bool) (b : ℕ) (s : List ℕ) → is_space b ≡ t → words (after_spaces s) ≡ words s
    → words (cond t (after_spaces s) (b ∷ s)) ≡ cond t (words s) (led b s (words s))
unfolding words
words_after₁ true b s e h = h
words_after₁ false b s e h = rw e

pub words_after : (s : List ℕ) → words (after_spaces s) ≡ words s
unfolding words after_spaces
words_after [] = refl
words_after (b ∷ s) = words_after₁ (is_space b) b s refl (words_after s)

-- ---- the first word of a text

split₁ : (t : Bool) (b c : ℕ) (s : List ℕ) → is_space c ≡ t → led c s (words s) ≡ (c ∷ take (letters s) s) ∷ words (after_word s)
    → led b (c ∷ s) (words (c ∷ s)) ≡ (b ∷ take (letters (c ∷ s)) (c ∷ s)) ∷ words (after_word (c ∷ s))
unfolding words before after_word
split₁ true b c s e h = simp e
split₁ false b c s e h = simp (e, h)

split : (b : ℕ) (s : List ℕ) → led b s (words s) ≡ (b ∷ take (letters s) s) ∷ words (after_word s)
unfolding words before after_word
split b [] = refl
split b (c ∷ s) = split₁ (is_space c) b c s refl (split c s)

-- a text that begins with a word is that word and what is behind it
pub words_of : (b : ℕ) (s : List ℕ) → is_space b ≡ false → words (b ∷ s) ≡ take (letters (b ∷ s)) (b ∷ s) ∷ words (after_word (b ∷ s))
unfolding words before after_word
words_of b s e = simp (e, split b s)

spaces_shorter : (s : List ℕ) → length (after_spaces s) ≤ length s
spaces_shorter s = omega (arith, ap length (drop_gap s), length-drop (gap s) s)

led_first₁ : (t : Bool) (b : ℕ) (s : List ℕ) → is_space b ≡ t → cond t (after_spaces s) (b ∷ s) ≡ b ∷ s → is_space b ≡ false
led_first₁ true b s e h = absurd (omega (arith, spaces_shorter s, ap length h))
led_first₁ false b s e h = e

pub led_first : (b : ℕ) (s : List ℕ) → Led (b ∷ s) → is_space b ≡ false
unfolding after_spaces
led_first b s h = led_first₁ (is_space b) b s refl h

pub led_words : (s : List ℕ) → Led s → 0 < length s → words s ≡ take (letters s) s ∷ words (after_word s)
led_words [] h l = absurd (omega arith)
led_words (b ∷ s) h l = words_of b s (led_first b s h)

-- and that word has a byte
pub led_letters : (s : List ℕ) → Led s → 0 < length s → 0 < letters s
unfolding before
led_letters [] h l = absurd (omega arith)
led_letters (b ∷ s) h l = rw (led_first b s h) (omega arith)

nothing : (t : List ℕ) → Led t → length (take (letters t) t) ≡ 0 → (words t ≡ []) × (words (drop 1 (drop (letters t) t)) ≡ [])
unfolding words before
nothing [] p e = (refl, refl)
nothing (b ∷ t) p e = absurd (omega (arith, led_letters (b ∷ t) p (omega arith), length-take (letters (b ∷ t)) (b ∷ t)))

-- the next word of a text and the words behind it; an empty one is none
module _ (s : List ℕ) where
  pub words_more : 0 < length (take (letters (after_spaces s)) (after_spaces s))
      → words s ≡ take (letters (after_spaces s)) (after_spaces s) ∷ words (drop 1 (drop (letters (after_spaces s)) (after_spaces s)))
  words_more h =
      let l : 0 < length (after_spaces s) = omega (arith, length-take (letters (after_spaces s)) (after_spaces s)) in
      sym (words_after s) ∙ led_words (after_spaces s) (after_spaces_led s) l
      ∙ ap (λ (ws : List (List ℕ)). take (letters (after_spaces s)) (after_spaces s) ∷ ws) (sym (past_words (after_spaces s)))

  pub words_end : length (take (letters (after_spaces s)) (after_spaces s)) ≡ 0
      → (words s ≡ []) × (words (drop 1 (drop (letters (after_spaces s)) (after_spaces s))) ≡ [])
  words_end h = (sym (words_after s) ∙ (nothing (after_spaces s) (after_spaces_led s) h).0, (nothing (after_spaces s) (after_spaces_led s) h).1)

first_word : (s : List ℕ) → Led s → get_or (words s) 0 [] ≡ take (letters s) s
unfolding words before
first_word [] h = refl
first_word (b ∷ s) h = ap (λ (ws : List (List ℕ)). get_or ws 0 []) (words_of b s (led_first b s h))

words_behind : (n : ℕ) (s : List ℕ) → Led s → drop n (words (after_word s)) ≡ drop (suc n) (words s)
unfolding words after_word
words_behind n [] h = drop-nil n
words_behind n (b ∷ s) h = sym (ap (drop (suc n)) (words_of b s (led_first b s h)))

-- ---- the line from a word on

pub rest_led : (n : ℕ) (s : List ℕ) → Led (rest n s)
unfolding rest
rest_led zero s = after_spaces_led s
rest_led (suc n) s = rest_led n (after_word (after_spaces s))

pub rest_words : (n : ℕ) (s : List ℕ) → words (rest n s) ≡ drop n (words s)
unfolding rest
rest_words zero s = words_after s
rest_words (suc n) s =
    rest_words n (after_word (after_spaces s)) ∙ words_behind n (after_spaces s) (after_spaces_led s) ∙ ap (drop (suc n)) (words_after s)

pub rest_after : (n : ℕ) (s : List ℕ) → rest n (after_spaces s) ≡ rest n s
unfolding rest
rest_after zero s = after_spaces_led s
rest_after (suc n) s = ap (λ (z : List ℕ). rest n (after_word z)) (after_spaces_led s)

pub rest_nil : (n : ℕ) → rest n [] ≡ []
unfolding rest after_spaces after_word
rest_nil zero = refl
rest_nil (suc n) = rest_nil n

-- word n is the first of what begins with it
pub word_is : (n : ℕ) (s : List ℕ) → word n s ≡ take (letters (rest n s)) (rest n s)
word_is n s =
    let e : n + 0 ≡ n = omega arith in
    sym (ap (λ (k : ℕ). get_or (words s) k []) e) ∙ sym (get_or-drop n (words s) 0 []) ∙ sym (ap (λ (ws : List (List ℕ)). get_or ws 0 []) (rest_words n s))
    ∙ first_word (rest n s) (rest_led n s)

-- ---- the loop that passes words: what is left begins with the word that is so many words behind word n

pub record Passing (line : List ℕ) (n : ℕ) (text : List ℕ) (left : ℕ) : Type 0 where
  pub no_space : Led text
  pub same : rest left text ≡ rest n line

pub passing_none : (line : List ℕ) (n left : ℕ) → left ≡ n → Passing line n (after_spaces line) left
passing_none line n left e =
    record { no_space = after_spaces_led line; same = ap (λ (k : ℕ). rest k (after_spaces line)) e ∙ rest_after n line }

pub passing_more : (line : List ℕ) (n : ℕ) (text : List ℕ) (left : ℕ) → Passing line n text (suc left)
    → Passing line n (after_spaces (drop 1 (drop (letters text) text))) left
unfolding rest
passing_more line n text left p =
    record {
      no_space = after_spaces_led (drop 1 (drop (letters text) text));
      same =
          ap (rest left) (past_spaces text) ∙ rest_after left (after_word text)
          ∙ sym (ap (λ (z : List ℕ). rest left (after_word z)) p.no_space) ∙ p.same;
    }

pub passing_over : (line : List ℕ) (n : ℕ) (left : ℕ) → Passing line n [] left → [] ≡ rest n line
passing_over line n left p = sym (rest_nil left) ∙ p.same

pub passing_done : (line : List ℕ) (n : ℕ) (text : List ℕ) → Passing line n text 0 → text ≡ rest n line
unfolding rest
passing_done line n text p = sym p.no_space ∙ p.same
