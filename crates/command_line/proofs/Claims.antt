-- A proof of each claim of specs/Claims.
use Prim.Native.Nat.{ℕ, zero, suc, ◌≤◌}
use mathlib.Core.Path.{◌≡◌, refl, sym, ap, ap₂, ◌∙◌, subst}
use mathlib.Core.List.{List, [], ◌∷◌, ◌++◌, append_assoc, Memᴰ}
use mathlib.Core.Bool.{Bool, true, false, cond}
use native.Mathlib.Omega.{arith}
use lib.{ListN.{length, take, take-append-drop, length-drop}}
use borrow.Author.Tests.{eqb-true, eqb-false, ne_eqb}
use Rattle.std.specs.Prelude.{Some}
use Rattle.std.specs.Str.{bytes_eq}
use Rattle.std.proofs.lemmas.Slice.Eq.{bytes_eq-Decides}
use Rattle.command_line.specs.declared.Command.{Command}
use Rattle.command_line.specs.Words.{NoSpace, Ends, Words, at_end, at_space, end, space, next_word, is_space, words, led, lengthened}
use Rattle.command_line.specs.{Words.{before, after_spaces, after_word, rest}, Lists.{Items}}
use Rattle.command_line.specs.Names.{names, found, named}
use Rattle.command_line.specs.Claims.{WordsClaim, EndOf, RestClaim, NumberClaim, ListsClaim, NamesClaim}
use Rattle.command_line.specs.Words as W
use Rattle.command_line.proofs.Items.{number_only, number_answered, items_only, items_found}
use Rattle.command_line.proofs.WordLemmas.{words_of, led_first, rest_led, rest_words, letters, gap, drop_gap, drop_letters}

-- ---- words

no_space₁ : (t : Bool) (b : ℕ) (s : List ℕ) → is_space b ≡ t → NoSpace (take (letters s) s) → NoSpace (take (cond t 0 (suc (letters s))) (b ∷ s))
no_space₁ true b s e h = W.none
no_space₁ false b s e h = W.one_more (eqb-false b 32 e) h

no_space_in : (s : List ℕ) → NoSpace (take (letters s) s)
unfolding before
no_space_in [] = W.none
no_space_in (b ∷ s) = no_space₁ (is_space b) b s refl (no_space_in s)

ends₁ : (t : Bool) (b : ℕ) (s : List ℕ) → is_space b ≡ t → Ends (after_word s) → Ends (cond t (b ∷ s) (after_word s))
ends₁ true b s e h = subst (λ (z : ℕ). Ends (z ∷ s)) (sym (eqb-true b 32 e)) at_space
ends₁ false b s e h = h

ends_after : (s : List ℕ) → Ends (after_word s)
unfolding after_word
ends_after [] = at_end
ends_after (b ∷ s) = ends₁ (is_space b) b s refl (ends_after s)

-- a text that begins with a word
word_first : (b : ℕ) (s : List ℕ) → is_space b ≡ false → Words (after_word s) (words (after_word s)) → Words (b ∷ s) (words (b ∷ s))
unfolding before after_word
word_first b s e r =
    let n : NoSpace (b ∷ take (letters s) s) = W.one_more (eqb-false b 32 e) (no_space_in s) in
    let t : take (letters s) s ++ after_word s ≡ s = ap (λ (z : List ℕ). take (letters s) s ++ z) (sym (drop_letters s)) ∙ take-append-drop (letters s) s in
    let w : words (b ∷ s) ≡ (b ∷ take (letters s) s) ∷ words (after_word s) = simp e at (words_of b s e) in
    subst (λ (ws : List (List ℕ)). Words (b ∷ s) ws) (sym w)
    (subst (λ (z : List ℕ). Words (b ∷ z) ((b ∷ take (letters s) s) ∷ words (after_word s))) t (next_word n (ends_after s) r))

word_shorter : (s : List ℕ) → length (after_word s) ≤ length s
word_shorter s = omega (arith, ap length (drop_letters s), length-drop (letters s) s)

words_there₁ : (t : Bool) (b : ℕ) (s : List ℕ) → is_space b ≡ t → Words s (words s) → Words (after_word s) (words (after_word s))
    → Words (b ∷ s) (words (b ∷ s))
unfolding words
words_there₁ true b s e h r = subst (λ (z : ℕ). Words (z ∷ s) (words (z ∷ s))) (sym (eqb-true b 32 e)) (space h)
words_there₁ false b s e h r = word_first b s e r

words_step : (n : ℕ) → ((u : List ℕ) → length u ≤ n → Words u (words u)) → (s : List ℕ) → length s ≤ suc n → Words s (words s)
unfolding words
words_step n f [] h = end
words_step n f (b ∷ s) h = words_there₁ (is_space b) b s refl (f s (omega arith)) (f (after_word s) (omega (arith, word_shorter s)))

words_there : (n : ℕ) (s : List ℕ) → length s ≤ n → Words s (words s)
unfolding words
words_there zero [] h = end
words_there zero (b ∷ s) h = absurd (omega arith)
words_there (suc n) s h = words_step n (words_there n) s h

words_run₁ : (b : ℕ) (s : List ℕ) → Ends s → led b s (words s) ≡ (b ∷ []) ∷ words s
unfolding words
words_run₁ b [] at_end = refl
words_run₁ b (c ∷ s) at_space = refl

words_run : (b : ℕ) (w s : List ℕ) → NoSpace (b ∷ w) → Ends s → words ((b ∷ w) ++ s) ≡ (b ∷ w) ∷ words s
unfolding words
words_run b [] s (W.one_more n h) e = rw (ne_eqb b 32 n) (words_run₁ b s e)
words_run b (c ∷ w) s (W.one_more n (W.one_more m h)) e =
    let i = words_run c w s (W.one_more m h) e in
    rw (ne_eqb b 32 n, ne_eqb c 32 m) (ap (lengthened b) (simp (ne_eqb c 32 m) at i))

words_only : (line : List ℕ) (ws : List (List ℕ)) → Words line ws → ws ≡ words line
unfolding words
words_only line ws end = refl
words_only line ws (space {s = s} {ws = us} r) = words_only s us r
words_only line ws (next_word {b = b} {w = w} {s = s} {ws = us} n e r) = ap (λ (z : List (List ℕ)). (b ∷ w) ∷ z) (words_only s us r) ∙ sym (words_run b w s n e)

pub words_claim : WordsClaim
words_claim = record { its_words = λ line. words_there (length line) line (omega arith); only = words_only }

-- ---- the line from a word on

spaces_end : (s : List ℕ) → EndOf (after_spaces s) s
spaces_end s =
    record { before = take (gap s) s; whole = ap (λ (z : List ℕ). take (gap s) s ++ z) (sym (drop_gap s)) ∙ take-append-drop (gap s) s }

word_end : (s : List ℕ) → EndOf (after_word s) s
word_end s =
    record {
      before = take (letters s) s;
      whole = ap (λ (z : List ℕ). take (letters s) s ++ z) (sym (drop_letters s)) ∙ take-append-drop (letters s) s;
    }

end_of_end : (a b c : List ℕ) → EndOf a b → EndOf b c → EndOf a c
end_of_end a b c p q =
    record {
      before = q.before ++ p.before;
      whole = append_assoc q.before p.before a ∙ ap (λ (z : List ℕ). q.before ++ z) p.whole ∙ q.whole;
    }

rest_end : (n : ℕ) (s : List ℕ) → EndOf (rest n s) s
unfolding rest
rest_end zero s = spaces_end s
rest_end (suc n) s =
    end_of_end (rest n (after_word (after_spaces s))) (after_word (after_spaces s)) s (rest_end n (after_word (after_spaces s)))
    (end_of_end (after_word (after_spaces s)) (after_spaces s) s (word_end (after_spaces s)) (spaces_end s))

rest_no_space : (n : ℕ) (line s : List ℕ) → rest n line ≡ 32 ∷ s → ⊥
rest_no_space n line s e =
    let h : is_space 32 ≡ false = led_first 32 s (subst (λ (z : List ℕ). after_spaces z ≡ z) e (rest_led n line)) in
    let z : ◌≡◌ {A = ℕ} 0 1 = cc in
    omega arith

pub rest_claim : RestClaim
rest_claim = record { an_end = rest_end; its_words = rest_words; no_space = rest_no_space }

-- ---- numbers and lists

pub number_claim : NumberClaim
number_claim = record { answered = number_answered; only = number_only }

pub lists_claim : ListsClaim
lists_claim =
    record {
      found = λ this that ws bytes e. let b = items_found this that [] ws bytes e in subst (Items this that ws) (sym b.whole) b.each;
      only = λ this that ws bytes r. items_only this that [] ws bytes r;
    }

-- ---- names

listed₁ : (t : Bool) (p : List ℕ × Command) (ps : List (List ℕ × Command)) (w : List ℕ) (c : Command) → bytes_eq w p.0 ≡ t
    → (found ps w ≡ Some c → Memᴰ (w, c) ps) → cond t (Some p.1) (found ps w) ≡ Some c → Memᴰ (w, c) (p ∷ ps)
listed₁ true p ps w c e f h =
    let d : p.1 ≡ c = cc in
    Memᴰ.head (ap₂ (λ (z : List ℕ) (k : Command). (z, k)) ((bytes_eq-Decides w p.0).0 e) (sym d))
listed₁ false p ps w c e f h = Memᴰ.tail (f h)

listed_in : (ps : List (List ℕ × Command)) (w : List ℕ) (c : Command) → found ps w ≡ Some c → Memᴰ (w, c) ps
listed_in [] w c h = absurd (cc)
listed_in (p ∷ ps) w c h = listed₁ (bytes_eq w p.0) p ps w c refl (listed_in ps w c) h

-- each pair of a list
abbrev Each : (List ℕ × Command → Type 0) → List (List ℕ × Command) → Type 0
Each P [] = Unit {0}
Each P (p ∷ ps) = P p × Each P ps

each_one : (P : List ℕ × Command → Type 0) (p : List ℕ × Command) (ps : List (List ℕ × Command)) → Each P ps → Memᴰ p ps → P p
each_one P p ps a (Memᴰ.head e) = subst P (sym e) a.0
each_one P p ps a (Memᴰ.tail m) = each_one P p _ a.1 m

names_right : Each (λ p. named p.0 ≡ Some p.1) names
names_right = (refl, (refl, (refl, (refl, (refl, (refl, (refl, (refl, (refl, (refl, (refl, (refl, (refl, (refl, (refl, (refl, tt))))))))))))))))

pub names_claim : NamesClaim
names_claim = record { named_so = λ p m. each_one (λ q. named q.0 ≡ Some q.1) p names names_right m; listed_so = listed_in names }
