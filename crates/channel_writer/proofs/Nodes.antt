-- Which nodes have tokens, and their texts, by the tests of the code.
use Prim.Native.Nat.{ℕ, ◌+◌, ◌-◌, ◌≤◌, ◌<◌}
use mathlib.Core.{Path.{◌≡◌, refl, sym, ap, ◌∙◌}, List.{List, [], ◌∷◌, ◌++◌}, Bool.{Bool, true, false, cond}, Option.{Option, some, none}}
use native.Mathlib.Omega.{arith}
use borrow.Author.Tests.{ne_eqb}
use lib.{Dec.{eqb}, ListN.{length, drop, get_or, length-drop}}
use Rattle.channel_file.specs.ChannelFile.{RuleItem, token_T, token_A, token_V, token_X, token_G, token_O, number}
use Rattle.channel_file.specs.declared.Values.{Values}
use Rattle.channel_file.proofs.Offsets.{here, over}
use Rattle.channel_writer.specs.Writing.{token_with, with_token, node_tokens}
use Rattle.channel_writer.specs.RegisterWriting.{node_tokens as register_tokens}
use Rattle.channel_writer.specs.Steps.{is_some, IsSome, has_bare, has_one, has_with, width, token_at, tokens_of, node_text}

-- whether there is a token, by the tests of the code
pub bare_0 : (k : ℕ) → k ≡ 0 → true ≡ has_bare k
bare_0 k e = rw e

pub bare_4 : (k : ℕ) → k ≡ 4 → true ≡ has_bare k
bare_4 k e = rw e

pub bare_5 : (k : ℕ) → k ≡ 5 → true ≡ has_bare k
bare_5 k e = rw e

pub bare_not : (k : ℕ) → (k ≡ 0 → ⊥) → (k ≡ 4 → ⊥) → (k ≡ 5 → ⊥) → false ≡ has_bare k
bare_not k a b c = rw (ne_eqb k 0 a, ne_eqb k 4 b, ne_eqb k 5 c)

pub one_1 : (k a : ℕ) → k ≡ 1 → true ≡ has_one k a
one_1 k a e = rw e

pub one_2 : (k a : ℕ) → k ≡ 2 → true ≡ has_one k a
one_2 k a e = rw e

pub one_bare : (k a : ℕ) → (k ≡ 1 → ⊥) → (k ≡ 2 → ⊥) → a ≡ 0 → has_bare k ≡ has_one k a
one_bare k a x y e = rw (ne_eqb k 1 x, ne_eqb k 2 y, e)

pub one_not : (k a : ℕ) → (k ≡ 1 → ⊥) → (k ≡ 2 → ⊥) → (a ≡ 0 → ⊥) → false ≡ has_one k a
one_not k a x y z = rw (ne_eqb k 1 x, ne_eqb k 2 y, ne_eqb a 0 z)

pub with_3 : (u : Bool) (k a : ℕ) → k ≡ 3 → true ≡ has_with u k a
with_3 u k a e = rw e

pub with_one : (u : Bool) (k a : ℕ) → (k ≡ 3 → ⊥) → u ≡ true → has_one k a ≡ has_with u k a
with_one u k a x e = rw (ne_eqb k 3 x, e)

pub with_not : (u : Bool) (k a : ℕ) → (k ≡ 3 → ⊥) → u ≡ false → false ≡ has_with u k a
with_not u k a x e = rw (ne_eqb k 3 x, e)

-- whatever the kind of values
abbrev tested : {C : Type 0} → ℕ → C → Bool → Bool → Bool → Bool → Bool → Bool → Bool → Bool → Option (RuleItem C)
tested a w k₃ u k₁ k₂ a₀ k₀ k₄ k₅ =
    cond k₃ (some (token_O a w)) (cond u (cond k₁ (some (token_X a)) (cond k₂ (some (token_G a))
    (cond a₀ (cond k₀ (some token_T) (cond k₄ (some token_A) (cond k₅ (some token_V) none))) none))) none)

pub with_any : {B : Type 0} (u : Bool) (v : B) (k a : ℕ) → has_with u k a ≡ is_some (token_with u v k a)
with_any {B} u v k a = go (eqb k 3) u (eqb k 1) (eqb k 2) (eqb a 0) (eqb k 0) (eqb k 4) (eqb k 5)
  where
    go : (k₃ u k₁ k₂ a₀ k₀ k₄ k₅ : Bool) → is_some (tested {C = ℕ} a 0 k₃ u k₁ k₂ a₀ k₀ k₄ k₅) ≡ is_some (tested {C = B} a v k₃ u k₁ k₂ a₀ k₀ k₄ k₅)
    go true u k₁ k₂ a₀ k₀ k₄ k₅ = refl
    go false false k₁ k₂ a₀ k₀ k₄ k₅ = refl
    go false true true k₂ a₀ k₀ k₄ k₅ = refl
    go false true false true a₀ k₀ k₄ k₅ = refl
    go false true false false false k₀ k₄ k₅ = refl
    go false true false false true true k₄ k₅ = refl
    go false true false false true false true k₅ = refl
    go false true false false true false false true = refl
    go false true false false true false false false = refl

pub width_least : (k : Values) → 3 ≤ width k
width_least Values.Numbered = omega arith
width_least Values.Register = omega arith

-- ---- whole nodes that have tokens

with_some : {X : Type 0} (o : Option X) (y : Option (List X)) → is_some o ≡ true → is_some (with_token o y) ≡ is_some y
with_some (some x) (some xs) h = refl
with_some (some x) none h = refl
with_some none y h = let z : ◌≡◌ {A = ℕ} 0 1 = ap (λ (b : Bool). cond b 0 1) (sym h) in absurd (omega arith)

with_none : {X : Type 0} (o : Option X) (y : Option (List X)) → is_some o ≡ false → is_some (with_token o y) ≡ false
with_none (some x) y h = let z : ◌≡◌ {A = ℕ} 0 1 = ap (λ (b : Bool). cond b 0 1) h in absurd (omega arith)
with_none none y h = refl

-- two bytes and what is behind them
here_two : (t : List ℕ) (i : ℕ) → i + 2 ≤ length t → drop i t ≡ get_or t i 0 ∷ get_or t (i + 1) 0 ∷ drop (i + 2) t
here_two t i h =
    let e : i + 1 + 1 ≡ i + 2 = omega arith in
    here t i (omega arith)
    ∙ ap (λ (z : List ℕ). get_or t i 0 ∷ z) (here t (i + 1) (omega arith) ∙ ap (λ (n : ℕ). get_or t (i + 1) 0 ∷ drop n t) e)

-- a whole node and what is behind it
pub tokens_step : (k : Values) (t : List ℕ) (i : ℕ) → i + width k ≤ length t
    → tokens_of k (drop i t) ≡ with_token (token_at k t i) (tokens_of k (drop (i + width k) t))
tokens_step Values.Numbered t i h =
    let e : i + 2 + 1 ≡ i + 3 = omega arith in
    ap node_tokens (here_two t i (omega arith) ∙ ap (λ (z : List ℕ). get_or t i 0 ∷ get_or t (i + 1) 0 ∷ z)
    (here t (i + 2) (omega arith) ∙ ap (λ (n : ℕ). get_or t (i + 2) 0 ∷ drop n t) e))
tokens_step Values.Register t i h =
    let j = i + 2 in
    let e : j + 2 + 2 ≡ i + 6 = omega arith in
    ap register_tokens (here_two t i (omega arith) ∙ ap (λ (z : List ℕ). get_or t i 0 ∷ get_or t (i + 1) 0 ∷ z)
    (here_two t j (omega arith) ∙ ap (λ (z : List ℕ). get_or t j 0 ∷ get_or t (j + 1) 0 ∷ z)
    (here_two t (j + 2) (omega arith) ∙ ap (λ (n : ℕ). get_or t (j + 2) 0 ∷ get_or t (j + 2 + 1) 0 ∷ drop n t) e)))

-- none, and bytes left over
pub tokens_none : (k : Values) → tokens_of k [] ≡ some []
tokens_none Values.Numbered = refl
tokens_none Values.Register = refl

tokens_over : (k : Values) (s : List ℕ) → 1 ≤ length s → length s < width k → is_some (tokens_of k s) ≡ false
tokens_over Values.Numbered [] h l = absurd (omega arith)
tokens_over Values.Numbered (a ∷ []) h l = refl
tokens_over Values.Numbered (a ∷ b ∷ []) h l = refl
tokens_over Values.Numbered (a ∷ b ∷ c ∷ s) h l = absurd (omega arith)
tokens_over Values.Register [] h l = absurd (omega arith)
tokens_over Values.Register (a ∷ []) h l = refl
tokens_over Values.Register (a ∷ b ∷ []) h l = refl
tokens_over Values.Register (a ∷ b ∷ c ∷ []) h l = refl
tokens_over Values.Register (a ∷ b ∷ c ∷ d ∷ []) h l = refl
tokens_over Values.Register (a ∷ b ∷ c ∷ d ∷ e ∷ []) h l = refl
tokens_over Values.Register (a ∷ b ∷ c ∷ d ∷ e ∷ f ∷ s) h l = absurd (omega arith)

module _ (k : Values) (t : List ℕ) (i : ℕ) where
  -- a node with a token, and one without
  pub some_on : i + width k ≤ length t → is_some (token_at k t i) ≡ true → is_some (tokens_of k (drop i t)) ≡ is_some (tokens_of k (drop (i + width k) t))
  some_on h e = ap is_some (tokens_step k t i h) ∙ with_some (token_at k t i) (tokens_of k (drop (i + width k) t)) e

  pub some_not : i + width k ≤ length t → is_some (token_at k t i) ≡ false → is_some (tokens_of k (drop i t)) ≡ false
  some_not h e = ap is_some (tokens_step k t i h) ∙ with_none (token_at k t i) (tokens_of k (drop (i + width k) t)) e

  pub some_over : i < length t → length t - i < width k → is_some (tokens_of k (drop i t)) ≡ false
  some_over h l = tokens_over k (drop i t) (omega (arith, length-drop i t)) (omega (arith, length-drop i t))

  pub some_end : length t ≤ i → is_some (tokens_of k (drop i t)) ≡ true
  some_end h = ap (λ (s : List ℕ). is_some (tokens_of k s)) (over t i h) ∙ ap is_some (tokens_none k)

pub is_some_true : {A : Type 0} (o : Option A) → is_some o ≡ true → IsSome o
is_some_true (some a) h = tt
is_some_true none h = let z : ◌≡◌ {A = ℕ} 0 1 = ap (λ (b : Bool). cond b 0 1) (sym h) in absurd (omega arith)

is_some_false : {A : Type 0} (o : Option A) → is_some o ≡ false → IsSome o → ⊥
is_some_false (some a) h i = let z : ◌≡◌ {A = ℕ} 0 1 = ap (λ (b : Bool). cond b 0 1) h in omega arith
is_some_false none h i = i

-- where all bytes are nodes with tokens, a whole node is left where a byte is
pub node_left : (k : Values) (s : List ℕ) → IsSome (tokens_of k s) → 1 ≤ length s → (length s < width k → ⊥)
node_left k s i l h = is_some_false (tokens_of k s) (tokens_over k s l h) i

-- ---- the text of a node, by its kind

module _ (value : List ℕ) (k a : ℕ) where
  pub text_0 : k ≡ 0 → node_text value k a ≡ 84 ∷ []
  text_0 e = rw e

  pub text_1 : k ≡ 1 → node_text value k a ≡ 88 ∷ number a
  text_1 e = rw e

  pub text_2 : k ≡ 2 → node_text value k a ≡ 71 ∷ number a
  text_2 e = rw e

  pub text_3 : k ≡ 3 → node_text value k a ≡ (79 ∷ number a) ++ (46 ∷ value)
  text_3 e = rw e

  pub text_4 : k ≡ 4 → node_text value k a ≡ 65 ∷ []
  text_4 e = rw e

  pub text_5 : k ≡ 5 → node_text value k a ≡ 86 ∷ []
  text_5 e = rw e

  pub text_not : (k ≡ 0 → ⊥) → (k ≡ 1 → ⊥) → (k ≡ 2 → ⊥) → (k ≡ 3 → ⊥) → (k ≡ 4 → ⊥) → (k ≡ 5 → ⊥) → node_text value k a ≡ []
  text_not p q r s t u = rw (ne_eqb k 0 p, ne_eqb k 1 q, ne_eqb k 2 r, ne_eqb k 3 s, ne_eqb k 4 t, ne_eqb k 5 u)
