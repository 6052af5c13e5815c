-- The texts of series from an item on.
use Prim.Native.Nat.{ℕ, ◌+◌, ◌≤◌, ◌<◌}
use mathlib.Core.{Path.{◌≡◌, refl, sym, ap, ◌∙◌, subst}, List.{List, [], ◌∷◌, ◌++◌, append_assoc}, Bool.{Bool, true, false, cond}}
use mathlib.Core.Option.{Option, some, none}
use native.Mathlib.Omega.{arith}
use lib.{Dec.{eqb, ltb}, ListN.{length, drop, get_or, length-drop}}
use borrow.Author.Tests.{eqb-true, ltb-true, ltb-false}
use Rattle.text_format.specs.Series.{Separator, space, newline, separator_byte}
use Rattle.text_format.specs.Texts.{numeral}
use Rattle.text_output.specs.Output.{Puts}
use Rattle.text_output.proofs.Outputs.{puts_as, puts_rest, numeral_within}
use Rattle.channel_file.specs.ChannelFile.{RuleItem, token_T, token_A, token_V, token_X, token_G, token_O, number, item_text}
use Rattle.channel_file.specs.{FileFormat.{entries}, RegisterFile.{mask}, Steps.{ValueOf, value_format, unused, item_format, items_format}}
use Rattle.channel_file.specs.declared.Values.{Values}
use Rattle.channel_file.proofs.{RuleItems.{item_print}, RegisterFormat.{masks_print}, Offsets.{here, over}}
use Rattle.channel_writer.specs.Writing.{bare_token, token_of_one, token_with, node_token, with_token}
use Rattle.channel_writer.specs.RegisterWriting.{mask_of, masks_of, node_token as register_token}
use Rattle.channel_writer.specs.Steps.{node_text, IsSome, items_of, width, value_at, value_text, is_unused, token_at, tokens_of, node_at, nodes_text, behind}
use Rattle.channel_writer.proofs.Nodes.{tokens_step, tokens_none, node_left}

-- ---- the byte behind an item

pub behind_at : (s : List ℕ) (j : ℕ) → behind (drop j s) ≡ cond (ltb j (length s)) 32 10
behind_at s j = go (ltb j (length s)) refl
  where
    go : (t : Bool) → ltb j (length s) ≡ t → behind (drop j s) ≡ cond t 32 10
    go true e = ap behind (here s j (ltb-true j (length s) e))
    go false e = ap behind (over s j (ltb-false j (length s) e))

-- ---- entries

pub entries_step : (v : ℕ) (s : List ℕ) → entries.print (v ∷ s) ≡ number v ++ (behind s ∷ entries.print s)
entries_step v [] = refl
entries_step v (u ∷ s) = append_assoc (number v) (32 ∷ []) (entries.print (u ∷ s))

-- ---- tokens

-- a node's text is its token's
module _ {B : Type 0} (value : B → List ℕ) (v : B) (k a : ℕ) (x : RuleItem B) where
  bare_text : bare_token k ≡ some x → node_text (value v) k a ≡ item_text value x
  bare_text h = go (eqb k 0) refl h
    where
      go₅ : (t : Bool) → eqb k 5 ≡ t → cond t (some token_V) none ≡ some x → node_text (value v) k a ≡ item_text value x
      go₅ true e h = let ex : token_V ≡ x = cc in rw (eqb-true k 5 e) (ap (item_text value) ex)
      go₅ false e h = let z : ◌≡◌ {A = ℕ} 0 1 = cc in absurd (omega arith)

      go₄ : (t : Bool) → eqb k 4 ≡ t → cond t (some token_A) (cond (eqb k 5) (some token_V) none) ≡ some x
          → node_text (value v) k a ≡ item_text value x
      go₄ true e h = let ex : token_A ≡ x = cc in rw (eqb-true k 4 e) (ap (item_text value) ex)
      go₄ false e h = go₅ (eqb k 5) refl h

      go : (t : Bool) → eqb k 0 ≡ t → cond t (some token_T) (cond (eqb k 4) (some token_A) (cond (eqb k 5) (some token_V) none)) ≡ some x
          → node_text (value v) k a ≡ item_text value x
      go true e h = let ex : token_T ≡ x = cc in rw (eqb-true k 0 e) (ap (item_text value) ex)
      go false e h = go₄ (eqb k 4) refl h

  one_text : token_of_one k a ≡ some x → node_text (value v) k a ≡ item_text value x
  one_text h = go (eqb k 1) refl h
    where
      go₀ : (t : Bool) → cond t (bare_token k) none ≡ some x → node_text (value v) k a ≡ item_text value x
      go₀ true h = bare_text h
      go₀ false h = let z : ◌≡◌ {A = ℕ} 0 1 = cc in absurd (omega arith)

      go₂ : (t : Bool) → eqb k 2 ≡ t → cond t (some (token_G a)) (cond (eqb a 0) (bare_token k) none) ≡ some x
          → node_text (value v) k a ≡ item_text value x
      go₂ true e h = let ex : token_G a ≡ x = cc in rw (eqb-true k 2 e) (ap (item_text value) ex)
      go₂ false e h = go₀ (eqb a 0) h

      go : (t : Bool) → eqb k 1 ≡ t → cond t (some (token_X a)) (cond (eqb k 2) (some (token_G a)) (cond (eqb a 0) (bare_token k) none)) ≡ some x
          → node_text (value v) k a ≡ item_text value x
      go true e h = let ex : token_X a ≡ x = cc in rw (eqb-true k 1 e) (ap (item_text value) ex)
      go false e h = go₂ (eqb k 2) refl h

  pub token_node_text : (u : Bool) → token_with u v k a ≡ some x → node_text (value v) k a ≡ item_text value x
  token_node_text u h = go (eqb k 3) refl h
    where
      go₀ : (t : Bool) → cond t (token_of_one k a) none ≡ some x → node_text (value v) k a ≡ item_text value x
      go₀ true h = one_text h
      go₀ false h = let z : ◌≡◌ {A = ℕ} 0 1 = cc in absurd (omega arith)

      go : (t : Bool) → eqb k 3 ≡ t → cond t (some (token_O a v)) (cond u (token_of_one k a) none) ≡ some x
          → node_text (value v) k a ≡ item_text value x
      go true e h = let ex : token_O a v ≡ x = cc in rw (eqb-true k 3 e) (ap (item_text value) ex)
      go false e h = go₀ u h

-- an item prints its text
value_prints : (k : Values) (v : ValueOf k) (e : Separator) → (value_format k).print (v, e) ≡ value_text k v ++ (separator_byte e ∷ [])
value_prints Values.Numbered v e = refl
value_prints Values.Register m e = masks_print m e

pub token_print : (k : Values) (x : RuleItem (ValueOf k)) (e : Separator)
    → (item_format k).print (x, e) ≡ item_text (value_text k) x ++ (separator_byte e ∷ [])
token_print k = item_print (value_format k) (unused k) (value_text k) (value_prints k)

-- tokens are left where bytes are
left₀ : {X : Type 0} (o : Option X) (y : Option (List X)) → with_token o y ≡ some [] → ⊥
left₀ (some x) (some xs) h = let z : ◌≡◌ {A = ℕ} 0 1 = cc in omega arith
left₀ (some x) none h = let z : ◌≡◌ {A = ℕ} 0 1 = cc in omega arith
left₀ none y h = let z : ◌≡◌ {A = ℕ} 0 1 = cc in omega arith

pub none_left : (k : Values) (s : List ℕ) → tokens_of k s ≡ some [] → s ≡ []
none_left k [] h = refl
none_left Values.Numbered (a ∷ []) h = let z : ◌≡◌ {A = ℕ} 0 1 = cc in absurd (omega arith)
none_left Values.Numbered (a ∷ b ∷ []) h = let z : ◌≡◌ {A = ℕ} 0 1 = cc in absurd (omega arith)
none_left Values.Numbered (a ∷ b ∷ c ∷ s) h = absurd (left₀ (node_token a b c) (tokens_of Values.Numbered s) h)
none_left Values.Register (a ∷ []) h = let z : ◌≡◌ {A = ℕ} 0 1 = cc in absurd (omega arith)
none_left Values.Register (a ∷ b ∷ []) h = let z : ◌≡◌ {A = ℕ} 0 1 = cc in absurd (omega arith)
none_left Values.Register (a ∷ b ∷ c ∷ []) h = let z : ◌≡◌ {A = ℕ} 0 1 = cc in absurd (omega arith)
none_left Values.Register (a ∷ b ∷ c ∷ d ∷ []) h = let z : ◌≡◌ {A = ℕ} 0 1 = cc in absurd (omega arith)
none_left Values.Register (a ∷ b ∷ c ∷ d ∷ e ∷ []) h = let z : ◌≡◌ {A = ℕ} 0 1 = cc in absurd (omega arith)
none_left Values.Register (a ∷ b ∷ c ∷ d ∷ e ∷ f ∷ s) h = absurd (left₀ (register_token a b (masks_of (mask_of c d) (mask_of e f)))
    (tokens_of Values.Register s) h)

some_left : (k : Values) (s : List ℕ) (x : RuleItem (ValueOf k)) (xs : List (RuleItem (ValueOf k))) → tokens_of k s ≡ some (x ∷ xs) → behind s ≡ 32
some_left k [] x xs h = let f = sym (tokens_none k) ∙ h in let z : ◌≡◌ {A = ℕ} 0 1 = cc in absurd (omega arith)
some_left k (b ∷ s) x xs h = refl

module _ (k : Values) (n : List ℕ) (s : List ℕ) where
  nodes_step₁ : (x : RuleItem (ValueOf k)) → n ≡ item_text (value_text k) x → (y : Option (List (RuleItem (ValueOf k)))) → tokens_of k s ≡ y
      → IsSome (with_token (some x) y)
      → IsSome y × ((items_format k).print (items_of (with_token (some x) y)) ≡ n ++ (behind s ∷ (items_format k).print (items_of y)))
  nodes_step₁ x e (some []) f h =
      (tt, token_print k x newline ∙ ap (λ (z : List ℕ). z ++ (10 ∷ [])) (sym e) ∙ ap (λ (z : List ℕ). n ++ (behind z ∷ [])) (sym (none_left k s f)))
  nodes_step₁ x e (some (x' ∷ xs)) f h = (
    tt,
    ap (λ (z : List ℕ). z ++ (items_format k).print (x' ∷ xs)) (token_print k x space ∙ ap (λ (z : List ℕ). z ++ (32 ∷ [])) (sym e))
        ∙ append_assoc n (32 ∷ []) ((items_format k).print (x' ∷ xs))
        ∙ ap (λ (z : ℕ). n ++ (z ∷ (items_format k).print (x' ∷ xs))) (sym (some_left k s x' xs f)),
  )
  nodes_step₁ x e none f h = absurd h

  nodes_step₀ : (o : Option (RuleItem (ValueOf k))) → ((x : RuleItem (ValueOf k)) → o ≡ some x → n ≡ item_text (value_text k) x)
      → IsSome (with_token o (tokens_of k s))
      → IsSome (tokens_of k s) × ((items_format k).print (items_of (with_token o (tokens_of k s))) ≡ n ++ (behind s ∷ nodes_text k s))
  nodes_step₀ (some x) e h = nodes_step₁ x (e x refl) (tokens_of k s) refl h
  nodes_step₀ none e h = absurd h

-- ---- an item and the byte behind it

pub entries_at : (s : List ℕ) (j b : ℕ) → j < length s → b ≡ cond (ltb (j + 1) (length s)) 32 10
    → entries.print (drop j s) ≡ number (get_or s j 0) ++ (b ∷ entries.print (drop (j + 1) s))
entries_at s j b h e =
    ap entries.print (here s j h) ∙ entries_step (get_or s j 0) (drop (j + 1) s)
    ∙ ap (λ (x : ℕ). number (get_or s j 0) ++ (x ∷ entries.print (drop (j + 1) s))) (behind_at s (j + 1) ∙ sym e)

module _ (k : Values) (s : List ℕ) (j : ℕ) (some_tokens : IsSome (tokens_of k (drop j s))) (h : j < length s) where
  pub whole_node : j + width k ≤ length s
  whole_node =
      let l = node_left k (drop j s) some_tokens (omega (arith, length-drop j s)) in
      go (ltb (length (drop j s)) (width k)) refl l
    where
      go : (t : Bool) → ltb (length (drop j s)) (width k) ≡ t → (length (drop j s) < width k → ⊥) → j + width k ≤ length s
      go true e l = absurd (l (ltb-true (length (drop j s)) (width k) e))
      go false e l = omega (arith, length-drop j s, ltb-false (length (drop j s)) (width k) e)

  step : IsSome (tokens_of k (drop (j + width k) s))
      × ((items_format k).print (items_of (with_token (token_at k s j) (tokens_of k (drop (j + width k) s))))
      ≡ node_at k s j ++ (behind (drop (j + width k) s) ∷ nodes_text k (drop (j + width k) s)))
  step =
      nodes_step₀ k (node_at k s j) (drop (j + width k) s) (token_at k s j)
      (λ x e. token_node_text (value_text k) (value_at k s (j + 2)) (get_or s j 0) (get_or s (j + 1) 0) x (is_unused k (value_at k s (j + 2))) e)
      (subst (λ (o : Option (List (RuleItem (ValueOf k)))). IsSome o) (tokens_step k s j whole_node) some_tokens)

  pub tokens_on : IsSome (tokens_of k (drop (j + width k) s))
  tokens_on = step.0

  pub nodes_at : (b : ℕ) {w : ℕ} → w ≡ width k → b ≡ cond (ltb (j + w) (length s)) 32 10
      → nodes_text k (drop j s) ≡ node_at k s j ++ (b ∷ nodes_text k (drop (j + w) s))
  nodes_at b {w} z e =
      ap (λ (o : Option (List (RuleItem (ValueOf k)))). (items_format k).print (items_of o)) (tokens_step k s j whole_node) ∙ step.1
      ∙ ap (λ (n : ℕ). node_at k s j ++ (behind (drop (j + n) s) ∷ nodes_text k (drop (j + n) s))) (sym z)
      ∙ ap (λ (x : ℕ). node_at k s j ++ (x ∷ nodes_text k (drop (j + w) s))) (behind_at s (j + w) ∙ sym e)

-- behind the last node
pub nothing_left : (k : Values) (s : List ℕ) (j : ℕ) → length s ≤ j → nodes_text k (drop j s) ≡ []
nothing_left k s j h =
    ap (nodes_text k) (over s j h) ∙ ap (λ (o : Option (List (RuleItem (ValueOf k)))). (items_format k).print (items_of o)) (tokens_none k)

-- ---- numbers of one byte

pub small_numeral : (key : List ℕ) (x v : ℕ) → x ≡ v → x < 256 → key ++ numeral x ≡ key ++ number v
small_numeral key x v e h = ap (λ (s : List ℕ). key ++ s) (numeral_within 17 2 x refl (omega arith) ∙ ap number e)

pub mask_numeral : (m : ℕ) → m < 65536 → 46 ∷ numeral m ≡ 46 ∷ mask m
mask_numeral m h = ap (λ (s : List ℕ). 46 ∷ s) (numeral_within 15 4 m refl (omega arith))

-- an item and the byte behind it are put: what is left gives what was to be given
pub item_put : {l T l' l'' rest : List ℕ} {i z n r : ℕ} (s : List ℕ) (b : ℕ) (u : List ℕ) → rest ≡ s ++ (b ∷ u) → Puts l rest T i z
    → Puts l s l' i n → Puts l' (b ∷ []) l'' n r → Puts l'' u T r z
item_put s b u e g h k = puts_rest (b ∷ []) u (puts_rest s (b ∷ u) (puts_as e g) h) k
