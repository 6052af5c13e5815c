-- The items of a line and the tokens of a text, stored one by one.
use Prim.Native.Nat.{ℕ, ◌+◌, ◌-◌, ◌≤◌, ◌<◌}
use mathlib.Core.{Path.{◌≡◌, refl, sym, ap, ◌∙◌}, List.{List, [], ◌∷◌, ◌++◌}, Bool.{Bool, true, false}}
use native.Mathlib.Omega.{arith}
use borrow.Author.Tests.{eqb-true, ne_eqb}
use lib.{Dec.{eqb}, ListN.{length, drop, length-append, length-drop}}
use Rattle.text_format.specs.Format.{Parsed, ok, bad, bind, Format, Laws, Outcome, contents, refused, at_end, outcome}
use Rattle.text_format.specs.{Combinators.{word, keyed}, Series.{Separator, space, newline, number_item, series}}
use Rattle.text_format.proofs.{Combinators.{not_both}, Series.{shorter, number_item_laws, number_item_solid}}
use Rattle.std.specs.Result.{result_ok}
use Rattle.std.specs.Prelude.{Option, Some, None, Result, Ok, Err}
use Rattle.text_output.specs.Output.{Puts}
use Rattle.channel_file.specs.{ChannelFile.{RuleItem, token_T, encoded}, Reading.{read_closed}}
use Rattle.channel_file.specs.Bytes.{entry, put_front, token_reply, stored_nodes, ReadsTokens}
use Rattle.channel_file.specs.Steps.{ValueOf, value_format, unused, code, item_format, items_format}
use Rattle.channel_file.specs.Steps.{Saw, counted, left, with_separator, StoresItems, StoresTokens}
use Rattle.channel_file.specs.declared.Values.{Values}
use Rattle.channel_file.proofs.{RuleItems.{item_laws, item_solid, T_fits}, FileFormat.{zero_fits}, RegisterFormat.{masks_laws}}
use Rattle.channel_file.proofs.Offsets.{item_forward, keyed_bad, keyed_on, listed}
use Rattle.channel_file.proofs.Reading.{not_both_ways}
use Rattle.channel_file.proofs.Buffers.{Took, took_none, took_next, took_last, took_bad, Last}

-- ---- items from an offset on, of which those up to i are stored

-- What is known of items that are stored: their format with its laws, and their codes.
pub record ItemKind (A : Type 0) : Type 1 where
  pub item : Format (A × Separator)
  pub one : A
  pub laws : Laws item
  pub solid : (p : A × Separator) → 0 < length (item.print p)
  pub one_fits : item.Fits (one, newline)
  pub code : A → List ℕ

abbrev pub meet_entries : ItemKind ℕ
meet_entries =
    record { item = number_item 2; one = 0; laws = number_item_laws 2; solid = number_item_solid 2; one_fits = zero_fits; code = entry }

pub value_laws : (k : Values) → Laws (value_format k)
value_laws Values.Numbered = number_item_laws 2
value_laws Values.Register = masks_laws

abbrev pub rule_items : (k : Values) → ItemKind (RuleItem (ValueOf k))
rule_items k =
    record {
      item = item_format k;
      one = token_T;
      laws = item_laws (value_format k) (unused k) (value_laws k);
      solid = item_solid (value_format k) (unused k);
      one_fits = T_fits (value_format k) (unused k);
      code = code k;
    }

pub token_forward : (k : Values) (t : List ℕ) (i m : ℕ) (p : RuleItem (ValueOf k) × Separator) → m ≤ length t
    → (item_format k).parse (drop i t) ≡ ok p (drop m t) → i < m
token_forward k = let K = rule_items k in item_forward K.item K.one K.laws K.solid K.one_fits

module _ {A : Type 0} (K : ItemKind A) (t : List ℕ) (at : ℕ) where
  abbrev pub TookItems : ℕ → List ℕ → List ℕ → ℕ → ℕ → Type 0
  TookItems i old new n k = Took K.item K.one K.laws K.solid K.one_fits K.code (drop at t) (drop i t) old new n k

  pub items_none : (old : List ℕ) → Puts old [] old 0 0 → TookItems at old old 0 0
  items_none old p = took_none K.item K.one K.laws K.solid K.one_fits K.code (drop at t) old p

  module _ (i : ℕ) {old new : List ℕ} {n k : ℕ} (g : TookItems i old new n k) where
    pub items_stuck : (p : ℕ) → Saw (K.item.parse (drop i t)) (bad (drop p t)) t p
        → StoresItems (series K.item K.one) K.code t at old new (Err p)
    items_stuck p q =
        let e = took_bad K.item K.one K.laws K.solid K.one_fits K.code (drop p t) g q.same in
        record { reply = record { same = ap (counted 0) e; within = q.within }; buffer = λ xs rest f. not_both f e }

    module _ (a : A) (m : ℕ) {new' : List ℕ} {q : ℕ} (p : Puts new (K.code a) new' k q) where
      pub items_next : Saw (K.item.parse (drop i t)) (ok (a, space) (drop m t)) t m → TookItems m old new' (n + 1) q
      items_next s = took_next K.item K.one K.laws K.solid K.one_fits K.code a (drop m t) g s.same p

      pub items_end : Saw (K.item.parse (drop i t)) (ok (a, newline) (drop m t)) t m
          → StoresItems (series K.item K.one) K.code t at old new' (Ok (n + 1, m))
      items_end s =
          let l = took_last K.item K.one K.laws K.solid K.one_fits K.code a (drop m t) g s.same p in
          let c : n + 1 ≡ length l.items = l.count in
          let d : 0 + length l.items ≡ n + 1 = omega arith in
          record {
            reply = record { same = ap (counted 0) l.same ∙ ap (λ (z : ℕ). ok z (drop m t)) d; within = s.within };
            buffer = λ xs rest f.
                let e : ok l.items (drop m t) ≡ ok xs rest = sym l.same ∙ f in
                let same : l.items ≡ xs = cc in
                l.bytes ∙ ap (λ (z : List A). put_front (encoded K.code z) old) same;
          }

-- a key in front of them
pub items_unkeyed : {A : Type 0} (key : List ℕ) (F : Format (List A)) (code : A → List ℕ) (t : List ℕ) (at p : ℕ) (old : List ℕ)
    → Saw ((word key).parse (drop at t)) (bad (drop p t)) t p → StoresItems (keyed key F) code t at old old (Err p)
items_unkeyed key F code t at p old q =
    let e = keyed_bad key F (drop at t) (drop p t) q.same in
    record { reply = record { same = ap (counted 0) e; within = q.within }; buffer = λ xs rest f. not_both f e }

pub items_keyed : {A : Type 0} (key : List ℕ) (F : Format (List A)) (code : A → List ℕ) (t : List ℕ) (at a : ℕ) {old new : List ℕ}
    → (word key).parse (drop at t) ≡ ok tt (drop a t)
    → (r : Result (ℕ × ℕ) ℕ) → StoresItems F code t a old new r → StoresItems (keyed key F) code t at old new r
items_keyed key F code t at a e r h =
    record {
      reply = listed key F t at a e r h.reply;
      buffer = λ xs rest f. h.buffer xs rest (sym (keyed_on key F (drop at t) (drop a t) e) ∙ f);
    }

-- what was read, from the Option that is made of it
pub was_ok : {A E : Type 0} (r : Result A E) {a : A} → Some a ≡ result_ok r → r ≡ Ok a
was_ok (Ok b) e = cc
was_ok (Err d) e = cc

pub was_err : {A E : Type 0} (r : Result A E) → None ≡ result_ok r → (d : E) × (r ≡ Err d)
was_err (Ok b) e = cc
was_err (Err d) e = (d, refl)

-- ---- the tokens of a text, of which those up to i are stored
module _ (k : Values) where
  abbrev K : ItemKind (RuleItem (ValueOf k))
  K = rule_items k

  abbrev Tokens : Type 0
  Tokens = List (RuleItem (ValueOf k))

  -- what is read of the whole text
  abbrev all_read : List ℕ → Outcome Tokens
  all_read t = read_closed (items_format k) t

  abbrev pub TookTokens : List ℕ → ℕ → List ℕ → List ℕ → ℕ → ℕ → Type 0
  TookTokens t i old new n q =
      Took K.item K.one K.laws K.solid K.one_fits K.code (left true t 0) (left true t i) old new n q

  pub tokens_none : (t old : List ℕ) → Puts old [] old 0 0 → TookTokens t 0 old old 0 0
  tokens_none t old p = took_none K.item K.one K.laws K.solid K.one_fits K.code (left true t 0) old p

  answered : (t : List ℕ) (y : Parsed Tokens) → (items_format k).parse (left true t 0) ≡ y
      → all_read t ≡ outcome (left true t 0) (bind y (λ a r. at_end a r))
  answered t y e = ap (λ (z : Parsed Tokens). outcome (left true t 0) (bind z (λ a r. at_end a r))) e

  left_over : (s : List ℕ) (xs : Tokens) (r : List ℕ) → 0 < length r → outcome s (at_end xs r) ≡ refused (length s - length r)
  left_over s xs [] h = absurd (omega arith)
  left_over s xs (b ∷ r) h = refl

  malformed : (t old new : List ℕ) (p : ℕ) → all_read t ≡ refused p → StoresTokens (code k) (all_read t) old new None
  malformed t old new p e = record { reply = sym (ap token_reply e); buffer = λ xs f. not_both_ways (all_read t) p xs e f }

  module _ (t : List ℕ) (i : ℕ) {old new : List ℕ} {n q : ℕ} (g : TookTokens t i old new n q) where
    pub tokens_stuck : (any r : List ℕ) → (item_format k).parse (left true t i) ≡ bad r
        → StoresTokens (code k) (all_read t) old any None
    tokens_stuck any r e =
        malformed t old any _ (answered t (bad r) (took_bad K.item K.one K.laws K.solid K.one_fits K.code r g e))

    module _ (x : RuleItem (ValueOf k)) (m : ℕ) (e : (item_format k).parse (left true t i) ≡ with_separator x (left true t m))
        {new' : List ℕ} {q' : ℕ} (p : Puts new (code k x) new' q q') where
      -- a space
      spaced : drop m t ≡ 32 ∷ drop (m + 1) t → (item_format k).parse (left true t i) ≡ ok (x, space) (left true t (m + 1))
      spaced h = e ∙ ap (λ (s : List ℕ). with_separator x (s ++ (10 ∷ []))) h

      pub tokens_next : drop m t ≡ 32 ∷ drop (m + 1) t → TookTokens t (m + 1) old new' (n + 1) q'
      tokens_next h = took_next K.item K.one K.laws K.solid K.one_fits K.code x (left true t (m + 1)) g (spaced h) p

      -- and reading goes on
      pub tokens_forward : drop m t ≡ 32 ∷ drop (m + 1) t → i ≤ length t → i < m + 1
      tokens_forward h w =
          let l : length (left true t (m + 1)) < length (left true t i) =
          shorter K.item K.one K.laws K.solid K.one_fits (left true t i) (x, space) (left true t (m + 1)) (spaced h) in
          omega (arith, length-append (drop (m + 1) t) (10 ∷ []), length-append (drop i t) (10 ∷ []), length-drop (m + 1) t, length-drop i t)

      last : (r : List ℕ) → with_separator x (left true t m) ≡ ok (x, newline) r
          → Last K.item K.one K.laws K.solid K.one_fits K.code (left true t 0) old new' r (n + 1)
      last r f = took_last K.item K.one K.laws K.solid K.one_fits K.code x r g (e ∙ f) p

      -- the end
      pub tokens_end : drop m t ≡ [] → StoresTokens (code k) (all_read t) old new' (Some (n + 1))
      tokens_end h =
          let l = last [] (ap (λ (s : List ℕ). with_separator x (s ++ (10 ∷ []))) h) in
          let f : all_read t ≡ contents l.items = answered t (ok l.items []) l.same in
          record {
            reply = ap (λ (z : ℕ). Some z) l.count ∙ sym (ap token_reply f);
            buffer = λ xs f'.
                let d : contents l.items ≡ contents xs = sym f ∙ f' in
                let same : l.items ≡ xs = cc in
                l.bytes ∙ ap (λ (z : Tokens). put_front (encoded (code k) z) old) same;
          }

      -- any other byte: byte 10, behind which something is left, or one that is no separator
      pub tokens_cut : (b : ℕ) → drop m t ≡ b ∷ drop (m + 1) t → ¬ (b ≡ 32) → StoresTokens (code k) (all_read t) old new' None
      tokens_cut b h other = go (eqb b 10) refl
        where
          go : (f : Bool) → eqb b 10 ≡ f → StoresTokens (code k) (all_read t) old new' None
          go true d =
              let r = drop (m + 1) t ++ (10 ∷ []) in
              let is : drop m t ≡ 10 ∷ drop (m + 1) t = h ∙ ap (λ (z : ℕ). z ∷ drop (m + 1) t) (eqb-true b 10 d) in
              let l = last r (ap (λ (s : List ℕ). with_separator x (s ++ (10 ∷ []))) is) in
              malformed t old new' _ (answered t (ok l.items r) l.same
              ∙ left_over (left true t 0) l.items r (omega (arith, length-append (drop (m + 1) t) (10 ∷ []))))
          go false d = tokens_stuck new' (left true t m) (e ∙ rw (h, d, ne_eqb b 32 other))

-- ---- a text of tokens, read once for its form and once to store it
module _ {A : Type 0} (code : A → List ℕ) where
  pub reads_none : (x : Outcome (List A)) (old : List ℕ) → None ≡ token_reply x → ReadsTokens code x old old None
  reads_none x old e = record { reply = e; buffer = go x e }
    where
      go : (x : Outcome (List A)) → None ≡ token_reply x → old ≡ stored_nodes code x old
      go (contents xs) e = let z : ◌≡◌ {A = ℕ} 0 1 = cc in absurd (omega arith)
      go (refused p) e = refl

  pub reads_all : (x : Outcome (List A)) (old new : List ℕ) (r : Option ℕ) (n : ℕ) → Some n ≡ token_reply x → StoresTokens code x old new r
      → ReadsTokens code x old new r
  reads_all x old new r n e s = record { reply = s.reply; buffer = go x refl e }
    where
      go : (y : Outcome (List A)) → x ≡ y → Some n ≡ token_reply y → new ≡ stored_nodes code y old
      go (contents xs) f e = s.buffer xs f
      go (refused p) f e = let z : ◌≡◌ {A = ℕ} 0 1 = cc in absurd (omega arith)
