-- A list put into a buffer, word by word.
use Prim.Native.Nat.{ℕ, ◌≤◌, ◌<◌, min}
use mathlib.Core.{Path.{◌≡◌, refl, sym, ap, ◌∙◌, subst}, List.{List, [], ◌∷◌, ◌++◌}}
use Rattle.std.specs.Prelude.{Option, Some, None, option_map, Result, Ok}
use native.Mathlib.Omega.{arith}
use lib.ListN.{length}
use borrow.Author.Tests.{le-ltb}
use Rattle.refusal.specs.Refusal.{put}
use Rattle.text_output.specs.Output.{offset_limit, Puts}
use Rattle.text_output.proofs.Outputs.{puts_none, puts_then, puts_again}
use Rattle.channel_file.specs.Bytes.{clamp}
use Rattle.values.specs.Setup.{mask_bytes}
use Rattle.command_line.specs.declared.{Item.{Item}, ListError.{ListError}}
use Rattle.command_line.specs.{Words.{words}, Numbers.{number_of, number_limit, capped}, Steps.{PutsAny, malformed, puts}}
use Rattle.command_line.specs.Lists.{clamp_mask, and_then, low_part, high_part, item_of, items_from, list_of, listed, buffer_after, Lists}
use Rattle.command_line.proofs.Numbers.{number_value, no_number}

-- ---- answers taken apart

module _ {old new : List ℕ} {at : ℕ} where
  pub puts_some : {o : Option (List ℕ)} {u : List ℕ} {n : ℕ} → o ≡ Some u → Puts old u new at n → PutsAny old new at o (Some n)
  puts_some e p = rw e (puts p)

  pub puts_malformed : {o : Option (List ℕ)} → o ≡ None → PutsAny old new at o None
  puts_malformed e = rw e malformed

pub record IsPut (old new : List ℕ) (at : ℕ) (o : Option (List ℕ)) (n : ℕ) : Type 0 where
  pub list : List ℕ
  pub same : o ≡ Some list
  pub put : Puts old list new at n

module _ {old new : List ℕ} {at : ℕ} where
  pub was_put : {o : Option (List ℕ)} {r : Option ℕ} (n : ℕ) → PutsAny old new at o r → r ≡ Some n → IsPut old new at o n
  was_put n malformed e = let z : ◌≡◌ {A = ℕ} 0 1 = cc in absurd (omega arith)
  was_put n (puts {bytes = bytes} {n = m} p) e =
      let d : m ≡ n = cc in
      record { list = bytes; same = refl; put = subst (Puts old bytes new at) d p }

  pub not_put : {o : Option (List ℕ)} {r : Option ℕ} → PutsAny old new at o r → r ≡ None → o ≡ None
  not_put malformed e = refl
  not_put (puts p) e = let z : ◌≡◌ {A = ℕ} 0 1 = cc in absurd (omega arith)

-- ---- one word

-- a number that is kept up to the limit, cut to its bytes
pub clamp_kept : (o : Option ℕ) (x : ℕ) → Some x ≡ option_map capped o → and_then o (λ v. Some (clamp v ∷ [])) ≡ Some (clamp x ∷ [])
clamp_kept o x e =
    let u = number_value o x e in
    let c : clamp u.value ≡ clamp x = let d : x ≡ min u.value number_limit = u.kept in omega arith in
    ap (λ (p : Option ℕ). and_then p (λ v. Some (clamp v ∷ []))) u.same ∙ ap (λ (v : ℕ). Some (v ∷ [])) c

pub number_item : (w : List ℕ) (x : ℕ) → Some x ≡ option_map capped (number_of w) → item_of Item.Number w ≡ Some (clamp x ∷ [])
unfolding item_of
number_item w x e = clamp_kept (number_of w) x e

pub no_number_item : (w : List ℕ) → None ≡ option_map capped (number_of w) → item_of Item.Number w ≡ None
unfolding item_of
no_number_item w e = rw (no_number (number_of w) e)

mask_kept : (o : Option ℕ) (x : ℕ) → Some x ≡ option_map capped o → (f : ℕ → Option (List ℕ)) → and_then o (λ l. f (clamp_mask l)) ≡ f (clamp_mask x)
mask_kept o x e f =
    let u = number_value o x e in
    let c : clamp_mask u.value ≡ clamp_mask x = let d : x ≡ min u.value number_limit = u.kept in omega arith in
    ap (λ (p : Option ℕ). and_then p (λ l. f (clamp_mask l))) u.same ∙ ap f c

module _ (w : List ℕ) where
  pub value_item : (x y : ℕ) → Some x ≡ option_map capped (number_of (low_part w)) → Some y ≡ option_map capped (number_of (high_part w))
      → item_of Item.Value w ≡ Some (mask_bytes (clamp_mask x) ++ mask_bytes (clamp_mask y))
  unfolding item_of
  value_item x y a b =
      mask_kept (number_of (low_part w)) x a (λ l. and_then (number_of (high_part w)) (λ h. Some (mask_bytes l ++ mask_bytes (clamp_mask h))))
      ∙ mask_kept (number_of (high_part w)) y b (λ h. Some (mask_bytes (clamp_mask x) ++ mask_bytes h))

  pub no_low_item : None ≡ option_map capped (number_of (low_part w)) → item_of Item.Value w ≡ None
  unfolding item_of
  no_low_item e = rw (no_number (number_of (low_part w)) e)

  pub no_high_item : None ≡ option_map capped (number_of (high_part w)) → item_of Item.Value w ≡ None
  unfolding item_of
  no_high_item e = rw (no_number (number_of (high_part w)) e) (none_either (number_of (low_part w)))
    where
      none_either : (o : Option ℕ) → and_then o (λ l. None) ≡ None
      none_either None = refl
      none_either (Some l) = refl

-- ---- a list: the bytes of the words passed were put, and behind them those of the words ahead are due

pub record Putting (first : Item) (text old new : List ℕ) (this that : Item) (ahead : List (List ℕ)) (n : ℕ) : Type 0 where
  pub list : List ℕ
  pub same : items_from this that list ahead ≡ list_of first text
  pub put : Puts old list new 0 n

module _ (first : Item) (text old : List ℕ) where
  pub putting_none : length old < offset_limit → Putting first text old old first Item.Number (words text) 0
  unfolding list_of
  putting_none b = record { list = []; same = refl; put = puts_none old 0 b (omega arith) }

  module _ (new : List ℕ) (this that : Item) (n : ℕ) where
    pub putting_done : Putting first text old new this that [] n → PutsAny old new 0 (list_of first text) (Some n)
    unfolding items_from
    putting_done p = puts_some (sym p.same) p.put

    module _ (w : List ℕ) (ws : List (List ℕ)) (p : Putting first text old new this that (w ∷ ws) n) where
      ahead_is : (o : Option (List ℕ)) → item_of this w ≡ o → and_then o (λ u. items_from that this (p.list ++ u) ws) ≡ list_of first text
      unfolding items_from
      ahead_is o e = ap (λ (x : Option (List ℕ)). and_then x (λ u. items_from that this (p.list ++ u) ws)) (sym e) ∙ p.same

      pub putting_more : (m : ℕ) (newer : List ℕ) → IsPut new newer n (item_of this w) m → Putting first text old newer that this ws m
      putting_more m newer i = record { list = p.list ++ i.list; same = ahead_is (Some i.list) i.same; put = puts_then p.put i.put }

      pub putting_bad : item_of this w ≡ None → list_of first text ≡ None
      putting_bad e = sym (ahead_is None e)

-- ---- answer and buffer: the bytes are put into an empty buffer, which tells how many there are, and then into the lent one

abbrev ok_of : ℕ → Result ℕ ListError
ok_of k = Ok k

module _ (first : Item) (text old : List ℕ) where
  module _ {l l' : List ℕ} (n : ℕ) (i : IsPut l l' 0 (list_of first text) n) where
    lists_put : (new u : List ℕ) (m : ℕ) → n ≤ length old → list_of first text ≡ Some u → Puts old u new 0 m → Lists first text old new (Ok n)
    unfolding put
    lists_put new u m h e p =
        let d : i.list ≡ u = let f = i.same in cc in
        let a = puts_again (rw d at i.put) h p in
        let g = le-ltb (length old) (length u) a.1 in
        record {
          answer = ap ok_of a.0.behind ∙ sym (ap (λ (o : Option (List ℕ)). listed o old) e ∙ rw g);
          buffer = a.0.whole ∙ sym (ap (λ (o : Option (List ℕ)). buffer_after o old) e ∙ rw g);
        }

    pub lists_stored : (new : List ℕ) (r : Option ℕ) → n ≤ length old → PutsAny old new 0 (list_of first text) r → Lists first text old new (Ok n)
    lists_stored new r h k = go (list_of first text) refl r k
      where
        go : (o : Option (List ℕ)) → list_of first text ≡ o → (r : Option ℕ) → PutsAny old new 0 o r → Lists first text old new (Ok n)
        go None e r malformed = let f = i.same in let z : ◌≡◌ {A = ℕ} 0 1 = cc in absurd (omega arith)
        go (Some u) e r (puts {n = m} p) = lists_put new u m h e p
