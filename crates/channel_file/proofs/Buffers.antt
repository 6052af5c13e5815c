-- Series stored item by item, as far as there is room.
use Prim.Native.Nat.{ℕ, suc, ◌+◌, ◌-◌, ◌*◌, ◌≤◌, ◌<◌}
use mathlib.Core.{Path.{◌≡◌, refl, sym, ap, ◌∙◌}, List.{List, [], ◌∷◌, ◌++◌, append-nil, append_assoc}, Bool.{Bool, true, false}}
use native.Mathlib.{Omega.{arith}, Nat.{suc-mul}}
use borrow.Author.Tests.{ltb-true, ltb-false}
use lib.{Dec.{ltb}, ListN.{length, set, drop, take, length-set, length-append, length-drop, length-take}, Seq.{sets, sets-eq, set_out, take-nil, take_all}}
use Rattle.refusal.specs.Refusal.{put}
use Rattle.text_format.specs.{Format.{Parsed, ok, bad, bind, Format, Laws}, Series.{Separator, space, newline, series}}
use Rattle.text_format.proofs.Series.{series_bad, series_ends, series_goes}
use Rattle.text_output.specs.Output.{Puts}
use Rattle.text_output.proofs.Outputs.{puts_then, puts_as, puts_length}
use Rattle.channel_file.specs.ChannelFile.{encoded}
use Rattle.channel_file.specs.Bytes.{put_front}

-- ---- bytes

-- what lies behind a buffer's end is left out
sets_clipped : (l : List ℕ) (i : ℕ) (s : List ℕ) → sets l i s ≡ sets l i (take (length l - i) s)
sets_clipped l i [] = ap (sets l i) (sym (take-nil (length l - i)))
sets_clipped l i (b ∷ s) =
    go (ltb i (length l)) refl
    (sets_clipped (set l i b) (suc i) s ∙ ap (λ (n : ℕ). sets (set l i b) (suc i) (take (n - suc i) s)) (length-set l i b))
  where
    go : (f : Bool) → ltb i (length l) ≡ f → sets (set l i b) (suc i) s ≡ sets (set l i b) (suc i) (take (length l - suc i) s)
        → sets l i (b ∷ s) ≡ sets l i (take (length l - i) (b ∷ s))
    go true e next =
        let h = ltb-true i (length l) e in
        let n : suc (length l - suc i) ≡ length l - i = omega arith in
        next ∙ ap (λ (k : ℕ). sets l i (take k (b ∷ s))) n
    go false e next =
        let h = ltb-false i (length l) e in
        let n : length l - suc i ≡ 0 = omega arith in
        let m : 0 ≡ length l - i = omega arith in
        next ∙ ap (λ (k : ℕ). sets (set l i b) (suc i) (take k s)) n ∙ set_out l i b h ∙ ap (λ (k : ℕ). sets l i (take k (b ∷ s))) m

sets_front : (l s : List ℕ) → sets l 0 s ≡ put_front s l
unfolding put
sets_front l s =
    let n : length l - 0 ≡ length l = omega arith in
    let e : 0 + length (take (length l) s) ≡ length (take (length l) s) = omega arith in
    sets_clipped l 0 s ∙ ap (λ (k : ℕ). sets l 0 (take k s)) n ∙ sets-eq (take (length l) s) l 0 (omega (arith, length-take (length l) s))
    ∙ ap (λ (k : ℕ). take (length l) s ++ drop k l) e

-- an output that has room is stored whole
pub front_whole : (output old : List ℕ) → length output ≤ length old → put_front output old ≡ put output old
front_whole output old h = ap (λ (s : List ℕ). put s old) (take_all (length old) output h)

-- and a buffer stays as long as it is
pub front_length : (output old : List ℕ) → length (put_front output old) ≡ length old
unfolding put
front_length output old =
    omega (
      arith,
      length-append (take (length old) output) (drop (length (take (length old) output)) old),
      length-drop (length (take (length old) output)) old,
      length-take (length old) output,
    )

-- ---- series

pub encoded_length : {A : Type 0} (code : A → List ℕ) (w : ℕ) → ((a : A) → length (code a) ≡ w) → (xs : List A)
    → length (encoded code xs) ≡ length xs * w
encoded_length code w h [] = omega arith
encoded_length code w h (a ∷ xs) =
    omega (arith, h a, length-append (code a) (encoded code xs), encoded_length code w h xs, suc-mul (length xs) w)

encoded_last : {A : Type 0} (code : A → List ℕ) (xs : List A) (a : A) → encoded code xs ++ code a ≡ encoded code (xs ++ (a ∷ []))
encoded_last code [] a = sym (append-nil (code a))
encoded_last code (x ∷ xs) a =
    append_assoc (code x) (encoded code xs) (code a) ∙ ap (λ (s : List ℕ). code x ++ s) (encoded_last code xs a)

length_last : {A : Type 0} (xs : List A) (a : A) → length (xs ++ (a ∷ [])) ≡ length xs + 1
length_last xs a = length-append xs (a ∷ [])

-- items in front of those that were read
abbrev pub after : {A : Type 0} → List A → Parsed (List A) → Parsed (List A)
after xs y = bind y (λ ys r. ok (xs ++ ys) r)

after_none : {A : Type 0} (y : Parsed (List A)) → y ≡ after [] y
after_none (ok ys r) = refl
after_none (bad r) = refl

after_one : {A : Type 0} (xs : List A) (a : A) (y : Parsed (List A)) → after xs (bind y (λ ys q. ok (a ∷ ys) q)) ≡ after (xs ++ (a ∷ [])) y
after_one xs a (ok ys r) = ap (λ (z : List _). ok z r) (sym (append_assoc xs (a ∷ []) ys))
after_one xs a (bad r) = refl

module _ {A : Type 0} (F : Format (A × Separator)) (one : A) (L : Laws F) (solid : (p : A × Separator) → 0 < length (F.print p))
    (one_fits : F.Fits (one, newline)) (code : A → List ℕ) where
  abbrev S : Format (List A)
  S = series F one

  -- Of the series `all`, n items were read and stored; s is what is left.
  pub record Took (all s old new : List ℕ) (n k : ℕ) : Type 0 where
    pub taken : List A
    pub same : S.parse all ≡ after taken (S.parse s)
    pub count : n ≡ length taken
    pub bytes : Puts old (encoded code taken) new 0 k

  pub took_none : (s old : List ℕ) → Puts old [] old 0 0 → Took s s old old 0 0
  took_none s old p = record { taken = []; same = after_none (S.parse s); count = refl; bytes = p }

  -- one more item
  pub took_next : {all s old new new' : List ℕ} {n k q : ℕ} (a : A) (r : List ℕ) → Took all s old new n k → F.parse s ≡ ok (a, space) r
      → Puts new (code a) new' k q → Took all r old new' (n + 1) q
  took_next {s = s} {n = n} a r g e p =
      let m : n ≡ length g.taken = g.count in
      record {
        taken = g.taken ++ (a ∷ []);
        same = g.same ∙ ap (after g.taken) (series_goes F one L solid one_fits s a r e) ∙ after_one g.taken a (S.parse r);
        count = omega (arith, length_last g.taken a);
        bytes = puts_as (encoded_last code g.taken a) (puts_then g.bytes p);
      }

  -- the last item: so many, and the buffer has them all
  pub record Last (all old new r : List ℕ) (n : ℕ) : Type 0 where
    pub items : List A
    pub same : S.parse all ≡ ok items r
    pub count : n ≡ length items
    pub bytes : new ≡ put_front (encoded code items) old

  pub took_last : {all s old new new' : List ℕ} {n k q : ℕ} (a : A) (r : List ℕ) → Took all s old new n k → F.parse s ≡ ok (a, newline) r
      → Puts new (code a) new' k q → Last all old new' r (n + 1)
  took_last {s = s} {old = old} {n = n} a r g e p =
      let m : n ≡ length g.taken = g.count in
      record {
        items = g.taken ++ (a ∷ []);
        same = g.same ∙ ap (after g.taken) (series_ends F one L solid one_fits s a r e);
        count = omega (arith, length_last g.taken a);
        bytes = (puts_as (encoded_last code g.taken a) (puts_then g.bytes p)).same ∙ sets_front old (encoded code (g.taken ++ (a ∷ [])));
      }

  -- an item that cannot be read
  pub took_bad : {all s old new : List ℕ} {n k : ℕ} (r : List ℕ) → Took all s old new n k → F.parse s ≡ bad r → S.parse all ≡ bad r
  took_bad {s = s} r g e = g.same ∙ ap (after g.taken) (series_bad F one L solid one_fits s r e)

  pub took_length : {all s old new : List ℕ} {n k : ℕ} → Took all s old new n k → length new ≡ length old
  took_length g = puts_length g.bytes
