-- The claims of specs/Claims.
use Prim.Native.Nat.{ℕ, ◌/◌, ◌%◌, ◌≤◌, ◌<◌, min}
use mathlib.Core.{Path.{◌≡◌, refl, sym, ap, ap₂, ◌∙◌, subst}, List.{List, [], ◌∷◌, ◌++◌}, Bool.{Bool, true, false, ◌&&◌, cond}}
use mathlib.Core.{Logic.{inl, inr}, Option.{Option, some, none, some-ne-none}}
use native.Mathlib.Omega.{arith}
use lib.{Dec.{eqb, ltb}, ListN.{length}}
use borrow.Author.Tests.{eqb-true, ltb-true, ltb-false, le-leb}
use Rattle.limits.specs.Limits.{file_limit}
use Rattle.refusal.specs.{declared.{Refusal.{Refusal}}, declared.Refusal.TheVariants.{BufferLength, NodeCount}}
use Rattle.refusal.specs.Refusal.{plain, First, has_place, part_of, order, condition_numbers, right_places, refusal_of, put}
use Rattle.refusal.proofs.Refusals.{judged}
use Rattle.text_format.specs.Format.{contents}
use Rattle.text_format.specs.Texts.{OneOrMore}
use Rattle.channel_file.specs.ChannelFile.{RuleItem, token_T, token_A, token_V, token_X, token_G, token_O, Token, Contents, Small, SmallItem, SmallToken}
use Rattle.channel_file.specs.{ChannelFile.{SmallContents, item_fields, encoded}, FileFormat.{first, second, kind}}
use Rattle.theory.specs.ValueSets.{Masks}
use Rattle.channel_file.specs.RegisterFile.{no_masks, SmallMasks, Token as RegisterToken, Contents as RegisterContents}
use Rattle.channel_file.specs.RegisterFile.{SmallToken as SmallRegisterToken, SmallContents as SmallRegisterContents}
use Rattle.channel_file.specs.RegisterReading.{narrow_kind, kind as register_kind, first as register_first, masks as register_masks, node as register_node}
use Rattle.channel_file.proofs.RegisterClaims.{register_claim, shown as register_shown}
use Rattle.channel_file.specs.Reading.{read_file}
use Rattle.channel_file.specs.Bytes.{clamp, node, entry, meet_bytes, rule_bytes}
use Rattle.channel_file.proofs.Claims as read
use Rattle.channel_writer.specs.Writing.{bare_token, token_of_one, token_with, node_token, with_token, node_tokens, contents_of, reply_by, buffer_by}
use Rattle.channel_writer.specs.RegisterWriting.{mask_of, masks_of, no_mask, node_token as register_node_token, node_tokens as register_tokens}
use Rattle.channel_writer.specs.RegisterWriting.{contents_of as register_contents_of}
use Rattle.channel_writer.specs.Claims.{All, none_left, one_more, Byte, ByteToken, ByteContents, NodeClaim, WrittenTextClaim, AgainClaim}
use Rattle.channel_writer.specs.Claims.{text_written_conditions, WrittenRefusalClaim, FittingToken, RegisterNodeClaim, RegisterWrittenClaim}
use Rattle.std.specs.Prelude.{Err, Ok}

-- ---- refusals

module _ {A : Type 0} (text : A → List ℕ) (old : List ℕ) where
  written_first : (o : Option A) → First (text_written_conditions text o old) (refusal_of (reply_by text old o))
  unfolding First
  written_first none = inl (NodeCount, (refl, refl), refl)
  written_first (some c) = inr ((λ r g. some-ne-none c g.0), go (ltb (min file_limit (length old)) (length (text c))) refl)
    where
      go : (b : Bool) → ltb (min file_limit (length old)) (length (text c)) ≡ b
          → First (plain BufferLength ((d : A) × (some c ≡ some d) × (min file_limit (length old) < length (text d))) ∷ [])
          (refusal_of (cond b (Err BufferLength) (Ok (length (text c)))))
      go true e = inl (BufferLength, ((c, refl, ltb-true (min file_limit (length old)) (length (text c)) e), refl), refl)
      go false e =
          inr (
            (λ r g.
                let q = g.0.1 in
                let same : c ≡ g.0.0 = cc in
                let l = ltb-false (min file_limit (length old)) (length (text c)) e in
                omega (arith, g.0.2, ap (λ (d : A). length (text d)) same)),
            refl,
          )

  written_kept : (o : Option A) (r : Refusal) → refusal_of (reply_by text old o) ≡ some r → buffer_by text old o ≡ old
  written_kept none r e = refl
  written_kept (some c) r e = go (ltb (min file_limit (length old)) (length (text c))) e
    where
      go : (b : Bool) → refusal_of (cond b (Err BufferLength) (Ok (length (text c)))) ≡ some r → cond b old (put (text c) old) ≡ old
      go true e = refl
      go false e = absurd (some-ne-none r (sym e))

pub written_refusals : WrittenRefusalClaim
unfolding condition_numbers right_places has_place part_of order
written_refusals A text o old =
    record { judged = judged (text_written_conditions text o old) _ (written_first text old o) refl refl; kept = written_kept text old o }

-- ---- nodes, whatever the kind of values

module _ {B : Type 0} (unused : B) where
  abbrev Has : RuleItem B → ℕ → ℕ → B → Type 0
  Has x k a v = ((item_fields unused x).0 ≡ k) × (((item_fields unused x).1 ≡ a) × ((item_fields unused x).2 ≡ v))

  has_bare : (k : ℕ) (x : RuleItem B) → bare_token k ≡ some x → Has x k 0 unused
  has_bare k x h = go (eqb k 0) refl h
    where
      go₅ : (t : Bool) → eqb k 5 ≡ t → cond t (some token_V) none ≡ some x → Has x k 0 unused
      go₅ true e h = let ex : token_V ≡ x = cc in subst (λ (z : RuleItem B). Has z k 0 unused) ex (sym (eqb-true k 5 e), (refl, refl))
      go₅ false e h = let z : ◌≡◌ {A = ℕ} 0 1 = cc in absurd (omega arith)

      go₄ : (t : Bool) → eqb k 4 ≡ t → cond t (some token_A) (cond (eqb k 5) (some token_V) none) ≡ some x → Has x k 0 unused
      go₄ true e h = let ex : token_A ≡ x = cc in subst (λ (z : RuleItem B). Has z k 0 unused) ex (sym (eqb-true k 4 e), (refl, refl))
      go₄ false e h = go₅ (eqb k 5) refl h

      go : (t : Bool) → eqb k 0 ≡ t → cond t (some token_T) (cond (eqb k 4) (some token_A) (cond (eqb k 5) (some token_V) none)) ≡ some x
          → Has x k 0 unused
      go true e h = let ex : token_T ≡ x = cc in subst (λ (z : RuleItem B). Has z k 0 unused) ex (sym (eqb-true k 0 e), (refl, refl))
      go false e h = go₄ (eqb k 4) refl h

  has_one : (k a : ℕ) (x : RuleItem B) → token_of_one k a ≡ some x → Has x k a unused
  has_one k a x h = go (eqb k 1) refl h
    where
      go₀ : (t : Bool) → eqb a 0 ≡ t → cond t (bare_token k) none ≡ some x → Has x k a unused
      go₀ true e h = subst (λ (z : ℕ). Has x k z unused) (sym (eqb-true a 0 e)) (has_bare k x h)
      go₀ false e h = let z : ◌≡◌ {A = ℕ} 0 1 = cc in absurd (omega arith)

      go₂ : (t : Bool) → eqb k 2 ≡ t → cond t (some (token_G a)) (cond (eqb a 0) (bare_token k) none) ≡ some x → Has x k a unused
      go₂ true e h = let ex : token_G a ≡ x = cc in subst (λ (z : RuleItem B). Has z k a unused) ex (sym (eqb-true k 2 e), (refl, refl))
      go₂ false e h = go₀ (eqb a 0) refl h

      go : (t : Bool) → eqb k 1 ≡ t → cond t (some (token_X a)) (cond (eqb k 2) (some (token_G a)) (cond (eqb a 0) (bare_token k) none)) ≡ some x
          → Has x k a unused
      go true e h = let ex : token_X a ≡ x = cc in subst (λ (z : RuleItem B). Has z k a unused) ex (sym (eqb-true k 1 e), (refl, refl))
      go false e h = go₂ (eqb k 2) refl h

  has_fields : (u : Bool) (v : B) → (u ≡ true → v ≡ unused) → (k a : ℕ) (x : RuleItem B) → token_with u v k a ≡ some x → Has x k a v
  has_fields u v zero k a x h = go (eqb k 3) refl h
    where
      go₀ : (t : Bool) → u ≡ t → cond t (token_of_one k a) none ≡ some x → Has x k a v
      go₀ true e h = subst (λ (z : B). Has x k a z) (sym (zero e)) (has_one k a x h)
      go₀ false e h = let z : ◌≡◌ {A = ℕ} 0 1 = cc in absurd (omega arith)

      go : (t : Bool) → eqb k 3 ≡ t → cond t (some (token_O a v)) (cond u (token_of_one k a) none) ≡ some x → Has x k a v
      go true e h = let ex : token_O a v ≡ x = cc in subst (λ (z : RuleItem B). Has z k a v) ex (sym (eqb-true k 3 e), (refl, refl))
      go false e h = go₀ u refl h

  has_token : (is_unused : B → Bool) → is_unused unused ≡ true → (x : RuleItem B)
      → token_with (is_unused (item_fields unused x).2) (item_fields unused x).2 (item_fields unused x).0 (item_fields unused x).1 ≡ some x
  has_token is_unused e token_T = rw e
  has_token is_unused e token_A = rw e
  has_token is_unused e token_V = rw e
  has_token is_unused e (token_X n) = rw e
  has_token is_unused e (token_G n) = rw e
  has_token is_unused e (token_O n v) = refl

  small_item : (P : B → Type 0) (x : RuleItem B) → (item_fields unused x).1 < 1000 → P (item_fields unused x).2 → SmallItem P x
  small_item P token_T a b = tt
  small_item P token_A a b = tt
  small_item P token_V a b = tt
  small_item P (token_X n) a b = a
  small_item P (token_G e) a b = a
  small_item P (token_O e v) a b = (a, b)

has_bytes : (k a b : ℕ) (x : Token) → node_token k a b ≡ some x → Has 0 x k a b
has_bytes k a b = has_fields 0 (eqb b 0) b (eqb-true b 0) k a

pub node_claim : NodeClaim
node_claim = record { its_bytes = has_bytes; its_token = has_token 0 (λ b. eqb b 0) refl }

-- ---- what is written is of the form

small_node : (k a b : ℕ) (x : Token) → Byte a → Byte b → node_token k a b ≡ some x → SmallToken x
small_node k a b x ha hb e =
    let g = has_bytes k a b x e in
    let f : first x ≡ a = g.1.0 in
    let s : second x ≡ b = g.1.1 in
    small_item 0 Small x (omega arith) (omega arith)

small_with : {X : Type 0} (P : X → Type 0) (o : Option X) (y : Option (List X)) (xs : List X) → ((x : X) → o ≡ some x → P x)
    → ((ys : List X) → y ≡ some ys → All P ys) → with_token o y ≡ some xs → All P xs
small_with {X} P (some x) (some ys) xs e ih h =
    let ex : ◌≡◌ {A = List X} (x ∷ ys) xs = cc in
    subst (All P) ex (one_more (e x refl) (ih ys refl))
small_with P (some x) none xs e ih h = let z : ◌≡◌ {A = ℕ} 0 1 = cc in absurd (omega arith)
small_with P none y xs e ih h = let z : ◌≡◌ {A = ℕ} 0 1 = cc in absurd (omega arith)

small_tokens : (nodes : List ℕ) → All Byte nodes → (xs : List Token) → node_tokens nodes ≡ some xs → All SmallToken xs
small_tokens [] h xs e = let ex : ◌≡◌ {A = List Token} [] xs = cc in subst (All SmallToken) ex none_left
small_tokens (k ∷ []) h xs e = let z : ◌≡◌ {A = ℕ} 0 1 = cc in absurd (omega arith)
small_tokens (k ∷ a ∷ []) h xs e = let z : ◌≡◌ {A = ℕ} 0 1 = cc in absurd (omega arith)
small_tokens (k ∷ a ∷ b ∷ s) (one_more hk (one_more ha (one_more hb h))) xs e =
    small_with SmallToken (node_token k a b) (node_tokens s) xs (λ x. small_node k a b x ha hb) (small_tokens s h) e

pub one_or_more : {A : Type 0} {P : A → Type 0} (a : A) (xs : List A) → All P (a ∷ xs) → OneOrMore P (a ∷ xs)
one_or_more a [] (one_more h g) = h
one_or_more a (b ∷ xs) (one_more h g) = (h, one_or_more b xs g)

small_bytes : (s : List ℕ) → All Byte s → All Small s
small_bytes [] h = none_left
small_bytes (b ∷ s) (one_more h g) = let l : b ≤ 255 = h in one_more {a = b} (omega arith) (small_bytes s g)

of_the_form₁ : (e v p : ℕ) (meet nodes : List ℕ) (y : Option (List Token)) → node_tokens nodes ≡ y → (c : Contents) → Byte e → Byte v → Byte p
    → All Byte meet → All Byte nodes
    → contents_of e v p meet y ≡ some c → SmallContents c
of_the_form₁ e v p [] nodes y f c he hv hp hm hn h = let z : ◌≡◌ {A = ℕ} 0 1 = cc in absurd (omega arith)
of_the_form₁ e v p (m ∷ ms) nodes none f c he hv hp hm hn h = let z : ◌≡◌ {A = ℕ} 0 1 = cc in absurd (omega arith)
of_the_form₁ e v p (m ∷ ms) nodes (some []) f c he hv hp hm hn h = let z : ◌≡◌ {A = ℕ} 0 1 = cc in absurd (omega arith)
of_the_form₁ e v p (m ∷ ms) nodes (some (x ∷ xs)) f c he hv hp hm hn h =
    let d : Contents = record { events = e; values = v; top = p; meet = m ∷ ms; rule = x ∷ xs } in
    let ec : d ≡ c = cc in
    subst SmallContents ec
    (record {
      events = omega arith;
      values = omega arith;
      top = omega arith;
      meet = one_or_more m ms (small_bytes (m ∷ ms) hm);
      rule = one_or_more x xs (small_tokens nodes hn (x ∷ xs) f);
    })

of_the_form : (e v p : ℕ) (meet nodes : List ℕ) (c : Contents) → Byte e → Byte v → Byte p → All Byte meet → All Byte nodes
    → contents_of e v p meet (node_tokens nodes) ≡ some c → SmallContents c
of_the_form e v p meet nodes c = of_the_form₁ e v p meet nodes (node_tokens nodes) refl c

pub written_claim : WrittenTextClaim
written_claim =
    record {
      of_the_form = of_the_form;
      reads_back = λ e v p meet nodes c he hv hp hm hn h l. read.read_back_claim c (of_the_form e v p meet nodes c he hv hp hm hn h) l;
    }

-- ---- what was read is written again

same_meet : (s : List ℕ) → All Byte s → encoded entry s ≡ s
same_meet [] h = refl
same_meet (b ∷ s) (one_more h g) =
    let l : b ≤ 255 = h in
    let e : min b 255 ≡ b = omega arith in
    ap₂ (λ (x : ℕ) (y : List ℕ). x ∷ y) e (same_meet s g)

same_node : (x : Token) → ByteToken x → node_token (kind x) (clamp (first x)) (clamp (second x)) ≡ some x
same_node x h =
    let a : first x ≤ 255 = h.first_fits in
    let b : second x ≤ 255 = h.second_fits in
    let ea : min (first x) 255 ≡ first x = omega arith in
    let eb : min (second x) 255 ≡ second x = omega arith in
    ap₂ (λ (m n : ℕ). node_token (kind x) m n) ea eb ∙ has_token 0 (λ v. eqb v 0) refl x

same_nodes : (xs : List Token) → All ByteToken xs → node_tokens (encoded node xs) ≡ some xs
same_nodes [] h = refl
same_nodes (x ∷ xs) (one_more h g) = ap₂ (λ (o : Option Token) (y : Option (List Token)). with_token o y) (same_node x h) (same_nodes xs g)

both_some : (e v p : ℕ) (ms : List ℕ) (xs : List Token) → OneOrMore Small ms → OneOrMore SmallToken xs
    → contents_of e v p ms (some xs) ≡ some (record { events = e; values = v; top = p; meet = ms; rule = xs })
both_some e v p [] xs h g = absurd h
both_some e v p (m ∷ ms) [] h g = absurd g
both_some e v p (m ∷ ms) (x ∷ xs) h g = refl

same_contents : (t : List ℕ) (c : Contents) → read_file t ≡ contents c → ByteContents c
    → contents_of c.events c.values c.top (meet_bytes c) (node_tokens (rule_bytes c)) ≡ some c
same_contents t c e b =
    let s : SmallContents c = (read.shown t c e).1.small in
    ap₂ (λ (m : List ℕ) (y : Option (List Token)). contents_of c.events c.values c.top m y) (same_meet c.meet b.meet)
    (same_nodes c.rule b.rule)
    ∙ both_some c.events c.values c.top c.meet c.rule s.meet s.rule

pub again_claim : AgainClaim
again_claim = record { same_contents = same_contents }

-- ---- a register's file

no_mask_0 : (m : Masks) → no_mask m ≡ true → m ≡ no_masks
no_mask_0 m h = go (eqb m.low 0) refl (eqb m.high 0) refl h
  where
    go : (t : Bool) → eqb m.low 0 ≡ t → (u : Bool) → eqb m.high 0 ≡ u → t && u ≡ true → m ≡ no_masks
    go true e true f h = ap₂ (λ (a b : ℕ). masks_of a b) (eqb-true m.low 0 e) (eqb-true m.high 0 f)
    go true e false f h = let z : ◌≡◌ {A = ℕ} 0 1 = ap (λ (b : Bool). cond b 1 0) h in absurd (omega arith)
    go false e u f h = let z : ◌≡◌ {A = ℕ} 0 1 = ap (λ (b : Bool). cond b 1 0) h in absurd (omega arith)

pub register_node_claim : RegisterNodeClaim
register_node_claim =
    record {
      its_fields = λ k a m. has_fields no_masks (no_mask m) m (no_mask_0 m) k a;
      its_token = has_token no_masks no_mask refl;
    }

small_register_node : (k a b c d e : ℕ) (x : RegisterToken) → Byte a → Byte b → Byte c → Byte d → Byte e
    → register_node_token k a (masks_of (mask_of b c) (mask_of d e)) ≡ some x → SmallRegisterToken x
small_register_node k a b c d e x ha hb hc hd he h =
    let g = register_node_claim.its_fields k a (masks_of (mask_of b c) (mask_of d e)) x h in
    let f : (item_fields no_masks x).1 ≡ a = g.1.0 in
    small_item no_masks SmallMasks x (omega arith) (subst SmallMasks (sym g.1.1) (record { low = omega arith; high = omega arith }))

small_register_tokens : (nodes : List ℕ) → All Byte nodes → (xs : List RegisterToken) → register_tokens nodes ≡ some xs → All SmallRegisterToken xs
small_register_tokens [] h xs e = let ex : ◌≡◌ {A = List RegisterToken} [] xs = cc in subst (All SmallRegisterToken) ex none_left
small_register_tokens (a ∷ []) h xs e = let z : ◌≡◌ {A = ℕ} 0 1 = cc in absurd (omega arith)
small_register_tokens (a ∷ b ∷ []) h xs e = let z : ◌≡◌ {A = ℕ} 0 1 = cc in absurd (omega arith)
small_register_tokens (a ∷ b ∷ c ∷ []) h xs e = let z : ◌≡◌ {A = ℕ} 0 1 = cc in absurd (omega arith)
small_register_tokens (a ∷ b ∷ c ∷ d ∷ []) h xs e = let z : ◌≡◌ {A = ℕ} 0 1 = cc in absurd (omega arith)
small_register_tokens (a ∷ b ∷ c ∷ d ∷ f ∷ []) h xs e = let z : ◌≡◌ {A = ℕ} 0 1 = cc in absurd (omega arith)
small_register_tokens (k ∷ a ∷ b ∷ c ∷ d ∷ f ∷ s) (one_more hk (one_more ha (one_more hb (one_more hc (one_more hd (one_more hf h)))))) xs e =
    small_with SmallRegisterToken (register_node_token k a (masks_of (mask_of b c) (mask_of d f))) (register_tokens s) xs
    (λ x. small_register_node k a b c d f x ha hb hc hd hf) (small_register_tokens s h) e

register_of_the_form : (e l : ℕ) (nodes : List ℕ) (c : RegisterContents) → Byte e → Byte l → All Byte nodes
    → register_contents_of e l (register_tokens nodes) ≡ some c → SmallRegisterContents c
register_of_the_form e l nodes c he hl hn h = go (register_tokens nodes) refl h
  where
    go : (y : Option (List RegisterToken)) → register_tokens nodes ≡ y → register_contents_of e l y ≡ some c → SmallRegisterContents c
    go none f h = let z : ◌≡◌ {A = ℕ} 0 1 = cc in absurd (omega arith)
    go (some []) f h = let z : ◌≡◌ {A = ℕ} 0 1 = cc in absurd (omega arith)
    go (some (x ∷ xs)) f h =
        let d : RegisterContents = record { events = e; lines = l; rule = x ∷ xs } in
        let ec : d ≡ c = cc in
        subst SmallRegisterContents ec
        (record { events = omega arith; lines = omega arith; rule = one_or_more x xs (small_register_tokens nodes hn (x ∷ xs) f) })

-- a mask of 16 bits in two bytes and back
mask_back : (m : ℕ) → m ≤ 65535 → mask_of (m % 256) (m / 256 % 256) ≡ m
mask_back m h = omega arith

same_register_node : (x : RegisterToken) → FittingToken x → (s : List ℕ) (xs : List RegisterToken) → register_tokens s ≡ some xs
    → register_tokens (register_node x ++ s) ≡ some (x ∷ xs)
same_register_node x h s xs ih =
    let a : register_first x ≤ 255 = h.first_fits in
    let m = register_masks x in
    let ea : min (register_first x) 255 ≡ register_first x = omega arith in
    let ek : narrow_kind (register_kind x) m.low m.high ≡ register_kind x = rw (
      le-leb m.low 65535 h.low_fits,
      le-leb m.high 65535
          h.high_fits,
    ) in
    let el = mask_back m.low h.low_fits in
    let eh = mask_back m.high h.high_fits in
    let e : register_node_token (narrow_kind (register_kind x) m.low m.high) (min (register_first x) 255)
    (masks_of (mask_of (m.low % 256) (m.low / 256 % 256)) (mask_of (m.high % 256) (m.high / 256 % 256))) ≡ some x =
    rw (ek, ea, el, eh) (register_node_claim.its_token x) in
    ap₂ (λ (o : Option RegisterToken) (y : Option (List RegisterToken)). with_token o y) e ih

same_register_nodes : (xs : List RegisterToken) → All FittingToken xs → register_tokens (encoded register_node xs) ≡ some xs
same_register_nodes [] h = refl
same_register_nodes (x ∷ xs) (one_more h g) = same_register_node x h (encoded register_node xs) xs (same_register_nodes xs g)

some_register : (e l : ℕ) (xs : List RegisterToken) → OneOrMore SmallRegisterToken xs
    → register_contents_of e l (some xs) ≡ some (record { events = e; lines = l; rule = xs })
some_register e l [] h = absurd h
some_register e l (x ∷ xs) h = refl

pub register_written_claim : RegisterWrittenClaim
register_written_claim =
    record {
      of_the_form = register_of_the_form;
      reads_back = λ e l nodes c he hl hn h s. register_claim.read_back c (register_of_the_form e l nodes c he hl hn h) s;
      same_contents = λ t c e h.
          ap (register_contents_of c.events c.lines) (same_register_nodes c.rule h)
          ∙ some_register c.events c.lines c.rule (register_shown t c e).1.small.rule;
    }
