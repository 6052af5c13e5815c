-- The claims of specs/Claims on document 01's file.
use Prim.Native.Nat.{ℕ, ◌+◌, ◌*◌, ◌≤◌}
use mathlib.Core.{Path.{◌≡◌, refl, sym, ap, ap₂, ◌∙◌}, List.{List, [], ◌∷◌, ◌++◌, map, append_assoc}}
use mathlib.Core.Option.{some, some-ne-none}
use native.Mathlib.{Omega.{arith}, Nat.{suc-mul}}
use lib.ListN.{length, drop, length-append, length-drop}
use Rattle.refusal.specs.{declared.Refusal.{Refusal}, Refusal.{refusal_of}}
use Rattle.limits.specs.Limits.{file_limit}
use Rattle.text_format.specs.Format.{Parsed, ok, bad, Outcome, contents, refused}
use Rattle.text_format.specs.Texts.{ascii, separated, OneOrMore}
use Rattle.text_format.specs.Decimal.{Numeral}
use Rattle.text_format.proofs.{Decimal.{decimal_numeral}, Combinators.{not_both}}
use Rattle.channel_file.specs.ChannelFile.{RuleItem, token_T, token_A, token_V, token_X, token_G, token_O, Token, Contents, number, Small, item_text}
use Rattle.channel_file.specs.ChannelFile.{SmallToken, token_text, rule_text, text, Shows}
use Rattle.channel_file.specs.FileFormat.{tokens, file}
use Rattle.channel_file.specs.Reading.{read_file, head_text, meet_text, rule_start, tokens_stretch, checked}
use Rattle.channel_file.specs.Bytes.{arrays_of, stored_meet, stored_rule}
use Rattle.channel_file.specs.Claims.{AnswerClaim, OneAnswerClaim, FormRefusalClaim, RewriteClaim, ReadBackClaim, LengthClaim}
use Rattle.channel_file.specs.Claims.{TokensClaim, SomeTokensClaim, TokenListClaim, OneLineClaim, ClampClaim}
use Rattle.std.specs.Prelude.{Ok, Err}
use Rattle.channel_file.proofs.FileFormat.{tokens_laws, tokens_text, tokens_fit, tokens_of_fit, file_laws, file_renders}
use Rattle.channel_file.proofs.Forms.{FormLaws, answer, one_answer, read_as, shown as shown_by, form_judged, stretch_is, items_read, items_shown, not_empty}

-- ---- the answer

pub front : Contents → List ℕ
front c = head_text c ++ meet_text c

pub rule_last : (c : Contents) → text c ≡ front c ++ (ascii "rule=" ++ (rule_text c ++ ascii "\n"))
unfolding front
rule_last c = simp append_assoc

pub rule_starts : (c : Contents) → length (front c) + 5 ≡ rule_start c
unfolding front
rule_starts c = ap (λ (n : ℕ). n + 5) (length-append (head_text c) (meet_text c))

abbrev pub channel_form : FormLaws Contents
channel_form =
    record {
      format = file;
      Shows = Shows;
      laws = file_laws;
      renders = file_renders;
      text = text;
      printed = λ c t s. s.printed;
      front = front;
      rule_text = rule_text;
      split = rule_last;
      start = rule_start;
      starts = rule_starts;
    }

pub answer_claim : AnswerClaim
answer_claim = answer channel_form

pub one_answer_claim : OneAnswerClaim
one_answer_claim = one_answer channel_form

-- ---- 4

both_kept :
    (meet rule : List ℕ) (x : Outcome Contents) (r : Refusal) → refusal_of (arrays_of x) ≡ some r →
    ◌≡◌ {A = List ℕ × List ℕ} (stored_meet x meet, stored_rule x rule) (meet, rule)
both_kept meet rule (contents c) r e = absurd (some-ne-none r (sym e))
both_kept meet rule (refused p) r e = refl

pub form_refusals : FormRefusalClaim
form_refusals =
    record {
      of_checking = form_judged channel_form (λ x. refusal_of (checked x)) (λ c. refl) (λ p. refl);
      of_storing = λ t meet rule.
          record {
            judged = form_judged channel_form (λ x. refusal_of (arrays_of x)) (λ c. refl) (λ p. refl) t;
            kept = both_kept meet rule (read_file t);
          };
    }

-- ---- read and written

pub shown : (t : List ℕ) (c : Contents) → read_file t ≡ contents c → (length t ≤ file_limit) × Shows c t
shown = shown_by channel_form

pub rewrite_claim : RewriteClaim
rewrite_claim t c e = (shown t c e).1.printed

pub read_back_claim : ReadBackClaim
read_back_claim c s l = read_as channel_form (text c) (contents c) (l, record { small = s; printed = refl })

-- ---- how long a text is

pub number_length : (v : ℕ) → Small v → length (number v) ≤ 3
number_length v h = let n : Numeral 2 v (number v) = decimal_numeral 2 v h in n.few_digits

-- the longest is O with two numbers of three digits and the dot
token_length : (x : Token) → SmallToken x → length (token_text x) ≤ 8
token_length token_T h = omega arith
token_length token_A h = omega arith
token_length token_V h = omega arith
token_length (token_X n) h = omega (arith, number_length n h)
token_length (token_G n) h = omega (arith, number_length n h)
token_length (token_O e v) h =
    omega (arith, number_length e h.0, number_length v h.1, length-append (number e) (46 ∷ number v))

-- items of at most w bytes, each with the byte behind it
items_length : {A : Type 0} (P : A → Type 0) (f : A → List ℕ) (w : ℕ) → ((a : A) → P a → length (f a) ≤ w)
    → (xs : List A) → OneOrMore P xs → length (separated (map f xs)) + 1 ≤ length xs * (w + 1)
items_length P f w short [] h = absurd h
items_length P f w short (a ∷ []) h = omega (arith, short a h)
items_length P f w short (a ∷ b ∷ xs) h =
    let ih : length (separated (map f (b ∷ xs))) + 1 ≤ length (b ∷ xs) * (w + 1) = items_length P f w short (b ∷ xs) h.1 in
    omega (arith, short a h.0, length-append (f a) (32 ∷ separated (map f (b ∷ xs))), suc-mul (length (b ∷ xs)) (w + 1))

pub length_claim : LengthClaim
length_claim c s m n =
    let e = number_length c.events s.events in
    let v = number_length c.values s.values in
    let p = number_length c.top s.top in
    let x = items_length Small number 3 number_length c.meet s.meet in
    let y = items_length SmallToken token_text 8 token_length c.rule s.rule in
    simp length-append (omega arith)

-- ---- the stretch of tokens

pub tokens_claim : TokensClaim
tokens_claim = stretch_is channel_form

-- an item has at least one byte
pub some_byte : {B : Type 0} (value : B → List ℕ) (x : RuleItem B) → 1 ≤ length (item_text value x)
some_byte value token_T = omega arith
some_byte value token_A = omega arith
some_byte value token_V = omega arith
some_byte value (token_X n) = omega arith
some_byte value (token_G n) = omega arith
some_byte value (token_O e v) = omega arith

pub some_tokens_claim : SomeTokensClaim
some_tokens_claim t c e h = not_empty SmallToken token_text (some_byte number) c.rule (shown t c e).1.small.rule _ (tokens_claim t c e) h

-- ---- tokens alone

pub token_list_claim : TokenListClaim
token_list_claim =
    record {
      shown = λ t xs. (
        items_shown tokens tokens_laws SmallToken token_text tokens_text tokens_of_fit t xs,
        items_read tokens tokens_laws SmallToken token_text tokens_text tokens_fit t xs,
      );
      of_a_file = λ t c e.
          items_read tokens tokens_laws SmallToken token_text tokens_text tokens_fit (tokens_stretch t (read_file t)) c.rule
          (record { small = (shown t c e).1.small.rule; printed = sym (tokens_claim t c e) });
    }

-- ---- a line

-- the offset of what is left
one_offset : (t : List ℕ) (n m : ℕ) → n ≤ length t → m ≤ length t → drop n t ≡ drop m t → n ≡ m
one_offset t n m h g e = omega (arith, ap length e, length-drop n t, length-drop m t)

pub one_line_claim : OneLineClaim
one_line_claim parse t at (Ok r) (Ok q) x y =
    let e : ok r.0 (drop r.1 t) ≡ ok q.0 (drop q.1 t) = sym x.same ∙ y.same in
    let ev : r.0 ≡ q.0 = cc in
    let er : drop r.1 t ≡ drop q.1 t = cc in
    ap₂ (λ (i j : ℕ). Ok (i, j)) ev (one_offset t r.1 q.1 x.within y.within er)
one_line_claim parse t at (Ok r) (Err q) x y = not_both x.same y.same
one_line_claim parse t at (Err p) (Ok q) x y = not_both y.same x.same
one_line_claim parse t at (Err p) (Err q) x y =
    let e : ◌≡◌ {A = Parsed ℕ} (bad (drop p t)) (bad (drop q t)) = sym x.same ∙ y.same in
    let er : drop p t ≡ drop q t = cc in
    ap (λ (i : ℕ). Err i) (one_offset t p q x.within y.within er)

-- ---- clamping

pub clamp_claim : ClampClaim
clamp_claim v n h = ((λ l. omega arith), (λ l. omega arith))
