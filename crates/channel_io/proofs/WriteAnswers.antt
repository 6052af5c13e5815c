-- An accepted set-up and rule have a text within the limit, and the answers of the function that writes it.
use Prim.Native.Nat.{ℕ, ◌*◌, ◌≤◌, ◌<◌, min}
use mathlib.Core.{Path.{◌≡◌, refl, sym, ap, ap₂, ◌∙◌}, List.{List, [], ◌∷◌, map}, Bool.{Bool, true, false, cond}, Option.{Option, none, some}}
use native.Mathlib.{Omega.{arith}, Nat.{mul-le-mul}}
use lib.{Dec.{leb, ltb}, ListN.{length, length-map}}
use borrow.Author.Tests.{le-leb, lt-leb, ltb-true, ltb-false}
use Rattle.theory.specs.Formula.{Formula, truth, variable, transition, output, conjunction, greatest, size}
use Rattle.theory.specs.Formula.{Node, truth_node, variable_node, transition_node, output_node, conjunction_node, greatest_node, nodes}
use Rattle.refusal.specs.{declared.{Refusal.{Refusal}}, declared.Refusal.TheVariants.{BufferLength}}
use Rattle.refusal.specs.RefusalAnswers.{or_else, plain_unless, judgement, answered, put_unless}
use Rattle.refusal.specs.Refusal.{put}
use Rattle.refusal.proofs.Refusals.{judgement_accepted, judgement_refused, or_else_none}
use Rattle.limits.specs.Limits.{event_limit, value_limit, node_limit, file_limit}
use Rattle.values.specs.declared.ValueKind.TheVariants.{Numbered}
use Rattle.values.specs.Setup.{Setup, setup}
use Rattle.values.specs.SetupInOrder.{AcceptedSetup}
use Rattle.values.specs.SetupTests.{setup_refusal}
use Rattle.values.proofs.Setups.{setup_accepted, square_small}
use Rattle.formulas.specs.NodeCode.{three_bytes}
use Rattle.formulas.specs.RuleConditions.{encode_all}
use Rattle.formulas.specs.RuleRefusal.{rule_refusal, formula_of}
use Rattle.formulas.proofs.{Prefix.{length_nodes}, RuleClaims.{accepted_formula_of}}
use Rattle.channel_file.specs.ChannelFile.{Token, token_T, token_A, token_V, token_X, token_G, token_O, Contents, text, SmallContents, encoded}
use Rattle.channel_file.specs.Bytes.{clamp}
use Rattle.channel_file.proofs.Claims.{length_claim}
use Rattle.channel_writer.specs.Writing.{with_token, node_tokens, contents_of, reply_by, buffer_by, WritesBy, WritesContents}
use Rattle.channel_writer.specs.Claims.{All, none_left, one_more, Byte}
use Rattle.channel_writer.proofs.Claims.{written_claim}
use Rattle.channel_file.specs.ChannelFile.{node_numbers, rule_numbers}
use Rattle.channel_io.specs.{FileRefusals.{pair_refusal}, FileWriting.{text_or_empty, write_refusal, WritesText, file_text, WritesFile}}
use Rattle.channel_io.proofs.Clamping.{limits, meet_kept, rule_kept}
use Rattle.std.specs.Prelude.{Err, Ok, Result}

-- ---- the tokens of a formula's nodes

abbrev token_of : Node ℕ → Token
token_of truth_node = token_T
token_of (variable_node n) = token_X n
token_of (transition_node e) = token_G e
token_of (output_node e v) = token_O e v
token_of conjunction_node = token_A
token_of greatest_node = token_V

tokens_there : (ns : List (Node ℕ)) → node_tokens (encode_all three_bytes ns) ≡ some (map token_of ns)
tokens_there [] = refl
tokens_there (truth_node ∷ ns) = ap (with_token (some token_T)) (tokens_there ns)
tokens_there (variable_node n ∷ ns) = ap (with_token (some (token_X n))) (tokens_there ns)
tokens_there (transition_node e ∷ ns) = ap (with_token (some (token_G e))) (tokens_there ns)
tokens_there (output_node e v ∷ ns) = ap (with_token (some (token_O e v))) (tokens_there ns)
tokens_there (conjunction_node ∷ ns) = ap (with_token (some token_A)) (tokens_there ns)
tokens_there (greatest_node ∷ ns) = ap (with_token (some token_V)) (tokens_there ns)

-- and their numbers are the nodes' bytes
numbers_there : (ns : List (Node ℕ)) → encoded node_numbers (map token_of ns) ≡ encode_all three_bytes ns
numbers_there [] = refl
numbers_there (truth_node ∷ ns) = ap (λ (s : List ℕ). 0 ∷ 0 ∷ 0 ∷ s) (numbers_there ns)
numbers_there (variable_node n ∷ ns) = ap (λ (s : List ℕ). 1 ∷ n ∷ 0 ∷ s) (numbers_there ns)
numbers_there (transition_node e ∷ ns) = ap (λ (s : List ℕ). 2 ∷ e ∷ 0 ∷ s) (numbers_there ns)
numbers_there (output_node e v ∷ ns) = ap (λ (s : List ℕ). 3 ∷ e ∷ v ∷ s) (numbers_there ns)
numbers_there (conjunction_node ∷ ns) = ap (λ (s : List ℕ). 4 ∷ 0 ∷ 0 ∷ s) (numbers_there ns)
numbers_there (greatest_node ∷ ns) = ap (λ (s : List ℕ). 5 ∷ 0 ∷ 0 ∷ s) (numbers_there ns)

pub all_bytes : (l : List ℕ) → map clamp l ≡ l → All Byte l
all_bytes [] e = none_left
all_bytes (v ∷ l) e =
    let h : clamp v ≡ v = cc in
    let t : map clamp l ≡ l = cc in
    one_more {a = v} (omega arith) (all_bytes l t)

-- ---- the contents to write

pub record Textual (events values top : ℕ) (meet rule : List ℕ) : Type 0 where
  pub inside : Contents
  pub is : contents_of events values top meet (node_tokens rule) ≡ some inside
  pub events_is : inside.events ≡ events
  pub values_is : inside.values ≡ values
  pub top_is : inside.top ≡ top
  pub meet_is : inside.meet ≡ meet
  pub rule_is : rule_numbers inside ≡ rule
  pub small : SmallContents inside
  pub short : length (text inside) ≤ file_limit

record Inside (events values top : ℕ) (meet : List ℕ) (xs : List Token) (rule : List ℕ) : Type 0 where
  inside : Contents
  is : contents_of events values top meet (node_tokens rule) ≡ some inside
  events_is : inside.events ≡ events
  values_is : inside.values ≡ values
  top_is : inside.top ≡ top
  meet_is : inside.meet ≡ meet
  rule_is : inside.rule ≡ xs

inside_of : (events values top : ℕ) (meet : List ℕ) (xs : List Token) (rule : List ℕ) → 1 ≤ length meet → 1 ≤ length xs → node_tokens rule ≡ some xs
    → Inside events values top meet xs rule
inside_of events values top [] xs rule h g e = absurd (omega arith)
inside_of events values top (m ∷ ms) [] rule h g e = absurd (omega arith)
inside_of events values top (m ∷ ms) (x ∷ xs) rule h g e =
    record {
      inside = record { events = events; values = values; top = top; meet = m ∷ ms; rule = x ∷ xs };
      is = ap (contents_of events values top (m ∷ ms)) e;
      events_is = refl;
      values_is = refl;
      top_is = refl;
      meet_is = refl;
      rule_is = refl;
    }

some_size : (φ : Formula ℕ) → 1 ≤ size φ
some_size truth = omega arith
some_size (variable n) = omega arith
some_size (transition e φ) = omega arith
some_size (output e v) = omega arith
some_size (conjunction φ χ) = omega arith
some_size (greatest φ) = omega arith

pub textual : (events values top : ℕ) (meet rule : List ℕ) → pair_refusal (setup events values top meet) rule ≡ none → Textual events values top meet rule
unfolding pair_refusal
textual events values top meet rule e =
    let a = or_else_none (setup_refusal (setup events values top meet)) (rule_refusal events (Numbered values) rule) e in
    let w : AcceptedSetup (setup events values top meet) = (setup_accepted (setup events values top meet)).0 a.0 in
    let l = limits events values top meet a.0 in
    let f = accepted_formula_of events (Numbered values) rule a.1 in
    let φ = formula_of (Numbered values) rule in
    let t : node_tokens rule ≡ some (map token_of (nodes φ)) = ap node_tokens f.written ∙ tokens_there (nodes φ) in
    let n : length (map token_of (nodes φ)) ≡ size φ = length-map (nodes φ) token_of ∙ length_nodes φ in
    let positive = w.of_kind.some_values in
    let whole : length meet ≡ values * values = w.of_kind.whole in
    let square = square_small w.of_kind.few_values in
    let within : size φ ≤ node_limit = f.accepted.within in
    let i = inside_of events values top meet (map token_of (nodes φ)) rule (omega (arith, whole, mul-le-mul positive positive))
    (omega (arith, n, some_size φ)) t in
    let topped = w.laws.top_in in
    let s : SmallContents i.inside =
    written_claim.of_the_form events values top meet rule i.inside (omega (arith, l.0)) (omega (arith, l.1)) (omega (arith, l.1, topped))
    (all_bytes meet (meet_kept events values top meet a.0))
    (all_bytes rule (rule_kept events values rule (omega (arith, l.0)) (omega (arith, l.1)) a.1)) i.is in
    record {
      inside = i.inside;
      is = i.is;
      events_is = i.events_is;
      values_is = i.values_is;
      top_is = i.top_is;
      meet_is = i.meet_is;
      rule_is = ap (encoded node_numbers) i.rule_is ∙ numbers_there (nodes φ) ∙ sym f.written;
      small = s;
      short = length_claim i.inside s (omega (arith, ap length i.meet_is)) (omega (arith, ap length i.rule_is));
    }

-- ---- the answer to a call

-- What is answered where contents c were written, whose text T is within the limit: 13, or all is put.
module _ {A : Type 0} (text : A → List ℕ) (c : A) (P : Option Refusal) (T old new : List ℕ) (r : Result ℕ Refusal) where
  abbrev later : Bool → Option Refusal
  later b = or_else P (plain_unless b BufferLength)

  pub written_as : P ≡ none → T ≡ text c → length (text c) ≤ file_limit → r ≡ reply_by text old (some c) → new ≡ buffer_by text old (some c)
      → (r ≡ answered (later (leb (length T) (length old))) (length T)) × (new ≡ put_unless (later (leb (length T) (length old))) T old)
  unfolding or_else answered put_unless plain_unless
  written_as p t s a b = go (ltb (min file_limit (length old)) (length (text c))) refl
    where
      go : (q : Bool) → ltb (min file_limit (length old)) (length (text c)) ≡ q
          → (r ≡ answered (later (leb (length T) (length old))) (length T)) × (new ≡ put_unless (later (leb (length T) (length old))) T old)
      go true f =
          let h = ltb-true (min file_limit (length old)) (length (text c)) f in
          let o : later (leb (length T) (length old)) ≡ some BufferLength =
          ap₂ (λ (x : Option Refusal) (z : Bool). or_else x (plain_unless z BufferLength)) p (lt-leb (length T) (length old) (omega (arith, ap length t))) in (
            a ∙ ap (λ (z : Bool). cond z (Err BufferLength) (Ok (length (text c)))) f ∙ ap (λ (x : Option Refusal). answered x (length T)) (sym o),
            b ∙ ap (λ (z : Bool). cond z old (put (text c) old)) f ∙ ap (λ (x : Option Refusal). put_unless x T old) (sym o),
          )
      go false f =
          let h = ltb-false (min file_limit (length old)) (length (text c)) f in
          let o : later (leb (length T) (length old)) ≡ none =
          ap₂ (λ (x : Option Refusal) (z : Bool). or_else x (plain_unless z BufferLength)) p (le-leb (length T) (length old) (omega (arith, ap length t))) in (
            a ∙ ap (λ (z : Bool). cond z (Err BufferLength) (Ok (length (text c)))) f ∙ ap (λ (l : List ℕ). Ok (length l)) (sym t)
                ∙ ap (λ (x : Option Refusal). answered x (length T)) (sym o),
            b ∙ ap (λ (z : Bool). cond z old (put (text c) old)) f ∙ ap (λ (l : List ℕ). put l old) (sym t)
                ∙ ap (λ (x : Option Refusal). put_unless x T old) (sym o),
          )

-- The set-up and the rule are refused; or there are contents to write, whose text is this.
module _ (s : Setup) (rule T old : List ℕ) where
  pub writes_refused : {r : Refusal} {answer : Result ℕ Refusal} → answer ≡ Err r → judgement (pair_refusal s rule) ≡ Err r
      → WritesText s rule T old old answer
  unfolding write_refusal or_else answered put_unless
  writes_refused {r} passed e =
      let f = judgement_refused (pair_refusal s rule) r e in
      record { answer = rw f passed; buffer = rw f }

  pub writes_judged : {A : Type 0} (text : A → List ℕ) (c : A) (o : Option A) (new : List ℕ) (r : Result ℕ Refusal) → o ≡ some c
      → judgement (pair_refusal s rule) ≡ (Ok tt) → T ≡ text c → length (text c) ≤ file_limit → WritesBy text o old new r → WritesText s rule T old new r
  unfolding write_refusal
  writes_judged text c o new r is e t short w =
      let a = written_as text c (pair_refusal s rule) T old new r (judgement_accepted (pair_refusal s rule) e) t short (w.reply ∙ ap (reply_by text old) is)
      (w.buffer ∙ ap (buffer_by text old) is) in
      record { answer = a.0; buffer = a.1 }

-- ---- document 01's file
module _ (events values top : ℕ) (meet rule : List ℕ) where
  pub small_numbers : judgement (pair_refusal (setup events values top meet) rule) ≡ (Ok tt) → (events ≤ event_limit) × (values ≤ value_limit) × (top < values)
  unfolding pair_refusal
  small_numbers e =
      let a = or_else_none (setup_refusal (setup events values top meet)) (rule_refusal events (Numbered values) rule)
      (judgement_accepted (pair_refusal (setup events values top meet) rule) e) in
      let w : AcceptedSetup (setup events values top meet) = (setup_accepted (setup events values top meet)).0 a.0 in
      (w.few_events, w.of_kind.few_values, w.laws.top_in)

  pub writes_contents : (old new : List ℕ) (r : Result ℕ Refusal) → judgement (pair_refusal (setup events values top meet) rule) ≡ (Ok tt)
      → WritesContents (contents_of events values top meet (node_tokens rule)) old new r → WritesFile events values top meet rule old new r
  unfolding file_text
  writes_contents old new r e w =
      let c = textual events values top meet rule (judgement_accepted (pair_refusal (setup events values top meet) rule) e) in
      writes_judged (setup events values top meet) rule (file_text events values top meet rule) old text c.inside _ new r c.is e
      (ap (text_or_empty text) c.is) c.short w
