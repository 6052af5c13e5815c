-- What is written, and the reply.
use Prim.Native.Nat.{ℕ, ◌+◌, ◌≤◌, ◌<◌, min}
use mathlib.Core.{Path.{◌≡◌, refl, sym, ap, ap₂, ◌∙◌}, List.{List, [], ◌∷◌, ◌++◌, map}, Bool.{Bool, false, cond}, Option.{Option, some, none}}
use native.Mathlib.Omega.{arith}
use borrow.Author.Tests.{lt-ltb, le-ltb, eq-eqb}
use lib.ListN.{length}
use Rattle.limits.specs.Limits.{file_limit}
use Rattle.refusal.specs.{Refusal.{put}, declared.Refusal.TheVariants.{BufferLength, NodeCount}}
use Rattle.text_format.specs.Texts.{ascii, separated, OneOrMore}
use Rattle.text_format.specs.Series.{number_item}
use Rattle.text_format.proofs.Series.{series_text}
use Rattle.text_output.specs.Output.{offset_limit, Puts}
use Rattle.text_output.proofs.Outputs.{puts_as, puts_again}
use Rattle.channel_file.specs.ChannelFile.{RuleItem, Token, number, item_text, line, text}
use Rattle.channel_file.specs.{FileFormat.{entries}, RegisterFile.{text as register_contents_text}}
use Rattle.channel_file.specs.{Steps.{ValueOf, item_format, items_format}, declared.Values.{Values}}
use Rattle.channel_file.specs.RegisterFile.{Token as RegisterToken}
use Rattle.channel_writer.specs.Writing.{node_tokens, contents_of, reply_by, buffer_by, WritesBy}
use Rattle.channel_writer.specs.RegisterWriting.{node_tokens as register_tokens, contents_of as register_contents_of}
use Rattle.channel_writer.specs.Steps.{is_some, IsSome, items_of, value_text, tokens_of, nodes_text, lines_text, register_text}
use Rattle.channel_writer.proofs.Texts.{none_left, token_print}
use lib.Dec.{eqb}
use Rattle.std.specs.Prelude.{Err, Ok}

-- ---- the contents

-- There are contents to write, and this is their text.
pub record Fine {A : Type 0} (text : A → List ℕ) (o : Option A) (lines : List ℕ) : Type 0 where
  pub inside : A
  pub is : o ≡ some inside
  pub same_text : text inside ≡ lines

any_items : {A : Type 0} (a : A) (xs : List A) → OneOrMore (λ (_ : A). Unit {0}) (a ∷ xs)
any_items a [] = tt
any_items a (b ∷ xs) = (tt, any_items b xs)

-- the text of nodes that have tokens
rule_printed : (k : Values) (nodes : List ℕ) (x : RuleItem (ValueOf k)) (xs : List (RuleItem (ValueOf k))) → tokens_of k nodes ≡ some (x ∷ xs)
    → nodes_text k nodes ≡ separated (map (item_text (value_text k)) (x ∷ xs)) ++ ascii "\n"
rule_printed k nodes x xs f =
    ap (λ (z : Option (List (RuleItem (ValueOf k)))). (items_format k).print (items_of z)) f
    ∙ series_text (item_format k) (λ (_ : RuleItem (ValueOf k)). Unit {0}) (item_text (value_text k)) (token_print k) (x ∷ xs) (any_items x xs)

-- a node has a token, and where bytes are there is a node
first_token : (k : Values) (nodes : List ℕ) → (length nodes ≡ 0 → ⊥) → IsSome (tokens_of k nodes)
    → (x : RuleItem (ValueOf k)) × (xs : List (RuleItem (ValueOf k))) × (tokens_of k nodes ≡ some (x ∷ xs))
first_token k nodes g i = go (tokens_of k nodes) refl i
  where
    go : (y : Option (List (RuleItem (ValueOf k)))) → tokens_of k nodes ≡ y → IsSome y
        → (x : RuleItem (ValueOf k)) × (xs : List (RuleItem (ValueOf k))) × (tokens_of k nodes ≡ some (x ∷ xs))
    go none f i = absurd i
    go (some []) f i = absurd (g (ap length (none_left k nodes f)))
    go (some (x ∷ xs)) f i = (x, xs, f)

pub fine : (e v p : ℕ) (meet nodes : List ℕ) → (length meet ≡ 0 → ⊥) → (length nodes ≡ 0 → ⊥) → IsSome (node_tokens nodes)
    → Fine text (contents_of e v p meet (node_tokens nodes)) (lines_text e v p meet nodes)
fine e v p [] nodes h g i = absurd (h refl)
fine e v p (m ∷ ms) nodes h g i =
    let f = first_token Values.Numbered nodes g i in
    let l₁ = line (ascii "events=") (number e) in
    let l₂ = line (ascii "values=") (number v) in
    let l₃ = line (ascii "top=") (number p) in
    let em : entries.print (m ∷ ms) ≡ separated (map number (m ∷ ms)) ++ ascii "\n" =
    series_text (number_item 2) (λ (_ : ℕ). Unit {0}) number (λ a e. refl) (m ∷ ms) (any_items m ms) in
    record {
      inside = record { events = e; values = v; top = p; meet = m ∷ ms; rule = f.0 ∷ f.1 };
      is = ap (contents_of e v p (m ∷ ms)) f.2;
      same_text = ap₂ (λ (a b : List ℕ). l₁ ++ (l₂ ++ (l₃ ++ ((ascii "meet=" ++ a) ++ (ascii "rule=" ++ b))))) (sym em)
          (sym (rule_printed Values.Numbered nodes f.0 f.1 f.2));
    }

pub fine_register : (e l : ℕ) (nodes : List ℕ) → (length nodes ≡ 0 → ⊥) → IsSome (register_tokens nodes)
    → Fine register_contents_text (register_contents_of e l (register_tokens nodes)) (register_text e l nodes)
fine_register e l nodes g i =
    let f = first_token Values.Register nodes g i in
    record {
      inside = record { events = e; lines = l; rule = f.0 ∷ f.1 };
      is = ap (register_contents_of e l) f.2;
      same_text =
          ap (λ (b : List ℕ). line (ascii "events=") (number e) ++ (line (ascii "lines=") (number l) ++ (ascii "rule=" ++ b)))
          (sym (rule_printed Values.Register nodes f.0 f.1 f.2));
    }

-- a list that was tested
pub not_none : (n : ℕ) → false ≡ eqb n 0 → n ≡ 0 → ⊥
not_none n e z = let t = eq-eqb n 0 z in cc

-- nothing to write
pub no_entries : (e v p : ℕ) (meet : List ℕ) (y : Option (List Token)) → length meet ≡ 0 → contents_of e v p meet y ≡ none
no_entries e v p [] y h = refl
no_entries e v p (m ∷ ms) y h = absurd (omega arith)

pub no_nodes : (e v p : ℕ) (meet nodes : List ℕ) → length nodes ≡ 0 → contents_of e v p meet (node_tokens nodes) ≡ none
no_nodes e v p [] nodes h = refl
no_nodes e v p (m ∷ ms) [] h = refl
no_nodes e v p (m ∷ ms) (b ∷ s) h = absurd (omega arith)

pub no_tokens : (e v p : ℕ) (meet : List ℕ) (y : Option (List Token)) → is_some y ≡ false → contents_of e v p meet y ≡ none
no_tokens e v p [] y h = refl
no_tokens e v p (m ∷ ms) none h = refl
no_tokens e v p (m ∷ ms) (some xs) h = let z : ◌≡◌ {A = ℕ} 0 1 = ap (λ (b : Bool). cond b 0 1) h in absurd (omega arith)

pub no_register_nodes : (e l : ℕ) (nodes : List ℕ) → length nodes ≡ 0 → register_contents_of e l (register_tokens nodes) ≡ none
no_register_nodes e l [] h = refl
no_register_nodes e l (b ∷ s) h = absurd (omega arith)

pub no_register_tokens : (e l : ℕ) (y : Option (List RegisterToken)) → is_some y ≡ false → register_contents_of e l y ≡ none
no_register_tokens e l none h = refl
no_register_tokens e l (some xs) h = let z : ◌≡◌ {A = ℕ} 0 1 = ap (λ (b : Bool). cond b 0 1) h in absurd (omega arith)

-- ---- the reply

module _ {A : Type 0} (text : A → List ℕ) (o : Option A) where
  pub writes_none : (old : List ℕ) → o ≡ none → WritesBy text o old old (Err NodeCount)
  writes_none old e = record { reply = sym (ap (reply_by text old) e); buffer = sym (ap (buffer_by text old) e) }

  writes_long : (old : List ℕ) (c : A) → o ≡ some c → min file_limit (length old) < length (text c) → WritesBy text o old old (Err BufferLength)
  writes_long old c e h =
      record {
        reply = sym (ap (reply_by text old) e ∙ ap (λ (b : Bool). cond b (Err BufferLength) (Ok (length (text c))))
            (lt-ltb (min file_limit (length old)) (length (text c)) h));
        buffer = sym (ap (buffer_by text old) e ∙ ap (λ (b : Bool). cond b old (put (text c) old)) (lt-ltb (min file_limit (length old)) (length (text c)) h));
      }

  writes_all : (old new : List ℕ) (c : A) (n : ℕ) → o ≡ some c → length (text c) ≤ min file_limit (length old) → n ≡ length (text c)
      → new ≡ put (text c) old → WritesBy text o old new (Ok n)
  writes_all old new c n e h l w =
      record {
        reply = ap Ok l
            ∙ sym (ap (reply_by text old) e ∙ ap (λ (b : Bool). cond b (Err BufferLength) (Ok (length (text c))))
            (le-ltb (min file_limit (length old)) (length (text c)) h));
        buffer = w
            ∙ sym (ap (buffer_by text old) e ∙ ap (λ (b : Bool). cond b old (put (text c) old)) (le-ltb (min file_limit (length old)) (length (text c)) h));
      }

  -- the text was put into some buffer, whose answer n is its length
  module _ (lines l l' : List ℕ) (n : ℕ) (f : Fine text o lines) (w : Puts l lines l' 0 n) where
    abbrev t : List ℕ
    t = text f.inside

    put_all : Puts l t l' 0 n
    put_all = puts_as (sym f.same_text) w

    pub over_room : (old : List ℕ) → min file_limit (length old) < n → WritesBy text o old old (Err BufferLength)
    over_room old h =
        let q : n ≡ min (0 + length t) offset_limit = put_all.next in
        writes_long old f.inside f.is (omega arith)

    pub written : (old new : List ℕ) (r : ℕ) → n ≤ min file_limit (length old) → Puts old lines new 0 r → WritesBy text o old new (Ok n)
    unfolding put
    written old new r h k =
        let a = puts_again put_all (omega arith) (puts_as (sym f.same_text) k) in
        let m : n ≡ length t = a.0.behind in
        writes_all old new f.inside n f.is (omega (arith, a.1)) m a.0.whole
