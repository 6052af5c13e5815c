-- An accepted register's set-up and rule have a text within the limit, and the answers of the function that writes it.
use Prim.Native.Nat.{ℕ, suc, ◌+◌, ◌*◌, ◌/◌, ◌%◌, ◌^◌, ◌≤◌, ◌<◌}
use mathlib.Core.{Path.{◌≡◌, refl, sym, ap, ap₂, ◌∙◌}, List.{List, [], ◌∷◌, ◌++◌, map}, Option.{Option, none, some}}
use native.Mathlib.Omega.{arith}
use lib.ListN.{length, length-append}
use Rattle.theory.specs.ValueSets.{Masks, unpack}
use Rattle.theory.specs.Formula.{Formula, truth, variable, transition, output, conjunction, greatest, size}
use Rattle.theory.specs.Formula.{Node, truth_node, variable_node, transition_node, output_node, conjunction_node, greatest_node, nodes}
use Rattle.theory.specs.FormulaClasses.{FreeBelow, Fits}
use Rattle.refusal.specs.declared.{Refusal.{Refusal}}
use Rattle.refusal.specs.RefusalAnswers.{judgement}
use Rattle.refusal.proofs.Refusals.{judgement_accepted, or_else_none}
use Rattle.limits.specs.Limits.{event_limit, line_limit, node_limit, file_limit}
use Rattle.values.specs.declared.ValueKind.TheVariants.{Register}
use Rattle.values.specs.{Setup.{ValueIn, register_setup}, SetupTests.{setup_refusal}}
use Rattle.formulas.specs.RuleConditions.{node_bytes, encode_all}
use Rattle.formulas.specs.RuleRefusal.{rule_refusal, formula_of}
use Rattle.formulas.proofs.RuleClaims.{accepted_formula_of}
use Rattle.text_format.specs.{Texts.{separated}, Decimal.{Numeral}}
use Rattle.text_format.proofs.Decimal.{decimal_numeral}
use Rattle.channel_file.specs.ChannelFile.{token_T, token_A, token_V, token_X, token_G, token_O, number, encoded}
use Rattle.channel_file.specs.RegisterFile.{Token, Contents, mask, SmallMasks, token_text, SmallToken, text, SmallContents, node_numbers, rule_numbers}
use Rattle.channel_writer.specs.Writing.{with_token}
use Rattle.channel_writer.specs.RegisterWriting.{mask_of, masks_of, node_tokens, contents_of, WritesContents}
use Rattle.channel_writer.specs.Claims.{All, none_left, one_more}
use Rattle.channel_file.proofs.Claims.{number_length}
use Rattle.channel_writer.proofs.Claims.{one_or_more}
use Rattle.channel_io.specs.FileRefusals.{pair_refusal}
use Rattle.channel_io.specs.FileWriting.{text_or_empty, register_file_text, WritesRegisterFile}
use Rattle.channel_io.proofs.{RegisterBytes.{limits}, WriteAnswers.{writes_judged}}
use Rattle.std.specs.Prelude.{Ok, Result}

-- ---- the tokens of a formula's nodes

abbrev masks_in : ℕ → Masks
masks_in v = masks_of (unpack v).low (unpack v).high

abbrev token_of : Node ℕ → Token
token_of truth_node = token_T
token_of (variable_node n) = token_X n
token_of (transition_node e) = token_G e
token_of (output_node e v) = token_O e (masks_in v)
token_of conjunction_node = token_A
token_of greatest_node = token_V

-- numbers of a token are read back as the token
mask_whole : (m : ℕ) → mask_of (m % 256) (m / 256) ≡ m
mask_whole m = omega arith

numbers_back : (x : Token) (s : List ℕ) → node_tokens (node_numbers x ++ s) ≡ with_token (some x) (node_tokens s)
numbers_back token_T s = refl
numbers_back token_A s = refl
numbers_back token_V s = refl
numbers_back (token_X n) s = refl
numbers_back (token_G e) s = refl
numbers_back (token_O e m) s =
    ap (λ (z : Masks). with_token (some (token_O e z)) (node_tokens s))
    (ap₂ (λ (a b : ℕ). masks_of a b) (mask_whole m.low) (mask_whole m.high))

pub all_back : (xs : List Token) → node_tokens (encoded node_numbers xs) ≡ some xs
all_back [] = refl
all_back (x ∷ xs) = numbers_back x (encoded node_numbers xs) ∙ ap (with_token (some x)) (all_back xs)

-- and their numbers are the nodes' bytes
node_there : (lines : ℕ) (n : Node ℕ) → node_numbers (token_of n) ≡ node_bytes (Register lines) n
unfolding unpack
node_there lines truth_node = refl
node_there lines (variable_node n) = refl
node_there lines (transition_node e) = refl
node_there lines (output_node e v) = refl
node_there lines conjunction_node = refl
node_there lines greatest_node = refl

numbers_there : (lines : ℕ) (ns : List (Node ℕ)) → encoded node_numbers (map token_of ns) ≡ encode_all (node_bytes (Register lines)) ns
numbers_there lines [] = refl
numbers_there lines (n ∷ ns) = ap₂ (λ (x y : List ℕ). x ++ y) (node_there lines n) (numbers_there lines ns)

-- ---- how long they are

-- Each with the byte behind it.
abbrev lengths : List Token → ℕ
lengths [] = 0
lengths (x ∷ xs) = length (token_text x) + 1 + lengths xs

lengths_append : (ns ms : List (Node ℕ)) → lengths (map token_of (ns ++ ms)) ≡ lengths (map token_of ns) + lengths (map token_of ms)
lengths_append [] ms = omega arith
lengths_append (n ∷ ns) ms = omega (arith, lengths_append ns ms)

text_lengths : (x : Token) (xs : List Token) → length (separated (map token_text (x ∷ xs))) + 1 ≡ lengths (x ∷ xs)
text_lengths x [] = omega arith
text_lengths x (y ∷ xs) =
    omega (arith, length-append (token_text x) (32 ∷ separated (map token_text (y ∷ xs))), text_lengths y xs)

mask_length : (m : ℕ) → m < 100000 → length (mask m) ≤ 5
mask_length m h = let n : Numeral 4 m (mask m) = decimal_numeral 4 m h in n.few_digits

-- The numbers of a closed formula whose events and values fit are small.
module _ (events lines : ℕ) (few : events ≤ 255) where
  abbrev In : ℕ → Type 0
  In = ValueIn (Register lines)

  masks_small : (v : ℕ) → In v → SmallMasks (masks_in v)
  unfolding unpack
  masks_small v h = let l : v < 2 ^ 32 = h.two_masks in record { low = omega arith; high = omega arith }

  all_append : (ns ms : List (Node ℕ)) → All SmallToken (map token_of ns) → All SmallToken (map token_of ms) → All SmallToken (map token_of (ns ++ ms))
  all_append [] ms none_left g = g
  all_append (n ∷ ns) ms (one_more h k) g = one_more h (all_append ns ms k g)

  small_there : (d : ℕ) (φ : Formula ℕ) → d + size φ ≤ node_limit → FreeBelow d φ → Fits events In φ → All SmallToken (map token_of (nodes φ))
  small_there d truth h f w = one_more {a = token_T} tt none_left
  small_there d (variable n) h f w = one_more {a = token_X n} (omega arith) none_left
  small_there d (transition e φ) h f w = let l : e < events = w.0 in one_more {a = token_G e} (omega arith) (small_there d φ (omega arith) f w.1)
  small_there d (output e v) h f w = let l : e < events = w.0 in one_more {a = token_O e (masks_in v)} (omega arith, masks_small v w.1) none_left
  small_there d (conjunction φ χ) h f w =
      one_more {a = token_A} tt (all_append (nodes φ) (nodes χ) (small_there d φ (omega arith) f.0 w.0) (small_there d χ (omega arith) f.1 w.1))
  small_there d (greatest φ) h f w = one_more {a = token_V} tt (small_there (suc d) φ (omega arith) f w)

  -- At most half of a tree's nodes are leaves, and one: an O has up to 17 bytes with the one behind it, an A above it two.
  lengths_there : (d : ℕ) (φ : Formula ℕ) → d + size φ ≤ node_limit → FreeBelow d φ → Fits events In φ
      → lengths (map token_of (nodes φ)) ≤ 10 * size φ + 7
  lengths_there d truth h f w = omega arith
  lengths_there d (variable n) h f w = omega (arith, number_length n (omega arith))
  lengths_there d (transition e φ) h f w =
      let l : e < events = w.0 in
      omega (arith, number_length e (omega arith), lengths_there d φ (omega arith) f w.1)
  lengths_there d (output e v) h f w =
      let l : e < events = w.0 in
      let s = masks_small v w.1 in
      let m = masks_in v in
      omega (
        arith,
        number_length e (omega arith),
        mask_length m.low s.low,
        mask_length m.high s.high,
        length-append (number e) (46 ∷ (mask m.low ++ (46 ∷ mask m.high))),
        length-append (mask m.low) (46 ∷ mask m.high),
      )
  lengths_there d (conjunction φ χ) h f w =
      omega (
        arith,
        lengths_append (nodes φ) (nodes χ),
        lengths_there d φ (omega arith) f.0 w.0,
        lengths_there d χ (omega arith) f.1 w.1,
      )
  lengths_there d (greatest φ) h f w = omega (arith, lengths_there (suc d) φ (omega arith) f w)

-- ---- the contents to write

pub record Textual (events lines : ℕ) (rule : List ℕ) : Type 0 where
  pub inside : Contents
  pub is : contents_of events lines (node_tokens rule) ≡ some inside
  pub events_is : inside.events ≡ events
  pub lines_is : inside.lines ≡ lines
  pub rule_is : rule_numbers inside ≡ rule
  pub small : SmallContents inside
  pub short : length (text inside) ≤ file_limit

textual_of : (events lines : ℕ) (rule : List ℕ) (xs : List Token) → node_tokens rule ≡ some xs → encoded node_numbers xs ≡ rule → 1 ≤ length xs
    → All SmallToken xs → lengths xs ≤ 10 * node_limit + 7 → events ≤ event_limit → lines ≤ line_limit → Textual events lines rule
textual_of events lines rule [] t r l s b he hl = absurd (omega arith)
textual_of events lines rule (x ∷ xs) t r l s b he hl =
    let c : Contents = record { events = events; lines = lines; rule = x ∷ xs } in
    let small : SmallContents c = record { events = omega arith; lines = omega arith; rule = one_or_more x xs s } in
    let a = number_length events small.events in
    let d = number_length lines small.lines in
    let e = text_lengths x xs in
    record {
      inside = c;
      is = ap (contents_of events lines) t;
      events_is = refl;
      lines_is = refl;
      rule_is = r;
      small = small;
      short = simp length-append (omega arith);
    }

some_size : (φ : Formula ℕ) → 1 ≤ length (map token_of (nodes φ))
some_size truth = omega arith
some_size (variable n) = omega arith
some_size (transition e φ) = omega arith
some_size (output e v) = omega arith
some_size (conjunction φ χ) = omega arith
some_size (greatest φ) = omega arith

pub textual : (events lines : ℕ) (rule : List ℕ) → pair_refusal (register_setup events lines) rule ≡ none → Textual events lines rule
unfolding pair_refusal
textual events lines rule e =
    let a = or_else_none (setup_refusal (register_setup events lines)) (rule_refusal events (Register lines) rule) e in
    let l = limits events lines a.0 in
    let f = accepted_formula_of events (Register lines) rule a.1 in
    let φ = formula_of (Register lines) rule in
    let w = f.accepted.well_formed in
    let within : size φ ≤ node_limit = f.accepted.within in
    let r : encoded node_numbers (map token_of (nodes φ)) ≡ rule = numbers_there lines (nodes φ) ∙ sym f.written in
    let t : node_tokens rule ≡ some (map token_of (nodes φ)) = ap node_tokens (sym r) ∙ all_back (map token_of (nodes φ)) in
    let few : events ≤ 255 = omega (arith, l.0) in
    let b = lengths_there events lines few 0 φ (omega arith) w.closed w.fits in
    textual_of events lines rule (map token_of (nodes φ)) t r (some_size φ) (small_there events lines few 0 φ (omega arith) w.closed w.fits)
    (omega arith) l.0 l.1

-- ---- the answer to a call

module _ (events lines : ℕ) (rule : List ℕ) where
  abbrev P : Option Refusal
  P = pair_refusal (register_setup events lines) rule

  pub small_numbers : judgement P ≡ (Ok tt) → (events ≤ event_limit) × (lines ≤ line_limit)
  unfolding pair_refusal
  small_numbers e =
      limits events lines (or_else_none (setup_refusal (register_setup events lines)) (rule_refusal events (Register lines) rule) (judgement_accepted P e)).0

  pub writes_contents : (old new : List ℕ) (r : Result ℕ Refusal) → judgement P ≡ (Ok tt)
      → WritesContents (contents_of events lines (node_tokens rule)) old new r → WritesRegisterFile events lines rule old new r
  unfolding register_file_text
  writes_contents old new r e w =
      let c = textual events lines rule (judgement_accepted P e) in
      writes_judged (register_setup events lines) rule (register_file_text events lines rule) old text c.inside _ new r c.is e
      (ap (text_or_empty text) c.is) c.short w
