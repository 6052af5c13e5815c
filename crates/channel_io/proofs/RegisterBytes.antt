-- The nodes of a register's file as they are stored: a node whose masks 16 bits do not hold is refused by 6 as its numbers are, other numbers
-- above 255 stand as 255, and nodes above the limit are not judged. The refusal is that of the file's numbers, and of what is accepted nothing is
-- changed.
use Prim.Native.Nat.{ℕ, zero, suc, ◌+◌, ◌*◌, ◌/◌, ◌%◌, ◌^◌, ◌≤◌, ◌<◌}
use mathlib.Core.{Path.{◌≡◌, refl, sym, ap, ap₂, ◌∙◌, subst}, Logic.{◌⊎◌, inl, inr}, List.{List, [], ◌∷◌, ◌++◌}}
use mathlib.Core.{Bool.{Bool, true, false, cond, not, ◌&&◌}, Option.{Option, none, some}}
use native.Mathlib.Omega.{arith}
use lib.{Dec.{leb, ltb, eqb}, ListN.{length, get_or, get_or-append, get_or-eq_default}, Seq.{get_or-append-add}}
use borrow.Author.Tests.{leb-true, leb-false, le-leb, le-ltb, ltb-true, ltb-false}
use Rattle.limits.specs.Limits.{event_limit, line_limit, node_limit}
use Rattle.theory.specs.Formula.{size}
use Rattle.theory.proofs.ValueSets.{and_left, and_right, and_failed, and_false_right}
use Rattle.refusal.specs.{declared.Refusal.{Refusal}, declared.Refusal.TheVariants.{NodeCount, NodeFields}}
use Rattle.refusal.specs.RefusalAnswers.{or_else, plain_unless, at_found}
use Rattle.refusal.proofs.Refusals.{or_else_none, plain_none}
use Rattle.values.specs.{declared.ValueKind.{ValueKind}, declared.ValueKind.TheVariants.{Register}}
use Rattle.values.specs.{Setup.{ValueIn, register_setup, masks_value}, SetupInOrder.{AcceptedSetup}, SetupTests.{setup_refusal}, ValueTests.{masks_fit}}
use Rattle.values.proofs.Setups.{setup_accepted}
use Rattle.formulas.specs.RuleConditions.{node_bytes, encode_formula}
use Rattle.formulas.specs.declared.NodeKind.{NodeKind, TheVariants.{Truth, Variable, Transition, Output, Conjunction, Greatest}}
use Rattle.std.specs.Prelude.{Option as StdOption, Some, None}
use Rattle.formulas.specs.RuleReading.{kind_of, fields_fit, formula_read}
use Rattle.formulas.specs.RuleRefusal.{count_fits, structure_refusal, misfit_place, nodes_refusal, kind_at, first_at, value_at, rule_refusal, formula_of}
use Rattle.formulas.proofs.{Search.{lowest_same, lowest_clear}, Decoding.{CountFits, count_facts}, RuleClaims.{accepted_formula_of}}
use Rattle.channel_file.specs.ChannelFile.{token_T, token_A, token_V, token_X, token_G, token_O, encoded}
use Rattle.channel_file.specs.RegisterFile.{Token, Contents, node_numbers, rule_numbers}
use Rattle.channel_file.specs.{Bytes.{clamp}, RegisterReading.{kind, first, masks, narrow_kind, node, rule_bytes}}
use Rattle.channel_file.proofs.Buffers.{encoded_length}
use Rattle.channel_io.specs.{FileRefusals.{pair_refusal}, RegisterFiles.{file_setup}, RegisterSteps.{shown_nodes}}
use Rattle.channel_io.proofs.ShownBytes.{count_at_fault, many_nodes}
use Rattle.channel_io.proofs.Clamping.{clamp_below, clamp_zero, unknown, clamp_formula, read_same, structure_same, formula_kept}

-- ---- items in six numbers each

module _ (code : Token → List ℕ) (six : (x : Token) → length (code x) ≡ 6) where
  at_item : (xs : List Token) (i r : ℕ) → r < 6 → get_or (code token_T) r 0 ≡ 0 → get_or (encoded code xs) (i * 6 + r) 0 ≡ get_or
      (code (get_or xs i token_T)) r 0
  at_item [] i r h z = sym z
  at_item (x ∷ xs) zero r h z =
      let e : zero * 6 + r ≡ r = omega arith in
      ap (λ (n : ℕ). get_or (code x ++ encoded code xs) n 0) e ∙ get_or-append (code x) (encoded code xs) 0 r (omega (arith, six x))
  at_item (x ∷ xs) (suc i) r h z =
      let e : suc i * 6 + r ≡ length (code x) + (i * 6 + r) = omega (arith, six x) in
      ap (λ (n : ℕ). get_or (code x ++ encoded code xs) n 0) e ∙ get_or-append-add (code x) (encoded code xs) (i * 6 + r) 0 ∙ at_item xs i r h z

  items_length : (xs : List Token) → length (encoded code xs) ≡ 6 * length xs
  items_length xs = omega (arith, encoded_length code 6 six xs)

  module _ (lines : ℕ) (xs : List Token) (i : ℕ) (zeros : (r : ℕ) → r < 6 → get_or (code token_T) r 0 ≡ 0) where
    abbrev item : List ℕ
    item = code (get_or xs i token_T)

    abbrev at : (r : ℕ) → r < 6 → get_or (encoded code xs) (i * 6 + r) 0 ≡ get_or item r 0
    at r h = at_item xs i r h (zeros r h)

    kind_item : kind_at (Register lines) (encoded code xs) i ≡ get_or item 0 0
    kind_item = let e : i * 6 ≡ i * 6 + 0 = omega arith in ap (λ (n : ℕ). get_or (encoded code xs) n 0) e ∙ at 0 (omega arith)

    first_item : first_at (Register lines) (encoded code xs) i ≡ get_or item 1 0
    first_item = at 1 (omega arith)

    value_item : value_at (Register lines) (encoded code xs) i ≡ masks_value (get_or item 2 0) (get_or item 3 0) (get_or item 4 0) (get_or item 5 0)
    value_item =
        let e₃ : i * 6 + 2 + 1 ≡ i * 6 + 3 = omega arith in
        let e₄ : i * 6 + 2 + 2 ≡ i * 6 + 4 = omega arith in
        let e₅ : i * 6 + 2 + 3 ≡ i * 6 + 5 = omega arith in
        let h₂ = at 2 (omega arith) in
        let h₃ = ap (λ (n : ℕ). get_or (encoded code xs) n 0) e₃ ∙ at 3 (omega arith) in
        let h₄ = ap (λ (n : ℕ). get_or (encoded code xs) n 0) e₄ ∙ at 4 (omega arith) in
        let h₅ = ap (λ (n : ℕ). get_or (encoded code xs) n 0) e₅ ∙ at 5 (omega arith) in
        rw (h₂, h₃, h₄, h₅)

-- an item without masks and first field is 0 throughout
zeros : (r : ℕ) → ◌≡◌ {A = ℕ} (get_or (0 ∷ 0 ∷ 0 ∷ 0 ∷ 0 ∷ 0 ∷ []) r 0) 0
zeros zero = refl
zeros (suc zero) = refl
zeros (suc (suc zero)) = refl
zeros (suc (suc (suc zero))) = refl
zeros (suc (suc (suc (suc zero)))) = refl
zeros (suc (suc (suc (suc (suc zero))))) = refl
zeros (suc (suc (suc (suc (suc (suc r)))))) = refl

-- ---- one node: its masks, as numbers and as they are stored

abbrev number_value : Token → ℕ
number_value x = masks_value ((masks x).low % 256) ((masks x).low / 256) ((masks x).high % 256) ((masks x).high / 256)

abbrev byte_value : Token → ℕ
byte_value x = masks_value ((masks x).low % 256) ((masks x).low / 256 % 256) ((masks x).high % 256) ((masks x).high / 256 % 256)

abbrev byte_kind : Token → ℕ
byte_kind x = narrow_kind (kind x) (masks x).low (masks x).high

-- 16 bits hold both masks
pub record Narrow (x : Token) : Type 0 where
  pub low_fits : (masks x).low ≤ 65535
  pub high_fits : (masks x).high ≤ 65535

narrow_or_not : (x : Token) → Narrow x ⊎ ((65535 < (masks x).low) ⊎ (65535 < (masks x).high))
narrow_or_not x = go (leb (masks x).low 65535) refl (leb (masks x).high 65535) refl
  where
    go : (a : Bool) → leb (masks x).low 65535 ≡ a → (b : Bool) → leb (masks x).high 65535 ≡ b
        → Narrow x ⊎ ((65535 < (masks x).low) ⊎ (65535 < (masks x).high))
    go true e true f = inl (record { low_fits = leb-true (masks x).low 65535 e; high_fits = leb-true (masks x).high 65535 f })
    go true e false f = inr (inr (leb-false (masks x).high 65535 f))
    go false e b f = inr (inl (leb-false (masks x).low 65535 e))

narrow_same : (x : Token) → Narrow x → (byte_kind x ≡ kind x) × (byte_value x ≡ number_value x)
narrow_same x n =
    let l = n.low_fits in
    let h = n.high_fits in
    let el : (masks x).low / 256 % 256 ≡ (masks x).low / 256 = omega arith in
    let eh : (masks x).high / 256 % 256 ≡ (masks x).high / 256 = omega arith in
    (rw (le-leb (masks x).low 65535 l, le-leb (masks x).high 65535 h), rw (el, eh))

-- masks that 16 bits do not hold are of no value
too_wide : (a b c d : ℕ) → (256 ≤ b) ⊎ (256 ≤ d) → 2 ^ 32 ≤ masks_value a b c d
unfolding masks_value
too_wide a b c d w = go (ltb a 256 && (ltb b 256 && ltb c 256)) refl w
  where
    go : (t : Bool) → ltb a 256 && (ltb b 256 && ltb c 256) ≡ t → (256 ≤ b) ⊎ (256 ≤ d) → 2 ^ 32 ≤ cond t (a + 256 * b + 65536 * (c + 256 * d)) (2 ^ 32)
    go true e (inl w) =
        let l = ltb-true b 256 (and_left (ltb b 256) (ltb c 256) (and_right (ltb a 256) (ltb b 256 && ltb c 256) e)) in
        absurd (omega arith)
    go true e (inr w) = omega arith
    go false e w = omega arith

no_value : (lines v : ℕ) → 2 ^ 32 ≤ v → masks_fit lines v ≡ false
unfolding masks_fit
no_value lines v h = and_failed (ltb (v % 65536) (2 ^ lines) && ltb (v / 65536) (2 ^ lines)) (le-ltb v (2 ^ 32) h)

module _ (events lines : ℕ) where
  abbrev number_fit : Token → Bool
  number_fit x = fields_fit events (kind_of (kind x)) (first x) (number_value x) (masks_fit lines (number_value x))

  abbrev byte_fit : Token → Bool
  byte_fit x = fields_fit events (kind_of (byte_kind x)) (clamp (first x)) (byte_value x) (masks_fit lines (byte_value x))

  first_fit : events ≤ 255 → (k : StdOption NodeKind) (a v : ℕ) (b : Bool) → fields_fit events k (clamp a) v b ≡ fields_fit events k a v b
  unfolding fields_fit
  first_fit h (Some Truth) a v b = ap (λ (x : Bool). x && eqb v 0) (clamp_zero a)
  first_fit h (Some Variable) a v b = refl
  first_fit h (Some Transition) a v b = ap (λ (x : Bool). x && eqb v 0) (clamp_below a events h)
  first_fit h (Some Output) a v b = ap (λ (x : Bool). x && b) (clamp_below a events h)
  first_fit h (Some Conjunction) a v b = ap (λ (x : Bool). x && eqb v 0) (clamp_zero a)
  first_fit h (Some Greatest) a v b = ap (λ (x : Bool). x && eqb v 0) (clamp_zero a)
  first_fit h None a v b = refl

  -- where 16 bits do not hold the masks, 6 refuses the numbers
  wide_numbers : (x : Token) → (65535 < (masks x).low) ⊎ (65535 < (masks x).high) → number_fit x ≡ false
  unfolding fields_fit kind_of
  wide_numbers token_T (inl w) = absurd (omega arith)
  wide_numbers token_T (inr w) = absurd (omega arith)
  wide_numbers token_A (inl w) = absurd (omega arith)
  wide_numbers token_A (inr w) = absurd (omega arith)
  wide_numbers token_V (inl w) = absurd (omega arith)
  wide_numbers token_V (inr w) = absurd (omega arith)
  wide_numbers (token_X n) (inl w) = absurd (omega arith)
  wide_numbers (token_X n) (inr w) = absurd (omega arith)
  wide_numbers (token_G n) (inl w) = absurd (omega arith)
  wide_numbers (token_G n) (inr w) = absurd (omega arith)
  wide_numbers (token_O e m) w =
      and_false_right (ltb e events) (no_value lines (number_value (token_O e m))
      (too_wide (m.low % 256) (m.low / 256) (m.high % 256) (m.high / 256) (go w)))
    where
      go : (65535 < m.low) ⊎ (65535 < m.high) → (256 ≤ m.low / 256) ⊎ (256 ≤ m.high / 256)
      go (inl h) = inl (omega arith)
      go (inr h) = inr (omega arith)

  -- and the bytes
  wide_kind : (x : Token) → (65535 < (masks x).low) ⊎ (65535 < (masks x).high) → byte_kind x ≡ 255
  wide_kind x w = go (leb (masks x).low 65535) refl (leb (masks x).high 65535) refl w
    where
      go : (a : Bool) → leb (masks x).low 65535 ≡ a → (b : Bool) → leb (masks x).high 65535 ≡ b → (65535 < (masks x).low) ⊎ (65535 < (masks x).high)
          → cond (a && b) (kind x) 255 ≡ 255
      go true e true f (inl w) = let l = leb-true (masks x).low 65535 e in absurd (omega arith)
      go true e true f (inr w) = let l = leb-true (masks x).high 65535 f in absurd (omega arith)
      go true e false f w = refl
      go false e b f w = refl

  wide_bytes : (x : Token) → (65535 < (masks x).low) ⊎ (65535 < (masks x).high) → byte_fit x ≡ false
  unfolding fields_fit
  wide_bytes x w =
      ap (λ (k : ℕ). fields_fit events (kind_of k) (clamp (first x)) (byte_value x) (masks_fit lines (byte_value x))) (wide_kind x w)
      ∙ ap (λ (k : StdOption NodeKind). fields_fit events k (clamp (first x)) (byte_value x) (masks_fit lines (byte_value x))) (unknown 255 (omega arith))

  fit_same : events ≤ 255 → (x : Token) → byte_fit x ≡ number_fit x
  fit_same h x = go (narrow_or_not x)
    where
      go : Narrow x ⊎ ((65535 < (masks x).low) ⊎ (65535 < (masks x).high)) → byte_fit x ≡ number_fit x
      go (inl n) =
          ap₂ (λ (k v : ℕ). fields_fit events (kind_of k) (clamp (first x)) v (masks_fit lines v)) (narrow_same x n).0 (narrow_same x n).1
          ∙ first_fit h (kind_of (kind x)) (first x) (number_value x) (masks_fit lines (number_value x))
      go (inr w) = wide_bytes x w ∙ sym (wide_numbers x w)

  fitting_narrow : (x : Token) → number_fit x ≡ true → Narrow x
  fitting_narrow x e = go (narrow_or_not x)
    where
      go : Narrow x ⊎ ((65535 < (masks x).low) ⊎ (65535 < (masks x).high)) → Narrow x
      go (inl n) = n
      go (inr w) = let z : ◌≡◌ {A = ℕ} 1 0 = ap (λ (b : Bool). cond b 1 0) (sym e ∙ wide_numbers x w) in absurd (omega arith)

-- ---- a rule
module _ (events lines : ℕ) (xs : List Token) where
  abbrev K : ValueKind
  K = Register lines

  abbrev N : List ℕ
  N = encoded node_numbers xs

  abbrev B : List ℕ
  B = encoded node xs

  abbrev it : ℕ → Token
  it i = get_or xs i token_T

  pub numbers_length : length N ≡ 6 * length xs
  numbers_length = items_length node_numbers (λ x. refl) xs

  pub bytes_length : length B ≡ 6 * length xs
  bytes_length = items_length node (λ x. refl) xs

  abbrev count : ℕ
  count = length N / 6

  abbrev fits : List ℕ → ℕ → Bool
  fits bytes i = fields_fit events (kind_of (kind_at K bytes i)) (first_at K bytes i) (value_at K bytes i) (masks_fit lines (value_at K bytes i))

  bytes_fit : (i : ℕ) → fits B i ≡ byte_fit events lines (it i)
  bytes_fit i =
      rw (
        kind_item node (λ x. refl) lines xs i (λ r h. zeros r),
        first_item node (λ x. refl) lines xs i (λ r h. zeros r),
        value_item node (λ x. refl) lines xs i (λ r h. zeros r),
      )

  numbers_fit : (i : ℕ) → fits N i ≡ number_fit events lines (it i)
  numbers_fit i =
      rw (
        kind_item node_numbers (λ x. refl) lines xs i (λ r h. zeros r),
        first_item node_numbers (λ x. refl) lines xs i (λ r h. zeros r),
        value_item node_numbers (λ x. refl) lines xs i (λ r h. zeros r),
      )

  abbrev misfit : List ℕ → Option ℕ
  misfit bytes = misfit_place (kind_at K bytes) (first_at K bytes) (value_at K bytes) count (masks_fit lines) events

  misfit_same : events ≤ 255 → misfit B ≡ misfit N
  unfolding misfit_place
  misfit_same h =
      lowest_same (λ j. not (fits B j)) (λ j. not (fits N j)) count 0
      (λ j l u. ap not (bytes_fit j ∙ fit_same events lines h (it j) ∙ sym (numbers_fit j)))

  -- where 6 is not met, 16 bits hold every mask
  module _ (clear : misfit N ≡ none) where
    narrow_all : (i : ℕ) → Narrow (it i)
    unfolding misfit_place
    narrow_all i = go (ltb i (length xs)) refl
      where
        passed : (b : Bool) → not b ≡ false → b ≡ true
        passed true e = refl
        passed false e = let z : ◌≡◌ {A = ℕ} 0 1 = ap (λ (b : Bool). cond b 1 0) (sym e) in absurd (omega arith)

        go : (b : Bool) → ltb i (length xs) ≡ b → Narrow (it i)
        go true e =
            let h = ltb-true i (length xs) e in
            let c = lowest_clear (λ j. not (fits N j)) count 0 clear i (omega arith) (omega (arith, numbers_length)) in
            fitting_narrow events lines (it i) (sym (numbers_fit i) ∙ passed (fits N i) c)
        go false e =
            let h : length xs ≤ i = ltb-false i (length xs) e in
            subst Narrow (sym (get_or-eq_default xs token_T h)) (record { low_fits = omega arith; high_fits = omega arith })

    kinds : (i : ℕ) → kind_of (kind_at K B i) ≡ kind_of (kind_at K N i)
    kinds i =
        ap kind_of (kind_item node (λ x. refl) lines xs i (λ r h. zeros r) ∙ (narrow_same (it i) (narrow_all i)).0
        ∙ sym (kind_item node_numbers (λ x. refl) lines xs i (λ r h. zeros r)))

    firsts : (i : ℕ) → first_at K B i ≡ clamp (first_at K N i)
    firsts i =
        first_item node (λ x. refl) lines xs i (λ r h. zeros r) ∙ ap clamp (sym (first_item node_numbers (λ x. refl) lines xs i (λ r h. zeros r)))

    values : (i : ℕ) → value_at K B i ≡ value_at K N i
    values i =
        value_item node (λ x. refl) lines xs i (λ r h. zeros r) ∙ (narrow_same (it i) (narrow_all i)).1
        ∙ sym (value_item node_numbers (λ x. refl) lines xs i (λ r h. zeros r))

    rest_same : count ≤ node_limit
        → structure_refusal (kind_at K B) (first_at K B) (value_at K B) count ≡ structure_refusal (kind_at K N) (first_at K N) (value_at K N) count
    rest_same h =
        structure_same (λ v. v) (kind_at K N) (first_at K N) (value_at K N) (kind_at K B) (first_at K B) (value_at K B) kinds firsts values count h

    formula_same : formula_of K B ≡ clamp_formula (λ v. v) (formula_of K N)
    unfolding formula_of
    formula_same =
        ap (λ (n : ℕ). formula_read (kind_at K B) (first_at K B) (value_at K B) (n / 6)) (bytes_length ∙ sym numbers_length)
        ∙ read_same (λ v. v) (kind_at K N) (first_at K N) (value_at K N) (kind_at K B) (first_at K B) (value_at K B) kinds firsts values count

  nodes_same : events ≤ 255 → count ≤ node_limit
      → nodes_refusal (kind_at K B) (first_at K B) (value_at K B) count (masks_fit lines) events
      ≡ nodes_refusal (kind_at K N) (first_at K N) (value_at K N) count (masks_fit lines) events
  unfolding nodes_refusal or_else at_found
  nodes_same h few =
      ap (λ (o : Option ℕ). or_else (at_found o NodeFields) (structure_refusal (kind_at K B) (first_at K B) (value_at K B) count)) (misfit_same h)
      ∙ go (misfit N) refl
    where
      go : (o : Option ℕ) → misfit N ≡ o
          → or_else (at_found (misfit N) NodeFields) (structure_refusal (kind_at K B) (first_at K B) (value_at K B) count)
          ≡ or_else (at_found (misfit N) NodeFields) (structure_refusal (kind_at K N) (first_at K N) (value_at K N) count)
      go none e = ap (or_else (at_found (misfit N) NodeFields)) (rest_same e few)
      go (some p) e = rw e

  -- 5, then what the nodes meet
  abbrev judged : List ℕ → ℕ → Bool → Option Refusal
  judged bytes n b =
      or_else (plain_unless b NodeCount) (nodes_refusal (kind_at K bytes) (first_at K bytes) (value_at K bytes) (n / 6) (masks_fit lines) events)

  pub rule_same : events ≤ 255 → rule_refusal events K B ≡ rule_refusal events K N
  unfolding rule_refusal or_else plain_unless
  rule_same h =
      ap (λ (n : ℕ). judged B n (count_fits 6 node_limit n)) (bytes_length ∙ sym numbers_length) ∙ go (count_fits 6 node_limit (length N)) refl
    where
      go : (b : Bool) → count_fits 6 node_limit (length N) ≡ b
          → judged B (length N) (count_fits 6 node_limit (length N)) ≡ judged N (length N) (count_fits 6 node_limit (length N))
      go true e =
          ap (or_else (plain_unless (count_fits 6 node_limit (length N)) NodeCount))
          (nodes_same h (let w : CountFits 6 node_limit (length N) = count_facts 6 node_limit (length N) e in w.within))
      go false e = ap (judged B (length N)) e ∙ sym (ap (judged N (length N)) e)

  -- of an accepted rule nothing is changed
  pub rule_kept : events ≤ 255 → rule_refusal events K N ≡ none → B ≡ N
  unfolding rule_refusal nodes_refusal at_found
  rule_kept h e =
      let later = (or_else_none (plain_unless (count_fits 6 node_limit (length N)) NodeCount) _ e).1 in
      let clear = found_none (misfit N) (or_else_none (at_found (misfit N) NodeFields) _ later).0 in
      let w = accepted_formula_of events K N e in
      let v = accepted_formula_of events K B (rule_same h ∙ e) in
      let f = w.accepted.well_formed in
      let s : size (formula_of K N) ≤ node_limit = w.accepted.within in
      v.written
      ∙ ap (encode_formula (node_bytes K))
      (formula_same clear ∙ formula_kept (λ v. v) (ValueIn K) (λ v b. refl) events 0 h (formula_of K N) (omega arith) f.closed f.fits)
      ∙ sym w.written
    where
      found_none : (o : Option ℕ) → at_found o NodeFields ≡ none → o ≡ none
      found_none none e = refl
      found_none (some p) e = let z : ◌≡◌ {A = ℕ} 0 1 = cc in absurd (omega arith)

-- ---- a file

-- what an accepted set-up is within
pub limits : (events lines : ℕ) → setup_refusal (register_setup events lines) ≡ none → (events ≤ event_limit) × (lines ≤ line_limit)
limits events lines e =
    let w : AcceptedSetup (register_setup events lines) = (setup_accepted (register_setup events lines)).0 e in
    (w.few_events, w.of_kind.few_lines)

-- over the limit, or no nodes
no_nodes : count_fits 6 node_limit 0 ≡ false
unfolding count_fits
no_nodes = refl

shown_rule : (c : Contents) → c.events ≤ 255
    → rule_refusal c.events (Register c.lines) (shown_nodes c) ≡ rule_refusal c.events (Register c.lines) (rule_numbers c)
shown_rule c h = go (leb (length c.rule) node_limit) refl
  where
    go : (b : Bool) → leb (length c.rule) node_limit ≡ b
        → rule_refusal c.events (Register c.lines) (cond b (rule_bytes c) []) ≡ rule_refusal c.events (Register c.lines) (rule_numbers c)
    go true e = rule_same c.events c.lines c.rule h
    go false e =
        let long = leb-false (length c.rule) node_limit e in
        count_at_fault c.events (Register c.lines) [] (rule_numbers c) no_nodes
        (many_nodes 6 (length (rule_numbers c)) (omega (arith, numbers_length c.events c.lines c.rule)))

abbrev contents_refusal : Contents → Option Refusal
contents_refusal c = pair_refusal (file_setup c) (rule_numbers c)

-- a rule is judged where the set-up is accepted
judged_as : (c : Contents) (rule : List ℕ)
    → (c.events ≤ 255 → rule_refusal c.events (Register c.lines) rule ≡ rule_refusal c.events (Register c.lines) (rule_numbers c))
    → pair_refusal (file_setup c) rule ≡ contents_refusal c
unfolding pair_refusal or_else
judged_as c rule same = go (setup_refusal (file_setup c)) refl
  where
    go : (o : Option Refusal) → setup_refusal (file_setup c) ≡ o
        → or_else (setup_refusal (file_setup c)) (rule_refusal c.events (Register c.lines) rule)
        ≡ or_else (setup_refusal (file_setup c)) (rule_refusal c.events (Register c.lines) (rule_numbers c))
    go none e =
        let h = limits c.events c.lines e in
        ap (or_else (setup_refusal (file_setup c))) (same (omega (arith, h.0)))
    go (some r) e = rw e

pub file_shown : (c : Contents) → pair_refusal (file_setup c) (shown_nodes c) ≡ contents_refusal c
file_shown c = judged_as c (shown_nodes c) (shown_rule c)

pub stored_same : (c : Contents) → pair_refusal (file_setup c) (rule_bytes c) ≡ contents_refusal c
stored_same c = judged_as c (rule_bytes c) (rule_same c.events c.lines c.rule)

pub nothing_changed : (c : Contents) → contents_refusal c ≡ none → rule_bytes c ≡ rule_numbers c
unfolding pair_refusal
nothing_changed c e =
    let p = or_else_none (setup_refusal (file_setup c)) (rule_refusal c.events (Register c.lines) (rule_numbers c)) e in
    rule_kept c.events c.lines c.rule (omega (arith, (limits c.events c.lines p.0).0)) p.1

-- of an accepted one all is judged, and nothing is changed
pub all_shown : (c : Contents) → contents_refusal c ≡ none → shown_nodes c ≡ rule_numbers c
unfolding pair_refusal rule_refusal
all_shown c e =
    let p = or_else_none (setup_refusal (file_setup c)) (rule_refusal c.events (Register c.lines) (rule_numbers c)) e in
    let fits : CountFits 6 node_limit (length (rule_numbers c)) =
    count_facts 6 node_limit (length (rule_numbers c))
    (plain_none (count_fits 6 node_limit (length (rule_numbers c))) NodeCount
    (or_else_none (plain_unless (count_fits 6 node_limit (length (rule_numbers c))) NodeCount) _ p.1).0) in
    let few : length c.rule ≤ node_limit = omega (arith, fits.within, numbers_length c.events c.lines c.rule) in
    ap (λ (b : Bool). cond b (rule_bytes c) []) (le-leb (length c.rule) node_limit few)
    ∙ nothing_changed c e
