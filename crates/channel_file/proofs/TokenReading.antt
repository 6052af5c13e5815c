-- How a token is read, whether or not byte 10 stands behind the text: byte 10 ends a numeral-parse and a token, and begins none.
use Prim.Native.Nat.{ℕ, zero, suc, ◌+◌, ◌-◌, ◌*◌, ◌≤◌, ◌<◌}
use mathlib.Core.{Path.{◌≡◌, refl, ap, ◌∙◌}, List.{List, [], ◌∷◌, ◌++◌}, Bool.{Bool, true, false, cond}, Option.{Option, some, none}}
use native.Mathlib.Omega.{arith}
use lib.{Dec.{eqb}, ListN.{length, drop, get_or}}
use Rattle.text_format.specs.{Format.{Parsed, ok, bad, bind}, Combinators.{find_in, letter_of, letter_parse, the}}
use Rattle.text_format.specs.Decimal.{is_digit, more, numeral_parse, numbered_parse}
use Rattle.text_format.specs.Series.{Separator, separator, number_item}
use Rattle.channel_file.specs.ChannelFile.{RuleItem, token_O}
use Rattle.channel_file.specs.FileFormat.{Letter, letter_T, letter_O, letter_byte, letters, body}
use Rattle.theory.specs.ValueSets.{Masks}
use Rattle.channel_file.specs.Steps.{value_format, unused, item_format, value_of, token_of, left, with_separator, SawNumber, SawEnded, SawValue, SawToken}
use Rattle.channel_file.specs.declared.{Values.{Values}, Item.{Item}}
use Rattle.std.specs.Prelude.{Result, Ok, Err}
use Rattle.channel_file.proofs.{RuleItems.{item_at, item_none}, Offsets.{here, here_is, over}}

-- what was read, with byte 10 behind what is left
abbrev extended : {A : Type 0} → Parsed A → Parsed A
extended (ok a r) = ok a (r ++ (10 ∷ []))
extended (bad r) = bad (r ++ (10 ∷ []))

more_closed : (k v : ℕ) (s : List ℕ) → more k v (s ++ (10 ∷ [])) ≡ extended (more k v s)
more_closed zero v s = refl
more_closed (suc k) v [] = refl
more_closed (suc k) v (b ∷ s) = go (is_digit b) (more_closed k (v * 10 + (b - 48)) s)
  where
    go : (f : Bool) → more k (v * 10 + (b - 48)) (s ++ (10 ∷ [])) ≡ extended (more k (v * 10 + (b - 48)) s)
        → cond f (more k (v * 10 + (b - 48)) (s ++ (10 ∷ []))) (ok v (b ∷ (s ++ (10 ∷ []))))
        ≡ extended (cond f (more k (v * 10 + (b - 48)) s) (ok v (b ∷ s)))
    go true ih = ih
    go false ih = refl

number_closed : (k : ℕ) (s : List ℕ) → numeral_parse k (s ++ (10 ∷ [])) ≡ extended (numeral_parse k s)
number_closed k [] = refl
number_closed k (b ∷ s) = go (is_digit b) (eqb b 48)
  where
    go : (f g : Bool) → cond f (cond g (ok 0 (s ++ (10 ∷ []))) (more k (b - 48) (s ++ (10 ∷ [])))) (bad (b ∷ (s ++ (10 ∷ []))))
        ≡ extended (cond f (cond g (ok 0 s) (more k (b - 48) s)) (bad (b ∷ s)))
    go true true = refl
    go true false = more_closed k (b - 48) s
    go false g = refl

dot_closed : (s : List ℕ) → letter_parse (the 46) (tt ∷ []) (s ++ (10 ∷ [])) ≡ extended (letter_parse (the 46) (tt ∷ []) s)
dot_closed [] = refl
dot_closed (b ∷ s) = go (find_in (the 46) (tt ∷ []) b)
  where
    go : (o : Option (Unit {0})) → letter_of o b (s ++ (10 ∷ [])) ≡ extended (letter_of o b s)
    go (some k) = refl
    go none = refl

-- a numeral-parse and the dot behind it
abbrev valued : {A : Type 0} → ℕ → Parsed A → Parsed (ℕ × A)
valued v y = bind y (λ e q. ok (v, e) q)

abbrev dotted : Parsed ℕ → Parsed (ℕ × Unit {0})
dotted y = bind y (λ v r. valued v (letter_parse (the 46) (tt ∷ []) r))

abbrev dot_parse : ℕ → List ℕ → Parsed (ℕ × Unit {0})
dot_parse k = numbered_parse k (the 46) (tt ∷ [])

dotted_closed : (k : ℕ) (s : List ℕ) → dot_parse k (s ++ (10 ∷ [])) ≡ extended (dot_parse k s)
dotted_closed k s = ap dotted (number_closed k s) ∙ go (numeral_parse k s)
  where
    last : (v : ℕ) (y : Parsed (Unit {0})) → valued v (extended y) ≡ extended (valued v y)
    last v (ok e q) = refl
    last v (bad q) = refl

    go : (y : Parsed ℕ) → dotted (extended y) ≡ extended (dotted y)
    go (ok v r) = ap (valued v) (dot_closed r) ∙ last v (letter_parse (the 46) (tt ∷ []) r)
    go (bad r) = refl

module _ (t : List ℕ) (closed : Bool) where
  -- what a parser reads at an offset, where byte 10 ends whatever it reads
  left_read : {A : Type 0} (parse : List ℕ → Parsed A) → ((s : List ℕ) → parse (s ++ (10 ∷ [])) ≡ extended (parse s)) → (i n : ℕ) (a : A)
      → parse (drop i t) ≡ ok a (drop n t) → parse (left closed t i) ≡ ok a (left closed t n)
  left_read parse h i n a e = go closed
    where
      go : (f : Bool) → parse (left f t i) ≡ ok a (left f t n)
      go false = e
      go true = h (drop i t) ∙ ap extended e

  left_stuck : {A : Type 0} (parse : List ℕ → Parsed A) → ((s : List ℕ) → parse (s ++ (10 ∷ [])) ≡ extended (parse s)) → (i p : ℕ)
      → parse (drop i t) ≡ bad (drop p t) → parse (left closed t i) ≡ bad (left closed t p)
  left_stuck parse h i p e = go closed
    where
      go : (f : Bool) → parse (left f t i) ≡ bad (left f t p)
      go false = e
      go true = h (drop i t) ∙ ap extended e

  module _ (k : Values) where
    -- a token's letter is read
    lettered : (l : Letter) (i : ℕ) → i < length t → get_or t i 0 ≡ letter_byte l
        → (item_format k).parse (left closed t i) ≡ (body (value_format k) (unused k) l).parse (left closed t (i + 1))
    lettered l i h e = go closed
      where
        go : (f : Bool) → (item_format k).parse (left f t i) ≡ (body (value_format k) (unused k) l).parse (left f t (i + 1))
        go false = ap (item_format k).parse (here_is t i (letter_byte l) h e) ∙ item_at (value_format k) (unused k) l (drop (i + 1) t)
        go true =
            ap (λ (s : List ℕ). (item_format k).parse (s ++ (10 ∷ []))) (here_is t i (letter_byte l) h e)
            ∙ item_at (value_format k) (unused k) l (drop (i + 1) t ++ (10 ∷ []))

    unlettered : (i : ℕ) → i < length t → find_in letter_byte (letter_T ∷ letters) (get_or t i 0) ≡ none
        → (item_format k).parse (left closed t i) ≡ bad (left closed t i)
    unlettered i h e = go closed
      where
        go : (f : Bool) → (item_format k).parse (left f t i) ≡ bad (left f t i)
        go false = rw (here t i h) (item_none (value_format k) (unused k) (get_or t i 0) (drop (i + 1) t) e)
        go true = rw (here t i h) (item_none (value_format k) (unused k) (get_or t i 0) (drop (i + 1) t ++ (10 ∷ [])) e)

    pub token_over : (i : ℕ) → length t ≤ i → (item_format k).parse (left closed t i) ≡ bad (left closed t i)
    token_over i h = go closed
      where
        go : (f : Bool) → (item_format k).parse (left f t i) ≡ bad (left f t i)
        go false = rw (over t i h)
        go true = rw (over t i h)

-- what is read, with the separator behind it
abbrev followed : {A : Type 0} → A → Parsed Separator → Parsed (A × Separator)
followed x y = bind y (λ e r. ok (x, e) r)

-- ---- values

-- a numeral, where values are numbers
abbrev number_value : Result (ℕ × ℕ) ℕ → Result ((ℕ × ℕ) × ℕ) ℕ
number_value (Ok r) = Ok ((r.0, 0), r.1)
number_value (Err p) = Err p

pub saw_number_value : (t : List ℕ) (at : ℕ) (r : Result (ℕ × ℕ) ℕ) → SawNumber (numeral_parse 2) t at r → SawValue Values.Numbered t at (number_value r)
saw_number_value t at (Ok r) q =
    record { same = λ closed. rw (left_read t closed (numeral_parse 2) (number_closed 2) at r.1 r.0 q.same); within = q.within }
saw_number_value t at (Err p) q =
    record { same = λ closed. rw (left_stuck t closed (numeral_parse 2) (number_closed 2) at p q.same); within = q.within }

-- two masks and a dot between
abbrev high_masks : ℕ → Result (ℕ × ℕ) ℕ → Result ((ℕ × ℕ) × ℕ) ℕ
high_masks low (Ok r) = Ok ((low, r.0), r.1)
high_masks low (Err p) = Err p

abbrev mask_pair : ℕ → Parsed (ℕ × Separator) → Parsed (Masks × Separator)
mask_pair low y =
    bind {A = (ℕ × Unit {0}) × (ℕ × Separator)} (bind y (λ b r. ok ((low, tt), b) r)) (λ p r. ok (record { low = p.0.0; high = p.1.0 }, p.1.1) r)

behind_masks : (low high : ℕ) (y : Parsed Separator) → mask_pair low (valued high y) ≡ followed (record { low = low; high = high }) y
behind_masks low high (ok e r) = refl
behind_masks low high (bad r) = refl

module _ (t : List ℕ) (at : ℕ) where
  pub saw_no_mask : (p : ℕ) → SawEnded 4 46 t at (Err p) → SawValue Values.Register t at (Err p)
  saw_no_mask p q =
      record { same = λ closed. rw (left_stuck t closed (dot_parse 4) (dotted_closed 4) at p q.same); within = q.within }

  pub saw_masks : (low m : ℕ) → SawEnded 4 46 t at (Ok (low, m)) → (r : Result (ℕ × ℕ) ℕ) → SawNumber (numeral_parse 4) t m r
      → SawValue Values.Register t at (high_masks low r)
  saw_masks low m q (Ok r) g =
      record {
        same = λ closed.
            rw (left_read t closed (dot_parse 4) (dotted_closed 4) at m (low, tt) q.same)
            (rw (left_read t closed (numeral_parse 4) (number_closed 4) m r.1 r.0 g.same) (behind_masks low r.0 (separator.parse (left closed t r.1))));
        within = g.within;
      }
  saw_masks low m q (Err p) g =
      record {
        same = λ closed.
            rw (left_read t closed (dot_parse 4) (dotted_closed 4) at m (low, tt) q.same)
            (rw (left_stuck t closed (numeral_parse 4) (number_closed 4) m p g.same));
        within = g.within;
      }

-- ---- tokens by their letter

-- a numeral-parse that was looked for behind a letter, as a token
abbrev numbered_token : (ℕ → Item) → Result (ℕ × ℕ) ℕ → Result (Item × ℕ) ℕ
numbered_token item (Ok r) = Ok (item r.0, r.1)
numbered_token item (Err p) = Err p

abbrev output_token : ℕ → Result ((ℕ × ℕ) × ℕ) ℕ → Result (Item × ℕ) ℕ
output_token v (Ok r) = Ok (Item.Output v r.0.0 r.0.1, r.1)
output_token v (Err p) = Err p

module _ {B : Type 0} where
  -- a numeral-parse behind a letter, and the separator behind it
  abbrev named : (ℕ → RuleItem B) → Parsed (ℕ × Separator) → Parsed (RuleItem B × Separator)
  named f y = bind y (λ p r. ok (f p.0, p.1) r)

  behind_number : (f : ℕ → RuleItem B) (v : ℕ) (y : Parsed Separator) → named f (valued v y) ≡ followed (f v) y
  behind_number f v (ok e r) = refl
  behind_number f v (bad r) = refl

  -- an event, its dot and a value
  abbrev output : ℕ → Parsed (B × Separator) → Parsed (RuleItem B × Separator)
  output v y = bind {A = (ℕ × Unit {0}) × (B × Separator)} (bind y (λ b r. ok ((v, tt), b) r)) (λ p r. ok (token_O p.0.0 p.1.0, p.1.1) r)

  behind_value : (v : ℕ) (w : B) (y : Parsed Separator) → output v (followed w y) ≡ followed (token_O v w) y
  behind_value v w (ok e r) = refl
  behind_value v w (bad r) = refl

module _ (k : Values) (t : List ℕ) (at : ℕ) (h : at < length t) where
  pub saw_none : find_in letter_byte (letter_T ∷ letters) (get_or t at 0) ≡ none → SawToken k t at (Err at)
  saw_none e = record { same = λ closed. unlettered t closed k at h e; within = omega arith }

  module _ (l : Letter) (here_l : get_or t at 0 ≡ letter_byte l) where
    -- a letter alone
    pub saw_letter : (x : Item) → ((s : List ℕ) → (body (value_format k) (unused k) l).parse s ≡ with_separator (token_of k x) s)
        → SawToken k t at (Ok (x, at + 1))
    saw_letter x e = record { same = λ closed. lettered t closed k l at h here_l ∙ e (left closed t (at + 1)); within = omega arith }

    -- a letter and a numeral-parse
    pub saw_number : (item : ℕ → Item)
        → ((s : List ℕ) → (body (value_format k) (unused k) l).parse s ≡ named (λ v. token_of k (item v)) ((number_item 2).parse s))
        → (r : Result (ℕ × ℕ) ℕ) → SawNumber (numeral_parse 2) t (at + 1) r → SawToken k t at (numbered_token item r)
    saw_number item e (Ok r) q =
        record {
          same = λ closed.
              lettered t closed k l at h here_l ∙ e (left closed t (at + 1))
              ∙ rw (left_read t closed (numeral_parse 2) (number_closed 2) (at + 1) r.1 r.0 q.same)
              (behind_number (λ w. token_of k (item w)) r.0 (separator.parse (left closed t r.1)));
          within = q.within;
        }
    saw_number item e (Err p) q =
        record {
          same = λ closed.
              lettered t closed k l at h here_l ∙ e (left closed t (at + 1))
              ∙ rw (left_stuck t closed (numeral_parse 2) (number_closed 2) (at + 1) p q.same);
          within = q.within;
        }

  -- O, a numeral-parse, a dot and a value
  module _ (here_O : get_or t at 0 ≡ letter_byte letter_O) where
    pub saw_no_dot : (p : ℕ) → SawEnded 2 46 t (at + 1) (Err p) → SawToken k t at (Err p)
    saw_no_dot p q =
        record {
          same = λ closed. lettered t closed k letter_O at h here_O ∙ rw (left_stuck t closed (dot_parse 2) (dotted_closed 2) (at + 1) p q.same);
          within = q.within;
        }

    pub saw_output : (v m : ℕ) → SawEnded 2 46 t (at + 1) (Ok (v, m)) → (r : Result ((ℕ × ℕ) × ℕ) ℕ) → SawValue k t m r → SawToken k t at (output_token v r)
    saw_output v m q (Ok r) g =
        record {
          same = λ closed.
              lettered t closed k letter_O at h here_O
              ∙ rw (left_read t closed (dot_parse 2) (dotted_closed 2) (at + 1) m (v, tt) q.same)
              (ap (output v) (g.same closed) ∙ behind_value v (value_of k r.0.0 r.0.1) (separator.parse (left closed t r.1)));
          within = g.within;
        }
    saw_output v m q (Err p) g =
        record {
          same = λ closed.
              lettered t closed k letter_O at h here_O
              ∙ rw (left_read t closed (dot_parse 2) (dotted_closed 2) (at + 1) m (v, tt) q.same)
              (ap (output v) (g.same closed));
          within = g.within;
        }
