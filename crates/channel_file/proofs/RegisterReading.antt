-- How the answer to the whole text of a register's file comes from the answers to its lines; and the array that it is read into.
use Prim.Native.Nat.{ℕ, ◌+◌, ◌*◌, ◌≤◌}
use mathlib.Core.{Path.{◌≡◌, sym, ap, ◌∙◌, subst}, List.{List, [], ◌∷◌}}
use native.Mathlib.Omega.{arith}
use lib.ListN.{length, drop, replicate}
use Rattle.limits.specs.Limits.{node_limit}
use Rattle.refusal.specs.{declared.{Refusal.{Refusal}}, declared.Refusal.TheVariants.{TextForm}}
use Rattle.text_format.specs.{Format.{ok, bad, Outcome, contents, refused, whole, outcome, read}, Texts.{ascii}}
use Rattle.channel_file.specs.{ChannelFile.{encoded}, FileFormat.{field}, Bytes.{put_front}, Steps.{counted}}
use Rattle.channel_file.specs.Reading.{answer_by}
use Rattle.channel_file.specs.{RegisterFile.{Token, Contents}, RegisterFormat.{head, rule_line, file}}
use Rattle.channel_file.specs.RegisterReading.{head_text, rule_start, node, rule_bytes, form_of, checked, stored_rule, arrays_with, arrays_of}
use Rattle.channel_file.specs.RegisterSteps.{ReadsForm}
use Rattle.channel_file.specs.declared.registers.{Form.{Form}}
use Rattle.std.specs.Prelude.{Result, Ok, Err}
use Rattle.channel_file.proofs.{RegisterFormat.{head_laws}, Offsets.{forward_by}, Accepted.{accepted}}
use Rattle.channel_file.proofs.Reading.{not_both_ways, one_way, refused_at, place, count_bad, count_ok}

module _ {E : Type 0} (refuses : ℕ → E) where
  pub form_as : {x y : Outcome Contents} {rule rule' : List ℕ} {r : Result Form E} → x ≡ y → ReadsForm refuses x rule rule' r
      → ReadsForm refuses y rule rule' r
  form_as {rule = rule} {rule' = rule'} {r = r} e h = subst (λ (z : Outcome Contents). ReadsForm refuses z rule rule' r) e h

  -- nothing is known of what was stored of a refused text
  pub form_refused : (x : Outcome Contents) (p : ℕ) (rule rule' : List ℕ) → x ≡ refused p → ReadsForm refuses x rule rule' (Err (refuses p))
  form_refused x p rule rule' e = record { reply = sym (ap (answer_by refuses form_of) e); bytes = λ c f. not_both_ways x p c e f }

pub refuse : (t : List ℕ) (p : ℕ) (rule rule' : List ℕ) → p ≤ length t → whole file t ≡ bad (drop p t)
    → ReadsForm place (read file t) rule rule' (Err p)
refuse t p rule rule' h e = form_refused place (read file t) p rule rule' (refused_at file t p h e)

abbrev pub found : (events lines items rule_at : ℕ) → Form
found e l n q = record { events = e; lines = l; items = n; rule_at = q }

module _ (t : List ℕ) where
  pub bad₁ : (r : List ℕ) → (field (ascii "events=")).parse t ≡ bad r → whole file t ≡ bad r
  bad₁ r e = rw e

  module _ (events a : ℕ) (within₁ : a ≤ length t) (e₁ : (field (ascii "events=")).parse t ≡ ok events (drop a t)) where
    pub bad₂ : (r : List ℕ) → (field (ascii "lines=")).parse (drop a t) ≡ bad r → whole file t ≡ bad r
    bad₂ r e = rw e₁ (rw e)

    module _ (lines b : ℕ) (within₂ : b ≤ length t) (e₂ : (field (ascii "lines=")).parse (drop a t) ≡ ok lines (drop b t)) where
      pub bad₃ : (r : List ℕ) → counted 0 (rule_line.parse (drop b t)) ≡ bad r → whole file t ≡ bad r
      bad₃ r e =
          let g : rule_line.parse (drop b t) ≡ bad r = count_bad (rule_line.parse (drop b t)) r e in
          rw e₁ (rw e₂ (rw g))

      pub bad₄ : (n c : ℕ) (r : List ℕ) → counted 0 (rule_line.parse (drop b t)) ≡ ok n (c ∷ r) → whole file t ≡ bad (c ∷ r)
      bad₄ n c r e =
          let g = (count_ok (rule_line.parse (drop b t)) n (c ∷ r) e).1 in
          rw e₁ (rw e₂ (rw g))

      head_read : head.parse t ≡ ok (events, lines) (drop b t)
      head_read = rw e₁ (rw e₂)

      all₄ : (ys : List Token) → rule_line.parse (drop b t) ≡ ok ys [] → whole file t ≡ ok (record { events = events; lines = lines; rule = ys }) []
      all₄ ys g = rw e₁ (rw e₂ (rw g))

      pub good : (rule rule' : List ℕ)
          → ((ys : List Token) (rest : List ℕ) → rule_line.parse (drop b t) ≡ ok ys rest → rule' ≡ put_front (encoded node ys) rule)
          → (n q : ℕ) → q ≡ b + 5 → counted 0 (rule_line.parse (drop b t)) ≡ ok n []
          → ReadsForm place (read file t) rule rule' (Ok (found events lines n q))
      good rule rule' stores n q hq e =
          let g = count_ok (rule_line.parse (drop b t)) n [] e in
          let c : Contents = record { events = events; lines = lines; rule = g.0 } in
          let fb : b ≡ 0 + length (head_text c) = forward_by head head_laws t 0 b (events, lines) (omega arith) within₂ head_read in
          let en : n ≡ length g.0 = sym g.2 in
          let eq : q ≡ rule_start c = omega arith in
          let same : ◌≡◌ {A = Result Form ℕ} (Ok (found events lines n q)) (answer_by place form_of (contents c)) = cc in
          let is : read file t ≡ contents c = ap (outcome t) (all₄ g.0 g.1) in
          record {
            reply = same ∙ sym (ap (answer_by place form_of) is);
            bytes = λ d f.
                let here : c ≡ d = one_way (read file t) c d is f in
                stores g.0 [] g.1 ∙ ap (λ (z : Contents). put_front (rule_bytes z) rule) here;
          }

-- ---- reading into an array

pub array_refused : (x : Outcome Contents) {r : Refusal} → Err r ≡ checked x → Err r ≡ arrays_of x
array_refused x e = ap (λ (z : Result Form Refusal). arrays_with z (stored_rule x (replicate (node_limit * 6) 0))) e

pub array_read : (x : Outcome Contents) {f : Form} {rule rule' : List ℕ} → rule ≡ replicate (node_limit * 6) 0
    → ReadsForm TextForm x rule rule' (Ok f) → Ok (record { form = f; rule = rule' }) ≡ arrays_of x
array_read x {f} {rule} {rule'} hr s = go (accepted form_of x s.reply)
  where
    go : (c : Contents) × (x ≡ contents c) × (f ≡ form_of c) → Ok (record { form = f; rule = rule' }) ≡ arrays_of x
    go w =
        let n : rule' ≡ put_front (rule_bytes w.0) (replicate (node_limit * 6) 0) = s.bytes w.0 w.1 ∙ ap (put_front (rule_bytes w.0)) hr in
        rw (w.1, w.2, n)
