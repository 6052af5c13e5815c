-- What a caller of check_form knows, of either form of file; and the arrays that a text is read into.
use Prim.Native.Nat.{ℕ, ◌*◌}
use mathlib.Core.{Path.{◌≡◌, refl, ap, ◌∙◌}, List.{List}}
use lib.ListN.{replicate}
use Rattle.std.specs.Prelude.{Result, Ok, Err}
use Rattle.limits.specs.Limits.{meet_limit, node_limit}
use Rattle.refusal.specs.declared.{Refusal.{Refusal, TheVariants.{TextForm}}}
use Rattle.text_format.specs.Format.{Outcome, contents, refused}
use Rattle.channel_file.specs.{ChannelFile.{Contents}, Reading.{form_of, checked_by, checked}}
use Rattle.channel_file.specs.Bytes.{meet_bytes, rule_bytes, put_front, stored_meet, stored_rule, arrays_with, arrays_of}
use Rattle.channel_file.specs.Steps.{ReadsForm}
use Rattle.channel_file.specs.declared.{Form.{Form}}

-- A text is accepted with the form of its contents; or it is refused.
module _ {A F : Type 0} (form_of : A → F) where
  pub accepted : (x : Outcome A) {f : F} → Ok f ≡ checked_by form_of x → (c : A) × (x ≡ contents c) × (f ≡ form_of c)
  accepted (contents c) h = (c, refl, cc)
  accepted (refused q) h = cc

  pub not_accepted : (x : Outcome A) {r : Refusal} → Err r ≡ checked_by form_of x → (p : ℕ) × (x ≡ refused p)
  not_accepted (contents c) h = cc
  not_accepted (refused q) h = (q, refl)

-- ---- reading into arrays

pub arrays_refused : (x : Outcome Contents) {r : Refusal} → Err r ≡ checked x → Err r ≡ arrays_of x
arrays_refused x e = ap (λ (z : Result Form Refusal). arrays_with z (stored_meet x (replicate meet_limit 0)) (stored_rule x (replicate (node_limit * 3) 0))) e

pub arrays_read : (x : Outcome Contents) {f : Form} {meet rule meet' rule' : List ℕ} → meet ≡ replicate meet_limit 0
    → rule ≡ replicate (node_limit * 3) 0 → ReadsForm TextForm x meet rule meet' rule' (Ok f)
    → Ok (record { form = f; meet = meet'; rule = rule' }) ≡ arrays_of x
arrays_read x {f} {meet} {rule} {meet'} {rule'} hm hr s = go (accepted form_of x s.reply)
  where
    go : (c : Contents) × (x ≡ contents c) × (f ≡ form_of c) → Ok (record { form = f; meet = meet'; rule = rule' }) ≡ arrays_of x
    go w =
        let m : meet' ≡ put_front (meet_bytes w.0) (replicate meet_limit 0) = (s.bytes w.0 w.1).0 ∙ ap (put_front (meet_bytes w.0)) hm in
        let n : rule' ≡ put_front (rule_bytes w.0) (replicate (node_limit * 3) 0) = (s.bytes w.0 w.1).1 ∙ ap (put_front (rule_bytes w.0)) hr in
        rw (w.1, w.2, m, n)
