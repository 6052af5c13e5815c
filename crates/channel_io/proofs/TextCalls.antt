-- A call on a text is judged by 4, then by what the text's contents meet, whatever the text shows.
use Prim.Native.Nat.{ℕ}
use mathlib.Core.{Path.{◌≡◌, refl, subst, subst⁻¹}, Logic.{◌⊎◌, inl, inr}, List.{List, [], ◌∷◌}, Bool.{true}, Option.{Option, some}}
use Rattle.refusal.specs.declared.Refusal.{Refusal}
use Rattle.refusal.specs.Refusal.{Condition, at_lowest, form_place, First, has_place, part_of, order, condition_numbers, right_places}
use Rattle.refusal.proofs.Refusals.{judged}
use Rattle.text_format.specs.Format.{Outcome, contents, refused}
use Rattle.channel_file.specs.{ChannelFile.{RefusedBy}, Reading.{AnswersBy}}
use Rattle.channel_file.proofs.Forms.{FormLaws, answer_to, answer, one_answer, shows_or_not, form_met, form_unmet}
use Rattle.channel_io.specs.FileConditions.{ConditionsBy, JudgedBy, of_contents, no_contents}
use Rattle.channel_io.specs.FileRefusals.{text_refusal}

-- ---- for any form of files
module _ {A : Type 0} (K : FormLaws A) (conditions : A → List Condition) (t : List ℕ) where
  -- There is a list for every text: the reader without its limit says what the text shows.
  pub listed_by : (cs : List Condition) × ConditionsBy K.Shows t conditions cs
  listed_by = go (shows_or_not K t)
    where
      go : ((c : A) × K.Shows c t) ⊎ ((c : A) → ¬ K.Shows c t) → (cs : List Condition) × ConditionsBy K.Shows t conditions cs
      go (inl (c, s)) = (at_lowest form_place (RefusedBy K.Shows t) ∷ conditions c, of_contents c s)
      go (inr none_shown) = (at_lowest form_place (RefusedBy K.Shows t) ∷ [], no_contents none_shown)

  module _ (refusal : A → Option Refusal) (first : (c : A) → First (conditions c) (refusal c)) where
    -- Every such list gives the answer that the reader's answer yields.
    pub call_first_by : (cs : List Condition) → ConditionsBy K.Shows t conditions cs → First cs (text_refusal refusal (answer_to K t))
    unfolding text_refusal
    call_first_by cs (of_contents c s) = go (answer_to K t) (answer K t)
      where
        go : (x : Outcome A) → AnswersBy K.Shows t x → First (at_lowest form_place (RefusedBy K.Shows t) ∷ conditions c) (text_refusal refusal x)
        go (contents d) a =
            let e = one_answer K t (contents c) (contents d) (a.0, s) a in
            let same : c ≡ d = cc in
            form_unmet K t d a (conditions c) (refusal d) (subst (λ (x : A). First (conditions c) (refusal x)) same (first c))
        go (refused p) a = form_met K t p a (conditions c)
    call_first_by cs (no_contents none_shown) = go (answer_to K t) (answer K t)
      where
        go : (x : Outcome A) → AnswersBy K.Shows t x → First (at_lowest form_place (RefusedBy K.Shows t) ∷ []) (text_refusal refusal x)
        go (contents d) a = absurd (none_shown d a.1)
        go (refused p) a = form_met K t p a []

    pub call_by :
        {M : Type 0} (before after : M) → ((c : A) → part_of (4 ∷ condition_numbers (conditions c)) order ≡ true)
        → ((c : A) → right_places (conditions c) ≡ true)
        → ((r : Refusal) → text_refusal refusal (answer_to K t) ≡ some r → after ≡ before)
        → JudgedBy K.Shows t conditions (text_refusal refusal (answer_to K t)) before after
    unfolding condition_numbers right_places has_place part_of order
    call_by before after ordered placed kept =
        record {
          listed = listed_by;
          judged = λ cs x. record { judged = judged cs _ (call_first_by cs x) (in_order cs x) (in_place cs x); kept = kept };
        }
      where
        in_order : (cs : List Condition) → ConditionsBy K.Shows t conditions cs → part_of (condition_numbers cs) order ≡ true
        in_order cs (of_contents c s) = ordered c
        in_order cs (no_contents none_shown) = refl

        in_place : (cs : List Condition) → ConditionsBy K.Shows t conditions cs → right_places cs ≡ true
        in_place cs (of_contents c s) = placed c
        in_place cs (no_contents none_shown) = refl

    -- the same for an answer that is this
    pub judged_by :
        {M : Type 0} {before after : M} {answer : Option Refusal} → ((c : A) → part_of (4 ∷ condition_numbers (conditions c)) order ≡ true)
        → ((c : A) → right_places (conditions c) ≡ true) → answer ≡ text_refusal refusal (answer_to K t)
        → ((r : Refusal) → text_refusal refusal (answer_to K t) ≡ some r → after ≡ before) → JudgedBy K.Shows t conditions answer before after
    judged_by {M} {before} {after} ordered placed is kept =
        subst⁻¹ (λ (a : Option Refusal). JudgedBy K.Shows t conditions a before after) is (call_by before after ordered placed kept)
