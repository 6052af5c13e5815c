-- Document 01's answer is read back from each enum; what is judged and kept beside a refusal.
use mathlib.Core.{Path.{◌≡◌, refl, sym, ◌∙◌, ap, subst}, Option.{Option, none, some, some-ne-none}, List.{List}}
use Prim.Native.Nat.{ℕ}
use Rattle.std.specs.Prelude.{Result, Ok, Err}
use Rattle.std.specs.Result.{IsErrAnd}
use Rattle.std.proofs.lemmas.Result.{err_from_is_err_and}
use Rattle.refusal.specs.declared.Refusal.{Refusal}
use Rattle.refusal.specs.Refusal.{Condition, Judged, JudgedCall, refusal_of, yield_of, put}
use Rattle.refusal.specs.RefusalAnswers.{judgement, answered, put_unless}

pub judgement_refusal_is : (a : Option Refusal) → refusal_of (judgement a) ≡ a
unfolding judgement
judgement_refusal_is none = refl
judgement_refusal_is (some r) = refl

pub answered_refusal_is : {A : Type 0} (a : Option Refusal) (n : A) → refusal_of (answered a n) ≡ a
unfolding answered
answered_refusal_is none n = refl
answered_refusal_is (some r) n = refl

pub yield_of_answered : {A : Type 0} (a : Option Refusal) (n k : A) → yield_of (answered a n) ≡ some k → (a ≡ none) × (n ≡ k)
unfolding answered
yield_of_answered none n k e = (refl, cc)
yield_of_answered (some r) n k e = absurd (some-ne-none k (sym e))

pub refused_of : {A : Type 0} (c : Result A Refusal) (r : Refusal) → refusal_of c ≡ some r → c ≡ Err r
refused_of (Ok n) r e = absurd (some-ne-none r (sym e))
refused_of (Err s) r e = cc

-- A call that puts an output into a lent buffer and counts it: its answer is judged as the refusal is, and beside one the buffer is as
-- before; an accepted one puts the output.
module _ (a : Option Refusal) (n : ℕ) (output old : List ℕ) {new : List ℕ} {r : Result ℕ Refusal} (answer : r ≡ answered a n)
    (buffer : new ≡ put_unless a output old) where
  pub answered_judged : {cs : List Condition} → Judged cs a → JudgedCall cs (refusal_of r) old new
  unfolding put_unless
  answered_judged {cs} j =
      let e : refusal_of r ≡ a = ap refusal_of answer ∙ answered_refusal_is a n in
      record {
        judged = subst (Judged cs) (sym e) j;
        kept = λ q d. buffer ∙ ap (λ (o : Option Refusal). put_unless o output old) (sym e ∙ d);
      }

  pub answered_put : (m : ℕ) → yield_of r ≡ some m → (a ≡ none) × (m ≡ n) × (new ≡ put output old)
  unfolding put_unless
  answered_put m e =
      let h = yield_of_answered a n m (sym (ap yield_of answer) ∙ e) in
      (h.0, sym h.1, buffer ∙ ap (λ (o : Option Refusal). put_unless o output old) h.0)

-- What `?` passes on: the refusal that the call before it answered.
pub passed_on : {A : Type 0} (r : Result A Refusal) (e : Refusal) → IsErrAnd r (λ y. y ≡ e) → r ≡ Err e
passed_on r e h = let p = err_from_is_err_and r h in p.1 ∙ ap Err p.2
