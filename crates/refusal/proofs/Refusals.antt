-- There is one first refusal and one lowest refusal-place; the computing twins yield them.
use mathlib.Core.{Path.{◌≡◌, refl, sym, ◌∙◌, ap}, Logic.{◌⊎◌, inl, inr}, Bool.{Bool, true, false, ◌&&◌}}
use mathlib.Core.{Option.{Option, none, some, some-ne-none}, List.{List, [], ◌∷◌, ◌++◌}}
use Prim.Native.Nat.{ℕ, ◌<◌}
use native.Mathlib.Omega.{arith}
use borrow.Author.Tests.{leb-true}
use lib.Dec.{leb}
use Rattle.refusal.specs.declared.Refusal.{Refusal}
use Rattle.refusal.specs.declared.Refusal.TheVariants.{SetupEvents, SetupValues, SetupMeet, SetupWheel, SetupLines, TextForm, NodeCount}
use Rattle.refusal.specs.declared.Refusal.TheVariants.{NodeFields, NodeTree, UnboundVariable, UnprotectedVariable, StateCount, BinderDepth}
use Rattle.refusal.specs.declared.Refusal.TheVariants.{TableLimits, WrittenSize, Kiss2Values, Kiss2Form, BufferLength, ChannelNumber}
use Rattle.refusal.specs.declared.Refusal.TheVariants.{ChannelEmpty, EventNumber, ToolContents, PulseTotal, SequenceLength, RowTotal}
use Rattle.std.specs.Prelude.{Some, None, Ok, Err}
use Rattle.std.proofs.lemmas.Option.{none-some}
use Rattle.refusal.specs.Refusal.{at_place, Condition, plain, at_lowest, Gives, Lowest, First, has_place, refusal_number, refusal_place}
use Rattle.refusal.specs.RefusalAnswers.{or_else, plain_unless, judgement, answered}
use Rattle.refusal.specs.RefusalClaims.{LowestUniqueClaim, FirstUniqueClaim, JudgedClaim, FirstAppendClaim, NoneMet, NoneMetClaim}
use Rattle.refusal.specs.RefusalClaims.{ListedRefusal, ListedRefusalClaim}

-- The lowest refusal-place is one, so that a condition gives one refusal at most.
pub lowest_unique : LowestUniqueClaim
lowest_unique P p q l m =
    let not_above : ¬ (q < p) = λ h. l.least q h m.holds in
    let not_below : ¬ (p < q) = λ h. m.least p h l.holds in
    omega arith

gives_one : (C : Condition) (r s : Refusal) → Gives C r → Gives C s → r ≡ s
gives_one (plain given Met) r s met met2 = met.1 ∙ sym met2.1
gives_one (at_lowest given Met) r s (p, l, e) (q, m, d) = e ∙ ap (at_place given) (lowest_unique Met p q l m) ∙ sym d

-- Where at most one refusal-place will do, it is the lowest.
pub only_place : (P : ℕ → Type 0) (p : ℕ) → P p → ((q : ℕ) → P q → q ≡ p) → Lowest P p
only_place P p h one = record { holds = h; least = λ i l m. omega (arith, l, one i m) }

-- The twin of a condition without a refusal-place, from a test that decides it.
pub plain_first : (given : Refusal) (Met : Type 0) (test : Bool) → (test ≡ false → Met) → (test ≡ true → ¬ Met)
    → First (plain given Met ∷ []) (plain_unless test given)
unfolding First plain_unless
plain_first given Met true met unmet = inr (λ r m. unmet refl m.0, refl)
plain_first given Met false met unmet = inl (given, (met refl, refl), refl)

pub first_unique : FirstUniqueClaim
unfolding First
first_unique [] a b x y = x ∙ sym y
first_unique (C ∷ cs) a b (inl (r, x, d)) (inl (s, y, e)) = d ∙ ap some (gives_one C r s x y) ∙ sym e
first_unique (C ∷ cs) a b (inl (r, x, d)) (inr (unmet, y)) = absurd (unmet r x)
first_unique (C ∷ cs) a b (inr (unmet, x)) (inl (s, y, e)) = absurd (unmet s y)
first_unique (C ∷ cs) a b (inr (unmet, x)) (inr (unmet2, y)) = first_unique cs a b x y

pub judged : JudgedClaim
judged cs answer first ordered placed =
    record { first = first; only = λ other x. first_unique cs other answer x first; ordered = ordered; placed = placed }

pub accepted_exactly : NoneMetClaim
unfolding First NoneMet
accepted_exactly [] a x = (λ e. tt, λ u. x)
accepted_exactly (C ∷ cs) a (inl (r, x, d)) =
    (λ e. absurd (some-ne-none r (sym d ∙ e)), λ none_met. absurd (none_met.0 r x))
accepted_exactly (C ∷ cs) a (inr (unmet, x)) =
    (λ e. (unmet, (accepted_exactly cs a x).0 e), λ none_met. (accepted_exactly cs a x).1 none_met.1)

-- What an answer was made from: a check accepts exactly if there is no refusal.
pub judgement_accepted : (a : Option Refusal) → judgement a ≡ Ok tt → a ≡ none
unfolding judgement
judgement_accepted none e = refl
judgement_accepted (some r) e = let z : ◌≡◌ {A = ℕ} 0 1 = cc in absurd (omega arith)

pub judgement_refused : (a : Option Refusal) (r : Refusal) → judgement a ≡ Err r → a ≡ some r
unfolding judgement
judgement_refused none r e = let z : ◌≡◌ {A = ℕ} 0 1 = cc in absurd (omega arith)
judgement_refused (some s) r e = cc

pub answered_accepted : {A : Type 0} (a : Option Refusal) (n m : A) → answered a n ≡ Ok m → (a ≡ none) × (n ≡ m)
unfolding answered
answered_accepted none n m e = (refl, cc)
answered_accepted (some r) n m e = let z : ◌≡◌ {A = ℕ} 0 1 = cc in absurd (omega arith)

pub answered_refused : {A : Type 0} (a : Option Refusal) (n : A) (r : Refusal) → answered a n ≡ Err r → a ≡ some r
unfolding answered
answered_refused none n r e = let z : ◌≡◌ {A = ℕ} 0 1 = cc in absurd (omega arith)
answered_refused (some s) n r e = cc

pub or_else_assoc : (a b c : Option Refusal) → or_else a (or_else b c) ≡ or_else (or_else a b) c
unfolding or_else
or_else_assoc none b c = refl
or_else_assoc (some r) b c = refl

-- There is no refusal exactly if no part has one.
pub or_else_none : (a b : Option Refusal) → or_else a b ≡ none → (a ≡ none) × (b ≡ none)
unfolding or_else
or_else_none none b e = (refl, e)
or_else_none (some r) b e = absurd (some-ne-none r e)

pub plain_none : (test : Bool) (given : Refusal) → plain_unless test given ≡ none → test ≡ true
unfolding plain_unless
plain_none true given e = refl
plain_none false given e = absurd (some-ne-none given e)

-- A refusal is that of a part.
pub or_else_some : (a b : Option Refusal) (r : Refusal) → or_else a b ≡ some r → (a ≡ some r) ⊎ (b ≡ some r)
unfolding or_else
or_else_some none b r e = inr e
or_else_some (some q) b r e = inl e

pub plain_some : (test : Bool) (given r : Refusal) → plain_unless test given ≡ some r → (test ≡ false) × (r ≡ given)
unfolding plain_unless
plain_some true given r e = absurd (some-ne-none r (sym e))
plain_some false given r e = let d : given ≡ r = cc in (refl, sym d)

-- Lists of conditions, one after the other: the second is judged where the first gives no refusal.
pub first_then :
    (cs ds : List Condition) (a b : Option Refusal) → First cs a → (a ≡ none → First ds b) → First (cs ++ ds) (or_else a b)
unfolding First or_else
first_then [] ds a b x y = first_none a x
  where
    first_none : (a : Option Refusal) → a ≡ none → First ds (or_else a b)
    first_none none e = y x
    first_none (some r) e = absurd (some-ne-none r e)
first_then (C ∷ cs) ds a b (inl (r, x, e)) y = inl (r, x, ap (λ o. or_else o b) e)
first_then (C ∷ cs) ds a b (inr (unmet, x)) y = inr (unmet, first_then cs ds a b x y)

pub first_append : FirstAppendClaim
first_append cs ds a b x y = first_then cs ds a b x (λ e. y)

-- One condition, from an answer that it decides; and one more in front of others.
pub first_one :
    (C : Condition) (a : Option Refusal) → ((r : Refusal) → a ≡ some r → Gives C r) → (a ≡ none → (r : Refusal) → ¬ Gives C r) → First (C ∷ []) a
unfolding First
first_one C (some r) met unmet = inl (r, met r refl, refl)
first_one C none met unmet = inr (unmet refl, refl)

pub first_cons :
    (C : Condition) (cs : List Condition) (a b : Option Refusal) → ((r : Refusal) → a ≡ some r → Gives C r) → (a ≡ none → (r : Refusal) → ¬ Gives C r)
    → (a ≡ none → First cs b) → First (C ∷ cs) (or_else a b)
first_cons C cs a b met unmet later = first_then (C ∷ []) cs a b (first_one C a met unmet) later

-- What follows a condition that is not met.
pub first_rest : (C : Condition) (cs : List Condition) (a : Option Refusal) → ((r : Refusal) → ¬ Gives C r) → First (C ∷ cs) a → First cs a
unfolding First
first_rest C cs a unmet (inl (r, met, e)) = absurd (unmet r met)
first_rest C cs a unmet (inr (u, rest)) = rest

-- ---- every refusal is one of the list

-- A number and a place as a computed test finds them.
unfoldable numbered : ℕ → Bool
numbered n = leb 1 n && leb n 25

both : (a b : Bool) → (a && b) ≡ true → (a ≡ true) × (b ≡ true)
both true b e = (refl, e)
both false b e = let z : ◌≡◌ {A = ℕ} 0 1 = cc in absurd (omega arith)

without : (r : Refusal) → refusal_place r ≡ None → numbered (refusal_number r) ≡ true → has_place (refusal_number r) ≡ false → ListedRefusal r
unfolding numbered
without r o n e =
    let w = both (leb 1 (refusal_number r)) (leb (refusal_number r) 25) n in
    record {
      some_number = leb-true 1 (refusal_number r) w.0;
      last_number = leb-true (refusal_number r) 25 w.1;
      with_place = λ p d. absurd (none-some p (sym o ∙ d));
      without_place = λ d. e;
    }

placed : (r : Refusal) (p : ℕ) → refusal_place r ≡ Some p → numbered (refusal_number r) ≡ true → has_place (refusal_number r) ≡ true → ListedRefusal r
unfolding numbered
placed r p o n e =
    let w = both (leb 1 (refusal_number r)) (leb (refusal_number r) 25) n in
    record {
      some_number = leb-true 1 (refusal_number r) w.0;
      last_number = leb-true (refusal_number r) 25 w.1;
      with_place = λ q d. e;
      without_place = λ d. absurd (none-some p (sym d ∙ o));
    }

pub listed_refusal : ListedRefusalClaim
unfolding has_place numbered
listed_refusal SetupEvents = without SetupEvents refl refl refl
listed_refusal SetupValues = without SetupValues refl refl refl
listed_refusal SetupMeet = without SetupMeet refl refl refl
listed_refusal SetupWheel = without SetupWheel refl refl refl
listed_refusal SetupLines = without SetupLines refl refl refl
listed_refusal NodeCount = without NodeCount refl refl refl
listed_refusal StateCount = without StateCount refl refl refl
listed_refusal BinderDepth = without BinderDepth refl refl refl
listed_refusal TableLimits = without TableLimits refl refl refl
listed_refusal WrittenSize = without WrittenSize refl refl refl
listed_refusal Kiss2Values = without Kiss2Values refl refl refl
listed_refusal Kiss2Form = without Kiss2Form refl refl refl
listed_refusal BufferLength = without BufferLength refl refl refl
listed_refusal ChannelNumber = without ChannelNumber refl refl refl
listed_refusal ChannelEmpty = without ChannelEmpty refl refl refl
listed_refusal EventNumber = without EventNumber refl refl refl
listed_refusal ToolContents = without ToolContents refl refl refl
listed_refusal PulseTotal = without PulseTotal refl refl refl
listed_refusal SequenceLength = without SequenceLength refl refl refl
listed_refusal RowTotal = without RowTotal refl refl refl
listed_refusal (TextForm p) = placed (TextForm p) p refl refl refl
listed_refusal (NodeFields p) = placed (NodeFields p) p refl refl refl
listed_refusal (NodeTree p) = placed (NodeTree p) p refl refl refl
listed_refusal (UnboundVariable p) = placed (UnboundVariable p) p refl refl refl
listed_refusal (UnprotectedVariable p) = placed (UnprotectedVariable p) p refl refl refl
