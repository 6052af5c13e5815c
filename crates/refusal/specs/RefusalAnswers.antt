-- Twin of Refusal, pinned by refusal JudgedClaim.
-- What contracts compute refusals with: the first of several answers, and the results that hold them.
use mathlib.Core.{Bool.{Bool, true, false}, Option.{Option, none, some}, List.{List}}
use Rattle.std.specs.Prelude.{ℕ, Result, Ok, Err}
use Rattle.refusal.specs.declared.Refusal.{Refusal}
use Rattle.refusal.specs.Refusal.{put}

-- The first of two answers that is a refusal.
unfoldable pub or_else : Option Refusal → Option Refusal → Option Refusal
or_else (some refusal) later = some refusal
or_else none later = later

-- The answer of a condition without a place, from a test that fails where the condition is met.
unfoldable pub plain_unless : Bool → Refusal → Option Refusal
plain_unless true given = none
plain_unless false given = some given

-- The answer of a condition with a place, from the lowest place where it is met.
unfoldable pub at_found : Option ℕ → (ℕ → Refusal) → Option Refusal
at_found none given = none
at_found (some p) given = some (given p)

-- The result of a check.
unfoldable pub judgement : Option Refusal → Result (Unit {0}) Refusal
judgement none = Ok tt
judgement (some refusal) = Err refusal

-- The result of a call, with what it yields where it is accepted.
unfoldable pub answered : {A : Type 0} → Option Refusal → A → Result A Refusal
answered none yielded = Ok yielded
answered (some refusal) yielded = Err refusal

-- A lent buffer after a call that puts an output: beside a refusal it is as before.
unfoldable pub put_unless : Option Refusal → List ℕ → List ℕ → List ℕ
put_unless none output old = put output old
put_unless (some refusal) output old = old
