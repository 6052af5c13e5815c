-- The path of open states in an array: of each open state how many were open with it when it was opened.
use mathlib.Core.{Path.{◌≡◌, refl, sym, ◌∙◌, ap, subst, subst⁻¹}, Bool.{Bool, true, false}, List.{List, [], ◌∷◌}}
use Prim.Native.Nat.{ℕ, zero, suc, ◌+◌, ◌-◌, ◌≤◌, ◌<◌}
use native.Mathlib.Omega.{arith}
use borrow.Author.Tests.{eqb-true, eqb-false}
use lib.{Dec.{eqb}, ListN.{length, get_or, set, replicate}}
use Rattle.std.specs.Prelude.{Option, None, Some}
use Rattle.std.proofs.lemmas.Option.{none-some}
use Rattle.std.proofs.lemmas.List.{set-set, set-get_or, get_or-set_same, get_or-set_other}
use Rattle.theory.specs.CharacteristicFormula.{OpenAt, here, above}
use Rattle.characteristic.specs.NodeOutput.{IsPath}

abbrev Depths : Type 0
Depths = List (Option ℕ)

-- What an entry says is one thing.
pub none_some : {d : ℕ} {o : Option ℕ} → o ≡ None → o ≡ Some d → ⊥
none_some {d} e h = none-some d (sym e ∙ h)

pub same_some : {d e : ℕ} → ◌≡◌ {A = Option ℕ} (Some d) (Some e) → d ≡ e
same_some p = cc p

-- In an array of nothing no state is open.
pub path_empty : (n : ℕ) → IsPath 0 (replicate n None) []
path_empty n =
    record {
      inside = λ s d h. absurd (none_some (all_none n s) h);
      open_there = λ s d h. absurd (none_some (all_none n s) h);
      not_open = λ s h i o. elim o [ ];
    }
  where
    all_none : (n s : ℕ) → ◌≡◌ {A = Option ℕ} (get_or (replicate n None) s None) None
    all_none zero s = refl
    all_none (suc n) zero = refl
    all_none (suc n) (suc s) = all_none n s

not_in_front : {s t : ℕ} {path : List ℕ} → ¬ (s ≡ t) → ((i : ℕ) → ¬ OpenAt s path i) → (i : ℕ) → ¬ OpenAt s (t ∷ path) i
not_in_front different none zero here = different refl
not_in_front different none (suc i) (above other o) = none i o

-- A state that is not open is opened.
module _ {depth : ℕ} {depths : Depths} {path : List ℕ} (s : ℕ) (room : s < length depths) (held : IsPath depth depths path) where
  abbrev later : Depths
  later = set depths s (Some (depth + 1))

  -- A state is the one that is opened, or its entry is kept.
  data Mark (t : ℕ) : Type 0 where
    own : t ≡ s → get_or later t None ≡ Some (depth + 1) → Mark t
    kept : ¬ (t ≡ s) → get_or later t None ≡ get_or depths t None → Mark t

  mark : (t : ℕ) → Mark t
  mark t = go (eqb t s) refl
    where
      go : (b : Bool) → eqb t s ≡ b → Mark t
      go true z =
          let e : t ≡ s = eqb-true t s z in own e (ap (λ x. get_or later x None) e ∙ get_or-set_same depths s (Some (depth + 1)) None room)
      go false z = let e : ¬ (t ≡ s) = eqb-false t s z in kept e (get_or-set_other depths s t (Some (depth + 1)) None e)

  pub path_opened : IsPath (depth + 1) later (s ∷ path)
  path_opened =
      record {
        inside = λ t d h. inside' t d h (mark t);
        open_there = λ t d h. open_there' t d h (mark t);
        not_open = λ t h. not_open' t h (mark t);
      }
    where
      inside' : (t d : ℕ) → get_or later t None ≡ Some d → Mark t → (0 < d) × (d ≤ depth + 1)
      inside' t d h (own e z) = let d_is : depth + 1 ≡ d = same_some (sym z ∙ h) in (omega (arith, d_is), omega (arith, d_is))
      inside' t d h (kept e z) = let i = held.inside t d (sym z ∙ h) in (i.0, omega (arith, i.1))

      open_there' : (t d : ℕ) → get_or later t None ≡ Some d → Mark t → OpenAt t (s ∷ path) (depth + 1 - d)
      open_there' t d h (own e z) =
          let d_is : depth + 1 ≡ d = same_some (sym z ∙ h) in
          let i : zero ≡ depth + 1 - d = omega (arith, d_is) in
          subst (OpenAt t (s ∷ path)) i (subst⁻¹ (λ x. OpenAt x (s ∷ path) zero) e here)
      open_there' t d h (kept e z) =
          let old : get_or depths t None ≡ Some d = sym z ∙ h in
          let i : suc (depth - d) ≡ depth + 1 - d = omega (arith, (held.inside t d old).1) in
          subst (OpenAt t (s ∷ path)) i (above e (held.open_there t d old))

      not_open' : (t : ℕ) → get_or later t None ≡ None → Mark t → (i : ℕ) → ¬ OpenAt t (s ∷ path) i
      not_open' t h (own e z) = absurd (none_some h z)
      not_open' t h (kept e z) = not_in_front e (held.not_open t (sym z ∙ h))

-- It is closed again.
pub depth_closed : (depths : Depths) (s : ℕ) (v : Option ℕ) → get_or depths s None ≡ None → set (set depths s v) s None ≡ depths
depth_closed depths s v e = set-set depths s v None ∙ ap (set depths s) (sym e) ∙ set-get_or depths s None
