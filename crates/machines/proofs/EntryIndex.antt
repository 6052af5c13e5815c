-- Entry l × events + e: which numbers it goes through, and l and e from it.
use mathlib.Core.{Path.{◌≡◌, ◌∙◌, ap, subst}, Logic.{◌⊎◌, inl, inr}}
use Prim.Native.Nat.{ℕ, ◌+◌, ◌*◌, ◌/◌, ◌%◌, ◌<◌}
use native.Mathlib.Nat.{add-zero, mul-le-mul_right, eq-zero-or-pos, mul-add-div_right, mul-add-mod_self_right}
use native.Mathlib.{Nat.{div-eq_of_lt, mod-eq_of_lt, div-lt_iff_lt-mul, mod-lt, div-add-mod'}, Omega.{arith}}

pub index_below : (events n l e : ℕ) → l < n → e < events → l * events + e < n * events
index_below events n l e hl he = omega (arith, mul-le-mul_right events hl)

pub index_state : (events l e : ℕ) → e < events → (l * events + e) / events ≡ l
index_state events l e h =
    mul-add-div_right (omega arith) l e ∙ ap (λ q. l + q) (div-eq_of_lt h) ∙ add-zero l

pub index_event : (events l e : ℕ) → e < events → (l * events + e) % events ≡ e
index_event events l e h = mul-add-mod_self_right l events e ∙ mod-eq_of_lt h

-- Where there is an entry there are events.
pub some_events : (events n i : ℕ) → i < n * events → 0 < events
some_events events n i h = by_cases (eq-zero-or-pos events)
  where
    by_cases : (events ≡ 0) ⊎ (0 < events) → 0 < events
    by_cases (inl none) = let z : i < n * 0 = subst (λ c. i < n * c) none h in absurd (omega arith)
    by_cases (inr some) = some

pub state_below : (events n i : ℕ) → i < n * events → i / events < n
state_below events n i h = (div-lt_iff_lt-mul (some_events events n i h)).1 h

pub event_below : (events n i : ℕ) → i < n * events → i % events < events
event_below events n i h = mod-lt i (some_events events n i h)

-- What holds of the entry of each state and event holds of each entry.
pub every_entry :
    (P : ℕ → Type 0) (events n : ℕ) → ((l e : ℕ) → l < n → e < events → P (l * events + e)) → (i : ℕ) → i < n * events → P i
every_entry P events n all i h =
    subst P (div-add-mod' i events) (all (i / events) (i % events) (state_below events n i h) (event_below events n i h))
