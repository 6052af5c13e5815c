-- A search for the lowest node at fault, whatever is at fault: it finds the lowest, and what stands there is placed below marks that lead to its state.
use mathlib.Core.{Path.{◌≡◌, refl, sym, ◌∙◌, ap, subst}, Logic.{◌⊎◌, inl, inr}, Bool.{Bool, true, false, cond}}
use mathlib.Core.{Option.{Option, none, some, some-ne-none}, List.{List, [], ◌∷◌}}
use Prim.Native.Nat.{ℕ, zero, suc, ◌+◌, ◌≤◌, ◌<◌}
use native.Mathlib.Omega.{arith}
use Rattle.theory.specs.Formula.{Formula, truth, variable, transition, output, conjunction, greatest, size}
use Rattle.refusal.specs.Refusal.{Lowest}
use Rattle.formulas.specs.RuleConditions.Placed.{root as placed_root, part_of_transition as placed_transition, left_part as placed_left}
use Rattle.formulas.specs.RuleConditions.Placed.{right_part as placed_right, part_of_greatest as placed_greatest}
use Rattle.formulas.specs.{RuleConditions.{Mark, binder_mark, transition_mark, Placed}, RuleReading.{first_of, Search, lowest_fault}}

-- The answer of a search for the lowest place where something holds.
abbrev pub Answered : (ℕ → Type 0) → Option ℕ → Type 0
Answered P none = (j : ℕ) → ¬ P j
Answered P (some p) = Lowest P p

pub answered_as : (P Q : ℕ → Type 0) → ((j : ℕ) → P j → Q j) → ((j : ℕ) → Q j → P j) → (o : Option ℕ) → Answered P o → Answered Q o
answered_as P Q to from none w = λ j q. w j (from j q)
answered_as P Q to from (some p) w = record { holds = to p w.holds; least = λ j h q. w.least j h (from j q) }

-- Places below m are looked at first, and then places from m on.
answered_both :
    (P Q : ℕ → Type 0) (m : ℕ) → ((j : ℕ) → P j → j < m) → ((j : ℕ) → Q j → m ≤ j) → (a b : Option ℕ) → Answered P a → Answered Q b
    → Answered (λ j. P j ⊎ Q j) (first_of a b)
unfolding first_of
answered_both P Q m low high (some p) b w v = record { holds = inl w.holds; least = earlier }
  where
    earlier : (j : ℕ) → j < p → ¬ (P j ⊎ Q j)
    earlier j h (inl x) = w.least j h x
    earlier j h (inr y) = omega (arith, low p w.holds, high j y)
answered_both P Q m low high none none w v = nowhere
  where
    nowhere : (j : ℕ) → ¬ (P j ⊎ Q j)
    nowhere j (inl x) = w j x
    nowhere j (inr y) = v j y
answered_both P Q m low high none (some q) w v = record { holds = inr v.holds; least = earlier }
  where
    earlier : (j : ℕ) → j < q → ¬ (P j ⊎ Q j)
    earlier j h (inl x) = w j x
    earlier j h (inr y) = v.least j h y

pub false_not_true : false ≡ true → ⊥
false_not_true x = let z : ◌≡◌ {A = ℕ} 0 1 = cc in omega arith

-- One place, where a test is true.
answered_here : (i : ℕ) (b : Bool) → Answered (λ j. (j ≡ i) × (b ≡ true)) (cond b (some i) none)
answered_here i true = record { holds = (refl, refl); least = λ j h w. omega (arith, w.0) }
answered_here i false = λ j w. false_not_true w.1

-- The state that the marks on the way down lead to.
abbrev pub state_below : {S : Type 0} → Search S → S → List Mark → S
state_below f start [] = start
state_below f start (binder_mark ∷ ms) = f.below_greatest (state_below f start ms)
state_below f start (transition_mark ∷ ms) = f.below_transition (state_below f start ms)

module _ {B S : Type 0} (f : Search S) where
  -- Node j is at fault in the formula that stands at node i.
  abbrev pub FaultIn : S → ℕ → Formula B → ℕ → Type 0
  FaultIn s i truth j = ⊥
  FaultIn s i (variable n) j = (j ≡ i) × (f.at_variable s n ≡ true)
  FaultIn s i (transition e φ) j = FaultIn (f.below_transition s) (suc i) φ j
  FaultIn s i (output e b) j = ⊥
  FaultIn s i (conjunction φ χ) j = FaultIn s (suc i) φ j ⊎ FaultIn s (suc i + size φ) χ j
  FaultIn s i (greatest φ) j = ((j ≡ i) × (f.at_greatest s ≡ true)) ⊎ FaultIn (f.below_greatest s) (suc i) φ j

  fault_low : (s : S) (i : ℕ) (φ : Formula B) (j : ℕ) → FaultIn s i φ j → i ≤ j
  fault_low s i truth j x = absurd x
  fault_low s i (variable n) j x = omega (arith, x.0)
  fault_low s i (transition e φ) j x = omega (arith, fault_low (f.below_transition s) (suc i) φ j x)
  fault_low s i (output e b) j x = absurd x
  fault_low s i (conjunction φ χ) j (inl x) = omega (arith, fault_low s (suc i) φ j x)
  fault_low s i (conjunction φ χ) j (inr x) = omega (arith, fault_low s (suc i + size φ) χ j x)
  fault_low s i (greatest φ) j (inl x) = omega (arith, x.0)
  fault_low s i (greatest φ) j (inr x) = omega (arith, fault_low (f.below_greatest s) (suc i) φ j x)

  fault_high : (s : S) (i : ℕ) (φ : Formula B) (j : ℕ) → FaultIn s i φ j → j < i + size φ
  fault_high s i truth j x = absurd x
  fault_high s i (variable n) j x = omega (arith, x.0)
  fault_high s i (transition e φ) j x = omega (arith, fault_high (f.below_transition s) (suc i) φ j x)
  fault_high s i (output e b) j x = absurd x
  fault_high s i (conjunction φ χ) j (inl x) = omega (arith, fault_high s (suc i) φ j x)
  fault_high s i (conjunction φ χ) j (inr x) = omega (arith, fault_high s (suc i + size φ) χ j x)
  fault_high s i (greatest φ) j (inl x) = omega (arith, x.0)
  fault_high s i (greatest φ) j (inr x) = omega (arith, fault_high (f.below_greatest s) (suc i) φ j x)

  pub lowest_answered : (s : S) (i : ℕ) (φ : Formula B) → Answered (FaultIn s i φ) (lowest_fault f s i φ)
  unfolding lowest_fault
  lowest_answered s i truth = λ j x. x
  lowest_answered s i (variable n) = answered_here i (f.at_variable s n)
  lowest_answered s i (transition e φ) = lowest_answered (f.below_transition s) (suc i) φ
  lowest_answered s i (output e b) = λ j x. x
  lowest_answered s i (conjunction φ χ) =
      answered_both (FaultIn s (suc i) φ) (FaultIn s (suc i + size φ) χ) (suc i + size φ) (fault_high s (suc i) φ) (fault_low s (suc i + size φ) χ)
      (lowest_fault f s (suc i) φ) (lowest_fault f s (suc i + size φ) χ) (lowest_answered s (suc i) φ) (lowest_answered s (suc i + size φ) χ)
  lowest_answered s i (greatest φ) =
      answered_both (λ j. (j ≡ i) × (f.at_greatest s ≡ true)) (FaultIn (f.below_greatest s) (suc i) φ) (suc i) (λ j x. omega (arith, x.0))
      (fault_low (f.below_greatest s) (suc i) φ) (cond (f.at_greatest s) (some i) none) (lowest_fault f (f.below_greatest s) (suc i) φ)
      (answered_here i (f.at_greatest s)) (lowest_answered (f.below_greatest s) (suc i) φ)

  -- What is found is a node of the formula.
  pub found_within : (s : S) (i : ℕ) (φ : Formula B) (p : ℕ) → lowest_fault f s i φ ≡ some p → p < i + size φ
  found_within s i φ p e = go (lowest_fault f s i φ) e (lowest_answered s i φ)
    where
      go : (o : Option ℕ) → o ≡ some p → Answered (FaultIn s i φ) o → p < i + size φ
      go none d w = absurd (some-ne-none p (sym d))
      go (some q) d w = let z : q ≡ p = cc in omega (arith, fault_high s i φ q w.holds)

  -- `Reached i s ψ`: ψ stands at node i of φ, with the state s.
  module _ (start : S) (φ : Formula B) where
    pub data Reached : ℕ → S → Formula B → Type 0 where
      root : Reached zero start φ
      in_transition : {i : ℕ} {s : S} {e : ℕ} {ψ : Formula B} → Reached i s (transition e ψ) → Reached (suc i) (f.below_transition s) ψ
      in_left : {i : ℕ} {s : S} {ψ χ : Formula B} → Reached i s (conjunction ψ χ) → Reached (suc i) s ψ
      in_right : {i : ℕ} {s : S} {ψ χ : Formula B} → Reached i s (conjunction ψ χ) → Reached (suc i + size ψ) s χ
      in_greatest : {i : ℕ} {s : S} {ψ : Formula B} → Reached i s (greatest ψ) → Reached (suc i) (f.below_greatest s) ψ

    -- A fault in a part is one of the whole.
    pub fault_up : {i : ℕ} {s : S} {ψ : Formula B} → Reached i s ψ → (j : ℕ) → FaultIn s i ψ j → FaultIn start 0 φ j
    fault_up root j x = x
    fault_up (in_transition r) j x = fault_up r j x
    fault_up (in_left r) j x = fault_up r j (inl x)
    fault_up (in_right r) j x = fault_up r j (inr x)
    fault_up (in_greatest r) j x = fault_up r j (inr x)

    -- A variable, or a V, that is at fault where it stands.
    abbrev pub FaultyVariable : ℕ → Type 0
    FaultyVariable j = (t : S) × (n : ℕ) × Reached j t (variable n) × (f.at_variable t n ≡ true)

    abbrev pub FaultyBinder : ℕ → Type 0
    FaultyBinder j = (t : S) × (ψ : Formula B) × Reached j t (greatest ψ) × (f.at_greatest t ≡ true)

    -- A fault of the whole is one of the two.
    pub fault_down : (ψ : Formula B) {i : ℕ} {s : S} → Reached i s ψ → (j : ℕ) → FaultIn s i ψ j → FaultyVariable j ⊎ FaultyBinder j
    fault_down truth r j x = absurd x
    fault_down (variable n) {i} {s} r j x = inl (s, n, subst (λ k. Reached k s (variable n)) (sym x.0) r, x.1)
    fault_down (transition e ψ) r j x = fault_down ψ (in_transition r) j x
    fault_down (output e b) r j x = absurd x
    fault_down (conjunction ψ χ) r j (inl x) = fault_down ψ (in_left r) j x
    fault_down (conjunction ψ χ) r j (inr x) = fault_down χ (in_right r) j x
    fault_down (greatest ψ) {i} {s} r j (inl x) = inr (s, ψ, subst (λ k. Reached k s (greatest ψ)) (sym x.0) r, x.1)
    fault_down (greatest ψ) r j (inr x) = fault_down ψ (in_greatest r) j x

    -- Where no V is ever at fault, it is a variable.
    pub faulty_variable : ((s : S) → f.at_greatest s ≡ false) → (j : ℕ) → FaultIn start 0 φ j → FaultyVariable j
    faulty_variable never j x = go (fault_down φ root j x)
      where
        go : FaultyVariable j ⊎ FaultyBinder j → FaultyVariable j
        go (inl y) = y
        go (inr y) = absurd (false_not_true (sym (never y.0) ∙ y.3))

  -- Each part that stands below marks is reached with the state that they lead to.
  module _ (start : S) (φ : Formula B) where
    pub placed_reached : {i : ℕ} {ms : List Mark} {ψ : Formula B} → Placed φ i ms ψ → Reached start φ i (state_below f start ms) ψ
    placed_reached placed_root = root
    placed_reached (placed_transition r) = in_transition (placed_reached r)
    placed_reached (placed_left r) = in_left (placed_reached r)
    placed_reached (placed_right r) = in_right (placed_reached r)
    placed_reached (placed_greatest r) = in_greatest (placed_reached r)

    pub reached_placed : {i : ℕ} {s : S} {ψ : Formula B} → Reached start φ i s ψ → (ms : List Mark) × (state_below f start ms ≡ s) × Placed φ i ms ψ
    reached_placed root = ([], refl, placed_root)
    reached_placed (in_transition r) =
        let w = reached_placed r in (transition_mark ∷ w.0, ap (λ s. f.below_transition s) w.1, placed_transition w.2)
    reached_placed (in_left r) = let w = reached_placed r in (w.0, w.1, placed_left w.2)
    reached_placed (in_right r) = let w = reached_placed r in (w.0, w.1, placed_right w.2)
    reached_placed (in_greatest r) = let w = reached_placed r in (binder_mark ∷ w.0, ap (λ s. f.below_greatest s) w.1, placed_greatest w.2)
