-- The next sets: what a G node does to them, and that all marked nodes of a state make them those of the rows.
use mathlib.Core.{Path.{◌≡◌, refl, sym, ◌∙◌, ap, subst, fun_ext}, Bool.{Bool, true, false, ◌||◌, ◌&&◌, cond}, List.{List, []}}
use Prim.Native.Nat.{ℕ, suc, ◌+◌, ◌-◌, ◌≤◌, ◌<◌}
use native.Mathlib.{Numerals.{add-one}, Decide.{ℕ_discrete}, Omega.{arith}}
use borrow.Author.Tests.{eq-eqb, ne_eqb}
use lib.{Dec.{eqb}, ListN.{length, set}, Seq.{get_or-set_same, get_or-set_other}}
use Rattle.limits.specs.Limits.{node_limit}
use Rattle.theory.specs.{ReachableStates.{NodeSet}, DemandSets.{empty, union}}
use Rattle.formulas.specs.NodeWalks.{field}
use Rattle.synthesis.specs.{NodeWords.{set_of, row}, MarkedNodes.{marked_in, Came}}
use Rattle.synthesis.specs.Exploring.{some_in, for_event, brings, stepped, PassedStates, NextSets}
use Rattle.synthesis.proofs.MarkedNodes.{all_marked}

-- What a G node does to the next sets: one for no event of the table, one for an event.
module _ (firsts : List ℕ) (rows : List (List ℕ)) (events i : ℕ) (before : List (List ℕ)) where
  abbrev came : ℕ → Bool → NodeSet
  came e t = cond t (union (row before e) (row rows (i + 1))) (row before e)

  pub passed_far : events ≤ field firsts i → PassedStates firsts rows events i before before
  passed_far h e u = sym (ap (came e) (ne_eqb (field firsts i) e (λ q. omega (arith, q))))

  pub passed_here :
      (event : ℕ) (words : List ℕ) → event ≡ field firsts i → event < length before →
      set_of words ≡ union (row before event) (row rows (i + 1)) → PassedStates firsts rows events i before (set before event words)
  passed_here event words q h x e u = go (ℕ_discrete e event)
    where
      go : Dec (e ≡ event) → row (set before event words) e ≡ came e (eqb (field firsts i) e)
      go (yes d) =
          subst (λ y. row (set before event words) y ≡ came y (eqb (field firsts i) y)) (sym d)
          (ap set_of (get_or-set_same before event words [] h) ∙ x ∙ sym (ap (came event) (eq-eqb (field firsts i) event (sym q))))
      go (no d) =
          ap set_of (get_or-set_other before event e words [] d) ∙ sym (ap (came e) (ne_eqb (field firsts i) e (λ z. d (sym z ∙ sym q))))

-- The sets with the nodes from n on: from the last node, one node more, all nodes.
module _ (kinds firsts : List ℕ) (rows : List (List ℕ)) (count : ℕ) (D : NodeSet) (events : ℕ) where
  abbrev from : ℕ → ℕ → ℕ → ℕ → Bool
  from e d n c = some_in (brings kinds firsts rows D e d) n c

  abbrev SetsFrom : ℕ → List (List ℕ) → Type 0
  SetsFrom n sets = (e : ℕ) → e < events → (d : ℕ) → row sets e d ≡ from e d n (count - n)

  sets_none : (sets : List (List ℕ)) → ((e : ℕ) → e < events → row sets e ≡ empty) → SetsFrom count sets
  unfolding empty
  sets_none sets h e u d =
      let z : 0 ≡ count - count = omega arith in
      ap (λ C. C d) (h e u) ∙ ap (from e d count) z

  sets_pass :
      (n : ℕ) (sets : List (List ℕ)) → n < count → ((e : ℕ) → D n && for_event kinds firsts 2 e n ≡ false) →
      SetsFrom (suc n) sets → SetsFrom n sets
  sets_pass n sets h f old e u d =
      let z : suc (count - suc n) ≡ count - n = omega arith in
      old e u d
      ∙ ap (λ t. (t && row rows (suc n) d) || from e d (suc n) (count - suc n)) (sym (f e))
      ∙ ap (from e d n) z

  sets_come :
      (n : ℕ) (sets after : List (List ℕ)) → n < count → ((e : ℕ) → D n && for_event kinds firsts 2 e n ≡ eqb (field firsts n) e) →
      PassedStates firsts rows events n sets after → SetsFrom (suc n) sets → SetsFrom n after
  unfolding union
  sets_come n sets after h f p old e u d =
      let z : suc (count - suc n) ≡ count - n = omega arith in
      ap (λ C. C d) (p e u)
      ∙ one (eqb (field firsts n) e)
      ∙ ap (λ x. (eqb (field firsts n) e && row rows (suc n) d) || x) (old e u d)
      ∙ ap (λ t. (t && row rows (suc n) d) || from e d (suc n) (count - suc n)) (sym (f e))
      ∙ ap (from e d n) z
    where
      swap : (a b : Bool) → a || b ≡ b || a
      swap true true = refl
      swap true false = refl
      swap false true = refl
      swap false false = refl

      one : (t : Bool) → cond t (union (row sets e) (row rows (n + 1))) (row sets e) d ≡ (t && row rows (suc n) d) || row sets e d
      one true = ap (λ m. row sets e d || row rows m d) (add-one n) ∙ swap (row sets e d) (row rows (suc n) d)
      one false = refl

pub next_sets :
    (marks firsts : List ℕ) (rows : List (List ℕ)) (D : NodeSet) (events : ℕ) (before after : List (List ℕ)) → ((e : ℕ) → e < events → row before e ≡ empty) →
    Came (PassedStates firsts rows events) (marked_in D marks) node_limit before 0 after → NextSets marks firsts rows D events after
unfolding stepped
next_sets marks firsts rows D events before after none c kinds count marked e u =
    let z : count - 0 ≡ count = omega arith in
    fun_ext λ d.
    all_marked kinds firsts count 2 marks marked D (PassedStates firsts rows events) before (SetsFrom kinds firsts rows count D events)
    (sets_pass kinds firsts rows count D events) (sets_come kinds firsts rows count D events) after
    (sets_none kinds firsts rows count D events before none) c e u d
    ∙ ap (some_in (brings kinds firsts rows D e d) 0) z
