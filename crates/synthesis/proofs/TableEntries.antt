-- The value of a set, node by node, is the value of the set in the formula; the row of a state.
use mathlib.Core.{Path.{◌≡◌, refl, sym, ◌∙◌, ap, ap₂, subst}, Bool.{Bool, true, false, ◌&&◌, cond, and-false}, List.{List, [], ◌∷◌, ◌++◌}}
use Prim.Native.Nat.{ℕ, suc, ◌+◌, ◌*◌, ◌-◌, ◌/◌, ◌%◌, ◌≤◌, ◌<◌}
use native.Mathlib.{Decide.{ℕ_discrete}, Nat.{not-suc-le-zero}, Numerals.{add-one}, Omega.{arith}}
use lib.{Arith.{digits_div, digits_mod}, Dec.{eqb, ltb}, ListN.{length, get_or, set, length-set}, Seq.{get_or-set_same, get_or-set_other}}
use borrow.Author.Tests.{eq-eqb, ne_eqb, ltb-true, ltb-false}
use Rattle.limits.specs.Limits.{node_limit}
use Rattle.theory.specs.Formula.{Formula, truth, variable, transition, output, conjunction, greatest, size, Node, nodes}
use Rattle.theory.specs.ReachableStates.{NodeSet, outputs, meet_all, value_of_set}
use Rattle.formulas.specs.{NodeReading.{Reads}, NodeWalks.{field}}
use Rattle.synthesis.specs.{MarkedNodes.{Marks, marked_in, Came}, Exploring.{for_event}, TableEntries.{meet_from, EntriesTo, RowTo, Met}}
use Rattle.synthesis.proofs.{MarkedNodes.{all_marked}, Stepping.{other_kind, same_kind}}

module _ (meet : ℕ → ℕ → ℕ) (top : ℕ) (kinds firsts values : List ℕ) (D : NodeSet) (e : ℕ) where
  abbrev from : ℕ → ℕ → ℕ
  from i c = meet_from meet top kinds firsts values D e i c

  from_no : (i c : ℕ) → D i && for_event kinds firsts 3 e i ≡ false → from i (suc c) ≡ from (suc i) c
  from_no i c h = ap (λ t. cond t (meet (field values i) (from (suc i) c)) (from (suc i) c)) h

  silent : (i c : ℕ) → ¬ (field kinds i ≡ 3) → from i (suc c) ≡ from (suc i) c
  silent i c h = from_no i c (ap (λ t. D i && t) (other_kind kinds firsts 3 e i h) ∙ and-false (D i))

  abbrev all : ℕ → List (Node ℕ) → ℕ
  all i ns = meet_all meet top (outputs D e i ns)

  cond_all : (t : Bool) (b : ℕ) (bs : List ℕ) → meet_all meet top (cond t (b ∷ bs) bs) ≡ cond t (meet b (meet_all meet top bs)) (meet_all meet top bs)
  cond_all true b bs = refl
  cond_all false b bs = refl

  append_nodes : {A : Type 0} (xs ys zs : List A) → (xs ++ ys) ++ zs ≡ xs ++ (ys ++ zs)
  append_nodes [] ys zs = refl
  append_nodes (x ∷ xs) ys zs = ap (◌∷◌ x) (append_nodes xs ys zs)

  -- The nodes of a formula, then others.
  formula_from :
      (φ : Formula ℕ) (i c : ℕ) (ns : List (Node ℕ)) → Reads (field kinds) (field firsts) (field values) i φ →
      from (i + size φ) c ≡ all (i + size φ) ns → from i (size φ + c) ≡ all i (nodes φ ++ ns)
  formula_from truth i c ns d h =
      let z : 1 + c ≡ suc c = omega arith in
      ap (from i) z ∙ silent i c (λ q. omega (arith, q, d)) ∙ subst (λ x. from x c ≡ all x ns) (add-one i) h
  formula_from (variable n) i c ns d h =
      let z : 1 + c ≡ suc c = omega arith in
      ap (from i) z ∙ silent i c (λ q. omega (arith, q, d.0)) ∙ subst (λ x. from x c ≡ all x ns) (add-one i) h
  formula_from (transition a φ) i c ns d h =
      let z : suc (size φ) + c ≡ suc (size φ + c) = omega arith in
      let y : i + suc (size φ) ≡ suc i + size φ = omega arith in
      ap (from i) z
      ∙ silent i (size φ + c) (λ q. omega (arith, q, d.0))
      ∙ formula_from φ (suc i) c ns d.2 (subst (λ x. from x c ≡ all x ns) y h)
  formula_from (output a b) i c ns d h =
      let z : 1 + c ≡ suc c = omega arith in
      ap (from i) z
      ∙ ap₂ (λ t x. cond t (meet x (from (suc i) c)) (from (suc i) c))
      (ap (λ t. D i && t) (same_kind kinds firsts 3 e i d.0 ∙ ap (λ x. eqb x e) d.1)) d.2
      ∙ ap (λ x. cond (D i && eqb a e) (meet b x) x) (subst (λ x. from x c ≡ all x ns) (add-one i) h)
      ∙ sym (cond_all (D i && eqb a e) b (outputs D e (suc i) ns))
  formula_from (conjunction φ χ) i c ns d h =
      let z : suc (size φ + size χ) + c ≡ suc (size φ + (size χ + c)) = omega arith in
      let y : i + suc (size φ + size χ) ≡ (suc i + size φ) + size χ = omega arith in
      ap (from i) z
      ∙ silent i (size φ + (size χ + c)) (λ q. omega (arith, q, d.0))
      ∙ formula_from φ (suc i) (size χ + c) (nodes χ ++ ns) d.1
      (formula_from χ (suc i + size φ) c ns d.2 (subst (λ x. from x c ≡ all x ns) y h))
      ∙ ap (all (suc i)) (sym (append_nodes (nodes φ) (nodes χ) ns))
  formula_from (greatest φ) i c ns d h =
      let z : suc (size φ) + c ≡ suc (size φ + c) = omega arith in
      let y : i + suc (size φ) ≡ suc i + size φ = omega arith in
      ap (from i) z
      ∙ silent i (size φ + c) (λ q. omega (arith, q, d.0))
      ∙ formula_from φ (suc i) c ns d.1 (subst (λ x. from x c ≡ all x ns) y h)

  append_nil : {A : Type 0} (xs : List A) → xs ++ [] ≡ xs
  append_nil [] = refl
  append_nil (x ∷ xs) = ap (◌∷◌ x) (append_nil xs)

  -- For a whole formula.
  pub value_from : (φ : Formula ℕ) → Reads (field kinds) (field firsts) (field values) 0 φ → from 0 (size φ) ≡ value_of_set meet top φ D e
  value_from φ d =
      let z : size φ ≡ size φ + 0 = omega arith in
      ap (from 0) z ∙ formula_from φ 0 0 [] d refl ∙ ap (all 0) (append_nil (nodes φ))

-- ---- the row of one state

pub row_none : (f : ℕ → ℕ) (events l : ℕ) (to : List ℕ) → RowTo f events l 0 to to
row_none f events l to =
    record { sized = refl; entries = λ e h. absurd (not-suc-le-zero h); below = λ x h. refl; above = λ x h. refl }

-- One more entry.
pub row_more :
    (f : ℕ → ℕ) (events l m at v : ℕ) (before to : List ℕ) → m < events → at ≡ l * events + m → at < length to → v ≡ f m →
    RowTo f events l m before to → RowTo f events l (m + 1) before (set to at v)
row_more f events l m at v before to h a fits q old =
    record {
      sized = length-set to at v ∙ old.sized;
      entries = λ e u. go e u (ℕ_discrete e m);
      below = λ x u. get_or-set_other to at x v 0 (λ p. omega (arith, p, a, u)) ∙ old.below x u;
      above = λ x u. get_or-set_other to at x v 0 (λ p. omega (arith, p, a, u)) ∙ old.above x (omega arith);
    }
  where
    go : (e : ℕ) → e < m + 1 → Dec (e ≡ m) → get_or (set to at v) (l * events + e) 0 ≡ f e
    go e u (yes p) =
        ap (λ y. get_or (set to at v) y 0) (ap (λ y. l * events + y) p ∙ sym a) ∙ get_or-set_same to at v 0 fits ∙ q ∙ ap f (sym p)
    go e u (no p) = get_or-set_other to at (l * events + e) v 0 (λ w. p (omega (arith, w, a))) ∙ old.entries e (omega (arith, p))

-- One entry of the whole row anew.
row_set :
    (f g : ℕ → ℕ) (events l m at v : ℕ) (before to : List ℕ) → m < events → at ≡ l * events + m → at < length to → v ≡ g m →
    ((e : ℕ) → e < events → ¬ (e ≡ m) → f e ≡ g e) →
    RowTo f events l events before to → RowTo g events l events before (set to at v)
row_set f g events l m at v before to h a fits q same old =
    record {
      sized = length-set to at v ∙ old.sized;
      entries = λ e u. go e u (ℕ_discrete e m);
      below = λ x u. get_or-set_other to at x v 0 (λ p. omega (arith, p, a, u)) ∙ old.below x u;
      above = λ x u. get_or-set_other to at x v 0 (λ p. omega (arith, p, a, u)) ∙ old.above x u;
    }
  where
    go : (e : ℕ) → e < events → Dec (e ≡ m) → get_or (set to at v) (l * events + e) 0 ≡ g e
    go e u (yes p) =
        ap (λ y. get_or (set to at v) y 0) (ap (λ y. l * events + y) p ∙ sym a) ∙ get_or-set_same to at v 0 fits ∙ q ∙ ap g (sym p)
    go e u (no p) =
        get_or-set_other to at (l * events + e) v 0 (λ w. p (omega (arith, w, a))) ∙ old.entries e u ∙ same e u p

pub row_same :
    (f g : ℕ → ℕ) (events l : ℕ) (before to : List ℕ) → ((e : ℕ) → e < events → f e ≡ g e) →
    RowTo f events l events before to → RowTo g events l events before to
row_same f g events l before to same old =
    record { sized = old.sized; entries = λ e u. old.entries e u ∙ same e u; below = old.below; above = old.above }

-- After a row is filled, the entries of one state more are right.
pub row_filled :
    (f : ℕ → ℕ → ℕ) (events l : ℕ) (before to : List ℕ) → RowTo (f l) events l events before to →
    EntriesTo f events (l * events) before → EntriesTo f events (l * events + events) to
row_filled f events l before to r old x u = go (ltb x (l * events)) refl
  where
    go : (b : Bool) → ltb x (l * events) ≡ b → get_or to x 0 ≡ f (x / events) (x % events)
    go true i = let h = ltb-true x (l * events) i in r.below x h ∙ old x h
    go false i =
        let h = ltb-false x (l * events) i in
        let e : ℕ = x - l * events in
        let p : x ≡ l * events + e = omega arith in
        let k : e < events = omega arith in
        ap (λ y. get_or to y 0) p ∙ r.entries e k ∙ ap₂ f (sym (digits_div l k)) (sym (digits_mod l k))
        ∙ ap (λ y. f (y / events) (y % events)) (sym p)

-- A row filled anew.
pub row_again :
    (f g : ℕ → ℕ) (events l : ℕ) (before between to : List ℕ) → RowTo g events l events before between →
    RowTo f events l events between to → RowTo f events l events before to
row_again f g events l before between to one two =
    record {
      sized = two.sized ∙ one.sized;
      entries = two.entries;
      below = λ x u. two.below x u ∙ one.below x u;
      above = λ x u. two.above x u ∙ one.above x u;
    }

-- What an O node does to the row of a state: one for no event of the table, one for an event.
module _ (meet : ℕ → ℕ → ℕ) (firsts values : List ℕ) (events l i : ℕ) (before : List ℕ) where
  abbrev came : ℕ → Bool → ℕ
  came e t = cond t (meet (field values i) (get_or before (l * events + e) 0)) (get_or before (l * events + e) 0)

  same_row : RowTo (λ e. get_or before (l * events + e) 0) events l events before before
  same_row = record { sized = refl; entries = λ e u. refl; below = λ x u. refl; above = λ x u. refl }

  pub met_far : events ≤ field firsts i → Met meet firsts values events l i before before
  met_far h =
      row_same _ _ events l before before (λ e u. sym (ap (came e) (ne_eqb (field firsts i) e (λ q. omega (arith, q))))) same_row

  pub met_here :
      (event at v : ℕ) → event ≡ field firsts i → event < events → at ≡ l * events + event → at < length before →
      v ≡ meet (field values i) (get_or before at 0) → Met meet firsts values events l i before (set before at v)
  met_here event at v q u a fits m =
      row_set _ _ events l event at v before before u a fits
      (m
      ∙ ap (λ x. meet (field values i) (get_or before x 0)) a
      ∙ sym (ap (came event) (eq-eqb (field firsts i) event (sym q))))
      (λ e w d. sym (ap (came e) (ne_eqb (field firsts i) e (λ z. d (sym z ∙ sym q))))) same_row

-- The row with the nodes from n on: from the last node, one node more, all nodes.
module _ (meet : ℕ → ℕ → ℕ) (top : ℕ) (kinds firsts values : List ℕ) (D : NodeSet) (count events l : ℕ) (before : List ℕ) where
  abbrev all_from : ℕ → ℕ → ℕ → ℕ
  all_from e n c = meet_from meet top kinds firsts values D e n c

  abbrev RowFrom : ℕ → List ℕ → Type 0
  RowFrom n to = RowTo (λ e. all_from e n (count - n)) events l events before to

  row_open : ((e : ℕ) → e < events → get_or before (l * events + e) 0 ≡ top) → RowFrom count before
  row_open h =
      let z : 0 ≡ count - count = omega arith in
      record { sized = refl; entries = λ e u. h e u ∙ ap (all_from e count) z; below = λ x u. refl; above = λ x u. refl }

  row_pass :
      (n : ℕ) (to : List ℕ) → n < count → ((e : ℕ) → D n && for_event kinds firsts 3 e n ≡ false) → RowFrom (suc n) to → RowFrom n to
  row_pass n to h f old =
      let z : suc (count - suc n) ≡ count - n = omega arith in
      row_same _ _ events l before to
      (λ e u. sym (from_no meet top kinds firsts values D e n (count - suc n) (f e)) ∙ ap (all_from e n) z) old

  row_come :
      (n : ℕ) (to after : List ℕ) → n < count → ((e : ℕ) → D n && for_event kinds firsts 3 e n ≡ eqb (field firsts n) e) →
      Met meet firsts values events l n to after → RowFrom (suc n) to → RowFrom n after
  row_come n to after h f new old =
      let z : suc (count - suc n) ≡ count - n = omega arith in
      record {
        sized = new.sized ∙ old.sized;
        entries = λ e u.
            new.entries e u
            ∙ ap₂ (λ t x. cond t (meet (field values n) x) x) (sym (f e)) (old.entries e u)
            ∙ ap (all_from e n) z;
        below = λ x u. new.below x u ∙ old.below x u;
        above = λ x u. new.above x u ∙ old.above x u;
      }

  pub row_of_marked :
      (marks after : List ℕ) → Marks kinds count 3 marks → ((e : ℕ) → e < events → get_or before (l * events + e) 0 ≡ top) →
      Came (Met meet firsts values events l) (marked_in D marks) node_limit before 0 after →
      RowTo (λ e. all_from e 0 count) events l events before after
  row_of_marked marks after marked tops c =
      let z : count - 0 ≡ count = omega arith in
      row_same _ _ events l before after (λ e u. ap (all_from e 0) z)
      (all_marked kinds firsts count 3 marks marked D (Met meet firsts values events l) before RowFrom row_pass row_come after (row_open tops) c)
