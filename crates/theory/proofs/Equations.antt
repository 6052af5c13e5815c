-- The equations of source 000, section 3, hold for the computed value and follower of each closed guarded formula (the wider class).
use mathlib.Core.{Path.{◌≡◌, refl, ◌∙◌, ap, ap₂}, Bool.{Bool, true, false, cond}, List.{List, [], ◌∷◌}}
use Prim.Native.Nat.{ℕ, zero, suc, max, ◌<◌}
use native.Mathlib.{Nat.{not-suc-le-zero}, Omega.{arith}}
use lib.Dec.{eqb}
use Rattle.theory.specs.ValueSets.{MeetSemilattice}
use Rattle.theory.specs.Formula.{Formula, truth, variable, transition, output, conjunction, greatest, unfolded}
use Rattle.theory.specs.FormulaClasses.{WellFormed}
use Rattle.theory.specs.{MealyMachine.{after}, Evaluation.{unguarded_depth, step_in, step, value, follower, formulas}}
use Rattle.theory.proofs.Substitution.{free_substitute, guarded_substitute, fits_substitute, depth_substitute}

module _ {B : Type 0} (events : ℕ) (In : B → Type 0) where
  abbrev Good : Formula B → Type 0
  Good φ = WellFormed events In φ

  pub well_formed_truth : Good truth
  well_formed_truth = record { closed = tt; guarded = tt; fits = tt }

  pub well_formed_unfolded : (r : Formula B) → Good (greatest r) → Good (unfolded r)
  well_formed_unfolded r g =
      record {
        closed = free_substitute zero (greatest r) r g.closed g.closed;
        guarded = guarded_substitute zero (greatest r) r g.closed g.guarded g.guarded.1;
        fits = fits_substitute events In zero (greatest r) r g.fits g.fits;
      }

  pub well_formed_left : (p q : Formula B) → Good (conjunction p q) → Good p
  well_formed_left p q g = record { closed = g.closed.0; guarded = g.guarded.0; fits = g.fits.0 }

  pub well_formed_right : (p q : Formula B) → Good (conjunction p q) → Good q
  well_formed_right p q g = record { closed = g.closed.1; guarded = g.guarded.1; fits = g.fits.1 }

  pub well_formed_conjunction : (p q : Formula B) → Good p → Good q → Good (conjunction p q)
  well_formed_conjunction p q g h =
      record { closed = (g.closed, h.closed); guarded = (g.guarded, h.guarded); fits = (g.fits, h.fits) }

  pub depth_unfolded : (r : Formula B) → Good (greatest r) → unguarded_depth (unfolded r) ≡ unguarded_depth r
  depth_unfolded r g = depth_substitute zero (greatest r) r g.guarded.0

  good_cond : (b : Bool) (r : Formula B) → Good r → Good (cond b r truth)
  good_cond true r g = g
  good_cond false r g = well_formed_truth

  module _ (meet : B → B → B) (top : B) where
    stable : (e k j : ℕ) (r : Formula B) → Good r → unguarded_depth r < k → unguarded_depth r < j → step_in meet top k e r ≡ step_in meet top j e r
    stable e zero j r g h l = absurd (not-suc-le-zero h)
    stable e (suc k) zero r g h l = absurd (not-suc-le-zero l)
    stable e (suc k) (suc j) truth g h l = refl
    stable e (suc k) (suc j) (variable n) g h l = refl
    stable e (suc k) (suc j) (transition a r) g h l = refl
    stable e (suc k) (suc j) (output a b) g h l = refl
    stable e (suc k) (suc j) (conjunction p q) g h l =
        ap₂ (λ x y. (meet x.0 y.0, conjunction x.1 y.1))
        (stable e k j p (well_formed_left p q g) (omega arith) (omega arith))
        (stable e k j q (well_formed_right p q g) (omega arith) (omega arith))
    stable e (suc k) (suc j) (greatest r) g h l =
        stable e k j (unfolded r) (well_formed_unfolded r g) (omega (arith, depth_unfolded r g)) (omega (arith, depth_unfolded r g))

    -- the equations, one for each kind of rule
    pub step_truth : (e : ℕ) → step meet top e truth ≡ (top, truth)
    unfolding step
    step_truth e = refl

    pub step_transition : (e a : ℕ) (r : Formula B) → step meet top e (transition a r) ≡ (top, cond (eqb a e) r truth)
    unfolding step
    step_transition e a r = refl

    pub step_output : (e a : ℕ) (b : B) → step meet top e (output a b) ≡ (cond (eqb a e) b top, truth)
    unfolding step
    step_output e a b = refl

    pub step_conjunction :
        (e : ℕ) (p q : Formula B) →
        Good p → Good q →
        step meet top e (conjunction p q) ≡ (meet (value meet top e p) (value meet top e q), conjunction (follower meet top e p) (follower meet top e q))
    unfolding step
    step_conjunction e p q gp gq =
        ap₂ (λ x y. (meet x.0 y.0, conjunction x.1 y.1))
        (stable e (suc (max (unguarded_depth p) (unguarded_depth q))) (suc (unguarded_depth p)) p gp (omega arith) (omega arith))
        (stable e (suc (max (unguarded_depth p) (unguarded_depth q))) (suc (unguarded_depth q)) q gq (omega arith) (omega arith))

    pub step_greatest : (e : ℕ) (r : Formula B) → Good (greatest r) → step meet top e (greatest r) ≡ step meet top e (unfolded r)
    unfolding step
    step_greatest e r g =
        stable e (suc (unguarded_depth r)) (suc (unguarded_depth (unfolded r))) (unfolded r) (well_formed_unfolded r g) (omega (arith, depth_unfolded r g))
        (omega arith)

    -- followers are closed and guarded again, values are of the set
    follower_in_well_formed : (k e : ℕ) (r : Formula B) → Good r → Good (step_in meet top k e r).1
    follower_in_well_formed zero e r g = well_formed_truth
    follower_in_well_formed (suc k) e truth g = well_formed_truth
    follower_in_well_formed (suc k) e (variable n) g = well_formed_truth
    follower_in_well_formed (suc k) e (transition a r) g = good_cond (eqb a e) r (record { closed = g.closed; guarded = g.guarded; fits = g.fits.1 })
    follower_in_well_formed (suc k) e (output a b) g = well_formed_truth
    follower_in_well_formed (suc k) e (conjunction p q) g =
        well_formed_conjunction (step_in meet top k e p).1 (step_in meet top k e q).1
        (follower_in_well_formed k e p (well_formed_left p q g)) (follower_in_well_formed k e q (well_formed_right p q g))
    follower_in_well_formed (suc k) e (greatest r) g = follower_in_well_formed k e (unfolded r) (well_formed_unfolded r g)

    pub follower_well_formed : (e : ℕ) (r : Formula B) → Good r → Good (follower meet top e r)
    unfolding step
    follower_well_formed e r g = follower_in_well_formed (suc (unguarded_depth r)) e r g

    -- F-14: A gives the meet of the two values on each sequence
    pub conjunction_values :
        (w : List ℕ) (e : ℕ) (p q : Formula B) → Good p → Good q →
        value meet top e (after (formulas meet top) (conjunction p q) w)
        ≡ meet (value meet top e (after (formulas meet top) p w)) (value meet top e (after (formulas meet top) q w))
    conjunction_values [] e p q gp gq = ap (λ x. x.0) (step_conjunction e p q gp gq)
    conjunction_values (a ∷ w) e p q gp gq =
        ap (λ x. value meet top e (after (formulas meet top) x.1 w)) (step_conjunction a p q gp gq)
        ∙ conjunction_values w e (follower meet top a p) (follower meet top a q) (follower_well_formed a p gp) (follower_well_formed a q gq)

    module _ (L : MeetSemilattice In meet top) where
      cond_in : (t : Bool) (b : B) → In b → In (cond t b top)
      cond_in true b h = h
      cond_in false b h = L.top_in

      value_in_set : (k e : ℕ) (r : Formula B) → Good r → In (step_in meet top k e r).0
      value_in_set zero e r g = L.top_in
      value_in_set (suc k) e truth g = L.top_in
      value_in_set (suc k) e (variable n) g = L.top_in
      value_in_set (suc k) e (transition a r) g = L.top_in
      value_in_set (suc k) e (output a b) g = cond_in (eqb a e) b g.fits.1
      value_in_set (suc k) e (conjunction p q) g =
          L.meet_in _ _ (value_in_set k e p (well_formed_left p q g)) (value_in_set k e q (well_formed_right p q g))
      value_in_set (suc k) e (greatest r) g = value_in_set k e (unfolded r) (well_formed_unfolded r g)

      pub value_in : (e : ℕ) (r : Formula B) → Good r → In (value meet top e r)
      unfolding step
      value_in e r g = value_in_set (suc (unguarded_depth r)) e r g
