-- One step of the walk that binds, for each kind of node.
use mathlib.Core.{Path.{◌≡◌, sym, ◌∙◌, ap, subst}, List.{List, ◌∷◌}}
use Prim.Native.Nat.{ℕ, zero, suc, ◌+◌, ◌-◌, ◌≤◌, ◌<◌}
use native.Mathlib.{Numerals.{add-one}, Omega.{arith}}
use lib.ListN.{get_or}
use Rattle.limits.specs.Limits.{binder_limit}
use Rattle.theory.specs.Formula.{Formula, truth, variable, transition, output, conjunction, greatest, size}
use Rattle.formulas.specs.declared.NodeKind.TheVariants.{Variable, Transition, Conjunction, Greatest}
use Rattle.formulas.specs.RuleReading.{kind_of}
use Rattle.formulas.proofs.KindFacts.{IsLeaf, not_leaf}
use Rattle.formulas.specs.NodeWalks.{field}
use Rattle.formulas.proofs.Walking.{size_positive}
use Rattle.synthesis.specs.{NodeWalks.{Ends, Binds}, Binding.{OwnBinder, AllBound}}
use Rattle.synthesis.proofs.NodeWalks.{reads_at, binds_at}

-- Only the nodes of the formula matter.
binds_agree :
    (b c : ℕ → ℕ) (σ : List ℕ) (i : ℕ) (φ : Formula ℕ) → ((x : ℕ) → i ≤ x → x < i + size φ → c x ≡ b x) →
    Binds b σ i φ → Binds c σ i φ
binds_agree b c σ i truth h n = tt
binds_agree b c σ i (variable m) h n = (n.0, h i (omega arith) (omega arith) ∙ n.1)
binds_agree b c σ i (transition a φ) h n = binds_agree b c σ (suc i) φ (λ x l u. h x (omega arith) (omega arith)) n
binds_agree b c σ i (output a v) h n = tt
binds_agree b c σ i (conjunction φ χ) h n = (
  binds_agree b c σ (suc i) φ (λ x l u. h x (omega arith) (omega arith)) n.0,
  binds_agree b c σ (suc i + size φ) χ (λ x l u. h x (omega arith) (omega arith)) n.1,
)
binds_agree b c σ i (greatest φ) h n = binds_agree b c (i ∷ σ) (suc i) φ (λ x l u. h x (omega arith) (omega arith)) n

module _ (kinds firsts : List ℕ) (at left depth : ℕ) (stack : List ℕ) where
  abbrev kind : ℕ
  kind = field kinds at

  pub bound_none : left ≡ 0 → (b : List ℕ) → AllBound kinds firsts at left depth stack b
  unfolding AllBound
  bound_none e b value φ σ d h sc sh st = absurd (omega (arith, size_positive φ))

  pub bound_leaf :
      (b : List ℕ) → IsLeaf (kind_of kind) → AllBound kinds firsts at left depth stack b
  unfolding AllBound
  bound_leaf b l value truth σ d h sc sh st = tt
  bound_leaf b l value (variable m) σ d h sc sh st = absurd (not_leaf Variable kind d.0 l)
  bound_leaf b l value (transition a φ) σ d h sc sh st = absurd (not_leaf Transition kind d.0 l)
  bound_leaf b l value (output a v) σ d h sc sh st = tt
  bound_leaf b l value (conjunction φ χ) σ d h sc sh st = absurd (not_leaf Conjunction kind d.0 l)
  bound_leaf b l value (greatest φ) σ d h sc sh st = absurd (not_leaf Greatest kind d.0 l)

  pub bound_variable :
      (b : List ℕ) → kind ≡ 1 → OwnBinder stack depth (field firsts at) (get_or b at 0) → AllBound kinds firsts at left depth stack b
  unfolding AllBound
  bound_variable b k e value truth σ d h sc sh st = tt
  bound_variable b k e value (variable m) σ d h sc sh st = (
    sc,
    let l : m < depth = omega (arith, sc, st.deep) in
        e (subst (λ x. x < depth) (sym d.1) l) (omega (arith, sh)) ∙ ap (λ x. get_or stack (depth - 1 - x) 0) d.1 ∙ st.at m l,
  )
  bound_variable b k e value (transition a φ) σ d h sc sh st = absurd (omega (arith, k, d.0))
  bound_variable b k e value (output a v) σ d h sc sh st = tt
  bound_variable b k e value (conjunction φ χ) σ d h sc sh st = absurd (omega (arith, k, d.0))
  bound_variable b k e value (greatest φ) σ d h sc sh st = absurd (omega (arith, k, d.0))

  pub bound_transition :
      (b : List ℕ) → kind ≡ 2 → AllBound kinds firsts (at + 1) (left - 1) depth stack b →
      AllBound kinds firsts at left depth stack b
  unfolding AllBound
  bound_transition b k e value truth σ d h sc sh st = tt
  bound_transition b k e value (variable m) σ d h sc sh st = absurd (omega (arith, k, d.0))
  bound_transition b k e value (transition a φ) σ d h sc sh st =
      binds_at (field b) σ φ (add-one at)
      (e value φ σ (reads_at (field kinds) (field firsts) value φ (sym (add-one at)) d.2) (omega arith) sc sh st)
  bound_transition b k e value (output a v) σ d h sc sh st = tt
  bound_transition b k e value (conjunction φ χ) σ d h sc sh st = absurd (omega (arith, k, d.0))
  bound_transition b k e value (greatest φ) σ d h sc sh st = absurd (omega (arith, k, d.0))

  pub bound_greatest :
      (b stack' : List ℕ) → kind ≡ 5 → (depth < binder_limit → get_or stack' depth 0 ≡ at) →
      ((k : ℕ) → k < depth → get_or stack' k 0 ≡ get_or stack k 0) →
      AllBound kinds firsts (at + 1) (left - 1) (depth + 1) stack' b → AllBound kinds firsts at left depth stack b
  unfolding AllBound
  bound_greatest b stack' k top rest e value truth σ d h sc sh st = tt
  bound_greatest b stack' k top rest e value (variable m) σ d h sc sh st = absurd (omega (arith, k, d.0))
  bound_greatest b stack' k top rest e value (transition a φ) σ d h sc sh st = absurd (omega (arith, k, d.0))
  bound_greatest b stack' k top rest e value (output a v) σ d h sc sh st = tt
  bound_greatest b stack' k top rest e value (conjunction φ χ) σ d h sc sh st = absurd (omega (arith, k, d.0))
  bound_greatest b stack' k top rest e value (greatest φ) σ d h sc sh st =
      binds_at (field b) (at ∷ σ) φ (add-one at)
      (e value φ (at ∷ σ) (reads_at (field kinds) (field firsts) value φ (sym (add-one at)) d.1) (omega arith) sc
      (omega (arith, sh)) (record { deep = omega (arith, st.deep); at = more }))
    where
      more : (j : ℕ) → j < depth + 1 → get_or stack' (depth + 1 - 1 - j) 0 ≡ get_or (at ∷ σ) j 0
      more zero l =
          let z : depth + 1 - 1 - zero ≡ depth = omega arith in
          ap (λ x. get_or stack' x 0) z ∙ top (omega (arith, sh))
      more (suc j) l =
          let z : depth + 1 - 1 - suc j ≡ depth - 1 - j = omega arith in
          ap (λ x. get_or stack' x 0) z ∙ rest (depth - 1 - j) (omega arith) ∙ st.at j (omega arith)

  pub bound_conjunction :
      (b b' stack' : List ℕ) (m : ℕ) → kind ≡ 4 → Ends kinds (at + 1) (left - 1) m →
      AllBound kinds firsts (at + 1) (left - 1) depth stack b →
      ((k : ℕ) → k < depth → get_or stack' k 0 ≡ get_or stack k 0) → ((i : ℕ) → i < m → get_or b' i 0 ≡ get_or b i 0) →
      AllBound kinds firsts m (at + left - m) depth stack' b' → AllBound kinds firsts at left depth stack b'
  unfolding AllBound
  bound_conjunction b b' stack' m k r one rest old two value truth σ d h sc sh st = tt
  bound_conjunction b b' stack' m k r one rest old two value (variable v) σ d h sc sh st = absurd (omega (arith, k, d.0))
  bound_conjunction b b' stack' m k r one rest old two value (transition a φ) σ d h sc sh st = absurd (omega (arith, k, d.0))
  bound_conjunction b b' stack' m k r one rest old two value (output a v) σ d h sc sh st = tt
  bound_conjunction b b' stack' m k r one rest old two value (conjunction φ χ) σ d h sc sh st =
      let z : suc at ≡ at + 1 = sym (add-one at) in
      let e : m ≡ at + 1 + size φ
      = r (field firsts) value φ (reads_at (field kinds) (field firsts) value φ z d.1) (omega arith) in
      let y : suc at + size φ ≡ m = omega (arith, e) in (
        binds_agree (field b) (field b') σ (suc at) φ (λ x l u. old x (omega (arith, y)))
            (binds_at (field b) σ φ (add-one at)
            (one value φ σ (reads_at (field kinds) (field firsts) value φ z d.1) (omega arith) sc.0 (omega (arith, sh)) st)),
        binds_at (field b') σ χ (sym y)
            (two value χ σ (reads_at (field kinds) (field firsts) value χ y d.2) (omega (arith, e)) sc.1
            (omega (arith, sh)) (record { deep = st.deep; at = λ j l. rest (depth - 1 - j) (omega arith) ∙ st.at j l })),
      )
  bound_conjunction b b' stack' m k r one rest old two value (greatest φ) σ d h sc sh st = absurd (omega (arith, k, d.0))
