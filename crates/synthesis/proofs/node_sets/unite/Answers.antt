-- `unite` meets its contract, word by word.
use mathlib.Core.{Path.{◌≡◌, refl}, List.{[], ◌∷◌}}
use Prim.Native.Nat.{ℕ, zero, suc, ◌<◌}
use native.Mathlib.Omega.{arith}
use lib.{Bits.{bit_or}, ListN.{get_or}}
use Rattle.synthesis.proofs.NodeWords.{set_unite}
use Rattle.synthesis.proofs.node_sets.unite.Goals as goal

four_words : (f : ℕ → ℕ) (w : ℕ) → w < 4 → get_or (f 0 ∷ f 1 ∷ f 2 ∷ f 3 ∷ []) w 0 ≡ f w
four_words f zero h = refl
four_words f (suc zero) h = refl
four_words f (suc (suc zero)) h = refl
four_words f (suc (suc (suc zero))) h = refl
four_words f (suc (suc (suc (suc w)))) h = absurd (omega arith)

pub returns : goal.returns
returns c = set_unite _ c.args.a.now c.args.b.now (four_words (λ w. bit_or (get_or c.args.a.now w 0) (get_or c.args.b.now w 0)))
