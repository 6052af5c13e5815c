-- `same` meets its contract: equal words, and equal bits have equal words.
use mathlib.Core.{Path.{sym, ◌∙◌}, Bool.{true≢false}}
use native.Mathlib.Omega.{arith}
use lib.Pointwise.{bytes_decides}
use Rattle.std.proofs.lemmas.List.{ext_get_or}
use Rattle.synthesis.proofs.NodeWords.{bits_words}
use Rattle.synthesis.proofs.node_sets.same.Goals as goal

pub returns : goal.returns
returns c =
    let a = c.args.a.now in
    let b = c.args.b.now in (
      λ e. (bytes_decides a b).0 (sym c.eq.ensures ∙ e),
      λ e h. absurd (true≢false
          (sym ((bytes_decides a b).1 (ext_get_or 0 a b (c.told-a ∙ sym c.told-b)
          (λ w u. bits_words a b h w (omega (arith, u, c.told-a)) (c.fits-a w) (c.fits-b w)))) ∙ sym c.eq.ensures ∙ e)),
    )
