-- What a text of any length shows, and its tokens: by document 01's definitions alone.
use Prim.Native.Nat.{ℕ}
use mathlib.Core.{Path.{◌≡◌}, Logic.{◌⊎◌}, List.{List}}
use Rattle.channel_file.specs.{ChannelFile.{Contents, Shows, TokensBy, rule_text}, Reading.{read_file, tokens_stretch}}
use Rattle.channel_file.proofs.{Claims.{channel_form}, Forms.{one_contents as one_contents_of, shows_or_not as shows_or_not_by, to_tokens}}

pub one_contents : (t : List ℕ) (c d : Contents) → Shows c t → Shows d t → c ≡ d
one_contents = one_contents_of channel_form

pub shows_or_not : (t : List ℕ) → ((c : Contents) × Shows c t) ⊎ ((c : Contents) → ¬ Shows c t)
shows_or_not = shows_or_not_by channel_form

pub file_to_tokens :
    (t : List ℕ) →
    TokensBy Shows rule_text t (tokens_stretch t (read_file t))
    × ((other : List ℕ) → TokensBy Shows rule_text t other → other ≡ tokens_stretch t (read_file t))
file_to_tokens = to_tokens channel_form
