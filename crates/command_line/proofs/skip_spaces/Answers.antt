use Rattle.std.proofs.Common.{ℕ, not, ◌∙◌, length, drop, sym, ap, arith, rules}
use Rattle.std.proofs.lemmas.List.Sums.{position_or_len_is}
use Rattle.std.proofs.lemmas.List.{take_rest, drop_all}
use Rattle.command_line.specs.Words.{is_space}
use Rattle.command_line.proofs.WordLemmas.{drop_gap}
use Rattle.command_line.proofs.skip_spaces.Goals as goal

pub returns-in-Some : goal.returns-in-Some
returns-in-Some c =
    let text = c.args.text.now in
    let found = position_or_len_is (λ (b : ℕ). not (is_space b)) text c.in-Some.i 0 (search rules) (search rules) (search rules) in
    take_rest text _ ∙ ap (λ n. drop n text) (sym found) ∙ drop_gap text

pub returns-in-None : goal.returns-in-None
returns-in-None c =
    let text = c.args.text.now in
    let none = position_or_len_is (λ (b : ℕ). not (is_space b)) text (length text) 0 (omega arith) (search rules) (search rules) in
    sym (drop_all (length text) text (omega arith)) ∙ ap (λ n. drop n text) (sym none) ∙ drop_gap text
