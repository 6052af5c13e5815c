use Rattle.std.proofs.Common.{◌≡◌, ℕ, ◌==◌, length, take, drop, sym, ap, ◌∙◌, arith, rules, take_all}
use Rattle.std.proofs.lemmas.List.Sums.{position_or_len_is}
use Rattle.std.proofs.lemmas.List.{take_rest, drop_all}
use Rattle.std.proofs.Math.Seq.{drop-drop}
use Rattle.command_line.specs.Words.{before}
use Rattle.command_line.proofs.WordLemmas.{before_is}
use Rattle.command_line.proofs.split_once.Goals as goal

pub returns-in-Some : goal.returns-in-Some
returns-in-Some c =
    let text = c.args.text.now in
    let found = position_or_len_is (λ (b : ℕ). b == c.args.stop) text c.in-Some.i 0 (search rules) (search rules) (search rules) in
    let e : c.in-Some.i ≡ before c.args.stop text = sym (before_is c.args.stop text ∙ found) in
    record { before = ap (λ n. take n text) e; behind = take_rest text _ ∙ sym (drop-drop 1 c.in-Some.i text) ∙ ap (λ n. drop 1 (drop n text)) e }

pub returns-in-None : goal.returns-in-None
returns-in-None c =
    let text = c.args.text.now in
    let none = position_or_len_is (λ (b : ℕ). b == c.args.stop) text (length text) 0 (omega arith) (search rules) (search rules) in
    let e : length text ≡ before c.args.stop text = sym (before_is c.args.stop text ∙ none) in
    record {
      before = sym (take_all (length text) text (omega arith)) ∙ ap (λ n. take n text) e;
      behind = sym (ap (drop 1) (drop_all (length text) text (omega arith))) ∙ ap (λ n. drop 1 (drop n text)) e;
    }
