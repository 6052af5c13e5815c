use Rattle.std.proofs.Common.{◌≡◌, ◌<◌, length, ap, rules}
use Rattle.command_line.proofs.WordLemmas.{words_more, words_end}
use Rattle.command_line.proofs.WordsIterator.next.Goals as goal

pub returns-then-is_empty-clause-steps : goal.returns-then-is_empty-clause-steps
returns-then-is_empty-clause-steps c =
    let empty : length c.split_once.result.0.now ≡ 0 = search rules in
    let split = c.split_once.ensures in
    rw (split.behind, c.skip_spaces.ensures) (words_end c.args.self.now.0.now (rw (split.before, c.skip_spaces.ensures) at empty))

pub returns-else-is_empty-clause-steps : goal.returns-else-is_empty-clause-steps
returns-else-is_empty-clause-steps c =
    let more : 0 < length c.split_once.result.0.now = search rules in
    let split = c.split_once.ensures in
    rw (split.behind, split.before, c.skip_spaces.ensures) (words_more c.args.self.now.0.now (rw (split.before, c.skip_spaces.ensures) at more))

pub returns-else-is_empty-clause-goes : goal.returns-else-is_empty-clause-goes
returns-else-is_empty-clause-goes c =
    let shorter = ap length (returns-else-is_empty-clause-steps c) in
    search rules
