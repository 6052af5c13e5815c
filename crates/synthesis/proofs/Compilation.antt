-- How a rule's nodes are judged and what an attempt at its table answers, case by case.
use mathlib.Core.{Path.{◌≡◌, refl, sym, ◌∙◌, ap, subst}, Bool.{Bool, true, false, cond}, List.{List}, Option.{Option}}
use Prim.Native.Nat.{ℕ, zero, suc, ◌+◌, ◌*◌, ◌/◌, ◌%◌, ◌≤◌, ◌<◌}
use native.Mathlib.{Decide.{dec_le}, Omega.{arith}}
use borrow.Author.Tests.{lt-ltb, le-leb, lt-leb}
use lib.{Dec.{ltb}, ListN.{length, get_or}}
use Rattle.refusal.specs.{declared.Refusal.{Refusal}, declared.Refusal.TheVariants.{BufferLength, NodeCount, StateCount}}
use Rattle.refusal.specs.RefusalAnswers.{or_else, plain_unless, judgement, answered}
use Rattle.values.specs.declared.ValueKind.{ValueKind}
use Rattle.values.specs.ValueTests.{value_fits}
use Rattle.formulas.specs.RuleConditions.{node_width}
use Rattle.formulas.specs.NodeArrays.{padded, decoded}
use Rattle.formulas.specs.RuleRefusal.{count_fits, fields_refusal, rule_refusal}
use Rattle.formulas.specs.NodeWalks.{field}
use Rattle.formulas.specs.declared.Nodes.{Nodes}
use Rattle.formulas.proofs.Decoding.{decoded_limit, decoded_refusal, rule_misfit}
use Rattle.machines.specs.{TableBytes.{entry_width}, StoredEntries.{kept_bytes, storable, after_store}}
use Rattle.synthesis.specs.{Compilation.{flat}, MadeTable.{Tables, Attempted, attempt_answer, tried_answer}}
use Rattle.limits.specs.Limits.{node_limit, state_limit}
use Rattle.std.specs.Prelude.{Result, Err, Ok, Some, None, unwrap_or}

-- Entries and zeros after them.
padded_at :
    (f : ℕ → ℕ) (count left i j : ℕ) → j < left → get_or (padded f count left i) j 0 ≡ cond (ltb (i + j) count) (f (i + j)) 0
unfolding padded
padded_at f count zero i j h = absurd (omega arith)
padded_at f count (suc left) i zero h =
    let z : i ≡ i + 0 = omega arith in
    ap (λ x. cond (ltb x count) (f x) 0) z
padded_at f count (suc left) i (suc j) h =
    let z : suc i + j ≡ i + suc j = omega arith in
    padded_at f count left (suc i) j (omega arith) ∙ ap (λ x. cond (ltb x count) (f x) 0) z

pub flat_at :
    (f : ℕ → ℕ → ℕ) (events entries size x : ℕ) → x < entries → x < size →
    get_or (flat f events entries size) x 0 ≡ f (x / events) (x % events)
unfolding flat
flat_at f events entries size x h l =
    let z : 0 + x ≡ x = omega arith in
    padded_at (λ y. f (y / events) (y % events)) entries size 0 x l
    ∙ ap (λ y. cond (ltb y entries) (f (y / events) (y % events)) 0) z
    ∙ ap (λ t. cond t (f (x / events) (x % events)) 0) (lt-ltb x entries h)

-- 5 by the number of bytes, and what is judged after it.
pub bytes_misfit : (t : Bool) (later : Option Refusal) → t ≡ false → Err NodeCount ≡ judgement (or_else (plain_unless t NodeCount) later)
unfolding judgement or_else plain_unless
bytes_misfit t later h = sym (ap (λ b. judgement (or_else (plain_unless b NodeCount) later)) h)

pub bytes_fit : (t : Bool) (later : Option Refusal) → t ≡ true → judgement later ≡ judgement (or_else (plain_unless t NodeCount) later)
unfolding or_else plain_unless
bytes_fit t later h = sym (ap (λ b. judgement (or_else (plain_unless b NodeCount) later)) h)

-- The nodes of a rule are judged as its bytes are.
pub judged_nodes :
    (events : ℕ) (kind : ValueKind) (rule : List ℕ) (nodes : Nodes) → nodes ≡ decoded kind rule →
    or_else (plain_unless (count_fits (node_width kind) node_limit (length rule)) NodeCount)
    (fields_refusal (field nodes.kinds) (field nodes.firsts) (field nodes.values) nodes.count (value_fits kind) events)
    ≡ rule_refusal events kind rule
unfolding or_else plain_unless
judged_nodes events kind rule nodes d =
    ap (λ n. or_else (plain_unless (count_fits (node_width kind) node_limit (length rule)) NodeCount) (judged_of n)) d ∙ go
    (count_fits (node_width kind) node_limit (length rule)) refl
  where
    judged_of : Nodes → Option Refusal
    judged_of n = fields_refusal (field n.kinds) (field n.firsts) (field n.values) n.count (value_fits kind) events

    go :
        (b : Bool) → count_fits (node_width kind) node_limit (length rule) ≡ b →
        or_else (plain_unless (count_fits (node_width kind) node_limit (length rule)) NodeCount) (judged_of (decoded kind rule)) ≡ rule_refusal events kind rule
    go true e = ap (λ b. or_else (plain_unless b NodeCount) (judged_of (decoded kind rule))) e ∙ decoded_refusal events kind rule e
    go false e = ap (λ b. or_else (plain_unless b NodeCount) (judged_of (decoded kind rule))) e ∙ sym (rule_misfit events kind rule e)

pub few_nodes : (kind : ValueKind) (rule : List ℕ) (nodes : Nodes) → nodes ≡ decoded kind rule → nodes.count ≤ node_limit
few_nodes kind rule nodes e = subst (λ d. d.count ≤ node_limit) (sym e) (decoded_limit kind rule)

-- What is answered, case by case.
module _ (limit n : ℕ) (b : Bool) where
  pub answer_many : limit < n → Err StateCount ≡ attempt_answer limit n b
  unfolding answered or_else plain_unless
  answer_many h = sym (ap (λ t. answered (or_else (plain_unless t StateCount) (plain_unless b BufferLength)) n) (lt-leb n limit h))

  answer_few : n ≤ limit → attempt_answer limit n b ≡ answered (plain_unless b BufferLength) n
  unfolding or_else plain_unless
  answer_few h = ap (λ t. answered (or_else (plain_unless t StateCount) (plain_unless b BufferLength)) n) (le-leb n limit h)

  pub answer_short : n ≤ limit → b ≡ false → Err BufferLength ≡ attempt_answer limit n b
  unfolding answered plain_unless
  answer_short h e = sym (answer_few h ∙ ap (λ t. answered (plain_unless t BufferLength) n) e)

  pub answer_stored : n ≤ limit → b ≡ true → Ok n ≡ attempt_answer limit n b
  unfolding answered plain_unless
  answer_stored h e = sym (answer_few h ∙ ap (λ t. answered (plain_unless t BufferLength) n) e)

-- An attempt, by the arrays that it leaves.
module _ (kind : ValueKind) (nodes : Nodes) (meet : ℕ → ℕ → ℕ) (top events limit n : ℕ) (values nexts : List ℕ)
    (t : Tables nodes meet top events limit values nexts n) (room : (limit * events ≤ length values) × (limit * events ≤ length nexts))
    (old : List ℕ) (b : Bool) where
  pub attempt_over : limit < n → Attempted kind nodes meet top events limit old old n b
  attempt_over h =
      record {
        values = values;
        nexts = nexts;
        room = room;
        tables = t;
        more = λ u. refl;
        fits = λ u. absurd (omega (arith, h, u));
        contents = λ u. absurd (omega (arith, h, u));
      }

  pub attempt_within :
      (new : List ℕ) → n ≤ limit → b ≡ storable (entry_width kind) values nexts (n * events) old →
      new ≡ after_store (entry_width kind) (kept_bytes kind) values nexts (n * events) old →
      Attempted kind nodes meet top events limit old new n b
  attempt_within new h e q =
      record {
        values = values;
        nexts = nexts;
        room = room;
        tables = t;
        more = λ u. absurd (omega (arith, h, u));
        fits = λ u. e;
        contents = λ u. q;
      }

-- An attempt on a buffer that is as it was.
pub attempt_anew :
    {kind : ValueKind} {nodes : Nodes} {meet : ℕ → ℕ → ℕ} {top events limit : ℕ} {old kept new : List ℕ} {n : ℕ} {b : Bool} →
    kept ≡ old → Attempted kind nodes meet top events limit kept new n b →
    Attempted kind nodes meet top events limit old new n b
attempt_anew {kind} {nodes} {meet} {top} {events} {limit} {old} {kept} {new} {n} {b} e t =
    subst (λ x. Attempted kind nodes meet top events limit x new n b) e t

-- What an attempt answers, by the count of states and whether they were stored.
pub tried_over : (limit n : ℕ) (b : Bool) → limit < n → None ≡ tried_answer limit n b
tried_over limit n b h = sym (ap (λ t. cond t (Some (answered (plain_unless b BufferLength) n)) None) (lt-leb n limit h))

tried_within : (limit n : ℕ) (b : Bool) → n ≤ limit → Some (answered (plain_unless b BufferLength) n) ≡ tried_answer limit n b
tried_within limit n b h = sym (ap (λ t. cond t (Some (answered (plain_unless b BufferLength) n)) None) (le-leb n limit h))

pub tried_stored : (limit n : ℕ) (b : Bool) → n ≤ limit → b ≡ true → Some (Ok n) ≡ tried_answer limit n b
unfolding answered plain_unless
tried_stored limit n b h e = ap (λ t. Some (answered (plain_unless t BufferLength) n)) (sym e) ∙ tried_within limit n b h

pub tried_short : (limit n : ℕ) (b : Bool) → n ≤ limit → b ≡ false → Some (Err BufferLength) ≡ tried_answer limit n b
unfolding answered plain_unless
tried_short limit n b h e = ap (λ t. Some (answered (plain_unless t BufferLength) n)) (sym e) ∙ tried_within limit n b h

-- What is passed on of it: the answer of an attempt within its limit, or 10 beside the largest limit.
pub few_answer : (limit n : ℕ) (b : Bool) (r : Result ℕ Refusal) → limit ≤ state_limit → Some r ≡ tried_answer limit n b →
    (n ≤ limit) × (r ≡ attempt_answer state_limit n b)
few_answer limit n b r l e = go (dec_le n limit)
  where
    go : Dec (n ≤ limit) → (n ≤ limit) × (r ≡ attempt_answer state_limit n b)
    go (yes h) =
        let same : Some r ≡ Some (answered (plain_unless b BufferLength) n) = e ∙ sym (tried_within limit n b h) in
        let q : r ≡ answered (plain_unless b BufferLength) n = cc in
        (h, q ∙ sym (answer_few state_limit n b (omega (arith, h, l))))
    go (no h) = let none : Some r ≡ None = e ∙ sym (tried_over limit n b (omega (arith, h))) in absurd cc

pub more_states : (limit n : ℕ) (b : Bool) → None ≡ tried_answer limit n b → limit < n
more_states limit n b e = go (dec_le n limit)
  where
    go : Dec (n ≤ limit) → limit < n
    go (yes h) = let none : None ≡ Some (answered (plain_unless b BufferLength) n) = e ∙ sym (tried_within limit n b h) in absurd cc
    go (no h) = omega (arith, h)

pub last_answer : (n : ℕ) (b : Bool) → unwrap_or (tried_answer state_limit n b) (Err StateCount) ≡ attempt_answer state_limit n b
last_answer n b = go (dec_le n state_limit)
  where
    go : Dec (n ≤ state_limit) → unwrap_or (tried_answer state_limit n b) (Err StateCount) ≡ attempt_answer state_limit n b
    go (yes h) = ap (λ x. unwrap_or x (Err StateCount)) (sym (tried_within state_limit n b h)) ∙ sym (answer_few state_limit n b h)
    go (no h) = ap (λ x. unwrap_or x (Err StateCount)) (sym (tried_over state_limit n b (omega (arith, h)))) ∙ answer_many state_limit n b (omega (arith, h))
