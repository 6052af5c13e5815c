-- The nodes that the walk lists, judged by refusals 12, 23 and 13, and copied to the front of the lent buffer.
use mathlib.Core.{Path.{◌≡◌, sym, ◌∙◌, ap, subst}, Option.{Option as MathOption, none, some}, List.{List, [], ◌++◌}}
use Prim.Native.Nat.{ℕ, ◌*◌, ◌≤◌, ◌<◌}
use native.Mathlib.{Nat.{zero-mul}, Omega.{arith}}
use lib.ListN.{length, take, replicate}
use borrow.Author.Tests.{le-leb, lt-leb}
use Rattle.std.specs.Prelude.{Err, Ok, Result, Option, None, Some}
use Rattle.limits.specs.Limits.{table_limit, node_limit, binder_limit}
use Rattle.theory.specs.{Formula.{Formula, size}, BinderDepth.{binder_depth}}
use Rattle.refusal.specs.{declared.Refusal.{Refusal}, declared.Refusal.TheVariants.{BinderDepth, BufferLength, WrittenSize}}
use Rattle.refusal.specs.{Refusal.{put}, RefusalAnswers.{or_else, plain_unless, answered, put_unless}}
use Rattle.values.specs.declared.ValueKind.{ValueKind}
use Rattle.formulas.specs.{RuleConditions.{encode_formula, node_width, node_bytes}, RuleRefusal.{depth_refusal}}
use Rattle.formulas.proofs.{Prefix.{length_nodes}, Encoding.{formula_length}, NodeCodes.{node_code}}
use Rattle.characteristic.specs.declared.{machine.Machine.{Machine}, nodes.NodeList.{NodeList}, path.Path.{Path as OpenStates}}
use Rattle.characteristic.specs.RuleOfTable.{IsRuleOf}
use Rattle.characteristic.specs.RuleWriting.{output_refusal}
use Rattle.characteristic.specs.NodeOutput.{Listing, first_nodes, IsPath, Ready, WalksState, Answered, WritesRule, listed}
use Rattle.characteristic.proofs.{OpenPath.{path_empty}, Walks.{same_path}}

-- ---- 12, 23 and 13
module _ (kind : ValueKind) (limit : ℕ) (φ : Formula ℕ) (room : ℕ) where
  pub over_limit : limit < size φ → output_refusal kind limit φ room ≡ some WrittenSize
  unfolding output_refusal or_else plain_unless
  over_limit h = rw (lt-leb (size φ) limit h)

  pub over_depth : size φ ≤ limit → binder_limit < binder_depth φ → output_refusal kind limit φ room ≡ some BinderDepth
  unfolding output_refusal depth_refusal or_else plain_unless
  over_depth h d = rw (le-leb (size φ) limit h, lt-leb (binder_depth φ) binder_limit d)

  pub over_room : size φ ≤ limit → binder_depth φ ≤ binder_limit → room < size φ * node_width kind → output_refusal kind limit φ room ≡ some BufferLength
  unfolding output_refusal depth_refusal or_else plain_unless
  over_room h d k = rw (le-leb (size φ) limit h, le-leb (binder_depth φ) binder_limit d, lt-leb (size φ * node_width kind) room k)

  pub fits_room : size φ ≤ limit → binder_depth φ ≤ binder_limit → size φ * node_width kind ≤ room → output_refusal kind limit φ room ≡ none
  unfolding output_refusal depth_refusal or_else plain_unless
  fits_room h d k = rw (le-leb (size φ) limit h, le-leb (binder_depth φ) binder_limit d, le-leb (size φ * node_width kind) room k)

-- A refusal leaves the buffer.
pub refused_answer :
    {answer : MathOption Refusal} (refusal : Refusal) (count : ℕ) (output old : List ℕ) → answer ≡ some refusal
    → (Err refusal ≡ answered answer count) × (old ≡ put_unless answer output old)
unfolding answered put_unless
refused_answer refusal count output old e = (ap (λ o. answered o count) (sym e), ap (λ o. put_unless o output old) (sym e))

accepted_answer :
    {answer : MathOption Refusal} (count : ℕ) (output old : List ℕ) → answer ≡ none
    → (Ok count ≡ answered answer count) × (put output old ≡ put_unless answer output old)
unfolding answered put_unless
accepted_answer count output old e = (ap (λ o. answered o count) (sym e), ap (λ o. put_unless o output old) (sym e))

module _ {kind : ValueKind} {events start : ℕ} {table : List ℕ} (old : List ℕ) where
  -- The answer and the buffer, from what is said of the rule of the table.
  given :
      {r : Result ℕ Refusal} {after : List ℕ}
      → ((φ : Formula ℕ) → IsRuleOf events kind start table φ
      → (r ≡ answered (output_refusal kind node_limit φ (length old)) (size φ))
      × (after ≡ put_unless (output_refusal kind node_limit φ (length old)) (encode_formula (node_bytes kind) φ) old))
      → Answered kind events start table old after r
  given both = record { answer = λ φ w. (both φ w).0; contents = λ φ w. (both φ w).1 }

  refused_by :
      (r : Refusal) → ((φ : Formula ℕ) → IsRuleOf events kind start table φ → output_refusal kind node_limit φ (length old) ≡ some r)
      → Answered kind events start table old old (Err r)
  refused_by r meets = given λ φ w. refused_answer r (size φ) (encode_formula (node_bytes kind) φ) old (meets φ w)

-- What the walk asks of the start, with no state open and no nodes yet.
pub start_ready :
    (m : Machine) (start : ℕ) {p : OpenStates} {l : Listing} → p.opened ≡ replicate table_limit None → p.depth ≡ 0 → l.kind ≡ m.kind → l.count ≡ 0
    → start < table_limit → Ready m start p l
start_ready m start none_open no_depth kind_is no_nodes small =
    record {
      same_kind = kind_is;
      held = record { states = []; is_path = same_path (sym no_depth) (sym none_open) (path_empty table_limit) };
      shallow = omega (arith, no_depth);
      few = omega (arith, no_nodes);
      small_state = small;
    }

-- The walk from the start, and what is made of it.
module _ (m : Machine) (start : ℕ) {p p_after : OpenStates} {l : Listing} {after : NodeList} {walk : Option ℕ}
    (none_open : p.opened ≡ replicate table_limit None) (no_depth : p.depth ≡ 0) (kind_is : l.kind ≡ m.kind) (no_nodes : l.count ≡ 0)
    (y : WalksState m start p p_after l after walk) (old : List ℕ) where
  abbrev Ends : List ℕ → Result ℕ Refusal → Type 0
  Ends after r = WritesRule m start old after r

  abbrev IsRule : Formula ℕ → Type 0
  IsRule φ = IsRuleOf m.events m.kind start m.entries.now φ

  started : IsPath p.depth p.opened []
  started = same_path (sym no_depth) (sym none_open) (path_empty table_limit)

  pub too_many : {r : Result ℕ Refusal} → walk ≡ None → r ≡ Err WrittenSize → Ends old r
  too_many {r} d r_is =
      subst (Ends old) (sym r_is)
      (refused_by old WrittenSize λ φ w. over_limit m.kind node_limit φ (length old) (omega (arith, no_nodes, y.too_many d [] started φ w)))

  -- Past 12 what is listed is the rule, and the longest path is its own.
  module _ {count : ℕ} (done : walk ≡ Some count) where
    abbrev l_after : Listing
    l_after = first_nodes after count

    same : (φ : Formula ℕ) → IsRule φ → count ≡ size φ
    same φ w = omega (arith, ((y.walked count done).written [] started φ w).count_is, length_nodes φ, no_nodes)

    few : (φ : Formula ℕ) → IsRule φ → size φ ≤ node_limit
    few φ w = omega (arith, y.few count done, same φ w)

    its_bytes : (φ : Formula ℕ) → IsRule φ → listed l_after ≡ encode_formula (node_bytes m.kind) φ
    its_bytes φ w =
        ((y.walked count done).written [] started φ w).bytes_are
        ∙ ap (λ n. take (n * node_width l.kind) l.bytes ++ encode_formula (node_bytes l.kind) φ) no_nodes
        ∙ ap (λ n. take n l.bytes ++ encode_formula (node_bytes l.kind) φ) (zero-mul (node_width l.kind))
        ∙ ap (λ k. encode_formula (node_bytes k) φ) kind_is

    byte_count : (φ : Formula ℕ) → IsRule φ → length (listed l_after) ≡ size φ * node_width m.kind
    byte_count φ w = ap length (its_bytes φ w) ∙ formula_length (node_width m.kind) (node_bytes m.kind) (node_code m.kind) φ

    module _ (no_longest : p.longest ≡ 0) where
      depth_is : (φ : Formula ℕ) → IsRule φ → p_after.longest ≡ binder_depth φ
      depth_is φ w = omega (arith, (y.walked count done).longest_is [] started φ w, no_longest, no_depth)

      pub path_too_long : binder_limit < p_after.longest → Ends old (Err BinderDepth)
      path_too_long k =
          refused_by old BinderDepth λ φ w. over_depth m.kind node_limit φ (length old) (few φ w) (omega (arith, k, depth_is φ w))

      module _ (shallow : p_after.longest ≤ binder_limit) where
        not_deep : (φ : Formula ℕ) → IsRule φ → binder_depth φ ≤ binder_limit
        not_deep φ w = omega (arith, shallow, depth_is φ w)

        pub too_short : length old < length (listed l_after) → Ends old (Err BufferLength)
        too_short k =
            refused_by old BufferLength λ φ w.
            over_room m.kind node_limit φ (length old) (few φ w) (not_deep φ w) (omega (arith, k, byte_count φ w))

        pub all_copied : {filled : List ℕ} → length (listed l_after) ≤ length old → filled ≡ put (listed l_after) old → Ends filled (Ok count)
        all_copied k copied =
            given old λ φ w.
            let done =
            accepted_answer (size φ) (encode_formula (node_bytes m.kind) φ) old
            (fits_room m.kind node_limit φ (length old) (few φ w) (not_deep φ w) (omega (arith, k, byte_count φ w))) in
            (ap Ok (same φ w) ∙ done.0, copied ∙ ap (λ b. put b old) (its_bytes φ w) ∙ done.1)
