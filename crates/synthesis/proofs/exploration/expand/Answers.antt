-- `expand` meets its contract. The loop's invariant: state i is as before; and for every rule whose G nodes are marked and every list of
-- sequences that the states were kept for, they are kept for it with the events passed, and the entries passed are right. No two states
-- are the same, and each is linked to from the head of its place.
use borrow.Author.Rules.{rules}
use Prim.Native.Nat.{ℕ, ◌<◌, ◌+◌, ◌*◌}
use Rattle.std.specs.Prelude.{Option as StdOption, Some, None, IfSome, is_some, unwrap_or}
use Rattle.std.proofs.lemmas.Bool.{false≢true}
use mathlib.Core.{Path.{◌≡◌, refl, sym, ◌∙◌, ap, subst}, List.{[]}, Bool.{true, false, not}}
use native.Mathlib.Omega.{arith}
use Rattle.machines.proofs.EntryIndex.{index_below}
use lib.{ListN.{length, get_or, set, length-set}, Seq.{get_or-set_other}}
use Rattle.synthesis.specs.{NodeWords.{set_of, row}}
use Rattle.synthesis.specs.Exploring.{stepped, next_bits, Found, Kept, events_to}
use Rattle.synthesis.proofs.{Exploring.{candidate_old, candidate_new, candidate_many}}
use Rattle.synthesis.proofs.StatePlaces.{different_more, chained_more, place_below}
use Rattle.synthesis.proofs.exploration.expand.Goals as goal
use Rattle.synthesis.proofs.exploration.expand.Goals.{then-is_none+else-k-limit, else-is_none}

none_new : (o : StdOption ℕ) (k : ℕ) → is_some o ≡ false → unwrap_or o k ≡ k
none_new None k e = refl
none_new (Some j) k e = absurd (false≢true (sym e))

some_old : (o : StdOption ℕ) (k : ℕ) → is_some o ≡ true → IfSome o (λ j. j < k) → unwrap_or o k < k
some_old None k e h = absurd (false≢true e)
some_old (Some j) k e h = h

pub loop-event-init : goal.loop-event-init
loop-event-init c =
    let z : c.args.i * c.args.events ≡ c.args.i * c.args.events + 0 = omega arith in (
      search rules,
      search rules,
      search rules,
      search rules,
      refl,
      λ kinds count marked start P old. subst (λ m. Kept (next_bits kinds c.args.nodes.now.firsts c.args.rows.now count) start c.args.events P c.args.n m
          c.args.states.now
          c.args.nexts.now) z old,
      search rules,
      search rules,
      c.requires.6,
      c.requires.7,
    )

pub find-found-requires : goal.find-found-requires
find-found-requires c = (
  omega (arith, c.loop-event.invariant.1, c.loop-event.invariant.2, c.requires.4),
  omega (arith, c.loop-event.invariant.1, c.requires.2),
  c.place_of-place.ensures,
  c.loop-event.invariant.8,
  c.loop-event.invariant.9,
)

pub link-requires : goal.link-requires
link-requires c =
    (place_below _ _ c.place_of-place.ensures, omega (arith, c.loop-event.invariant.1, c.if-k-limit.false, c.requires.2))

pub returns-then-k-limit : goal.returns-then-k-limit
returns-then-k-limit c =
    let found = subst (Found c.loop-event.states c.loop-event.k _) (sym c.unwrap_or-j.ensures) c.find-found.ensures.found in
    record {
      sizes = (c.loop-event.invariant.2, c.loop-event.invariant.3);
      found = tt;
      expanded = λ kinds count marked start P old. record {
        at_most = omega arith;
        all = λ h. absurd (omega (arith, h));
        more = λ h. omega (
          arith,
          c.if-k-limit.true,
          candidate_many kinds c.args.nodes.now.firsts c.args.rows.now count c.args.events c.args.i c.args.n c.loop-event.k c.loop-event.event
              c.args.states.now c.args.nexts.now c.loop-event.states c.loop-event.nexts _ (search rules) c.loop-event.invariant.0 c.loop-event-test.true
              (c.advance.ensures kinds count marked c.loop-event.event c.loop-event-test.true
              ∙ ap (λ D. stepped kinds c.args.nodes.now.firsts c.args.rows.now count D c.loop-event.event) (sym c.loop-event.invariant.4)) start P old
              (c.loop-event.invariant.5 kinds count marked start P old)
              c.unwrap_or-j.result (c.unwrap_or-j.ensures ∙ none_new _ _ (c.is_none.ensures ∙ ap not c.if-is_none.true)) found,
        );
      };
    }

pub bounds-nexts-entry_at : goal.bounds-nexts-entry_at
bounds-nexts-entry_at c =
    omega (
      arith,
      c.entry_at.ensures,
      c.loop-event.invariant.3,
      index_below c.args.events c.args.limit c.args.i c.loop-event.event
          (omega arith) c.loop-event-test.true,
    )

pub returns : goal.returns
returns c =
    let q : c.loop-event.event ≡ c.args.events = omega arith in
    record {
      sizes = (c.loop-event.invariant.2, c.loop-event.invariant.3);
      found = (c.loop-event.invariant.0, c.loop-event.invariant.1, c.loop-event.invariant.8, c.loop-event.invariant.9);
      expanded = λ kinds count marked start P old. record {
        at_most = omega (arith, c.loop-event.invariant.1);
        all = λ h. subst (λ x. Kept (next_bits kinds c.args.nodes.now.firsts c.args.rows.now count) start c.args.events
            (events_to (next_bits kinds c.args.nodes.now.firsts c.args.rows.now count) start x P (get_or P c.args.i [])) c.loop-event.k
            (c.args.i * c.args.events + x) c.loop-event.states c.loop-event.nexts) q (c.loop-event.invariant.5 kinds count marked start P old);
        more = λ h. absurd (omega (arith, h, c.loop-event.invariant.1));
      };
    }

pub loop-event-preserved : goal.loop-event-preserved
loop-event-preserved c =
    let at : c.entry_at.result ≡ c.args.i * c.args.events + c.loop-event.event = c.entry_at.ensures in
    let fits : c.entry_at.result < length c.loop-event.nexts =
    omega (arith, at, c.loop-event.invariant.3, index_below c.args.events c.args.limit c.args.i c.loop-event.event (omega arith) c.loop-event-test.true) in
    let sized : length (set c.loop-event.nexts c.entry_at.result c.unwrap_or-j.result) ≡ length c.args.nexts.now = length-set c.loop-event.nexts
    c.entry_at.result c.unwrap_or-j.result ∙ c.loop-event.invariant.3 in
    let found = subst (Found c.loop-event.states c.loop-event.k _) (sym c.unwrap_or-j.ensures) c.find-found.ensures.found in
    let new : c.is_none.result ≡ true → c.unwrap_or-j.result ≡ c.loop-event.k =
    λ e. c.unwrap_or-j.ensures ∙ none_new _ _ (c.is_none.ensures ∙ ap not e) in
    let old_one : c.is_none.result ≡ false → c.unwrap_or-j.result < c.loop-event.k =
    λ e. subst (λ x. x < c.loop-event.k) (sym c.unwrap_or-j.ensures) (some_old _ _ (c.is_none.ensures ∙ ap not e) c.find-found.ensures.few) in
    let room : ¬ (c.loop-event.k ≡ c.args.limit) → c.loop-event.k < length c.loop-event.states =
    λ d. omega (arith, d, c.loop-event.invariant.1, c.loop-event.invariant.2, c.requires.4) in
    elim c.if-is_none.branch [
      | then-is_none+else-k-limit w ↦ (
        search rules,
        search rules,
        ap length w.states-is ∙ length-set c.loop-event.states c.loop-event.k _ ∙ c.loop-event.invariant.2,
        sized,
        ap (λ x. row x c.args.i) w.states-is
            ∙ ap set_of (get_or-set_other c.loop-event.states c.loop-event.k c.args.i _ [] (λ e. omega (arith, e, c.loop-event.invariant.0, c.requires.0)))
            ∙ c.loop-event.invariant.4,
        λ kinds count marked start P old. rw (w.states-is, w.k-is)
            (candidate_new kinds c.args.nodes.now.firsts c.args.rows.now count c.args.events c.args.i c.args.n c.loop-event.k c.loop-event.event
            c.args.states.now
            c.args.nexts.now c.loop-event.states c.loop-event.nexts _ (search rules) c.loop-event.invariant.0 c.loop-event-test.true
            (c.advance.ensures kinds count marked c.loop-event.event c.loop-event-test.true
            ∙ ap (λ D. stepped kinds c.args.nodes.now.firsts c.args.rows.now count D c.loop-event.event) (sym c.loop-event.invariant.4)) start P old
            (c.loop-event.invariant.5 kinds count marked start P old) _
            c.unwrap_or-j.result c.entry_at.result c.unwrap_or-j.result (new w.if-is_none.true)
            found (room w.if-k-limit.false, refl) at refl fits),
        ap (λ p. length p.heads) w.places-is ∙ ap length w.link.ensures.head ∙ length-set c.loop-event.places.heads _ _ ∙ c.loop-event.invariant.6,
        ap (λ p. length p.links) w.places-is ∙ ap length w.link.ensures.linked ∙ length-set c.loop-event.places.links _ _ ∙ c.loop-event.invariant.7,
        rw (w.states-is, w.k-is) (different_more c.loop-event.k c.loop-event.states _ _ (room w.if-k-limit.false, refl) c.loop-event.invariant.8
            (subst (Found c.loop-event.states c.loop-event.k _) (new w.if-is_none.true) found)),
        rw (w.states-is, w.k-is, w.places-is, w.link.ensures.head, w.link.ensures.linked)
            (chained_more c.loop-event.k c.loop-event.states _ _ (room w.if-k-limit.false, refl) c.loop-event.places.heads c.loop-event.places.links _
            c.place_of-place.ensures
            (omega (arith, c.loop-event.invariant.6, place_below _ _ c.place_of-place.ensures))
            (omega (arith, c.loop-event.invariant.7, c.loop-event.invariant.1, w.if-k-limit.false, c.requires.2)) c.loop-event.invariant.9),
      )
      | else-is_none w ↦ (
        search rules,
        search rules,
        ap length w.states-is ∙ c.loop-event.invariant.2,
        sized,
        ap (λ x. row x c.args.i) w.states-is ∙ c.loop-event.invariant.4,
        λ kinds count marked start P old. rw (w.states-is, w.k-is)
            (candidate_old kinds c.args.nodes.now.firsts c.args.rows.now count c.args.events c.args.i c.args.n c.loop-event.k c.loop-event.event
            c.args.states.now
            c.args.nexts.now c.loop-event.states c.loop-event.nexts _ (search rules) c.loop-event.invariant.0 c.loop-event-test.true
            (c.advance.ensures kinds count marked c.loop-event.event c.loop-event-test.true
            ∙ ap (λ D. stepped kinds c.args.nodes.now.firsts c.args.rows.now count D c.loop-event.event) (sym c.loop-event.invariant.4)) start P old
            (c.loop-event.invariant.5 kinds count marked start P old)
            c.unwrap_or-j.result c.entry_at.result c.unwrap_or-j.result found
            (old_one w.if-is_none.false) at refl fits),
        ap (λ p. length p.heads) w.places-is ∙ c.loop-event.invariant.6,
        ap (λ p. length p.links) w.places-is ∙ c.loop-event.invariant.7,
        rw (w.states-is, w.k-is) c.loop-event.invariant.8,
        rw (w.states-is, w.places-is, w.k-is) c.loop-event.invariant.9,
      )
    ]
