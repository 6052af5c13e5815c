-- The rule of a state and the rows of a state, from the nodes that are appended for them; and what the walk yields, step by step.
use mathlib.Core.{Path.{◌≡◌, refl, sym, ◌∙◌, ap, subst}, List.{List, [], ◌∷◌}}
use Prim.Native.Nat.{ℕ, suc, max, ◌+◌, ◌-◌, ◌≤◌, ◌<◌}
use native.Mathlib.Omega.{arith}
use lib.ListN.{length, get_or, set}
use Rattle.std.specs.Prelude.{Option, None, Some, option_map}
use Rattle.std.proofs.lemmas.Option.{none-some}
use Rattle.limits.specs.Limits.{table_limit, node_limit}
use Rattle.theory.specs.{Formula.{Formula, size}, BinderDepth.{binder_depth}}
use Rattle.theory.specs.Formula.{variable_node, transition_node, output_node, conjunction_node, greatest_node, nodes}
use Rattle.theory.specs.CharacteristicFormula.{OpenAt, Writes, already_open, opened, Rows, last_row, row}
use Rattle.theory.proofs.{CharacteristicFormula.{open_one}, PrefixCode.{size_positive}}
use Rattle.formulas.proofs.Prefix.{length_nodes}
use Rattle.characteristic.specs.declared.{machine.Machine.{Machine}, nodes.NodeList.{NodeList}, path.Path.{Path as OpenStates}}
use Rattle.characteristic.specs.NodeOutput.{mealy_of, Listing, first_nodes, all_nodes, Appended, Appends, IsPath, place_of, Ready, Walked, Outgrown}
use Rattle.characteristic.specs.NodeOutput.{Counts, Walks, WalksState, WalksRows}
use Rattle.characteristic.proofs.{Appended.{both}, OpenPath.{path_opened, depth_closed, same_some}}

module _ {Of : List ℕ → Formula ℕ → Type 0} {p p_after : OpenStates} {l : Listing} {after : NodeList} where
  count_kept : Walked Of p p_after l (all_nodes after) → Counts Of p p_after l after (Some after.count)
  count_kept w =
      record {
        walked = λ n e. subst (λ k. Walked Of p p_after l (first_nodes after k)) (same_some e) w;
        few = λ n e. omega (arith, same_some e, after.within);
        too_many = λ h. absurd (none-some after.count (sym h));
      }

  count_outgrown : {r : Option ℕ} → r ≡ None → Outgrown Of p p_after l → Counts Of p p_after l after r
  count_outgrown d o =
      record { walked = λ n e. absurd (none-some n (sym d ∙ e)); few = λ n e. absurd (none-some n (sym d ∙ e)); too_many = λ h. o }

  walk_done : Walked Of p p_after l (all_nodes after) → Walks Of p p_after l after (Some tt)
  walk_done w = record { walked = λ e. w; too_many = λ h. absurd (none-some tt (sym h)) }

  walk_outgrown : {r : Option (Unit {0})} → r ≡ None → Outgrown Of p p_after l → Walks Of p p_after l after r
  walk_outgrown d o = record { walked = λ e. absurd (none-some tt (sym d ∙ e)); too_many = λ h. o }

-- The place of a state, from its entry.
placed : {f : ℕ → ℕ} {i : ℕ} (o : Option ℕ) → option_map f o ≡ Some i → (d : ℕ) × (o ≡ Some d) × (f d ≡ i)
placed None e = absurd (none-some _ e)
placed (Some d) e = (d, refl, same_some e)

not_placed : (f : ℕ → ℕ) (o : Option ℕ) → option_map f o ≡ None → o ≡ None
not_placed f None e = refl
not_placed f (Some d) e = absurd (none-some (f d) (sym e))

pub same_path : {d e : ℕ} {o u : List (Option ℕ)} {states : List ℕ} → d ≡ e → o ≡ u → IsPath d o states → IsPath e u states
same_path {d} {e} {o} {u} {states} d_is o_is h = subst (λ x. IsPath e x states) o_is (subst (λ x. IsPath x o states) d_is h)

module _ (m : Machine) (state : ℕ) {p : OpenStates} {l : Listing} {after : NodeList} where
  -- A state that is open on the path.
  pub walk_open :
      {i : ℕ} {r : Option ℕ} → place_of p state ≡ Some i → Appends (variable_node i ∷ []) l after r
      → WalksState m state p p l after r
  walk_open {i} {r} there x =
      record {
        walked = λ n e.
            let a = x.appended n e in
            record {
              same_kind = a.same_kind;
              rises = omega (arith, a.count_is);
              same_opened = refl;
              same_depth = refl;
              longer = omega arith;
              longest_is = λ states o φ w. still (at o) φ w;
              written = λ states o φ w. its_node (at o) a φ w;
            };
        few = x.few;
        too_many = λ h states o φ w. omega (arith, x.too_many h, size_positive φ);
      }
    where
      at : {states : List ℕ} → IsPath p.depth p.opened states → OpenAt state states i
      at {states} o = let d = placed (get_or p.opened state None) there in subst (OpenAt state states) d.2 (o.open_there state d.0 d.1)

      still :
          {states : List ℕ} → OpenAt state states i → (φ : Formula ℕ) → Writes (mealy_of m) m.events states state φ
          → p.longest ≡ max p.longest (p.depth + binder_depth φ)
      still o _ (already_open q) = omega (arith, p.counted)
      still o _ (opened c rows) = absurd (c i o)

      its_node :
          {states : List ℕ} {l_after : Listing} → OpenAt state states i → Appended (variable_node i ∷ []) l l_after → (φ : Formula ℕ)
          → Writes (mealy_of m) m.events states state φ → Appended (nodes φ) l l_after
      its_node {l_after = l_after} o a _ (already_open q) = subst (λ n. Appended (variable_node n ∷ []) l l_after) (open_one o q) a
      its_node o a _ (opened c rows) = absurd (c i o)

-- A state that is not.
module _ (m : Machine) (state : ℕ) (p p_open : OpenStates) {p_rows : OpenStates} {l l_part : Listing} {after : NodeList} {rows : Option (Unit {0})}
    (room : state < length p.opened) (not_there : place_of p state ≡ None) (x : Appended (greatest_node ∷ []) l l_part)
    (opened_is : p_open.opened ≡ set p.opened state (Some (p.depth + 1))) (depth_is : p_open.depth ≡ p.depth + 1)
    (longest_is : p_open.longest ≡ max p.longest (p.depth + 1)) (y : WalksRows m state 0 p_open p_rows l_part after rows) where
  new : get_or p.opened state None ≡ None
  new = not_placed (λ d. p.depth - d) (get_or p.opened state None) not_there

  below : {states : List ℕ} → IsPath p.depth p.opened states → IsPath p_open.depth p_open.opened (state ∷ states)
  below o = same_path (sym depth_is) (sym opened_is) (path_opened state room o)

  pub walk_new_outgrown : {r : Option ℕ} → rows ≡ None → r ≡ None → WalksState m state p p_rows l after r
  walk_new_outgrown {r} d r_is = count_outgrown r_is (λ states o φ w. go o (y.too_many d) φ w)
    where
      go : {states : List ℕ} → IsPath p.depth p.opened states → Outgrown (λ ps. Rows (mealy_of m) m.events ps state 0) p_open p_rows l_part
          → (φ : Formula ℕ) → Writes (mealy_of m) m.events states state φ → node_limit < l.count + size φ
      go o many _ (already_open {i = i} q) = absurd (o.not_open state new i q)
      go o many _ (opened {φ = χ} c v) = omega (arith, many _ (below o) χ v, x.count_is)

  pub walk_new :
      {p_after : OpenStates} → rows ≡ Some tt → p_after.opened ≡ set p_rows.opened state None → p_after.depth + 1 ≡ p_rows.depth
      → p_after.longest ≡ p_rows.longest → WalksState m state p p_after l after (Some after.count)
  walk_new {p_after} done closed less same =
      let w = y.walked done in
      count_kept (record {
        same_kind = w.same_kind ∙ x.same_kind;
        rises = omega (arith, x.count_is, w.rises);
        same_opened = closed ∙ ap (λ d. set d state None) (w.same_opened ∙ opened_is) ∙ depth_closed p.opened state (Some (p.depth + 1)) new;
        same_depth = omega (arith, less, w.same_depth, depth_is);
        longer = omega (arith, same, w.longer, longest_is);
        longest_is = λ states o φ v. longest' o (w.longest_is (state ∷ states) (below o)) φ v;
        written = λ states o φ v. written' o (w.written (state ∷ states) (below o)) φ v;
      })
    where
      longest' : {states : List ℕ} → IsPath p.depth p.opened states
          → ((χ : Formula ℕ) → Rows (mealy_of m) m.events (state ∷ states) state 0 χ → p_rows.longest ≡ max p_open.longest (p_open.depth + binder_depth χ))
          → (φ : Formula ℕ) → Writes (mealy_of m) m.events states state φ → p_after.longest ≡ max p.longest (p.depth + binder_depth φ)
      longest' o rest _ (already_open {i = i} q) = absurd (o.not_open state new i q)
      longest' o rest _ (opened {φ = χ} c v) = omega (arith, same, longest_is, depth_is, rest χ v)

      written' : {states : List ℕ} → IsPath p.depth p.opened states
          → ((χ : Formula ℕ) → Rows (mealy_of m) m.events (state ∷ states) state 0 χ → Appended (nodes χ) l_part (all_nodes after))
          → (φ : Formula ℕ) → Writes (mealy_of m) m.events states state φ → Appended (nodes φ) l (all_nodes after)
      written' o rest _ (already_open {i = i} q) = absurd (o.not_open state new i q)
      written' o rest _ (opened {φ = χ} c v) = both x (rest χ v)

-- The rows of a state from an event on: G and the rule of the next state.
module _ (m : Machine) (state event : ℕ) {next : ℕ} {p p_end : OpenStates} {l l_part : Listing} {mid : NodeList} {part : Option ℕ}
    (x : Appended (conjunction_node ∷ transition_node event ∷ []) l l_part) (next_is : next ≡ (mealy_of m).next state event)
    (y : WalksState m next p p_end l_part mid part) where
  abbrev Row : List ℕ → Formula ℕ → Type 0
  Row states φ = Writes (mealy_of m) m.events states ((mealy_of m).next state event) φ

  its : {states : List ℕ} (φ : Formula ℕ) → Row states φ → Writes (mealy_of m) m.events states next φ
  its {states} φ w = subst (λ n. Writes (mealy_of m) m.events states n φ) (sym next_is) w

  -- Where that rule has too many nodes.
  pub walk_part_outgrown : {after : NodeList} {r : Option (Unit {0})} → part ≡ None → r ≡ None → WalksRows m state event p p_end l after r
  walk_part_outgrown d r_is = walk_outgrown r_is (λ states o φ w. many o φ w)
    where
      many : {states : List ℕ} → IsPath p.depth p.opened states → (φ : Formula ℕ) → Rows (mealy_of m) m.events states state event φ
          → node_limit < l.count + size φ
      many o _ (last_row {φ = χ} h w) = omega (arith, y.too_many d _ o χ (its χ w), x.count_is)
      many o _ (row {φ = χ} h w rows) = omega (arith, y.too_many d _ o χ (its χ w), x.count_is)

  -- With the nodes of that rule appended.
  module _ {end : ℕ} (done : part ≡ Some end) where
    abbrev l_end : Listing
    l_end = first_nodes mid end

    walked : Walked (λ ps. Writes (mealy_of m) m.events ps next) p p_end l_part l_end
    walked = y.walked end done

    count_after : {states : List ℕ} → IsPath p.depth p.opened states → (φ : Formula ℕ) → Row states φ → end ≡ l.count + 2 + size φ
    count_after o φ w = omega (arith, (walked.written _ o φ (its φ w)).count_is, length_nodes φ, x.count_is)

    -- The row of the last event.
    module _ (last : event + 1 ≡ m.events) where
      pub walk_last_outgrown : {after : NodeList} {r : Option (Unit {0})} → node_limit < end + 1 → r ≡ None → WalksRows m state event p p_end l after r
      walk_last_outgrown full r_is = walk_outgrown r_is (λ states o φ w. many o φ w)
        where
          many : {states : List ℕ} → IsPath p.depth p.opened states → (φ : Formula ℕ) → Rows (mealy_of m) m.events states state event φ
              → node_limit < l.count + size φ
          many o _ (last_row {φ = χ} h w) = omega (arith, full, count_after o χ w)
          many o _ (row h w rows) = absurd (omega (arith, h, last))

      pub walk_last :
          {value : ℕ} {after : NodeList} → value ≡ (mealy_of m).value state event
          → Appended (output_node event value ∷ []) l_end (all_nodes after) → WalksRows m state event p p_end l after (Some tt)
      walk_last {value} {after} value_is a =
          walk_done (record {
            same_kind = a.same_kind ∙ walked.same_kind ∙ x.same_kind;
            rises = omega (arith, x.count_is, walked.rises, a.count_is);
            same_opened = walked.same_opened;
            same_depth = walked.same_depth;
            longer = walked.longer;
            longest_is = λ states o φ w. longest' o φ w;
            written = λ states o φ w. written' o φ w;
          })
        where
          longest' : {states : List ℕ} → IsPath p.depth p.opened states → (φ : Formula ℕ) → Rows (mealy_of m) m.events states state event φ
              → p_end.longest ≡ max p.longest (p.depth + binder_depth φ)
          longest' o _ (last_row {φ = χ} h w) = omega (arith, p.counted, walked.longest_is _ o χ (its χ w))
          longest' o _ (row h w rows) = absurd (omega (arith, h, last))

          written' : {states : List ℕ} → IsPath p.depth p.opened states → (φ : Formula ℕ)
              → Rows (mealy_of m) m.events states state event φ → Appended (nodes φ) l (all_nodes after)
          written' o _ (last_row {φ = χ} h w) =
              both x (both (walked.written _ o χ (its χ w)) (subst (λ v. Appended (output_node event v ∷ []) l_end (all_nodes after)) value_is a))
          written' o _ (row h w rows) = absurd (omega (arith, h, last))

    -- The row of another event, and those after it.
    module _ (more : ¬ (event + 1 ≡ m.events)) where
      pub walk_row_outgrown :
          {after : NodeList} {r : Option (Unit {0})} → node_limit < end + 2 → r ≡ None → WalksRows m state event p p_end l after r
      walk_row_outgrown full r_is = walk_outgrown r_is (λ states o φ w. many o φ w)
        where
          many : {states : List ℕ} → IsPath p.depth p.opened states → (φ : Formula ℕ) → Rows (mealy_of m) m.events states state event φ
              → node_limit < l.count + size φ
          many o _ (last_row h w) = absurd (more (omega (arith, h)))
          many o _ (row {φ = χ} {χ = others} h w rows) = omega (arith, full, count_after o χ w, size_positive others)

      pub walk_more :
          {value : ℕ} {p_after : OpenStates} {l_rest : Listing} {after : NodeList} {r : Option (Unit {0})} → value ≡ (mealy_of m).value state event
          → Appended (conjunction_node ∷ output_node event value ∷ []) l_end l_rest
          → WalksRows m state (event + 1) p_end p_after l_rest after r → WalksRows m state event p p_after l after r
      walk_more {value} {p_after} {l_rest} {after} {r} value_is z rest =
          record {
            walked = λ e.
                let w = rest.walked e in
                record {
                  same_kind = w.same_kind ∙ z.same_kind ∙ walked.same_kind ∙ x.same_kind;
                  rises = omega (arith, x.count_is, walked.rises, z.count_is, w.rises);
                  same_opened = w.same_opened ∙ walked.same_opened;
                  same_depth = w.same_depth ∙ walked.same_depth;
                  longer = omega (arith, w.longer, walked.longer);
                  longest_is = λ states o φ v. longest' o w φ v;
                  written = λ states o φ v. written' o w φ v;
                };
            too_many = λ h states o φ w. many o (rest.too_many h) φ w;
          }
        where
          next_rows : {states : List ℕ} {φ : Formula ℕ} → Rows (mealy_of m) m.events states state (suc event) φ
              → Rows (mealy_of m) m.events states state (event + 1) φ
          next_rows {states} {φ} v = let e : suc event ≡ event + 1 = omega arith in subst (λ k. Rows (mealy_of m) m.events states state k φ) e v

          on : {states : List ℕ} → IsPath p.depth p.opened states → IsPath p_end.depth p_end.opened states
          on o = same_path (sym walked.same_depth) (sym walked.same_opened) o

          longest' :
              {states : List ℕ} → IsPath p.depth p.opened states
              → Walked (λ ps. Rows (mealy_of m) m.events ps state (event + 1)) p_end p_after l_rest (all_nodes after)
              → (φ : Formula ℕ) → Rows (mealy_of m) m.events states state event φ → p_after.longest ≡ max p.longest (p.depth + binder_depth φ)
          longest' o w _ (last_row h v) = absurd (more (omega (arith, h)))
          longest' o w _ (row {φ = χ} {χ = others} h v rows) =
              omega (arith, walked.longest_is _ o χ (its χ v), w.longest_is _ (on o) others (next_rows rows), walked.same_depth)

          written' :
              {states : List ℕ} → IsPath p.depth p.opened states
              → Walked (λ ps. Rows (mealy_of m) m.events ps state (event + 1)) p_end p_after l_rest (all_nodes after)
              → (φ : Formula ℕ) → Rows (mealy_of m) m.events states state event φ → Appended (nodes φ) l (all_nodes after)
          written' o w _ (last_row h v) = absurd (more (omega (arith, h)))
          written' o w _ (row {φ = χ} {χ = others} h v rows) =
              both x (both (walked.written _ o χ (its χ v))
              (both (subst (λ v. Appended (conjunction_node ∷ output_node event v ∷ []) l_end l_rest) value_is z) (w.written _ (on o) others (next_rows rows))))

          many :
              {states : List ℕ} → IsPath p.depth p.opened states
              → Outgrown (λ ps. Rows (mealy_of m) m.events ps state (event + 1)) p_end p_after l_rest
              → (φ : Formula ℕ) → Rows (mealy_of m) m.events states state event φ → node_limit < l.count + size φ
          many o full _ (last_row h v) = absurd (more (omega (arith, h)))
          many o full _ (row {φ = χ} {χ = others} h v rows) = omega (arith, count_after o χ v, z.count_is, full _ (on o) others (next_rows rows))

-- What the rows ask, with one state more open.
pub ready_rows :
    {m : Machine} {state : ℕ} {p p_open : OpenStates} {l l_part : Listing} → Ready m state p l → state < length p.opened
    → Appended (greatest_node ∷ []) l l_part → l_part.count ≤ node_limit → p_open.opened ≡ set p.opened state (Some (p.depth + 1)) → p_open.depth ≡ p.depth + 1
    → Ready m state p_open l_part
ready_rows {state = state} {p = p} h room x few opened_is depth_is =
    record {
      same_kind = x.same_kind ∙ h.same_kind;
      held = record { states = state ∷ h.held.states; is_path = same_path (sym depth_is) (sym opened_is) (path_opened state room h.held.is_path) };
      shallow = omega (arith, h.shallow, depth_is, x.count_is);
      few = few;
      small_state = h.small_state;
    }

-- What the walk asks of another state, with more nodes and the same path.
pub ready_after :
    {m : Machine} {state next : ℕ} {p p_end : OpenStates} {l l_end : Listing} → Ready m state p l → next < table_limit → l_end.kind ≡ l.kind
    → l.count ≤ l_end.count → l_end.count ≤ node_limit → p_end.opened ≡ p.opened → p_end.depth ≡ p.depth → Ready m next p_end l_end
ready_after h small kind_is rises few opened_is depth_is =
    record {
      same_kind = kind_is ∙ h.same_kind;
      held = record { states = h.held.states; is_path = same_path (sym depth_is) (sym opened_is) h.held.is_path };
      shallow = omega (arith, h.shallow, depth_is, rises);
      few = few;
      small_state = small;
    }
