-- `machines::table_in_order` meets its contract: the first test that fails decides, and past the others the entries do.
use mathlib.Core.{Bool.{true}, Path.{◌≡◌, sym, ◌∙◌, ap, subst}}
use Prim.Native.Nat.{◌*◌, ◌/◌}
use native.Mathlib.{Nat.{div-add-mod'}, Omega.{arith}}
use borrow.Author.{Rules.{rules}}
use lib.{Dec.{eqb}, ListN.{length}}
use Rattle.machines.specs.{TableBytes.{entry_width}, TableRefusal.{entry_test}}
use Rattle.theory.specs.ValueSetTests.{every}
use Rattle.machines.proofs.{Products.{quotient_of_product}, TableTests.{no_states, many_states, start_outside, wrong_length, entries_decide}}
use Rattle.machines.proofs.table_in_order.Goals as goal

pub returns-then-states-eq0 : goal.returns-then-states-eq0
returns-then-states-eq0 c = sym (no_states _ _ _ _ _ _ _ (search rules))

pub returns-then-limit-states : goal.returns-then-limit-states
returns-then-limit-states c = sym (many_states _ _ _ _ _ _ _ (search rules) (search rules))

pub returns-then-states-start : goal.returns-then-states-start
returns-then-states-start c = sym (start_outside _ _ _ _ _ _ _ (search rules) (search rules) (search rules))

pub returns-then-not-is_table_length : goal.returns-then-not-is_table_length
returns-then-not-is_table_length c =
    let wrong =
    ap (λ w. eqb (length c.args.bytes.now) (c.args.states * c.args.events * w)) (sym c.entry_width-width.ensures.0)
    ∙ sym c.is_table_length.ensures ∙ c.if-not-is_table_length.true in
    sym (wrong_length (entry_width c.args.kind) _ _ _ _ _ _ (search rules) (search rules) (search rules) wrong)

pub returns-in-Numbered : goal.returns-in-Numbered
returns-in-Numbered c =
    let right : eqb (length c.args.bytes.now) (c.args.states * c.args.events * c.entry_width-width.result) ≡ true =
    sym c.is_table_length.ensures ∙ c.if-not-is_table_length.false in
    subst (λ k. c.all_in_order.result ≡ every (length c.args.bytes.now / entry_width k) (entry_test k c.args.states c.args.bytes.now)) (sym c.in-Numbered.is)
    c.all_in_order.ensures
    ∙ ap (λ w. every (length c.args.bytes.now / w) (entry_test c.args.kind c.args.states c.args.bytes.now)) (sym c.entry_width-width.ensures.0)
    ∙ ap (λ n. every n (entry_test c.args.kind c.args.states c.args.bytes.now))
    (quotient_of_product (length c.args.bytes.now) (c.args.states * c.args.events) c.entry_width-width.result (omega arith) right)
    ∙ sym (entries_decide (entry_width c.args.kind) _ _ _ _ _ _ (search rules) (search rules) (search rules)
    (ap (λ x. eqb (length c.args.bytes.now) (c.args.states * c.args.events * x)) (sym c.entry_width-width.ensures.0) ∙ right))

pub returns-in-Register : goal.returns-in-Register
returns-in-Register c =
    let right : eqb (length c.args.bytes.now) (c.args.states * c.args.events * c.entry_width-width.result) ≡ true =
    sym c.is_table_length.ensures ∙ c.if-not-is_table_length.false in
    subst (λ k. c.all_in_order-in-Register.result ≡ every (length c.args.bytes.now / entry_width k) (entry_test k c.args.states c.args.bytes.now))
    (sym c.in-Register.is) c.all_in_order-in-Register.ensures
    ∙ ap (λ w. every (length c.args.bytes.now / w) (entry_test c.args.kind c.args.states c.args.bytes.now)) (sym c.entry_width-width.ensures.0)
    ∙ ap (λ n. every n (entry_test c.args.kind c.args.states c.args.bytes.now))
    (quotient_of_product (length c.args.bytes.now) (c.args.states * c.args.events) c.entry_width-width.result (omega arith) right)
    ∙ sym (entries_decide (entry_width c.args.kind) _ _ _ _ _ _ (search rules) (search rules) (search rules)
    (ap (λ x. eqb (length c.args.bytes.now) (c.args.states * c.args.events * x)) (sym c.entry_width-width.ensures.0) ∙ right))
