-- Every refusal of a file and of a compiled rule has a place that has room in a code, if it has one.
use Prim.Native.Nat.{ℕ, zero, suc, ◌+◌, ◌/◌, ◌^◌, ◌≤◌, ◌<◌}
use mathlib.Core.{Path.{◌≡◌, refl, subst}, List.{List}, Bool.{Bool, true, false}, Option.{Option, none, some}}
use native.Mathlib.Omega.{arith}
use lib.{Dec.{leb}, ListN.{length}}
use Rattle.theory.specs.{Formula.{Formula, size}, BinderDepth.{binder_depth}}
use Rattle.refusal.specs.{declared.Refusal.{Refusal}, declared.Refusal.TheVariants.{StateCount, TextForm, UnboundVariable, UnprotectedVariable}}
use Rattle.refusal.specs.RefusalAnswers.{or_else, plain_unless, at_found}
use Rattle.values.specs.declared.ValueKind.{ValueKind}
use Rattle.values.specs.declared.ValueKind.TheVariants.{Numbered, Register}
use Rattle.values.specs.{Setup.{Setup, setup_top}, ValueTests.{value_fits}}
use Rattle.values.specs.SetupTests.{events_test, values_test, meet_test, lines_test, kind_refusal, setup_refusal}
use Rattle.formulas.specs.RuleConditions.{node_width}
use Rattle.formulas.specs.RuleReading.{kind_of, awaited, end_fault, formula_read, unbound_search, unprotected_search, lowest_unbound, lowest_unprotected}
use Rattle.formulas.specs.RuleRefusal.{count_fits, depth_refusal, variables_refusal, structure_refusal, misfit_place, nodes_refusal, kind_at, first_at}
use Rattle.formulas.specs.RuleRefusal.{value_at, rule_refusal}
use Rattle.formulas.proofs.{Search.{lowest_found}, LowestFault.{found_within}, Decoding.{CountFits, count_facts}}
use Rattle.text_format.specs.Format.{refused}
use Rattle.text_format.specs.Texts.{Refused, FormOf, at, early}
use Rattle.channel_file.specs.{ChannelFile.{RefusedBy, over_long, off_form}, Reading.{AnswersBy}}
use Rattle.channel_file.proofs.Forms.{FormLaws, answer_to, answer}
use Rattle.synthesis.specs.Compilation.{rule_table_refusal, setup_states}
use Rattle.channel_io.proofs.Clamping.{read_size}
use Rattle.channel_io.specs.FileRefusals.{pair_table_refusal}
use Rattle.gurvazze_host.specs.Codes.{SmallPlace}
use Rattle.limits.specs.Limits.{node_limit, binder_limit, state_limit, file_limit}
use Rattle.refusal.specs.declared.Refusal.TheVariants.{BinderDepth, NodeCount, NodeFields, NodeTree, SetupEvents, SetupLines, SetupMeet, SetupValues}

abbrev pub SmallRefusal : Option Refusal → Type 0
SmallRefusal none = Unit {0}
SmallRefusal (some r) = SmallPlace r

pub or_small : (a b : Option Refusal) → SmallRefusal a → SmallRefusal b → SmallRefusal (or_else a b)
unfolding or_else
or_small none b x y = y
or_small (some r) b x y = x

pub plain_small : (b : Bool) (given : Refusal) → SmallPlace given → SmallRefusal (plain_unless b given)
unfolding plain_unless
plain_small true given h = tt
plain_small false given h = h

-- A refusal without a place, and one at a node.
pub no_place : 0 < 2 ^ 32
no_place = omega arith

node_place : {p : ℕ} → p ≤ node_limit → p < 2 ^ 32
node_place h = omega arith

file_place : {p : ℕ} → p ≤ file_limit → p < 2 ^ 32
file_place h = omega arith

found_small : (o : Option ℕ) (given : ℕ → Refusal) → ((p : ℕ) → o ≡ some p → SmallPlace (given p)) → SmallRefusal (at_found o given)
unfolding at_found
found_small none given h = tt
found_small (some p) given h = h p refl

-- 7
end_bound : (kind : ℕ → ℕ) (k left i p : ℕ) → end_fault kind k left i ≡ some p → p ≤ i + left
unfolding end_fault
end_bound kind zero zero i p e = let z : ◌≡◌ {A = ℕ} 0 1 = cc in absurd (omega arith)
end_bound kind zero (suc left) i p e = let z : i ≡ p = cc in omega arith
end_bound kind (suc k) zero i p e = let z : i ≡ p = cc in omega arith
end_bound kind (suc k) (suc left) i p e = let h = end_bound kind (awaited (kind_of (kind i)) k) left (suc i) p e in omega arith

-- 8, 23 and 9
variables_small : (φ : Formula ℕ) → size φ ≤ node_limit → SmallRefusal (variables_refusal φ)
unfolding variables_refusal depth_refusal
variables_small φ h =
    or_small _ _ (found_small (lowest_unbound 0 0 φ) UnboundVariable (λ p e. let b = found_within unbound_search 0 0 φ p e in node_place (omega arith)))
    (or_small _ _ (plain_small (leb (binder_depth φ) binder_limit) BinderDepth no_place)
    (found_small (lowest_unprotected 0 0 φ) UnprotectedVariable (λ p e. let b = found_within unprotected_search 0 0 φ p e in node_place (omega arith))))

nodes_small : (kind first value : ℕ → ℕ) (count : ℕ) (fits : ℕ → Bool) (events : ℕ) → count ≤ node_limit → SmallRefusal
    (nodes_refusal kind first value count fits events)
unfolding nodes_refusal structure_refusal misfit_place
nodes_small kind first value count fits events h =
    or_small _ _
    (found_small _ NodeFields (λ p e. let w = (lowest_found _ count 0 p e).high in node_place (omega arith)))
    (or_small _ _ (found_small (end_fault kind 1 count 0) NodeTree (λ p e. let w = end_bound kind 1 count 0 p e in node_place (omega arith)))
    (variables_small (formula_read kind first value count) (read_size kind first value count h)))

rule_small : (events : ℕ) (kind : ValueKind) (rule : List ℕ) → SmallRefusal (rule_refusal events kind rule)
unfolding rule_refusal plain_unless or_else
rule_small events kind rule = go (count_fits (node_width kind) node_limit (length rule)) refl
  where
    go : (b : Bool) → count_fits (node_width kind) node_limit (length rule) ≡ b
        → SmallRefusal (or_else (plain_unless b NodeCount)
        (nodes_refusal (kind_at kind rule) (first_at kind rule) (value_at kind rule) (length rule / node_width kind) (value_fits kind) events))
    go true e =
        let w : CountFits (node_width kind) node_limit (length rule) = count_facts (node_width kind) node_limit (length rule) e in
        nodes_small (kind_at kind rule) (first_at kind rule) (value_at kind rule) (length rule / node_width kind) (value_fits kind) events w.within
    go false e = no_place

kind_small : (kind : ValueKind) (top : ℕ) (meet : List ℕ) → SmallRefusal (kind_refusal kind top meet)
unfolding kind_refusal
kind_small (Numbered values) top meet =
    or_small (plain_unless (values_test values top) SetupValues) _ (plain_small (values_test values top) SetupValues no_place)
    (plain_small (meet_test values top meet) SetupMeet no_place)
kind_small (Register lines) top meet = plain_small (lines_test lines) SetupLines no_place

pub setup_small : (s : Setup) → SmallRefusal (setup_refusal s)
unfolding setup_refusal
setup_small s =
    or_small (plain_unless (events_test s.events) SetupEvents) _ (plain_small (events_test s.events) SetupEvents no_place) (kind_small s.kind s.top s.meet)

-- 5 to 10
pub rule_table_small :
    (s : Setup) (rule : List ℕ) → SmallRefusal (rule_table_refusal s.kind s.events (setup_top s) s.meet rule state_limit)
unfolding rule_table_refusal
rule_table_small s rule =
    or_small _ _ (rule_small s.events s.kind rule) (plain_small (leb (setup_states state_limit s rule) state_limit) StateCount no_place)

-- and those of the set-up before them
pub pair_table_small : (s : Setup) (nodes : List ℕ) → SmallRefusal (pair_table_refusal s nodes)
unfolding pair_table_refusal
pair_table_small s nodes = or_small (setup_refusal s) _ (setup_small s) (rule_table_small s nodes)

-- 4
form_small : (Form : List ℕ → Type 0) (t : List ℕ) (p : ℕ) → length t ≤ file_limit → Refused Form t p → p ≤ file_limit
form_small Form t p h (at q l begins stops) = omega arith
form_small Form t p h (early begins stops) = h

text_small : {A : Type 0} (K : FormLaws A) (t : List ℕ) (p : ℕ) → answer_to K t ≡ refused p → p ≤ file_limit
text_small K t p e = go p (subst (AnswersBy K.Shows t) e (answer K t))
  where
    go : (q : ℕ) → RefusedBy K.Shows t q → q ≤ file_limit
    go q (over_long l) = omega arith
    go q (off_form r h d) = form_small (FormOf K.Shows) t q h d

pub text_place : {A : Type 0} (K : FormLaws A) (t : List ℕ) (p : ℕ) → answer_to K t ≡ refused p → SmallPlace (TextForm p)
text_place K t p e = file_place (text_small K t p e)
