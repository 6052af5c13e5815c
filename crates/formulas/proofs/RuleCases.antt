-- The cases of rules, each by computing the answer.
use mathlib.Core.Path.{refl}
use Rattle.refusal.specs.RefusalAnswers.{or_else, plain_unless, at_found}
use Rattle.theory.specs.ValueSets.{unpack}
use Rattle.formulas.specs.RuleReading.{lowest_from, kind_of, fields_fit, awaited, end_fault, first_of, node_of, nodes_from, with_parts, formulas}
use Rattle.formulas.specs.RuleReading.{first_formula, formula_read, lowest_fault, unbound_below, bound_near}
use Rattle.formulas.specs.RuleRefusal.{count_fits, depth_refusal, variables_refusal, structure_refusal, misfit_place, nodes_refusal, rule_refusal}
use Rattle.formulas.specs.RuleCases.{CasesHold, RuleCasesClaim}
use Rattle.values.specs.ValueTests.{masks_fit}
use Rattle.values.specs.Setup.{masks_value}

pub rule_cases_hold : RuleCasesClaim
unfolding CasesHold unpack masks_fit masks_value rule_refusal or_else plain_unless at_found count_fits nodes_refusal misfit_place structure_refusal
    depth_refusal variables_refusal lowest_from kind_of fields_fit awaited end_fault first_of node_of nodes_from with_parts formulas first_formula formula_read
    lowest_fault unbound_below bound_near
rule_cases_hold =
    record {
      numbered = (refl, (refl, (refl, (refl, (refl, (refl, (refl, (refl, (refl, (refl, (refl, (refl, (refl, (refl, tt))))))))))))));
      register = (refl, (refl, (refl, (refl, (refl, (refl, (refl, (refl, tt))))))));
    }
