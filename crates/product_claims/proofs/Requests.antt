-- A proof of each request.
use mathlib.Core.Path.{sym, ◌∙◌}
use Rattle.limits.specs.Limits.{device_limit, table_limit}
use Rattle.values.proofs.Comparisons.{comparisons}
use Rattle.conformance.proofs.TrialClaims.{trial_refused, trial_grades, two_passes}
use Rattle.product_claims.specs.Requests.{SameOrStricter, Requests}
use Rattle.product_claims.proofs.{InnerBinders.{inner_binders}, TwelveBinders.{twelve_binders}, GatheredDemands.{gathered_demands}}
use Rattle.product_claims.proofs.{Distances.{distance_with_every_event}, SixteenLines.{sixteen_lines}}
use Rattle.product_claims.proofs.{Rows.{one_store}, Compiled.{rule_grade}, Covering.{covering}}

same_or_stricter : SameOrStricter
same_or_stricter =
    record {
      comparing = comparisons.told;
      one_comparison = comparisons.only;
      same = λ x old z. (trial_grades device_limit table_limit).same x old (sym ((trial_refused device_limit table_limit).answer x old) ∙ z);
      stricter = λ x old z. (trial_grades device_limit table_limit).stricter x old (sym ((trial_refused device_limit table_limit).answer x old) ∙ z);
      same_as_the_rule = rule_grade;
      together = two_passes;
    }

pub requests : Requests
requests =
    record {
      inner_binders = inner_binders;
      twelve_binders = twelve_binders;
      gathered_demands = gathered_demands;
      distance_with_every_event = distance_with_every_event;
      sixteen_lines = sixteen_lines;
      one_store = one_store;
      same_or_stricter = same_or_stricter;
      covering = covering;
    }
