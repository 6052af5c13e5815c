-- The marked cases: each is computed from the definitions, and lifted.
use mathlib.Core.{Path.{◌≡◌, refl}, List.{[], ◌∷◌}, Option.{none}}
use Prim.Native.Nat.{ℕ, zero, suc, ◌<◌}
use native.Mathlib.Omega.{arith}
use lib.Bits.{bit_and}
use Rattle.theory.specs.Formula.{Formula, variable, transition, output, conjunction, greatest}
use Rattle.theory.specs.{ValueSets.{meet_at, four_value_meet, pack, unpack, top_masks}, DemandSets.{empty, only, union}}
use Rattle.theory.specs.ValueSetTests.{every, closed_test, idempotent_test, commutative_test, associative_test, neutral_test, lawful}
use Rattle.refusal.specs.RefusalAnswers.{or_else, plain_unless, at_found}
use Rattle.values.specs.{Setup.{RegisterValue, meet_of, masks_value}, ValueTests.{masks_fit}}
use Rattle.values.proofs.Setups.{four_value_setup}
use Rattle.values.specs.SetupTests.{events_test, values_test, lines_test, entries_test, meet_test, kind_refusal, setup_refusal}
use Rattle.formulas.specs.RuleReading.{lowest_from, kind_of, fields_fit, awaited, end_fault, first_of, node_of, nodes_from, with_parts, formulas}
use Rattle.formulas.specs.RuleReading.{first_formula, formula_read, lowest_fault, unbound_below, bound_near}
use Rattle.formulas.specs.RuleRefusal.{count_fits, depth_refusal, variables_refusal, structure_refusal, misfit_place, nodes_refusal, rule_refusal, formula_of}
use Rattle.machines.specs.{TableBytes.{table_bytes}, StoredEntries.{two_bytes}}
use Rattle.machines.specs.TableRefusal.{table_test, entry_test, table_refusal}
use Rattle.synthesis.specs.{FormulaTable.{formula_states, formula_table}, Compilation.{rule_table_refusal}}
use Rattle.text_format.specs.Texts.{numeral}
use Rattle.table_rows.specs.TableText.{row_line, table_text}
use Rattle.channel_io.specs.FileRefusals.{pair_table_refusal}
use Rattle.table_report.specs.Report.{answer_text, outcome_text}
use Rattle.marked_cases.specs.MarkedCases.{four_values, sixteen_lines, s, cases, MarkedCasesClaim, request_cases, RequestCasesClaim, limit_cases}
use Rattle.marked_cases.proofs.Lifting.{made, Comparable, Coverable, Checked, AllChecked, all_lifted}

-- The rule that is written in case 11, with values for low and high.
abbrev rule_11 : ℕ → ℕ → Formula ℕ
rule_11 low high =
    greatest
    (conjunction (transition 0 (variable 0)) (conjunction (output 0 low)
    (conjunction (transition 1
    (greatest
    (conjunction (transition 0 (variable 0)) (conjunction (output 0 high) (conjunction (transition 1 (variable 0)) (output 1 low))))))
    (output 1 high))))

-- Value 0 is at or below every value.
lowest_number : (b : ℕ) → b < 4 → meet_at 4 four_value_meet 0 b ≡ 0
unfolding meet_at four_value_meet
lowest_number zero h = refl
lowest_number (suc zero) h = refl
lowest_number (suc (suc zero)) h = refl
lowest_number (suc (suc (suc zero))) h = refl
lowest_number (suc (suc (suc (suc b)))) h = absurd (omega arith)

lowest_masks : (b : ℕ) → RegisterValue 16 b → bit_and 0 b ≡ 0
lowest_masks b h = refl

-- All of them, one computation each. The state of case 4 to which event 1 leads, and where it stays, is 2.
numbers_checked : AllChecked four_values cases × AllChecked four_values request_cases
unfolding AllChecked Checked Comparable Coverable rule_refusal formula_of or_else plain_unless at_found count_fits nodes_refusal misfit_place structure_refusal
    depth_refusal variables_refusal lowest_from kind_of fields_fit awaited end_fault first_of node_of nodes_from with_parts formulas first_formula formula_read
    lowest_fault unbound_below bound_near meet_of meet_at four_value_meet pack unpack top_masks masks_value masks_fit empty only union table_refusal
    table_test entry_test every
    closed_test idempotent_test commutative_test associative_test neutral_test lawful events_test values_test entries_test meet_test lines_test kind_refusal
    setup_refusal formula_states formula_table rule_table_refusal pair_table_refusal numeral row_line table_text answer_text outcome_text
numbers_checked = (
  (
    (refl, refl, refl, refl),
    (
      refl,
      (
        (refl, refl, refl, refl),
        (
          (refl, refl, refl, refl),
          (
            (refl, refl, refl, refl, (2, refl, refl, refl)),
            (
              refl,
              (
                refl,
                (
                  (refl, refl, refl, refl),
                  (
                    refl,
                    (
                      refl,
                      (
                        (refl, refl, refl, refl),
                        (
                          (rule_11 1 2, refl, refl, refl, refl, refl, refl, refl),
                          (
                            ((refl, refl, refl), refl),
                            ((refl, refl, lowest_number), tt),
                          ),
                        ),
                      ),
                    ),
                  ),
                ),
              ),
            ),
          ),
        ),
      ),
    ),
  ),
  (
    ((refl, refl, refl), refl),
    (
      ((refl, refl, refl), refl),
      (
        ((refl, refl, refl), refl),
        (
          ((refl, refl, refl), refl),
          (
            ((refl, refl, refl), refl, refl),
            (
              ((refl, refl, refl), refl, refl),
              (
                ((refl, refl, refl), refl),
                (
                  ((refl, refl, refl), refl),
                  (
                    ((refl, refl, refl, refl), refl),
                    (
                      ((refl, refl, refl, refl), refl),
                      (
                        ((refl, refl, refl, refl), refl),
                        (
                          ((refl, refl, refl, refl), refl),
                          (
                            ((refl, refl, refl, refl), refl),
                            (
                              refl,
                              (
                                refl,
                                (
                                  refl,
                                  (
                                    (refl, refl, refl, refl),
                                    (
                                      (refl, refl, refl, refl),
                                      (
                                        refl,
                                        (
                                          refl,
                                          tt,
                                        ),
                                      ),
                                    ),
                                  ),
                                ),
                              ),
                            ),
                          ),
                        ),
                      ),
                    ),
                  ),
                ),
              ),
            ),
          ),
        ),
      ),
    ),
  ),
)

-- The rows of cases 3 and 11 in a register's form, computed apart with little unfolded: that takes far fewer steps than among the rest.
met_rows : table_bytes two_bytes 2 (made sixteen_lines (conjunction (output 0 65535) (output 0 4294901760))) 2
    ≡ 0 ∷ 1 ∷ 4294967295 ∷ 1 ∷ 4294967295 ∷ 1 ∷ 4294967295 ∷ 1 ∷ []
unfolding meet_of pack top_masks empty only union
met_rows = refl

written_rows : table_bytes two_bytes 2 (made sixteen_lines (rule_11 65535 4294901760)) 2
    ≡ 65535 ∷ 0 ∷ 4294901760 ∷ 1 ∷ 4294901760 ∷ 1 ∷ 65535 ∷ 1 ∷ []
unfolding meet_of pack top_masks empty only union
written_rows = refl

registers_checked : AllChecked sixteen_lines cases × AllChecked sixteen_lines request_cases
unfolding AllChecked Checked Comparable Coverable rule_refusal formula_of or_else plain_unless at_found count_fits nodes_refusal misfit_place structure_refusal
    depth_refusal variables_refusal lowest_from kind_of fields_fit awaited end_fault first_of node_of nodes_from with_parts formulas first_formula formula_read
    lowest_fault unbound_below bound_near meet_of meet_at four_value_meet pack unpack top_masks masks_value masks_fit empty only union table_refusal
    table_test entry_test every
    closed_test idempotent_test commutative_test associative_test neutral_test lawful events_test values_test entries_test meet_test lines_test kind_refusal
    setup_refusal formula_states formula_table rule_table_refusal pair_table_refusal numeral row_line table_text answer_text outcome_text
registers_checked = (
  (
    (refl, refl, refl, refl),
    (
      refl,
      (
        (refl, refl, refl, met_rows),
        (
          (refl, refl, refl, refl),
          (
            (refl, refl, refl, refl, (2, refl, refl, refl)),
            (
              refl,
              (
                refl,
                (
                  (refl, refl, refl, refl),
                  (
                    refl,
                    (
                      refl,
                      (
                        (refl, refl, refl, refl),
                        (
                          (rule_11 65535 4294901760, refl, refl, refl, refl, refl, refl, written_rows),
                          (
                            ((refl, refl, refl), refl),
                            ((refl, refl, lowest_masks), tt),
                          ),
                        ),
                      ),
                    ),
                  ),
                ),
              ),
            ),
          ),
        ),
      ),
    ),
  ),
  (
    ((refl, refl, refl), refl),
    (
      ((refl, refl, refl), refl),
      (
        ((refl, refl, refl), refl),
        (
          ((refl, refl, refl), refl),
          (
            ((refl, refl, refl), refl, refl),
            (
              ((refl, refl, refl), refl, refl),
              (
                ((refl, refl, refl), refl),
                (
                  ((refl, refl, refl), refl),
                  (
                    ((refl, refl, refl, refl), refl),
                    (
                      ((refl, refl, refl, refl), refl),
                      (
                        ((refl, refl, refl, refl), refl),
                        (
                          ((refl, refl, refl, refl), refl),
                          (
                            ((refl, refl, refl, refl), refl),
                            (
                              refl,
                              (
                                refl,
                                (
                                  refl,
                                  (
                                    (refl, refl, refl, refl),
                                    (
                                      (refl, refl, refl, refl),
                                      (
                                        refl,
                                        (
                                          refl,
                                          tt,
                                        ),
                                      ),
                                    ),
                                  ),
                                ),
                              ),
                            ),
                          ),
                        ),
                      ),
                    ),
                  ),
                ),
              ),
            ),
          ),
        ),
      ),
    ),
  ),
)

limits_checked : AllChecked four_values limit_cases
unfolding AllChecked Checked Comparable Coverable rule_refusal formula_of or_else plain_unless at_found count_fits nodes_refusal misfit_place structure_refusal
    depth_refusal variables_refusal lowest_from kind_of fields_fit awaited end_fault first_of node_of nodes_from with_parts formulas first_formula formula_read
    lowest_fault unbound_below bound_near meet_of meet_at four_value_meet pack unpack top_masks masks_value masks_fit empty only union table_refusal
    table_test entry_test every
    closed_test idempotent_test commutative_test associative_test neutral_test lawful events_test values_test entries_test meet_test lines_test kind_refusal
    setup_refusal formula_states formula_table rule_table_refusal pair_table_refusal numeral row_line table_text answer_text outcome_text
limits_checked = (
  refl,
  (
    refl,
    (
      refl,
      (
        refl,
        (
          refl,
          (
            refl,
            (
              refl,
              (
                refl,
                (
                  refl,
                  (
                    refl,
                    (
                      refl,
                      (
                        refl,
                        (
                          refl,
                          (
                            refl,
                            (
                              refl,
                              (
                                refl,
                                (
                                  refl,
                                  (
                                    refl,
                                    (
                                      refl,
                                      (
                                        refl,
                                        (refl, (refl, (refl, tt))),
                                      ),
                                    ),
                                  ),
                                ),
                              ),
                            ),
                          ),
                        ),
                      ),
                    ),
                  ),
                ),
              ),
            ),
          ),
        ),
      ),
    ),
  ),
)

register_fine : setup_refusal (s sixteen_lines) ≡ none
unfolding setup_refusal kind_refusal events_test lines_test or_else plain_unless
register_fine = refl

pub marked_cases : MarkedCasesClaim
marked_cases =
    record {
      numbers = all_lifted four_values (four_value_setup 2 (omega arith) (omega arith)) cases numbers_checked.0;
      registers = all_lifted sixteen_lines register_fine cases registers_checked.0;
    }

pub request_cases_hold : RequestCasesClaim
request_cases_hold =
    record {
      numbers = all_lifted four_values (four_value_setup 2 (omega arith) (omega arith)) request_cases numbers_checked.1;
      registers = all_lifted sixteen_lines register_fine request_cases registers_checked.1;
      limits = all_lifted four_values (four_value_setup 2 (omega arith) (omega arith)) limit_cases limits_checked;
    }
