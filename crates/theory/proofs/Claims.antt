-- A proof of each proposition of specs/Claims.
use Prim.Native.Nat.{ℕ}
use Rattle.theory.specs.ValueSets.{MeetSemilattice}
use Rattle.theory.specs.Claims.{GrammarClaim, SemanticsClaim, AnswersClaim, ConjunctionClaim, SimulationClaim, NumberingClaim, TableSimulationClaim}
use Rattle.theory.specs.Claims.{SatisfactionClaim, TableSatisfactionClaim, DemandClaim, DemandValuesClaim, TableClaim, TableValuesClaim}
use Rattle.theory.specs.Claims.{CharacteristicClaim, ConformanceClaim, OneFirstWordClaim, SameValuesClaim, TrialClaim, ImplicationClaim}
use Rattle.theory.proofs.{Substitution.{closed_position_guarded}, SemanticsEquality.{semantics_claim, answers_claim, conjunction_claim}}
use Rattle.theory.proofs.{Simulation.{simulation_claim}, Satisfaction.{satisfaction_claim}, TableSatisfaction.{table_satisfaction_claim}}
use Rattle.theory.proofs.{DemandClaims.{demand_claim, demand_values_claim}, TableClaims.{numbering_claim, table_claim, table_values_claim}}
use Rattle.theory.proofs.{CharacteristicClaims.{characteristic_claim}, Trial.{trial_claim}, Implication.{implication_claim}}
use Rattle.theory.proofs.ConformanceClaims.{table_simulation_claim, conformance_claim, one_first_word_claim, same_values_claim}

pub grammar : GrammarClaim
grammar B φ = closed_position_guarded φ

module _ {B : Type 0} (In : B → Type 0) (meet : B → B → B) (top : B) (events : ℕ) where
  pub semantics : SemanticsClaim In meet top events
  semantics = semantics_claim In meet top events

  pub answers : AnswersClaim In meet top events
  answers = answers_claim In meet top events

  pub conjunction : ConjunctionClaim In meet top events
  conjunction = conjunction_claim In meet top events

  pub simulation : SimulationClaim In meet top events
  simulation = simulation_claim In meet top events

  pub numbering : NumberingClaim In meet top events
  numbering = numbering_claim In meet top events

  pub table_simulation : TableSimulationClaim In meet top events
  table_simulation = table_simulation_claim In meet top events

  pub demands : DemandClaim In meet top events
  demands = demand_claim In meet top events

  pub table : TableClaim In meet top events
  table = table_claim In meet top events

  pub conformance : ConformanceClaim In meet top events
  conformance = conformance_claim In meet top events

  pub one_first_word : OneFirstWordClaim In meet top events
  one_first_word = one_first_word_claim In meet top events

  pub same_values : SameValuesClaim In meet top events
  same_values = same_values_claim In meet top events

  module _ (laws : MeetSemilattice In meet top) where
    pub satisfaction : SatisfactionClaim In meet top laws events
    satisfaction = satisfaction_claim In meet top laws events

    pub table_satisfaction : TableSatisfactionClaim In meet top laws events
    table_satisfaction = table_satisfaction_claim In meet top laws events

    pub demand_values : DemandValuesClaim In meet top laws events
    demand_values = demand_values_claim In meet top laws events

    pub table_values : TableValuesClaim In meet top laws events
    table_values = table_values_claim In meet top laws events

    pub characteristic : CharacteristicClaim In meet top laws events
    characteristic = characteristic_claim In meet top laws events

    pub trial : TrialClaim In meet top laws events
    trial = trial_claim In meet top laws events

    pub implication : ImplicationClaim In meet top laws events
    implication = implication_claim In meet top laws events
