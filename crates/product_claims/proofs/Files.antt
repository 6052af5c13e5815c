-- The demands on calls on files, of both forms.
use Prim.Native.Nat.{ℕ}
use mathlib.Core.{Path.{◌≡◌, refl, ap, subst}, List.{List}, Option.{some}}
use Rattle.refusal.specs.{Refusal.{JudgedCall, refusal_of, yield_of}}
use Rattle.values.specs.{Setup.{Setup, setup, register_setup}, declared.ValueKind.TheVariants.{Register}}
use Rattle.channel_file.proofs.TextDemands.{file_to_tokens}
use Rattle.channel_file.proofs.RegisterClaims.{file_to_tokens as register_file_to_tokens}
use Rattle.channel_io.specs.{FileConditions.{number_file, write_file_conditions, WritesAs}, RegisterFiles.{register_file}}
use Rattle.channel_io.specs.FileWriting.{WritesFile, WritesRegisterFile}
use Rattle.channel_io.proofs.FileDemands as numbers
use Rattle.channel_io.proofs.RegisterDemands as registers
use Rattle.table_report.proofs.ReportClaims.{one_report_claim}
use Rattle.table_report.proofs.ReportDemands.{reporting, file_to_report}
use Rattle.product_claims.specs.Demands.{FilesJudged, FilesAgree, number_calls, register_calls, WritesNumbers, WritesRegister}
use Rattle.refusal.specs.declared.Refusal.{Refusal}
use Rattle.std.specs.Prelude.{Result}

-- ---- document 01's file

number_writing : (s : Setup) (rule old new : List ℕ) (r : Result ℕ Refusal) → WritesNumbers rule old new r s
    → JudgedCall (write_file_conditions number_file s rule old) (refusal_of r) old new
number_writing s rule old new r (WritesNumbers.writes events values top meet w) = numbers.writing_a_file events values top meet rule old new r w

number_file_of : (s : Setup) (rule old new : List ℕ) (r : Result ℕ Refusal) → WritesNumbers rule old new r s → (n : ℕ) → yield_of r ≡ some n
    → WritesAs number_file s rule old new n
number_file_of s rule old new r (WritesNumbers.writes events values top meet w) = numbers.rule_to_file events values top meet rule old new r w

number_written : (events values top : ℕ) (meet rule old new : List ℕ) (r : Result ℕ Refusal) → WritesNumbers rule old new r (setup events values top meet)
    → WritesFile events values top meet rule old new r
number_written events values top meet rule old new r (WritesNumbers.writes e v p m w) = w

pub number_files_judged : FilesJudged number_calls
number_files_judged = record { reading = numbers.reading_a_file; writing = number_writing; reporting = reporting one_report_claim.numbers }

pub number_files_agree : FilesAgree number_calls
number_files_agree =
    record {
      file_to_rule = numbers.file_to_rule;
      rule_to_file = number_file_of;
      file_to_rule_to_file = λ t meet rule meet' rule' r k found is old new w x room.
          numbers.file_to_rule_to_file t meet rule meet' rule' r k found is old new w (number_written _ _ _ _ _ _ _ _ x) room;
      file_to_report = file_to_report one_report_claim.numbers;
      file_to_tokens = file_to_tokens;
    }

-- ---- a register's file

register_writing : (s : Setup) (rule old new : List ℕ) (r : Result ℕ Refusal) → WritesRegister rule old new r s
    → JudgedCall (write_file_conditions register_file s rule old) (refusal_of r) old new
register_writing s rule old new r (WritesRegister.writes events lines w) = registers.writing_a_file events lines rule old new r w

register_file_of : (s : Setup) (rule old new : List ℕ) (r : Result ℕ Refusal) → WritesRegister rule old new r s → (n : ℕ) → yield_of r ≡ some n
    → WritesAs register_file s rule old new n
register_file_of s rule old new r (WritesRegister.writes events lines w) = registers.rule_to_file events lines rule old new r w

-- a set-up that is a register's is one of its events and lines alone
register_written_at : (s : Setup) (rule old new : List ℕ) (r : Result ℕ Refusal) → WritesRegister rule old new r s → (events lines : ℕ)
    → s ≡ register_setup events lines → WritesRegisterFile events lines rule old new r
register_written_at s rule old new r (WritesRegister.writes e l w) events lines q =
    let same_events : e ≡ events = ap (λ (x : Setup). x.events) q in
    let same_kind : Register l ≡ Register lines = ap (λ (x : Setup). x.kind) q in
    let same_lines : l ≡ lines = cc in
    subst (λ x. WritesRegisterFile x lines rule old new r) same_events
    (subst (λ x. WritesRegisterFile e x rule old new r) same_lines w)

register_written : (events lines : ℕ) (rule old new : List ℕ) (r : Result ℕ Refusal) → WritesRegister rule old new r (register_setup events lines)
    → WritesRegisterFile events lines rule old new r
register_written events lines rule old new r x = register_written_at _ rule old new r x events lines refl

pub register_files_judged : FilesJudged register_calls
register_files_judged = record { reading = registers.reading_a_file; writing = register_writing; reporting = reporting one_report_claim.registers }

pub register_files_agree : FilesAgree register_calls
register_files_agree =
    record {
      file_to_rule = registers.file_to_rule;
      rule_to_file = register_file_of;
      file_to_rule_to_file = λ t meet rule meet' rule' r k found is old new w x room.
          registers.file_to_rule_to_file t meet rule meet' rule' r k found is old new w (register_written _ _ _ _ _ _ x) room;
      file_to_report = file_to_report one_report_claim.registers;
      file_to_tokens = register_file_to_tokens;
    }
