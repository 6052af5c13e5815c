-- Answers in one number of 64 bits, for programs in other languages. The low byte is the number of the refusal, and 0 where there is
-- none; above it stand the refusal's place, or what the call yields.
use Rattle.std.proofs.Math.Option.{Option, none, some}
use Rattle.std.specs.Prelude.{ℕ, ◌+◌, ◌*◌, ◌≤◌, ◌<◌, ◌^◌, Err, Ok, Result, unwrap_or}
use Rattle.limits.specs.Limits.{event_limit, value_limit, state_limit}
use Rattle.values.specs.{declared.ValueKind.{ValueKind}, declared.ValueKind.TheVariants.{Numbered, Register}, Setup.{Setup}}
use Rattle.refusal.specs.{declared.Refusal.{Refusal}, Refusal.{refusal_number, refusal_place}}
use Rattle.conformance.specs.{declared.Verdict.{Verdict}, Trial.{Answer}}
use Rattle.conformance.specs.declared.Verdict.TheVariants.{Pass, Fail}
use Rattle.conformance.specs.declared.Grade.{Grade}
use Rattle.conformance.specs.declared.Grade.TheVariants.{Same, Stricter}
use Rattle.gurvazze_host.specs.declared.Made.{Made}

-- "Each returns its number (4 and 6 to 9 also a place)": 0 stands for no place.
unfoldable pub refusal_code : Refusal → ℕ
refusal_code refusal = unwrap_or (refusal_place refusal) 0 * 256 + refusal_number refusal

-- The code of what an accepted call yields.
unfoldable pub yield_code : ℕ → ℕ
yield_code yield = yield * 256

unfoldable pub code : Option Refusal → ℕ → ℕ
code none yield = yield_code yield
code (some refusal) yield = refusal_code refusal

-- A call that makes something yields its count, or its numbers in one.
unfoldable pub answer_code : Result ℕ Refusal → ℕ
answer_code (Ok n) = yield_code n
answer_code (Err refusal) = refusal_code refusal

-- A pass yields 0 as same, and as stricter 65,536, which is no word's length (document 02, F-5).
unfoldable pub grade_yield : Grade → ℕ
grade_yield Same = 0
grade_yield Stricter = 65536

-- A failed trial yields the length of its word, which has at least one event.
unfoldable pub verdict_yield : Verdict → ℕ
verdict_yield (Pass passed_as) = grade_yield passed_as
verdict_yield (Fail n) = n

unfoldable pub verdict_code : Answer → ℕ
verdict_code (Ok verdict) = yield_code (verdict_yield verdict)
verdict_code (Err refusal) = refusal_code refusal

-- A replay yields 0.
unfoldable pub replay_code : Result (Unit {0}) Refusal → ℕ
replay_code (Ok done) = yield_code 0
replay_code (Err refusal) = refusal_code refusal

-- The numbers of a table: its states in sixteen bits; events, values and top in eight each.
unfoldable pub table_numbers : (states events values top : ℕ) → ℕ
table_numbers states events values top = states + (events + (values + top * 256) * 256) * 65536

-- Of a set-up they are its values and top; of a register's its lines in the place of values, and 0 in that of top.
abbrev pub told_values : ValueKind → ℕ
told_values (Numbered values) = values
told_values (Register lines) = lines

abbrev pub told_top : ValueKind → ℕ → ℕ
told_top (Numbered values) top = top
told_top (Register lines) top = 0

abbrev pub setup_numbers : Setup → ℕ → ℕ
setup_numbers s states = table_numbers states s.events (told_values s.kind) (told_top s.kind s.top)

-- Of what was made of a file.
abbrev pub made_numbers : Made → ℕ
made_numbers m = table_numbers m.states m.events (told_values m.kind) (told_top m.kind m.top)

-- What the private functions of src/ ask: numbers that have room in a code.
abbrev pub SmallPlace : Refusal → Type 0
SmallPlace refusal = unwrap_or (refusal_place refusal) 0 < 2 ^ 32

abbrev pub SmallAnswer : Result ℕ Refusal → Type 0
SmallAnswer (Ok n) = n < 2 ^ 48
SmallAnswer (Err refusal) = SmallPlace refusal

abbrev pub SmallVerdict : Answer → Type 0
SmallVerdict (Ok verdict) = verdict_yield verdict < 2 ^ 48
SmallVerdict (Err refusal) = SmallPlace refusal

abbrev pub SmallReplay : Result (Unit {0}) Refusal → Type 0
SmallReplay (Ok done) = Unit {0}
SmallReplay (Err refusal) = SmallPlace refusal

pub record SmallNumbers (states events values top : ℕ) : Type 0 where
  pub few_states : states ≤ state_limit
  pub few_events : events ≤ event_limit
  pub few_values : values ≤ value_limit
  pub top_in : top < values
