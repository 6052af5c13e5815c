-- What the private functions of src/registers.rt say.
use Rattle.std.specs.Prelude.{ℕ, Result}
use mathlib.Core.{Path.{◌≡◌}, List.{List}}
use Rattle.text_format.specs.Format.{Outcome, contents}
use Rattle.channel_file.specs.{RegisterFile.{Contents}, Reading.{answer_by}, RegisterReading.{rule_bytes, form_of}, Bytes.{put_front}}
use Rattle.channel_file.specs.declared.registers.Form.{Form}

-- The answer to a text that is read as x; where it has contents, the buffer has their bytes, as far as there is room.
pub record ReadsForm {E : Type 0} (refuses : ℕ → E) (x : Outcome Contents) (rule rule' : List ℕ) (r : Result Form E) : Type 0 where
  pub reply : r ≡ answer_by refuses form_of x
  pub bytes : (c : Contents) → x ≡ contents c → rule' ≡ put_front (rule_bytes c) rule
