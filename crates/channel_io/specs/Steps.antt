-- What the private functions of src/ say: what is judged of a text that was read, and what is answered of a set-up and a rule.
use Rattle.std.specs.Prelude.{ℕ, ◌*◌, Result}
use mathlib.Core.{Path.{◌≡◌}, List.{List, []}, Bool.{cond}}
use lib.{Dec.{leb}, ListN.{length, take}}
use Rattle.limits.specs.Limits.{meet_limit, node_limit}
use Rattle.refusal.specs.{declared.Refusal.{Refusal}, RefusalAnswers.{judgement, answered, put_unless}}
use Rattle.values.specs.Setup.{Setup, setup}
use Rattle.channel_file.specs.{ChannelFile.{Contents}, Bytes.{meet_bytes, rule_bytes}, declared.{Form.{Form}, ReadArrays.{ReadArrays}}}
use Rattle.channel_io.specs.{declared.FileNumbers.{FileNumbers}, FileRefusals.{stored_refusal, pair_states, pair_table, pair_compile_refusal}}

-- The entries and the nodes that are judged: those of a file within the limits, and none above them.
abbrev pub shown_entries : Contents → List ℕ
shown_entries c = cond (leb (length c.meet) meet_limit) (meet_bytes c) []

abbrev pub shown_nodes : Contents → List ℕ
shown_nodes c = cond (leb (length c.rule) node_limit) (rule_bytes c) []

-- The numbers of a file, and its set-up and nodes that are judged, in what is read of a text.
abbrev pub numbers_in : Form → FileNumbers
numbers_in f = record { events = f.events; values = f.values; top = f.top; entries = f.entries; nodes = f.items }

abbrev pub held_setup : ReadArrays → Setup
held_setup a = setup a.form.events a.form.values a.form.top (take (cond (leb a.form.entries meet_limit) a.form.entries 0) a.meet)

abbrev pub held_nodes : ReadArrays → List ℕ
held_nodes a = take (3 * cond (leb a.form.items node_limit) a.form.items 0) a.rule

-- ---- of a set-up and nodes, for either form
module _ (s : Setup) (nodes : List ℕ) where
  -- Answer and later contents where the meet entries and the nodes are put into two buffers.
  pub record Keeps (meet rule meet' rule' : List ℕ) (r : Result (Unit {0}) Refusal) : Type 0 where
    pub answer : r ≡ judgement (stored_refusal s nodes meet rule)
    pub meet_is : meet' ≡ put_unless (stored_refusal s nodes meet rule) s.meet meet
    pub rule_is : rule' ≡ put_unless (stored_refusal s nodes meet rule) nodes rule

  -- And where the table is made of them.
  pub record Makes (meet to meet' to' : List ℕ) (r : Result ℕ Refusal) : Type 0 where
    pub answer : r ≡ answered (pair_compile_refusal s nodes meet to) (pair_states s nodes)
    pub meet_is : meet' ≡ put_unless (pair_compile_refusal s nodes meet to) s.meet meet
    pub table_is : to' ≡ put_unless (pair_compile_refusal s nodes meet to) (pair_table s nodes) to
