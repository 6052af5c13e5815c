-- What the private functions of src/registers.rt say: what is judged of a register's text that was read.
use Rattle.std.specs.Prelude.{ℕ, ◌*◌}
use mathlib.Core.{List.{List, []}, Bool.{cond}}
use lib.{Dec.{leb}, ListN.{length, take}}
use Rattle.limits.specs.Limits.{node_limit}
use Rattle.values.specs.Setup.{Setup, register_setup}
use Rattle.channel_file.specs.{RegisterFile.{Contents}, RegisterReading.{rule_bytes}, declared.registers.{Form.{Form}, ReadArrays.{ReadArrays}}}
use Rattle.channel_io.specs.declared.registers.FileNumbers.{FileNumbers}

-- The nodes that are judged: those of a file within the limit, and none above it.
abbrev pub shown_nodes : Contents → List ℕ
shown_nodes c = cond (leb (length c.rule) node_limit) (rule_bytes c) []

-- The numbers of a file, and its set-up and nodes that are judged, in what is read of a text.
abbrev pub numbers_in : Form → FileNumbers
numbers_in f = record { events = f.events; lines = f.lines; nodes = f.items }

abbrev pub held_setup : ReadArrays → Setup
held_setup a = register_setup a.form.events a.form.lines

abbrev pub held_nodes : ReadArrays → List ℕ
held_nodes a = take (6 * cond (leb a.form.items node_limit) a.form.items 0) a.rule
