-- A register's channel file (document 02, F-7), as the second form of files.
use Rattle.std.specs.Prelude.{length}
use Rattle.values.specs.Setup.{Setup, register_setup}
use Rattle.channel_file.specs.RegisterFile.{Contents, rule_numbers, rule_text, text, Shows}
use Rattle.channel_io.specs.FileConditions.{FileForm}
use Rattle.channel_io.specs.declared.registers.FileNumbers.{FileNumbers}

-- Its set-up, and its numbers: those of the set-up, and how many nodes it has.
abbrev pub file_setup : Contents → Setup
file_setup c = register_setup c.events c.lines

abbrev pub file_numbers : Contents → FileNumbers
file_numbers c = record { events = c.events; lines = c.lines; nodes = length c.rule }

abbrev pub register_file : FileForm
register_file =
    record {
      Inside = Contents;
      Shown = Shows;
      text_of = text;
      tokens_of = rule_text;
      setup_of = file_setup;
      nodes_of = rule_numbers;
      Numbers = FileNumbers;
      numbers_of = file_numbers;
    }
