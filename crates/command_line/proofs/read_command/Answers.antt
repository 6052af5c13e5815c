use Rattle.std.proofs.Common.{arith, rules}
use Rattle.std.proofs.lemmas.Slice.Eq.{text_from_reads}
use Rattle.text_format.specs.Texts.{ascii}
use Rattle.command_line.proofs.read_command.Goals as goal

pub returns-in-wheel : goal.returns-in-wheel
returns-in-wheel c = rw (text_from_reads c.args.word.now (ascii "wheel") (omega arith) (search rules))

pub returns-in-write : goal.returns-in-write
returns-in-write c = rw (text_from_reads c.args.word.now (ascii "write") (omega arith) (search rules))

pub returns-in-table : goal.returns-in-table
returns-in-table c = rw (text_from_reads c.args.word.now (ascii "table") (omega arith) (search rules))

pub returns-in-trial : goal.returns-in-trial
returns-in-trial c = rw (text_from_reads c.args.word.now (ascii "trial") (omega arith) (search rules))

pub returns-in-event : goal.returns-in-event
returns-in-event c = rw (text_from_reads c.args.word.now (ascii "event") (omega arith) (search rules))

pub returns-in-clear : goal.returns-in-clear
returns-in-clear c = rw (text_from_reads c.args.word.now (ascii "clear") (omega arith) (search rules))

pub returns-in-events : goal.returns-in-events
returns-in-events c = rw (text_from_reads c.args.word.now (ascii "events") (omega arith) (search rules))

pub returns-in-device : goal.returns-in-device
returns-in-device c = rw (text_from_reads c.args.word.now (ascii "device") (omega arith) (search rules))

pub returns-in-covers : goal.returns-in-covers
returns-in-covers c = rw (text_from_reads c.args.word.now (ascii "covers") (omega arith) (search rules))

pub returns-in-restart : goal.returns-in-restart
returns-in-restart c = rw (text_from_reads c.args.word.now (ascii "restart") (omega arith) (search rules))

pub returns-in-register : goal.returns-in-register
returns-in-register c = rw (text_from_reads c.args.word.now (ascii "register") (omega arith) (search rules))
