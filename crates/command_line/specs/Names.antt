-- The names of the commands.
use Rattle.std.specs.Prelude.{ℕ, eqb, Bool, true, false, ◌&&◌, List, [], ◌∷◌, cond, Option, Some, None}
use Rattle.std.specs.Str.{bytes_eq}
use Rattle.text_format.specs.Texts.{ascii}
use Rattle.command_line.specs.declared.Command.{Command}

abbrev pub names : List (List ℕ × Command)
names =
    (ascii "setup", Command.Setup)
    ∷ (ascii "register", Command.Register)
    ∷ (ascii "wheel", Command.Wheel)
    ∷ (ascii "table", Command.Table)
    ∷ (ascii "load", Command.Load)
    ∷ (ascii "event", Command.Event)
    ∷ (ascii "events", Command.Events)
    ∷ (ascii "restart", Command.Restart)
    ∷ (ascii "clear", Command.Clear)
    ∷ (ascii "show", Command.Show)
    ∷ (ascii "device", Command.Device)
    ∷ (ascii "trial", Command.Trial)
    ∷ (ascii "covers", Command.Covers)
    ∷ (ascii "write", Command.Write)
    ∷ (ascii "dot", Command.Dot)
    ∷ (ascii "help", Command.Help)
    ∷ []

-- Whether two lists are the same.
unfoldable pub equal : List ℕ → List ℕ → Bool
equal [] [] = true
equal [] (b ∷ t) = false
equal (a ∷ s) [] = false
equal (a ∷ s) (b ∷ t) = eqb a b && equal s t

-- The command that stands beside a word; none where the word is no name.
abbrev pub found : List (List ℕ × Command) → List ℕ → Option Command
found [] w = None
found (p ∷ ps) w = cond (bytes_eq w p.0) (Some p.1) (found ps w)

abbrev pub named : List ℕ → Option Command
named w = found names w
