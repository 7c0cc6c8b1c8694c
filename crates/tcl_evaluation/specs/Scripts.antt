-- A script that was read, as it is evaluated.
use Rattle.std.specs.Prelude.{[]}
use Rattle.tcl_core.specs.Programs.Prog.{done, inside}
use Rattle.tcl_core.specs.Programs.Wrap.{Deeper}
use Rattle.tcl_language.specs.Instructions.{Program}
use Rattle.tcl_language.specs.Instructions.Instr.{Commands}
use Rattle.tcl_parser.specs.Words.{Reading}

-- a script that was read, one level deeper
abbrev pub read_so : Reading → Program
read_so script = inside Deeper (Commands script.commands script.fault []) done
