-- The texts of errors.
use Rattle.std.specs.Prelude.{[], codes, cond}
use Rattle.tcl_core.specs.Paths.{Text}
use Rattle.tcl_frames.specs.Messages.{message, quoted}
use Rattle.tcl_frames.specs.Names.{has_colons}
use Rattle.tcl_frames.specs.declared.fault.FrameFault.{FrameFault}
use Rattle.tcl_text.specs.declared.integer.IntegerFault.{IntegerFault}
use Rattle.tcl_text.specs.declared.integer.IntegerFault.TheVariants.{NotInteger, TooLarge}

abbrev pub bad_level : Text → Text
bad_level x = quoted (codes "bad level ") x []

abbrev pub bad_name : Text → Text
bad_name x = quoted (codes "bad name ") x []

abbrev pub invalid_command : Text → Text
invalid_command x = quoted (codes "invalid command name ") x []

-- no hidden command has the name; one that holds two colons can't be such a name
abbrev pub invalid_hidden : Text → Text
invalid_hidden x = cond (has_colons x) (bad_name x)
    (quoted (codes "invalid hidden command name ") x [])

abbrev pub lost_alias : Text → Text
lost_alias x = quoted (codes "could not find the target of alias ") x []

abbrev pub no_procedure : Text → Text
no_procedure x = quoted [] x (codes " isn't a procedure")

abbrev pub wrong_args : Text → Text
wrong_args form = quoted (codes "wrong # args: should be ") form []

abbrev pub unknown_subcommand : Text → Text
unknown_subcommand x = quoted (codes "unknown subcommand ") x []

-- why a call on the variables is refused
abbrev pub frame_message : FrameFault → Text
frame_message f = message f

-- why a text is no integer that can be used
abbrev pub integer_message : Text → IntegerFault → Text
integer_message x NotInteger = quoted (codes "expected integer but got ") x []
integer_message x TooLarge = codes "integer value too large to represent"
