-- What a script is told of a refusal.
use Rattle.std.specs.Prelude.{[], ◌++◌, codes}
use Rattle.std.specs.Fmt.{decimal}
use Rattle.tcl_frames.specs.Names.{Text}
use Rattle.tcl_frames.specs.declared.fault.Verb.{Verb}
use Rattle.tcl_frames.specs.declared.fault.Verb.TheVariants.{Read, Set, Unset}
use Rattle.tcl_frames.specs.declared.fault.FrameFault.{FrameFault}
use Rattle.tcl_frames.specs.declared.fault.FrameFault.TheVariants.{NoVariable, IsArray, NotArray}
use Rattle.tcl_frames.specs.declared.fault.FrameFault.TheVariants.{NoElement, BadLevel, Exists}
use Rattle.tcl_frames.specs.declared.fault.FrameFault.TheVariants.{Itself, BadName}

abbrev pub verb_word : Verb → Text
verb_word Read = codes "read"
verb_word Set = codes "set"
verb_word Unset = codes "unset"

-- `can't read "x": no such variable`
abbrev pub cannot : Verb → Text → Text → Text
cannot v x why = codes "can't " ++ verb_word v ++ codes " \"" ++ x ++ codes "\": " ++ why

-- a text in quotes, between two others
abbrev pub quoted : Text → Text → Text → Text
quoted before x after = before ++ codes "\"" ++ x ++ codes "\"" ++ after

abbrev pub message : FrameFault → Text
message (NoVariable v x) = cannot v x (codes "no such variable")
message (IsArray v x) = cannot v x (codes "variable is array")
message (NotArray v x) = cannot v x (codes "variable isn't array")
message (NoElement v x) = cannot v x (codes "no such element in array")
message (BadLevel n) = quoted (codes "bad level ") (decimal n) []
message (Exists x) = quoted (codes "variable ") x (codes " already exists")
message Itself = codes "can't upvar from variable to itself"
message (BadName x) = quoted (codes "bad name ") x []
