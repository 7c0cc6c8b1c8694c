-- The subcommands of `string` that are told by their names before any other.
use Rattle.std.specs.Prelude.{ℕ, List, codes}
use Rattle.tcl_commands.specs.declared.texts.Verb.{Verb}
use Rattle.tcl_commands.specs.declared.texts.Verb.TheVariants.{Length, Index, Range}

-- what each is called
abbrev pub verb_name : Verb → List ℕ
verb_name Length = codes "length"
verb_name Index = codes "index"
verb_name Range = codes "range"
