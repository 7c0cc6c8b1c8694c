-- The language that is run: the table of its commands.
use Rattle.tcl_core.specs.Programs.{Table}
use Rattle.tcl_language.proofs.Calls.{programs_call}
use Rattle.tcl_language.specs.Instructions.{Instr}
use Rattle.tcl_language.specs.Language.{language_with}
use Rattle.tcl_text.specs.declared.integer.Integers.{Integers}
use Rattle.tcl_tree.specs.Own.{Own}

-- the language, in a style of integer texts
abbrev pub language : Integers → Table Own Instr
language style = language_with programs_call style
