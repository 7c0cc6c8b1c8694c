-- The table of the commands, but for the proof that it brings along.
use Rattle.tcl_core.specs.Entries.{Entry}
use Rattle.tcl_core.specs.Programs.{Calls_only, Table}
use Rattle.tcl_text.specs.declared.integer.Integers.{Integers}
use Rattle.tcl_tree.specs.Own.{Own}
use Rattle.tcl_language.specs.Instructions.{Instr}
use Rattle.tcl_language.specs.Interpreters.{nobody_at}
use Rattle.tcl_language.specs.Table.{program, serve}

-- The programs of the commands call, and never wait without a call.
abbrev pub ProgramsCall : Type 0
ProgramsCall = (style : Integers) →
    ((i : Instr) → Calls_only (program style i)) ×
    ((entry : Entry) → Calls_only (serve style entry))

-- the language, in a style of integer texts, once that is proved
abbrev pub language_with : ProgramsCall → Integers → Table Own Instr
language_with calls style = record {
  program = program style;
  entry = serve style;
  lost = nobody_at;
  programs_call = (calls style).0;
  entries_call = (calls style).1;
}
