-- Worked scripts in the language.
use Rattle.tcl_language.specs.Rows as worked
use Rattle.tcl_run.specs.Language.{language}

abbrev pub AreRows : Type 0
AreRows = worked.AreRows language
