-- What the program does, from its words to its exit status.
use Rattle.std.specs.Prelude.{◌⊎◌, ℕ, List, Ok, Err, codes}
use Rattle.tcl_shell.specs.CommandLine.{IsRead, IsNotRead}
use Rattle.tcl_shell.specs.Evaluating.{EvaluatesTo}
use Rattle.tcl_shell.specs.Reading.{Serving, ReadsScript}
use Rattle.tcl_shell.specs.Telling.{ShowsSo}
use Rattle.tcl_shell.specs.declared.ending.Ending.{Ending}
use Rattle.tcl_shell.specs.declared.options.Options.{Options}

-- what a script comes to: it is read and evaluated, or isn't read
abbrev pub Comes : {S : Type 0} → Serving S → Options → S → Ending → S → Type 0
Comes {S} step o old e new =
    ((script : List ℕ) × (mid : S) × ReadsScript step o.file.now old (Ok script) mid ×
    EvaluatesTo step o script mid e new)
    ⊎ ReadsScript step o.file.now old (Err e) new

-- The words are read, the script comes to an ending, and that is shown or told; or the words aren't
-- read, and that is.
abbrev pub Runs : {S : Type 0} → Serving S → List (List ℕ) → S → ℕ → S → Type 0
Runs {S} step words old s new =
    ((o : Options) × (e : Ending) × (mid : S) × IsRead words o × Comes step o old e mid ×
    ShowsSo step o.file.now e mid s new)
    ⊎ ((e : Ending) × IsNotRead words e × ShowsSo step (codes "-") e old s new)
