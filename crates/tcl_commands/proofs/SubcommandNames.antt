-- Subcommands, called by their names.
use Rattle.std.proofs.Common.{◌≡◌, List, ap, ◌∙◌}
use Rattle.std.specs.Prelude.{Result}
use Rattle.tcl_core.specs.Paths.{Text}
use Rattle.tcl_language.specs.Arrays as arrays
use Rattle.tcl_language.specs.Instructions.{Program}
use Rattle.tcl_language.specs.Procedures as procedures
use Rattle.tcl_run.specs.Plain.{Acts}
use Rattle.tcl_run.specs.declared.interruption.Interruption.{Interruption}
use Rattle.tcl_tree.specs.declared.tree.Tree.{Tree as Table}
use Rattle.tcl_tree.specs.declared.tree.Place.{Place as TablePlace}
use Rattle.tcl_commands.proofs.Going.{acts_as}

-- a subcommand of `array`
pub arrays_chosen : (t u : Table) (place : TablePlace) (word name : Text) (args : List Text) (y : Program) (result : Result Text Interruption) → word ≡ name → arrays.chosen name args ≡ y →
    Acts t place (λ style. y) u result → Acts t place (λ style. arrays.chosen word args) u result
arrays_chosen t u place word name args y result is same acts =
    acts_as t u place (λ style. arrays.chosen word args) (λ style. y) result (λ style. ap (λ (w : Text). arrays.chosen w args) is ∙ same) acts

-- and one of `info`
pub procedures_chosen : (t u : Table) (place : TablePlace) (word name : Text) (args : List Text) (y : Program) (result : Result Text Interruption) → word ≡ name → procedures.chosen name args ≡ y →
    Acts t place (λ style. y) u result → Acts t place (λ style. procedures.chosen word args) u result
procedures_chosen t u place word name args y result is same acts =
    acts_as t u place (λ style. procedures.chosen word args) (λ style. y) result (λ style. ap (λ (w : Text). procedures.chosen w args) is ∙ same) acts
