-- Aliases to an embedder's functions.
use Rattle.std.specs.Prelude.{◌≡◌, ◌⊎◌, [], ◌∷◌, Option}
use Rattle.tcl_core.specs.Paths.{Path, Text}
use Rattle.tcl_interpreter.specs.Commands.{AliasView, way_past}
use Rattle.tcl_interpreter.specs.Nodes.{NodeView}
use Rattle.tcl_interpreter.specs.declared.command.Command.TheVariants as command
use Rattle.tcl_interpreter.specs.declared.refusal.TreeError.{TreeError}
use Rattle.tcl_interpreter.specs.declared.refusal.TreeError.TheVariants.{BadName, Memory}
use Rattle.tcl_tree.specs.Naming.{Becomes, RefusesAt, named}
use Rattle.tcl_value.specs.Limits.{IsPast}

-- An alias whose calls leave the tree. Its one word is the function's name.
abbrev pub function_alias : Path → Text → AliasView
function_alias p function = way_past p (function ∷ [])

-- the name becomes such an alias
abbrev pub Aliases : (Path → Option NodeView) → (Path → Option NodeView) → Path → Text → Text →
    Type 0
Aliases old new p name function = Becomes old new p
    (λ own. named own name (command.Alias (function_alias p function)))

-- or it doesn't: memory was wanted, the function's name is too long, or the tree refuses it
abbrev pub RefusesAlias : TreeError → (Path → Option NodeView) → Path → Text → Text → Type 0
RefusesAlias e old p name function = (e ≡ Memory) ⊎ ((e ≡ BadName) × IsPast function) ⊎
    RefusesAt e old p (λ own. named own name (command.Alias (function_alias p function)))
