-- The names of commands: which there can be, and what they stand for.
use Rattle.std.specs.Str.{bytes_eq}
use Rattle.std.specs.Map.{remove_entry}
use Rattle.indexmap.specs.IndexMap.{insert_entry}
use Rattle.std.specs.Prelude.{ℕ, Bool, true, false, List, [], ◌∷◌, ◌==◌, ◌&&◌, ◌||◌, not, Option}
use Rattle.std.specs.Prelude.{Some}
use Rattle.std.specs.List.{list_all}
use Rattle.tcl_interpreter.specs.Paths.{Text}
use Rattle.tcl_interpreter.specs.Own.{Own, CommandMap}
use Rattle.tcl_interpreter.specs.declared.command.Command.{Command}
use Rattle.tcl_interpreter.specs.declared.command.Command.TheVariants.{Alias, Child}

-- two colons side by side: no name of a command has them
abbrev pub is_colon : List ℕ → Bool
is_colon [] = false
is_colon (x ∷ xs) = x == 58

abbrev pub has_colons : List ℕ → Bool
has_colons [] = false
has_colons (x ∷ xs) = ((x == 58) && is_colon xs) || has_colons xs

-- a name that a child can have: it isn't empty, and has no two colons side by side
abbrev pub is_name : Text → Bool
is_name [] = false
is_name (x ∷ xs) = not (has_colons (x ∷ xs))

-- the name stands for this, where it did or at the end
abbrev pub with_command : Text → Command → Own → Own
with_command n c own = record own { commands = insert_entry bytes_eq own.commands n c }

abbrev pub without_command : Text → Own → Own
without_command n own = record own { commands = remove_entry (bytes_eq n) own.commands }

-- a name that commands can have: no two colons stand side by side in it
abbrev pub is_command_name : Text → Bool
is_command_name n = not (has_colons n)

-- all names of these commands are such names
abbrev pub have_plain_names : CommandMap → Bool
have_plain_names = list_all (λ e. is_command_name e.0)

abbrev pub is_child : Option Command → Bool
is_child (Some Child) = true
is_child _ = false

abbrev pub is_alias : Option Command → Bool
is_alias (Some (Alias a)) = true
is_alias _ = false
