-- How commands are named, hidden and exposed: what each call makes of an interpreter's own part, or
-- why it is refused, with the text that is wrong.
use Rattle.std.specs.Prelude.{cond, [], ◌∷◌, ◌++◌, Option, Some, None, is_some, Result, Ok, Err}
use Rattle.std.specs.Str.{bytes_eq}
use Rattle.std.specs.Map.{remove_entry}
use Rattle.tcl_core.specs.Paths.{Text}
use Rattle.tcl_frames.specs.Names.{has_colons, after_colons}
use Rattle.tcl_tree.specs.Changes.{with_command, without_command, is_child}
use Rattle.tcl_tree.specs.Naming as tree
use Rattle.tcl_tree.specs.Own.{Own, command_in, hidden_in}
use Rattle.tcl_interpreter.specs.declared.command.Command.{Command}
use Rattle.tcl_interpreter.specs.declared.command.Command.TheVariants as command
use Rattle.tcl_interpreter.specs.declared.refusal.TreeError.{TreeError}
use Rattle.tcl_interpreter.specs.declared.refusal.TreeError.TheVariants.{BadName, Exists, NoCommand}
use Rattle.tcl_interpreter.specs.declared.refusal.TreeError.TheVariants.{NoHidden}

abbrev pub without_colons : Text → Option Text
without_colons name = cond (has_colons name) None (Some name)

abbrev pub of_global : Text → Option Text → Option Text
of_global name None = without_colons name
of_global name (Some rest) = without_colons rest

-- The name by which a command is kept: two leading colons name the global level, which is the only
-- one; no other two stand in it.
abbrev pub command_name : Text → Option Text
command_name name = of_global name (after_colons name)

-- what is left of the interpreter's own part; or the refusal, and the text that is wrong
abbrev pub Named : Type 0
Named = Result Own (TreeError × Text)

-- what the table makes of an own part, with the text that is wrong where it refuses
abbrev pub with_word : Text → tree.Named → Named
with_word word (Ok own) = Ok own
with_word word (Err e) = Err (e, word)

-- on with the name by which a command is kept
abbrev pub by_name : Option Text → Text → (Text → Named) → Named
by_name None x f = Err (BadName, x)
by_name (Some plain) x f = f plain

abbrev pub keeps_child : Option Command → Text → Named → Named
keeps_child o x k = cond (is_child o) (Err (Exists, x)) k

-- ## Giving a name

-- the name stands for a command from now on, where it was or at the end; the name of a child can't
abbrev pub named : Own → Text → Command → Named
named own x c = by_name (command_name x) x
    (λ plain. keeps_child (command_in own plain) x (Ok (with_command plain c own)))

-- the name by which a procedure may be kept: one of a command, and no child's
abbrev pub definable_as : Own → Text → Option Text → Result Text (TreeError × Text)
definable_as own x None = Err (BadName, x)
definable_as own x (Some plain) =
    cond (is_child (command_in own plain)) (Err (Exists, x)) (Ok plain)

abbrev pub definable : Own → Text → Result Text (TreeError × Text)
definable own x = definable_as own x (command_name x)

abbrev pub clears : Own → Text → Text → Option Command → Named
clears own plain x (Some (command.Alias a)) = Ok (without_command plain own)
clears own plain x o = Err (NoCommand, x)

-- an alias is taken away
abbrev pub cleared : Own → Text → Named
cleared own x = by_name (command_name x) x (λ plain. clears own plain x (command_in own plain))

-- ## Hiding and exposing

abbrev pub put_hidden : Own → Text → Text → Command → Named
put_hidden own plain h c = cond (has_colons h) (Err (BadName, h))
    (cond (is_some (hidden_in own h)) (Err (Exists, h))
    (Ok (record own {
      commands = remove_entry (bytes_eq plain) own.commands;
      hidden = own.hidden ++ (h, c) ∷ [];
    })))

abbrev pub hides : Own → Text → Text → Text → Option Command → Named
hides own plain x h None = Err (NoCommand, x)
hides own plain x h (Some command.Child) = Err (Exists, x)
hides own plain x h (Some (command.Builtin b)) = put_hidden own plain h (command.Builtin b)
hides own plain x h (Some (command.Procedure p)) = put_hidden own plain h (command.Procedure p)
hides own plain x h (Some (command.Alias a)) = put_hidden own plain h (command.Alias a)

-- a command that isn't a child becomes a hidden one of another name
abbrev pub hidden_as : Own → Text → Text → Named
hidden_as own x h = by_name (command_name x) x (λ plain. hides own plain x h (command_in own plain))

abbrev pub exposes : Own → Text → Text → Option Command → Named
exposes own h x None = Err (NoHidden, h)
exposes own h x (Some c) = by_name (command_name x) x
    (λ plain. cond (is_some (command_in own plain)) (Err (Exists, x))
    (Ok (record own {
      commands = own.commands ++ (plain, c) ∷ [];
      hidden = remove_entry (bytes_eq h)
          own.hidden;
    })))

-- a hidden command becomes a command of a name that none has
abbrev pub exposed_as : Own → Text → Text → Named
exposed_as own h x = exposes own h x (hidden_in own h)

-- ## Renaming

abbrev pub renames : Own → Text → Text → Text → Option Command → Named
renames own plain x y None = Err (NoCommand, x)
renames own plain x y (Some c) = keeps_child (Some c) x
    (by_name (command_name y) y (λ other. cond (is_some (command_in own other)) (Err (Exists, y))
    (Ok (record own { commands = remove_entry (bytes_eq plain) own.commands ++ (other, c) ∷ [] }))))

-- a command that isn't a child gets another name
abbrev pub renamed : Own → Text → Text → Named
renamed own x y = by_name (command_name x) x (λ plain. renames own plain x y (command_in own plain))

abbrev pub removes : Own → Text → Text → Option Command → Named
removes own plain x None = Err (NoCommand, x)
removes own plain x (Some c) = keeps_child (Some c) x (Ok (without_command plain own))

-- a command that isn't a child is taken away
abbrev pub removed : Own → Text → Named
removed own x = by_name (command_name x) x (λ plain. removes own plain x (command_in own plain))
