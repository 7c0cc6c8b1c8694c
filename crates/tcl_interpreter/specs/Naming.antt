-- How the commands of one interpreter are named: what each call makes of its own part, or why it is
-- refused.
use Rattle.std.specs.Prelude.{◌≡◌, ◌⊎◌, cond, List, [], ◌∷◌, ◌++◌, Option, Some}
use Rattle.std.specs.Prelude.{None, is_some, Result, Ok, Err}
use Rattle.std.specs.Str.{bytes_eq}
use Rattle.std.specs.Map.{remove_entry}
use Rattle.tcl_interpreter.specs.Paths.{Text}
use Rattle.tcl_interpreter.specs.Own.{Own, command_in, hidden_in}
use Rattle.tcl_interpreter.specs.Nodes.{own_view, state_view}
use Rattle.tcl_interpreter.specs.Names.{with_command, without_command, is_command_name, is_child}
use Rattle.tcl_interpreter.specs.Names.{is_alias}
use Rattle.tcl_interpreter.specs.declared.command.Command.{Command}
use Rattle.tcl_interpreter.specs.declared.naming.Naming.{Naming}
use Rattle.tcl_interpreter.specs.declared.naming.Naming.TheVariants.{Give, Clear, Rename, Remove}
use Rattle.tcl_interpreter.specs.declared.naming.Naming.TheVariants.{Hide, Expose}
use Rattle.tcl_interpreter.specs.declared.node.State.{State}
use Rattle.tcl_interpreter.specs.declared.refusal.TreeError.{TreeError}
use Rattle.tcl_interpreter.specs.declared.refusal.TreeError.TheVariants.{Memory, BadName, Exists}
use Rattle.tcl_interpreter.specs.declared.refusal.TreeError.TheVariants.{NoCommand, NoHidden}

-- what is left of the own part, or why it stays
abbrev pub Named : Type 0
Named = Result Own TreeError

-- on, where commands can have the name
abbrev pub by_name : Text → Named → Named
by_name n k = cond (is_command_name n) k (Err BadName)

-- on, where the command isn't a child
abbrev pub keeps_child : Option Command → Named → Named
keeps_child o k = cond (is_child o) (Err Exists) k

-- on, where there is no command
abbrev pub free : Option Command → Named → Named
free o k = cond (is_some o) (Err Exists) k

-- The name stands for the command from now on, where it stood for one or at the end.
abbrev pub named : Own → Text → Command → Named
named own n c = by_name n (keeps_child (command_in own n) (Ok (with_command n c own)))

-- An alias is taken away.
abbrev pub cleared : Own → Text → Named
cleared own n = cond (is_alias (command_in own n)) (Ok (without_command n own)) (Err NoCommand)

-- A command that isn't a child gets another name, which no command has, and stands last.
abbrev pub with_other_name : Own → Text → Text → Option Command → Named
with_other_name own n m None = Err NoCommand
with_other_name own n m (Some c) = keeps_child (Some c) (by_name m (free (command_in own m)
    (Ok (record own { commands = remove_entry (bytes_eq n) own.commands ++ (m, c) ∷ [] }))))

abbrev pub renamed : Own → Text → Text → Named
renamed own n m = with_other_name own n m (command_in own n)

-- A command that isn't a child is taken away.
abbrev pub without : Own → Text → Option Command → Named
without own n None = Err NoCommand
without own n (Some c) = keeps_child (Some c) (Ok (without_command n own))

abbrev pub removed : Own → Text → Named
removed own n = without own n (command_in own n)

-- A command that isn't a child becomes a hidden one, under a name that no hidden one has, and the
-- last of them.
abbrev pub hidden_so : Own → Text → Text → Option Command → Named
hidden_so own n h None = Err NoCommand
hidden_so own n h (Some c) = keeps_child (Some c) (by_name h (free (hidden_in own h)
    (Ok (record own {
      commands = remove_entry (bytes_eq n) own.commands;
      hidden = own.hidden ++ (h, c) ∷ [];
    }))))

abbrev pub hidden_under : Own → Text → Text → Named
hidden_under own n h = hidden_so own n h (command_in own n)

-- A hidden command becomes a command again, under a name that no command has, and the last of them.
abbrev pub exposed_so : Own → Text → Text → Option Command → Named
exposed_so own h n None = Err NoHidden
exposed_so own h n (Some c) = by_name n (free (command_in own n)
    (Ok (record own {
      commands = own.commands ++ (n, c) ∷ [];
      hidden = remove_entry (bytes_eq h) own.hidden;
    })))

abbrev pub exposed_under : Own → Text → Text → Named
exposed_under own h n = exposed_so own h n (hidden_in own h)

-- what is done to a name
abbrev pub named_so : Naming → Own → Named
named_so (Give n c) own = named own n c
named_so (Clear n) own = cleared own n.now
named_so (Rename n m) own = renamed own n.now m
named_so (Remove n) own = removed own n.now
named_so (Hide n h) own = hidden_under own n.now h
named_so (Expose h n) own = exposed_under own h.now n

-- ## One interpreter

-- its own part becomes what is made of it, and nothing else of it changes
pub record Follows (f : Own → Named) (old new : State) : Type 0 where
  pub own : (names : List Text) → f (own_view old names) ≡ Ok (own_view new names)
  pub rest : (names : List Text) →
      state_view new names ≡ record (state_view old names) { own = own_view new names }

-- it stays as it is, for want of memory or since that is refused
pub record Stays (f : Own → Named) (e : TreeError) (old new : State) : Type 0 where
  pub why : (e ≡ Memory) ⊎ ((names : List Text) → f (own_view old names) ≡ Err e)
  pub same : (names : List Text) → state_view new names ≡ state_view old names

-- it stays as it is since that is refused
pub record StaysRefused (f : Own → Named) (e : TreeError) (old new : State) : Type 0 where
  pub why : (names : List Text) → f (own_view old names) ≡ Err e
  pub same : (names : List Text) → state_view new names ≡ state_view old names

-- what is done to a name where that may grow a map: only then is there want of memory
abbrev pub Grows : Naming → TreeError → Type 0
Grows (Clear n) e = Prim.⊥
Grows (Remove n) e = Prim.⊥
Grows _ e = e ≡ Memory

pub record StaysSo (naming : Naming) (e : TreeError) (old new : State) : Type 0 where
  pub why : Grows naming e ⊎ ((names : List Text) → named_so naming (own_view old names) ≡ Err e)
  pub same : (names : List Text) → state_view new names ≡ state_view old names
