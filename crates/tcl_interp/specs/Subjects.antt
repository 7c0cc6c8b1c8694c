-- The interpreter that a subcommand is about, and its path.
use Rattle.std.specs.Prelude.{List, [], ◌∷◌}
use Rattle.tcl_core.specs.Entries.{Entry}
use Rattle.tcl_core.specs.Paths.{Text, Path}
use Rattle.tcl_core.specs.Programs.Prog.{done}
use Rattle.tcl_language.specs.Instructions.{Program}
use Rattle.tcl_language.specs.Interpreters.{at_path, asks_at, child_form, child_path}
use Rattle.tcl_interp.specs.declared.subject.Subject.{Subject}
use Rattle.tcl_interp.specs.declared.subject.Subject.TheVariants as subject

-- the interpreter that asks, the one at the path that a text is, or the child of a name
pub data About : Type 0 where
  on_itself : About
  on_path : Text → About
  on_child : Text → About

abbrev pub about : Subject → About
about subject.Itself = on_itself
about (subject.Path word) = on_path word.now
about (subject.Child name) = on_child name.now

-- The words of `interp` behind a subcommand begin with a path.
abbrev pub split_path : List Text → About × List Text
split_path [] = (on_itself, [])
split_path (text ∷ args) = (on_path text, args)

-- its path as a text
abbrev pub path_text : About → Text
path_text on_itself = []
path_text (on_path text) = text
path_text (on_child name) = child_path name

-- On with its path. Of a child that is its name, whoever stands there.
abbrev pub reached : About → (Path → Program) → Program
reached on_itself k = at_path [] (λ path n. k path)
reached (on_path text) k = at_path text (λ path n. k path)
reached (on_child name) k = k (name ∷ [])

-- what is asked of it
abbrev pub asks_of : About → Entry → Program
asks_of about entry = reached about (λ path. asks_at path entry done)

-- the form of a subcommand: the first, as `interp` has it, or the other, behind a child's name
abbrev pub form_of : About → Text → Text → Text
form_of on_itself form own = form
form_of (on_path text) form own = form
form_of (on_child name) form own = child_form name own
