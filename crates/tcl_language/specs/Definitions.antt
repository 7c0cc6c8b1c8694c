-- The commands that make and change commands.
use Rattle.std.specs.Prelude.{Bool, false, List, [], ◌∷◌, ◌++◌, Option, Some, None, codes, ◌||◌}
use Rattle.std.specs.Str.{bytes_eq}
use Rattle.tcl_core.specs.Paths.{Text}
use Rattle.tcl_core.specs.Endings.{ok}
use Rattle.tcl_core.specs.Programs.Prog.{done}
use Rattle.tcl_frames.specs.Names.{is_plain}
use Rattle.tcl_text.specs.Lists.{list_of}
use Rattle.tcl_text.specs.Writing.{written_list, fault_message}
use Rattle.tcl_tree.specs.Changes.{is_child}
use Rattle.tcl_language.specs.Naming.{command_name, definable, named, renamed, removed}
use Rattle.tcl_tree.specs.Own.{Own, command_in}
use Rattle.tcl_interpreter.specs.declared.command.Command.TheVariants as command
use Rattle.tcl_interpreter.specs.declared.parameter.Parameter.{Parameter}
use Rattle.tcl_language.specs.Instructions.{Program, either, fails, or_fails, look}
use Rattle.tcl_language.specs.Faults.{wrong_args, bad_name}
use Rattle.tcl_language.specs.Interpreters.{refused_text, renaming, done_so, delete}

-- whether a parameter has the name
abbrev pub has_name : Text → List Parameter → Bool
has_name name [] = false
has_name name (p ∷ ps) = bytes_eq name p.name || has_name name ps

-- a name that a parameter may have: no element's, with no two colons in it, and no other
-- parameter's
abbrev pub with_parameter : Text → Option Text → List Parameter → (List Parameter → Program) →
    Program
with_parameter name default before k = either (is_plain name)
    (either (has_name name before) (fails (bad_name name))
    (k (before ++ record { name = name; default = default } ∷ []))) (fails (bad_name name))

-- a parameter is a name, or a name and a default
abbrev pub parameter : Text → List Text → List Parameter → (List Parameter → Program) → Program
parameter text (name ∷ []) before k = with_parameter name None before k
parameter text (name ∷ default ∷ []) before k = with_parameter name (Some default) before k
parameter text _ before k = fails (bad_name text)

-- the parameters are read from the left
abbrev pub parameters : List Text → List Parameter → (List Parameter → Program) → Program
parameters [] before k = k before
parameters (text ∷ texts) before k = or_fails fault_message (list_of text)
    (λ words. parameter text words before (λ more. parameters texts more k))

-- `proc name args body`: the name is looked at before the parameters
abbrev pub proc : List Text → Program
proc (name ∷ args ∷ body ∷ []) = look (λ n. or_fails refused_text (definable n.own name) (λ plain.
    or_fails fault_message (list_of args) (λ texts.
    parameters texts [] (λ ps.
    renaming done_so (λ own. named own name
    (command.Procedure (record { parameters = ps; body = body })))))))
proc _ = fails (wrong_args (codes "proc name args body"))

abbrev pub child_named : Own → Option Text → Bool
child_named own None = false
child_named own (Some plain) = is_child (command_in own plain)

abbrev pub deletes_child : Option Text → Program
deletes_child None = done (ok [])
deletes_child (Some plain) = delete (written_list (plain ∷ []) ∷ [])

-- a command is taken away; where it is a child's, the child is deleted
abbrev pub takes_away : Text → Program
takes_away name = look (λ n. either (child_named n.own (command_name name))
    (deletes_child (command_name name)) (renaming done_so (λ own. removed own name)))

-- `rename oldName newName`
abbrev pub rename : List Text → Program
rename (old ∷ [] ∷ []) = takes_away old
rename (old ∷ (c ∷ cs) ∷ []) = renaming done_so (λ own. renamed own old (c ∷ cs))
rename _ = fails (wrong_args (codes "rename oldName newName"))
